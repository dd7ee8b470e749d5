-- The bytes passed are digits, and have the value so far.
use Prim.Native.Nat.{◌^◌, ◌<◌}
use mathlib.Core.Path.{◌≡◌}
use lib.ListN.{drop}
use Rattle.texts.specs.Decimal.{all_in, value_from}
use Rattle.tokens.proofs.numbers.tens.Given as goal

abbrev pub invariant-loop-b : goal.invariant-loop-b
invariant-loop-b l = (l.v < 2 ^ 64) × (all_in 10 l.t ≡ all_in 10 (drop l.b-index l.t)) × (value_from 10 0 l.t ≡ value_from 10 l.v (drop l.b-index l.t))
