-- The digits passed have the value so far.
use Prim.Native.Nat.{◌^◌, ◌<◌}
use mathlib.Core.Path.{◌≡◌}
use lib.ListN.{drop}
use Rattle.texts.specs.Decimal.{value_from}
use Rattle.tokens.proofs.numbers.value.Given as goal

abbrev pub invariant-loop-b : goal.invariant-loop-b
invariant-loop-b l = (l.v < 2 ^ 64) × (value_from l.base 0 l.t ≡ value_from l.base l.v (drop l.b-index l.t))
