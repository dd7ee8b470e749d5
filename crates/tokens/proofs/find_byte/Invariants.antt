-- The bytes passed are others.
use Prim.Native.Nat.{◌+◌}
use mathlib.Core.Path.{◌≡◌}
use lib.ListN.{length, drop}
use Rattle.texts.specs.Split.{up_to}
use Rattle.tokens.proofs.find_byte.Given as goal

abbrev pub invariant-loop-j : goal.invariant-loop-j
invariant-loop-j l = l.i + length (up_to l.b (drop l.i l.s)) ≡ l.j + length (up_to l.b (drop l.j l.s))
