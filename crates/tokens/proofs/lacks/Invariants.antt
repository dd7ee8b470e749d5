-- As long as no byte was b, those passed are others.
use Prim.Native.Nat.{◌+◌}
use mathlib.Core.Path.{◌≡◌}
use mathlib.Core.Bool.{true}
use lib.ListN.{length, drop}
use Rattle.texts.specs.Split.{up_to}
use Rattle.tokens.proofs.lacks.Given as goal

abbrev pub invariant-loop-x : goal.invariant-loop-x
invariant-loop-x l = l.none ≡ true → length (up_to l.b (drop l.i l.s)) ≡ l.x-index + length (up_to l.b (drop (l.i + l.x-index) l.s))
