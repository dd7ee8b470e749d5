-- The cells from the first of the rest up to i are copied.
use mathlib.Core.Path.{◌≡◌}
use Prim.Native.Nat.{◌+◌, ◌-◌}
use lib.ListN.{length}
use Rattle.circuits.specs.Cells.{part, put}
use Rattle.area.proofs.copy_rest.Given as goal

abbrev pub invariant-loop-i : goal.invariant-loop-i
invariant-loop-i l = (length l.work ≡ length l.initial.work) × (l.work ≡ put l.initial.work (l.o + l.from) (part l.initial.work (l.x + l.from) (l.i - l.from)))
