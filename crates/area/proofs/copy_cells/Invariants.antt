-- The first 4 * q words are copied.
use mathlib.Core.Path.{◌≡◌}
use Prim.Native.Nat.{◌*◌}
use lib.ListN.{length}
use Rattle.circuits.specs.Cells.{part, put}
use Rattle.area.proofs.copy_cells.Given as goal

abbrev pub invariant-loop-q : goal.invariant-loop-q
invariant-loop-q l = (length l.work ≡ length l.initial.work) × (l.work ≡ put l.initial.work l.o (part l.initial.work l.x (4 * l.q)))
