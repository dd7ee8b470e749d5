-- The measure of both is the line's number, which falls at each call.
use Prim.Native.Nat.{◌-◌}
use mathlib.Core.Path.{◌≡◌}
use mathlib.Core.Bool.{true, false}
use lib.ListN.{get_or}
use Rattle.tables.specs.Layout.{lines_of}
use Rattle.peeks.specs.Peek.{step_zero}
use Rattle.peeks.proofs.Compared.{Alike}
use Rattle.peek_cells.proofs.+cell_word.Given as goal

abbrev pub decreases-cell : goal.decreases-cell
decreases-cell l = l.n

abbrev pub decreases-word : goal.decreases-word
decreases-word l = l.n

abbrev pub invariant-word-loop-k : goal.invariant-word-loop-k
invariant-word-loop-k l = (l.same ≡ true) × Alike (step_zero (lines_of false l.circuit.table.now l.circuit.count) l.circuit.starts.now l.circuit.row.now) l.a (get_or l.rec 3 0) l.kept l.m l.k

abbrev pub decreases-word-loop-k : goal.decreases-word-loop-k
decreases-word-loop-k l = l.m - l.k
