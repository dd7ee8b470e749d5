-- The loop keeps the cell's flat line: from one line to the line it writes over.
use mathlib.Core.Path.{◌≡◌}
use Rattle.flattening.specs.Model.Cells.{cell_in}
use Rattle.flat_cells.proofs.cells.cell.Given as goal

abbrev pub invariant-loop-a : goal.invariant-loop-a
invariant-loop-a l = cell_in l.kept l.m l.j ≡ cell_in l.kept l.a l.j

abbrev pub decreases-loop-a : goal.decreases-loop-a
decreases-loop-a l = l.m
