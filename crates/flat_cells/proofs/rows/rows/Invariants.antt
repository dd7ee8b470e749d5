-- The records passed are those of the row.
use mathlib.Core.Path.{◌≡◌}
use Rattle.flattening.specs.Placed.{put_flat}
use Rattle.flattening.specs.Model.Rows.{rows_for, row_at}
use Rattle.flat_cells.proofs.rows.rows.Given as goal

abbrev pub invariant-loop-j : goal.invariant-loop-j
invariant-loop-j l = l.target ≡ put_flat l.initial.target l.p (rows_for l.j (row_at l.kept l.k l.s l.x l.y l.z))
