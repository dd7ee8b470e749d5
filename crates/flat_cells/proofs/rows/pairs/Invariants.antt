-- The records passed are those of the pairs.
use mathlib.Core.Path.{◌≡◌}
use Rattle.flattening.specs.Placed.{put_flat}
use Rattle.flattening.specs.Model.Rows.{rows_for, pair_at}
use Rattle.flat_cells.proofs.rows.pairs.Given as goal

abbrev pub invariant-loop-j : goal.invariant-loop-j
invariant-loop-j l = l.target ≡ put_flat l.initial.target l.p (rows_for l.j (pair_at l.kept l.p l.o l.i l.s l.c l.x l.y))
