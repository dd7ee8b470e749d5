-- A test for each cell, then their joins.
use Prim.Native.Nat.{ℕ, ◌+◌}
use mathlib.Core.Path.{ap, ◌∙◌}
use mathlib.Core.List.{List}
use native.Mathlib.Omega.{arith}
use Rattle.flattening.specs.Placed.{put_flat}
use Rattle.flattening.specs.Model.Rows.{rows_for, row_at, still, of, join_records}
use Rattle.flattening.proofs.Placing.{flat_append, length_row}
use Rattle.flat_chains.proofs.equality_lines.Goals as goal

pub returns : goal.returns
returns c = let a = c.args in let H = a.kept.now in let U = rows_for a.n (row_at H a.k a.s (of a.x) (of a.y) (still 0)) in let J = join_records H a.p a.j a.s a.n in c.join_lines.ensures ∙ ap (λ (t : List ℕ). put_flat t (a.p + a.n) J) (c.rows.ensures ∙ (λ i. put_flat a.target.now a.p (rows_for a.n (row_at H a.k a.s (c.of.ensures i) (c.of-2.ensures i) (c.run.ensures i))))) ∙ flat_append a.target.now a.p U (a.p + a.n) J (omega (arith, length_row H a.k a.s (of a.x) (of a.y) (still 0) a.n))
