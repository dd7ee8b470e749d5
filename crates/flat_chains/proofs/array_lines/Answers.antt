-- A record and a row.
use Prim.Native.Nat.{◌+◌}
use mathlib.Core.Path.{◌∙◌}
use mathlib.Core.List.{[], ◌∷◌}
use native.Mathlib.Omega.{arith}
use Rattle.tables.specs.Lines.{fields}
use Rattle.flattening.specs.Placed.{put_flat}
use Rattle.flattening.specs.Model.Rows.{rows_for, row_at, stepping, still}
use Rattle.flattening.proofs.Placing.{flat_append}
use Rattle.flat_chains.proofs.array_lines.Goals as goal

pub returns : goal.returns
returns c = let a = c.args in let H = a.kept.now in let W = rows_for a.n (row_at H 3 a.s (stepping 0 1) (still 0) (still 0)) in c.rows.ensures ∙ (λ i. put_flat (c.put.ensures i) (a.p + 1) (rows_for a.n (row_at H 3 a.s (c.run.ensures i) (c.run-z.ensures i) (c.run-z.ensures i)))) ∙ (λ i. put_flat (put_flat a.target.now a.p (c.of.ensures i ∷ [])) (a.p + 1) W) ∙ flat_append a.target.now a.p (fields 1 0 1 0 0 ∷ []) (a.p + 1) W (omega arith)
