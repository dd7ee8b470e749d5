-- The first two tests, then each of the others.
use Prim.Native.Nat.{◌+◌, ◌-◌, ◌≤◌}
use mathlib.Core.Path.{sym, ap, ◌∙◌}
use mathlib.Core.List.{[], ◌∷◌}
use native.Mathlib.Omega.{arith}
use Rattle.tables.specs.Lines.{fields}
use Rattle.flattening.specs.Placed.{put_flat}
use Rattle.flattening.specs.Model.Rows.{rows_for, row_at, stepping, still}
use Rattle.flattening.proofs.Laying.{join_none, join_some}
use Rattle.flattening.proofs.Placing.{flat_none, flat_append}
use Rattle.flat_chains.proofs.join_lines.Goals as goal

pub returns-then-n-lt2 : goal.returns-then-n-lt2
returns-then-n-lt2 c = let a = c.args in let H = a.kept.now in flat_none a.target.now (a.p + a.n) ∙ ap (put_flat a.target.now (a.p + a.n)) (sym (join_none H a.p a.j a.s a.n c.if-n-lt2.true))

pub returns : goal.returns
returns c = let a = c.args in let H = a.kept.now in let two : 2 ≤ a.n = c.if-n-lt2.false in let r = fields a.j a.s (a.p + 1) (a.p + 2) 0 in let W = rows_for (a.n - 2) (row_at H a.j a.s (stepping (a.p + a.n + 1) 1) (stepping (a.p + 3) 1) (still 0)) in c.rows.ensures ∙ (λ i. put_flat (c.put.ensures i) (a.p + a.n + 1) (rows_for (a.n - 2) (row_at H a.j a.s (c.run.ensures i) (c.run-2.ensures i) (c.run-3.ensures i)))) ∙ (λ i. put_flat (put_flat a.target.now (a.p + a.n) (c.of.ensures i ∷ [])) (a.p + a.n + 1) W) ∙ flat_append a.target.now (a.p + a.n) (r ∷ []) (a.p + a.n + 1) W (omega arith) ∙ ap (put_flat a.target.now (a.p + a.n)) (sym (join_some H a.p a.j a.s a.n two))
