-- The pair for the last cell but one, then the others, falling.
use Prim.Native.Nat.{ℕ, ◌+◌, ◌-◌, ◌≤◌}
use mathlib.Core.Path.{ap, ◌∙◌, subst⁻¹}
use mathlib.Core.List.{List}
use native.Mathlib.Omega.{arith}
use Rattle.flattening.specs.Placed.{put_flat}
use Rattle.flattening.specs.Model.Cells.{cell_in}
use Rattle.flattening.specs.Model.Rows.{Tame, rows_for, pair_at, stepping, still, run_down, of_down}
use Rattle.flattening.proofs.Holding.{cell_bound, tame_run, tame_run_down, tame_of_down}
use Rattle.flattening.proofs.Placing.{flat_append, length_pairs}
use Rattle.flat_chains.proofs.read_lines.Goals as goal

pub pairs-requires : goal.pairs-requires
pairs-requires c = let a = c.args in let H = a.kept.now in let b = subst⁻¹ (λ (x : ℕ). x ≤ 131072) c.cell-last.ensures (cell_bound H c.requires.0 a.a (a.n - 1) (omega (arith, c.requires.1.0, c.requires.1.1.0))) in (c.requires.0, (subst⁻¹ Tame c.run_down.ensures (tame_run_down (a.o + 1) (a.n - 2) (omega (arith, c.requires.1.1.1.1.0)) (omega (arith, c.requires.1.1.0, c.requires.1.0))), (subst⁻¹ Tame c.of_down.ensures (tame_of_down a.a (a.n - 2) (omega (arith, c.requires.1.1.0, c.requires.1.0))), (subst⁻¹ Tame c.run.ensures (tame_run c.cell-last.result 0 (omega (arith, b)) (omega arith)), (omega arith, (omega (arith, c.requires.1.1.1.0), omega (arith, c.requires.1.1.1.1.1, c.requires.1.0)))))))

pub returns : goal.returns
returns c = let a = c.args in let H = a.kept.now in let U = rows_for 1 (pair_at H a.p a.o a.i a.s (run_down (a.o + 1) (a.n - 2)) (of_down a.a (a.n - 2)) (still (cell_in H a.a (a.n - 1)))) in let Z = rows_for (a.n - 2) (pair_at H (a.p + 2) a.o a.i a.s (run_down (a.o + 1) (a.n - 3)) (of_down a.a (a.n - 3)) (stepping (a.p + 2) 2)) in c.pairs-2.ensures ∙ (λ i. put_flat (c.pairs.ensures i) (a.p + 2) (rows_for (a.n - 2) (pair_at H (a.p + 2) a.o a.i a.s ((c.run_down-2.ensures ∙ ap (λ (t : ℕ). run_down (a.o + 1) t) c.saturating_sub-t.ensures) i) ((c.of_down-2.ensures ∙ ap (λ (t : ℕ). of_down a.a t) c.saturating_sub-t.ensures) i) (c.run-2.ensures i)))) ∙ ap (λ (t : List ℕ). put_flat t (a.p + 2) Z) (λ i. put_flat a.target.now a.p (rows_for 1 (pair_at H a.p a.o a.i a.s (c.run_down.ensures i) (c.of_down.ensures i) ((c.run.ensures ∙ ap still c.cell-last.ensures) i)))) ∙ flat_append a.target.now a.p U (a.p + 2) Z (omega (arith, length_pairs H a.p a.o a.i a.s (run_down (a.o + 1) (a.n - 2)) (of_down a.a (a.n - 2)) (still (cell_in H a.a (a.n - 1))) 1))
