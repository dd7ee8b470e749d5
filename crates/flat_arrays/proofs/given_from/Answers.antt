-- A word's flat line is a small number.
use Prim.Native.Nat.{ℕ, ◌≤◌}
use mathlib.Core.Path.{subst⁻¹}
use native.Mathlib.Omega.{arith}
use Rattle.flattening.specs.Model.Rows.{Tame}
use Rattle.flattening.proofs.Holding.{cell_bound, tame_run}
use Rattle.flat_arrays.proofs.given_from.Goals as goal

pub returns-then-m-clause-tame : goal.returns-then-m-clause-tame
returns-then-m-clause-tame c =
    let b = subst⁻¹ (λ (x : ℕ). x ≤ 131072) c.word_line.ensures (cell_bound c.args.lines.kept.now c.requires c.args.v 0 (omega arith)) in
    subst⁻¹ Tame c.run.ensures (tame_run c.word_line.result 0 (omega (arith, b)) (omega arith))
