-- The words first, and then the line.
use Prim.Native.Nat.{ℕ, ◌+◌}
use mathlib.Core.Path.{◌∙◌, subst⁻¹}
use mathlib.Core.List.{List}
use native.Mathlib.Omega.{arith}
use Rattle.flattening.specs.Model.Cells.{Shortened}
use Rattle.flattening.proofs.Written.{short_filled}
use Rattle.flat_cells.proofs.written.write_out.Goals as goal

pub returns : goal.returns
returns c =
    let a = c.args in
    let w = c.requires.1.within in
    subst⁻¹ (λ (K : List (List ℕ)). Shortened a.kept.now K (a.u + 256)) c.put_row.ensures
    (short_filled c.requires.0 c.requires.1 (λ z. c.if-entry-eq0.false (c.entry.ensures ∙ z)) (omega (arith, w, c.if-kept-u-lt-CELLS.false)) c.fill.ensures)
