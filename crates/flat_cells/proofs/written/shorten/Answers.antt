-- The word still tells what it told; then cells are written out.
use Prim.Native.Nat.{ℕ, ◌%◌, ◌/◌, ◌+◌}
use mathlib.Core.Path.{ap, subst⁻¹}
use mathlib.Core.List.{List}
use Rattle.flattening.specs.Model.Cells.{Shortened}
use Rattle.flattening.proofs.Written.{short_word, short_trans}
use Rattle.flat_cells.proofs.written.shorten.Goals as goal

pub returns-then-d-lt-LONG : goal.returns-then-d-lt-LONG
returns-then-d-lt-LONG c =
    let a = c.args in
    subst⁻¹ (λ (K : List (List ℕ)). Shortened a.kept.now K a.u) c.put_word.ensures
    (short_word c.requires.0 c.requires.1.0 a.n c.requires.1.1 (c.entry-2.result / 131072 + 1) (c.entry-w.result % 131072) (ap (λ (x : ℕ). x % 131072) c.entry-w.ensures))

pub returns : goal.returns
returns c =
    let a = c.args in
    short_trans
    (subst⁻¹ (λ (K : List (List ℕ)). Shortened a.kept.now K a.u) c.put_word-2.ensures
    (short_word c.requires.0 c.requires.1.0 a.n c.requires.1.1 256 (c.entry-w.result % 131072) (ap (λ (x : ℕ). x % 131072) c.entry-w.ensures)))
    c.write_out.ensures
