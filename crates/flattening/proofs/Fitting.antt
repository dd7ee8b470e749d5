-- The result of an operator whose line keeps the rules is a word of its line's width. Assumes nothing.
use Prim.Native.Nat.{ℕ, ◌^◌, ◌<◌}
use mathlib.Core.Path.{sym, subst}
use mathlib.Core.Bool.{false}
use lib.Pow.{pow_pos}
use Rattle.words.specs.Word.{Width}
use Rattle.words.specs.Op.{op_of}
use Rattle.words.specs.Circuit.{circ}
use Rattle.words.proofs.Bounds.{circ_lt}
use Rattle.tables.specs.declared.Ty.{Ty}
use Rattle.tables.proofs.Facts.{OkUnary, OkBinary}
use Rattle.circuits.proofs.Fitting.{fit_unary, fit_binary, plain_one}

-- of two words
pub two_lt : {t a b : Ty} (k x y : ℕ) → OkBinary t k a b → Width t.w → Width a.w → x < 2 ^ a.w → y < 2 ^ b.w → circ (op_of k) a.w b.w x y 0 < 2 ^ t.w
two_lt {t} {a} {b} k x y o wt wa hx hy =
    let s = fit_binary t a b k y 0 wt.most o in
    subst (λ (n : ℕ). circ (op_of k) a.w b.w x y 0 < 2 ^ n) (sym s.width) (circ_lt a.w b.w x y 0 wa hx hy (pow_pos b.w) (op_of k) s.widths)

-- of one
pub one_lt : {t a : Ty} (k x y : ℕ) → OkUnary false t k a x y → Width t.w → Width a.w → (v : ℕ) → v < 2 ^ a.w → circ (op_of k) a.w 64 v x y < 2 ^ t.w
one_lt {t} {a} k x y o wt wa v h =
    let s = fit_unary false t a k x y wt.most o in
    let n = plain_one false t a k x y wt.most wa.most o in
    subst (λ (m : ℕ). circ (op_of k) a.w 64 v x y < 2 ^ m) (sym s.width) (circ_lt a.w 64 v x y wa h n.0 n.1 (op_of k) s.widths)
