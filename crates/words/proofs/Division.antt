-- Division in a circuit, at every width from 1 to 64: the request's sentences about udiv, urem, sdiv, srem and smod. `signed_value w a` is a word's value as a whole number, and the
-- second width and the third operand are of no matter. Assumes nothing.
use mathlib.Core.Path.{◌≡◌, refl, sym, ap, ap₂, ◌∙◌, subst}
use mathlib.Core.Logic.{◌⊎◌}
use mathlib.Core.Bool.{true, false}
use Prim.Native.Nat.{ℕ, zero, suc, ◌+◌, ◌-◌, ◌*◌, ◌/◌, ◌%◌, ◌^◌, ◌≤◌, ◌<◌, zero-le}
use native.Mathlib.Nat.{lt_of_le_of_lt, div-add-mod', mod-lt, mod-zero, mod-eq_of_lt}
use native.Mathlib.Omega.{arith}
use borrow.Author.Tests.{le-leb}
use lib.Pow.{pow_pos}
use lib.IntN.{ℤ, pos, negsuc, nat_abs, ◌+ℤ◌, ◌*ℤ◌}
use lib.Signed.{non_neg, le_z, quot_z, rem_z, mag_rem}
use Rattle.words.specs.Word.{Width, flip, signed_value, twos_complement, smod_z, toward_divisor}
use Rattle.words.specs.Op.{udiv, urem, sdiv, srem, smod}
use Rattle.words.specs.Circuit.{circ}
use Rattle.words.proofs.Signed.{half, signed_low, signed_high, signed_range}
use Rattle.words.proofs.Divide.{complement_signed, complement_zero, complement_minus_one, div_by_zero, div_by_minus_one, div_else, rem_by_zero, rem_by_minus_one, toward_zero, complement_neg}
use Rattle.words.proofs.Integers.{quot_rem, quot_abs, rem_less, rem_sign, Toward, toward, mag_below, quot_range, signed_complement}

-- ---- unsigned: n = q d + r with r < d

pub udiv_urem : (w v a b c : ℕ) → 0 < b → (circ udiv w v a b c * b + circ urem w v a b c ≡ a) × (circ urem w v a b c < b)
udiv_urem w v a zero c h = absurd (omega arith)
udiv_urem w v a (suc b) c h = (div-add-mod' a (suc b), mod-lt a h)

-- "udiv by 0 gives 2^w - 1 and urem by 0 the dividend"
pub udiv_by_zero : (w v a c : ℕ) → circ udiv w v a 0 c ≡ 2 ^ w - 1
udiv_by_zero w v a c = refl

pub urem_by_zero : (w v a c : ℕ) → circ urem w v a 0 c ≡ a
urem_by_zero w v a c = mod-zero a

-- ---- signed

module _ (w v c : ℕ) (k : Width w) where
  zero_signed : signed_value w 0 ≡ pos 0
  zero_signed = signed_low w 0 (pow_pos (w - 1))

  -- only the word 0 has the value 0, and only 2 ^ w - 1 the value -1
  pub not_zero : {b : ℕ} → b < 2 ^ w → (b ≡ 0 → ⊥) → signed_value w b ≡ pos 0 → ⊥
  not_zero {b} h f e = f (sym (complement_signed w b k h) ∙ ap (twos_complement w) e ∙ complement_zero w)

  pub is_minus_one : {b : ℕ} → b < 2 ^ w → signed_value w b ≡ negsuc 0 → b ≡ 2 ^ w - 1
  is_minus_one {b} h e = sym (complement_signed w b k h) ∙ ap (twos_complement w) e ∙ complement_minus_one w

  -- and only 2 ^ (w - 1) the least one
  pub is_least : {a : ℕ} → a < 2 ^ w → signed_value w a ≡ negsuc (2 ^ (w - 1) - 1) → a ≡ 2 ^ (w - 1)
  is_least {a} h e =
      sym (complement_signed w a k h) ∙ ap (twos_complement w) e ∙ ap (flip w) (mod-eq_of_lt (omega (arith, half w k.least, pow_pos (w - 1))))
      ∙ omega (arith, half w k.least, pow_pos (w - 1))

  module _ (a b : ℕ) (ha : a < 2 ^ w) (hb : b < 2 ^ w) where
    abbrev n : ℤ
    n = signed_value w a

    abbrev d : ℤ
    d = signed_value w b

    rem_is : signed_value w (circ srem w v a b c) ≡ rem_z n d
    rem_is = signed_complement w (rem_z n d) k (lt_of_le_of_lt (mag_rem n d) (signed_range w a k ha))

    quot_is : (b ≡ 0 → ⊥) → (a ≡ 2 ^ (w - 1) → b ≡ 2 ^ w - 1 → ⊥) → signed_value w (circ sdiv w v a b c) ≡ quot_z n d
    quot_is f g =
        ap (λ (z : ℤ). signed_value w (twos_complement w z)) (div_else n d (not_zero hb f))
        ∙ signed_complement w (quot_z n d) k (quot_range n d (2 ^ (w - 1)) (signed_range w a k ha) (λ e₁ e₂. g (is_least ha e₁) (is_minus_one hb e₂)))

    -- n = q d + r, but for the least value by -1
    pub sdiv_srem : (b ≡ 0 → ⊥) → (a ≡ 2 ^ (w - 1) → b ≡ 2 ^ w - 1 → ⊥)
        → signed_value w (circ sdiv w v a b c) *ℤ signed_value w b +ℤ signed_value w (circ srem w v a b c) ≡ signed_value w a
    sdiv_srem f g = ap₂ (λ (q r : ℤ). q *ℤ d +ℤ r) (quot_is f g) rem_is ∙ quot_rem n d

    -- "sdiv truncates": |q| is |n| / |d|, rounded down
    pub sdiv_truncates : (b ≡ 0 → ⊥) → (a ≡ 2 ^ (w - 1) → b ≡ 2 ^ w - 1 → ⊥) → nat_abs (signed_value w (circ sdiv w v a b c)) ≡ nat_abs (signed_value w a) / nat_abs (signed_value w b)
    sdiv_truncates f g = ap nat_abs (quot_is f g) ∙ quot_abs n d

    -- |r| < |d|
    pub srem_less : (b ≡ 0 → ⊥) → nat_abs (signed_value w (circ srem w v a b c)) < nat_abs (signed_value w b)
    srem_less f = subst (λ (r : ℤ). nat_abs r < nat_abs d) (sym rem_is) (rem_less n d (not_zero hb f))

    -- "srem takes the dividend's sign"
    pub srem_sign : (signed_value w (circ srem w v a b c) ≡ pos 0) ⊎ (non_neg (signed_value w (circ srem w v a b c)) ≡ non_neg (signed_value w a))
    srem_sign = subst (λ (r : ℤ). (r ≡ pos 0) ⊎ (non_neg r ≡ non_neg n)) (sym rem_is) (rem_sign n d)

    -- "smod the divisor's": it is srem, or srem with the divisor added, and less than the divisor
    pub smod_toward : (b ≡ 0 → ⊥) → Toward (signed_value w (circ srem w v a b c)) (signed_value w b) (signed_value w (circ smod w v a b c))
    smod_toward f =
        let t = toward (rem_z n d) d (rem_less n d (not_zero hb f)) in
        let m = signed_complement w (smod_z n d) k (mag_below (smod_z n d) d (2 ^ (w - 1)) t.less (signed_range w b k hb)) in
        subst (λ (r : ℤ). Toward r d (signed_value w (circ smod w v a b c))) (sym rem_is) (subst (λ (x : ℤ). Toward (rem_z n d) d x) (sym m) t)

  -- "by 0 it gives -1 for a dividend of 0 or more, else 1": -1 is the word 2 ^ w - 1
  pub sdiv_by_zero : (a : ℕ) → (a < 2 ^ (w - 1) → circ sdiv w v a 0 c ≡ 2 ^ w - 1) × (2 ^ (w - 1) ≤ a → circ sdiv w v a 0 c ≡ 1)
  sdiv_by_zero a = (
    λ h. div_by_zero w (signed_value w a) (signed_value w 0) true k zero_signed (ap (le_z (pos 0)) (signed_low w a h) ∙ le-leb 0 a zero-le),
    λ h. div_by_zero w (signed_value w a) (signed_value w 0) false k zero_signed (ap (le_z (pos 0)) (signed_high w a h)),
  )

  -- "by 0 both give the dividend"
  pub srem_by_zero : (a : ℕ) → a < 2 ^ w → circ srem w v a 0 c ≡ a
  srem_by_zero a h = ap (twos_complement w) (rem_by_zero (signed_value w a) (signed_value w 0) zero_signed) ∙ complement_signed w a k h

  pub smod_by_zero : (a : ℕ) → a < 2 ^ w → circ smod w v a 0 c ≡ a
  smod_by_zero a h =
      ap (λ (z : ℤ). twos_complement w (toward_divisor (rem_z (signed_value w a) (signed_value w 0)) z)) zero_signed
      ∙ ap (twos_complement w) (toward_zero (rem_z (signed_value w a) (signed_value w 0))) ∙ srem_by_zero a h

  -- ---- the least value by -1: there is no 2 ^ (w - 1) among the signed values, and arithmetic is modulo 2 ^ w

  pub minus_one : signed_value w (2 ^ w - 1) ≡ negsuc 0
  minus_one = signed_high w (2 ^ w - 1) (omega (arith, half w k.least, pow_pos (w - 1))) ∙ ap negsuc (omega (arith, pow_pos w))

  pub sdiv_least : circ sdiv w v (2 ^ (w - 1)) (2 ^ w - 1) c ≡ 2 ^ (w - 1)
  sdiv_least =
      ap (twos_complement w) (div_by_minus_one (signed_value w (2 ^ (w - 1))) (signed_value w (2 ^ w - 1)) minus_one)
      ∙ complement_neg w (2 ^ (w - 1)) k (omega (arith, half w k.least, pow_pos (w - 1)))
      ∙ ap (λ (x : ℕ). x % 2 ^ w) (omega (arith, half w k.least)) ∙ mod-eq_of_lt (omega (arith, half w k.least, pow_pos (w - 1)))

  pub srem_minus_one : (a : ℕ) → circ srem w v a (2 ^ w - 1) c ≡ 0
  srem_minus_one a = ap (twos_complement w) (rem_by_minus_one (signed_value w a) (signed_value w (2 ^ w - 1)) minus_one) ∙ complement_zero w

  pub smod_minus_one : (a : ℕ) → circ smod w v a (2 ^ w - 1) c ≡ 0
  smod_minus_one a =
      ap (λ (z : ℤ). twos_complement w (toward_divisor z (signed_value w (2 ^ w - 1)))) (rem_by_minus_one (signed_value w a) (signed_value w (2 ^ w - 1)) minus_one) ∙ complement_zero w
