-- Shifts and rotations in a circuit, at every width from 1 to 64: the request's sentences about them. The second width and the third operand are of no matter. Assumes nothing.
use mathlib.Core.Path.{◌≡◌, sym, ap, ap₂, ◌∙◌, subst}
use mathlib.Core.Bool.{Bool, true, false, cond}
use Prim.Native.Nat.{ℕ, ◌+◌, ◌-◌, ◌*◌, ◌/◌, ◌%◌, ◌^◌, ◌≤◌, ◌<◌, zero-le}
use native.Mathlib.Nat.{mod-lt, mod-eq_of_lt, le_of_lt, add-sub_of_le, sub-add_cancel, add_comm, lt_of_le_of_lt, lt_of_lt_of_le}
use native.Mathlib.Omega.{arith}
use borrow.Author.Tests.{lt-ltb, le-ltb, le-leb}
use lib.Pow.{pow_mono, split, high, low, shr_lt}
use lib.IntN.{pos, negsuc}
use lib.Signed.{mag, le_z, shr_z, mag_shr}
use Rattle.words.specs.Word.{Width, signed_value, twos_complement, shl, shr, sar, rotl, rotr}
use Rattle.words.specs.Op.{sll, srl, sra, rol, ror}
use Rattle.words.specs.Circuit.{circ}
use Rattle.words.proofs.Mod.{shl_mod}
use Rattle.words.proofs.Signed.{signed_low, signed_high, signed_range}
use Rattle.words.proofs.Divide.{complement_zero, complement_minus_one, shr_all}
use Rattle.words.proofs.Integers.{signed_complement}

-- ---- rotations by r, of a word of r high and w - r low bits, or of w - r and r

module _ (w a r : ℕ) (l : r ≤ w) (h : a < 2 ^ w) where
  left_is : (x : ℕ) → rotl w x r ≡ x % 2 ^ (w - r) * 2 ^ r + x / 2 ^ (w - r)
  left_is x = ap (λ (n : ℕ). n + x / 2 ^ (w - r)) (shl_mod w r x l)

  right_is : (x : ℕ) → rotr w x r ≡ x % 2 ^ r * 2 ^ (w - r) + x / 2 ^ r
  right_is x = add_comm (x / 2 ^ r) (x % 2 ^ r * 2 ^ (w - r))

  left_high : a / 2 ^ (w - r) < 2 ^ r
  left_high = shr_lt r (w - r) (subst (λ (n : ℕ). a < 2 ^ n) (sym (add-sub_of_le l)) h)

  right_high : a / 2 ^ r < 2 ^ (w - r)
  right_high = shr_lt (w - r) r (subst (λ (n : ℕ). a < 2 ^ n) (sym (sub-add_cancel l)) h)

  right_left : rotr w (rotl w a r) r ≡ a
  right_left =
      ap (λ (x : ℕ). rotr w x r) (left_is a) ∙ right_is (a % 2 ^ (w - r) * 2 ^ r + a / 2 ^ (w - r))
      ∙ ap₂ (λ (p q : ℕ). p * 2 ^ (w - r) + q) (low (a % 2 ^ (w - r)) r left_high) (high (a % 2 ^ (w - r)) r left_high) ∙ split a (w - r)

  left_right : rotl w (rotr w a r) r ≡ a
  left_right =
      ap (λ (x : ℕ). rotl w x r) (right_is a) ∙ left_is (a % 2 ^ r * 2 ^ (w - r) + a / 2 ^ r)
      ∙ ap₂ (λ (p q : ℕ). p * 2 ^ r + q) (low (a % 2 ^ r) (w - r) right_high) (high (a % 2 ^ r) (w - r) right_high) ∙ split a r

-- ---- the operators

module _ (w v c : ℕ) where
  -- "Shifts of w or more give 0"
  pub sll_past : (a b : ℕ) → w ≤ b → circ sll w v a b c ≡ 0
  sll_past a b h = ap (λ (t : Bool). shl t w a b) (le-ltb b w h)

  pub srl_past : (a b : ℕ) → w ≤ b → circ srl w v a b c ≡ 0
  srl_past a b h = ap (λ (t : Bool). shr t a b) (le-ltb b w h)

  -- of less they multiply modulo 2 ^ w, and divide
  pub sll_below : (a b : ℕ) → b < w → circ sll w v a b c ≡ a * 2 ^ b % 2 ^ w
  sll_below a b h = ap (λ (t : Bool). shl t w a b) (lt-ltb b w h)

  pub srl_below : (a b : ℕ) → b < w → circ srl w v a b c ≡ a / 2 ^ b
  srl_below a b h = ap (λ (t : Bool). shr t a b) (lt-ltb b w h)

  module _ (k : Width w) where
    all_digits : (a : ℕ) → a < 2 ^ w → mag (signed_value w a) < 2 ^ w
    all_digits a h = lt_of_lt_of_le (signed_range w a k h) (pow_mono (omega arith))

    -- "sra copies of the sign": 0 where the sign bit is clear, 2 ^ w - 1 where it is set
    pub sra_past : (a b : ℕ) → a < 2 ^ w → w ≤ b → (a < 2 ^ (w - 1) → circ sra w v a b c ≡ 0) × (2 ^ (w - 1) ≤ a → circ sra w v a b c ≡ 2 ^ w - 1)
    sra_past a b h l = (
      λ s. past true (ap (le_z (pos 0)) (signed_low w a s) ∙ le-leb 0 a zero-le) ∙ complement_zero w,
      λ s. past false (ap (le_z (pos 0)) (signed_high w a s)) ∙ complement_minus_one w,
    )
      where
        past : (t : Bool) → le_z (pos 0) (signed_value w a) ≡ t → circ sra w v a b c ≡ twos_complement w (cond t (pos 0) (negsuc 0))
        past t e = ap (λ (s : Bool). sar s w a b) (le-ltb b w l) ∙ ap (twos_complement w) (shr_all (signed_value w a) t (2 ^ w) (all_digits a h) e)

    -- of less it divides the signed value, rounded down
    pub sra_below : (a b : ℕ) → a < 2 ^ w → b < w → signed_value w (circ sra w v a b c) ≡ shr_z (signed_value w a) (2 ^ b)
    sra_below a b h l =
        ap (λ (t : Bool). signed_value w (sar t w a b)) (lt-ltb b w l)
        ∙ signed_complement w (shr_z (signed_value w a) (2 ^ b)) k (lt_of_le_of_lt (mag_shr (signed_value w a) (2 ^ b)) (signed_range w a k h))

    -- "Rotations count modulo w"
    amount_mod : (b : ℕ) → b % w % w ≡ b % w
    amount_mod b = mod-eq_of_lt (mod-lt b k.least)

    pub rol_mod : (a b : ℕ) → circ rol w v a b c ≡ circ rol w v a (b % w) c
    rol_mod a b = ap (rotl w a) (sym (amount_mod b))

    pub ror_mod : (a b : ℕ) → circ ror w v a b c ≡ circ ror w v a (b % w) c
    ror_mod a b = ap (rotr w a) (sym (amount_mod b))

    amount_le : (b : ℕ) → b % w ≤ w
    amount_le b = le_of_lt (mod-lt b k.least)

    -- one undoes the other
    pub rol_ror : (a b : ℕ) → a < 2 ^ w → circ ror w v (circ rol w v a b c) b c ≡ a
    rol_ror a b h = right_left w a (b % w) (amount_le b) h

    pub ror_rol : (a b : ℕ) → a < 2 ^ w → circ rol w v (circ ror w v a b c) b c ≡ a
    ror_rol a b h = left_right w a (b % w) (amount_le b) h
