-- Division of whole numbers, rounded toward zero, with its remainder; and the signed values that a word of a width has. Assumes nothing.
use mathlib.Core.Path.{◌≡◌, refl, sym, ap, ◌∙◌, subst}
use mathlib.Core.Logic.{◌⊎◌, inl, inr}
use mathlib.Core.Bool.{Bool, false, cond}
use Prim.Native.Nat.{ℕ, zero, suc, ◌+◌, ◌-◌, ◌*◌, ◌/◌, ◌%◌, ◌^◌, ◌≤◌, ◌<◌, suc-le-suc}
use native.Mathlib.Nat.{le_trans, le-suc, le_of_lt, lt_of_lt_of_le, lt_of_le_of_lt, le_of_suc-le-suc, div-le_self, div-lt_self, div-one, mod-lt, mod-eq_of_lt, div-add-mod', zero-lt-suc, add-zero, zero-add, zero-mul}
use native.Mathlib.Omega.{arith}
use borrow.Author.Tests.{lt-ltb, le-ltb}
use lib.IntN.{ℤ, pos, negsuc, neg_ℤ, nat_abs, ◌+ℤ◌, ◌*ℤ◌, +ℤ_idl, +ℤ_idr}
use lib.Signed.{mag, non_neg, quot_z, rem_z, nat_abs-le}
use Rattle.words.specs.Word.{Width, flip, signed_value, twos_complement, toward_divisor}
use Rattle.words.proofs.Signed.{half, signed_low, signed_high}
use Rattle.words.proofs.Divide.{mag_neg}

-- ---- minus a number

-- at 0, and past it
neg_of : (n : ℕ) {m : ℕ} → n ≡ m → neg_ℤ (pos n) ≡ neg_ℤ (pos m)
neg_of n e = ap (λ (k : ℕ). neg_ℤ (pos k)) e

neg_mul : (x b : ℕ) → neg_ℤ (pos x) *ℤ pos b ≡ neg_ℤ (pos (x * b))
neg_mul zero b = ap pos (zero-mul b) ∙ sym (neg_of (0 * b) (zero-mul b))
neg_mul (suc x) b = refl

neg_mul_neg : (x b : ℕ) → neg_ℤ (pos x) *ℤ negsuc b ≡ pos (x * suc b)
neg_mul_neg zero b = neg_of (0 * suc b) (zero-mul (suc b)) ∙ sym (ap pos (zero-mul (suc b)))
neg_mul_neg (suc x) b = refl

neg_sum : (x y : ℕ) → neg_ℤ (pos x) +ℤ neg_ℤ (pos y) ≡ neg_ℤ (pos (x + y))
neg_sum zero y = +ℤ_idl (neg_ℤ (pos y)) ∙ sym (neg_of (0 + y) (zero-add y))
neg_sum (suc x) zero = +ℤ_idr (negsuc x) ∙ sym (neg_of (suc x + 0) (add-zero (suc x)))
neg_sum (suc x) (suc y) = let e : suc x + suc y ≡ suc (suc (x + y)) = omega arith in sym (neg_of (suc x + suc y) e)

-- n = q d + r
pub quot_rem : (n d : ℤ) → quot_z n d *ℤ d +ℤ rem_z n d ≡ n
quot_rem (pos a) (pos b) = ap pos (div-add-mod' a b)
quot_rem (pos a) (negsuc b) = ap (λ (z : ℤ). z +ℤ pos (a % suc b)) (neg_mul_neg (a / suc b) b) ∙ ap pos (div-add-mod' a (suc b))
quot_rem (negsuc a) (pos b) =
    ap (λ (z : ℤ). z +ℤ neg_ℤ (pos (suc a % b))) (neg_mul (suc a / b) b) ∙ neg_sum (suc a / b * b) (suc a % b) ∙ neg_of (suc a / b * b + suc a % b) (div-add-mod' (suc a) b)
quot_rem (negsuc a) (negsuc b) =
    neg_sum (suc a / suc b * suc b) (suc a % suc b) ∙ neg_of (suc a / suc b * suc b + suc a % suc b) (div-add-mod' (suc a) (suc b))

abs_neg : (x : ℕ) → nat_abs (neg_ℤ (pos x)) ≡ x
abs_neg zero = refl
abs_neg (suc x) = refl

-- |q| = |n| / |d|, rounded down
pub quot_abs : (n d : ℤ) → nat_abs (quot_z n d) ≡ nat_abs n / nat_abs d
quot_abs (pos a) (pos b) = refl
quot_abs (pos a) (negsuc b) = abs_neg (a / suc b)
quot_abs (negsuc a) (pos b) = abs_neg (suc a / b)
quot_abs (negsuc a) (negsuc b) = refl

-- |r| < |d|
pub rem_less : (n d : ℤ) → (d ≡ pos 0 → ⊥) → nat_abs (rem_z n d) < nat_abs d
rem_less n d f = go n (past d f)
  where
    past : (d : ℤ) → (d ≡ pos 0 → ⊥) → 0 < nat_abs d
    past (pos zero) f = absurd (f refl)
    past (pos (suc b)) f = zero-lt-suc b
    past (negsuc b) f = zero-lt-suc b

    go : (n : ℤ) → 0 < nat_abs d → nat_abs (rem_z n d) < nat_abs d
    go (pos a) h = mod-lt a h
    go (negsuc a) h = subst (λ (x : ℕ). x < nat_abs d) (sym (abs_neg (suc a % nat_abs d))) (mod-lt (suc a) h)

-- the remainder is 0, or has the dividend's sign
pub rem_sign : (n d : ℤ) → (rem_z n d ≡ pos 0) ⊎ (non_neg (rem_z n d) ≡ non_neg n)
rem_sign (pos a) d = inr refl
rem_sign (negsuc a) d = go (suc a % nat_abs d)
  where
    go : (x : ℕ) → (neg_ℤ (pos x) ≡ pos 0) ⊎ (non_neg (neg_ℤ (pos x)) ≡ false)
    go zero = inl refl
    go (suc x) = inr refl

-- ---- a remainder moved to the divisor's sign: it is 0 or has that sign, and is still less

pub record Toward (r d m : ℤ) : Type 0 where
  pub either : (m ≡ r) ⊎ (m ≡ r +ℤ d)
  pub sign : (m ≡ pos 0) ⊎ (non_neg m ≡ non_neg d)
  pub less : nat_abs m < nat_abs d

pub toward : (r d : ℤ) → nat_abs r < nat_abs d → Toward r d (toward_divisor r d)
toward (pos zero) d h = record { either = inl refl; sign = inl refl; less = h }
toward (pos (suc r)) (pos d) h = record { either = inl refl; sign = inr refl; less = h }
toward (pos (suc r)) (negsuc d) h =
    let e = ap (λ (t : Bool). cond t (negsuc (suc d - suc (suc r))) (pos (suc r - suc d))) (lt-ltb (suc r) (suc d) h) in
    record { either = inr refl; sign = inr (ap non_neg e); less = subst (λ (z : ℤ). nat_abs z < suc d) (sym e) (omega arith) }
toward (negsuc r) (pos d) h =
    let e = ap (λ (t : Bool). cond t (negsuc (suc r - suc d)) (pos (d - suc r))) (le-ltb d (suc r) (le_of_lt h)) in
    record { either = inr refl; sign = inr (ap non_neg e); less = subst (λ (z : ℤ). nat_abs z < d) (sym e) (omega arith) }
toward (negsuc r) (negsuc d) h = record { either = inl refl; sign = inr refl; less = h }

-- ---- numbers from -H to H - 1

pub mag_below : (m d : ℤ) (H : ℕ) → nat_abs m < nat_abs d → mag d < H → mag m < H
mag_below m d H h k = go m h (nat_abs-le d k)
  where
    go : (m : ℤ) → nat_abs m < nat_abs d → nat_abs d ≤ H → mag m < H
    go (pos x) h l = lt_of_lt_of_le h l
    go (negsuc x) h l = omega arith

-- a quotient stays among them, but for -H by -1
pub quot_range : (n d : ℤ) (H : ℕ) → mag n < H → (n ≡ negsuc (H - 1) → d ≡ negsuc 0 → ⊥) → mag (quot_z n d) < H
quot_range (pos a) (pos b) H h f = lt_of_le_of_lt (div-le_self a b) h
quot_range (pos a) (negsuc b) H h f = lt_of_le_of_lt (mag_neg (a / suc b) (le_trans (div-le_self a (suc b)) (le-suc a))) h
quot_range (negsuc a) (pos b) H h f = lt_of_le_of_lt (mag_neg (suc a / b) (div-le_self (suc a) b)) h
quot_range (negsuc a) (negsuc zero) H h f =
    let g : (a ≡ H - 1 → ⊥) = λ e. f (ap negsuc e) refl in subst (λ (x : ℕ). x < H) (sym (div-one (suc a))) (omega arith)
quot_range (negsuc a) (negsuc (suc b)) H h f = lt_of_le_of_lt (le_of_suc-le-suc (div-lt_self (zero-lt-suc a) (suc-le-suc (zero-lt-suc b)))) h

-- each of them is the signed value of a word of the width w, with H = 2 ^ (w - 1); that each value is one of them is `signed_range` of `Signed`
pub signed_complement : (w : ℕ) (z : ℤ) → Width w → mag z < 2 ^ (w - 1) → signed_value w (twos_complement w z) ≡ z
signed_complement w (pos n) k h = ap (signed_value w) (mod-eq_of_lt (omega (arith, half w k.least))) ∙ signed_low w n h
signed_complement w (negsuc n) k h =
    ap (λ (x : ℕ). signed_value w (flip w x)) (mod-eq_of_lt (omega (arith, half w k.least))) ∙ signed_high w (flip w n) (omega (arith, half w k.least))
    ∙ ap negsuc (omega (arith, half w k.least))
