-- Division, remainder and shift of signed numbers, as the code does them: that each fits 64 bits, and what it gives as a word. Assumes nothing.
use mathlib.Core.Path.{◌≡◌, refl, sym, ap, ap₂, ◌∙◌}
use mathlib.Core.Bool.{Bool, true, false, cond, true≢false, false≢true}
use Prim.Native.Nat.{ℕ, zero, suc, ◌-◌, ◌/◌, ◌%◌, ◌^◌, ◌≤◌, ◌<◌, min, zero-le, suc-le-suc}
use native.Mathlib.Nat.{le_trans, le-suc, lt_of_lt_of_le, lt_of_le_of_lt, le_of_suc-le-suc, div-le_self, div-one, mod-one, mod-zero, mod_self, zero-mod, mod-lt, mod-eq_of_lt, div-eq_of_lt, sub-le, sub-zero}
use native.Mathlib.Omega.{arith}
use borrow.Author.Tests.{lt-ltb, le-leb, ltb-true, ltb-false}
use lib.Dec.{ltb, lit<}
use lib.Pow.{pow_pos, pow_mono}
use lib.IntN.{ℤ, pos, negsuc, neg_ℤ, ◌+ℤ◌}
use lib.Signed.{mag, le_z, quot_z, rem_z, shr_z, mag_shr}
use mir.Syntax.{w64}
use mir.Val.{SFits, to_z, of_z}
use mir.Facts.{to_z-of_z, sfits_to_z, Fits-of_z}
use Rattle.words.specs.Word.{Width, flip, signed_value, twos_complement, sdiv_z, toward_divisor, smod_z, sar}
use Rattle.words.proofs.Signed.{back, wrapped, signed_range}

-- ---- sizes

pub mag_neg : (r : ℕ) {a : ℕ} → r ≤ suc a → mag (neg_ℤ (pos r)) ≤ a
mag_neg zero h = zero-le
mag_neg (suc r) h = le_of_suc-le-suc h

-- a quotient passes its dividend by one at most: the least number by -1
mag_quot : (n d : ℤ) → mag (quot_z n d) ≤ suc (mag n)
mag_quot (pos a) (pos b) = le_trans (div-le_self a b) (le-suc a)
mag_quot (pos a) (negsuc b) = mag_neg (a / suc b) (le_trans (div-le_self a (suc b)) (omega arith))
mag_quot (negsuc a) (pos b) = mag_neg (suc a / b) (le_trans (div-le_self (suc a) b) (le-suc (suc a)))
mag_quot (negsuc a) (negsuc b) = div-le_self (suc a) (suc b)

-- a sum of two numbers of different signs
mag_cond : (t : Bool) (x y H : ℕ) → x < H → y < H → mag (cond t (negsuc x) (pos y)) < H
mag_cond true x y H h k = h
mag_cond false x y H h k = k

pub sum_fits : (r d : ℤ) (t : Bool) → SFits w64 r → SFits w64 d → le_z (pos 0) r ≡ t → le_z (pos 0) d ≡ cond t false true → SFits w64 (r +ℤ d)
sum_fits (pos r) (pos d) true h k e f = absurd (true≢false (sym (le-leb 0 d zero-le) ∙ f))
sum_fits (pos r) (pos d) false h k e f = absurd (true≢false (sym (le-leb 0 r zero-le) ∙ e))
sum_fits (pos r) (negsuc d) t h k e f =
    record { sfits = mag_cond (ltb r (suc d)) (suc d - suc r) (r - suc d) (2 ^ 63) (let a : d < 2 ^ 63 = k.sfits in omega arith) (lt_of_le_of_lt (sub-le r (suc d)) h.sfits) }
sum_fits (negsuc r) (pos d) t h k e f =
    record { sfits = mag_cond (ltb d (suc r)) (suc r - suc d) (d - suc r) (2 ^ 63) (let a : r < 2 ^ 63 = h.sfits in omega arith) (lt_of_le_of_lt (sub-le d (suc r)) k.sfits) }
sum_fits (negsuc r) (negsuc d) true h k e f = absurd (false≢true e)
sum_fits (negsuc r) (negsuc d) false h k e f = absurd (false≢true f)

-- ---- an equality test of the code compares bits

-- `z == k`, where k is the number whose bits are n: at a numeral n the right side computes
pub is : (z : ℤ) (n : ℕ) → SFits w64 z → of_z w64 z ≡ n → z ≡ to_z w64 n
is z n f e = sym (to_z-of_z f) ∙ ap (to_z w64) e

-- ---- words

pub complement_signed : (w a : ℕ) → Width w → a < 2 ^ w → twos_complement w (signed_value w a) ≡ a
complement_signed w a k h = go (ltb a (2 ^ (w - 1)))
  where
    go : (t : Bool) → twos_complement w (cond t (pos a) (negsuc (2 ^ w - suc a))) ≡ a
    go true = mod-eq_of_lt h
    go false = ap (flip w) (mod-eq_of_lt less) ∙ back
      where
        less : 2 ^ w - suc a < 2 ^ w
        less = omega (arith, pow_pos w)

        back : flip w (2 ^ w - suc a) ≡ a
        back = omega arith

pub complement_zero : (w : ℕ) → twos_complement w (pos 0) ≡ 0
complement_zero w = zero-mod (2 ^ w)

pub complement_minus_one : (w : ℕ) → twos_complement w (negsuc 0) ≡ 2 ^ w - 1
complement_minus_one w = ap (flip w) (zero-mod (2 ^ w)) ∙ sub-zero (2 ^ w - 1)

pub complement_one : (w : ℕ) → Width w → twos_complement w (pos 1) ≡ 1
complement_one w k = mod-eq_of_lt (lt_of_lt_of_le (lit< {m = 1} {n = 2 ^ 1} tt) (pow_mono k.least))

-- minus a word
pub complement_neg : (w a : ℕ) → Width w → a < 2 ^ w → twos_complement w (neg_ℤ (signed_value w a)) ≡ (2 ^ w - a) % 2 ^ w
complement_neg w a k h = go (ltb a (2 ^ (w - 1))) a h
  where
    go : (t : Bool) (x : ℕ) → x < 2 ^ w → twos_complement w (neg_ℤ (cond t (pos x) (negsuc (2 ^ w - suc x)))) ≡ (2 ^ w - x) % 2 ^ w
    go true zero l = zero-mod (2 ^ w) ∙ sym (ap (λ (n : ℕ). n % 2 ^ w) (sub-zero (2 ^ w)) ∙ mod_self (2 ^ w))
    go true (suc x) l = ap (flip w) (mod-eq_of_lt (le_trans (le-suc (suc x)) l)) ∙ same ∙ sym (mod-eq_of_lt less)
      where
        same : flip w x ≡ 2 ^ w - suc x
        same = omega arith

        less : 2 ^ w - suc x < 2 ^ w
        less = omega arith
    go false x l = ap (λ (n : ℕ). n % 2 ^ w) same
      where
        same : suc (2 ^ w - suc x) ≡ 2 ^ w - x
        same = omega arith

-- ---- the operators

pub div_by_zero : (w : ℕ) (n d : ℤ) (t : Bool) → Width w → d ≡ pos 0 → le_z (pos 0) n ≡ t → twos_complement w (sdiv_z n d) ≡ cond t (2 ^ w - 1) 1
div_by_zero w n d t k e f = ap (λ (z : ℤ). twos_complement w (sdiv_z n z)) e ∙ go n t f
  where
    go : (z : ℤ) (t : Bool) → le_z (pos 0) z ≡ t → twos_complement w (sdiv_z z (pos 0)) ≡ cond t (2 ^ w - 1) 1
    go (pos m) true g = complement_minus_one w
    go (pos m) false g = absurd (true≢false (sym (le-leb 0 m zero-le) ∙ g))
    go (negsuc m) true g = absurd (false≢true g)
    go (negsuc m) false g = complement_one w k

pub div_by_minus_one : (n d : ℤ) → d ≡ negsuc 0 → sdiv_z n d ≡ neg_ℤ n
div_by_minus_one n d e = ap (sdiv_z n) e ∙ go n
  where
    go : (z : ℤ) → sdiv_z z (negsuc 0) ≡ neg_ℤ z
    go (pos m) = ap (λ (x : ℕ). neg_ℤ (pos x)) (div-one m)
    go (negsuc m) = ap pos (div-one (suc m))

pub div_else : (n d : ℤ) → (d ≡ pos 0 → ⊥) → sdiv_z n d ≡ quot_z n d
div_else (pos n) (pos zero) f = absurd (f refl)
div_else (negsuc n) (pos zero) f = absurd (f refl)
div_else (pos n) (pos (suc d)) f = refl
div_else (negsuc n) (pos (suc d)) f = refl
div_else (pos n) (negsuc d) f = refl
div_else (negsuc n) (negsuc d) f = refl

pub rem_by_zero : (n d : ℤ) → d ≡ pos 0 → rem_z n d ≡ n
rem_by_zero n d e = ap (rem_z n) e ∙ go n
  where
    go : (z : ℤ) → rem_z z (pos 0) ≡ z
    go (pos m) = ap pos (mod-zero m)
    go (negsuc m) = ap (λ (x : ℕ). neg_ℤ (pos x)) (mod-zero (suc m))

pub rem_by_minus_one : (n d : ℤ) → d ≡ negsuc 0 → rem_z n d ≡ pos 0
rem_by_minus_one n d e = ap (rem_z n) e ∙ go n
  where
    go : (z : ℤ) → rem_z z (negsuc 0) ≡ pos 0
    go (pos m) = ap pos (mod-one m)
    go (negsuc m) = ap (λ (x : ℕ). neg_ℤ (pos x)) (mod-one (suc m))

-- a remainder moved to the divisor's sign
pub toward_zero : (r : ℤ) → toward_divisor r (pos 0) ≡ r
toward_zero (pos zero) = refl
toward_zero (pos (suc r)) = refl
toward_zero (negsuc r) = ap (λ (t : Bool). cond t (negsuc (suc r - 1)) (pos (0 - suc r))) (lt-ltb 0 (suc r) (suc-le-suc zero-le)) ∙ ap negsuc (omega arith)

pub toward_same : (r d : ℤ) (t : Bool) → le_z (pos 0) r ≡ t → le_z (pos 0) d ≡ t → toward_divisor r d ≡ r
toward_same (pos zero) d t e f = refl
toward_same (pos (suc r)) (pos d) t e f = refl
toward_same (pos (suc r)) (negsuc d) true e f = absurd (false≢true f)
toward_same (pos (suc r)) (negsuc d) false e f = absurd (true≢false (sym (le-leb 0 (suc r) zero-le) ∙ e))
toward_same (negsuc r) (pos d) true e f = absurd (false≢true e)
toward_same (negsuc r) (pos d) false e f = absurd (true≢false (sym (le-leb 0 d zero-le) ∙ f))
toward_same (negsuc r) (negsuc d) t e f = refl

pub toward_other : (r d : ℤ) (t : Bool) → (r ≡ pos 0 → ⊥) → le_z (pos 0) r ≡ t → le_z (pos 0) d ≡ cond t false true → toward_divisor r d ≡ r +ℤ d
toward_other (pos zero) d t g e f = absurd (g refl)
toward_other (pos (suc r)) (negsuc d) t g e f = refl
toward_other (pos (suc r)) (pos d) true g e f = absurd (true≢false (sym (le-leb 0 d zero-le) ∙ f))
toward_other (pos (suc r)) (pos d) false g e f = absurd (true≢false (sym (le-leb 0 (suc r) zero-le) ∙ e))
toward_other (negsuc r) (pos d) t g e f = refl
toward_other (negsuc r) (negsuc d) true g e f = absurd (false≢true e)
toward_other (negsuc r) (negsuc d) false g e f = absurd (false≢true f)

-- ---- as the code has them: n and d are the operands' low bits x and y read as signed, yn and yd what the code reads back from their bits

module _ (w a b : ℕ) {n d : ℤ} (k : Width w) (en : n ≡ signed_value w (a % 2 ^ w)) (ed : d ≡ signed_value w (b % 2 ^ w)) (gn : mag n < 2 ^ 63) (gd : mag d < 2 ^ 63) where
  abbrev x : ℕ
  x = a % 2 ^ w

  abbrev y : ℕ
  y = b % 2 ^ w

  abbrev yn : ℤ
  yn = back n

  abbrev yd : ℤ
  yd = back d

  x_lt : x < 2 ^ w
  x_lt = mod-lt a (pow_pos w)

  fn : SFits w64 n
  fn = record { sfits = gn }

  fd : SFits w64 d
  fd = record { sfits = gd }

  zero_d : of_z w64 d ≡ 0 → signed_value w y ≡ pos 0
  zero_d e = sym ed ∙ is d 0 fd e

  n_is : yn ≡ signed_value w x
  n_is = to_z-of_z fn ∙ en

  d_is : yd ≡ signed_value w y
  d_is = to_z-of_z fd ∙ ed

  pub sdiv_zero : (t : Bool) → of_z w64 d ≡ 0 → le_z (pos 0) yn ≡ t → cond t (2 ^ w - 1) 1 ≡ twos_complement w (sdiv_z (signed_value w x) (signed_value w y))
  sdiv_zero t e f = sym (div_by_zero w (signed_value w x) (signed_value w y) t k (zero_d e) (ap (le_z (pos 0)) (sym n_is) ∙ f))

  -- q is `n.wrapping_div(d)`
  pub sdiv_else : (of_z w64 d ≡ 0 → ⊥) → {q : ℤ} → mag q < 2 ^ 63 → q ≡ back (quot_z yn yd) → twos_complement w (back q) ≡ twos_complement w (sdiv_z (signed_value w x) (signed_value w y))
  sdiv_else f {q} g e =
      ap (twos_complement w) (to_z-of_z {w = w64} {z = q} (record { sfits = g }) ∙ e) ∙ wrapped w k (quot_z yn yd) bound
      ∙ ap (twos_complement w) (ap₂ quot_z n_is d_is ∙ sym (div_else (signed_value w x) (signed_value w y) (λ z. f (ap (of_z w64) (ed ∙ z)))))
    where
      bound : mag (quot_z yn yd) < 2 ^ 64
      bound = let l = mag_quot yn yd in let h : mag yn < 2 ^ 63 = (sfits_to_z (Fits-of_z fn)).sfits in omega arith

  pub srem_zero : of_z w64 d ≡ 0 → x ≡ twos_complement w (rem_z (signed_value w x) (signed_value w y))
  srem_zero e = sym (ap (twos_complement w) (rem_by_zero (signed_value w x) (signed_value w y) (zero_d e)) ∙ complement_signed w x k x_lt)

  pub smod_zero : of_z w64 d ≡ 0 → x ≡ twos_complement w (smod_z (signed_value w x) (signed_value w y))
  smod_zero e =
      srem_zero e ∙ ap (twos_complement w) (sym (toward_zero (rem_z (signed_value w x) (signed_value w y))) ∙ ap (toward_divisor (rem_z (signed_value w x) (signed_value w y))) (sym (zero_d e)))

-- ---- shifts that copy the sign

-- past all the digits
pub shr_all : (z : ℤ) (t : Bool) (m : ℕ) → mag z < m → le_z (pos 0) z ≡ t → shr_z z m ≡ cond t (pos 0) (negsuc 0)
shr_all (pos n) true m h e = ap pos (div-eq_of_lt h)
shr_all (pos n) false m h e = absurd (true≢false (sym (le-leb 0 n zero-le) ∙ e))
shr_all (negsuc n) true m h e = absurd (false≢true e)
shr_all (negsuc n) false m h e = ap negsuc (div-eq_of_lt h)

-- n is `to_signed(w, a)`, and m the amount, the low bits of b
module _ (w a b : ℕ) {n : ℤ} {m : ℕ} (k : Width w) (en : n ≡ signed_value w (a % 2 ^ w)) (gn : mag n < 2 ^ 63) (em : m ≡ b % 2 ^ w) where
  abbrev v : ℤ
  v = signed_value w (a % 2 ^ w)

  v_mag : mag v < 2 ^ (w - 1)
  v_mag = signed_range w (a % 2 ^ w) k (mod-lt a (pow_pos w))

  -- past the sign bit all shifts are one
  past : (i : ℕ) → w - 1 ≤ i → shr_z v (2 ^ i) ≡ cond (le_z (pos 0) v) (pos 0) (negsuc 0)
  past i h = shr_all v (le_z (pos 0) v) (2 ^ i) (lt_of_lt_of_le v_mag (pow_mono h)) refl

  shifted : (t : Bool) → ltb m w ≡ t → twos_complement w (shr_z v (2 ^ min m 63)) ≡ sar t w (a % 2 ^ w) m
  shifted true e = let l = ltb-true m w e in let q : min m 63 ≡ m = omega (arith, k.most) in ap (λ (i : ℕ). twos_complement w (shr_z v (2 ^ i))) q
  shifted false e = let l = ltb-false m w e in ap (twos_complement w) (past (min m 63) (omega (arith, k.most)) ∙ sym (past w (omega arith)))

  -- `n >> amount.min(63)`
  pub sra_law : {i : ℕ} → i ≡ min m 63 → twos_complement w (back (shr_z (back n) (2 ^ i))) ≡ sar (ltb (b % 2 ^ w) w) w (a % 2 ^ w) (b % 2 ^ w)
  sra_law e =
      let f : back n ≡ n = to_z-of_z {w = w64} (record { sfits = gn }) in
      ap₂ (λ (z : ℤ) (j : ℕ). twos_complement w (back (shr_z z (2 ^ j)))) f e
      ∙ ap (twos_complement w) (to_z-of_z {w = w64} (record { sfits = lt_of_le_of_lt (mag_shr n (2 ^ min m 63)) gn }) ∙ ap (λ (z : ℤ). shr_z z (2 ^ min m 63)) en)
      ∙ shifted (ltb m w) refl ∙ ap (λ (j : ℕ). sar (ltb j w) w (a % 2 ^ w) j) em
