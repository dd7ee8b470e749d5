-- Words read as signed numbers, and signed numbers as words, as the code does both. Assumes nothing.
use mathlib.Core.Path.{◌≡◌, refl, sym, ap, ◌∙◌, subst}
use mathlib.Core.Bool.{Bool, true, false, cond}
use Prim.Native.Nat.{ℕ, suc, ◌+◌, ◌-◌, ◌*◌, ◌/◌, ◌%◌, ◌^◌, ◌≤◌, ◌<◌}
use native.Mathlib.Nat.{add-mul, mod-lt, mul-div_cancel, mul-lt-mul_of_pos_right, mul-le-mul_right, lt_of_le_of_lt, lt_of_lt_of_le, pow-suc, sub-add_cancel}
use native.Mathlib.Numerals.{add-one}
use native.Mathlib.Omega.{arith}
use borrow.Author.Tests.{lt-ltb, le-ltb, ltb-true, ltb-false}
use lib.Arith.{sub-sub_self}
use lib.Dec.{ltb}
use lib.Pow.{pow_pos, pow-add, high, ones_lt}
use lib.IntN.{ℤ, pos, negsuc}
use lib.Signed.{mag, shr_z, mag_shr}
use mir.Syntax.{w64}
use mir.Val.{Fits, to_z, of_z}
use mir.Facts.{to_z_pos, to_z-neg, to_z-of_z, of_z-to_z, sfits_to_z}
use Rattle.words.specs.Word.{Width, flip, signed_value, twos_complement}
use Rattle.words.proofs.Mod.{shl_mod, flip_mod}

-- ---- the sign bit

-- half the words of width w
pub half : (w : ℕ) → 1 ≤ w → 2 ^ w ≡ 2 ^ (w - 1) * 2
half w h = ap (λ (n : ℕ). 2 ^ n) (sym (sub-add_cancel h) ∙ add-one (w - 1)) ∙ pow-suc 2 (w - 1)

pub signed_low : (w a : ℕ) → a < 2 ^ (w - 1) → signed_value w a ≡ pos a
signed_low w a h = ap (λ (t : Bool). cond t (pos a) (negsuc (2 ^ w - suc a))) (lt-ltb a (2 ^ (w - 1)) h)

pub signed_high : (w a : ℕ) → 2 ^ (w - 1) ≤ a → signed_value w a ≡ negsuc (2 ^ w - suc a)
signed_high w a h = ap (λ (t : Bool). cond t (pos a) (negsuc (2 ^ w - suc a))) (le-ltb a (2 ^ (w - 1)) h)

-- the signed values of words of the width w are the numbers from -2 ^ (w - 1) to 2 ^ (w - 1) - 1
pub signed_range : (w a : ℕ) → Width w → a < 2 ^ w → mag (signed_value w a) < 2 ^ (w - 1)
signed_range w a k h = go (ltb a (2 ^ (w - 1))) refl
  where
    go : (t : Bool) → ltb a (2 ^ (w - 1)) ≡ t → mag (cond t (pos a) (negsuc (2 ^ w - suc a))) < 2 ^ (w - 1)
    go true e = ltb-true a (2 ^ (w - 1)) e
    go false e = omega (arith, half w k.least, ltb-false a (2 ^ (w - 1)) e)

-- ---- `to_signed` and `from_signed`, as laws of numbers

-- a signed number as the code reads it back from its bits
abbrev pub back : ℤ → ℤ
back z = to_z w64 (of_z w64 z)

-- the low bits, moved to the top of the word and back: copies of the sign bit come in
module _ (w : ℕ) (k : Width w) where
  abbrev s : ℕ
  s = 64 - w

  -- a word and half of it, at the top
  all : 2 ^ 64 ≡ 2 ^ w * 2 ^ s
  all = let e : 64 ≡ w + s = omega arith in ap (λ (n : ℕ). 2 ^ n) e ∙ pow-add 2 w s

  top : 2 ^ 63 ≡ 2 ^ (w - 1) * 2 ^ s
  top = let e : 63 ≡ w - 1 + s = omega arith in ap (λ (n : ℕ). 2 ^ n) e ∙ pow-add 2 (w - 1) s

  moved : (a : ℕ) → a * 2 ^ s % 2 ^ 64 ≡ a % 2 ^ w * 2 ^ s
  moved a = shl_mod 64 s a (omega arith) ∙ ap (λ (n : ℕ). a % 2 ^ n * 2 ^ s) (sub-sub_self k.most)

  moved_back : (x : ℕ) → x < 2 ^ w → shr_z (to_z w64 (x * 2 ^ s)) (2 ^ s) ≡ signed_value w x
  moved_back x h = go (ltb x (2 ^ (w - 1))) refl
    where
      below : x * 2 ^ s < 2 ^ 64
      below = subst (λ (n : ℕ). x * 2 ^ s < n) (sym all) (mul-lt-mul_of_pos_right h (pow_pos s))

      rest : 2 ^ 64 - suc (x * 2 ^ s) ≡ (2 ^ w - suc x) * 2 ^ s + (2 ^ s - 1)
      rest =
          let q : 2 ^ w ≡ 2 ^ w - suc x + (x + 1) = omega arith in
          let e : 2 ^ 64 ≡ (2 ^ w - suc x) * 2 ^ s + (x * 2 ^ s + 1 * 2 ^ s) =
          all ∙ ap (λ (n : ℕ). n * 2 ^ s) q ∙ add-mul (2 ^ w - suc x) (x + 1) (2 ^ s) ∙ ap (λ (n : ℕ). (2 ^ w - suc x) * 2 ^ s + n) (add-mul x 1 (2 ^ s)) in
          omega (arith, pow_pos s)

      go : (t : Bool) → ltb x (2 ^ (w - 1)) ≡ t → shr_z (to_z w64 (x * 2 ^ s)) (2 ^ s) ≡ signed_value w x
      go true e =
          let l = ltb-true x (2 ^ (w - 1)) e in
          ap (λ (z : ℤ). shr_z z (2 ^ s)) (to_z_pos w64 (subst (λ (n : ℕ). x * 2 ^ s < n) (sym top) (mul-lt-mul_of_pos_right l (pow_pos s))))
          ∙ ap pos (mul-div_cancel x (pow_pos s)) ∙ sym (signed_low w x l)
      go false e =
          let l = ltb-false x (2 ^ (w - 1)) e in
          let g : 2 ^ 63 ≤ x * 2 ^ s = subst (λ (n : ℕ). n ≤ x * 2 ^ s) (sym top) (mul-le-mul_right (2 ^ s) l) in
          let n : ℕ = 2 ^ 64 - suc (x * 2 ^ s) in
          let f : x * 2 ^ s ≡ 2 ^ 64 - suc n = omega (arith, below) in
          ap (λ (m : ℕ). shr_z (to_z w64 m) (2 ^ s)) f ∙ ap (λ (z : ℤ). shr_z z (2 ^ s)) (to_z-neg w64 n (omega (arith, below)))
          ∙ ap negsuc (ap (λ (m : ℕ). m / 2 ^ s) rest ∙ high (2 ^ w - suc x) s (ones_lt s)) ∙ sym (signed_high w x l)

  -- `(a << s).cast_signed() >> s`, where z is what is shifted back
  pub signed_law : (a : ℕ) {z : ℤ} → mag z < 2 ^ 63 → z ≡ to_z w64 (a * 2 ^ s % 2 ^ 64) → back (shr_z (back z) (2 ^ s)) ≡ signed_value w (a % 2 ^ w)
  signed_law a {z} g e =
      let f : back z ≡ z = to_z-of_z {w = w64} (record { sfits = g }) in
      ap (λ (y : ℤ). back (shr_z y (2 ^ s))) f ∙ to_z-of_z {w = w64} (record { sfits = lt_of_le_of_lt (mag_shr z (2 ^ s)) g })
      ∙ ap (λ (y : ℤ). shr_z y (2 ^ s)) (e ∙ ap (to_z w64) (moved a)) ∙ moved_back (a % 2 ^ w) (mod-lt a (pow_pos w))

  -- the low bits of a signed number's bits are its word
  pub word_law : (z : ℤ) → mag z < 2 ^ 64 → of_z w64 z % 2 ^ w ≡ twos_complement w z
  word_law (pos n) h = refl
  word_law (negsuc n) h = let e : 2 ^ 64 - suc n ≡ flip 64 n = omega arith in ap (λ (m : ℕ). m % 2 ^ w) e ∙ flip_mod 64 w k.most n h

  -- so a number that has wrapped has the same word
  pub wrapped : (z : ℤ) → mag z < 2 ^ 64 → twos_complement w (back z) ≡ twos_complement w z
  wrapped z h =
      sym (word_law (back z) (lt_of_lt_of_le (sfits_to_z f).sfits (omega arith))) ∙ ap (λ (m : ℕ). m % 2 ^ w) (of_z-to_z f) ∙ word_law z h
    where
      bits_lt : (y : ℤ) → mag y < 2 ^ 64 → of_z w64 y < 2 ^ 64
      bits_lt (pos n) l = l
      bits_lt (negsuc n) l = omega arith

      f : Fits w64 (of_z w64 z)
      f = record { fits = bits_lt z h }
