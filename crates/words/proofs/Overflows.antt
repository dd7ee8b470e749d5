-- Overflow as the code finds it, in machine words: x and y are words of the width w, m is the greatest word of that width and h its greatest signed number. Nothing that
-- could pass 64 bits is added, subtracted or multiplied. Assumes nothing.
use mathlib.Core.Path.{◌≡◌, refl, sym, ap, ap₂, ◌∙◌, subst}
use mathlib.Core.Bool.{Bool, true, false, cond, ◌||◌, or-false}
use Prim.Native.Nat.{ℕ, zero, suc, ◌+◌, ◌-◌, ◌*◌, ◌/◌, ◌^◌, ◌≤◌, ◌<◌, zero-le}
use native.Mathlib.Nat.{div-lt_iff_lt-mul, mul_comm, zero-mul, div-one}
use native.Mathlib.Numerals.{add-one}
use native.Mathlib.Omega.{arith}
use borrow.Author.Tests.{lt-ltb, le-ltb, le-leb, lt-leb, ltb-true, ltb-false, leb-true, leb-false}
use lib.Dec.{ltb, leb}
use lib.Pow.{pow_pos}
use lib.IntN.{ℤ, pos, negsuc, neg_ℤ, ◌+ℤ◌, ◌-ℤ◌, ◌*ℤ◌}
use lib.Signed.{mag, lt_z, le_z, quot_z}
use Rattle.words.specs.Word.{signed_value}
use Rattle.words.specs.Model.Widths.{Words}
use Rattle.words.specs.Op.{uaddo, saddo, usubo, ssubo, umulo, smulo, sdivo}
use Rattle.words.specs.Overflow.{outside, overflows}
use Rattle.words.proofs.Signed.{half, signed_low, signed_high, signed_range}
use Rattle.words.proofs.Integers.{quot_range}
use Rattle.words.proofs.Division.{is_least, is_minus_one, minus_one}

-- ---- tests

same_test : (s t : Bool) → (s ≡ true → t ≡ true) → (s ≡ false → t ≡ false) → s ≡ t
same_test true t f g = sym (f refl)
same_test false t f g = sym (g refl)

-- a < b and c ≤ d are one test
lt_as_le : (a b c d : ℕ) → (a < b → c ≤ d) → (b ≤ a → d < c) → ltb a b ≡ leb c d
lt_as_le a b c d f g = same_test (ltb a b) (leb c d) (λ e. le-leb c d (f (ltb-true a b e))) (λ e. lt-leb c d (g (ltb-false a b e)))

le_as_le : (a b c d : ℕ) → (a ≤ b → c ≤ d) → (b < a → d < c) → leb a b ≡ leb c d
le_as_le a b c d f g = same_test (leb a b) (leb c d) (λ e. le-leb c d (f (leb-true a b e))) (λ e. lt-leb c d (g (leb-false a b e)))

-- a product against a limit, by one division
pub product_test : (l p q : ℕ) → 0 < p → ltb (l / p) q ≡ ltb l (p * q)
product_test l p q h =
    same_test (ltb (l / p) q) (ltb l (p * q)) (λ e. lt-ltb l (p * q) (subst (λ (n : ℕ). l < n) (mul_comm q p) ((div-lt_iff_lt-mul h).0 (ltb-true (l / p) q e))))
    (λ e. le-ltb l (p * q) (let f : ¬ (l < p * q) = λ k. absurd (not_below_lem ((div-lt_iff_lt-mul h).1 (subst (λ (n : ℕ). l < n) (mul_comm p q) k)) (ltb-false (l / p) q e)) in omega arith))
  where
    not_below_lem : {a b : ℕ} → a < b → b ≤ a → ⊥
    not_below_lem a b = omega arith

pub product_zero : (l p q : ℕ) → p ≡ 0 → false ≡ ltb l (p * q)
product_zero l p q e = sym (le-ltb l (p * q) (let z : p * q ≡ 0 = ap (λ (n : ℕ). n * q) e ∙ zero-mul q in omega arith))

-- ---- outside, in one test

pub outside_unsigned : (w n : ℕ) → outside false w (pos n) ≡ leb (2 ^ w) n
outside_unsigned w n = rw (le-ltb n 0 zero-le)

pub outside_signed : (w : ℕ) (z : ℤ) → outside true w z ≡ leb (2 ^ (w - 1)) (mag z)
outside_signed w z = go (2 ^ (w - 1)) (pow_pos (w - 1)) z
  where
    go : (H : ℕ) → 0 < H → (z : ℤ) → (lt_z z (neg_ℤ (pos H)) || le_z (pos H) z) ≡ leb H (mag z)
    go zero l z = absurd (omega arith)
    go (suc h) l (pos n) = refl
    go (suc h) l (negsuc n) = or-false (ltb h n) ∙ lt_as_le h n (suc h) n (λ k. k) (λ k. omega arith)

-- minus a number, by its size
mag_minus : (H n : ℕ) → 0 < H → leb H (mag (neg_ℤ (pos n))) ≡ ltb H n
mag_minus H zero l = lt-leb H 0 l ∙ sym (le-ltb H 0 zero-le)
mag_minus H (suc n) l = sym (lt_as_le H (suc n) H n (λ k. omega arith) (λ k. omega arith))

-- the difference of two numbers up to H
apart : (H a b : ℕ) → a ≤ H → b ≤ H → 0 < b → mag (cond (ltb a b) (negsuc (b - suc a)) (pos (a - b))) < H
apart H a b ha hb lb = go (ltb a b)
  where
    go : (t : Bool) → mag (cond t (negsuc (b - suc a)) (pos (a - b))) < H
    go true = omega arith
    go false = omega arith

-- ---- the detectors

module _ {w x y m : ℕ} (ws : Words w x y) (em : m ≡ 2 ^ w - 1) where
  -- `m - x < y`
  pub uaddo_test : ltb (m - x) y ≡ overflows uaddo w x y
  uaddo_test = lt_as_le (m - x) y (2 ^ w) (x + y) (λ l. omega arith) (λ l. omega (arith, pow_pos w)) ∙ sym (outside_unsigned w (x + y))

  -- `x < y`
  pub usubo_test : ltb x y ≡ overflows usubo w x y
  usubo_test = go y
    where
      by : (b : ℕ) (t : Bool) → ltb x (suc b) ≡ t → t ≡ outside false w (cond t (negsuc (suc b - suc x)) (pos (x - suc b)))
      by b true e = refl
      by b false e = sym (outside_unsigned w (x - suc b) ∙ lt-leb (2 ^ w) (x - suc b) (omega arith))

      go : (b : ℕ) → ltb x b ≡ outside false w (pos x -ℤ pos b)
      go zero = le-ltb x 0 zero-le ∙ sym (outside_unsigned w (x + 0) ∙ lt-leb (2 ^ w) (x + 0) (omega arith))
      go (suc b) = by b (ltb x (suc b)) refl

  -- `x * y > m`
  pub umulo_test : ltb m (x * y) ≡ overflows umulo w x y
  umulo_test = lt_as_le m (x * y) (2 ^ w) (x * y) (λ l. omega (arith, pow_pos w)) (λ l. omega (arith, pow_pos w)) ∙ sym (outside_unsigned w (x * y))

  -- ---- signed: h is the greatest signed number

  module _ {h : ℕ} (eh : h ≡ m / 2 ^ 1) where
    pub top : 2 ^ (w - 1) ≡ suc h
    top = omega (arith, half w ws.width.least, pow_pos (w - 1))

    -- a word up to h is itself, one above it is less than 0 by m - x + 1
    low : {a : ℕ} → a ≤ h → signed_value w a ≡ pos a
    low {a} l = signed_low w a (omega (arith, top))

    high : {a : ℕ} → a < 2 ^ w → h < a → signed_value w a ≡ negsuc (m - a)
    high {a} l g = signed_high w a (omega (arith, top)) ∙ ap negsuc (omega arith)

    -- a signed result is outside by its size
    by_size : (f : ℤ → ℤ → ℤ) {n d : ℤ} → signed_value w x ≡ n → signed_value w y ≡ d → outside true w (f (signed_value w x) (signed_value w y)) ≡ leb (suc h) (mag (f n d))
    by_size f en ed = outside_signed w (f (signed_value w x) (signed_value w y)) ∙ ap₂ (λ (H : ℕ) (z : ℤ). leb H (mag z)) top (ap₂ f en ed)

    below : (f : ℤ → ℤ → ℤ) {n d : ℤ} → signed_value w x ≡ n → signed_value w y ≡ d → mag (f n d) < suc h → false ≡ outside true w (f (signed_value w x) (signed_value w y))
    below f en ed l = sym (by_size f en ed ∙ lt-leb (suc h) (mag (f _ _)) l)

    -- by the signs: both words up to h, both above it, and the left or the right one alone above it

    pub saddo_low : x ≤ h → y ≤ h → ltb (h - x) y ≡ overflows saddo w x y
    saddo_low lx ly = lt_as_le (h - x) y (suc h) (x + y) (λ l. omega arith) (λ l. omega arith) ∙ sym (by_size ◌+ℤ◌ (low lx) (low ly))

    pub saddo_high : h < x → h < y → leb (h - (m - x)) (m - y) ≡ overflows saddo w x y
    saddo_high lx ly =
        le_as_le (h - (m - x)) (m - y) (suc h) (suc (m - x + (m - y))) (λ l. omega arith) (λ l. omega (arith, top, half w ws.width.least)) ∙ sym (by_size ◌+ℤ◌ (high ws.first lx) (high ws.second ly))

    pub saddo_left : h < x → y ≤ h → false ≡ overflows saddo w x y
    saddo_left lx ly = below ◌+ℤ◌ (high ws.first lx) (low ly) (apart (suc h) y (suc (m - x)) (omega arith) (omega (arith, top, half w ws.width.least)) (omega arith))

    pub saddo_right : x ≤ h → h < y → false ≡ overflows saddo w x y
    saddo_right lx ly = below ◌+ℤ◌ (low lx) (high ws.second ly) (apart (suc h) x (suc (m - y)) (omega arith) (omega (arith, top, half w ws.width.least)) (omega arith))

    pub ssubo_low : x ≤ h → y ≤ h → false ≡ overflows ssubo w x y
    ssubo_low lx ly = below ◌-ℤ◌ (low lx) (low ly) (go y ly)
      where
        go : (b : ℕ) → b ≤ h → mag (pos x -ℤ pos b) < suc h
        go zero l = omega arith
        go (suc b) l = apart (suc h) x (suc b) (omega arith) (omega arith) (omega arith)

    pub ssubo_high : h < x → h < y → false ≡ overflows ssubo w x y
    ssubo_high lx ly = below ◌-ℤ◌ (high ws.first lx) (high ws.second ly) (apart (suc h) (suc (m - y)) (suc (m - x)) (omega (arith, top, half w ws.width.least)) (omega (arith, top, half w ws.width.least)) (omega arith))

    pub ssubo_right : x ≤ h → h < y → leb (h - x) (m - y) ≡ overflows ssubo w x y
    ssubo_right lx ly = le_as_le (h - x) (m - y) (suc h) (x + suc (m - y)) (λ l. omega arith) (λ l. omega arith) ∙ sym (by_size ◌-ℤ◌ (low lx) (high ws.second ly))

    pub ssubo_left : h < x → y ≤ h → ltb (h - (m - x)) y ≡ overflows ssubo w x y
    ssubo_left lx ly = go y ∙ sym (by_size ◌-ℤ◌ (high ws.first lx) (low ly))
      where
        p_le : m - x ≤ h
        p_le = omega (arith, top, half w ws.width.least)

        go : (b : ℕ) → ltb (h - (m - x)) b ≡ leb (suc h) (mag (negsuc (m - x) -ℤ pos b))
        go zero = le-ltb (h - (m - x)) 0 zero-le ∙ sym (lt-leb (suc h) _ (apart (suc h) 0 (suc (m - x)) (omega arith) (omega (arith, p_le)) (omega arith)))
        go (suc b) = lt_as_le (h - (m - x)) (suc b) (suc h) (suc (m - x + b)) (λ l. omega arith) (λ l. omega (arith, p_le))

    -- ---- a product, by the sizes of its operands

    pub smulo_low : x ≤ h → y ≤ h → ltb h (x * y) ≡ overflows smulo w x y
    smulo_low lx ly = lt_as_le h (x * y) (suc h) (x * y) (λ l. l) (λ l. omega arith) ∙ sym (by_size ◌*ℤ◌ (low lx) (low ly))

    pub smulo_high : h < x → h < y → ltb h ((m - x + 1) * (m - y + 1)) ≡ overflows smulo w x y
    smulo_high lx ly =
        ap₂ (λ (p q : ℕ). ltb h (p * q)) (add-one (m - x)) (add-one (m - y))
        ∙ lt_as_le h (suc (m - x) * suc (m - y)) (suc h) (suc (m - x) * suc (m - y)) (λ l. l) (λ l. omega arith) ∙ sym (by_size ◌*ℤ◌ (high ws.first lx) (high ws.second ly))

    pub smulo_left : h < x → y ≤ h → ltb (h + 1) ((m - x + 1) * y) ≡ overflows smulo w x y
    smulo_left lx ly =
        ap₂ (λ (l p : ℕ). ltb l (p * y)) (add-one h) (add-one (m - x))
        ∙ sym (by_size ◌*ℤ◌ (high ws.first lx) (low ly) ∙ mag_minus (suc h) (suc (m - x) * y) (omega arith))

    pub smulo_right : x ≤ h → h < y → ltb (h + 1) (x * (m - y + 1)) ≡ overflows smulo w x y
    smulo_right lx ly =
        ap₂ (λ (l q : ℕ). ltb l (x * q)) (add-one h) (add-one (m - y))
        ∙ sym (by_size ◌*ℤ◌ (low lx) (high ws.second ly) ∙ mag_minus (suc h) (x * suc (m - y)) (omega arith))

    -- ---- the least value by -1

    pub sdivo_least : x ≡ h + 1 → y ≡ m → true ≡ overflows sdivo w x y
    sdivo_least ex ey =
        sym (by_size quot_z (high ws.first (omega arith) ∙ ap negsuc (omega (arith, top, half w ws.width.least))) (ap (signed_value w) (ey ∙ em) ∙ minus_one w w 0 ws.width) ∙ le-leb (suc h) (suc h / 1) (omega (arith, div-one (suc h))))

    pub sdivo_else : (x ≡ h + 1 → y ≡ m → ⊥) → false ≡ overflows sdivo w x y
    sdivo_else f =
        below quot_z refl refl
        (subst (λ (H : ℕ). mag (quot_z (signed_value w x) (signed_value w y)) < H) top
        (quot_range (signed_value w x) (signed_value w y) (2 ^ (w - 1)) (signed_range w x ws.width ws.first) (λ e g. f (is_least w w 0 ws.width ws.first e ∙ top ∙ sym (add-one h)) (is_minus_one w w 0 ws.width ws.second g ∙ sym em))))
