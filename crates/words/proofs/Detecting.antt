-- What a detector says of the operation that it watches, one statement over the detector and the width: it is 1 exactly where the result, as a whole number, lies outside
-- the operands' width, `detects`, and 0 exactly where the operator's word, read as a number, is that result, `exact`. Assumes nothing.
use mathlib.Core.Path.{◌≡◌, refl, sym, ap, ◌∙◌, subst}
use mathlib.Core.Logic.{◌⊎◌, inl, inr}
use mathlib.Core.Bool.{Bool, true, false, ◌||◌, true≢false, false≢true}
use Prim.Native.Nat.{ℕ, ◌+◌, ◌-◌, ◌/◌, ◌^◌, ◌<◌}
use native.Mathlib.Nat.{mod-eq_of_lt}
use native.Mathlib.Omega.{arith}
use borrow.Author.Tests.{lt-leb, leb-false, eqb-true, eqb-false}
use lib.Dec.{T, eqb}
use lib.Pow.{pow_pos}
use lib.IntN.{ℤ, pos, negsuc, neg_ℤ}
use lib.Signed.{mag, lt_z, le_z, ◌<ℤ◌, ◌≤ℤ◌}
use Rattle.words.specs.Word.{Width, bit, signed_value, twos_complement}
use Rattle.words.specs.Op.{Detector, sdivo, overflow}
use Rattle.words.specs.Overflow.{is_signed, whole_result, outside, overflows}
use Rattle.words.specs.Circuit.{circ}
use Rattle.words.proofs.Bounds.{complement_lt}
use Rattle.words.proofs.Signed.{half, signed_range}
use Rattle.words.proofs.Integers.{signed_complement}
use Rattle.words.proofs.Overflows.{outside_unsigned, outside_signed, sdivo_least, sdivo_else}
use Rattle.words.proofs.Wrapping.{watched, HasResult, watched_word}

-- "lies outside the operand width": below 0 or from 2 ^ w on; signed, below -2 ^ (w - 1) or from 2 ^ (w - 1) on
abbrev pub Outside : (signed : Bool) (w : ℕ) → ℤ → Type 0
Outside false w z = (z <ℤ pos 0) ⊎ (pos (2 ^ w) ≤ℤ z)
Outside true w z = (z <ℤ neg_ℤ (pos (2 ^ (w - 1)))) ⊎ (pos (2 ^ (w - 1)) ≤ℤ z)

-- the number that a word is
abbrev pub read_as : (signed : Bool) (w a : ℕ) → ℤ
read_as false w a = pos a
read_as true w a = signed_value w a

pub record Detects (o : Detector) (w v a b c : ℕ) : Type 0 where
  pub one : circ (overflow o) w v a b c ≡ 1 → Outside (is_signed o) w (whole_result o w a b)
  pub is_one : Outside (is_signed o) w (whole_result o w a b) → circ (overflow o) w v a b c ≡ 1

-- the word that the watched operator gives is the result
pub record Exact (o : Detector) (w v a b c : ℕ) : Type 0 where
  pub zero : circ (overflow o) w v a b c ≡ 0 → read_as (is_signed o) w (circ (watched o) w v a b c) ≡ whole_result o w a b
  pub is_zero : read_as (is_signed o) w (circ (watched o) w v a b c) ≡ whole_result o w a b → circ (overflow o) w v a b c ≡ 0

-- ---- the test of a detector, as a fact

bit_one : (t : Bool) → bit t ≡ 1 → t ≡ true
bit_one true e = refl
bit_one false e = absurd (omega arith)

bit_zero : (t : Bool) → bit t ≡ 0 → t ≡ false
bit_zero true e = absurd (omega arith)
bit_zero false e = refl

below : {x y : ℤ} → lt_z x y ≡ true → x <ℤ y
below e = record { lt = subst T (sym e) tt }

from : {x y : ℤ} → le_z x y ≡ true → x ≤ℤ y
from e = record { le = subst T (sym e) tt }

yes : (t : Bool) → T t → t ≡ true
yes true h = refl
yes false h = absurd h

-- one of two tests
or_fact : (s t : Bool) {P Q : Type 0} → (s ≡ true → P) → (t ≡ true → Q) → (s || t) ≡ true → P ⊎ Q
or_fact true t f g e = inl (f refl)
or_fact false t f g e = inr (g e)

or_test : (s t : Bool) → (s ≡ true) ⊎ (t ≡ true) → (s || t) ≡ true
or_test true t h = refl
or_test false t (inl h) = absurd (false≢true h)
or_test false t (inr h) = h

fact : (s : Bool) (w : ℕ) (z : ℤ) → outside s w z ≡ true → Outside s w z
fact false w z = or_fact (lt_z z (pos 0)) (le_z (pos (2 ^ w)) z) below from
fact true w z = or_fact (lt_z z (neg_ℤ (pos (2 ^ (w - 1))))) (le_z (pos (2 ^ (w - 1))) z) below from

test : (s : Bool) (w : ℕ) (z : ℤ) → Outside s w z → outside s w z ≡ true
test false w z (inl h) = or_test (lt_z z (pos 0)) (le_z (pos (2 ^ w)) z) (inl (yes _ h.lt))
test false w z (inr h) = or_test (lt_z z (pos 0)) (le_z (pos (2 ^ w)) z) (inr (yes _ h.le))
test true w z (inl h) = or_test (lt_z z (neg_ℤ (pos (2 ^ (w - 1))))) (le_z (pos (2 ^ (w - 1))) z) (inl (yes _ h.lt))
test true w z (inr h) = or_test (lt_z z (neg_ℤ (pos (2 ^ (w - 1))))) (le_z (pos (2 ^ (w - 1))) z) (inr (yes _ h.le))

-- ---- a number and its word

read_back : (s : Bool) (w : ℕ) (z : ℤ) → Width w → outside s w z ≡ false → read_as s w (twos_complement w z) ≡ z
read_back false w (pos n) k e = ap pos (mod-eq_of_lt (leb-false (2 ^ w) n (sym (outside_unsigned w n) ∙ e)))
read_back false w (negsuc n) k e = absurd (true≢false e)
read_back true w z k e = signed_complement w z k (leb-false (2 ^ (w - 1)) (mag z) (sym (outside_signed w z) ∙ e))

within : (s : Bool) (w a : ℕ) → Width w → a < 2 ^ w → outside s w (read_as s w a) ≡ false
within false w a k h = outside_unsigned w a ∙ lt-leb (2 ^ w) a h
within true w a k h = outside_signed w (signed_value w a) ∙ lt-leb (2 ^ (w - 1)) (mag (signed_value w a)) (signed_range w a k h)

pub detects : (o : Detector) (w v a b c : ℕ) → Detects o w v a b c
detects o w v a b c =
    record {
      one = λ e. fact (is_signed o) w (whole_result o w a b) (bit_one (overflows o w a b) e);
      is_one = λ h. ap bit (test (is_signed o) w (whole_result o w a b) h);
    }

pub exact : (o : Detector) (w v a b c : ℕ) → Width w → a < 2 ^ w → b < 2 ^ w → HasResult o b → Exact o w v a b c
exact o w v a b c k ha hb f =
    let s = is_signed o in
    let z = whole_result o w a b in
    let e : read_as s w (circ (watched o) w v a b c) ≡ read_as s w (twos_complement w z) = ap (read_as s w) (watched_word o w v a b c k ha hb f) in
    record {
      zero = λ q. e ∙ read_back s w z k (bit_zero (overflows o w a b) q);
      is_zero = λ q. ap bit (subst (λ (x : ℤ). outside s w x ≡ false) (sym e ∙ q) (within s w (twos_complement w z) k (complement_lt w z)));
    }

-- ---- "for sdivo that is the least value divided by -1, and division by 0 is 0"

module _ (w v c : ℕ) (k : Width w) where
  pub sdivo_by_zero : (a : ℕ) → a < 2 ^ w → circ (overflow sdivo) w v a 0 c ≡ 0
  sdivo_by_zero a h = ap bit (sym (sdivo_else (record { width = k; first = h; second = pow_pos w }) refl refl (λ e f. omega (arith, half w k.least, pow_pos (w - 1)))))

  pub sdivo_one : circ (overflow sdivo) w v (2 ^ (w - 1)) (2 ^ w - 1) c ≡ 1
  sdivo_one =
      let m = 2 ^ w - 1 in
      let e : 2 ^ (w - 1) ≡ m / 2 ^ 1 + 1 = omega (arith, half w k.least, pow_pos (w - 1)) in
      ap bit (sym (sdivo_least (record { width = k; first = omega (arith, half w k.least, pow_pos (w - 1)); second = omega (arith, pow_pos w) }) refl refl e refl))

  pub sdivo_only : (a b : ℕ) → a < 2 ^ w → b < 2 ^ w → circ (overflow sdivo) w v a b c ≡ 1 → (a ≡ 2 ^ (w - 1)) × (b ≡ 2 ^ w - 1)
  sdivo_only a b ha hb q = go (eqb a (m / 2 ^ 1 + 1)) (eqb b m) refl refl
    where
      m : ℕ
      m = 2 ^ w - 1

      none : (a ≡ m / 2 ^ 1 + 1 → b ≡ m → ⊥) → ⊥
      none f = let z : ◌≡◌ {A = ℕ} 0 1 = ap bit (sdivo_else (record { width = k; first = ha; second = hb }) refl refl f) ∙ q in omega arith

      go : (s t : Bool) → eqb a (m / 2 ^ 1 + 1) ≡ s → eqb b m ≡ t → (a ≡ 2 ^ (w - 1)) × (b ≡ 2 ^ w - 1)
      go true true e f = let x = eqb-true a (m / 2 ^ 1 + 1) e in (omega (arith, half w k.least, pow_pos (w - 1)), eqb-true b m f)
      go true false e f = absurd (none (λ x y. eqb-false b m f y))
      go false t e f = absurd (none (λ x y. eqb-false a (m / 2 ^ 1 + 1) e x))
