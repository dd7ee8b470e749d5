-- Bytes and digits from a place of a token or a line on. Assumes nothing.
use mathlib.Core.Path.{◌≡◌, refl, sym, ap, ◌∙◌}
use mathlib.Core.Bool.{Bool, true, false, ◌&&◌}
use mathlib.Core.List.{List, [], ◌∷◌}
use Prim.Native.Nat.{ℕ, zero, suc, ◌+◌, ◌-◌, ◌*◌, ◌/◌, ◌^◌, ◌≤◌, ◌<◌}
use native.Mathlib.Omega.{arith}
use native.Mathlib.Numerals.{add-one}
use native.Mathlib.Nat.{le_refl, le_trans, mul-suc, suc-mul, mul_assoc, pow-zero, pow-succ', pow-le-pow_right, mul-le-mul_right, one-mul, le-div_iff_mul-le, div-lt_iff_lt-mul}
use lib.Dec.{eqb, leb, ltb, lit≤}
use lib.ListN.{length, drop, get_or, set, replicate, drop_of_length-le}
use lib.Seq.{drop-cons}
use borrow.Author.Tests.{eq-eqb, ne_eqb, eqb-true, lt-ltb, le-ltb, le-leb, lt-leb, ltb-true, ltb-false}
use Rattle.tables.specs.Kinds.{class_at, names_line}
use Rattle.tables.proofs.Laws.{and_false}
use Rattle.std.specs.Prelude.{Ok, Err}
use Rattle.texts.specs.declared.NumberError.TheVariants.{Malformed, TooLarge}
use Rattle.texts.specs.Split.{split, up_to, tokens}
use Rattle.texts.specs.Decimal.{digit, all_in, value_from, valued, scanned, decimal, digits_in}
use Rattle.texts.specs.Forms.{form_row}
use Rattle.texts.specs.Minus.{no_signs}
use Rattle.texts.specs.Reading.{leads_minus, sign_at, plain_at, number_at, signs_from}

module _ (b : ℕ) (s : List ℕ) (i : ℕ) where
  pub up_to_hit : i < length s → get_or s i 0 ≡ b → up_to b (drop i s) ≡ []
  unfolding up_to
  up_to_hit l e = rw (drop-cons s i 0 l) (rw (eq-eqb (get_or s i 0) b e, up_to) refl)

  pub up_to_miss : i < length s → (get_or s i 0 ≡ b → ⊥) → up_to b (drop i s) ≡ get_or s i 0 ∷ up_to b (drop (i + 1) s)
  unfolding up_to
  up_to_miss l e = rw (add-one, drop-cons s i 0 l) (rw (ne_eqb (get_or s i 0) b e, up_to) refl)

  pub up_to_end : length s ≤ i → up_to b (drop i s) ≡ []
  unfolding up_to
  up_to_end l = rw (drop_of_length-le s l) refl

module _ (s : List ℕ) (i : ℕ) where
  pub space_skipped : i < length s → get_or s i 0 ≡ 32 → tokens (drop (i + 1) s) ≡ tokens (drop i s)
  unfolding tokens split
  space_skipped l e = rw (add-one, drop-cons s i 0 l) (rw (eq-eqb (get_or s i 0) 32 e, split) refl)

-- ---- digits

module _ (b : ℕ) (s : List ℕ) (i : ℕ) where
  pub in_more : i < length s → digit (get_or s i 0) < b → all_in b (drop i s) ≡ all_in b (drop (i + 1) s)
  unfolding all_in
  in_more l h = rw (add-one, drop-cons s i 0 l) (rw (lt-ltb (digit (get_or s i 0)) b h) refl)

  pub in_not : i < length s → b ≤ digit (get_or s i 0) → all_in b (drop i s) ≡ false
  unfolding all_in
  in_not l h = rw (drop-cons s i 0 l) (rw (le-ltb (digit (get_or s i 0)) b h) refl)

  pub in_end : length s ≤ i → all_in b (drop i s) ≡ true
  unfolding all_in
  in_end l = rw (drop_of_length-le s l) refl

  pub value_more : (v : ℕ) → i < length s → value_from b v (drop i s) ≡ value_from b (v * b + digit (get_or s i 0)) (drop (i + 1) s)
  unfolding value_from
  value_more v l = rw (add-one, drop-cons s i 0 l) refl

  pub value_end : (v : ℕ) → length s ≤ i → value_from b v (drop i s) ≡ v
  unfolding value_from
  value_end v l = rw (drop_of_length-le s l) refl

module _ (c : ℕ) where
  pub digit_1 : c < 48 → digit c ≡ 99
  unfolding digit
  digit_1 h = rw (lt-leb 48 c h, digit) (rw (lt-leb 65 c (omega arith)) (rw (lt-leb 97 c (omega arith)) refl))

  pub digit_2 : 48 ≤ c → c ≤ 57 → digit c ≡ c - 48
  unfolding digit
  digit_2 h k = rw (le-leb 48 c h, le-leb c 57 k, digit) refl

  pub digit_3 : 57 < c → c < 65 → digit c ≡ 99
  unfolding digit
  digit_3 h k = rw (le-leb 48 c (omega arith), lt-leb c 57 h, digit) (rw (lt-leb 65 c k) (rw (lt-leb 97 c (omega arith)) refl))

  pub digit_4 : 65 ≤ c → c ≤ 70 → digit c ≡ c - 55
  unfolding digit
  digit_4 h k = rw (le-leb 48 c (omega arith), lt-leb c 57 (omega arith), digit) (rw (le-leb 65 c h, le-leb c 70 k) refl)

  pub digit_5 : 70 < c → c < 97 → digit c ≡ 99
  unfolding digit
  digit_5 h k = rw (le-leb 48 c (omega arith), lt-leb c 57 (omega arith), digit) (rw (le-leb 65 c (omega arith), lt-leb c 70 h) (rw (lt-leb 97 c k) refl))

  pub digit_6 : 97 ≤ c → c ≤ 102 → digit c ≡ c - 87
  unfolding digit
  digit_6 h k = rw (le-leb 48 c (omega arith), lt-leb c 57 (omega arith), digit) (rw (le-leb 65 c (omega arith), lt-leb c 70 (omega arith)) (rw (le-leb 97 c h, le-leb c 102 k) refl))

  pub digit_7 : 102 < c → digit c ≡ 99
  unfolding digit
  digit_7 h = rw (le-leb 48 c (omega arith), lt-leb c 57 (omega arith), digit) (rw (le-leb 65 c (omega arith), lt-leb c 70 (omega arith)) (rw (le-leb 97 c (omega arith), lt-leb c 102 h) refl))

pub value_least : (b v : ℕ) (t : List ℕ) → 1 ≤ b → v ≤ value_from b v t
unfolding value_from
value_least b v [] h = le_refl v
value_least b v (c ∷ t) h = le_trans (grown b h v) (value_least b (v * b + digit c) t h)
  where
    grown : (b : ℕ) → 1 ≤ b → (v : ℕ) → v ≤ v * b + digit c
    grown zero h v = absurd (omega arith)
    grown (suc n) h v = omega (arith, mul-suc v n)

-- v * b + d is below 2 ^ 64, or not
pub room_of : (v d b : ℕ) → 1 ≤ b → v ≤ (18446744073709551615 - d) / b → v * b ≤ 18446744073709551615 - d
room_of v d b p h = (le-div_iff_mul-le p).0 h

pub over_of : (v d b : ℕ) → 1 ≤ b → (18446744073709551615 - d) / b < v → 2 ^ 64 ≤ v * b + d
over_of v d b p h = let k = (div-lt_iff_lt-mul p).0 h in omega arith

pub value_big : (b : ℕ) (t : List ℕ) → 2 ^ 64 ≤ value_from b 0 t → valued b t ≡ Err TooLarge
unfolding valued
value_big b t h = rw (le-ltb (value_from b 0 t) (2 ^ 64) h, valued) refl

pub value_small : (b : ℕ) (t : List ℕ) (v : ℕ) → value_from b 0 t ≡ v → v < 2 ^ 64 → valued b t ≡ Ok v
unfolding valued
value_small b t v e h = rw (e, lt-ltb v (2 ^ 64) h, valued) (ap Ok e)

pub scan_true : (b : ℕ) (t : List ℕ) → all_in b t ≡ true → scanned b t ≡ valued b t
unfolding scanned
scan_true b t h = rw (h, scanned) refl

pub scan_false : (b : ℕ) (t : List ℕ) → all_in b t ≡ false → scanned b t ≡ Err Malformed
unfolding scanned
scan_false b t h = rw (h, scanned) refl

pub decimal_none : (t : List ℕ) → length t ≡ 0 → decimal t ≡ Err Malformed
unfolding decimal
decimal_none [] h = refl
decimal_none (c ∷ t) h = absurd (omega arith)

pub decimal_one : (t : List ℕ) → length t ≡ 1 → decimal t ≡ scanned 10 t
unfolding decimal
decimal_one [] h = absurd (omega arith)
decimal_one (c ∷ []) h = refl
decimal_one (c ∷ d ∷ t) h = absurd (omega arith)

pub decimal_lead : (t : List ℕ) → 1 < length t → get_or t 0 0 ≡ 48 → decimal t ≡ Err Malformed
unfolding decimal
decimal_lead [] h e = absurd (omega arith)
decimal_lead (c ∷ []) h e = absurd (omega arith)
decimal_lead (c ∷ d ∷ t) h e = rw (eq-eqb c 48 e, decimal) refl

pub decimal_more : (t : List ℕ) → 1 < length t → (get_or t 0 0 ≡ 48 → ⊥) → decimal t ≡ scanned 10 t
unfolding decimal
decimal_more [] h e = absurd (omega arith)
decimal_more (c ∷ []) h e = absurd (omega arith)
decimal_more (c ∷ d ∷ t) h e = rw (ne_eqb c 48 e, decimal) refl

-- ---- digits of other bases, and the numbers of a line

pub digits_none : (b m : ℕ) (t : List ℕ) → length t ≡ 0 → digits_in b m t ≡ Err Malformed
unfolding digits_in
digits_none b m [] h = refl
digits_none b m (c ∷ t) h = absurd (omega arith)

pub digits_bad : (b m : ℕ) (t : List ℕ) → all_in b t ≡ false → digits_in b m t ≡ Err Malformed
unfolding digits_in
digits_bad b m [] h = refl
digits_bad b m (c ∷ t) h = rw (h, digits_in) refl

pub digits_long : (b m : ℕ) (t : List ℕ) → all_in b t ≡ true → m < length t → digits_in b m t ≡ Err TooLarge
unfolding digits_in
digits_long b m [] h l = absurd (omega arith)
digits_long b m (c ∷ t) h l = rw (h, lt-leb (length (c ∷ t)) m l, digits_in) refl

digits_is : (b m : ℕ) (t : List ℕ) → 0 < length t → all_in b t ≡ true → length t ≤ m → digits_in b m t ≡ Ok (value_from b 0 t)
unfolding digits_in
digits_is b m [] p h l = absurd (omega arith)
digits_is b m (c ∷ t) p h l = rw (h, le-leb (length (c ∷ t)) m l, digits_in) refl

split_in : (b c : ℕ) (t : List ℕ) → all_in b (c ∷ t) ≡ true → (digit c < b) × (all_in b t ≡ true)
unfolding all_in
split_in b c t h = go (ltb (digit c) b) refl h
  where
    go : (q : Bool) → ltb (digit c) b ≡ q → (q && all_in b t) ≡ true → (digit c < b) × (all_in b t ≡ true)
    go true e k = (ltb-true (digit c) b e, k)
    go false e k = let z : ◌≡◌ {A = ℕ} 0 1 = cc in absurd (omega arith)

bound : (b v : ℕ) (t : List ℕ) → all_in b t ≡ true → value_from b v t < suc v * b ^ length t
unfolding value_from
bound b v [] h = rw (pow-zero b) (omega arith)
bound b v (c ∷ t) h =
    let s = split_in b c t h in
    let i : value_from b (v * b + digit c) t < suc (v * b + digit c) * b ^ length t = bound b (v * b + digit c) t s.1 in
    let g : suc (v * b + digit c) ≤ suc v * b = rw (suc-mul v b) (omega arith) in
    let m : suc (v * b + digit c) * b ^ length t ≤ suc v * b * b ^ length t = mul-le-mul_right (b ^ length t) g in
    let e : suc v * b ^ suc (length t) ≡ suc v * b * b ^ length t = rw (pow-succ' b (length t)) (sym (mul_assoc (suc v) b (b ^ length t))) in
    omega arith

pub digits_ok : (b m : ℕ) (t : List ℕ) → 2 ≤ b → b ^ m ≤ 2 ^ 64 → 0 < length t → all_in b t ≡ true → length t ≤ m → digits_in b m t ≡ valued b t
unfolding valued
digits_ok b m t p r n h l =
    let i : value_from b 0 t < 1 * b ^ length t = bound b 0 t h in
    let g : b ^ length t ≤ b ^ m = pow-le-pow_right (le_trans (lit≤ tt) p) l in
    let o : 1 * b ^ length t ≡ b ^ length t = one-mul (b ^ length t) in
    digits_is b m t n h l ∙ sym (rw (lt-ltb (value_from b 0 t) (2 ^ 64) (omega arith), valued) refl)

pub number_binary : (f j : ℕ) (t : List ℕ) → f ≡ 64 → j ≡ 2 → plain_at f j t ≡ digits_in 2 64 t
number_binary f j t e k = rw (eq-eqb f 64 e, eq-eqb j 2 k, plain_at) refl

pub number_hex : (f j : ℕ) (t : List ℕ) → f ≡ 65 → j ≡ 2 → plain_at f j t ≡ digits_in 16 16 t
number_hex f j t e k = rw (ne_eqb f 64 (λ x. omega arith), eq-eqb f 65 e, eq-eqb j 2 k, plain_at) refl

pub number_other : (f j : ℕ) (t : List ℕ) → (f ≡ 64 → ⊥) → (f ≡ 65 → ⊥) → plain_at f j t ≡ decimal t
number_other f j t e k = rw (ne_eqb f 64 e, ne_eqb f 65 k, plain_at) refl

pub number_first : (f j : ℕ) (t : List ℕ) → (j ≡ 2 → ⊥) → plain_at f j t ≡ decimal t
number_first f j t e = rw (ne_eqb j 2 e, and_false (eqb f 64), plain_at) (rw (ne_eqb j 2 e, and_false (eqb f 65)) refl)

-- ---- signs

pub minus_none : (t : List ℕ) → length t ≡ 0 → leads_minus t ≡ false
minus_none [] h = refl
minus_none (c ∷ t) h = absurd (omega arith)

pub minus_other : (t : List ℕ) → (get_or t 0 0 ≡ 45 → ⊥) → leads_minus t ≡ false
minus_other [] n = refl
minus_other (c ∷ t) n = ne_eqb c 45 n

pub minus_first : (t : List ℕ) → get_or t 0 0 ≡ 45 → leads_minus t ≡ true
minus_first [] h = absurd (omega arith)
minus_first (c ∷ t) h = eq-eqb c 45 h

pub minus_some : (t : List ℕ) → leads_minus t ≡ true → 1 ≤ length t
minus_some [] h = let z : ◌≡◌ {A = ℕ} 0 1 = cc in absurd (omega arith)
minus_some (c ∷ t) h = omega arith

-- the class of a place, and whether it names a line
pub class_sort : (r : List ℕ) (j : ℕ) → j ≡ 1 → get_or r 11 0 ≡ class_at r j
class_sort r j e = rw (eq-eqb j 1 e) refl

pub class_operand : (r : List ℕ) (j : ℕ) → (j ≡ 1 → ⊥) → get_or r (11 + j) 0 ≡ class_at r j
class_operand r j n = rw (ne_eqb j 1 n) refl

pub names_none : (k : ℕ) → k ≡ 0 → names_line k ≡ false
names_none k e = ap names_line e

pub names_some : (k : ℕ) → (k ≡ 0 → ⊥) → ltb k 8 ≡ names_line k
names_some k n = go (ltb k 8) refl
  where
    go : (b : Bool) → ltb k 8 ≡ b → b ≡ names_line k
    go true e = sym (rw (le-leb 1 k (omega arith), le-leb k 7 (omega (arith, ltb-true k 8 e))) refl)
    go false e = sym (rw (lt-leb k 7 (omega (arith, ltb-false k 8 e))) (and_false (leb 1 k)))

module _ (f j : ℕ) (t : List ℕ) where
  pub with_sign : sign_at f j t ≡ true → number_at f j t ≡ decimal (drop 1 t)
  with_sign e = rw (e, number_at) refl

  pub without_sign : sign_at f j t ≡ false → number_at f j t ≡ plain_at f j t
  without_sign e = rw (e, number_at) refl

-- a number in digits has no sign
pub number_plain : (t : List ℕ) (v : ℕ) → decimal t ≡ Ok v → leads_minus t ≡ false
unfolding decimal scanned all_in digit
number_plain [] v e = refl
number_plain (c ∷ t) v e = go (eqb c 45) refl
  where
    minus_bad : (t : List ℕ) → decimal (45 ∷ t) ≡ Err Malformed
    minus_bad [] = refl
    minus_bad (d ∷ t) = refl

    go : (b : Bool) → eqb c 45 ≡ b → b ≡ false
    go true h = let z : Err Malformed ≡ Ok v = sym (ap (λ (x : ℕ). decimal (x ∷ t)) (eqb-true c 45 h) ∙ minus_bad t) ∙ e in let w : ◌≡◌ {A = ℕ} 0 1 = cc in absurd (omega arith)
    go false h = refl

-- tokens of which none begins with a minus have no signs
abbrev pub Plain : List (List ℕ) → Type 0
Plain [] = Unit {0}
Plain (t ∷ ts) = (leads_minus t ≡ false) × Plain ts

pub sign_none : (f j : ℕ) (t : List ℕ) → leads_minus t ≡ false → sign_at f j t ≡ false
sign_none f j t h = rw h (and_false (names_line (class_at (form_row f) j)))

set_none : (n j : ℕ) → set (replicate n false) j false ≡ replicate n false
set_none zero j = refl
set_none (suc n) zero = refl
set_none (suc n) (suc j) = ap (λ (l : List Bool). false ∷ l) (set_none n j)

pub signs_none : (f j : ℕ) (ts : List (List ℕ)) → Plain ts → signs_from f j ts no_signs ≡ no_signs
signs_none f j [] p = refl
signs_none f j (t ∷ ts) p = ap (λ (b : Bool). signs_from f (suc j) ts (set no_signs j b)) (sign_none f j t p.0) ∙ (ap (signs_from f (suc j) ts) (set_none 5 j) ∙ signs_none f (suc j) ts p.1)
