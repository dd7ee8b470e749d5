-- Bytes that go to a text one after the other, and how long a text can be. Assumes nothing.
use Rattle.std.specs.Prelude.{Result, Ok, Err}
use mathlib.Core.Path.{◌≡◌, refl, sym, ap, ◌∙◌, subst}
use mathlib.Core.Bool.{Bool, true, false}
use mathlib.Core.List.{List, [], ◌∷◌, ◌++◌, append_assoc, append-nil}
use Prim.Native.Nat.{ℕ, zero, suc, ◌+◌, ◌-◌, ◌*◌, ◌/◌, ◌%◌, ◌^◌, ◌≤◌, ◌<◌, zero-le}
use native.Mathlib.Omega.{arith}
use native.Mathlib.Numerals.{add-one}
use native.Mathlib.Nat.{div-lt_iff_lt-mul, pow-succ', mul_comm, le_trans, suc-mul, mul-suc, mul-le-mul_right}
use lib.Dec.{T, leb, ltb, leb→le, lit<, lit≤}
use lib.ListN.{length, drop, get_or, set, drop_of_length-le, length-append, length-drop, length-replicate, replicate}
use lib.Seq.{drop-cons, sets, sets-eq, length-sets}
use borrow.Author.Tests.{lt-ltb, le-ltb, ltb-false, le-leb, lt-leb, leb-true, leb-false}
use Rattle.tables.specs.declared.Refusal.{Refusal}
use Rattle.tables.specs.declared.Refusal.TheVariants.{TextBuffer}
use Rattle.tables.specs.Kinds.{row_of, word_of, operand_count}
use Rattle.tables.specs.Lines.{line_of, kind_in}
use Rattle.tables.specs.Layout.{room, record_at, records_of}
use Rattle.tables.specs.Types.{Ctx, no_ctx, ty_at, given, grow}
use Rattle.tables.specs.Tables.{known, formed, keeps, lawful, checked}
use Rattle.tables.specs.Answers.{told}
use Rattle.tables.proofs.Outcomes.{told_as}
use Rattle.tables.proofs.Every.{every, at_each}
use Rattle.tables.proofs.Kept.{both, known_range}
use Rattle.tables.proofs.Places.{length_records, record_at_lem}
use Rattle.tables.proofs.Checking.{roomy}
use Rattle.texts.specs.Forms.{sorted, first_of, numbers_of}
use Rattle.texts.specs.Split.{spaced, join}
use Rattle.texts.specs.Decimal.{digits, digits_f}
use Rattle.texts.specs.Writing.{numbers, kind_tokens, tokens_of, write_from, write_text, Out, wrote, refuse, fitted, write_table, write_answer, buffer_of, writes}
use Rattle.texts.proofs.Words.{row_shape, row_kind, sorted_most}
use Rattle.texts.proofs.Bounded.{Good, good_lawful}

-- ---- digits printed

fuel : (f g n : ℕ) → n < f → n < g → digits_f f n ≡ digits_f g n
unfolding digits_f
fuel zero g n h k = absurd (omega arith)
fuel (suc f) zero n h k = absurd (omega arith)
fuel (suc f) (suc g) n h k = go (ltb n 10) refl (λ l. fuel f g (n / 10) (omega arith) (omega arith))
  where
    go : (q : Bool) → ltb n 10 ≡ q → (10 ≤ n → digits_f f (n / 10) ≡ digits_f g (n / 10)) → digits_f (suc f) n ≡ digits_f (suc g) n
    go true e r = rw (e, digits_f) refl
    go false e r = rw (e, digits_f) (ap (λ (x : List ℕ). x ++ ((48 + n % 10) ∷ [])) (r (ltb-false n 10 e)))

pub digits_small : (v : ℕ) → v ≤ 9 → digits v ≡ (48 + v) ∷ []
unfolding digits digits_f
digits_small v h = rw (lt-ltb v 10 (omega arith), digits_f) refl

pub digits_more : (v : ℕ) → 9 < v → digits v ≡ digits (v / 10) ++ ((48 + v % 10) ∷ [])
unfolding digits digits_f
digits_more v h = rw (le-ltb v 10 h, digits_f) (ap (λ (x : List ℕ). x ++ ((48 + v % 10) ∷ [])) (fuel v (suc (v / 10)) (v / 10) (omega arith) (omega arith)))

pub sets_append : (l : List ℕ) (i : ℕ) (a b : List ℕ) → sets l i (a ++ b) ≡ sets (sets l i a) (i + length a) b
sets_append l i [] b = ap (λ (n : ℕ). sets l n b) (omega arith)
sets_append l i (x ∷ a) b =
    sets_append (set l i x) (suc i) a b ∙ ap (λ (n : ℕ). sets (sets (set l i x) (suc i) a) n b) (omega arith)

pub more_length : (v : ℕ) → 9 < v → length (digits v) ≡ length (digits (v / 10)) + 1
more_length v h = ap length (digits_more v h) ∙ length-append (digits (v / 10)) _

-- ---- bytes stored one after the other

-- one byte of w goes out: what is left to store is from the next place on
module _ (w : List ℕ) (i : ℕ) (h : i < length w) (l : List ℕ) (p : ℕ) where
  pub out_byte : sets l p (drop i w) ≡ sets (set l p (get_or w i 0)) (p + 1) (drop (i + 1) w)
  out_byte = rw (add-one p, add-one i, drop-cons w i 0 h) refl

  pub out_less : p + length (drop i w) ≡ p + 1 + length (drop (i + 1) w)
  out_less = omega (arith, length-drop i w, length-drop (i + 1) w)

pub out_none : (w : List ℕ) (i : ℕ) (l : List ℕ) (p : ℕ) → length w ≤ i → sets l p (drop i w) ≡ l
out_none w i l p h = rw (drop_of_length-le w h) refl

pub kind_sort : (k : ℕ) → k ≤ 2 → spaced (kind_tokens k) ≡ 32 ∷ 115 ∷ 111 ∷ 114 ∷ 116 ∷ 32 ∷ word_of (row_of k)
kind_sort k h = rw (le-leb k 2 h, append-nil (word_of (row_of k))) refl

pub kind_word : (k : ℕ) → 2 < k → spaced (kind_tokens k) ≡ 32 ∷ word_of (row_of k)
kind_word k h = rw (lt-leb k 2 h, append-nil (word_of (row_of k))) refl

pub spaced_append : (a b : List (List ℕ)) → spaced (a ++ b) ≡ spaced a ++ spaced b
spaced_append [] b = refl
spaced_append (t ∷ a) b = ap (λ (x : List ℕ). 32 ∷ x) (ap (λ (x : List ℕ). t ++ x) (spaced_append a b) ∙ sym (append_assoc t (spaced a) (spaced b)))

-- of m numbers from the place j on, k are passed
module _ (m j k : ℕ) (rec : List ℕ) where
  pub numbers_none : m ≤ k → numbers (m - k) (j + k) rec ≡ []
  numbers_none h = let q : m - k ≡ 0 = omega arith in ap (λ (n : ℕ). numbers n (j + k) rec) q

  module _ (h : k < m) (l : List ℕ) (p : ℕ) where
    abbrev num : List ℕ
    num = digits (get_or rec (j + k) 0)

    abbrev others : List ℕ
    others = spaced (numbers (m - (k + 1)) (j + (k + 1)) rec)

    numbers_step : numbers (m - k) (j + k) rec ≡ num ∷ numbers (m - (k + 1)) (j + (k + 1)) rec
    numbers_step =
        let q : m - k ≡ suc (m - (k + 1)) = omega arith in
        let i : suc (j + k) ≡ j + (k + 1) = omega arith in
        ap (λ (n : ℕ). numbers n (j + k) rec) q ∙ ap (λ (n : ℕ). num ∷ numbers (m - (k + 1)) n rec) i

    pub number_less : p + length (spaced (numbers (m - k) (j + k) rec)) ≡ p + 1 + length num + length others
    number_less = omega (arith, ap (λ (x : List (List ℕ)). length (spaced x)) numbers_step, length-append num others)

    pub number_out : sets l p (spaced (numbers (m - k) (j + k) rec)) ≡ sets (sets (set l p 32) (p + 1) num) (p + 1 + length num) others
    number_out =
        ap (λ (x : List (List ℕ)). sets l p (spaced x)) numbers_step
        ∙ (sets_append (set l p 32) (suc p) num others
        ∙ ap (λ (n : ℕ). sets (sets (set l p 32) n num) (n + length num) others) (sym (add-one p)))

-- one run of bytes after the other
pub and_then : (l : List ℕ) (p : ℕ) (a l₁ : List ℕ) (p₁ : ℕ) (b l₂ : List ℕ) (p₂ : ℕ) → (p₁ ≡ p + length a) × (l₁ ≡ sets l p a) → (p₂ ≡ p₁ + length b) × (l₂ ≡ sets l₁ p₁ b)
    → (p₂ ≡ p + length (a ++ b)) × (l₂ ≡ sets l p (a ++ b))
and_then l p a l₁ p₁ b l₂ p₂ h k = (
  omega (arith, h.0, k.0, length-append a b),
  k.1 ∙ (ap (λ (x : List ℕ). sets x p₁ b) h.1 ∙ (ap (λ (n : ℕ). sets (sets l p a) n b) h.0 ∙ sym (sets_append l p a b))),
)

-- what holds of a kind's row
pub row_fit : (k : ℕ) → 1 ≤ k → k ≤ 63 → (get_or (row_of k) 0 0 ≤ 10) × (operand_count (row_of k) ≤ 3)
row_fit k a b = subst (λ (x : List ℕ). (get_or x 0 0 ≤ 10) × (operand_count x ≤ 3)) (row_kind k b) (row_shape k a (omega arith))

pub row_words : (r : List ℕ) (k : ℕ) → r ≡ row_of k → 1 ≤ k → k ≤ 63 → get_or r 0 0 ≤ 10
row_words r k e a b = subst (λ (x : List ℕ). get_or x 0 0 ≤ 10) (sym e) (row_fit k a b).0

-- a line, from its parts; s says whether the row r has a sort
module _ (id : ℕ) (rec r : List ℕ) (s : ℕ) (er : r ≡ row_of (kind_in rec)) (es : s ≡ sorted r) where
  abbrev nums : List ℕ
  nums = spaced (numbers (s + operand_count r) (2 - s) rec)

  same_nums : spaced (numbers (s + operand_count r) (2 - s) rec) ≡ spaced (numbers (numbers_of (row_of (kind_in rec))) (first_of (row_of (kind_in rec))) rec)
  same_nums = ap (λ (x : ℕ). spaced (numbers (x + operand_count r) (2 - x) rec)) es ∙ ap (λ (x : List ℕ). spaced (numbers (numbers_of x) (first_of x) rec)) er

  pub line_bytes : ((digits id ++ spaced (kind_tokens (kind_in rec))) ++ spaced (numbers (s + operand_count r) (2 - s) rec)) ++ (10 ∷ []) ≡ join (tokens_of id rec) ++ (10 ∷ [])
  line_bytes =
      ap (λ (x : List ℕ). ((digits id ++ spaced (kind_tokens (kind_in rec))) ++ x) ++ (10 ∷ [])) same_nums
      ∙ ap (λ (x : List ℕ). x ++ (10 ∷ []))
      (append_assoc (digits id) (spaced (kind_tokens (kind_in rec))) (spaced (numbers (numbers_of (row_of (kind_in rec))) (first_of (row_of (kind_in rec))) rec))
      ∙ ap (λ (x : List ℕ). digits id ++ x) (sym (spaced_append (kind_tokens (kind_in rec)) (numbers (numbers_of (row_of (kind_in rec))) (first_of (row_of (kind_in rec))) rec))))

  pub line_length : length (join (tokens_of id rec) ++ (10 ∷ [])) ≡ length (digits id) + length (spaced (kind_tokens (kind_in rec))) + length (spaced (numbers (s + operand_count r) (2 - s) rec)) + 1
  line_length =
      sym (ap length line_bytes)
      ∙ (length-append ((digits id ++ spaced (kind_tokens (kind_in rec))) ++ nums) (10 ∷ [])
      ∙ omega (arith, length-append (digits id ++ spaced (kind_tokens (kind_in rec))) nums, length-append (digits id) (spaced (kind_tokens (kind_in rec)))))

  -- the parts were put one after the other
  pub line_put : (l : List ℕ) (p : ℕ) {l₁ l₂ l₃ l₄ : List ℕ} {p₁ p₂ p₃ p₄ : ℕ} → (p₁ ≡ p + length (digits id)) × (l₁ ≡ sets l p (digits id))
      → (p₂ ≡ p₁ + length (spaced (kind_tokens (kind_in rec)))) × (l₂ ≡ sets l₁ p₁ (spaced (kind_tokens (kind_in rec))))
      → (p₃ ≡ p₂ + length (spaced (numbers (s + operand_count r) (2 - s) rec))) × (l₃ ≡ sets l₂ p₂ (spaced (numbers (s + operand_count r) (2 - s) rec)))
      → (p₄ ≡ p₃ + 1) × (l₄ ≡ set l₃ p₃ 10) → (p₄ ≡ p + length (join (tokens_of id rec) ++ (10 ∷ []))) × (l₄ ≡ sets l p (join (tokens_of id rec) ++ (10 ∷ [])))
  line_put l p {l₁} {l₂} {l₃} {l₄} {p₁} {p₂} {p₃} {p₄} a b c d =
      let x = and_then l p (digits id) l₁ p₁ (spaced (kind_tokens (kind_in rec))) l₂ p₂ a b in
      let y = and_then l p (digits id ++ spaced (kind_tokens (kind_in rec))) l₂ p₂ nums l₃ p₃ x c in
      let z = and_then l p ((digits id ++ spaced (kind_tokens (kind_in rec))) ++ nums) l₃ p₃ (10 ∷ []) l₄ p₄ y d in
      subst (λ (u : List ℕ). (p₄ ≡ p + length u) × (l₄ ≡ sets l p u)) line_bytes z

-- ---- how long a text can be

ten_more : (v j : ℕ) → v < 10 ^ suc j → v / 10 < 10 ^ j
ten_more v j h = (div-lt_iff_lt-mul (lit< tt)).1 (subst (λ (x : ℕ). v < x) (pow-succ' 10 j ∙ mul_comm 10 (10 ^ j)) h)

-- a number below ten to the j + 1 has at most j + 1 digits
pub digits_length : (j v : ℕ) → v < 10 ^ suc j → length (digits v) ≤ suc j
digits_length zero v h = omega (arith, ap length (digits_small v (omega arith)))
digits_length (suc j) v h = go (leb v 9) refl (λ l. digits_length j (v / 10) (ten_more v (suc j) h))
  where
    go : (q : Bool) → leb v 9 ≡ q → (9 < v → length (digits (v / 10)) ≤ suc j) → length (digits v) ≤ suc (suc j)
    go true e r = omega (arith, ap length (digits_small v (leb-true v 9 e)))
    go false e r = let l : 9 < v = leb-false v 9 e in omega (arith, more_length v l, r l)

pub digits_most : (v : ℕ) → v < 2 ^ 64 → length (digits v) ≤ 20
digits_most v h = digits_length 19 v (le_trans h (lit≤ tt))

-- numbers of at most d digits, with a space before each
pub numbers_most : (d m j : ℕ) (rec : List ℕ) → ((i : ℕ) → length (digits (get_or rec i 0)) ≤ d) → length (spaced (numbers m j rec)) ≤ m * suc d
numbers_most d zero j rec h = zero-le
numbers_most d (suc m) j rec h =
    let r = numbers_most d m (suc j) rec h in
    omega (arith, h j, r, suc-mul m (suc d), length-append (digits (get_or rec j 0)) (spaced (numbers m (suc j) rec)))

-- the words of a kind are at most 12 bytes, by one computed test
kind_short : ℕ → Bool
kind_short i = leb (length (spaced (kind_tokens (suc i)))) 12

kinds_short : T (every kind_short 63)
unfolding kind_short row_of
kinds_short = tt

pub kind_most : (k : ℕ) → 1 ≤ k → k ≤ 63 → length (spaced (kind_tokens k)) ≤ 12
unfolding kind_short
kind_most zero a b = absurd (omega arith)
kind_most (suc i) a b = leb→le (length (spaced (kind_tokens (suc i)))) 12 (at_each kind_short 63 kinds_short i (omega arith))

-- a line whose numbers have at most d digits
pub line_within : (d id : ℕ) (rec : List ℕ) → 1 ≤ kind_in rec → kind_in rec ≤ 63 → ((i : ℕ) → length (digits (get_or rec i 0)) ≤ d)
    → length (join (tokens_of id rec) ++ (10 ∷ [])) ≤ length (digits id) + 12 + 4 * suc d + 1
line_within d id rec a b h =
    let m : ℕ = numbers_of (row_of (kind_in rec)) in
    let l : m ≤ 4 = omega (arith, sorted_most (row_of (kind_in rec)), (row_fit (kind_in rec) a b).1) in
    omega (
      arith,
      line_length id rec (row_of (kind_in rec)) (sorted (row_of (kind_in rec))) refl refl,
      kind_most (kind_in rec) a b,
      numbers_most d m (first_of (row_of (kind_in rec))) rec h,
      mul-le-mul_right (suc d) l,
    )

-- a line is at most 128 bytes long
pub line_most : (id : ℕ) (rec : List ℕ) → id < 2 ^ 64 → 1 ≤ kind_in rec → kind_in rec ≤ 63 → ((i : ℕ) → get_or rec i 0 < 2 ^ 64)
    → length (join (tokens_of id rec) ++ (10 ∷ [])) ≤ 128
line_most id rec n a b h = omega (arith, line_within 20 id rec a b (λ i. digits_most (get_or rec i 0) (h i)), digits_most id n)

-- a text is at most so many bytes a record long as each of its lines
pub text_none : (n w : ℕ) → length (write_from n []) ≤ w * length {A = List ℕ} []
unfolding write_from
text_none n w = zero-le

pub text_more : (n : ℕ) (r : List ℕ) (rs : List (List ℕ)) (w : ℕ) → length (join (tokens_of n r) ++ (10 ∷ [])) ≤ w → length (write_from (suc n) rs) ≤ w * length rs
    → length (write_from n (r ∷ rs)) ≤ w * length (r ∷ rs)
unfolding write_from
text_more n r rs w h k =
    let q : join (tokens_of n r) ++ 10 ∷ write_from (suc n) rs ≡ (join (tokens_of n r) ++ (10 ∷ [])) ++ write_from (suc n) rs = sym (append_assoc (join (tokens_of n r)) (10 ∷ []) (write_from (suc n) rs)) in
    omega (arith, ap length q, length-append (join (tokens_of n r) ++ (10 ∷ [])) (write_from (suc n) rs), h, k, mul-suc w (length rs))

-- the kind of a record that keeps the rules
pub kept_kind : (c : Ctx) (r : List ℕ) → keeps false (ty_at c) (given c) r ≡ true → (1 ≤ kind_in r) × (kind_in r ≤ 63)
kept_kind c r e = known_range false (kind_in r) (both (known false (kind_in r)) _ (both (formed false r) _ e).0).0

pub lawful_kind : (c : Ctx) (rs : List (List ℕ)) (i : ℕ) → lawful false c rs ≡ true → i < length rs → (1 ≤ kind_in (get_or rs i [])) × (kind_in (get_or rs i []) ≤ 63)
lawful_kind c [] i e h = absurd (omega arith)
lawful_kind c (r ∷ rs) zero e h = kept_kind c r (both (keeps false (ty_at c) (given c) r) _ e).0
lawful_kind c (r ∷ rs) (suc i) e h = lawful_kind (grow false c (line_of r)) rs i (both (keeps false (ty_at c) (given c) r) _ e).1 (omega arith)

-- a text is at most 128 bytes a record long
pub text_most : (c : Ctx) (rs : List (List ℕ)) (n : ℕ) → Good rs → lawful false c rs ≡ true → n + length rs ≤ 16385 → length (write_from n rs) ≤ 128 * length rs
text_most c [] n g e h = text_none n 128
text_most c (r ∷ rs) n g e h =
    let k = both (keeps false (ty_at c) (given c) r) _ e in
    let a = kept_kind c r k.0 in
    text_more n r rs 128 (line_most n r (omega arith) a.0 a.1 g.0.1) (text_most (grow false c (line_of r)) rs (suc n) g.1 k.1 (omega arith))

-- ---- the records from a place on

module _ (rs : List (List ℕ)) (p : ℕ) (h : p < length rs) (r : List ℕ) (e : r ≡ get_or rs p []) where
  abbrev bytes : List ℕ
  bytes = join (tokens_of (p + 1) r) ++ (10 ∷ [])

  abbrev later : List ℕ
  later = write_from (p + 1 + 1) (drop (p + 1) rs)

  write_step : write_from (p + 1) (drop p rs) ≡ bytes ++ later
  unfolding write_from
  write_step =
      ap (write_from (p + 1)) (drop-cons rs p [] h)
      ∙ (ap (λ (x : List ℕ). join (tokens_of (p + 1) x) ++ 10 ∷ write_from (suc (p + 1)) (drop (suc p) rs)) (sym e)
      ∙ (ap (λ (k : ℕ). join (tokens_of (p + 1) r) ++ 10 ∷ write_from (suc (p + 1)) (drop k rs)) (sym (add-one p))
      ∙ (ap (λ (k : ℕ). join (tokens_of (p + 1) r) ++ 10 ∷ write_from k (drop (p + 1) rs)) (sym (add-one (p + 1)))
      ∙ sym (append_assoc (join (tokens_of (p + 1) r)) (10 ∷ []) later))))

  pub lines_less : (at : ℕ) → at + length (write_from (p + 1) (drop p rs)) ≡ at + length bytes + length later
  lines_less at = omega (arith, ap length write_step, length-append bytes later)

  pub lines_out : (l : List ℕ) (at : ℕ) → sets l at (write_from (p + 1) (drop p rs)) ≡ sets (sets l at bytes) (at + length bytes) later
  lines_out l at = ap (sets l at) write_step ∙ sets_append l at bytes later

pub lines_none : (rs : List (List ℕ)) (p : ℕ) → length rs ≤ p → write_from (p + 1) (drop p rs) ≡ []
unfolding write_from
lines_none rs p h = ap (write_from (p + 1)) (drop_of_length-le rs h)

-- where writing stands before a record: what is to be stored from the start is what was stored with what is left
pub record Before (t : List ℕ) (n : ℕ) (out₀ out : List ℕ) (at p : ℕ) : Type 0 where
  pub most : p ≤ n
  pub size : length out ≡ length out₀
  pub short : length (write_from 1 (records_of false t n)) < 2 ^ 63
  pub rest : length (write_from 1 (records_of false t n)) ≡ at + length (write_from (p + 1) (drop p (records_of false t n)))
  pub stored : sets out₀ 0 (write_from 1 (records_of false t n)) ≡ sets out at (write_from (p + 1) (drop p (records_of false t n)))

pub before_all : (t : List ℕ) (n : ℕ) (out : List ℕ) → n ≤ room false (length t) → lawful false no_ctx (records_of false t n) ≡ true → Before t n out out 0 0
before_all t n out few law =
    let m = text_most no_ctx (records_of false t n) 1 (good_lawful t n (roomy false (length t) n few).0 law) law (omega (arith, length_records false t n)) in
    record {
      most = zero-le;
      size = refl;
      short = omega (arith, m, length_records false t n);
      rest = omega arith;
      stored = refl;
    }

module _ {t : List ℕ} {n : ℕ} {out₀ out : List ℕ} {at p : ℕ} (B : Before t n out₀ out at p) where
  pub after_all : n ≤ p → (at ≡ length (write_text (records_of false t n))) × (out ≡ sets out₀ 0 (write_text (records_of false t n)))
  unfolding write_text
  after_all h =
      let q = lines_none (records_of false t n) p (omega (arith, length_records false t n)) in
      (omega (arith, B.rest, ap length q), sym (B.stored ∙ ap (sets out at) q))

  module _ (law : lawful false no_ctx (records_of false t n) ≡ true) (l : p < n) (r : List ℕ) (er : r ≡ record_at false t p) where
    inside : p < length (records_of false t n)
    inside = omega (arith, length_records false t n)

    this : r ≡ get_or (records_of false t n) p []
    this = er ∙ sym (record_at_lem false t n p l)

    pub this_kind : (1 ≤ kind_in r) × (kind_in r ≤ 63)
    this_kind = subst (λ (x : List ℕ). (1 ≤ kind_in x) × (kind_in x ≤ 63)) (sym this) (lawful_kind no_ctx (records_of false t n) p law inside)

    pub this_fits : at + length (join (tokens_of (p + 1) r) ++ (10 ∷ [])) < 2 ^ 63
    this_fits = omega (arith, B.short, B.rest, lines_less (records_of false t n) p inside r this at)

    pub next_record : (at₁ : ℕ) (out₁ : List ℕ) → (at₁ ≡ at + length (join (tokens_of (p + 1) r) ++ (10 ∷ []))) × (out₁ ≡ sets out at (join (tokens_of (p + 1) r) ++ (10 ∷ [])))
        → Before t n out₀ out₁ at₁ (p + 1)
    next_record at₁ out₁ o =
        let later : List ℕ = write_from (p + 1 + 1) (drop (p + 1) (records_of false t n)) in
        let bytes : List ℕ = join (tokens_of (p + 1) r) ++ (10 ∷ []) in
        record {
          most = omega arith;
          size = ap length o.1 ∙ (length-sets out at bytes ∙ B.size);
          short = B.short;
          rest = omega (arith, B.rest, lines_less (records_of false t n) p inside r this at, o.0);
          stored =
              B.stored
              ∙ (lines_out (records_of false t n) p inside r this out at
              ∙ (ap (λ (x : List ℕ). sets x (at + length bytes) later) (sym o.1) ∙ ap (λ (k : ℕ). sets out₁ k later) (sym o.0)));
        }

-- ---- the answers

drop_zeros : (k z : ℕ) → drop {A = ℕ} k (replicate z 0) ≡ replicate (z - k) 0
drop_zeros zero z = let q : z ≡ z - 0 = omega arith in ap (λ (j : ℕ). replicate {A = ℕ} j 0) q
drop_zeros (suc k) zero = let q : 0 ≡ 0 - suc k = omega arith in ap (λ (j : ℕ). replicate {A = ℕ} j 0) q
drop_zeros (suc k) (suc z) = let q : z - k ≡ suc z - suc k = omega arith in drop_zeros k z ∙ ap (λ (j : ℕ). replicate {A = ℕ} j 0) q

-- bytes that are stored in zeros
pub sets_zeros : (s : List ℕ) (len : ℕ) → length s ≤ len → sets (replicate len 0) 0 s ≡ s ++ replicate (len - length s) 0
sets_zeros s len h =
    let z : 0 + length s ≤ length (replicate {A = ℕ} len 0) = omega (arith, length-replicate {A = ℕ} len 0) in
    let j : 0 + length s ≡ length s = omega arith in
    sets-eq s (replicate len 0) 0 z ∙ (ap (λ (i : ℕ). s ++ drop i (replicate len 0)) j ∙ ap (λ (y : List ℕ). s ++ y) (drop_zeros (length s) len))

module _ (t : List ℕ) (n len : ℕ) where
  out_as : {a : Result ℕ Refusal} {x : List ℕ} (o : Out) → write_table t n len ≡ o → a ≡ write_answer o → x ≡ buffer_of len o → told a (x ∷ []) ≡ writes t n len
  unfolding writes
  out_as o e h k = told_as h (ap (λ (y : List ℕ). y ∷ []) k) ∙ ap (λ (o : Out). told (write_answer o) (buffer_of len o ∷ [])) (sym e)

  pub out_not : {c : Result (Unit {0}) Refusal} {r : Refusal} {x : List ℕ} → c ≡ checked false t n → c ≡ Err r → x ≡ replicate len 0 → told (Err r) (x ∷ []) ≡ writes t n len
  unfolding write_table
  out_not {r = r} a b e = out_as (refuse r) (rw (sym a ∙ b) refl) refl e

  pub out_short : {c : Result (Unit {0}) Refusal} {x : List ℕ} → c ≡ checked false t n → c ≡ Ok tt → len < length (write_text (records_of false t n)) → x ≡ replicate len 0
      → told (Err TextBuffer) (x ∷ []) ≡ writes t n len
  unfolding write_table
  out_short a b h e = out_as (refuse TextBuffer) (rw (sym a ∙ b, lt-leb (length (write_text (records_of false t n))) len h, fitted) refl) refl e

  pub out_written : {c : Result (Unit {0}) Refusal} (m : ℕ) {x : List ℕ} → c ≡ checked false t n → c ≡ Ok tt → m ≡ length (write_text (records_of false t n)) → m ≤ len
      → x ≡ sets (replicate len 0) 0 (write_text (records_of false t n)) → told (Ok m) (x ∷ []) ≡ writes t n len
  unfolding write_table
  out_written m a b q h e =
      let k : length (write_text (records_of false t n)) ≤ len = omega arith in
      out_as (wrote (write_text (records_of false t n))) (rw (sym a ∙ b, le-leb (length (write_text (records_of false t n))) len k, fitted) refl) (ap Ok q) (e ∙ sets_zeros (write_text (records_of false t n)) len k)
