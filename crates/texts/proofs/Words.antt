-- Words: a token against the word of a row, the search for a form, and what holds of all rows, each by one computed test. Assumes nothing.
use mathlib.Core.Path.{◌≡◌, refl, sym, ap, ◌∙◌, subst}
use mathlib.Core.Bool.{Bool, true, false, ◌&&◌, ◌||◌, not}
use mathlib.Core.List.{List, [], ◌∷◌, ◌++◌}
use Prim.Native.Nat.{ℕ, zero, suc, ◌+◌, ◌-◌, ◌≤◌, ◌<◌}
use native.Mathlib.Omega.{arith}
use native.Mathlib.Numerals.{add-one}
use lib.Dec.{T, eqb, leb, leb→le, eqb→eq}
use lib.ListN.{length, drop, get_or, drop_of_length-le, length-drop}
use lib.Pointwise.{pointwise}
use lib.Seq.{drop-cons, length-take-le, get_or-take, get_or-drop}
use mir.Facts.{and_yes}
use borrow.Author.Tests.{eq-eqb, ne_eqb, le-leb, lt-leb, leb-true, leb-false}
use Rattle.tables.specs.Pick.{pick}
use Rattle.tables.specs.Kinds.{rows, row_of, word_of, operand_count}
use Rattle.tables.specs.Tables.{known}
use Rattle.tables.proofs.Every.{every, at_each}
use Rattle.tables.proofs.Laws.{not_of_lem, and_false}
use Rattle.tables.proofs.Kept.{known_range}
use Rattle.texts.specs.Forms.{extra, form_row, kind_of, sorted, sort_word}
use Rattle.texts.specs.Split.{same_bytes}
use Rattle.texts.specs.Reading.{find_in, or_else, find_word, Word, word, unknown, form_word, sort_words, word_in, form_of}
use Rattle.texts.specs.Writing.{headed, kind_tokens}
use Rattle.std.specs.Prelude.{Some, None}
use Rattle.texts.specs.Model.Structs.{found as found_form}
use Rattle.texts.proofs.Splitting.{Clean, Tok, Toks}

-- ---- a token against a word

-- the library's test of two slices is this one
pub same_pointwise : (x y : List ℕ) → pointwise eqb x y ≡ same_bytes x y
same_pointwise [] [] = refl
same_pointwise [] (b ∷ y) = refl
same_pointwise (a ∷ x) [] = refl
same_pointwise (a ∷ x) (b ∷ y) = ap (λ (q : Bool). eqb a b && q) (same_pointwise x y)

pub same_not : (x y : List ℕ) → (length x ≡ length y → ⊥) → same_bytes x y ≡ false
same_not [] [] h = absurd (h refl)
same_not [] (b ∷ y) h = refl
same_not (a ∷ x) [] h = refl
same_not (a ∷ x) (b ∷ y) h = rw (same_not x y (λ e. h (ap suc e))) (and_false (eqb a b))

module _ (t w : List ℕ) (i : ℕ) (lt : i < length t) (lw : i < length w) where
  pub same_more : get_or t i 0 ≡ get_or w i 0 → same_bytes (drop i t) (drop i w) ≡ same_bytes (drop (i + 1) t) (drop (i + 1) w)
  same_more e = rw (add-one, drop-cons t i 0 lt, drop-cons w i 0 lw) (rw (eq-eqb (get_or t i 0) (get_or w i 0) e) refl)

  pub same_differ : (get_or t i 0 ≡ get_or w i 0 → ⊥) → same_bytes (drop i t) (drop i w) ≡ false
  same_differ e = rw (drop-cons t i 0 lt, drop-cons w i 0 lw) (rw (ne_eqb (get_or t i 0) (get_or w i 0) e) refl)

pub same_end : (t w : List ℕ) (i : ℕ) → length t ≤ i → length w ≤ i → same_bytes (drop i t) (drop i w) ≡ true
same_end t w i h k = rw (drop_of_length-le t h, drop_of_length-le w k) refl

-- other first letters
pub same_first : (t w : List ℕ) → 0 < length t → (get_or t 0 0 ≡ get_or w 0 0 → ⊥) → 0 < length w → same_bytes t w ≡ false
same_first [] w h e l = absurd (omega arith)
same_first (a ∷ t) [] h e l = refl
same_first (a ∷ t) (b ∷ w) h e l = rw (ne_eqb a b e) refl

-- the word of a row
pub word_length : (r : List ℕ) → length r ≡ 16 → get_or r 0 0 ≤ 10 → length (word_of r) ≡ get_or r 0 0
word_length r e h = length-take-le (get_or r 0 0) (drop 1 r) (omega (arith, length-drop 1 r))

pub word_at_lem : (r : List ℕ) (i : ℕ) → i < get_or r 0 0 → get_or (word_of r) i 0 ≡ get_or r (i + 1) 0
word_at_lem r i h = get_or-take (get_or r 0 0) (drop 1 r) i 0 h ∙ (get_or-drop 1 r i 0 ∙ ap (λ (n : ℕ). get_or r n 0) (omega arith))

module _ (j e : ℕ) (t : List ℕ) (l : j < e) where
  pub find_hit : same_bytes t (word_of (form_row j)) ≡ true → find_in j (e - j) t ≡ j
  unfolding find_in
  find_hit h = let q : e - j ≡ suc (e - (j + 1)) = omega arith in ap (λ (m : ℕ). find_in j m t) q ∙ rw (h, find_in) refl

  pub find_miss : same_bytes t (word_of (form_row j)) ≡ false → find_in j (e - j) t ≡ find_in (j + 1) (e - (j + 1)) t
  unfolding find_in
  find_miss h =
      let q : e - j ≡ suc (e - (j + 1)) = omega arith in
      ap (λ (m : ℕ). find_in j m t) q ∙ (rw (h, find_in) (ap (λ (k : ℕ). find_in k (e - (j + 1)) t) (sym (add-one j))))

pub find_done : (j e : ℕ) (t : List ℕ) → e ≤ j → find_in j (e - j) t ≡ 0
unfolding find_in
find_done j e t h = let q : e - j ≡ 0 = omega arith in ap (λ (m : ℕ). find_in j m t) q

pub find_end : (k : ℕ) (t : List ℕ) → find_in k 0 t ≡ 0
unfolding find_in
find_end k t = refl

pub word_sort_lem : (t : List ℕ) (ts : List (List ℕ)) → same_bytes t sort_word ≡ true → word_in (t ∷ ts) ≡ sort_words ts
unfolding word_in
word_sort_lem t ts h = rw (h, word_in) refl

pub word_other : (t : List ℕ) (ts : List (List ℕ)) → same_bytes t sort_word ≡ false → word_in (t ∷ ts) ≡ form_word (find_word t) ts
unfolding word_in
word_other t ts h = rw (h, word_in) refl

pub word_none : word_in [] ≡ unknown
unfolding word_in
word_none = refl

-- what a search found, and the word that it makes
pub found_some : (m f : ℕ) → found_form m ≡ Some f → (1 ≤ f) × (m ≡ f)
found_some zero f e = let z : ◌≡◌ {A = ℕ} 0 1 = cc in absurd (omega arith)
found_some (suc m) f e = let q : suc m ≡ f = cc in (omega arith, q)

pub found_at : (m f : ℕ) → 1 ≤ f → m ≡ f → found_form m ≡ Some f
found_at zero f h e = absurd (omega arith)
found_at (suc m) f h e = ap Some e

pub form_some : (m f : ℕ) (ts : List (List ℕ)) → found_form m ≡ Some f → form_word m ts ≡ word f ts
form_some zero f ts e = cc
form_some (suc m) f ts e = cc

pub form_none : (m : ℕ) (ts : List (List ℕ)) → found_form m ≡ None → form_word m ts ≡ unknown
form_none zero ts e = refl
form_none (suc m) ts e = cc

-- of two searches the second is made where the first finds nothing
pub else_some : (m n f : ℕ) → found_form m ≡ Some f → found_form (or_else m n) ≡ Some f
else_some zero n f e = cc
else_some (suc m) n f e = e

pub else_none : (m n : ℕ) → found_form m ≡ None → found_form (or_else m n) ≡ found_form n
else_none zero n e = refl
else_none (suc m) n e = cc

-- what a search for a word finds is at most 68, and no mask
abbrev pub IsForm : ℕ → Type 0
IsForm f = (f ≤ 68) × (f ≡ 56 → ⊥)

else_form : (m n : ℕ) → IsForm m → IsForm n → IsForm (or_else m n)
else_form zero n p q = q
else_form (suc m) n p q = p

-- where the search goes through no mask's row
find_form : (k n : ℕ) (t : List ℕ) → k + n ≤ 69 → (56 < k + n → 56 < k) → IsForm (find_in k n t)
unfolding find_in
find_form k zero t l m = (omega arith, λ e. omega arith)
find_form k (suc n) t l m = go (same_bytes t (word_of (form_row k))) (find_form (suc k) n t (omega arith) (λ h. omega (arith, m (omega arith))))
  where
    go : (q : Bool) → IsForm (find_in (suc k) n t) → IsForm (elim q [ true ↦ k | false ↦ find_in (suc k) n t ])
    go true r = (omega arith, λ e. omega (arith, m (omega arith)))
    go false r = r

pub sort_form : (t : List ℕ) → IsForm (find_in 1 2 t)
sort_form t = find_form 1 2 t (omega arith) (λ h. omega arith)

pub word_form : (t : List ℕ) → IsForm (find_word t)
word_form t =
    else_form (find_in 3 53 t) _ (find_form 3 53 t (omega arith) (λ h. omega arith))
    (else_form (find_in 64 5 t) _ (find_form 64 5 t (omega arith) (λ h. omega arith)) (find_form 57 7 t (omega arith) (λ h. omega arith)))

-- a word that is known has one of the forms 1 to 68, and is no mask
abbrev pub InForms : Word → Type 0
InForms unknown = Unit {0}
InForms (word f ts) = (1 ≤ f) × IsForm f

known_forms : (f : ℕ) (ts : List (List ℕ)) → IsForm f → InForms (form_word f ts)
known_forms zero ts h = tt
known_forms (suc f) ts h = (omega arith, h)

pub word_forms : (ts : List (List ℕ)) → InForms (word_in ts)
unfolding word_in
word_forms [] = tt
word_forms (t ∷ ts) = go (same_bytes t sort_word) ts
  where
    go : (b : Bool) (ts : List (List ℕ)) → InForms (elim b [ true ↦ sort_words ts | false ↦ form_word (find_word t) ts ])
    go true [] = tt
    go true (u ∷ ts) = known_forms (find_in 1 2 u) ts (sort_form u)
    go false ts = known_forms (find_word t) ts (word_form t)

-- no text names a mask
pub no_mask_word : (t : List ℕ) → find_word t ≡ 56 → ⊥
no_mask_word t = (word_form t).1

pub no_mask_line : (ts : List (List ℕ)) → form_of (word_in ts) ≡ 56 → ⊥
no_mask_line ts = go (word_in ts) (word_forms ts)
  where
    go : (w : Word) → InForms w → form_of w ≡ 56 → ⊥
    go unknown h e = omega arith
    go (word f us) h e = h.1.1 e

same_at : (x y : List ℕ) (i : ℕ) → i < length x → i < length y → (get_or x i 0 ≡ get_or y i 0 → ⊥) → same_bytes x y ≡ false
same_at [] y i h k n = absurd (omega arith)
same_at (a ∷ x) [] i h k n = absurd (omega arith)
same_at (a ∷ x) (b ∷ y) zero h k n = rw (ne_eqb a b n) refl
same_at (a ∷ x) (b ∷ y) (suc i) h k n = rw (same_at x y i (omega arith) (omega arith) n) (and_false (eqb a b))
  where
    and_false : (q : Bool) → (q && false) ≡ false
    and_false true = refl
    and_false false = refl

pub sort_differs : (t : List ℕ) (i : ℕ) → length t ≡ 4 → i < 4 → (get_or t i 0 ≡ get_or sort_word i 0 → ⊥) → same_bytes t sort_word ≡ false
sort_differs t i e h n = same_at t sort_word i (omega arith) h n

pub sort_length : (t : List ℕ) → (length t ≡ 4 → ⊥) → same_bytes t sort_word ≡ false
sort_length t n = same_not t sort_word n

pub sort_last : (t : List ℕ) → length t ≡ 4 → get_or t 0 0 ≡ 115 → get_or t 1 0 ≡ 111 → get_or t 2 0 ≡ 114 → same_bytes t sort_word ≡ eqb (get_or t 3 0) 116
sort_last [] h a b c = absurd (omega arith)
sort_last (x ∷ []) h a b c = absurd (omega arith)
sort_last (x ∷ y ∷ []) h a b c = absurd (omega arith)
sort_last (x ∷ y ∷ z ∷ []) h a b c = absurd (omega arith)
sort_last (x ∷ y ∷ z ∷ w ∷ []) h a b c = rw (eq-eqb x 115 a, eq-eqb y 111 b, eq-eqb z 114 c) (and_true (eqb w 116))
  where
    and_true : (q : Bool) → (q && true) ≡ q
    and_true true = refl
    and_true false = refl
sort_last (x ∷ y ∷ z ∷ w ∷ u ∷ t) h a b c = absurd (omega arith)

-- ---- rows

-- a kind's row, and that of another word for a constant
pub row_kind : (f : ℕ) → f ≤ 63 → form_row f ≡ row_of f
unfolding form_row
row_kind f h = rw (le-leb f 63 h) refl

pub row_rows : (k : ℕ) → k ≤ 63 → form_row k ≡ get_or rows (k - 1) []
unfolding form_row row_of
row_rows k h = rw (le-leb k 63 h) refl

pub row_extra : (f : ℕ) → 63 < f → form_row f ≡ get_or extra (f - 64) []
unfolding form_row
row_extra f h = rw (lt-leb f 63 h) refl

-- the same, in the lists that a search goes through
pub listed_kind : (ks : List (List ℕ)) (j : ℕ) → ks ≡ rows → j ≤ 63 → get_or ks (j - 1) [] ≡ form_row j
listed_kind ks j e h = ap (λ (l : List (List ℕ)). get_or l (j - 1) []) e ∙ sym (row_rows j h)

pub listed_other : (ks : List (List ℕ)) (j : ℕ) → ks ≡ extra → get_or ks j [] ≡ form_row (j + 64)
listed_other ks j e =
    let q : j ≡ j + 64 - 64 = omega arith in
    ap (λ (l : List (List ℕ)). get_or l j []) e ∙ (ap (λ (i : ℕ). get_or extra i []) q ∙ sym (row_extra (j + 64) (omega arith)))

pub kind_low : (f : ℕ) → f ≤ 63 → kind_of f ≡ f
kind_low f h = rw (le-leb f 63 h, kind_of) refl

pub kind_high : (f : ℕ) → 63 < f → kind_of f ≡ 3
kind_high f h = rw (lt-leb f 63 h, kind_of) refl

-- a form's kind has a row
pub kind_range : (f : ℕ) → 1 ≤ f → (1 ≤ kind_of f) × (kind_of f ≤ 63)
kind_range f h = go (leb f 63) refl
  where
    go : (b : Bool) → leb f 63 ≡ b → (1 ≤ kind_of f) × (kind_of f ≤ 63)
    go true e = let l = leb-true f 63 e in let q = kind_low f l in (omega arith, omega arith)
    go false e = let q = kind_high f (leb-false f 63 e) in (omega arith, omega arith)

-- no row's word is longer than ten bytes, and no row has more than three operands
shape : ℕ → Bool
shape i = leb (get_or (form_row (suc i)) 0 0) 10 && leb (operand_count (form_row (suc i))) 3

all_shaped : T (every shape 68)
unfolding shape form_row row_of
all_shaped = tt

shaped_at : (i : ℕ) → i < 68 → (get_or (form_row (suc i)) 0 0 ≤ 10) × (operand_count (form_row (suc i)) ≤ 3)
unfolding shape
shaped_at i h =
    let q = and_yes (leb (get_or (form_row (suc i)) 0 0) 10) (leb (operand_count (form_row (suc i))) 3) (at_each shape 68 all_shaped i h) in
    (leb→le (get_or (form_row (suc i)) 0 0) 10 q.0, leb→le (operand_count (form_row (suc i))) 3 q.1)

pub row_shape : (f : ℕ) → 1 ≤ f → f ≤ 68 → (get_or (form_row f) 0 0 ≤ 10) × (operand_count (form_row f) ≤ 3)
row_shape zero a b = absurd (omega arith)
row_shape (suc i) a b = shaped_at i (omega arith)

-- a row has sixteen numbers, and its word some letter, but for a mask's
long : ℕ → Bool
long i = eqb (length (form_row (suc i))) 16 && (eqb (suc i) 56 || leb 1 (get_or (form_row (suc i)) 0 0))

all_long : T (every long 68)
unfolding long form_row row_of
all_long = tt

row_long : (f : ℕ) → 1 ≤ f → f ≤ 68 → (length (form_row f) ≡ 16) × ((f ≡ 56 → ⊥) → 1 ≤ get_or (form_row f) 0 0)
unfolding long
row_long zero a b = absurd (omega arith)
row_long (suc i) a b =
    let q = and_yes (eqb (length (form_row (suc i))) 16) _ (at_each long 68 all_long i (omega arith)) in
    (eqb→eq (length (form_row (suc i))) 16 q.0, λ n. leb→le 1 (get_or (form_row (suc i)) 0 0) (subst (λ (b : Bool). T (b || leb 1 (get_or (form_row (suc i)) 0 0))) (ne_eqb (suc i) 56 n) q.1))

-- a token of another length, or with another first letter
module _ (f : ℕ) (least : 1 ≤ f) (most : f ≤ 68) (t : List ℕ) where
  own_length : length (word_of (form_row f)) ≡ get_or (form_row f) 0 0
  own_length = word_length (form_row f) (row_long f least most).0 (row_shape f least most).0

  pub other_length : (length t ≡ get_or (form_row f) 0 0 → ⊥) → same_bytes t (word_of (form_row f)) ≡ false
  other_length n = same_not t (word_of (form_row f)) (λ e. n (e ∙ own_length))

  pub no_letter : (f ≡ 56 → ⊥) → length t ≡ 0 → same_bytes t (word_of (form_row f)) ≡ false
  no_letter m e = other_length (λ q. omega (arith, (row_long f least most).1 m))

  pub other_first : (f ≡ 56 → ⊥) → 0 < length t → (get_or t 0 0 ≡ get_or (form_row f) 1 0 → ⊥) → same_bytes t (word_of (form_row f)) ≡ false
  other_first m h n =
      let l = (row_long f least most).1 m in
      same_first t (word_of (form_row f)) h (λ q. n (q ∙ word_at_lem (form_row f) 0 (omega arith))) (omega (arith, own_length))

pub sorted_most : (r : List ℕ) → sorted r ≤ 1
sorted_most r = go (eqb (get_or r 11 0) 0)
  where
    go : (b : Bool) → pick b 0 1 ≤ 1
    go true = omega arith
    go false = omega arith

-- ---- the word of a kind is a token, and is found again

and_left : (a b : Bool) → T (a && b) → T a
and_left a b t = (and_yes a b t).0

and_right : (a b : Bool) → T (a && b) → T b
and_right a b t = (and_yes a b t).1

abbrev cleanb : List ℕ → Bool
cleanb [] = true
cleanb (c ∷ t) = (not (eqb c 10) && (not (eqb c 32) && not (eqb c 59))) && cleanb t

abbrev tokb : List ℕ → Bool
tokb [] = false
tokb (c ∷ t) = cleanb (c ∷ t)

clean_of : (t : List ℕ) → T (cleanb t) → Clean t
clean_of [] h = tt
clean_of (c ∷ t) h =
    let a = and_left (not (eqb c 10) && (not (eqb c 32) && not (eqb c 59))) (cleanb t) h in
    let b = and_right (not (eqb c 10)) (not (eqb c 32) && not (eqb c 59)) a in (
      record {
        feed = not_of_lem (eqb c 10) (and_left (not (eqb c 10)) (not (eqb c 32) && not (eqb c 59)) a);
        space = not_of_lem (eqb c 32) (and_left (not (eqb c 32)) (not (eqb c 59)) b);
        comment = not_of_lem (eqb c 59) (and_right (not (eqb c 32)) (not (eqb c 59)) b);
      },
      clean_of t (and_right (not (eqb c 10) && (not (eqb c 32) && not (eqb c 59))) (cleanb t) h),
    )

tok_of : (t : List ℕ) → T (tokb t) → Tok t
tok_of [] h = h
tok_of (c ∷ t) h = clean_of (c ∷ t) h

-- the word w of the kind k is found again, and is a token
abbrev passes : Bool → ℕ → List ℕ → Bool
passes true k w = tokb w && eqb (find_in 1 2 w) k
passes false k w = tokb w && (eqb (find_word w) k && not (same_bytes w sort_word))

found : (q : Bool) (k : ℕ) (w : List ℕ) (rest : List (List ℕ)) → 1 ≤ k → T (passes q k w) → word_in (headed q w ++ rest) ≡ word k rest
unfolding word_in
found q zero w rest l h = absurd (omega arith)
found true (suc i) w rest l h = rw (eqb→eq (find_in 1 2 w) (suc i) (and_right (tokb w) (eqb (find_in 1 2 w) (suc i)) h)) refl
found false (suc i) w rest l h =
    let a = and_right (tokb w) (eqb (find_word w) (suc i) && not (same_bytes w sort_word)) h in
    rw (not_of_lem (same_bytes w sort_word) (and_right (eqb (find_word w) (suc i)) (not (same_bytes w sort_word)) a), word_in)
    (rw (eqb→eq (find_word w) (suc i) (and_left (eqb (find_word w) (suc i)) (not (same_bytes w sort_word)) a)) refl)

clear : (q : Bool) (k : ℕ) (w : List ℕ) → T (passes q k w) → Toks (headed q w)
clear true k w h = (tok_of sort_word tt, (tok_of w (and_left (tokb w) (eqb (find_in 1 2 w) k) h), tt))
clear false k w h = (tok_of w (and_left (tokb w) (eqb (find_word w) k && not (same_bytes w sort_word)) h), tt)

test : ℕ → Bool
test i = not (known false (suc i)) || passes (leb (suc i) 2) (suc i) (word_of (row_of (suc i)))

all_pass : T (every test 63)
unfolding test find_in form_row row_of
all_pass = tt

-- of a kind of a circuit
module _ (k : ℕ) (h : known false k ≡ true) where
  passed : T (passes (leb k 2) k (word_of (row_of k)))
  unfolding test
  passed =
      let r = known_range false k h in
      let i : ℕ = k - 1 in
      let q : suc i ≡ k = omega (arith, r.0) in
      let t : T (not (known false k) || passes (leb k 2) k (word_of (row_of k))) = subst (λ (n : ℕ). T (not (known false n) || passes (leb n 2) n (word_of (row_of n)))) q (at_each test 63 all_pass i (omega (arith, r.1))) in
      subst (λ (b : Bool). T (not b || passes (leb k 2) k (word_of (row_of k)))) h t

  pub word_found : (rest : List (List ℕ)) → word_in (kind_tokens k ++ rest) ≡ word k rest
  word_found rest = found (leb k 2) k (word_of (row_of k)) rest (known_range false k h).0 passed

  pub word_toks : Toks (kind_tokens k)
  word_toks = clear (leb k 2) k (word_of (row_of k)) passed
