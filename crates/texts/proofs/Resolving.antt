-- Ids and places: where an id stands among ids that rise, and what a record names. Assumes nothing.
use Prim.Native.Nat.{ℕ, zero, suc, ◌+◌, ◌<◌, ◌≤◌}
use mathlib.Core.Path.{◌≡◌, refl, ap, ◌∙◌, subst}
use mathlib.Core.Bool.{Bool, true, false, ◌&&◌}
use mathlib.Core.List.{List, [], ◌∷◌}
use mathlib.Core.Logic.{⊎_elim}
use native.Mathlib.Nat.{eq-or-lt_of_le}
use native.Mathlib.Omega.{arith}
use lib.Dec.{leb, ltb}
use lib.ListN.{length, get_or}
use borrow.Author.Tests.{ltb-true, ltb-false, eq-eqb, ne_eqb}
use Rattle.tables.specs.Pick.{pick}
use Rattle.tables.specs.Kinds.{none, number, row_of, sort_class, first_class, second_class, third_class}
use Rattle.tables.specs.Lines.{fields, kind_in, sort_in, first_in, second_in, third_in}
use Rattle.tables.specs.Layout.{record_words, id_at, ids_from, ids_of}
use Rattle.tables.specs.Ids.{most_id, follows, rising}
use Rattle.tables.proofs.Kept.{both}
use Rattle.tables.proofs.Places.{fields_of}
use Rattle.tables.proofs.Showing.{by_place}
use Rattle.texts.specs.Operands.{place_by_id_from, place_by_id, meant, resolved}
use Rattle.texts.specs.Reading.{last_of}
use Rattle.texts.specs.Model.Searching.{Named, AllBelow, NoneBelow, AllZero, FirstNamed, Parted}

-- ---- the ids of a list's records, one by one

length_ids_from : (t : List ℕ) (i n : ℕ) → length (ids_from t i n) ≡ n
length_ids_from t i zero = refl
length_ids_from t i (suc n) = ap suc (length_ids_from t (suc i) n)

pub ids_length : (t : List ℕ) (n : ℕ) → length (ids_of t n) ≡ n
ids_length t n = length_ids_from t 0 n

ids_from_at : (t : List ℕ) (i n j : ℕ) → j < n → get_or (ids_from t i n) j 0 ≡ id_at t (i + j)
ids_from_at t i zero j h = absurd (omega arith)
ids_from_at t i (suc n) zero h = let q : i ≡ i + 0 = omega arith in ap (id_at t) q
ids_from_at t i (suc n) (suc j) h = let q : suc i + j ≡ i + suc j = omega arith in ids_from_at t (suc i) n j (omega arith) ∙ ap (id_at t) q

pub ids_at : (t : List ℕ) (n j : ℕ) → j < n → get_or (ids_of t n) j 0 ≡ id_at t j
ids_at t n j h = let q : 0 + j ≡ j = omega arith in ids_from_at t 0 n j h ∙ ap (id_at t) q

pub last_at : (z : ℕ) (ds : List ℕ) (i : ℕ) → length ds ≡ suc i → last_of z ds ≡ get_or ds i 0
last_at z [] i e = absurd (omega arith)
last_at z (d ∷ []) zero e = refl
last_at z (d ∷ []) (suc i) e = absurd (omega arith)
last_at z (d ∷ f ∷ ds) zero e = absurd (omega arith)
last_at z (d ∷ f ∷ ds) (suc i) e = last_at d (f ∷ ds) i (omega arith)

-- ---- ids that rise, but for zeros

after_zero : (l d : ℕ) (ds : List ℕ) → d ≡ 0 → rising l (d ∷ ds) ≡ true → rising l ds ≡ true
after_zero l d ds z r = subst (λ (q : Bool). pick q (rising l ds) (follows l d && rising d ds) ≡ true) (eq-eqb d 0 z) r

after : (l d : ℕ) (ds : List ℕ) → (d ≡ 0 → ⊥) → rising l (d ∷ ds) ≡ true → (l < d) × (rising d ds ≡ true)
after l d ds n r =
    let p = both (follows l d) (rising d ds) (subst (λ (q : Bool). pick q (rising l ds) (follows l d && rising d ds) ≡ true) (ne_eqb d 0 n) r) in
    (ltb-true l d (both (ltb l d) (leb d most_id) p.0).0, p.1)

above : (l : ℕ) (ds : List ℕ) → rising l ds ≡ true → (i : ℕ) → i < length ds → Named ds i → l < get_or ds i 0
above l [] r i h n = absurd (omega arith)
above l (d ∷ ds) r zero h n = (after l d ds n r).0
above l (d ∷ ds) r (suc i) h n =
    by_place d 0
    (λ z. above l ds (after_zero l d ds z r) i (omega arith) n)
    (λ z. let p = after l d ds z r in omega (arith, p.0, above d ds p.1 i (omega arith) n))

rises : (l : ℕ) (ds : List ℕ) → rising l ds ≡ true → (i j : ℕ) → i < j → j < length ds → Named ds j → get_or ds i 0 < get_or ds j 0
rises l [] r i j h k n = absurd (omega arith)
rises l (d ∷ ds) r i zero h k n = absurd (omega arith)
rises l (d ∷ ds) r zero (suc j) h k n =
    by_place d 0
    (λ z. let g = above l ds (after_zero l d ds z r) j (omega arith) n in omega arith)
    (λ z. above d ds (after l d ds z r).1 j (omega arith) n)
rises l (d ∷ ds) r (suc i) (suc j) h k n =
    by_place d 0
    (λ z. rises l ds (after_zero l d ds z r) i j (omega arith) (omega arith) n)
    (λ z. rises d ds (after l d ds z r).1 i j (omega arith) (omega arith) n)

ordered : (l : ℕ) (ds : List ℕ) → rising l ds ≡ true → (i j : ℕ) → i ≤ j → j < length ds → Named ds j → get_or ds i 0 ≤ get_or ds j 0
ordered l ds r i j h k n = ⊎_elim (λ (e : i ≡ j). omega (arith, ap (λ (m : ℕ). get_or ds m 0) e)) (λ (q : i < j). omega (arith, rises l ds r i j q k n)) (eq-or-lt_of_le h)

-- ---- the place of an id

-- none of the first n ids is d
abbrev pub Without : (ds : List ℕ) (n d : ℕ) → Type 0
Without ds n d = (j : ℕ) → j < n → get_or ds j 0 ≡ d → ⊥

pub place_first : (b : ℕ) (ds : List ℕ) (d i : ℕ) → Without ds i d → i < length ds → get_or ds i 0 ≡ d → place_by_id_from b ds d ≡ b + i
place_first b [] d i w h e = absurd (omega arith)
place_first b (f ∷ ds) d zero w h e = rw (eq-eqb f d e) (omega arith)
place_first b (f ∷ ds) d (suc i) w h e =
    rw (ne_eqb f d (w 0 (omega arith))) (place_first (suc b) ds d i (λ j k. w (suc j) (omega arith)) (omega arith) e ∙ omega arith)

place_missing : (b : ℕ) (ds : List ℕ) (d : ℕ) → Without ds (length ds) d → place_by_id_from b ds d ≡ 0
place_missing b [] d w = refl
place_missing b (f ∷ ds) d w = rw (ne_eqb f d (w 0 (omega arith))) (place_missing (suc b) ds d (λ j k. w (suc j) (omega arith)))

-- no token names 0
pub place_zero : (ds : List ℕ) (d : ℕ) → d ≡ 0 → place_by_id ds d ≡ 0
place_zero ds d e = rw (eq-eqb d 0 e) refl

pub place_named : (ds : List ℕ) (d : ℕ) → 1 ≤ d → place_by_id ds d ≡ place_by_id_from 1 ds d
place_named ds d h = rw (ne_eqb d 0 (λ e. omega arith)) refl

-- where the ids rise, and d is one that a token may name
module _ (ds : List ℕ) (r : rising 0 ds ≡ true) (d : ℕ) (least : 1 ≤ d) where
  -- so it is with one id more, and past zeros
  pub below_on : (m : ℕ) → m < length ds → Named ds m → get_or ds m 0 < d → AllBelow ds (m + 1) d
  below_on m h n k j q = omega (arith, ordered 0 ds r j m (omega arith) h n)

  pub not_below_on : (m o : ℕ) → AllZero ds m o → (o < length ds → d ≤ get_or ds o 0) → NoneBelow ds m d
  not_below_on m o z k j q h n = go (ltb j o) refl
    where
      go : (t : Bool) → ltb j o ≡ t → d ≤ get_or ds j 0
      go true e = absurd (n (z j q (ltb-true j o e)))
      go false e = let g = ltb-false j o e in omega (arith, k (omega arith), ordered 0 ds r o j g h n)

  -- an id that stands at i, which is counted from 0
  pub place_at_lem : (i : ℕ) → i < length ds → get_or ds i 0 ≡ d → place_by_id ds d ≡ 1 + i
  place_at_lem i h e = place_named ds d least ∙ place_first 1 ds d i (λ j k x. omega (arith, rises 0 ds r j i k h (λ z. omega arith))) h e

  -- one that would stand at o, the first from i on that is not 0, and does not
  pub place_none : (i o : ℕ) → Parted ds i d → FirstNamed ds i o → (o < length ds → get_or ds o 0 ≡ d → ⊥) → place_by_id ds d ≡ 0
  place_none i o p f n = place_named ds d least ∙ place_missing 1 ds d (λ j h x. go j h x (ltb j i) (ltb j o) refl refl)
    where
      go : (j : ℕ) → j < length ds → get_or ds j 0 ≡ d → (t u : Bool) → ltb j i ≡ t → ltb j o ≡ u → ⊥
      go j h x true u p₁ q = omega (arith, p.below j (ltb-true j i p₁))
      go j h x false true p₁ q = omega (arith, f.zeros j (ltb-false j i p₁) (ltb-true j o q))
      go j h x false false p₁ q =
          ⊎_elim
          (λ (e : o ≡ j). n (omega arith) (ap (λ (m : ℕ). get_or ds m 0) e ∙ x))
          (λ (k : o < j). omega (arith, rises 0 ds r o j k h (λ w. omega arith), p.above o f.least (omega arith) (f.named (omega arith))))
          (eq-or-lt_of_le (ltb-false j o q))

-- ---- what a record's numbers mean, by their classes

module _ (k : ℕ) (ds : List ℕ) (v : ℕ) where
  pub meant_none : k ≡ none → v ≡ meant k ds v
  meant_none e = rw (eq-eqb k none e) refl

  pub meant_number : k ≡ number → v ≡ meant k ds v
  meant_number e = rw e refl

  pub meant_line : (k ≡ none → ⊥) → (k ≡ number → ⊥) → place_by_id ds v ≡ meant k ds v
  meant_line e f = rw (ne_eqb k none e, ne_eqb k number f) refl

pub is_resolved : (ds r row : List ℕ) {s a b c : ℕ} → row ≡ row_of (kind_in r) → s ≡ meant (sort_class row) ds (sort_in r) → a ≡ meant (first_class row) ds (first_in r)
    → b ≡ meant (second_class row) ds (second_in r) → c ≡ meant (third_class row) ds (third_in r) → fields (kind_in r) s a b c ≡ resolved ds r
unfolding resolved
is_resolved ds r row e p q x y = rw (p, q, x, y, e) refl

pub resolved_kind : (ds r : List ℕ) → kind_in (resolved ds r) ≡ kind_in r
unfolding resolved
resolved_kind ds r = refl

-- numbers that mean what they are
pub all_same : (ds r row : List ℕ) → length r ≡ record_words → row ≡ row_of (kind_in r) → sort_in r ≡ meant (sort_class row) ds (sort_in r) → first_in r ≡ meant (first_class row) ds (first_in r)
    → second_in r ≡ meant (second_class row) ds (second_in r) → third_in r ≡ meant (third_class row) ds (third_in r) → r ≡ resolved ds r
all_same ds r row l e p q x y = fields_of r l ∙ is_resolved ds r row e p q x y
