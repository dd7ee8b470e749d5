-- Ids: rows with ids in a list, read again as records and ids; and 1, 2, 3, which rise and hold no 0. Assumes nothing.
use Prim.Native.Nat.{ℕ, zero, suc, ◌+◌, ◌-◌, ◌<◌, ◌≤◌}
use mathlib.Core.Path.{◌≡◌, refl, sym, ap, ap₂, ◌∙◌}
use mathlib.Core.Bool.{Bool, true, false, ◌&&◌}
use mathlib.Core.List.{List, [], ◌∷◌, ◌++◌, map}
use native.Mathlib.Omega.{arith}
use lib.ListN.{length, get_or, take, length-append}
use lib.Seq.{take_all, take-append_seam}
use borrow.Author.Tests.{eq-eqb, ne_eqb, lt-ltb, le-leb}
use Rattle.tables.specs.Lines.{kind_in}
use Rattle.tables.specs.Layout.{Placing, record_words, record_size, held, placing, row_by, rows_from, id_at, ids_by, ids_from, ids_of, with_id, with_ids, from, numbered, record_at, records_of, filled}
use Rattle.tables.specs.Ids.{most_id, follows, rising, not_kind, zeros_on_nots, right_ids, ids_right}
use Rattle.tables.proofs.Laws.{and_false}
use Rattle.tables.proofs.Layouts.{placed, words_in}
use Rattle.tables.proofs.Putting.{SizedBy, take_whole, rows_filled}
use Rattle.tables.proofs.Places.{Sized}

-- ---- numbers from b on

pub length_from : (b n : ℕ) → length (from b n) ≡ n
length_from b zero = refl
length_from b (suc n) = ap suc (length_from (suc b) n)

pub from_at : (b n j : ℕ) → j < n → get_or (from b n) j 0 ≡ b + j
from_at b zero j h = absurd (omega arith)
from_at b (suc n) zero h = omega arith
from_at b (suc n) (suc j) h = from_at (suc b) n j (omega arith) ∙ omega arith

pub from_append : (b m n : ℕ) → from b (m + n) ≡ from b m ++ from (b + m) n
from_append b zero n = let q : b ≡ b + 0 = omega arith in let z : 0 + n ≡ n = omega arith in ap₂ from q z
from_append b (suc m) n =
    let q : suc m + n ≡ suc (m + n) = omega arith in
    let z : suc b + m ≡ b + suc m = omega arith in
    ap (from b) q ∙ ap (λ (l : List ℕ). b ∷ l) (from_append (suc b) m n ∙ ap (λ (k : ℕ). from (suc b) m ++ from k n) z)

-- ids from 1 on rise, and none is 0
rising_after : (l n : ℕ) → l + n ≤ most_id → rising l (from (suc l) n) ≡ true
rising_after l zero h = refl
rising_after l (suc n) h = rw (ne_eqb (suc l) 0 (λ e. omega arith), lt-ltb l (suc l) (omega arith), le-leb (suc l) most_id (omega arith)) (rising_after (suc l) n (omega arith))

pub rising_from : (n : ℕ) → n ≤ 16384 → rising 0 (from 1 n) ≡ true
rising_from n h = rising_after 0 n (omega arith)

zeros_from : (l n : ℕ) (rs : List (List ℕ)) → zeros_on_nots rs (from (suc l) n) ≡ true
zeros_from l n [] = refl
zeros_from l zero (r ∷ rs) = refl
zeros_from l (suc n) (r ∷ rs) = rw (ne_eqb (suc l) 0 (λ e. omega arith)) (zeros_from (suc l) n rs)

pub right_from_lem : (rs : List (List ℕ)) (n : ℕ) → n ≤ 16384 → right_ids rs (from 1 n) ≡ true
right_from_lem rs n h = rw (rising_from n h) (zeros_from 0 n rs)

-- ---- the ids of a list, one after the other

-- both rules, of m records from the record i on; last is the last id before it that is not 0
abbrev pub right_from : List ℕ → (last i m : ℕ) → Bool
right_from t last i m = rising last (ids_from t i m) && zeros_on_nots (rows_from (placing false) record_words t i m) (ids_from t i m)

-- d is the id of the record i of n
module _ (t : List ℕ) (n i last d : ℕ) (h : i < n) (e : d ≡ id_at t i) where
  abbrev later : (last : ℕ) → Bool
  later last = right_from t last (i + 1) (n - (i + 1))

  next_id : (x : Bool) → (rising last (d ∷ ids_from t (i + 1) (n - (i + 1)))
      && zeros_on_nots (record_at false t i ∷ rows_from (placing false) record_words t (i + 1) (n - (i + 1))) (d ∷ ids_from t (i + 1) (n - (i + 1)))) ≡ x
      → right_from t last i (n - i) ≡ x
  next_id x g =
      let q : n - i ≡ suc (n - (i + 1)) = omega arith in
      let z : suc i ≡ i + 1 = omega arith in
      ap (right_from t last i) q
      ∙ (ap₂ (λ (y j : ℕ). rising last (y ∷ ids_from t j (n - (i + 1))) && zeros_on_nots (record_at false t i ∷ rows_from (placing false) record_words t j (n - (i + 1))) (y ∷ ids_from t j (n - (i + 1)))) (sym e) z
      ∙ g)

  pub id_stops : (d ≡ 0 → ⊥) → false ≡ follows last d → right_from t last i (n - i) ≡ false
  id_stops f g = next_id false (rw (ne_eqb d 0 f, sym g) refl)

  pub id_follows : (d ≡ 0 → ⊥) → true ≡ follows last d → right_from t last i (n - i) ≡ later d
  id_follows f g = next_id (later d) (rw (ne_eqb d 0 f, sym g) refl)

  pub zero_stops : d ≡ 0 → (kind_in (record_at false t i) ≡ not_kind → ⊥) → right_from t last i (n - i) ≡ false
  zero_stops f g = next_id false (rw (eq-eqb d 0 f, ne_eqb (kind_in (record_at false t i)) not_kind g) (and_false (rising last (ids_from t (i + 1) (n - (i + 1))))))

  pub zero_follows : d ≡ 0 → kind_in (record_at false t i) ≡ not_kind → right_from t last i (n - i) ≡ later last
  zero_follows f g = next_id (later last) (rw (eq-eqb d 0 f, eq-eqb (kind_in (record_at false t i)) not_kind g) refl)

pub ids_end : (t : List ℕ) (n i last : ℕ) → n ≤ i → right_from t last i (n - i) ≡ true
ids_end t n i last h = let q : n - i ≡ 0 = omega arith in ap (right_from t last i) q

-- ---- rows with ids

pub length_with : (rs : List (List ℕ)) (ds : List ℕ) → length rs ≡ length ds → length (with_ids rs ds) ≡ length rs
length_with [] ds e = refl
length_with (r ∷ rs) [] e = absurd (omega arith)
length_with (r ∷ rs) (d ∷ ds) e = ap suc (length_with rs ds (omega arith))

pub with_append : (rs : List (List ℕ)) (ds : List ℕ) (ss : List (List ℕ)) (es : List ℕ) → length rs ≡ length ds → with_ids (rs ++ ss) (ds ++ es) ≡ with_ids rs ds ++ with_ids ss es
with_append [] [] ss es e = refl
with_append [] (d ∷ ds) ss es e = absurd (omega arith)
with_append (r ∷ rs) [] ss es e = absurd (omega arith)
with_append (r ∷ rs) (d ∷ ds) ss es e = ap (λ (l : List (List ℕ)). with_id r d ∷ l) (with_append rs ds ss es (omega arith))

-- numbered rows, one after the other; the number of what comes next is handed over with its equation
pub from_with : (b : ℕ) (rs : List (List ℕ)) (c : ℕ) (ss : List (List ℕ)) → c ≡ b + length rs
    → with_ids rs (from b (length rs)) ++ with_ids ss (from c (length ss)) ≡ with_ids (rs ++ ss) (from b (length (rs ++ ss)))
from_with b rs c ss q =
    sym (with_append rs (from b (length rs)) ss (from c (length ss)) (sym (length_from b (length rs))))
    ∙ ap (with_ids (rs ++ ss)) (ap (λ (k : ℕ). from b (length rs) ++ from k (length ss)) q ∙ (sym (from_append b (length rs) (length ss)) ∙ ap (from b) (sym (length-append rs ss))))

pub length_numbered : (p : Bool) (rs : List (List ℕ)) → length (numbered p rs) ≡ length rs
length_numbered true rs = refl
length_numbered false rs = length_with rs (from 1 (length rs)) (sym (length_from 1 (length rs)))

-- ---- and in a list

abbrev pub six : ℕ
six = record_size false

with_sized : (rs : List (List ℕ)) (ds : List ℕ) → Sized rs → SizedBy six (with_ids rs ds)
with_sized [] ds z = tt
with_sized (r ∷ rs) [] z = tt
with_sized (r ∷ rs) (d ∷ ds) z = (length-append r (d ∷ []) ∙ ap (λ (n : ℕ). n + 1) z.0, with_sized rs ds z.1)

take_row : (r : List ℕ) (d n : ℕ) → length r ≡ n → take n (with_id r d) ≡ r
take_row r d n l = ap (λ (k : ℕ). take k (with_id r d)) (sym l) ∙ take-append_seam r (d ∷ [])

id_row : (r : List ℕ) (d n : ℕ) → length r ≡ n → get_or (with_id r d) n 0 ≡ d
id_row [] d zero l = refl
id_row [] d (suc n) l = absurd (omega arith)
id_row (x ∷ r) d zero l = absurd (omega arith)
id_row (x ∷ r) d (suc n) l = id_row r d n (omega arith)

take_rows : (rs : List (List ℕ)) (ds : List ℕ) → Sized rs → length rs ≡ length ds → map (take record_words) (with_ids rs ds) ≡ rs
take_rows [] ds z e = refl
take_rows (r ∷ rs) [] z e = absurd (omega arith)
take_rows (r ∷ rs) (d ∷ ds) z e = ap₂ (λ (x : List ℕ) (xs : List (List ℕ)). x ∷ xs) (take_row r d record_words z.0) (take_rows rs ds z.1 (omega arith))

abbrev pub id_in : List ℕ → ℕ
id_in x = get_or x record_words 0

id_rows : (rs : List (List ℕ)) (ds : List ℕ) → Sized rs → length rs ≡ length ds → map id_in (map (take six) (with_ids rs ds)) ≡ ds
id_rows [] [] z e = refl
id_rows [] (d ∷ ds) z e = absurd (omega arith)
id_rows (r ∷ rs) [] z e = absurd (omega arith)
id_rows (r ∷ rs) (d ∷ ds) z e =
    let l : length (with_id r d) ≤ six = omega (arith, length-append r (d ∷ []), z.0) in
    ap₂ (λ (x : ℕ) (xs : List ℕ). x ∷ xs) (ap id_in (take_all six (with_id r d) l) ∙ id_row r d record_words z.0) (id_rows rs ds z.1 (omega arith))

pub ids_rows : (f : Placing) (t : List ℕ) (i n : ℕ) → ids_by f t i n ≡ map id_in (rows_from f six t i n)
ids_rows f t i zero = refl
ids_rows f t i (suc n) = ap (λ (l : List ℕ). id_in (row_by f six t i) ∷ l) (ids_rows f t (suc i) n)

-- a list that holds the records rs with the ids ds
module _ (len : ℕ) (rs : List (List ℕ)) (ds : List ℕ) (z : Sized rs) (e : length rs ≡ length ds) (h : length rs ≤ held false len) where
  fits : length (with_ids rs ds) ≤ held false len
  fits = omega (arith, length_with rs ds e)

  pub records_with : records_of false (filled false len (with_ids rs ds)) (length rs) ≡ rs
  records_with =
      ap (records_of false (filled false len (with_ids rs ds))) (sym (length_with rs ds e))
      ∙ (rows_filled (placed false) (words_in false) (omega arith) len (with_ids rs ds) fits (with_sized rs ds z) ∙ take_rows rs ds z e)

  pub ids_with : ids_of (filled false len (with_ids rs ds)) (length rs) ≡ ds
  ids_with =
      ap (ids_of (filled false len (with_ids rs ds))) (sym (length_with rs ds e))
      ∙ (ids_rows (placing false) (filled false len (with_ids rs ds)) 0 (length (with_ids rs ds))
      ∙ (ap (map id_in) (rows_filled (placed false) {m = six} (omega arith) (omega arith) len (with_ids rs ds) fits (with_sized rs ds z)) ∙ id_rows rs ds z e))

-- a list that holds the records rs, a circuit's with the ids 1, 2, 3
pub records_filled : (p : Bool) (len : ℕ) (rs : List (List ℕ)) → Sized rs → length rs ≤ held p len → records_of p (filled p len (numbered p rs)) (length rs) ≡ rs
records_filled false len rs z h = records_with len rs (from 1 (length rs)) z (sym (length_from 1 (length rs))) h
records_filled true len rs z h = rows_filled (placed true) (words_in true) (omega arith) len rs h z ∙ take_whole record_words rs z

pub ids_filled : (p : Bool) (len : ℕ) (rs : List (List ℕ)) → Sized rs → length rs ≤ held p len → length rs ≤ 16384 → ids_right p (filled p len (numbered p rs)) (length rs) ≡ true
ids_filled false len rs z h few =
    let t = filled false len (with_ids rs (from 1 (length rs))) in
    ap (right_ids (records_of false t (length rs))) (ids_with len rs (from 1 (length rs)) z (sym (length_from 1 (length rs))) h) ∙ right_from_lem (records_of false t (length rs)) (length rs) few
ids_filled true len rs z h few = refl
