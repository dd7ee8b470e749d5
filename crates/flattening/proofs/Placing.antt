-- Records of flat lines put into a list one after the other are those put at once, and they are read back from it. The place k of what comes next is handed over with
-- its equation. Assumes nothing.
use Rattle.std.specs.Prelude.{Ok}
use Prim.Native.Nat.{ℕ, zero, suc, ◌+◌, ◌*◌, ◌≤◌}
use mathlib.Core.Path.{◌≡◌, refl, sym, ap, ap₂, ◌∙◌}
use mathlib.Core.Bool.{true, false}
use mathlib.Core.List.{List, [], ◌∷◌, ◌++◌, map}
use native.Mathlib.Nat.{suc-mul}
use native.Mathlib.Omega.{arith}
use lib.ListN.{length, replicate, length-append}
use Rattle.tables.specs.Lines.{Line, fields, words_of}
use Rattle.tables.specs.Layout.{whole, held, records_of, lines_of, ids_of, with_id, with_ids, from, numbered, recorded, put_all, filled}
use Rattle.tables.specs.Types.{no_ctx}
use Rattle.tables.specs.Tables.{checked}
use Rattle.tables.proofs.Facts.{AllOk}
use Rattle.tables.proofs.Places.{put_append, length_put, filled_none, length_filled, put_filled}
use Rattle.tables.proofs.Ids.{length_from, length_with, from_with, length_numbered, ids_with}
use Rattle.tables.proofs.Complete.{lines_sized}
use Rattle.tables.proofs.Encoding.{length_words, records_lines, lines_accepted, lines_back}
use Rattle.flattening.specs.declared.Source.{Source}
use Rattle.flattening.specs.Placed.{put_flat, flat_filled}
use Rattle.flattening.specs.Model.Cells.{Held}
use Rattle.flattening.specs.Model.Rows.{source_at, rows_for, row_at, pair_at}

-- ---- records are put

pub flat_none : (t : List ℕ) (i : ℕ) → t ≡ put_flat t i []
unfolding put_flat
flat_none t i = refl

pub flat_one : (t : List ℕ) (i : ℕ) (r : List ℕ) (d : ℕ) → d ≡ i + 1 → recorded false t i (with_id r d) ≡ put_flat t i (r ∷ [])
unfolding put_flat
flat_one t i r d e = let q : d ≡ suc i = omega arith in ap (λ (n : ℕ). recorded false t i (with_id r n)) q

-- the rows of records from the place i on
abbrev rows_at : ℕ → List (List ℕ) → List (List ℕ)
rows_at i rs = with_ids rs (from (suc i) (length rs))

length_rows_at : (i : ℕ) (rs : List (List ℕ)) → length (rows_at i rs) ≡ length rs
length_rows_at i rs = length_with rs (from (suc i) (length rs)) (sym (length_from (suc i) (length rs)))

pub flat_append : (t : List ℕ) (i : ℕ) (rs : List (List ℕ)) (k : ℕ) (ss : List (List ℕ)) → k ≡ i + length rs → put_flat (put_flat t i rs) k ss ≡ put_flat t i (rs ++ ss)
unfolding put_flat
flat_append t i rs k ss q =
    put_append false t i (rows_at i rs) k (rows_at k ss) (omega (arith, length_rows_at i rs)) ∙ ap (put_all false t i) (from_with (suc i) rs (suc k) ss (omega arith))

pub length_flat : (t : List ℕ) (i : ℕ) (rs : List (List ℕ)) → length (put_flat t i rs) ≡ length t
unfolding put_flat
length_flat t i rs = length_put false t i (rows_at i rs)

-- ---- a list that holds these records and zeros

pub flat_empty : (len : ℕ) → replicate len 0 ≡ flat_filled len []
unfolding flat_filled
flat_empty len = sym (filled_none false len)

pub length_flat_filled : (len : ℕ) (rs : List (List ℕ)) → length (flat_filled len rs) ≡ len
unfolding flat_filled
length_flat_filled len rs = length_filled false len (numbered false rs)

pub flat_filled_lem : (len : ℕ) (rs : List (List ℕ)) (k : ℕ) (ss : List (List ℕ)) → k ≡ length rs → put_flat (flat_filled len rs) k ss ≡ flat_filled len (rs ++ ss)
unfolding put_flat flat_filled
flat_filled_lem len rs k ss q =
    put_filled false len (numbered false rs) k (rows_at k ss) (omega (arith, length_numbered false rs)) ∙ ap (filled false len) (from_with 1 rs (suc k) ss (omega arith))

-- the records of lines
module _ (ls : List Line) (len : ℕ) (fits : length ls ≤ held false len) where
  pub records_flat : records_of false (flat_filled len (map words_of ls)) (length ls) ≡ map words_of ls
  unfolding flat_filled
  records_flat = records_lines false ls len fits

  pub accepted_flat : AllOk false no_ctx ls → length ls ≤ 16384 → whole false len ≡ true → checked false (flat_filled len (map words_of ls)) (length ls) ≡ Ok tt
  unfolding flat_filled
  accepted_flat k few w = lines_accepted false ls len fits k few w

  pub lines_flat : AllOk false no_ctx ls → lines_of false (flat_filled len (map words_of ls)) (length ls) ≡ ls
  unfolding flat_filled
  lines_flat k = lines_back false ls len fits k

  -- their ids are 1, 2, 3
  pub ids_flat : ids_of (flat_filled len (map words_of ls)) (length ls) ≡ from 1 (length ls)
  unfolding flat_filled
  ids_flat =
      let rs = map words_of ls in
      let e = length_words ls in
      ap (ids_of (filled false len (numbered false rs))) (sym e)
      ∙ (ids_with len rs (from 1 (length rs)) (lines_sized ls) (sym (length_from 1 (length rs))) (omega arith) ∙ ap (from 1) e)

-- ---- rows of records

length_rows : (g : ℕ → List (List ℕ)) (m : ℕ) → ((j : ℕ) → length (g j) ≡ m) → (n : ℕ) → length (rows_for n g) ≡ n * m
length_rows g m h zero = omega arith
length_rows g m h (suc n) = length-append (rows_for n g) (g n) ∙ ap₂ (λ (x y : ℕ). x + y) (length_rows g m h n) (h n) ∙ sym (suc-mul n m)

pub length_row : (H : Held) (k s : ℕ) (x y z : Source) (n : ℕ) → length (rows_for n (row_at H k s x y z)) ≡ n
length_row H k s x y z n = length_rows (row_at H k s x y z) 1 (λ j. refl) n ∙ omega arith

pub length_pairs : (H : Held) (p o i s : ℕ) (c x y : Source) (n : ℕ) → length (rows_for n (pair_at H p o i s c x y)) ≡ 2 * n
length_pairs H p o i s c x y n = length_rows (pair_at H p o i s c x y) 2 (λ j. refl) n ∙ omega arith

-- one record more
pub row_more : (t : List ℕ) (p j : ℕ) (H : Held) (k s : ℕ) (x y z : Source) (a b c : ℕ) → a ≡ source_at H x j → b ≡ source_at H y j → c ≡ source_at H z j
    → put_flat (put_flat t p (rows_for j (row_at H k s x y z))) (p + j) (fields k s a b c ∷ []) ≡ put_flat t p (rows_for (j + 1) (row_at H k s x y z))
row_more t p j H k s x y z a b c ea eb ec =
    let g = row_at H k s x y z in
    let W = rows_for j g in
    let e : suc j ≡ j + 1 = omega arith in
    (λ l. put_flat (put_flat t p W) (p + j) (fields k s (ea l) (eb l) (ec l) ∷ [])) ∙ flat_append t p W (p + j) (g j) (omega (arith, length_row H k s x y z j))
    ∙ ap (λ (m : ℕ). put_flat t p (rows_for m g)) e

-- one pair more
pub pair_more : (t : List ℕ) (p j : ℕ) (H : Held) (o i s : ℕ) (c x y : Source) (d a b : ℕ) → d ≡ source_at H c j → a ≡ source_at H x j → b ≡ source_at H y j
    → put_flat (put_flat (put_flat t p (rows_for j (pair_at H p o i s c x y))) (p + 2 * j) (fields 21 o i d 0 ∷ [])) (p + 2 * j + 1) (fields 53 s (p + 2 * j + 1) a b ∷ [])
    ≡ put_flat t p (rows_for (j + 1) (pair_at H p o i s c x y))
pair_more t p j H o i s c x y d a b ed ea eb =
    let g = pair_at H p o i s c x y in
    let W = rows_for j g in
    let q = p + 2 * j in
    let f : q + 1 ≡ suc q = omega arith in
    let e : suc j ≡ j + 1 = omega arith in
    (λ l. put_flat (put_flat (put_flat t p W) q (fields 21 o i (ed l) 0 ∷ [])) (q + 1) (fields 53 s (f l) (ea l) (eb l) ∷ []))
    ∙ flat_append (put_flat t p W) q (fields 21 o i (source_at H c j) 0 ∷ []) (q + 1) (fields 53 s (suc q) (source_at H x j) (source_at H y j) ∷ []) (omega arith)
    ∙ flat_append t p W q (g j) (omega (arith, length_pairs H p o i s c x y j))
    ∙ ap (λ (m : ℕ). put_flat t p (rows_for m g)) e
