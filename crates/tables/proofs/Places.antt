-- Records in the layout in use: the laws that other files cite. Assumes nothing.
use Prim.Native.Nat.{ℕ, suc, ◌+◌, ◌<◌, ◌≤◌}
use mathlib.Core.Path.{◌≡◌, refl, ap, ◌∙◌}
use mathlib.Core.Bool.{Bool}
use mathlib.Core.List.{List, [], ◌∷◌, ◌++◌, map}
use native.Mathlib.Omega.{arith}
use lib.ListN.{length, get_or, take, replicate}
use Rattle.tables.specs.Lines.{line_of, fields, kind_in, sort_in, first_in, second_in, third_in}
use Rattle.tables.specs.Layout.{record_words, placing, record_at, records_of, lines_of, recorded, put_all, filled}
use Rattle.tables.proofs.Spread.{length_words_from}
use Rattle.tables.proofs.Putting as laws
use Rattle.tables.proofs.Putting.{SizedBy}

-- ---- a record is its fields

pub fields_of : (r : List ℕ) → length r ≡ record_words → r ≡ fields (kind_in r) (sort_in r) (first_in r) (second_in r) (third_in r)
fields_of [] l = absurd (omega arith)
fields_of (k ∷ []) l = absurd (omega arith)
fields_of (k ∷ s ∷ []) l = absurd (omega arith)
fields_of (k ∷ s ∷ a ∷ []) l = absurd (omega arith)
fields_of (k ∷ s ∷ a ∷ b ∷ []) l = absurd (omega arith)
fields_of (k ∷ s ∷ a ∷ b ∷ c ∷ []) l = refl
fields_of (k ∷ s ∷ a ∷ b ∷ c ∷ x ∷ r) l = absurd (omega arith)

pub fields_eq : {k s a b c k₁ s₁ a₁ b₁ c₁ : ℕ} → k₁ ≡ k → s₁ ≡ s → a₁ ≡ a → b₁ ≡ b → c₁ ≡ c → fields k₁ s₁ a₁ b₁ c₁ ≡ fields k s a b c
fields_eq ek es ea eb ec = λ i. fields (ek i) (es i) (ea i) (eb i) (ec i)

-- every record has its words
abbrev pub Sized : List (List ℕ) → Type 0
Sized rs = SizedBy record_words rs

pub sized_append : (rs ss : List (List ℕ)) → Sized rs → Sized ss → Sized (rs ++ ss)
sized_append [] ss a b = b
sized_append (r ∷ rs) ss a b = (a.0, sized_append rs ss a.1 b)

-- ---- the records of a list, by their places

pub length_record : (p : Bool) (t : List ℕ) (i : ℕ) → length (record_at p t i) ≡ record_words
length_record p t i = length_words_from (placing p (length t) i) t 0 record_words

pub length_records : (p : Bool) (t : List ℕ) (n : ℕ) → length (records_of p t n) ≡ n
length_records p t n = laws.length_rows (placing p) record_words t 0 n

pub length_lines : (p : Bool) (t : List ℕ) (n : ℕ) → length (lines_of p t n) ≡ n
length_lines p t n = length_mapped (records_of p t n) ∙ length_records p t n
  where
    length_mapped : (rs : List (List ℕ)) → length (map line_of rs) ≡ length rs
    length_mapped [] = refl
    length_mapped (r ∷ rs) = ap suc (length_mapped rs)

pub record_at_lem : (p : Bool) (t : List ℕ) (n i : ℕ) → i < n → get_or (records_of p t n) i [] ≡ record_at p t i
record_at_lem p t n i h = laws.row_at (placing p) record_words t n i h

pub records_more : (p : Bool) (t : List ℕ) (n : ℕ) → records_of p t (suc n) ≡ records_of p t n ++ (record_at p t n ∷ [])
records_more p t n = laws.rows_more (placing p) record_words t n

pub take_records : (p : Bool) (t : List ℕ) (i n : ℕ) → i ≤ n → take i (records_of p t n) ≡ records_of p t i
take_records p t i n h = laws.take_rows (placing p) record_words t 0 i n h

pub records_sized : (p : Bool) (t : List ℕ) (n : ℕ) → Sized (records_of p t n)
records_sized p t n = laws.rows_sized (placing p) record_words t 0 n

-- ---- records are put, one after the other; the place k of what comes next is handed over with its equation

pub length_recorded : (p : Bool) (t : List ℕ) (i : ℕ) (r : List ℕ) → length (recorded p t i r) ≡ length t
length_recorded p t i r = laws.length_row (placing p) t i r

pub put_append : (p : Bool) (t : List ℕ) (i : ℕ) (rs : List (List ℕ)) (k : ℕ) (ss : List (List ℕ)) → k ≡ i + length rs → put_all p (put_all p t i rs) k ss ≡ put_all p t i (rs ++ ss)
put_append p t i rs k ss q = ap (λ (n : ℕ). put_all p (put_all p t i rs) n ss) q ∙ laws.put_append (placing p) t i rs ss

pub put_more : (p : Bool) (t : List ℕ) (i : ℕ) (rs : List (List ℕ)) (k : ℕ) (r : List ℕ) → k ≡ i + length rs → recorded p (put_all p t i rs) k r ≡ put_all p t i (rs ++ (r ∷ []))
put_more p t i rs k r q = put_append p t i rs k (r ∷ []) q

pub length_put : (p : Bool) (t : List ℕ) (i : ℕ) (rs : List (List ℕ)) → length (put_all p t i rs) ≡ length t
length_put p t i rs = laws.length_put (placing p) t i rs

-- ---- a list that holds these records and zeros

pub filled_none : (p : Bool) (len : ℕ) → filled p len [] ≡ replicate len 0
filled_none p len = laws.filled_none (placing p) len

pub length_filled : (p : Bool) (len : ℕ) (rs : List (List ℕ)) → length (filled p len rs) ≡ len
length_filled p len rs = laws.length_filled (placing p) len rs

pub put_filled : (p : Bool) (len : ℕ) (rs : List (List ℕ)) (k : ℕ) (ss : List (List ℕ)) → k ≡ length rs → put_all p (filled p len rs) k ss ≡ filled p len (rs ++ ss)
put_filled p len rs k ss q = laws.put_filled (placing p) len rs k ss q

pub record_filled : (p : Bool) (len : ℕ) (rs : List (List ℕ)) (k : ℕ) (r : List ℕ) → k ≡ length rs → recorded p (filled p len rs) k r ≡ filled p len (rs ++ (r ∷ []))
record_filled p len rs k r q = put_filled p len rs k (r ∷ []) q
