-- How records lie in a list of words: nothing outside this file, the laws of `proofs/Layouts` and the code of `records` knows it. The flag p says that the list is a
-- program's, else it is a circuit's. A record that is handed about is its five words: kind, sort line (in a program the width) and three operands. In a circuit's list a record
-- has a sixth word, the line's id as written. Records and words are counted from 0 here.
-- Assumes nothing.
use Rattle.std.specs.Prelude.{ℕ, zero, suc, ◌+◌, ◌*◌, ◌/◌, ◌%◌, min, Bool, true, false, List, [], ◌∷◌, ◌++◌, map, eqb, length, get_or, set, replicate}
use Rattle.tables.specs.Lines.{Line, line_of}

-- ---- sizes

-- the words of a record that is handed about, and those that a record takes in a list
abbrev pub record_words : ℕ
record_words = 5

abbrev pub record_size : Bool → ℕ
record_size false = 6
record_size true = 5

-- a list that holds no whole number of records is no table
abbrev pub whole : Bool → ℕ → Bool
whole p len = eqb (len % record_size p) 0

-- the records that a list of so many words holds, and those of them that may count
abbrev pub held : Bool → ℕ → ℕ
held p len = len / record_size p

abbrev pub room : Bool → ℕ → ℕ
room p len = min (held p len) 16384

-- ---- where the word j of the record i stands in a list of len words

abbrev pub Placing : Type 0
Placing = (len i j : ℕ) → ℕ

-- one record behind the other
abbrev pub by_row : Bool → Placing
by_row p len i j = record_size p * i + j

-- one column behind the other: all kinds, all sort lines, and so on, each as long as the number of records that the list holds
abbrev pub by_column : Bool → Placing
by_column p len i j = held p len * j + i

-- either layout: columns (true), or one record behind the other (false)
abbrev pub placing_in : (columns : Bool) → Bool → Placing
placing_in true = by_column
placing_in false = by_row

-- the layout of tables and programs, and the number that a pass over a list of len words works out once for it
abbrev pub placing : Bool → Placing
placing = placing_in true

abbrev pub step_of : Bool → (len : ℕ) → ℕ
step_of p len = held p len

-- ---- reading and writing, by a place function

-- m words from the places at j, at (j + 1) and so on, and words that are set there
abbrev pub words_from : (ℕ → ℕ) → List ℕ → (j m : ℕ) → List ℕ
words_from at t j zero = []
words_from at t j (suc m) = get_or t (at j) 0 ∷ words_from at t (suc j) m

abbrev pub set_words : (ℕ → ℕ) → List ℕ → (j : ℕ) → List ℕ → List ℕ
set_words at t j [] = t
set_words at t j (x ∷ xs) = set_words at (set t (at j) x) (suc j) xs

-- the first m words of the record i, and of the n records from i on
abbrev pub row_by : Placing → (m : ℕ) → List ℕ → (i : ℕ) → List ℕ
row_by f m t i = words_from (f (length t) i) t 0 m

abbrev pub rows_from : Placing → (m : ℕ) → List ℕ → (i n : ℕ) → List (List ℕ)
rows_from f m t i zero = []
rows_from f m t i (suc n) = row_by f m t i ∷ rows_from f m t (suc i) n

-- the first words of the record i are set, and those of the records from i on
abbrev pub row_set : Placing → List ℕ → (i : ℕ) → List ℕ → List ℕ
row_set f t i x = set_words (f (length t) i) t 0 x

abbrev pub put_rows : Placing → List ℕ → (i : ℕ) → List (List ℕ) → List ℕ
put_rows f t i [] = t
put_rows f t i (x ∷ xs) = put_rows f (row_set f t i x) (suc i) xs

-- the id of the record i of a circuit's list, the word behind the five that are handed about, and those of the n records from i on
abbrev pub id_by : Placing → List ℕ → (i : ℕ) → ℕ
id_by f t i = get_or t (f (length t) i record_words) 0

abbrev pub ids_by : Placing → List ℕ → (i n : ℕ) → List ℕ
ids_by f t i zero = []
ids_by f t i (suc n) = id_by f t i ∷ ids_by f t (suc i) n

-- zeros, with records put from the start
unfoldable pub filled_by : Placing → (len : ℕ) → List (List ℕ) → List ℕ
filled_by f len xs = put_rows f (replicate len 0) 0 xs

-- ---- what everything else speaks of

-- the record i of a list, its first n records, and their lines
abbrev pub record_at : Bool → List ℕ → (i : ℕ) → List ℕ
record_at p t i = row_by (placing p) record_words t i

abbrev pub records_of : Bool → List ℕ → (n : ℕ) → List (List ℕ)
records_of p t n = rows_from (placing p) record_words t 0 n

abbrev pub lines_of : Bool → List ℕ → (n : ℕ) → List Line
lines_of p t n = map line_of (records_of p t n)

-- the id of the record i of a circuit's list, and those of its first n records
abbrev pub id_at : List ℕ → (i : ℕ) → ℕ
id_at t i = id_by (placing false) t i

abbrev pub ids_from : List ℕ → (i n : ℕ) → List ℕ
ids_from t i n = ids_by (placing false) t i n

abbrev pub ids_of : List ℕ → (n : ℕ) → List ℕ
ids_of t n = ids_from t 0 n

-- the row of a record is all its words: of a program's its five, of a circuit's an id behind them
abbrev pub with_id : List ℕ → (d : ℕ) → List ℕ
with_id r d = r ++ (d ∷ [])

abbrev pub with_ids : List (List ℕ) → (ds : List ℕ) → List (List ℕ)
with_ids (r ∷ rs) (d ∷ ds) = with_id r d ∷ with_ids rs ds
with_ids (r ∷ rs) [] = []
with_ids [] ds = []

-- n numbers from i on, and the rows of records that are numbered so: 1, 2, 3
abbrev pub from : (i n : ℕ) → List ℕ
from i zero = []
from i (suc n) = i ∷ from (suc i) n

abbrev pub numbered : Bool → (rs : List (List ℕ)) → List (List ℕ)
numbered false rs = with_ids rs (from 1 (length rs))
numbered true rs = rs

-- a list with the row x at the place i, and with the rows xs from i on
abbrev pub recorded : Bool → List ℕ → (i : ℕ) → (x : List ℕ) → List ℕ
recorded p t i x = row_set (placing p) t i x

abbrev pub put_all : Bool → List ℕ → (i : ℕ) → (xs : List (List ℕ)) → List ℕ
put_all p t i xs = put_rows (placing p) t i xs

-- a list of len words that holds the rows xs, and zeros past them
abbrev pub filled : Bool → (len : ℕ) → (xs : List (List ℕ)) → List ℕ
filled p len xs = filled_by (placing p) len xs

-- the words of a list that holds n records and no more, and such a list of the records rs, numbered 1, 2, 3
abbrev pub words_for : Bool → (n : ℕ) → ℕ
words_for p n = record_size p * n

abbrev pub table_with : Bool → (rs : List (List ℕ)) → List ℕ
table_with p rs = filled p (words_for p (length rs)) (numbered p rs)
