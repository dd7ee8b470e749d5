-- The ids of a circuit's lines: "only a not record may hold id 0; the other ids rise as before", from 1 up to 4,294,967,295. Programs have none. Assumes nothing.
use Rattle.std.specs.Prelude.{ℕ, Bool, true, false, not, ◌&&◌, ◌||◌, List, [], ◌∷◌, eqb, leb, ltb}
use Rattle.tables.specs.Pick.{pick}
use Rattle.tables.specs.Lines.{kind_in}
use Rattle.tables.specs.Layout.{Placing, record_words, placing, rows_from, ids_by}

abbrev pub most_id : ℕ
most_id = 4294967295

-- d may be the id of a line as written; last is the last id before it that is not 0, or 0 where there is none
abbrev pub follows : (last d : ℕ) → Bool
follows last d = ltb last d && leb d most_id

-- each of these ids that is not 0 may follow the last such id before it
abbrev pub rising : (last : ℕ) → List ℕ → Bool
rising last [] = true
rising last (d ∷ ds) = pick (eqb d 0) (rising last ds) (follows last d && rising d ds)

-- the kind of a not record
abbrev pub not_kind : ℕ
not_kind = 11

-- of records with their ids, only a not record holds id 0
abbrev pub zeros_on_nots : List (List ℕ) → List ℕ → Bool
zeros_on_nots [] ds = true
zeros_on_nots (r ∷ rs) [] = true
zeros_on_nots (r ∷ rs) (d ∷ ds) = (not (eqb d 0) || eqb (kind_in r) not_kind) && zeros_on_nots rs ds

-- the ids ds of a circuit's records rs keep both rules
abbrev pub right_ids : List (List ℕ) → List ℕ → Bool
right_ids rs ds = rising 0 ds && zeros_on_nots rs ds

-- those of the first n records of a list, by a layout; a program has none
abbrev pub ids_right_by : Placing → Bool → List ℕ → (n : ℕ) → Bool
ids_right_by f false t n = right_ids (rows_from f record_words t 0 n) (ids_by f t 0 n)
ids_right_by f true t n = true

abbrev pub ids_right : Bool → List ℕ → (n : ℕ) → Bool
ids_right p t n = ids_right_by (placing p) p t n
