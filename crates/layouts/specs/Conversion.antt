-- Conversions: from records one behind the other to columns (true), and back (false). They look at the count alone; records are carried over as they stand. Assumes nothing.
use Rattle.tables.specs.declared.Refusal.{Refusal}
use Rattle.std.specs.Prelude.{ℕ, Bool, not, ◌&&◌, List, [], ◌∷◌, leb, length, Result, Err}
use Rattle.tables.specs.declared.Refusal.TheVariants.{NotATable}
use Rattle.tables.specs.Pick.{pick}
use Rattle.tables.specs.Layout.{record_size, whole, room, placing_in, rows_from, filled_by}
use Rattle.tables.specs.Tables.{broken}
use Rattle.tables.specs.Answers.{Outcome, told, fitting, left_by}

-- what a conversion answers for a list of so many words with its count n, and a target of len words: 1 for either list, 11 (20 for programs) for the count alone, then 12,
-- the first that holds; else the count
unfoldable pub converted : Bool → (words n len : ℕ) → Result ℕ Refusal
converted p words n len =
    pick (whole p words && whole p len)
    (pick (leb n (room p words)) (fitting p n len) (Err (broken p)))
    (Err NotATable)

-- all words of the first n records of a list, in columns or one record behind the other
abbrev pub rows_in : (columns p : Bool) → List ℕ → (n : ℕ) → List (List ℕ)
rows_in columns p t n = rows_from (placing_in columns p) (record_size p) t 0 n

-- what the target holds then: those of the list, by the other layout, and zeros past them; zeros after a refusal
unfoldable pub converted_to : (columns p : Bool) (t : List ℕ) (n len : ℕ) → List ℕ
converted_to columns p t n len = left_by (converted p (length t) n len) len (filled_by (placing_in columns p) len (rows_in (not columns) p t n))

-- the outcome of a conversion
unfoldable pub converts : (columns p : Bool) (t : List ℕ) (n len : ℕ) → Outcome
converts columns p t n len = told (converted p (length t) n len) (converted_to columns p t n len ∷ [])
