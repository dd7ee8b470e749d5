-- What translating answers and leaves. "Translating: 1 for either list; 11; 19 a record of kind 2 is present; 12", the first that holds; else the number of records of the
-- program. Assumes nothing.
use Rattle.tables.specs.declared.Refusal.{Refusal}
use Rattle.std.specs.Prelude.{ℕ, Bool, true, false, ◌&&◌, List, [], ◌∷◌, map, length, Result, Err}
use Rattle.tables.specs.declared.Refusal.TheVariants.{NotATable, ArrayPresent}
use Rattle.tables.specs.Pick.{pick}
use Rattle.tables.specs.Lines.{Line, words_of}
use Rattle.tables.specs.Layout.{whole, lines_of, filled}
use Rattle.tables.specs.Tables.{checked}
use Rattle.tables.specs.Answers.{Outcome, told, if_accepted, fitting, left_by}
use Rattle.programs.specs.Translation.{has_array, translate}

-- the program of a table with its count
abbrev pub program_of : List ℕ → ℕ → List Line
program_of t n = translate (lines_of false t n)

-- 19: a counted record of kind 2 is present
abbrev pub flat_only : Bool → Result ℕ Refusal → Result ℕ Refusal
flat_only true r = Err ArrayPresent
flat_only false r = r

-- what translating answers for the table t with its count n, and a target of len words
unfoldable pub translated : (t : List ℕ) (n len : ℕ) → Result ℕ Refusal
translated t n len =
    pick (whole false (length t) && whole true len)
    (if_accepted (checked false t n) (flat_only (has_array (lines_of false t n)) (fitting true (length (program_of t n)) len)))
    (Err NotATable)

-- what the target holds then: the program's records and zeros past their end; zeros after a refusal
unfoldable pub program_left : (t : List ℕ) (n len : ℕ) → List ℕ
program_left t n len = left_by (translated t n len) len (filled true len (map words_of (program_of t n)))

-- the outcome of translating
unfoldable pub translates : (t : List ℕ) (n len : ℕ) → Outcome
translates t n len = told (translated t n len) (program_left t n len ∷ [])
