-- What flattening answers and leaves: 1 for either table, 11, 12, the first that holds; else the number of records of the flat circuit. Assumes nothing.
use Rattle.tables.specs.declared.Refusal.{Refusal}
use Rattle.std.specs.Prelude.{ℕ, false, ◌&&◌, List, [], ◌∷◌, length, Result, Err}
use Rattle.tables.specs.declared.Refusal.TheVariants.{NotATable}
use Rattle.tables.specs.Pick.{pick}
use Rattle.tables.specs.Layout.{whole}
use Rattle.tables.specs.Tables.{checked}
use Rattle.tables.specs.Answers.{Outcome, told, if_accepted, fitting, left_by}
use Rattle.flattening.specs.Flat.{flat_lines, flat_records}
use Rattle.flattening.specs.Placed.{flat_filled}

-- what flattening answers for the table t with its count n, and a target of len words
unfoldable pub flattened : (t : List ℕ) (n len : ℕ) → Result ℕ Refusal
flattened t n len =
    pick (whole false (length t) && whole false len)
    (if_accepted (checked false t n) (fitting false (length (flat_lines t n)) len))
    (Err NotATable)

-- what the target holds then: the flat circuit's records and zeros past their end; zeros after a refusal
unfoldable pub flat_left : (t : List ℕ) (n len : ℕ) → List ℕ
flat_left t n len = left_by (flattened t n len) len (flat_filled len (flat_records t n))

-- the outcome of flattening
unfoldable pub flattens : (t : List ℕ) (n len : ℕ) → Outcome
flattens t n len = told (flattened t n len) (flat_left t n len ∷ [])
