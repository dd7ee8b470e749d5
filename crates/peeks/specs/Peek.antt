-- Peek: the word of a line, or one of its cells, at step 0. The answers are 1, 11, 14, 15, 18, the first that holds; else the value. Assumes nothing.
use Rattle.tables.specs.declared.Refusal.{Refusal}
use Rattle.std.specs.Prelude.{ℕ, ◌≤◌, ◌≡◌, Bool, true, false, ◌&&◌, ◌||◌, List, [], leb, ltb, eqb, length, take, get_or, Result, Ok, Err}
use Rattle.std.proofs.Common.{ap, zero-mul, take-take}
use Rattle.tables.specs.declared.Refusal.TheVariants.{StartWords, InputWords, NoSuchCell}
use Rattle.tables.specs.declared.Ty.{Ty}
use Rattle.tables.specs.Pick.{pick, inside}
use Rattle.tables.specs.Lines.{Line}
use Rattle.tables.specs.Types.{is_value}
use Rattle.tables.specs.Tables.{checked}
use Rattle.tables.specs.Answers.{Outcome, told}
use Rattle.circuits.specs.Cells.{part}
use Rattle.circuits.specs.Layout.{Counts, type_at, size, layout}
use Rattle.circuits.specs.Meaning.{Frame, cells_at, step}
use Rattle.circuits.specs.Run.{input_count, row_length, start, step_from, words_before, step_at}
use Rattle.tables.specs.Layout.{lines_of}
use Rattle.circuits.specs.Answers.{and_then}

-- all lines at step 0 of a run: from the start words S and the init values, on the inputs of the first row of I
unfoldable pub step_zero : List Line → (S I : List ℕ) → Frame
step_zero C S I = step false false C (start false C S I) (take (input_count false C) I)

-- it is the step that a run begins with
pub run_begins : (C : List Line) (S I : List ℕ) → step_at false C S I 0 ≡ step_zero C S I
unfolding step_at step_from words_before step_zero
run_begins C S I = ap (λ (m : ℕ). step false false C (start false C S I) (part I m (input_count false C))) (zero-mul (row_length false C))

-- and it depends on the inputs of the first row alone: what stands behind them, the words for free states too, is of no matter
pub first_row : (C : List Line) (S I : List ℕ) (n : ℕ) → input_count false C ≤ n → step_zero C S (take n I) ≡ step_zero C S I
unfolding step_zero start
first_row C S I n h = ap (λ (ι : List ℕ). step false false C (step false true C S ι).sts ι) (take-take (input_count false C) n I h)

-- the value of a line's cell, from the start words and one row; a word is its cell 0
unfoldable pub peek_at : List Line → (S R : List ℕ) (line cell : ℕ) → ℕ
peek_at C S R line cell = get_or (cells_at (step_zero C S R) line) cell 0

-- the kinds of value lines
abbrev pub value_kind : ℕ → Bool
value_kind k = inside 3 5 k || (inside 11 55 k || inside 57 63 k)

-- A line of the type y is a value and has the cell, among at most 64 records. Line 0 and lines past the count have no type; of the others
-- those of the kinds above have a value's (proofs/ValueLines).
abbrev pub has_cell : Ty → (n cell : ℕ) → Bool
has_cell y n cell = leb n 64 && (is_value y && ltb cell (size y))

-- The tests after the table's, for s start words and i words of a row. A row has the inputs, and the words for free states, which step 0 leaves unread.
abbrev pub may_peek : Counts → (row : ℕ) → Ty → (n cell s i : ℕ) → Result (Unit {0}) Refusal
may_peek c row y n cell s i =
    pick (eqb s c.states) (
    pick (eqb i row) (
    pick (has_cell y n cell) (Ok tt)
    (Err NoSuchCell)) (Err InputWords)) (Err StartWords)

abbrev pub seen_as : Result (Unit {0}) Refusal → ℕ → Result ℕ Refusal
seen_as (Ok _) v = Ok v
seen_as (Err r) v = Err r

-- what peek answers for the table t with its count n
unfoldable pub peeked : (t : List ℕ) (n line cell : ℕ) (S R : List ℕ) → Result ℕ Refusal
peeked t n line cell S R =
    seen_as
    (and_then (checked false t n)
    (may_peek (layout false (lines_of false t n)).counts (row_length false (lines_of false t n)) (type_at (layout false (lines_of false t n)) line) n cell (length S) (length R)))
    (peek_at (lines_of false t n) S R line cell)

-- the request's number and values for what peek answers: the value
abbrev pub told_peek : Result ℕ Refusal → Outcome
told_peek r = told r []

-- the outcome of a peek
unfoldable pub peeks : (t : List ℕ) (n line cell : ℕ) (S R : List ℕ) → Outcome
peeks t n line cell S R = told_peek (peeked t n line cell S R)
