-- Rows of records as the code makes them, from words that it takes in turn from a source. The flat lines so far are p. Assumes nothing.
use Rattle.std.specs.Prelude.{ℕ, zero, suc, ◌+◌, ◌-◌, ◌*◌, ◌≤◌, ◌<◌, List, [], ◌∷◌, ◌++◌, leb, Option, Some, None}
use Rattle.tables.specs.Pick.{pick}
use Rattle.tables.specs.Lines.{fields}
use Rattle.flattening.specs.declared.Words.{Words}
use Rattle.flattening.specs.declared.Words.TheVariants.{Cells, Numbers}
use Rattle.flattening.specs.declared.Source.{Source}
use Rattle.flattening.specs.Model.Cells.{Held, cell_in}

-- ---- sources

-- the numbers base + step * j, one number for all, and the cells of a line; then numbers and cells that fall from the place top
abbrev pub stepping : (base step : ℕ) → Source
stepping b s = record { words = Numbers b s; top = None }

abbrev pub still : ℕ → Source
still b = stepping b 0

abbrev pub of : ℕ → Source
of a = record { words = Cells a; top = None }

abbrev pub run_down : (base top : ℕ) → Source
run_down b t = record { words = Numbers b 1; top = Some t }

abbrev pub of_down : (a top : ℕ) → Source
of_down a t = record { words = Cells a; top = Some t }

-- the place of the word j of a source: a falling one counts down from its top
abbrev pub down_from : Option ℕ → ℕ → ℕ
down_from None j = j
down_from (Some t) j = t - j

abbrev pub turn_at : Source → ℕ → ℕ
turn_at s j = down_from s.top j

-- the word at a place: the flat line of a line's cell, or base + step * i
abbrev pub word_from : Held → Words → ℕ → ℕ
word_from H (Cells a) i = cell_in H a i
word_from H (Numbers b s) i = b + s * i

abbrev pub source_at : Held → Source → ℕ → ℕ
source_at H s j = word_from H s.words (turn_at s j)

abbrev pub TameWords : Words → Type 0
TameWords (Cells a) = Unit {0}
TameWords (Numbers b s) = (b ≤ 1048576) × (s ≤ 256)

abbrev pub TameTop : Option ℕ → Type 0
TameTop None = Unit {0}
TameTop (Some t) = t < 256

pub record Tame (s : Source) : Type 0 where
  pub words : TameWords s.words
  pub top : TameTop s.top

-- ---- rows

-- the records for n cells, where those for the cell j are g j
abbrev pub rows_for : ℕ → (ℕ → List (List ℕ)) → List (List ℕ)
rows_for zero g = []
rows_for (suc n) g = rows_for n g ++ g n

-- the record j of a row
abbrev pub row_at : Held → (k s : ℕ) → (x y z : Source) → ℕ → List (List ℕ)
row_at H k s x y z j = fields k s (source_at H x j) (source_at H y j) (source_at H z j) ∷ []

-- the pair j of an eq and an ite: the ite's condition is the line of the eq
abbrev pub pair_at : Held → (p o i s : ℕ) → (c x y : Source) → ℕ → List (List ℕ)
pair_at H p o i s c x y j = fields 21 o i (source_at H c j) 0 ∷ fields 53 s (suc (p + 2 * j)) (source_at H x j) (source_at H y j) ∷ []

-- ---- the rows of one line, where n is a number of cells

abbrev pub array_records : Held → (s n : ℕ) → List (List ℕ)
array_records H s n = fields 1 0 1 0 0 ∷ rows_for n (row_at H 3 s (stepping 0 1) (still 0) (still 0))

-- the first of the ands, or ors, takes the first two tests; each of the others the one before it and the next test
abbrev pub join_records : Held → (p j s n : ℕ) → List (List ℕ)
join_records H p j s n =
    pick (leb 2 n) (fields j s (p + 1) (p + 2) 0 ∷ rows_for (n - 2) (row_at H j s (stepping (p + n + 1) 1) (stepping (p + 3) 1) (still 0))) []

abbrev pub equality_records : Held → (p k j s x y n : ℕ) → List (List ℕ)
equality_records H p k j s x y n = rows_for n (row_at H k s (of x) (of y) (still 0)) ++ join_records H p j s n

-- o is the width-1 sort line, i the flat line of the index; the index constants stand after o
abbrev pub read_records : Held → (p o i s a n : ℕ) → List (List ℕ)
read_records H p o i s a n =
    rows_for 1 (pair_at H p o i s (run_down (o + 1) (n - 2)) (of_down a (n - 2)) (still (cell_in H a (n - 1))))
    ++ rows_for (n - 2) (pair_at H (p + 2) o i s (run_down (o + 1) (n - 3)) (of_down a (n - 3)) (stepping (p + 2) 2))

abbrev pub write_records : Held → (p o i s v a n : ℕ) → List (List ℕ)
write_records H p o i s v a n = rows_for n (pair_at H p o i s (stepping (o + 1) 1) (still v) (of a))
