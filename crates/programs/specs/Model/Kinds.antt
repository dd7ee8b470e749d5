-- The translation by kind: which operands are lines, which lines have a value, and the marks of lines that have a needing use. Assumes nothing.
use Rattle.std.specs.Prelude.{ℕ, Bool, true, false, ◌&&◌, ◌||◌, List, leb, eqb, get_or, set}
use Rattle.words.specs.Kinds.{need_kind₁, need_kind₂}
use Rattle.tables.specs.Pick.{pick, inside}
use Rattle.tables.specs.Lines.{kind_in, first_in, second_in}

-- which operands are lines, and which lines have a value
abbrev pub first_line : ℕ → Bool
first_line k = leb 6 k

abbrev pub second_line : ℕ → Bool
second_line k = inside 6 7 k || leb 21 k

abbrev pub third_line : ℕ → Bool
third_line k = eqb k 53 || eqb k 55

abbrev pub has_value : ℕ → Bool
has_value k = inside 3 5 k || leb 11 k

-- ---- marks, an entry for each line number

-- the line a has a mark
abbrev pub mark_at : List Bool → ℕ → Bool
mark_at ms a = get_or ms a false

-- a mark at each line that a record needs clean
abbrev pub mark_if : Bool → (a : ℕ) → List Bool → List Bool
mark_if t a ms = pick t (set ms a true) ms

abbrev pub uses_marked : List ℕ → List Bool → List Bool
uses_marked r ms = mark_if (need_kind₂ (kind_in r) && second_line (kind_in r)) (second_in r) (mark_if (need_kind₁ (kind_in r)) (first_in r) ms)
