-- The forms of a text's lines: a form is a word with what follows it. The forms 1 to 63 are the kinds, by their rows; the forms 64 to 68 are five more words for a
-- constant. Assumes nothing.
use Rattle.std.specs.Prelude.{ℕ, ◌+◌, ◌-◌, true, false, List, [], ◌∷◌, eqb, leb, get_or}
use Rattle.tables.specs.Pick.{pick}
use Rattle.tables.specs.Kinds.{none, word_sort, number, letters, row, row_of, sort_class, operand_count}

-- In the table of kinds a kind has one word, the one that the writer prints: constd for kind 3. These five are further words for kind 3 that only the reader knows,
-- so they have a table of their own.
abbrev pub extra : List (List ℕ)
extra =
    row "const" word_sort (number ∷ [])
    ∷ row "consth" word_sort (number ∷ [])
    ∷ row "zero" word_sort []
    ∷ row "one" word_sort []
    ∷ row "ones" word_sort []
    ∷ []

-- the row of a form
unfoldable pub form_row : ℕ → List ℕ
form_row f = pick (leb f 63) (row_of f) (get_or extra (f - 64) [])

-- the kind of a form
abbrev pub kind_of : ℕ → ℕ
kind_of f = elim (leb f 63) [ true ↦ f | false ↦ 3 ]

-- A line's numbers are its sort, where it has one, and its operands. They go to the places of its record from `first_of` on, `numbers_of` of them.
abbrev pub sorted : List ℕ → ℕ
sorted r = pick (eqb (sort_class r) none) 0 1

abbrev pub first_of : List ℕ → ℕ
first_of r = 2 - sorted r

abbrev pub numbers_of : List ℕ → ℕ
numbers_of r = sorted r + operand_count r

-- `sort` stands before the words of kinds 1 and 2
abbrev pub sort_word : List ℕ
sort_word = letters "sort"
