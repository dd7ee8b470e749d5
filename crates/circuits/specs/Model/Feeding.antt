-- How the code gives free states the words of a row: by a list of the lines of free states, in order, and what the list P holds of each. Assumes nothing.
use Rattle.std.specs.Prelude.{ℕ, zero, suc, ◌+◌, ◌≤◌, ◌≡◌, Bool, List, [], ◌∷◌, ◌++◌, take, drop}
use Rattle.words.specs.Word.{Width}
use Rattle.tables.specs.Pick.{pick}
use Rattle.tables.specs.Lines.{Line}
use Rattle.circuits.specs.Cells.{mask_words, put}
use Rattle.circuits.specs.Free.{if_state, has_next}
use Rattle.circuits.specs.Run.{row_length}
use Rattle.circuits.specs.Model.Work.{num_in, pos_in, wid_in}

-- the line n, where it is a state that has no next
abbrev pub free_line : (is_driven : Bool) (n : ℕ) → Line → List ℕ
free_line is_driven n l = if_state l (pick is_driven [] (n ∷ [])) []

abbrev pub free_lines_from : (drives : ℕ → Bool) (n : ℕ) → List Line → List ℕ
free_lines_from drives n [] = []
free_lines_from drives n (l ∷ ls) = free_line (drives n) n l ++ free_lines_from drives (suc n) ls

unfoldable pub free_lines : (program : Bool) → (C : List Line) → List ℕ
free_lines program C = free_lines_from (has_next program C) 1 C

-- the cells of the lines qs
abbrev pub cells_in : (P : List (List ℕ)) → (qs : List ℕ) → ℕ
cells_in P [] = 0
cells_in P (q ∷ qs) = num_in P q + cells_in P qs

-- the state words σ where the lines qs take those of the row, one line after the other
abbrev pub fed_lines : (P : List (List ℕ)) → (qs σ row : List ℕ) → List ℕ
fed_lines P [] σ row = σ
fed_lines P (q ∷ qs) σ row = fed_lines P qs (put σ (pos_in P q) (mask_words (wid_in P q) (take (num_in P q) row))) (drop (num_in P q) row)

-- the state words that the step t begins with, where the lines qs are those of free states
abbrev pub entered_in : (P : List (List ℕ)) → (qs : List ℕ) (t : ℕ) (before row : List ℕ) → List ℕ
entered_in P qs zero before row = before
entered_in P qs (suc t) before row = fed_lines P qs before row

-- what is asked of such a line, where there are so many state words, and of all of them
pub record FitFed (P : List (List ℕ)) (words q : ℕ) : Type 0 where
  pub known : q ≤ 16384
  pub some : 1 ≤ num_in P q
  pub wide : Width (wid_in P q)
  pub inside : pos_in P q + num_in P q ≤ words

abbrev pub AllFed : (P : List (List ℕ)) (words : ℕ) → (qs : List ℕ) → Type 0
AllFed P words [] = Unit {0}
AllFed P words (q ∷ qs) = FitFed P words q × AllFed P words qs

-- a row of the lines C has so many words, and qs are the lines of the free states
pub record Rows (p : Bool) (C : List Line) (row : ℕ) (qs : List ℕ) : Type 0 where
  pub long : row_length p C ≡ row
  pub lines : qs ≡ free_lines p C
