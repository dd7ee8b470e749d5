-- Reading that searches the cone of each init value in place of looking at its mark: reading by the mark is held against it. Laws alone cite it. Assumes nothing.
use Rattle.std.specs.Prelude.{ℕ, List, map}
use Rattle.tables.specs.declared.Ty.{Ty}
use Rattle.tables.specs.Lines.{line_of}
use Rattle.tables.specs.Types.{Ctx, ty_at}
use Rattle.tables.specs.Search.{searched}
use Rattle.tables.specs.Answers.{Outcome}
use Rattle.texts.specs.Reading.{Text, read_text_by, outcome_of}

-- the types of the lines so far, each with the mark that a search of its cone finds
abbrev pub searched_types : List (List ℕ) → Ctx → ℕ → Ty
searched_types rs c = searched (map line_of rs) (ty_at c)

abbrev pub read_text_by_search : (len : ℕ) → List ℕ → Text
read_text_by_search = read_text_by searched_types

-- the outcome of reading the text s into a table of len words
abbrev pub reads_by_search : (len : ℕ) → List ℕ → Outcome
reads_by_search len s = outcome_of len (read_text_by_search len s)
