-- Where the last token of a line ends. Assumes nothing.
use Rattle.std.specs.Prelude.{ℕ, ◌+◌, List, [], length}
use Rattle.texts.specs.Split.{split}
use Rattle.texts.specs.Reading.{last_of}
use Rattle.texts.specs.Naming.{Located, located, located_from}

abbrev pub end_of : Located → ℕ
end_of t = t.place + length t.content

-- of a line without its comment, counted from the line's first byte
abbrev pub tokens_end : List ℕ → ℕ
tokens_end l = end_of (last_of (located 0 []) (located_from 0 (split 32 l)))
