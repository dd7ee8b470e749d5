-- The name of a line: the one extra token of the first line whose id is the given number. It is empty where that line is missing, has an unknown word or has not
-- just one extra token. Any text will do. Assumes nothing.
use Rattle.std.specs.Prelude.{ℕ, ◌+◌, Bool, true, false, List, [], ◌∷◌, eqb, length, get_or, Ok, Err}
use Rattle.texts.specs.Decimal.{Num}
use Rattle.texts.specs.Split.{split, up_to}
use Rattle.texts.specs.Decimal.{decimal}
use Rattle.texts.specs.Reading.{last_of, line_tokens, line_name}

-- a line or a token, as a part of the text: its place, where it starts, counted from the text's first byte, and its bytes
pub record Located : Type 0 where
  pub place : ℕ
  pub content : List ℕ

abbrev pub located : ℕ → List ℕ → Located
located i x = record { place = i; content = x }

-- ---- the line

-- a token is the number n
abbrev pub is_id : Num → ℕ → Bool
is_id (Err e) n = false
is_id (Ok v) n = eqb v n

-- the line's id is the number n
abbrev pub leads : ℕ → List (List ℕ) → Bool
leads n [] = false
leads n (t ∷ ts) = is_id (decimal t) n

-- the first line whose id is n, of lines that are parted by one byte and of which the first stands at the place i; an empty line where it is missing
unfoldable pub line_from : (n i : ℕ) → List (List ℕ) → Located
line_from n i [] = located 0 []
line_from n i (x ∷ xs) = elim (leads n (line_tokens x)) [ true ↦ located i x | false ↦ line_from n (i + length x + 1) xs ]

-- the first line of the text s whose id is n
abbrev pub line_with : List ℕ → ℕ → Located
line_with s n = line_from n 0 (split 10 s)

-- the tokens of the text's line j, counted from 0; none past the end
abbrev pub text_line : List ℕ → (j : ℕ) → List (List ℕ)
text_line s j = line_tokens (get_or (split 10 s) j [])

-- ---- its name

unfoldable pub name_of : List ℕ → ℕ → List ℕ
name_of s n = line_name (line_tokens (line_with s n).content)

-- ---- where the name starts

-- the parts that are not empty, of parts that are parted by one byte and of which the first stands at the place i
abbrev pub located_from : ℕ → List (List ℕ) → List Located
located_from i [] = []
located_from i ([] ∷ ls) = located_from (i + 1) ls
located_from i ((c ∷ l) ∷ ls) = located i (c ∷ l) ∷ located_from (i + length (c ∷ l) + 1) ls

-- a line's tokens, each with its place
abbrev pub located_tokens : Located → List Located
located_tokens l = located_from l.place (split 32 (up_to 59 l.content))

-- where the last token of a line starts
abbrev pub last_place : Located → ℕ
last_place l = (last_of (located 0 []) (located_tokens l)).place

-- a name is the line's last token: it starts where that does
unfoldable pub name_place : List ℕ → ℕ → ℕ
name_place s n = last_place (line_with s n)
