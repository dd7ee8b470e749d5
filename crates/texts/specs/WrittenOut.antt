-- The text in which each minus operand is written out as a not line: all lines are numbered 1, 2, 3 by their places, so that a not line has a number of its own, and the
-- line behind it names that number where the minus operand stood. Words, plain numbers and names stay as they are. Texts are lists of lines here, lines lists of tokens.
-- Laws alone cite it. Assumes nothing.
use Rattle.std.specs.Prelude.{ℕ, suc, ◌+◌, ◌-◌, ◌≡◌, List, [], ◌∷◌, ◌++◌, map, length, take, get_or, replicate}
use Rattle.tables.specs.Pick.{pick}
use Rattle.tables.specs.Kinds.{letters, class_at, names_line}
use Rattle.texts.specs.Forms.{form_row, first_of}
use Rattle.texts.specs.Split.{split}
use Rattle.texts.specs.Decimal.{digits}
use Rattle.texts.specs.Operands.{place_by_id}
use Rattle.texts.specs.Reading.{word_in, form_of, behind, number_at, sign_at, number_tokens, extra_tokens, value_of, line_id, line_tokens}

-- ---- a line, after lines that have the ids ds, in the order of their places, 0 for a not line that has been written out

-- the place of the line that a token names, whatever its sign
abbrev pub named_place : (f j : ℕ) (ds : List ℕ) → List ℕ → ℕ
named_place f j ds t = place_by_id ds (value_of (number_at f j t))

-- a token for the place j: where it names a line, the number of that line's place, or with a minus p, the number of its not line; a plain number stays
abbrev pub out_token : (f j p : ℕ) (ds : List ℕ) → List ℕ → List ℕ
out_token f j p ds t = pick (names_line (class_at (form_row f) j)) (digits (pick (sign_at f j t) p (named_place f j ds t))) t

-- those for the places j and up, after n lines
abbrev pub out_tokens : (f j n : ℕ) (ds : List ℕ) → List (List ℕ) → List (List ℕ)
out_tokens f j n ds [] = []
out_tokens f j n ds (t ∷ ts) = out_token f j (suc n) ds t ∷ out_tokens f (suc j) (n + pick (sign_at f j t) 1 0) ds ts

-- the line that says that p is the complement of the line a; ss are the places of the lines' sorts
abbrev pub not_line : (p : ℕ) (ss : List ℕ) (a : ℕ) → List (List ℕ)
not_line p ss a = digits p ∷ letters "not" ∷ digits (get_or ss (a - 1) 0) ∷ digits a ∷ []

-- one for each minus operand, and its sort
abbrev pub not_lines : (f j n : ℕ) (ds ss : List ℕ) → List (List ℕ) → List (List (List ℕ))
not_lines f j n ds ss [] = []
not_lines f j n ds ss (t ∷ ts) =
    pick (sign_at f j t) (not_line (suc n) ss (named_place f j ds t) ∷ not_lines f (suc j) (suc n) ds ss ts) (not_lines f (suc j) n ds ss ts)

abbrev pub not_sorts : (f j : ℕ) (ds ss : List ℕ) → List (List ℕ) → List ℕ
not_sorts f j ds ss [] = []
not_sorts f j ds ss (t ∷ ts) = pick (sign_at f j t) (get_or ss (named_place f j ds t - 1) 0 ∷ not_sorts f (suc j) ds ss ts) (not_sorts f (suc j) ds ss ts)

-- the tokens of a line's word, `sort` and what follows it among them, of the tokens ts behind its id
abbrev pub word_tokens : List (List ℕ) → List (List ℕ)
word_tokens ts = take (length ts - length (behind (word_in ts))) ts

-- A line whose tokens behind its id are ts, of the form f and with the tokens us for its numbers, after lines that have the ids ds and the sorts ss.
module _ (ds ss : List ℕ) (ts : List (List ℕ)) (f : ℕ) (us : List (List ℕ)) where
  -- the lines before it
  abbrev pub nots_of : List (List (List ℕ))
  nots_of = not_lines f (first_of (form_row f)) (length ds) ds ss us

  -- its own, which keeps its word and its name
  abbrev pub own_line : List (List ℕ)
  own_line = digits (suc (length ds + length nots_of)) ∷ (word_tokens ts ++ (out_tokens f (first_of (form_row f)) (length ds) ds us ++ extra_tokens f (behind (word_in ts))))

  -- the place of its sort, 0 where it has none
  abbrev pub sort_place : ℕ
  sort_place = pick (names_line (class_at (form_row f) 1)) (named_place f 1 ds (get_or us 0 [])) 0

  -- all its lines, their ids as they are written in the first text, and their sorts
  abbrev pub out_lines : List (List (List ℕ))
  out_lines = nots_of ++ (own_line ∷ [])

  abbrev pub out_ids : (d : ℕ) → List ℕ
  out_ids d = replicate (length nots_of) 0 ++ (d ∷ [])

  abbrev pub out_sorts : List ℕ
  out_sorts = not_sorts f (first_of (form_row f)) ds ss us ++ (sort_place ∷ [])

-- ---- a text

-- the tokens for the numbers of a line, of the tokens ts behind its id
abbrev pub number_tokens_in : List (List ℕ) → List (List ℕ)
number_tokens_in ts = number_tokens (form_of (word_in ts)) (behind (word_in ts))

-- its lines after lines that have the ids ds and the sorts ss; blank lines are left out
abbrev pub written_from : (ds ss : List ℕ) → List (List (List ℕ)) → List (List (List ℕ))
written_from ds ss [] = []
written_from ds ss ([] ∷ xs) = written_from ds ss xs
written_from ds ss ((t ∷ ts) ∷ xs) =
    out_lines ds ss ts (form_of (word_in ts)) (number_tokens_in ts)
    ++ written_from (ds ++ out_ids ds ss ts (form_of (word_in ts)) (number_tokens_in ts) (line_id (t ∷ ts))) (ss ++ out_sorts ds ss ts (form_of (word_in ts)) (number_tokens_in ts)) xs

-- the lines of a text that are not blank, as tokens
abbrev pub some_lines : List (List (List ℕ)) → List (List (List ℕ))
some_lines [] = []
some_lines ([] ∷ xs) = some_lines xs
some_lines ((t ∷ ts) ∷ xs) = (t ∷ ts) ∷ some_lines xs

abbrev pub token_lines : List ℕ → List (List (List ℕ))
token_lines s = map line_tokens (split 10 s)

-- the text s' is the text s with its minus operands written out; spaces, blank lines and comments are of no matter
abbrev pub WrittenOut : (s s' : List ℕ) → Type 0
WrittenOut s s' = some_lines (token_lines s') ≡ written_from [] [] (token_lines s)
