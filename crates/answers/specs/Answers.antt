-- What the C interface tells: a refusal's number or 0, the three words of the answer list, and the lists that were lent for writing. Assumes nothing.
use Rattle.std.specs.Prelude.{ℕ, ◌+◌, ◌≤◌, ◌<◌, ◌≡◌, Bool, List, map, eqb, length, replicate, get_or, take, drop}
use Rattle.tables.specs.Pick.{pick}
use Rattle.tables.specs.Answers.{Outcome}
use Rattle.texts.specs.Naming.{name_of, name_place}

-- a list of three words is an answer list
abbrev pub three : List ℕ → Bool
three answer = eqb (length answer) 3

-- a list of that length, all zero
abbrev pub zeros : List ℕ → List ℕ
zeros xs = replicate (length xs) 0

-- what a C function returns, and what it leaves in the answer list and in the other lists
abbrev pub tells : ℕ → (answer : List ℕ) (left : List (List ℕ)) → Outcome
tells n answer left = record { number = n; values = answer; left = left }

-- an operation's outcome, where the answer list has three words; another list in its place is refused by 1, and all that was lent for writing is zero
abbrev pub answered : (answer : List ℕ) (lent : List (List ℕ)) → Outcome → Outcome
answered answer lent o = pick (three answer) o (tells 1 (zeros answer) (map zeros lent))

-- name: where it starts in the text, and its length; where an empty part stands is free
pub record Named (text : List ℕ) (id : ℕ) (answer : List ℕ) : Type 0 where
  pub three_words : length answer ≡ 3
  pub inside : get_or answer 0 0 + get_or answer 1 0 ≤ length text
  pub name : take (get_or answer 1 0) (drop (get_or answer 0 0) text) ≡ name_of text id
  pub place : 0 < length (name_of text id) → get_or answer 0 0 ≡ name_place text id
  pub unused : get_or answer 2 0 ≡ 0
