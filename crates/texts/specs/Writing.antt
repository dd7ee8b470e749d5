-- Writing a table as text: one space between tokens, every constant as constd, no names, LF after each line. Assumes nothing.
use Rattle.std.specs.Prelude.{ℕ, zero, suc, ◌-◌, Bool, true, false, List, [], ◌∷◌, ◌++◌, leb, length, get_or, replicate, Result, Ok, Err}
use Rattle.tables.specs.declared.Refusal.{Refusal}
use Rattle.tables.specs.declared.Refusal.TheVariants.{TextBuffer}
use Rattle.tables.specs.Kinds.{row_of, word_of}
use Rattle.tables.specs.Lines.{kind_in}
use Rattle.tables.specs.Layout.{records_of}
use Rattle.tables.specs.Tables.{checked}
use Rattle.tables.specs.Answers.{Outcome, told}
use Rattle.texts.specs.Forms.{first_of, numbers_of, sort_word}
use Rattle.texts.specs.Split.{join}
use Rattle.texts.specs.Decimal.{digits}

-- m numbers of a record, from the place j on
abbrev pub numbers : (m j : ℕ) → List ℕ → List (List ℕ)
numbers zero j rec = []
numbers (suc m) j rec = digits (get_or rec j 0) ∷ numbers m (suc j) rec

abbrev pub headed : Bool → List ℕ → List (List ℕ)
headed true w = sort_word ∷ w ∷ []
headed false w = w ∷ []

-- the word of a kind; `sort` stands before those of kinds 1 and 2
abbrev pub kind_tokens : ℕ → List (List ℕ)
kind_tokens k = headed (leb k 2) (word_of (row_of k))

-- the tokens of a record's line with the id n
abbrev pub tokens_of : ℕ → List ℕ → List (List ℕ)
tokens_of n rec = digits n ∷ (kind_tokens (kind_in rec) ++ numbers (numbers_of (row_of (kind_in rec))) (first_of (row_of (kind_in rec))) rec)

-- the lines of records, the first of which has the id n
unfoldable pub write_from : ℕ → List (List ℕ) → List ℕ
write_from n [] = []
write_from n (rec ∷ rs) = join (tokens_of n rec) ++ 10 ∷ write_from (suc n) rs

-- the text of a table's records
unfoldable pub write_text : List (List ℕ) → List ℕ
write_text rs = write_from 1 rs

-- ---- a table with its count, into a text buffer of len bytes: 1, 11, 21

pub data Out : Type 0 where
  wrote : (s : List ℕ) → Out
  refuse : (r : Refusal) → Out

abbrev pub fitted : ℕ → List ℕ → Out
fitted len s = elim (leb (length s) len) [ true ↦ wrote s | false ↦ refuse TextBuffer ]

abbrev pub written_by : Result (Unit {0}) Refusal → ℕ → List ℕ → Out
written_by (Ok _) len s = fitted len s
written_by (Err r) len s = refuse r

unfoldable pub write_table : (t : List ℕ) (n len : ℕ) → Out
write_table t n len = written_by (checked false t n) len (write_text (records_of false t n))

-- what is answered, and the bytes of the buffer afterwards: zero past the text, and zero after a refusal
abbrev pub write_answer : Out → Result ℕ Refusal
write_answer (wrote s) = Ok (length s)
write_answer (refuse r) = Err r

abbrev pub buffer_of : (len : ℕ) → Out → List ℕ
buffer_of len (wrote s) = s ++ replicate (len - length s) 0
buffer_of len (refuse r) = replicate len 0

-- the outcome of writing the first n records of the table t into a buffer of len bytes
unfoldable pub writes : (t : List ℕ) (n len : ℕ) → Outcome
writes t n len = told (write_answer (write_table t n len)) (buffer_of len (write_table t n len) ∷ [])
