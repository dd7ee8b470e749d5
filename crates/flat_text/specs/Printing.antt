-- "It reads standard input and prints the flat text, or `refused N L` and LF (L the text line, 0 if none)": what is printed for a text s that is read into a table of
-- len words, flattened into a target of flat_len words, and printed through an output list of out_len bytes. Assumes nothing.
use Rattle.tables.specs.declared.Refusal.{Refusal}
use Rattle.std.specs.Prelude.{ℕ, List, [], ◌∷◌, ◌++◌, leb, length, replicate, Result, Ok, Err}
use Rattle.tables.specs.Pick.{pick}
use Rattle.tables.specs.Kinds.{letters}
use Rattle.tables.specs.Refusals.{number_of}
use Rattle.tables.specs.Answers.{Outcome, told}
use Rattle.texts.specs.declared.TextRefusal.{TextRefusal}
use Rattle.texts.specs.Split.{join}
use Rattle.texts.specs.Decimal.{digits}
use Rattle.texts.specs.Reading.{read_text, text_answer, table_of}
use Rattle.texts.specs.Writing.{Out, wrote, refuse, write_table, buffer_of}
use Rattle.flattening.specs.Answers.{flattened, flat_left}

-- `refused N L` and LF
abbrev pub refusal_line : (n l : ℕ) → List ℕ
refusal_line n l = join (letters "refused" ∷ digits n ∷ digits l ∷ []) ++ (10 ∷ [])

-- it is printed where the output list has room for it; else nothing is printed
abbrev pub refusal_in : (out_len n l : ℕ) → List ℕ
refusal_in out_len n l = pick (leb (length (refusal_line n l)) out_len) (refusal_line n l) []

-- what is printed, by what writing the flat table gives
abbrev pub after_writing : (out_len : ℕ) → Out → List ℕ
after_writing out_len (wrote s) = s
after_writing out_len (refuse r) = refusal_in out_len (number_of r) 0

-- by what flattening answers; F is the target that it leaves
abbrev pub after_flattening : (out_len : ℕ) → Result ℕ Refusal → (F : List ℕ) → List ℕ
after_flattening out_len (Ok m) F = after_writing out_len (write_table F m out_len)
after_flattening out_len (Err r) F = refusal_in out_len (number_of r) 0

-- by what reading answers; T is the table that it leaves
abbrev pub after_reading : (flat_len out_len : ℕ) → Result ℕ TextRefusal → (T : List ℕ) → List ℕ
after_reading flat_len out_len (Ok n) T = after_flattening out_len (flattened T n flat_len) (flat_left T n flat_len)
after_reading flat_len out_len (Err x) T = refusal_in out_len (number_of x.refusal) x.line

-- the bytes that are printed
unfoldable pub printed : (len flat_len out_len : ℕ) → (s : List ℕ) → List ℕ
printed len flat_len out_len s = after_reading flat_len out_len (text_answer (read_text len s)) (table_of len (read_text len s))

-- what the target holds then: what flattening leaves, and zeros where reading is refused
abbrev pub target_after : (flat_len : ℕ) → Result ℕ TextRefusal → (T : List ℕ) → List ℕ
target_after flat_len (Ok n) T = flat_left T n flat_len
target_after flat_len (Err x) T = replicate flat_len 0

-- the outcome: the number of the bytes printed; the table and the target; the output list, which holds the bytes and zeros past them
unfoldable pub prints : (len flat_len out_len : ℕ) → (s : List ℕ) → Outcome
prints len flat_len out_len s =
    told (Ok (length (printed len flat_len out_len s)))
    (table_of len (read_text len s)
    ∷ target_after flat_len (text_answer (read_text len s)) (table_of len (read_text len s))
    ∷ buffer_of out_len (wrote (printed len flat_len out_len s))
    ∷ [])
