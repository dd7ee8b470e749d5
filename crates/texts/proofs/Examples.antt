-- The worked example of the request read and written, a text for each refusal 3 to 10, and names. Assumes nothing.
use Rattle.std.specs.Prelude.{Ok}
use Prim.Native.Nat.{ℕ}
use Prim.Native.Char.{code}
use Prim.Native.String.{String, [] as end, ◌∷◌ as ◌then◌}
use mathlib.Core.Path.{◌≡◌, refl, ap}
use mathlib.Core.Bool.{false}
use mathlib.Core.List.{List, [], ◌∷◌, map}
use native.Mathlib.Omega.{arith}
use lib.Dec.{T, leb, leb→le}
use lib.ListN.{length, take, drop}
use Rattle.tables.specs.declared.Refusal.TheVariants.{NotATable, WrongId, NoRecordLeft, UnknownWord, BadOperand, NumberTooLarge, WrongClass, Misfit, InitOrNext}
use Rattle.tables.specs.Kinds.{row_of}
use Rattle.tables.specs.Lines.{fields}
use Rattle.tables.specs.Layout.{records_of, filled_by, from, words_for, table_with}
use Rattle.tables.specs.Rules.{suits, fault}
use Rattle.tables.specs.Tables.{checked}
use Rattle.texts.specs.Forms.{form_row}
use Rattle.texts.specs.Split.{split, up_to, tokens}
use Rattle.texts.specs.Decimal.{digit, all_in, value_from, valued, scanned, decimal, digits_in, digits, digits_f}
use Rattle.texts.specs.Operands.{resolved}
use Rattle.texts.specs.Reading.{find_in, word_in, settled, lowest, read_line, read_lines_by, read_text_by, read_text, Text, done, refused, table_of}
use Rattle.texts.specs.Search.{read_text_by_search}
use Rattle.texts.specs.Writing.{write_from, write_text}
use Rattle.texts.specs.Naming.{line_from, name_of, name_place}
use Rattle.texts.proofs.Round.{round_trip}

unfoldable pub bytes : String → List ℕ
bytes end = []
bytes (c then s) = code c ∷ bytes s

-- ---- the worked example

abbrev sample : String
sample = "1 sort bitvec 1\n2 sort bitvec 3\n3 sort array 1 2\n4 state 3\n5 input 1\n6 constd 2 5\n7 write 3 4 5 6\n8 next 3 4 7\n9 read 2 4 5\n10 eq 1 9 6\n11 bad 10\n"

abbrev records : List (List ℕ)
records =
    fields 1 0 1 0 0 ∷ fields 1 0 3 0 0 ∷ fields 2 0 1 2 0 ∷ fields 5 3 0 0 0 ∷ fields 4 1 0 0 0 ∷ fields 3 2 5 0 0 ∷ fields 55 3 4 5 6 ∷ fields 7 3 4 7 0 ∷ fields 54 2 4 5 0 ∷ fields 21 1 9 6 0
    ∷ fields 8 0 10 0 0 ∷ []

pub sample_read : read_text (words_for false 20) (bytes sample) ≡ done records (from 1 11)
unfolding bytes read_text_by read_lines_by read_line lowest settled resolved word_in find_in form_row row_of fault suits split up_to tokens decimal scanned valued digits_in all_in value_from digit
sample_read = refl

pub sample_written : write_text records ≡ bytes sample
unfolding bytes write_text write_from digits digits_f row_of
sample_written = refl

-- a table that holds it meets the premises of the round trip
abbrev table : List ℕ
table = table_with false records

pub sample_accepted : checked false table 11 ≡ Ok tt
unfolding checked fault suits row_of filled_by
sample_accepted = refl

sample_short : T (leb (length (write_text (records_of false table 11))) 65536)
unfolding write_text write_from digits digits_f row_of filled_by
sample_short = tt

pub sample_trip : read_text (words_for false 20) (write_text (records_of false table 11)) ≡ done (records_of false table 11) (from 1 11)
sample_trip = round_trip table 11 (words_for false 20) sample_accepted (leb→le (length (write_text (records_of false table 11))) 65536 sample_short) refl (leb→le 11 20 tt)

-- ---- the same circuit with gaps in its ids: the same records; written, it is the text above

abbrev gaps : String
gaps = "5 sort bitvec 1\n9 sort bitvec 3\n10 sort array 5 9\n40 state 10\n41 input 5\n50 constd 9 5\n70 write 10 40 41 50\n71 next 10 40 70 store\n90 read 9 40 41\n100 eq 5 90 50\n4294967295 bad 100\n"

pub gaps_read : read_text 72 (bytes gaps) ≡ done records (5 ∷ 9 ∷ 10 ∷ 40 ∷ 41 ∷ 50 ∷ 70 ∷ 71 ∷ 90 ∷ 100 ∷ 4294967295 ∷ [])
unfolding bytes read_text_by read_lines_by read_line lowest settled resolved word_in find_in form_row row_of fault suits split up_to tokens decimal scanned valued digits_in all_in value_from digit
gaps_read = refl

-- in 72 words they are six columns of twelve, the sixth the ids
pub gaps_columns : table_of 72 (read_text 72 (bytes gaps))
    ≡ 1 ∷ 1 ∷ 2 ∷ 5 ∷ 4 ∷ 3 ∷ 55 ∷ 7 ∷ 54 ∷ 21 ∷ 8 ∷ 0
    ∷ 0 ∷ 0 ∷ 0 ∷ 3 ∷ 1 ∷ 2 ∷ 3 ∷ 3 ∷ 2 ∷ 1 ∷ 0 ∷ 0
    ∷ 1 ∷ 3 ∷ 1 ∷ 0 ∷ 0 ∷ 5 ∷ 4 ∷ 4 ∷ 4 ∷ 9 ∷ 10 ∷ 0
    ∷ 0 ∷ 0 ∷ 2 ∷ 0 ∷ 0 ∷ 0 ∷ 5 ∷ 7 ∷ 5 ∷ 6 ∷ 0 ∷ 0
    ∷ 0 ∷ 0 ∷ 0 ∷ 0 ∷ 0 ∷ 0 ∷ 6 ∷ 0 ∷ 0 ∷ 0 ∷ 0 ∷ 0
    ∷ 5 ∷ 9 ∷ 10 ∷ 40 ∷ 41 ∷ 50 ∷ 70 ∷ 71 ∷ 90 ∷ 100 ∷ 4294967295 ∷ 0 ∷ []
unfolding filled_by
gaps_columns = ap (table_of 72) gaps_read

pub gaps_named : map (name_of (bytes gaps)) (71 ∷ 8 ∷ []) ≡ bytes "store" ∷ [] ∷ []
unfolding bytes name_of line_from word_in find_in form_row row_of split up_to tokens decimal scanned valued all_in value_from digit
gaps_named = refl

-- ---- a text for each refusal, with its text line; there is room for five records

pub answers : List String → List Text
answers ts = map (λ s. read_text (words_for false 5) (bytes s)) ts

pub refusals : answers (
    "\n1 sort bitvec 1\n03 input 1\n"
    ∷ "1 sort bitvec 1\n2 input 1\n3 input 1\n4 input 1\n5 input 1 ; the last\n\n6 inputs\n"
    ∷ "; no name stands here\n1 sort float 8\n"
    ∷ "1 sort bitvec 1\n2 input 1\n3 add 1 18446744073709551616 02\n"
    ∷ "1 sort bitvec 65\n"
    ∷ "1 sort bitvec 1\n2 sort bitvec 2\n3 not 2 1\n"
    ∷ "1 sort bitvec 1\n2 const 1 10 a-name\n"
    ∷ "1 sort bitvec 1\n2 state 1\n3 next 1 2 2\n4 next 1 2 2\n"
    ∷ [])
    ≡ refused WrongId 3 ∷ refused NoRecordLeft 7 ∷ refused UnknownWord 2 ∷ refused BadOperand 3 ∷ refused NumberTooLarge 1 ∷ refused WrongClass 3 ∷ refused Misfit 2 ∷ refused InitOrNext 4 ∷ []
unfolding answers bytes read_text_by read_lines_by read_line lowest settled resolved word_in find_in form_row row_of fault suits split up_to tokens decimal scanned valued digits_in all_in value_from digit
refusals = refl

-- ids: an equal one, a lower one, one too large, one above 2 ^ 64 - 1, 0; an operand that names a hole, its own line, a later line, no line as large as a number may be; one that
-- is no number of 64 bits; a wrong id in a line that has no record left
pub wrong_ids : map (λ s. read_text (words_for false 2) (bytes s)) (
    "5 sort bitvec 1\n5 input 5\n"
    ∷ "5 sort bitvec 1\n4 input 5\n"
    ∷ "5 sort bitvec 1\n4294967296 input 5\n"
    ∷ "5 sort bitvec 1\n18446744073709551616 input 5\n"
    ∷ "0 sort bitvec 1\n"
    ∷ "5 sort bitvec 1\n6 input 1\n"
    ∷ "5 sort bitvec 1\n6 input 6\n"
    ∷ "5 sort bitvec 1\n6 input 7\n7 input 5\n"
    ∷ "5 sort bitvec 1\n6 input 18446744073709551615\n"
    ∷ "5 sort bitvec 1\n6 input 18446744073709551616\n"
    ∷ "5 sort bitvec 1\n6 input 5\n6 input 5\n"
    ∷ [])
    ≡ refused WrongId 2 ∷ refused WrongId 2 ∷ refused WrongId 2 ∷ refused WrongId 2 ∷ refused WrongId 1 ∷ refused WrongClass 2 ∷ refused WrongClass 2 ∷ refused WrongClass 2
    ∷ refused WrongClass 2 ∷ refused NumberTooLarge 2 ∷ refused WrongId 3 ∷ []
unfolding bytes read_text_by read_lines_by read_line lowest settled resolved word_in find_in form_row row_of fault suits split up_to tokens decimal scanned valued digits_in all_in value_from digit
wrong_ids = refl

-- ---- init values: 9 init 1 8 5 has the input 2 beneath it; 5 init 1 3 4 stands behind its state, though nothing is beneath it. A search of the cones answers the same

abbrev inits : List String
inits =
    "1 sort bitvec 4\n2 input 1\n3 constd 1 5\n4 add 1 3 3\n5 add 1 2 3\n6 state 1\n7 init 1 6 4\n8 state 1\n9 init 1 8 5\n"
    ∷ "1 sort bitvec 4\n2 zero 1\n3 state 1\n4 not 1 2\n5 init 1 3 4\n"
    ∷ []

pub init_marks : map (λ s. read_text (words_for false 9) (bytes s)) inits ≡ refused InitOrNext 9 ∷ refused InitOrNext 5 ∷ []
unfolding bytes read_text_by read_lines_by read_line lowest settled resolved word_in find_in form_row row_of fault suits split up_to tokens decimal scanned valued digits_in all_in value_from digit
init_marks = refl

pub init_searches : map (λ s. read_text_by_search (words_for false 9) (bytes s)) inits ≡ refused InitOrNext 9 ∷ refused InitOrNext 5 ∷ []
unfolding bytes read_text_by read_lines_by read_line lowest settled resolved word_in find_in form_row row_of fault suits split up_to tokens decimal scanned valued digits_in all_in value_from digit
init_searches = refl

-- without its last line the first is read: 8 records
pub inits_read : read_text (words_for false 9) (bytes "1 sort bitvec 4\n2 input 1\n3 constd 1 5\n4 add 1 3 3\n5 add 1 2 3\n6 state 1\n7 init 1 6 4\n8 state 1\n")
    ≡ done
    (fields 1 0 4 0 0 ∷ fields 4 1 0 0 0 ∷ fields 3 1 5 0 0 ∷ fields 39 1 3 3 0 ∷ fields 39 1 2 3 0 ∷ fields 5 1 0 0 0 ∷ fields 6 1 6 4 0 ∷ fields 5 1 0 0 0 ∷ [])
    (from 1 8)
unfolding bytes read_text_by read_lines_by read_line lowest settled resolved word_in find_in form_row row_of fault suits split up_to tokens decimal scanned valued digits_in all_in value_from digit
inits_read = refl

-- ---- lengths

-- a list of 10 words is no table of a circuit; one of 6 holds one record, one of 12 two
pub lengths : map (λ len. read_text len (bytes "5 sort bitvec 1\n6 input 5\n")) (10 ∷ 6 ∷ 12 ∷ [])
    ≡ refused NotATable 0 ∷ refused NoRecordLeft 2 ∷ done (fields 1 0 1 0 0 ∷ fields 4 1 0 0 0 ∷ []) (5 ∷ 6 ∷ []) ∷ []
unfolding bytes read_text_by read_lines_by read_line lowest settled resolved word_in find_in form_row row_of fault suits split up_to tokens decimal scanned valued digits_in all_in value_from digit
lengths = refl

-- ---- names

pub names : map (λ n. name_of (bytes "1 sort bitvec 1 bit\n 2  input 1 a;b ; c\n2 input 1 later\n3 add x y z sum\n4 foo 1\n5 input 1 a b\n") n) (1 ∷ 2 ∷ 3 ∷ 4 ∷ 5 ∷ 6 ∷ [])
    ≡ bytes "bit" ∷ bytes "a" ∷ bytes "sum" ∷ [] ∷ [] ∷ [] ∷ []
unfolding bytes name_of line_from word_in find_in form_row row_of split up_to tokens decimal scanned valued all_in value_from digit
names = refl

-- where a name starts: one whose byte is also the id; one behind blank lines and a comment; one behind several spaces; one whose bytes stand earlier in the line
pub places : map (λ s. name_place (bytes s) 1) (
    "1 sort bitvec 1 1"
    ∷ "\n  \n; 1 sort bitvec 1 a\n\n1 sort bitvec 1 a ; a\n"
    ∷ "  1  sort bitvec   1    a  \n"
    ∷ "1 sort bitvec 1 bitvec\n"
    ∷ [])
    ≡ 16 ∷ 41 ∷ 24 ∷ 16 ∷ []
unfolding bytes name_place line_from word_in find_in form_row row_of split up_to tokens decimal scanned valued all_in value_from digit
places = refl

-- the first of these texts begins with its id, which has the bytes of the name and another place
pub id_same_bytes : take 1 (drop 0 (bytes "1 sort bitvec 1 1")) ≡ name_of (bytes "1 sort bitvec 1 1") 1
unfolding bytes name_of line_from word_in find_in form_row row_of split up_to tokens decimal scanned valued all_in value_from digit
id_same_bytes = refl

pub id_other_place : 0 ≡ name_place (bytes "1 sort bitvec 1 1") 1 → ⊥
unfolding bytes name_place line_from word_in find_in form_row row_of split up_to tokens decimal scanned valued all_in value_from digit
id_other_place h = let e : name_place (bytes "1 sort bitvec 1 1") 1 ≡ 16 = refl in omega arith
