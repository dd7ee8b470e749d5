-- Minus operands: the request's readings, computed. Assumes nothing.
use Prim.Native.Nat.{ℕ}
use Prim.Native.String.{String}
use mathlib.Core.Path.{◌≡◌, refl}
use mathlib.Core.Bool.{false}
use mathlib.Core.List.{List, [], ◌∷◌, ◌++◌, map}
use lib.ListN.{replicate}
use Rattle.tables.specs.declared.Refusal.TheVariants.{NoRecordLeft, BadOperand, NumberTooLarge, WrongClass, Misfit}
use Rattle.tables.specs.Kinds.{row_of}
use Rattle.tables.specs.Lines.{fields}
use Rattle.tables.specs.Layout.{from, words_for}
use Rattle.tables.specs.Rules.{suits, fault}
use Rattle.texts.specs.Forms.{form_row}
use Rattle.texts.specs.Split.{split, up_to, tokens}
use Rattle.texts.specs.Decimal.{digit, all_in, value_from, valued, scanned, decimal, digits_in, digits, digits_f}
use Rattle.texts.specs.Operands.{resolved}
use Rattle.texts.specs.Reading.{find_in, word_in, settled, lowest, read_line, read_lines_by, read_text_by, read_text, Text, done, refused}
use Rattle.texts.specs.WrittenOut.{WrittenOut}
use Rattle.texts.proofs.Examples.{bytes}

-- ---- a circuit with minus operands: one record for each, of the operand's sort, before the line's own

abbrev minus_text : String
minus_text = "2 sort bitvec 1\n3 sort bitvec 4\n4 sort bitvec 4\n10 input 3\n11 input 2\n12 state 4\n20 ite 3 -11 -10 12\n21 next 4 12 -20\n30 ult 2 -12 -12\n31 bad -30\n"

abbrev minus_records : List (List ℕ)
minus_records =
    fields 1 0 1 0 0 ∷ fields 1 0 4 0 0 ∷ fields 1 0 4 0 0 ∷ fields 4 2 0 0 0 ∷ fields 4 1 0 0 0 ∷ fields 5 3 0 0 0
    ∷ fields 11 1 5 0 0 ∷ fields 11 2 4 0 0 ∷ fields 53 2 7 8 6
    ∷ fields 11 2 9 0 0 ∷ fields 7 3 6 10 0
    ∷ fields 11 3 6 0 0 ∷ fields 11 3 6 0 0 ∷ fields 23 1 12 13 0
    ∷ fields 11 1 14 0 0 ∷ fields 8 0 15 0 0 ∷ []

-- room for 16 records, and less
pub minus_read : map (λ n. read_text (words_for false n) (bytes minus_text)) (16 ∷ 15 ∷ 10 ∷ 8 ∷ 6 ∷ [])
    ≡ done minus_records (2 ∷ 3 ∷ 4 ∷ 10 ∷ 11 ∷ 12 ∷ 0 ∷ 0 ∷ 20 ∷ 0 ∷ 21 ∷ 0 ∷ 0 ∷ 30 ∷ 0 ∷ 31 ∷ [])
    ∷ refused NoRecordLeft 10 ∷ refused NoRecordLeft 8 ∷ refused NoRecordLeft 7 ∷ refused NoRecordLeft 7 ∷ []
unfolding bytes read_text_by read_lines_by read_line lowest settled resolved word_in find_in form_row row_of fault suits split up_to tokens decimal scanned valued digits_in all_in value_from digit
minus_read = refl

-- ---- one line behind these: what it is answered

abbrev before : String
before = "2 sort bitvec 1\n3 input 2\n4 sort array 2 2\n5 state 4\n6 zero 2\n7 state 2\n8 sort bitvec 2\n"

-- the seven records before, and those of a line
abbrev behind_them : List (List ℕ) → List ℕ → Text
behind_them rs ds =
    done
    ((fields 1 0 1 0 0 ∷ fields 4 1 0 0 0 ∷ fields 2 0 1 1 0 ∷ fields 5 3 0 0 0 ∷ fields 3 1 0 0 0 ∷ fields 5 1 0 0 0 ∷ fields 1 0 2 0 0 ∷ []) ++ rs)
    ((2 ∷ 3 ∷ 4 ∷ 5 ∷ 6 ∷ 7 ∷ 8 ∷ []) ++ ds)

pub after_them : List String → List Text
after_them = map (λ s. read_text (words_for false 10) (bytes before ++ bytes s))

-- with a minus before a word; before a next's value, an index, and a name that begins with one
pub taken : after_them ("9 bad -3" ∷ "9 next 2 7 -3" ∷ "9 read 2 5 -3" ∷ "9 not 2 3 -3" ∷ [])
    ≡ behind_them (fields 11 1 2 0 0 ∷ fields 8 0 8 0 0 ∷ []) (0 ∷ 9 ∷ [])
    ∷ behind_them (fields 11 1 2 0 0 ∷ fields 7 1 6 8 0 ∷ []) (0 ∷ 9 ∷ [])
    ∷ behind_them (fields 11 1 2 0 0 ∷ fields 54 1 4 8 0 ∷ []) (0 ∷ 9 ∷ [])
    ∷ behind_them (fields 11 1 2 0 0 ∷ []) (9 ∷ [])
    ∷ []
unfolding after_them bytes read_text_by read_lines_by read_line lowest settled resolved word_in find_in form_row row_of fault suits split up_to tokens decimal scanned valued digits_in all_in value_from digit
taken = refl

-- malformed tokens, and a minus before plain numbers: 6; behind the minus a number above 2 ^ 64 - 1: 7
pub malformed : after_them ("9 bad -" ∷ "9 bad --3" ∷ "9 bad -03" ∷ "9 bad -00" ∷ "9 bad +3" ∷ "9 bad 3-" ∷ "9 slice 2 3 -0 0" ∷ "9 uext 2 3 -0" ∷ "9 constd 2 -1" ∷ "9 const 2 -1" ∷ "9 sort bitvec -1" ∷ [])
    ≡ replicate 11 (refused BadOperand 8)
unfolding after_them bytes read_text_by read_lines_by read_line lowest settled resolved word_in find_in form_row row_of fault suits split up_to tokens decimal scanned valued digits_in all_in value_from digit
malformed = refl

pub large : after_them ("9 bad -18446744073709551616" ∷ []) ≡ refused NumberTooLarge 8 ∷ []
unfolding after_them bytes read_text_by read_lines_by read_line lowest settled resolved word_in find_in form_row row_of fault suits split up_to tokens decimal scanned valued digits_in all_in value_from digit
large = refl

-- 8: -0 and 0 name no line, nor does -9; before a sort, an array, the state of an init or next, an init value
pub refused_by_8 : after_them ("9 bad -0" ∷ "9 bad 0" ∷ "9 bad -9" ∷ "9 input -2" ∷ "9 sort array -2 2" ∷ "9 eq 2 -5 3" ∷ "9 read 2 -5 3" ∷ "9 next 2 -7 3" ∷ "9 init 2 -7 6" ∷ "9 init 2 7 -6" ∷ [])
    ≡ replicate 10 (refused WrongClass 8)
unfolding after_them bytes read_text_by read_lines_by read_line lowest settled resolved word_in find_in form_row row_of fault suits split up_to tokens decimal scanned valued digits_in all_in value_from digit
refused_by_8 = refl

-- all else is judged as if the minus were not there: a word against an array, a width
pub misfits : after_them ("9 eq 2 5 -3" ∷ "9 not 8 -3" ∷ []) ≡ replicate 2 (refused Misfit 8)
unfolding after_them bytes read_text_by read_lines_by read_line lowest settled resolved word_in find_in form_row row_of fault suits split up_to tokens decimal scanned valued digits_in all_in value_from digit
misfits = refl

-- with room for one record more, for the line's own and not for its not record: 4, but after 8 and 9; the token 0 names no not record
pub late : map (λ s. read_text (words_for false 8) (bytes before ++ bytes s)) ("9 bad -3" ∷ "9 bad -5" ∷ "9 not 8 -3" ∷ "9 bad 3\n10 bad -5" ∷ [])
    ≡ refused NoRecordLeft 8 ∷ refused WrongClass 8 ∷ refused Misfit 8 ∷ refused NoRecordLeft 9 ∷ []
unfolding bytes read_text_by read_lines_by read_line lowest settled resolved word_in find_in form_row row_of fault suits split up_to tokens decimal scanned valued digits_in all_in value_from digit
late = refl

pub zero_named : after_them ("9 bad -3\n10 bad 0" ∷ "9 bad -3\n10 bad -0" ∷ []) ≡ replicate 2 (refused WrongClass 9)
unfolding after_them bytes read_text_by read_lines_by read_line lowest settled resolved word_in find_in form_row row_of fault suits split up_to tokens decimal scanned valued digits_in all_in value_from digit
zero_named = refl

-- ---- the first text with its minus operands written out

abbrev out_text : String
out_text = "; written out\n1 sort bitvec 1\n2 sort bitvec 4\n3 sort bitvec 4\n4 input 2\n5 input 1\n6 state 3\n\n7 not 1 5\n8 not 2 4\n9 ite 2 7 8 6\n10 not 2 9\n11 next 3 6 10\n12 not 3 6\n13 not 3 6\n14 ult 1 12 13\n15 not 1 14\n16 bad 15\n"

pub minus_out : WrittenOut (bytes minus_text) (bytes out_text)
unfolding bytes word_in find_in form_row row_of split up_to tokens decimal scanned valued digits_in all_in value_from digit digits digits_f
minus_out = refl

pub out_read : read_text (words_for false 16) (bytes out_text) ≡ done minus_records (from 1 16)
unfolding bytes read_text_by read_lines_by read_line lowest settled resolved word_in find_in form_row row_of fault suits split up_to tokens decimal scanned valued digits_in all_in value_from digit
out_read = refl
