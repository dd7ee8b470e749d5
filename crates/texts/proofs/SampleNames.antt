-- Names used twice: the request's readings, computed. Assumes nothing.
use Rattle.std.specs.Prelude.{Result, Ok}
use Rattle.texts.specs.declared.TextRefusal.{TextRefusal}
use Prim.Native.Nat.{ℕ}
use Prim.Native.String.{String}
use mathlib.Core.Path.{◌≡◌, refl}
use mathlib.Core.Bool.{false}
use mathlib.Core.List.{List, [], ◌∷◌, ◌++◌, map}
use lib.ListN.{replicate}
use Rattle.tables.specs.declared.Refusal.TheVariants.{NoRecordLeft, BadOperand, WrongClass, InitOrNext, NameUsed}
use Rattle.tables.specs.Kinds.{row_of}
use Rattle.tables.specs.Layout.{words_for}
use Rattle.tables.specs.Rules.{suits, fault}
use Rattle.texts.specs.Forms.{form_row}
use Rattle.texts.specs.Split.{split, up_to, tokens}
use Rattle.texts.specs.Decimal.{digit, all_in, value_from, valued, scanned, decimal, digits_in}
use Rattle.texts.specs.Operands.{resolved}
use Rattle.texts.specs.Reading.{at_line, find_in, word_in, settled, lowest, read_line, read_lines_by, read_text_by, read_text, text_answer}
use Rattle.texts.specs.Naming.{line_from, name_of}
use Rattle.texts.proofs.Examples.{bytes}

abbrev before : String
before = "2 sort bitvec 1\n3 input 2\n4 sort array 2 2\n5 state 4\n6 zero 2\n7 state 2\n"

-- what lines behind these are answered, with room for n records
pub answers : (n : ℕ) → List String → List (Result ℕ TextRefusal)
answers n = map (λ s. text_answer (read_text (words_for false n) (bytes before ++ bytes s)))

-- the later line is refused, by its own number: lines of all kinds, a name before a comment, blank lines and comments in between
pub used_names : answers 10 ("8 bad 3 a\n9 bad 3 a" ∷ "8 sort bitvec 3 a\n9 input 2 a" ∷ "8 bad 3 a;b\n9 bad 3 a" ∷ "8 bad 3 a\n9 bad 3 b\n10 not 2 3 a" ∷ "8 bad 3 a\n\n; a\n9 bad 3 b\n10 bad 3 a" ∷ [])
    ≡ at_line NameUsed 8 ∷ at_line NameUsed 8 ∷ at_line NameUsed 8 ∷ at_line NameUsed 9 ∷ at_line NameUsed 11 ∷ []
unfolding answers bytes read_text_by read_lines_by read_line lowest settled resolved word_in find_in form_row row_of fault suits split up_to tokens decimal scanned valued digits_in all_in value_from digit
used_names = refl

-- a name in a comment is none; case and zeros count
pub other_names : answers 10 ("8 bad 3 ;a\n9 bad 3 a" ∷ "8 bad 3 a\n\n9 bad 3 A" ∷ "8 bad 3 20\n9 bad 3 020" ∷ "8 bad 3 a\n9 bad 3 aa" ∷ []) ≡ replicate 4 (Ok 8)
unfolding answers bytes read_text_by read_lines_by read_line lowest settled resolved word_in find_in form_row row_of fault suits split up_to tokens decimal scanned valued digits_in all_in value_from digit
other_names = refl

-- after 6, 8 and 10 for the same line
pub name_last : answers 10 ("8 bad 3 a\n9 bad 3 a a" ∷ "8 bad 3 a\n9 bad 4 a" ∷ "8 next 2 7 3 a\n9 next 2 7 3 a" ∷ []) ≡ at_line BadOperand 8 ∷ at_line WrongClass 8 ∷ at_line InitOrNext 8 ∷ []
unfolding answers bytes read_text_by read_lines_by read_line lowest settled resolved word_in find_in form_row row_of fault suits split up_to tokens decimal scanned valued digits_in all_in value_from digit
name_last = refl

-- before a 4 that comes last, and not before the other
pub name_room : answers 8 ("8 bad 3 a\n9 bad -3 a" ∷ "8 bad 3 a\n9 bad -3 b" ∷ []) ++ answers 7 ("8 bad 3 a\n9 bad 3 a" ∷ [])
    ≡ at_line NameUsed 8 ∷ at_line NoRecordLeft 8 ∷ at_line NoRecordLeft 8 ∷ []
unfolding answers bytes read_text_by read_lines_by read_line lowest settled resolved word_in find_in form_row row_of fault suits split up_to tokens decimal scanned valued digits_in all_in value_from digit
name_room = refl

-- `name` of a text that is refused by 22
pub name_of_used : map (name_of (bytes before ++ bytes "8 bad 3 a\n9 bad 3 a")) (8 ∷ 9 ∷ 7 ∷ []) ≡ bytes "a" ∷ bytes "a" ∷ [] ∷ []
unfolding bytes name_of line_from word_in find_in form_row row_of split up_to tokens decimal scanned valued all_in value_from digit
name_of_used = refl
