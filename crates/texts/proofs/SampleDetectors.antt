-- Overflow detectors: their words, a text that has each of them, and their refusals, computed. Assumes nothing.
use Prim.Native.Nat.{ℕ}
use Prim.Native.String.{String}
use mathlib.Core.Path.{◌≡◌, refl}
use mathlib.Core.Bool.{false}
use mathlib.Core.List.{List, [], ◌∷◌, ◌++◌, map}
use lib.ListN.{replicate}
use Rattle.tables.specs.declared.Refusal.TheVariants.{UnknownWord, WrongClass, Misfit}
use Rattle.tables.specs.Kinds.{row_of}
use Rattle.tables.specs.Lines.{fields}
use Rattle.tables.specs.Layout.{from, words_for}
use Rattle.tables.specs.Rules.{suits, fault}
use Rattle.texts.specs.Forms.{form_row}
use Rattle.texts.specs.Split.{split, up_to, tokens}
use Rattle.texts.specs.Decimal.{digit, all_in, value_from, valued, scanned, decimal, digits_in, digits, digits_f}
use Rattle.texts.specs.Operands.{resolved}
use Rattle.texts.specs.Reading.{find_in, find_word, word_in, settled, lowest, read_line, read_lines_by, read_text_by, read_text, Text, done, refused}
use Rattle.texts.specs.Writing.{write_from, write_text}
use Rattle.texts.proofs.Examples.{bytes}

-- ---- the words

abbrev detectors : List String
detectors = "uaddo" ∷ "saddo" ∷ "usubo" ∷ "ssubo" ∷ "umulo" ∷ "smulo" ∷ "sdivo" ∷ []

pub words_found : map (λ w. find_word (bytes w)) detectors ≡ from 57 7
unfolding bytes find_in form_row row_of
words_found = refl

-- a misprint, a detector that there is not, and no word for a mask
pub words_unknown : map (λ w. find_word (bytes w)) ("sddivo" ∷ "udivo" ∷ "mask" ∷ "" ∷ []) ≡ replicate 4 0
unfolding bytes find_in form_row row_of
words_unknown = refl

-- ---- each detector of two words of width 3, and a bad line for it

abbrev detector_text : String
detector_text = "1 sort bitvec 1\n2 sort bitvec 3\n3 input 2\n4 input 2\n5 uaddo 1 3 4\n6 saddo 1 3 4\n7 usubo 1 3 4\n8 ssubo 1 3 4\n9 umulo 1 3 4\n10 smulo 1 3 4\n11 sdivo 1 3 4\n12 bad 5\n13 bad 6\n14 bad 7\n15 bad 8\n16 bad 9\n17 bad 10\n18 bad 11\n"

abbrev detector_records : List (List ℕ)
detector_records =
    (fields 1 0 1 0 0 ∷ fields 1 0 3 0 0 ∷ fields 4 2 0 0 0 ∷ fields 4 2 0 0 0 ∷ []) ++ (map (λ k. fields k 1 3 4 0) (from 57 7) ++ map (λ a. fields 8 0 a 0 0) (from 5 7))

pub detectors_read : read_text (words_for false 18) (bytes detector_text) ≡ done detector_records (from 1 18)
unfolding bytes read_text_by read_lines_by read_line lowest settled resolved word_in find_in form_row row_of fault suits split up_to tokens decimal scanned valued digits_in all_in value_from digit
detectors_read = refl

pub detectors_written : write_text detector_records ≡ bytes detector_text
unfolding bytes write_text write_from digits digits_f row_of
detectors_written = refl

-- ---- one line behind these: what it is answered

abbrev before : String
before = "1 sort bitvec 1\n2 sort bitvec 4\n3 input 2\n4 input 1\n5 sort array 1 2\n6 state 5\n"

-- a line that has each detector's word, and the numbers s behind it
pub after_them : String → List Text
after_them s = map (λ w. read_text (words_for false 7) (bytes before ++ bytes "7 " ++ bytes w ++ bytes s)) detectors

-- operands of two widths, and a sort of their width
pub misfits : after_them " 1 3 4" ++ after_them " 2 3 3" ≡ replicate 14 (refused Misfit 7)
unfolding after_them bytes read_text_by read_lines_by read_line lowest settled resolved word_in find_in form_row row_of fault suits split up_to tokens decimal scanned valued digits_in all_in value_from digit
misfits = refl

-- an array as an operand, also as both, and as the sort
pub arrays : after_them " 1 3 6" ++ after_them " 1 6 6" ++ after_them " 5 3 3" ≡ replicate 21 (refused WrongClass 7)
unfolding after_them bytes read_text_by read_lines_by read_line lowest settled resolved word_in find_in form_row row_of fault suits split up_to tokens decimal scanned valued digits_in all_in value_from digit
arrays = refl

-- other words
pub unknown_words : map (λ s. read_text (words_for false 7) (bytes before ++ bytes s)) ("7 sddivo 1 3 3" ∷ "7 udivo 1 3 3" ∷ "7 mask 2 3" ∷ "7" ∷ []) ≡ replicate 4 (refused UnknownWord 7)
unfolding bytes read_text_by read_lines_by read_line lowest settled resolved word_in find_in form_row row_of fault suits split up_to tokens decimal scanned valued digits_in all_in value_from digit
unknown_words = refl
