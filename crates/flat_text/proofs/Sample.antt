-- The request's example: for its text of 11 lines the flat program prints its 19 lines, and the same where the ids of the text have gaps; of a text with minus operands it prints the not lines. Assumes nothing.
use Prim.Native.String.{String}
use mathlib.Core.Path.{◌≡◌, refl, ◌∙◌}
use Rattle.tables.specs.Kinds.{letters, row_of}
use Rattle.tables.specs.Layout.{filled_by}
use Rattle.tables.specs.Rules.{suits, fault}
use Rattle.tables.specs.Tables.{checked}
use Rattle.texts.specs.Forms.{form_row}
use Rattle.texts.specs.Split.{split, up_to, tokens}
use Rattle.texts.specs.Decimal.{digit, all_in, value_from, valued, scanned, decimal, digits_in, digits, digits_f}
use Rattle.texts.specs.Operands.{resolved}
use Rattle.texts.specs.Reading.{find_in, word_in, settled, lowest, read_line, read_lines_by, read_text_by}
use Rattle.texts.specs.Writing.{write_from, write_text}
use Rattle.flattening.specs.Flat.{flatten, flat_records}
use Rattle.flattening.specs.Answers.{flattened}
use Rattle.flat_text.specs.Printing.{printed}
use Rattle.flat_text.proofs.Whole.{asked, flat_program}

abbrev circuit : String
circuit = "1 sort bitvec 1\n2 sort bitvec 3\n3 sort array 1 2\n4 state 3\n5 input 1\n6 constd 2 5\n7 write 3 4 5 6\n8 next 3 4 7\n9 read 2 4 5\n10 eq 1 9 6\n11 bad 10\n"

abbrev flat : String
flat = "1 sort bitvec 1\n2 sort bitvec 3\n3 sort bitvec 1\n4 constd 1 0\n5 constd 1 1\n6 state 2\n7 state 2\n8 input 1\n9 constd 2 5\n10 eq 3 8 4\n11 ite 2 10 9 6\n12 eq 3 8 5\n13 ite 2 12 9 7\n14 next 2 6 11\n15 next 2 7 13\n16 eq 3 8 4\n17 ite 2 16 6 7\n18 eq 1 17 9\n19 bad 18\n"

sample_asked : asked 7800 7800 (letters circuit) ≡ letters flat
unfolding asked read_text_by read_lines_by read_line lowest settled resolved word_in find_in form_row row_of fault suits split up_to tokens decimal scanned valued digits_in all_in value_from digit
    flattened checked flatten flat_records filled_by write_text write_from digits digits_f
sample_asked = refl

pub sample_printed : printed 7800 7800 65536 (letters circuit) ≡ letters flat
sample_printed = flat_program (letters circuit) ∙ sample_asked

-- the same circuit with gaps in its ids
abbrev gaps : String
gaps = "5 sort bitvec 1\n9 sort bitvec 3\n10 sort array 5 9\n40 state 10\n41 input 5\n50 constd 9 5\n70 write 10 40 41 50\n71 next 10 40 70 store\n90 read 9 40 41\n100 eq 5 90 50\n4294967295 bad 100\n"

gaps_asked : asked 7800 7800 (letters gaps) ≡ letters flat
unfolding asked read_text_by read_lines_by read_line lowest settled resolved word_in find_in form_row row_of fault suits split up_to tokens decimal scanned valued digits_in all_in value_from digit
    flattened checked flatten flat_records filled_by write_text write_from digits digits_f
gaps_asked = refl

pub gaps_printed : printed 7800 7800 65536 (letters gaps) ≡ letters flat
gaps_printed = flat_program (letters gaps) ∙ gaps_asked

-- minus operands: the flat text shows the not lines, with numbers of their own
abbrev minus : String
minus = "2 sort bitvec 1\n3 sort bitvec 4\n4 sort bitvec 4\n10 input 3\n11 input 2\n12 state 4\n20 ite 3 -11 -10 12\n21 next 4 12 -20\n30 ult 2 -12 -12\n31 bad -30\n"

abbrev minus_flat : String
minus_flat = "1 sort bitvec 1\n2 sort bitvec 4\n3 sort bitvec 4\n4 input 2\n5 input 1\n6 state 3\n7 not 1 5\n8 not 2 4\n9 ite 2 7 8 6\n10 not 2 9\n11 next 3 6 10\n12 not 3 6\n13 not 3 6\n14 ult 1 12 13\n15 not 1 14\n16 bad 15\n"

minus_asked : asked 7800 7800 (letters minus) ≡ letters minus_flat
unfolding asked read_text_by read_lines_by read_line lowest settled resolved word_in find_in form_row row_of fault suits split up_to tokens decimal scanned valued digits_in all_in value_from digit
    flattened checked flatten flat_records filled_by write_text write_from digits digits_f
minus_asked = refl

pub minus_printed : printed 7800 7800 65536 (letters minus) ≡ letters minus_flat
minus_printed = flat_program (letters minus) ∙ minus_asked

-- an unknown word in the second line of a text
refused_asked : asked 7800 7800 (letters "; no record stands here\n1 sort float 8\n") ≡ letters "refused 5 2\n"
unfolding asked read_text_by read_lines_by read_line lowest word_in find_in form_row row_of split up_to tokens decimal scanned valued all_in value_from digit digits digits_f
refused_asked = refl

pub refused_printed : printed 7800 7800 65536 (letters "; no record stands here\n1 sort float 8\n") ≡ letters "refused 5 2\n"
refused_printed = flat_program (letters "; no record stands here\n1 sort float 8\n") ∙ refused_asked
