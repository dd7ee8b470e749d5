-- Flat circuits and their programs, computed. Assumes nothing.
use Rattle.std.specs.Prelude.{ℕ, ◌-◌, ◌≡◌, refl, true, false, List, [], ◌∷◌, map, length, get_or, replicate, Ok, Err}
use Rattle.tables.specs.declared.Refusal.TheVariants.{NotATable, BadTable, ArrayPresent}
use Rattle.tables.specs.Kinds.{row_of}
use Rattle.tables.specs.Lines.{Line, fields, words_of}
use Rattle.tables.specs.Layout.{filled_by, records_of, filled, words_for, table_with}
use Rattle.tables.specs.Rules.{suits, fault}
use Rattle.tables.specs.Tables.{checked}
use Rattle.tables.specs.Answers.{outcome}
use Rattle.circuits.specs.Examples.{circuit, program}
use Rattle.programs.specs.Translation.{translate, mask_of}
use Rattle.programs.specs.Answers.{program_of, translated, program_left, translates}

-- ---- the request's flat circuit of 19 lines, and its program of 17 records, the sixth a mask

-- 1 sort bitvec 1, 2 sort bitvec 3, 3 sort bitvec 1, 4 constd 1 0, 5 constd 1 1, 6 state 2, 7 state 2, 8 input 1, 9 constd 2 5, 10 eq 3 8 4, 11 ite 2 10 9 6,
-- 12 eq 3 8 5, 13 ite 2 12 9 7, 14 next 2 6 11, 15 next 2 7 13, 16 eq 3 8 4, 17 ite 2 16 6 7, 18 eq 1 17 9, 19 bad 18
abbrev flat_records : List (List ℕ)
flat_records =
    fields 1 0 1 0 0 ∷ fields 1 0 3 0 0 ∷ fields 1 0 1 0 0 ∷ fields 3 1 0 0 0 ∷ fields 3 1 1 0 0 ∷ fields 5 2 0 0 0 ∷ fields 5 2 0 0 0 ∷ fields 4 1 0 0 0 ∷ fields 3 2 5 0 0 ∷ fields 21 3 8 4 0
    ∷ fields 53 2 10 9 6 ∷ fields 21 3 8 5 0 ∷ fields 53 2 12 9 7 ∷ fields 7 2 6 11 0 ∷ fields 7 2 7 13 0 ∷ fields 21 3 8 4 0 ∷ fields 53 2 16 6 7 ∷ fields 21 1 17 9 0 ∷ fields 8 0 18 0 0 ∷ []

abbrev pub request_flat : List ℕ
request_flat = table_with false flat_records

flat_program : map words_of (program_of request_flat 19) ≡ records_of true program 17
unfolding filled_by translate
flat_program = refl

seventeen : length (program_of request_flat 19) ≡ 17
unfolding filled_by translate
seventeen = refl

sixth : get_or (program_of request_flat 19) 5 Line.unknown ≡ mask_of 1 5
unfolding filled_by translate
sixth = refl

pub flat_accepted : checked false request_flat 19 ≡ Ok tt
unfolding filled_by checked fault suits row_of
flat_accepted = refl

-- ---- each rule once: a circuit of 18 lines, and its program by hand

-- 1 sort bitvec 8, 2 sort bitvec 16, 3 sort bitvec 64, 4 sort bitvec 1, 5 input 1, 6 input 1, 7 input 4, 8 input 3, 9 add 1 5 6, 10 sll 1 5 9, 11 concat 2 10 6, 12 ite 1 7 10 5,
-- 13 and 1 9 10, 14 eq 4 13 12, 15 add 3 8 8, 16 output 15, 17 bad 14, 18 slice 1 11 7 0
abbrev second_records : List (List ℕ)
second_records =
    fields 1 0 8 0 0 ∷ fields 1 0 16 0 0 ∷ fields 1 0 64 0 0 ∷ fields 1 0 1 0 0 ∷ fields 4 1 0 0 0 ∷ fields 4 1 0 0 0 ∷ fields 4 4 0 0 0 ∷ fields 4 3 0 0 0 ∷ fields 39 1 5 6 0 ∷ fields 47 1 5 9 0
    ∷ fields 52 2 10 6 0 ∷ fields 53 1 7 10 5 ∷ fields 33 1 9 10 0 ∷ fields 21 4 13 12 0 ∷ fields 39 3 8 8 0 ∷ fields 10 0 15 0 0 ∷ fields 8 0 14 0 0 ∷ fields 18 1 11 7 0 ∷ []

abbrev pub second_table : List ℕ
second_table = table_with false second_records

-- Masks: 3, of the input that is concat's low operand; 5, of ite's condition; 8, of sll's amount, and not of its data; 12 and 14, of what eq compares. The and is loose
-- though one of its operands is masked. Nothing of width 64 is.
abbrev pub second_program : List (List ℕ)
second_program =
    fields 4 8 0 0 0 ∷ fields 4 8 0 0 0 ∷ fields 56 8 2 0 0 ∷ fields 4 1 0 0 0 ∷ fields 56 1 4 0 0 ∷ fields 4 64 0 0 0 ∷ fields 39 8 1 3 0 ∷ fields 56 8 7 0 0 ∷ fields 47 8 1 8 0
    ∷ fields 52 16 9 3 0 ∷ fields 53 8 5 9 1 ∷ fields 56 8 11 0 0 ∷ fields 33 8 8 9 0 ∷ fields 56 8 13 0 0 ∷ fields 21 1 14 12 0 ∷ fields 39 64 6 6 0 ∷ fields 10 0 16 0 0 ∷ fields 8 0 15 0 0
    ∷ fields 18 8 10 7 0 ∷ []

second_accepted : checked false second_table 18 ≡ Ok tt
unfolding filled_by checked fault suits row_of
second_accepted = refl

second_program_lem : map words_of (program_of second_table 18) ≡ second_program
unfolding filled_by translate
second_program_lem = refl

-- ---- the answers

-- the program's size is exactly the target's room; a target of one record more; one of one record less
pub exact_answer : translated request_flat 19 (words_for true 17) ≡ Ok 17
unfolding translated filled_by checked fault suits row_of translate
exact_answer = refl

spare_outcome : translates request_flat 19 (words_for true 18) ≡ outcome 0 17 0 0 (filled true (words_for true 18) (records_of true program 17) ∷ [])
unfolding translates program_left translated filled_by checked fault suits row_of translate
spare_outcome = refl

short_outcome : translates request_flat 19 (words_for true 16) ≡ outcome 12 0 0 0 (replicate (words_for true 16) 0 ∷ [])
unfolding translates program_left translated filled_by checked fault suits row_of translate
short_outcome = refl

-- six words a record of the flat circuit, five of the program
flat_words_lem : length request_flat ≡ 114
unfolding filled_by
flat_words_lem = refl

program_words_lem : translated request_flat 19 85 ≡ Ok 17
unfolding translated filled_by checked fault suits row_of translate
program_words_lem = refl

uneven_words : translated request_flat 19 84 ≡ Err NotATable
unfolding translated filled_by
uneven_words = refl

-- 1 comes before 11, 11 before 19, and 19 before 12
uneven_answer : translated request_flat 20 (words_for true 17 - 1) ≡ Err NotATable
unfolding translated filled_by
uneven_answer = refl

count_answer : translated circuit 12 0 ≡ Err BadTable
unfolding translated checked fault suits row_of filled_by
count_answer = refl

array_answer : translated circuit 11 0 ≡ Err ArrayPresent
unfolding translated checked fault suits row_of filled_by
array_answer = refl

-- records past the count are not looked at: the array sort is the third
two_answer : translated circuit 2 0 ≡ Ok 0
unfolding translated checked fault suits row_of translate filled_by
two_answer = refl
