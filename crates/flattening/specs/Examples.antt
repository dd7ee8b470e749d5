-- Circuits and their flat circuits, computed. Assumes nothing.
use Rattle.std.specs.Prelude.{ℕ, ◌-◌, ◌≡◌, refl, true, false, List, [], ◌∷◌, map, replicate, Ok, Err}
use Rattle.tables.specs.declared.Refusal.TheVariants.{NotATable, BadTable, TargetTooSmall}
use Rattle.tables.specs.Kinds.{row_of}
use Rattle.tables.specs.Lines.{Line, fields, words_of, bitvec, array, input, state, value, init_or_next, signal, output, const, binary, equality, ite, read, write}
use Rattle.tables.specs.Layout.{filled_by, ids_of, from, words_for}
use Rattle.tables.specs.Rules.{suits, fault}
use Rattle.tables.specs.Tables.{checked}
use Rattle.circuits.specs.Examples.{circuit, gaps}
use Rattle.flattening.specs.Flat.{flatten, flat_records}
use Rattle.flattening.specs.Placed.{flat_filled}
use Rattle.flattening.specs.Answers.{flattened, flat_left}

-- ---- the request's circuit of 11 lines, and its 19 flat lines

-- 1 sort bitvec 1, 2 sort bitvec 3, 3 sort bitvec 1, 4 constd 1 0, 5 constd 1 1, 6 state 2, 7 state 2, 8 input 1, 9 constd 2 5, 10 eq 3 8 4, 11 ite 2 10 9 6,
-- 12 eq 3 8 5, 13 ite 2 12 9 7, 14 next 2 6 11, 15 next 2 7 13, 16 eq 3 8 4, 17 ite 2 16 6 7, 18 eq 1 17 9, 19 bad 18
abbrev pub flat : List (List ℕ)
flat =
    fields 1 0 1 0 0 ∷ fields 1 0 3 0 0 ∷ fields 1 0 1 0 0 ∷ fields 3 1 0 0 0 ∷ fields 3 1 1 0 0 ∷ fields 5 2 0 0 0 ∷ fields 5 2 0 0 0 ∷ fields 4 1 0 0 0 ∷ fields 3 2 5 0 0 ∷ fields 21 3 8 4 0
    ∷ fields 53 2 10 9 6 ∷ fields 21 3 8 5 0 ∷ fields 53 2 12 9 7 ∷ fields 7 2 6 11 0 ∷ fields 7 2 7 13 0 ∷ fields 21 3 8 4 0 ∷ fields 53 2 16 6 7 ∷ fields 21 1 17 9 0 ∷ fields 8 0 18 0 0 ∷ []

flat_circuit : flat_records circuit 11 ≡ flat
unfolding flat_records flatten filled_by
flat_circuit = refl

-- the flat size is exactly the target's room; a target of one record more; one of one record less
exact_answer : flattened circuit 11 (words_for false 19) ≡ Ok 19
unfolding flattened checked fault suits row_of flatten filled_by
exact_answer = refl

spare_target : flat_left circuit 11 (words_for false 20) ≡ flat_filled (words_for false 20) flat
unfolding flat_left flattened checked fault suits row_of flat_records flatten filled_by
spare_target = refl

short_answer : flattened circuit 11 (words_for false 18) ≡ Err TargetTooSmall
unfolding flattened checked fault suits row_of flatten filled_by
short_answer = refl

short_target : flat_left circuit 11 (words_for false 18) ≡ replicate (words_for false 18) 0
unfolding flat_left flattened checked fault suits row_of flatten filled_by
short_target = refl

-- 1 comes before 11, and 11 before 12
uneven_answer : flattened circuit 12 (words_for false 19 - 1) ≡ Err NotATable
unfolding flattened filled_by
uneven_answer = refl

count_answer : flattened circuit 12 (words_for false 18) ≡ Err BadTable
unfolding flattened checked fault suits row_of filled_by
count_answer = refl

-- the flat table with its count is accepted
flat_accepted : checked false (flat_filled (words_for false 19) flat) 19 ≡ Ok tt
unfolding checked fault suits row_of flat_filled filled_by
flat_accepted = refl

-- ids with gaps leave the same flat table, whose ids are 1 to 19
gaps_answer : flattened gaps 11 120 ≡ Ok 19
unfolding flattened checked fault suits row_of flatten filled_by
gaps_answer = refl

gaps_target : flat_left gaps 11 120 ≡ flat_left circuit 11 120
unfolding flat_left flattened checked fault suits row_of flat_records flatten flat_filled filled_by
gaps_target = refl

gaps_ids : ids_of (flat_left gaps 11 120) 19 ≡ from 1 19
unfolding flat_left flattened checked fault suits row_of flat_records flatten flat_filled filled_by
gaps_ids = refl

-- ---- constant indexes, an init, array eq, neq and ite, an output

abbrev pub second : List Line
second =
    bitvec 1 ∷ bitvec 3 ∷ array 1 2 ∷ value 2 (const 5) ∷ value 1 (const 1) ∷ state 3 ∷ init_or_next true 3 6 4 ∷ value 3 (write 6 5 4) ∷ value 1 (equality true 6 8) ∷ value 3 (ite 9 6 8)
    ∷ value 1 (equality false 10 6) ∷ value 2 (read 10 5) ∷ init_or_next false 3 6 10 ∷ signal true 9 ∷ output 12 ∷ []

flat_second : flatten second
    ≡ bitvec 1 ∷ bitvec 3 ∷ bitvec 1 ∷ value 1 (const 0) ∷ value 1 (const 1) ∷ value 2 (const 5) ∷ value 1 (const 1) ∷ state 2 ∷ state 2 ∷ init_or_next true 2 8 6 ∷ init_or_next true 2 9 6
    ∷ value 1 (equality true 8 8) ∷ value 1 (equality true 9 6) ∷ value 1 (binary 33 12 13) ∷ value 2 (ite 14 8 8) ∷ value 2 (ite 14 9 6) ∷ value 1 (equality false 15 8) ∷ value 1 (equality false 16 9)
    ∷ value 1 (binary 34 17 18) ∷ init_or_next false 2 8 15 ∷ init_or_next false 2 9 16 ∷ signal true 14 ∷ output 16 ∷ []
unfolding flatten filled_by
flat_second = refl

second_accepted : checked false (flat_filled (words_for false 15) (map words_of second)) 15 ≡ Ok tt
unfolding checked fault suits row_of flat_filled filled_by
second_accepted = refl

-- ---- a read of four cells: from the last cell, the constants falling

abbrev pub third : List Line
third = bitvec 2 ∷ array 1 1 ∷ state 2 ∷ input 1 ∷ value 1 (read 3 4) ∷ []

flat_third : flatten third
    ≡ bitvec 2 ∷ bitvec 1 ∷ value 1 (const 0) ∷ value 1 (const 1) ∷ value 1 (const 2) ∷ value 1 (const 3) ∷ state 1 ∷ state 1 ∷ state 1 ∷ state 1 ∷ input 1
    ∷ value 2 (equality true 11 5) ∷ value 1 (ite 12 9 10) ∷ value 2 (equality true 11 4) ∷ value 1 (ite 14 8 13) ∷ value 2 (equality true 11 3) ∷ value 1 (ite 16 7 15) ∷ []
unfolding flatten filled_by
flat_third = refl

third_accepted : checked false (flat_filled (words_for false 5) (map words_of third)) 5 ≡ Ok tt
unfolding checked fault suits row_of flat_filled filled_by
third_accepted = refl

-- ---- two array sorts of equal widths on different lines: a write takes constants and sorts of its own sort line, a read the sort and constants of its array's

abbrev pub fourth : List Line
fourth =
    bitvec 1 ∷ bitvec 2 ∷ bitvec 2 ∷ array 1 2 ∷ array 1 3 ∷ state 4 ∷ input 1 ∷ input 2 ∷ value 5 (write 6 7 8) ∷ value 2 (read 6 7) ∷ value 3 (read 9 7) ∷ init_or_next false 4 6 9 ∷ []

flat_fourth : flatten fourth
    ≡ bitvec 1 ∷ bitvec 2 ∷ bitvec 2 ∷ bitvec 1 ∷ value 1 (const 0) ∷ value 1 (const 1) ∷ bitvec 1 ∷ value 1 (const 0) ∷ value 1 (const 1) ∷ state 2 ∷ state 2 ∷ input 1 ∷ input 2
    ∷ value 7 (equality true 12 8) ∷ value 3 (ite 14 13 10) ∷ value 7 (equality true 12 9) ∷ value 3 (ite 16 13 11) ∷ value 4 (equality true 12 5) ∷ value 2 (ite 18 10 11)
    ∷ value 7 (equality true 12 8) ∷ value 3 (ite 20 15 17) ∷ init_or_next false 2 10 15 ∷ init_or_next false 2 11 17 ∷ []
unfolding flatten filled_by
flat_fourth = refl

fourth_accepted : checked false (flat_filled (words_for false 12) (map words_of fourth)) 12 ≡ Ok tt
unfolding checked fault suits row_of flat_filled filled_by
fourth_accepted = refl
