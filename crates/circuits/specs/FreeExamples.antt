-- States that nobody drives, computed: an array state and a state with an init, both free, and a state that is driven by itself; as circuit, flat circuit and program.
-- Assumes nothing.
use Rattle.std.specs.Prelude.{ℕ, ◌≡◌, refl, true, false, List, [], ◌∷◌, Ok, Err, Some}
use Rattle.tables.specs.declared.Refusal.TheVariants.{InputWords}
use Rattle.tables.specs.Kinds.{row_of as kind_row}
use Rattle.tables.specs.Lines.{Line, fields}
use Rattle.tables.specs.Layout.{filled_by, lines_of, table_with}
use Rattle.tables.specs.Rules.{suits, fault}
use Rattle.tables.specs.Tables.{checked}
use Rattle.circuits.specs.Cells.{put}
use Rattle.circuits.specs.Layout.{layout}
use Rattle.circuits.specs.Meaning.{cells_at, step}
use Rattle.circuits.specs.Free.{driven, free, sources}
use Rattle.circuits.specs.Run.{row_length, start, step_from, words_before, steps, run, step_at, counted}
use Rattle.circuits.specs.Answers.{ready, ran, signals_left}

-- 1 sort bitvec 1, 2 sort bitvec 3, 3 sort array 1 2, 4 constd 2 5, 5 state 3, 6 state 2, 7 init 2 6 4, 8 input 1, 9 state 2, 10 next 2 9 9, 11 read 2 5 8, 12 eq 1 11 6, 13 bad 12,
-- 14 eq 1 6 9, 15 bad 14: the states 5 and 6 are free
abbrev pub circuit : List ℕ
circuit =
    table_with false
    (fields 1 0 1 0 0 ∷ fields 1 0 3 0 0 ∷ fields 2 0 1 2 0 ∷ fields 3 2 5 0 0 ∷ fields 5 3 0 0 0 ∷ fields 5 2 0 0 0 ∷ fields 6 2 6 4 0 ∷ fields 4 1 0 0 0 ∷ fields 5 2 0 0 0 ∷ fields 7 2 9 9 0
    ∷ fields 54 2 5 8 0 ∷ fields 21 1 11 6 0 ∷ fields 8 0 12 0 0 ∷ fields 21 1 6 9 0 ∷ fields 8 0 14 0 0 ∷ [])

abbrev pub lines : List Line
lines = lines_of false circuit 15

pub circuit_accepted : checked false circuit 15 ≡ Ok tt
unfolding filled_by checked fault suits kind_row
circuit_accepted = refl

-- the cells of the array state, and the state with an init, are words of the row; the state behind the input is driven
circuit_sources : sources false lines ≡ free 3 ∷ free 3 ∷ free 3 ∷ driven ∷ []
unfolding filled_by layout sources
circuit_sources = refl

-- the input, two cells and a word
circuit_row : row_length false lines ≡ 4
unfolding filled_by layout sources
circuit_row = refl

-- what three steps are lent: in each row the input comes first
abbrev pub starts : List ℕ
starts = 1 ∷ 2 ∷ 0 ∷ 5 ∷ []

abbrev pub inputs : List ℕ
inputs = 1 ∷ 7 ∷ 7 ∷ 7 ∷ 0 ∷ 11 ∷ 3 ∷ 3 ∷ 1 ∷ 4 ∷ 6 ∷ 14 ∷ []

-- the words of the array state at the steps 0, 1 and 2, those of the state with an init, and those of the driven one
array_words : (cells_at (step_at false lines starts inputs 0) 5 ≡ 1 ∷ 2 ∷ []) × ((cells_at (step_at false lines starts inputs 1) 5 ≡ 3 ∷ 3 ∷ []) × (cells_at (step_at false lines starts inputs 2) 5 ≡ 4 ∷ 6 ∷ []))
unfolding filled_by layout sources start step_from words_before step_at step put
array_words = (refl, (refl, refl))

init_words : (cells_at (step_at false lines starts inputs 0) 6 ≡ 5 ∷ []) × ((cells_at (step_at false lines starts inputs 1) 6 ≡ 3 ∷ []) × (cells_at (step_at false lines starts inputs 2) 6 ≡ 6 ∷ []))
unfolding filled_by layout sources start step_from words_before step_at step put
init_words = (refl, (refl, refl))

driven_words : (cells_at (step_at false lines starts inputs 0) 9 ≡ 5 ∷ []) × ((cells_at (step_at false lines starts inputs 1) 9 ≡ 5 ∷ []) × (cells_at (step_at false lines starts inputs 2) 9 ≡ 5 ∷ []))
unfolding filled_by layout sources start step_from words_before step_at step put
driven_words = (refl, (refl, refl))

circuit_signals : signals_left false circuit 15 3 starts inputs 6 13 ≡ 0 ∷ 1 ∷ 1 ∷ 0 ∷ 1 ∷ 0 ∷ []
unfolding filled_by signals_left ready checked fault suits kind_row layout sources run start step_from words_before steps step put
circuit_signals = refl

circuit_bad : ran false circuit 15 3 starts inputs 6 13 ≡ Ok (Some (counted 0 2))
unfolding filled_by ran ready checked fault suits kind_row layout sources run start step_from words_before steps step put
circuit_bad = refl

-- inputs alone are not enough
inputs_alone : ready false circuit 15 3 starts (1 ∷ 0 ∷ 1 ∷ []) 6 13 ≡ Err InputWords
unfolding filled_by ready checked fault suits kind_row layout sources
inputs_alone = refl

-- a program's free words are masked: 2 to a state of width 1 at step 1
masked_in_program : signals_left true (table_with true (fields 5 1 0 0 0 ∷ fields 8 0 1 0 0 ∷ [])) 2 2 (1 ∷ []) (3 ∷ 2 ∷ []) 2 2 ≡ 1 ∷ 0 ∷ []
unfolding filled_by signals_left ready checked fault suits kind_row layout sources run start step_from words_before steps step put
masked_in_program = refl
