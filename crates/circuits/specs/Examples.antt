-- The request's circuit and its program, computed: three steps give the signals 0 1 0, and the first counted bad is step 1, place 1. Assumes nothing.
use Rattle.std.specs.Prelude.{ℕ, ◌≡◌, refl, true, false, List, [], ◌∷◌, Ok, Some}
use Rattle.tables.specs.Kinds.{row_of as kind_row}
use Rattle.tables.specs.Lines.{fields}
use Rattle.tables.specs.Layout.{filled_by, with_ids, filled, table_with}
use Rattle.tables.specs.Rules.{suits, fault}
use Rattle.tables.specs.Tables.{checked}
use Rattle.circuits.specs.Cells.{put}
use Rattle.circuits.specs.Layout.{layout}
use Rattle.circuits.specs.Meaning.{step}
use Rattle.circuits.specs.Free.{sources}
use Rattle.circuits.specs.Run.{start, step_from, words_before, steps, run, counted}
use Rattle.circuits.specs.Answers.{ready, ran, signals_left}

-- 1 sort bitvec 1, 2 sort bitvec 3, 3 sort array 1 2, 4 state 3, 5 input 1, 6 constd 2 5, 7 write 3 4 5 6, 8 next 3 4 7, 9 read 2 4 5, 10 eq 1 9 6, 11 bad 10
abbrev circuit_records : List (List ℕ)
circuit_records =
    fields 1 0 1 0 0 ∷ fields 1 0 3 0 0 ∷ fields 2 0 1 2 0 ∷ fields 5 3 0 0 0 ∷ fields 4 1 0 0 0 ∷ fields 3 2 5 0 0 ∷ fields 55 3 4 5 6 ∷ fields 7 3 4 7 0 ∷ fields 54 2 4 5 0 ∷ fields 21 1 9 6 0
    ∷ fields 8 0 10 0 0 ∷ []

abbrev pub circuit : List ℕ
circuit = table_with false circuit_records

-- the same lines with gaps in their ids, the last id the largest, in a list that holds a record more
abbrev pub gaps : List ℕ
gaps = filled false 72 (with_ids circuit_records (5 ∷ 9 ∷ 10 ∷ 40 ∷ 41 ∷ 50 ∷ 70 ∷ 71 ∷ 90 ∷ 100 ∷ 4294967295 ∷ []))

-- its flat circuit's program: the sixth record masks the input
abbrev pub program : List ℕ
program =
    table_with true
    (fields 3 1 0 0 0 ∷ fields 3 1 1 0 0 ∷ fields 5 3 0 0 0 ∷ fields 5 3 0 0 0 ∷ fields 4 1 0 0 0 ∷ fields 56 1 5 0 0 ∷ fields 3 3 5 0 0 ∷ fields 21 1 6 1 0 ∷ fields 53 3 8 7 3 ∷ fields 21 1 6 2 0
    ∷ fields 53 3 10 7 4 ∷ fields 7 3 3 9 0 ∷ fields 7 3 4 11 0 ∷ fields 21 1 6 1 0 ∷ fields 53 3 14 3 4 ∷ fields 21 1 15 7 0 ∷ fields 8 0 16 0 0 ∷ [])

circuit_signals : signals_left false circuit 11 3 (0 ∷ 0 ∷ []) (0 ∷ 0 ∷ 1 ∷ []) 3 17 ≡ 0 ∷ 1 ∷ 0 ∷ []
unfolding filled_by signals_left ready checked fault suits kind_row layout sources run start step_from words_before steps step put
circuit_signals = refl

circuit_bad : ran false circuit 11 3 (0 ∷ 0 ∷ []) (0 ∷ 0 ∷ 1 ∷ []) 3 17 ≡ Ok (Some (counted 1 1))
unfolding filled_by ran ready checked fault suits kind_row layout sources run start step_from words_before steps step put
circuit_bad = refl

program_signals : signals_left true program 17 3 (0 ∷ 0 ∷ []) (0 ∷ 0 ∷ 1 ∷ []) 3 17 ≡ 0 ∷ 1 ∷ 0 ∷ []
unfolding filled_by signals_left ready checked fault suits kind_row layout sources run start step_from words_before steps step put
program_signals = refl

program_bad : ran true program 17 3 (0 ∷ 0 ∷ []) (0 ∷ 0 ∷ 1 ∷ []) 3 17 ≡ Ok (Some (counted 1 1))
unfolding filled_by ran ready checked fault suits kind_row layout sources run start step_from words_before steps step put
program_bad = refl

-- a program's start words are masked: a state of width 1 that starts from 2, and a bad of it
start_masked : signals_left true (table_with true (fields 5 1 0 0 0 ∷ fields 8 0 1 0 0 ∷ [])) 2 1 (2 ∷ []) [] 1 2 ≡ 0 ∷ []
unfolding filled_by signals_left ready checked fault suits kind_row layout sources run start step_from words_before steps step put
start_masked = refl
