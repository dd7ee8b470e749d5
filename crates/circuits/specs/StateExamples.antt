-- States, computed: next values are set together, a state that is driven by itself keeps its value, and start words are unused where there is an init. Assumes nothing.
use Rattle.std.specs.Prelude.{ℕ, ◌≡◌, refl, true, false, List, [], ◌∷◌, Ok}
use Rattle.tables.specs.Kinds.{row_of as kind_row}
use Rattle.tables.specs.Lines.{fields}
use Rattle.tables.specs.Layout.{filled_by, lines_of, table_with}
use Rattle.tables.specs.Rules.{suits, fault}
use Rattle.tables.specs.Tables.{checked}
use Rattle.circuits.specs.Cells.{put}
use Rattle.circuits.specs.Layout.{layout}
use Rattle.circuits.specs.Meaning.{step}
use Rattle.circuits.specs.Free.{sources}
use Rattle.circuits.specs.Run.{start, step_from, words_before, steps, run}
use Rattle.circuits.specs.Answers.{ready, signals_left}

-- 1 sort bitvec 3, 2 state 1, 3 state 1, 4 state 1, 5 next 1 2 3, 6 next 1 3 2, 7 next 1 4 4: two states swap their words, the third is driven by itself
abbrev pub swap : List ℕ
swap = table_with false (fields 1 0 3 0 0 ∷ fields 5 1 0 0 0 ∷ fields 5 1 0 0 0 ∷ fields 5 1 0 0 0 ∷ fields 7 1 2 3 0 ∷ fields 7 1 3 2 0 ∷ fields 7 1 4 4 0 ∷ [])

pub swap_accepted : checked false swap 7 ≡ Ok tt
unfolding filled_by checked fault suits kind_row
swap_accepted = refl

swap_once : (step false false (lines_of false swap 7) (5 ∷ 2 ∷ 4 ∷ []) []).sts ≡ 2 ∷ 5 ∷ 4 ∷ []
unfolding filled_by step put
swap_once = refl

-- from start words of more than three bits: 13, 10 and 12 are 5, 2 and 4 modulo 8
swap_started : (step false false (lines_of false swap 7) (start false (lines_of false swap 7) (13 ∷ 10 ∷ 12 ∷ []) []) []).sts ≡ 2 ∷ 5 ∷ 4 ∷ []
unfolding filled_by start step put
swap_started = refl

-- the same states as a program; words are stored and read whole
abbrev pub swap_program : List ℕ
swap_program = table_with true (fields 5 3 0 0 0 ∷ fields 5 3 0 0 0 ∷ fields 5 3 0 0 0 ∷ fields 7 3 1 2 0 ∷ fields 7 3 2 1 0 ∷ fields 7 3 3 3 0 ∷ [])

pub swap_program_accepted : checked true swap_program 6 ≡ Ok tt
unfolding filled_by checked fault suits kind_row
swap_program_accepted = refl

swap_whole : (step true false (lines_of true swap_program 6) (13 ∷ 10 ∷ 12 ∷ []) []).sts ≡ 10 ∷ 13 ∷ 12 ∷ []
unfolding filled_by step put
swap_whole = refl

-- 1 sort bitvec 1, 2 sort bitvec 3, 3 constd 2 6, 4 state 2, 5 init 2 4 3, 6 state 2, 7 eq 1 4 3, 8 eq 1 4 6, 9 bad 7, 10 bad 8, 11 next 2 4 4, 12 next 2 6 6: one state starts from 6, the other from its start word
abbrev pub begins : List ℕ
begins =
    table_with false
    (fields 1 0 1 0 0 ∷ fields 1 0 3 0 0 ∷ fields 3 2 6 0 0 ∷ fields 5 2 0 0 0 ∷ fields 6 2 4 3 0 ∷ fields 5 2 0 0 0 ∷ fields 21 1 4 3 0 ∷ fields 21 1 4 6 0 ∷ fields 8 0 7 0 0 ∷ fields 8 0 8 0 0
    ∷ fields 7 2 4 4 0 ∷ fields 7 2 6 6 0 ∷ [])

pub begins_accepted : checked false begins 12 ≡ Ok tt
unfolding filled_by checked fault suits kind_row
begins_accepted = refl

begins_start : start false (lines_of false begins 12) (1 ∷ 4 ∷ []) [] ≡ 6 ∷ 4 ∷ []
unfolding filled_by start step put
begins_start = refl

begins_other : start false (lines_of false begins 12) (7 ∷ 4 ∷ []) [] ≡ 6 ∷ 4 ∷ []
unfolding filled_by start step put
begins_other = refl

-- the first start word makes no difference to the run, the second does
begins_signals : signals_left false begins 12 2 (1 ∷ 4 ∷ []) [] 4 20 ≡ 1 ∷ 0 ∷ 1 ∷ 0 ∷ []
unfolding filled_by signals_left ready checked fault suits kind_row layout sources run start step_from words_before steps step put
begins_signals = refl

begins_signals_other : signals_left false begins 12 2 (7 ∷ 4 ∷ []) [] 4 20 ≡ 1 ∷ 0 ∷ 1 ∷ 0 ∷ []
unfolding filled_by signals_left ready checked fault suits kind_row layout sources run start step_from words_before steps step put
begins_signals_other = refl

begins_signals_differ : signals_left false begins 12 2 (1 ∷ 6 ∷ []) [] 4 20 ≡ 1 ∷ 1 ∷ 1 ∷ 1 ∷ []
unfolding filled_by signals_left ready checked fault suits kind_row layout sources run start step_from words_before steps step put
begins_signals_differ = refl
