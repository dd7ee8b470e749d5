-- A second circuit meets the premises of demand 3, one whose program needs its masks: an array with an init, written through an array ite and read, a constraint, two bads, an index and an
-- ite condition that are loose. Four steps, with bits past the widths in start words and inputs; the start words of the array, 1 and 2, are unused. Assumes nothing.
use Rattle.std.specs.Prelude.{Ok, Some}
use Prim.Native.Nat.{ℕ, ◌-◌}
use mathlib.Core.Path.{◌≡◌, refl}
use mathlib.Core.Bool.{true, false}
use mathlib.Core.List.{List, [], ◌∷◌}
use lib.Dec.{lit<, lit≤}
use lib.ListN.{take, drop}
use Rattle.tables.specs.Kinds.{row_of}
use Rattle.tables.specs.Lines.{fields}
use Rattle.tables.specs.Layout.{filled_by, words_for, table_with, records_of, recorded}
use Rattle.tables.specs.Rules.{suits, fault}
use Rattle.tables.specs.Tables.{checked}
use Rattle.circuits.specs.Cells.{put}
use Rattle.circuits.specs.Layout.{layout}
use Rattle.circuits.specs.Meaning.{step}
use Rattle.circuits.specs.Free.{sources}
use Rattle.circuits.specs.Run.{start, step_from, words_before, steps, run, counted}
use Rattle.circuits.specs.Answers.{ready, ran, signals_left}
use Rattle.flattening.specs.Flat.{flatten, flat_records}
use Rattle.flattening.specs.Placed.{flat_filled}
use Rattle.flattening.specs.Answers.{flattened, flat_left}
use Rattle.programs.specs.Translation.{translate}
use Rattle.programs.specs.Answers.{translated, program_left}
use Rattle.agreement.specs.Comparison.{Runs, Table, Given, Agree, program_table, bad, signals}
use Rattle.agreement.proofs.Demand3.{demand_3}

-- 1 sort bitvec 1, 2 sort bitvec 3, 3 sort array 1 2, 4 constd 2 5, 5 state 3, 6 init 3 5 4, 7 state 1, 8 input 1, 9 input 2, 10 add 1 7 8, 11 write 3 5 10 9, 12 not 1 7,
-- 13 ite 3 12 11 5, 14 next 3 5 13, 15 next 1 7 8, 16 read 2 5 10, 17 ult 1 16 4, 18 eq 1 16 9, 19 redor 1 9, 20 constraint 19, 21 bad 17, 22 bad 18
abbrev sample_circuit : List ℕ
sample_circuit =
    table_with false
    (fields 1 0 1 0 0 ∷ fields 1 0 3 0 0 ∷ fields 2 0 1 2 0 ∷ fields 3 2 5 0 0 ∷ fields 5 3 0 0 0 ∷ fields 6 3 5 4 0 ∷ fields 5 1 0 0 0 ∷ fields 4 1 0 0 0 ∷ fields 4 2 0 0 0 ∷ fields 39 1 7 8 0
    ∷ fields 55 3 5 10 9 ∷ fields 11 1 7 0 0 ∷ fields 53 3 12 11 5 ∷ fields 7 3 5 13 0 ∷ fields 7 1 7 8 0 ∷ fields 54 2 5 10 0 ∷ fields 23 1 16 4 0 ∷ fields 21 1 16 9 0 ∷ fields 16 1 9 0 0
    ∷ fields 9 0 19 0 0 ∷ fields 8 0 17 0 0 ∷ fields 8 0 18 0 0 ∷ [])

-- the rows are 2 9, 3 10, 1 13 and 4 8: the bits 0 1 1 0 and the numbers 1 2 5 0
abbrev pub sample_masks : Runs
sample_masks =
    record {
      circuit = record { words = sample_circuit; count = 22 };
      flat_words = words_for false 32;
      flat_count = 32;
      program_words = words_for true 35;
      program_count = 35;
      lent = record { steps = 4; starts = 1 ∷ 2 ∷ 3 ∷ []; inputs = 2 ∷ 9 ∷ 3 ∷ 10 ∷ 1 ∷ 13 ∷ 4 ∷ 8 ∷ []; signals = 12 };
      work_c = 100;
      work_f = 100;
      work_p = 100;
    }

masks_given : Given sample_masks
unfolding filled_by flattened flat_left flatten flat_records flat_filled translated program_left translate checked fault suits row_of layout sources
masks_given =
    record {
      flat = refl;
      program = refl;
      steps = lit≤ tt;
      starts = refl;
      inputs = refl;
      signals = refl;
      words = (lit< tt, (lit< tt, (lit< tt, (lit< tt, (lit< tt, (lit< tt, (lit< tt, (lit< tt, tt))))))));
      work_c = lit≤ tt;
      work_f = lit≤ tt;
      work_p = lit≤ tt;
    }

pub masks_agree : Agree sample_masks
masks_agree = demand_3 sample_masks masks_given

-- ---- what they agree on: of each step the bytes of the constraint and of the two bads; the first counted bad is the second bad line, at step 2

pub masks_signals : signals false sample_masks.circuit sample_masks.lent 100 ≡ 1 ∷ 0 ∷ 0 ∷ 1 ∷ 0 ∷ 0 ∷ 1 ∷ 0 ∷ 1 ∷ 0 ∷ 1 ∷ 0 ∷ []
unfolding filled_by signals_left ready checked fault suits row_of layout sources run start step_from words_before steps step put
masks_signals = refl

pub masks_bad : bad false sample_masks.circuit sample_masks.lent 100 ≡ Ok (Some (counted 2 2))
unfolding filled_by ran ready checked fault suits row_of layout sources run start step_from words_before steps step put
masks_bad = refl

-- ---- the masks: the add that is the index has one, which the write's eq lines take; the not that is the condition has one, which both lines of the array ite take

-- the n records of the program from the record i on, counted from 1
abbrev program_from : (i n : ℕ) → List (List ℕ)
program_from i n = take n (drop (i - 1) (records_of true (program_table sample_masks).words sample_masks.program_count))

index_mask : program_from 13 5 ≡ fields 39 1 8 10 0 ∷ fields 56 1 13 0 0 ∷ fields 21 1 14 1 0 ∷ fields 53 3 15 12 4 ∷ fields 21 1 14 2 0 ∷ []
unfolding filled_by flattened flat_left flatten flat_records flat_filled translated program_left translate checked fault suits row_of
index_mask = refl

condition_mask : program_from 19 5 ≡ fields 11 1 8 0 0 ∷ fields 56 1 19 0 0 ∷ fields 53 3 20 16 4 ∷ fields 56 3 21 0 0 ∷ fields 53 3 20 18 5 ∷ []
unfolding filled_by flattened flat_left flatten flat_records flat_filled translated program_left translate checked fault suits row_of
condition_mask = refl

-- ---- and they matter: the program without them, its uses taking the loose words, gives other signals

-- the program with the record r at the place i, counted from 1
abbrev changed : List ℕ → (i : ℕ) → (r : List ℕ) → List ℕ
changed t i r = recorded true t (i - 1) r

-- the loose index is 2 at step 2: no cell's, so that the last cell is read
abbrev loose_index : Table
loose_index = record { words = changed (changed (changed (program_table sample_masks).words 15 (fields 21 1 13 1 0)) 17 (fields 21 1 13 2 0)) 28 (fields 21 1 13 1 0); count = 35 }

index_matters : signals true loose_index sample_masks.lent 100 ≡ 1 ∷ 0 ∷ 0 ∷ 1 ∷ 0 ∷ 0 ∷ 1 ∷ 1 ∷ 0 ∷ 0 ∷ 1 ∷ 0 ∷ []
unfolding filled_by flattened flat_left flatten flat_records flat_filled translated program_left translate signals_left ready checked fault suits row_of layout sources run start step_from words_before steps step put
index_matters = refl

-- the loose condition is never 0: at step 0 the array is written
abbrev loose_condition : Table
loose_condition = record { words = changed (changed (program_table sample_masks).words 21 (fields 53 3 19 16 4)) 23 (fields 53 3 19 18 5); count = 35 }

condition_matters : signals true loose_condition sample_masks.lent 100 ≡ 1 ∷ 0 ∷ 0 ∷ 1 ∷ 1 ∷ 0 ∷ 1 ∷ 0 ∷ 1 ∷ 0 ∷ 1 ∷ 0 ∷ []
unfolding filled_by flattened flat_left flatten flat_records flat_filled translated program_left translate signals_left ready checked fault suits row_of layout sources run start step_from words_before steps step put
condition_matters = refl
