-- A circuit of all seven overflow detectors meets the premises of demand 3. Its inputs are loose, and each has one mask, which all detectors take; no run could show these, since a
-- program reads the low bits of a detector's operands anyway. Assumes nothing.
use Rattle.std.specs.Prelude.{Ok, Some}
use Prim.Native.Nat.{ℕ}
use mathlib.Core.Path.{◌≡◌, refl}
use mathlib.Core.Bool.{true, false}
use mathlib.Core.List.{List, [], ◌∷◌}
use lib.Dec.{lit<, lit≤}
use Rattle.tables.specs.Kinds.{row_of}
use Rattle.tables.specs.Lines.{fields}
use Rattle.tables.specs.Layout.{filled_by, words_for, table_with, records_of}
use Rattle.tables.specs.Rules.{suits, fault}
use Rattle.tables.specs.Tables.{checked}
use Rattle.circuits.specs.Cells.{put}
use Rattle.circuits.specs.Layout.{layout}
use Rattle.circuits.specs.Meaning.{step}
use Rattle.circuits.specs.Free.{sources}
use Rattle.circuits.specs.Run.{start, step_from, words_before, steps, run, counted}
use Rattle.circuits.specs.Answers.{ready, ran, signals_left}
use Rattle.flattening.specs.Flat.{flatten, flat_records}
use Rattle.flattening.specs.Placed.{flat_filled}
use Rattle.flattening.specs.Answers.{flattened, flat_left}
use Rattle.programs.specs.Translation.{translate}
use Rattle.programs.specs.Answers.{translated, program_left}
use Rattle.agreement.specs.Comparison.{Runs, Given, Agree, flat_table, program_table, bad, signals}
use Rattle.agreement.proofs.Demand3.{demand_3}

-- 1 sort bitvec 1, 2 sort bitvec 3, 3 input 2, 4 input 2, 5 uaddo 1 3 4, 6 saddo .., 7 usubo .., 8 ssubo .., 9 umulo .., 10 smulo .., 11 sdivo 1 3 4, 12 bad 5, .., 18 bad 11
abbrev detector_records : List (List ℕ)
detector_records =
    fields 1 0 1 0 0 ∷ fields 1 0 3 0 0 ∷ fields 4 2 0 0 0 ∷ fields 4 2 0 0 0
    ∷ fields 57 1 3 4 0 ∷ fields 58 1 3 4 0 ∷ fields 59 1 3 4 0 ∷ fields 60 1 3 4 0 ∷ fields 61 1 3 4 0 ∷ fields 62 1 3 4 0 ∷ fields 63 1 3 4 0
    ∷ fields 8 0 5 0 0 ∷ fields 8 0 6 0 0 ∷ fields 8 0 7 0 0 ∷ fields 8 0 8 0 0 ∷ fields 8 0 9 0 0 ∷ fields 8 0 10 0 0 ∷ fields 8 0 11 0 0 ∷ []

-- the rows are 4 7, 2 2, 12 15 and 3 0: of width 3, the third is the first again
abbrev sample_detectors : Runs
sample_detectors =
    record {
      circuit = record { words = table_with false detector_records; count = 18 };
      flat_words = words_for false 18;
      flat_count = 18;
      program_words = words_for true 18;
      program_count = 18;
      lent = record { steps = 4; starts = []; inputs = 4 ∷ 7 ∷ 2 ∷ 2 ∷ 12 ∷ 15 ∷ 3 ∷ 0 ∷ []; signals = 28 };
      work_c = 9;
      work_f = 9;
      work_p = 11;
    }

detectors_given : Given sample_detectors
unfolding filled_by flattened flat_left flatten flat_records flat_filled translated program_left translate checked fault suits row_of layout sources
detectors_given =
    record {
      flat = refl;
      program = refl;
      steps = lit≤ tt;
      starts = refl;
      inputs = refl;
      signals = refl;
      words = (lit< tt, (lit< tt, (lit< tt, (lit< tt, (lit< tt, (lit< tt, (lit< tt, (lit< tt, tt))))))));
      work_c = lit≤ tt;
      work_f = lit≤ tt;
      work_p = lit≤ tt;
    }

pub detectors_agree : Agree sample_detectors
detectors_agree = demand_3 sample_detectors detectors_given

-- ---- what they agree on: of each step seven bytes

pub detectors_signals : signals false sample_detectors.circuit sample_detectors.lent 9
    ≡ 1 ∷ 1 ∷ 1 ∷ 0 ∷ 1 ∷ 1 ∷ 1 ∷ 0 ∷ 1 ∷ 0 ∷ 0 ∷ 0 ∷ 1 ∷ 0 ∷ 1 ∷ 1 ∷ 1 ∷ 0 ∷ 1 ∷ 1 ∷ 1 ∷ 0 ∷ 0 ∷ 0 ∷ 0 ∷ 0 ∷ 0 ∷ 0 ∷ []
unfolding filled_by signals_left ready checked fault suits row_of layout sources run start step_from words_before steps step put
detectors_signals = refl

pub detectors_bad : bad false sample_detectors.circuit sample_detectors.lent 9 ≡ Ok (Some (counted 0 1))
unfolding filled_by ran ready checked fault suits row_of layout sources run start step_from words_before steps step put
detectors_bad = refl

-- ---- a detector is copied, and needs both operands clean

detectors_flat : records_of false (flat_table sample_detectors).words 18 ≡ detector_records
unfolding filled_by flattened flat_left flatten flat_records flat_filled checked fault suits row_of
detectors_flat = refl

detectors_program : records_of true (program_table sample_detectors).words 18
    ≡ fields 4 3 0 0 0 ∷ fields 56 3 1 0 0 ∷ fields 4 3 0 0 0 ∷ fields 56 3 3 0 0
    ∷ fields 57 1 2 4 0 ∷ fields 58 1 2 4 0 ∷ fields 59 1 2 4 0 ∷ fields 60 1 2 4 0 ∷ fields 61 1 2 4 0 ∷ fields 62 1 2 4 0 ∷ fields 63 1 2 4 0
    ∷ fields 8 0 5 0 0 ∷ fields 8 0 6 0 0 ∷ fields 8 0 7 0 0 ∷ fields 8 0 8 0 0 ∷ fields 8 0 9 0 0 ∷ fields 8 0 10 0 0 ∷ fields 8 0 11 0 0 ∷ []
unfolding filled_by flattened flat_left flatten flat_records flat_filled translated program_left translate checked fault suits row_of
detectors_program = refl
