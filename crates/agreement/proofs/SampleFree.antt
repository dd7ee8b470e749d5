-- A circuit with free states meets the premises of demand 3: an array state and a state with an init that nobody drives, and one that is driven by itself. Three steps, with free
-- words above 2 ^ 3. Assumes nothing.
use Rattle.std.specs.Prelude.{Ok, Some}
use mathlib.Core.Path.{◌≡◌, refl}
use mathlib.Core.Bool.{true, false}
use mathlib.Core.List.{[], ◌∷◌}
use lib.Dec.{lit<, lit≤}
use Rattle.tables.specs.Kinds.{row_of}
use Rattle.tables.specs.Layout.{filled_by, words_for, lines_of}
use Rattle.tables.specs.Rules.{suits, fault}
use Rattle.tables.specs.Tables.{checked}
use Rattle.circuits.specs.Cells.{put}
use Rattle.circuits.specs.Layout.{layout}
use Rattle.circuits.specs.Meaning.{step}
use Rattle.circuits.specs.Free.{driven, free, sources}
use Rattle.circuits.specs.Run.{start, step_from, words_before, steps, run, counted}
use Rattle.circuits.specs.Answers.{ready, ran, signals_left}
use Rattle.circuits.specs.FreeExamples.{circuit, starts as start_words, inputs}
use Rattle.flattening.specs.Flat.{flatten, flat_records}
use Rattle.flattening.specs.Placed.{flat_filled}
use Rattle.flattening.specs.Answers.{flattened, flat_left}
use Rattle.programs.specs.Translation.{translate}
use Rattle.programs.specs.Answers.{translated, program_left}
use Rattle.agreement.specs.Comparison.{Runs, Given, Agree, flat_table, program_table, bad, signals}
use Rattle.agreement.proofs.Demand3.{demand_3}

abbrev sample_free : Runs
sample_free =
    record {
      circuit = record { words = circuit; count = 15 };
      flat_words = words_for false 19;
      flat_count = 19;
      program_words = words_for true 17;
      program_count = 17;
      lent = record { steps = 3; starts = start_words; inputs = inputs; signals = 6 };
      work_c = 13;
      work_f = 16;
      work_p = 17;
    }

free_given : Given sample_free
unfolding filled_by flattened flat_left flatten flat_records flat_filled translated program_left translate checked fault suits row_of layout sources
free_given =
    record {
      flat = refl;
      program = refl;
      steps = lit≤ tt;
      starts = refl;
      inputs = refl;
      signals = refl;
      words = (lit< tt, (lit< tt, (lit< tt, (lit< tt, (lit< tt, (lit< tt, (lit< tt, (lit< tt, (lit< tt, (lit< tt, (lit< tt, (lit< tt, tt))))))))))));
      work_c = lit≤ tt;
      work_f = lit≤ tt;
      work_p = lit≤ tt;
    }

pub free_agree : Agree sample_free
free_agree = demand_3 sample_free free_given

-- what they agree on
pub free_signals : signals false sample_free.circuit sample_free.lent 13 ≡ 0 ∷ 1 ∷ 1 ∷ 0 ∷ 1 ∷ 0 ∷ []
unfolding filled_by signals_left ready checked fault suits row_of layout sources run start step_from words_before steps step put
free_signals = refl

pub free_bad : bad false sample_free.circuit sample_free.lent 13 ≡ Ok (Some (counted 0 2))
unfolding filled_by ran ready checked fault suits row_of layout sources run start step_from words_before steps step put
free_bad = refl

-- the same cells are free in the flat circuit and in the program, in the same order
free_in_flat : sources false (lines_of false (flat_table sample_free).words 19) ≡ free 3 ∷ free 3 ∷ free 3 ∷ driven ∷ []
unfolding filled_by flattened flat_left flatten flat_records flat_filled checked fault suits row_of layout sources
free_in_flat = refl

free_in_program : sources true (lines_of true (program_table sample_free).words 17) ≡ free 3 ∷ free 3 ∷ free 3 ∷ driven ∷ []
unfolding filled_by flattened flat_left flatten flat_records flat_filled translated program_left translate checked fault suits row_of layout sources
free_in_program = refl
