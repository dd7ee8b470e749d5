-- The request's circuit meets the premises of demand 3: three steps from the starts 0 0 with the inputs 0 0 1. Assumes nothing.
use mathlib.Core.Path.{refl}
use mathlib.Core.Bool.{true, false}
use mathlib.Core.List.{[], ◌∷◌}
use lib.Dec.{lit<, lit≤}
use Rattle.tables.specs.Kinds.{row_of}
use Rattle.tables.specs.Layout.{filled_by, words_for}
use Rattle.tables.specs.Rules.{suits, fault}
use Rattle.tables.specs.Tables.{checked}
use Rattle.circuits.specs.Examples.{circuit}
use Rattle.circuits.specs.Layout.{layout}
use Rattle.circuits.specs.Free.{sources}
use Rattle.flattening.specs.Flat.{flatten, flat_records}
use Rattle.flattening.specs.Placed.{flat_filled}
use Rattle.flattening.specs.Answers.{flattened, flat_left}
use Rattle.programs.specs.Translation.{translate}
use Rattle.programs.specs.Answers.{translated, program_left}
use Rattle.agreement.specs.Comparison.{Runs, Given, Agree}
use Rattle.agreement.proofs.Demand3.{demand_3}

abbrev sample : Runs
sample =
    record {
      circuit = record { words = circuit; count = 11 };
      flat_words = words_for false 19;
      flat_count = 19;
      program_words = words_for true 17;
      program_count = 17;
      lent = record { steps = 3; starts = 0 ∷ 0 ∷ []; inputs = 0 ∷ 0 ∷ 1 ∷ []; signals = 3 };
      work_c = 100;
      work_f = 100;
      work_p = 100;
    }

given : Given sample
unfolding filled_by flattened flat_left flatten flat_records flat_filled translated program_left translate checked fault suits row_of layout sources
given =
    record {
      flat = refl;
      program = refl;
      steps = lit≤ tt;
      starts = refl;
      inputs = refl;
      signals = refl;
      words = (lit< tt, (lit< tt, (lit< tt, tt)));
      work_c = lit≤ tt;
      work_f = lit≤ tt;
      work_p = lit≤ tt;
    }

pub sample_agrees : Agree sample
sample_agrees = demand_3 sample given
