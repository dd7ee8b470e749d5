-- A circuit with a minus operand, as it is read, meets the premises of demand 3: one bad line has the input, the other its complement. Its table has a not record with the id 0.
-- Assumes nothing.
use Prim.Native.Nat.{ℕ}
use mathlib.Core.Path.{◌≡◌, refl}
use mathlib.Core.Bool.{true, false}
use mathlib.Core.List.{List, [], ◌∷◌}
use lib.Dec.{lit<, lit≤}
use Rattle.tables.specs.Kinds.{letters, row_of}
use Rattle.tables.specs.Lines.{fields}
use Rattle.tables.specs.Layout.{filled_by, words_for, records_of, ids_of}
use Rattle.tables.specs.Rules.{suits, fault}
use Rattle.tables.specs.Tables.{checked}
use Rattle.texts.specs.Forms.{form_row}
use Rattle.texts.specs.Split.{split, up_to, tokens}
use Rattle.texts.specs.Decimal.{digit, all_in, value_from, valued, scanned, decimal}
use Rattle.texts.specs.Operands.{resolved}
use Rattle.texts.specs.Reading.{find_in, word_in, settled, lowest, read_line, read_lines_by, read_text_by, read_text, table_of}
use Rattle.circuits.specs.Cells.{put}
use Rattle.circuits.specs.Layout.{layout}
use Rattle.circuits.specs.Meaning.{step}
use Rattle.circuits.specs.Free.{sources}
use Rattle.circuits.specs.Run.{start, step_from, words_before, steps, run}
use Rattle.circuits.specs.Answers.{ready, signals_left}
use Rattle.flattening.specs.Flat.{flatten, flat_records}
use Rattle.flattening.specs.Placed.{flat_filled}
use Rattle.flattening.specs.Answers.{flattened, flat_left}
use Rattle.programs.specs.Translation.{translate}
use Rattle.programs.specs.Answers.{translated, program_left}
use Rattle.agreement.specs.Comparison.{Runs, Given, Agree, signals}
use Rattle.agreement.proofs.Demand3.{demand_3}

-- the fourth record is a not of line 2, the fifth the line's own
abbrev minus_circuit : List ℕ
minus_circuit = table_of (words_for false 5) (read_text (words_for false 5) (letters "1 sort bitvec 1\n2 input 1\n3 bad 2\n4 bad -2\n"))

minus_records_lem : records_of false minus_circuit 5 ≡ fields 1 0 1 0 0 ∷ fields 4 1 0 0 0 ∷ fields 8 0 2 0 0 ∷ fields 11 1 2 0 0 ∷ fields 8 0 4 0 0 ∷ []
unfolding read_text_by read_lines_by read_line lowest settled resolved word_in find_in form_row row_of fault suits split up_to tokens decimal scanned valued all_in value_from digit filled_by
minus_records_lem = refl

minus_ids : ids_of minus_circuit 5 ≡ 1 ∷ 2 ∷ 3 ∷ 0 ∷ 4 ∷ []
unfolding read_text_by read_lines_by read_line lowest settled resolved word_in find_in form_row row_of fault suits split up_to tokens decimal scanned valued all_in value_from digit filled_by
minus_ids = refl

abbrev sample_minus : Runs
sample_minus =
    record {
      circuit = record { words = minus_circuit; count = 5 };
      flat_words = words_for false 5;
      flat_count = 5;
      program_words = words_for true 6;
      program_count = 6;
      lent = record { steps = 3; starts = []; inputs = 0 ∷ 1 ∷ 2 ∷ []; signals = 6 };
      work_c = 10;
      work_f = 10;
      work_p = 10;
    }

minus_given : Given sample_minus
unfolding read_text_by read_lines_by read_line lowest settled resolved word_in find_in form_row split up_to tokens decimal scanned valued all_in value_from digit
    filled_by flattened flat_left flatten flat_records flat_filled translated program_left translate checked fault suits row_of layout sources
minus_given =
    record {
      flat = refl;
      program = refl;
      steps = lit≤ tt;
      starts = refl;
      inputs = refl;
      signals = refl;
      words = (lit< tt, (lit< tt, (lit< tt, tt)));
      work_c = lit≤ tt;
      work_f = lit≤ tt;
      work_p = lit≤ tt;
    }

pub minus_agree : Agree sample_minus
minus_agree = demand_3 sample_minus minus_given

-- of each step the bytes of the two bads: the second is the complement of the first
pub minus_signals : signals false sample_minus.circuit sample_minus.lent 10 ≡ 0 ∷ 1 ∷ 1 ∷ 0 ∷ 0 ∷ 1 ∷ []
unfolding read_text_by read_lines_by read_line lowest settled resolved word_in find_in form_row split up_to tokens decimal scanned valued all_in value_from digit
    filled_by signals_left ready checked fault suits row_of layout sources run start step_from words_before steps step put
minus_signals = refl
