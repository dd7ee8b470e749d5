-- The request's circuit meets the theorems' premises: it is accepted, flattening answers 19, and its 19 lines run as it does. So does a circuit with free states, whose
-- flat circuit has the same free cells in the same order. Assumes nothing.
use Rattle.std.specs.Prelude.{Ok}
use Prim.Native.Nat.{ℕ}
use mathlib.Core.Path.{◌≡◌, refl, ◌∙◌}
use mathlib.Core.Bool.{false}
use mathlib.Core.List.{List, [], ◌∷◌}
use native.Mathlib.Omega.{arith}
use lib.ListN.{length}
use Rattle.tables.specs.Kinds.{row_of}
use Rattle.tables.specs.Layout.{filled_by, lines_of, words_for}
use Rattle.tables.specs.Types.{no_ctx}
use Rattle.tables.specs.Rules.{suits, fault}
use Rattle.tables.specs.Tables.{checked}
use Rattle.tables.proofs.Facts.{AllOk}
use Rattle.tables.proofs.Sound.{accepted_ok}
use Rattle.circuits.specs.Examples.{circuit}
use Rattle.circuits.specs.FreeExamples.{circuit as free_circuit, lines as free_lines}
use Rattle.circuits.specs.Layout.{layout}
use Rattle.circuits.specs.Free.{driven, free, sources}
use Rattle.circuits.specs.Run.{row_length, run}
use Rattle.flattening.specs.Flat.{flatten}
use Rattle.flattening.specs.Answers.{flattened, flat_left}
use Rattle.flattening.proofs.Leaves.{flat_accepted, flat_row, flat_run}

circuit_accepted : checked false circuit 11 ≡ Ok tt
unfolding checked fault suits row_of filled_by
circuit_accepted = refl

circuit_ok : AllOk false no_ctx (lines_of false circuit 11)
circuit_ok = accepted_ok false circuit 11 circuit_accepted

circuit_answer : flattened circuit 11 (words_for false 19) ≡ Ok 19
unfolding flattened checked fault suits row_of flatten filled_by
circuit_answer = refl

circuit_words : (layout false (lines_of false circuit 11)).counts.states ≡ 2
unfolding layout filled_by
circuit_words = refl

pub circuit_flat : checked false (flat_left circuit 11 (words_for false 19)) 19 ≡ Ok tt
circuit_flat = flat_accepted circuit 11 (words_for false 19) 19 circuit_answer

pub circuit_run : (k : ℕ) (S I : List ℕ) → length S ≡ 2 → run false (lines_of false (flat_left circuit 11 (words_for false 19)) 19) k S I ≡ run false (lines_of false circuit 11) k S I
circuit_run k S I h = flat_run circuit 11 (words_for false 19) 19 circuit_answer k S I (omega (arith, circuit_words, h))

-- ---- an array state of two cells and a word state, both free, and a state that is driven by itself

free_answer : flattened free_circuit 15 (words_for false 19) ≡ Ok 19
unfolding flattened checked fault suits row_of flatten filled_by
free_answer = refl

-- the states of the cells stand where the array state stood
free_cells : sources false (flatten free_lines) ≡ free 3 ∷ free 3 ∷ free 3 ∷ driven ∷ []
unfolding sources layout flatten filled_by
free_cells = refl

free_words : ((layout false free_lines).counts.states ≡ 4) × (row_length false free_lines ≡ 4)
unfolding sources layout filled_by
free_words = (refl, refl)

pub free_row : row_length false (lines_of false (flat_left free_circuit 15 (words_for false 19)) 19) ≡ 4
free_row = flat_row free_circuit 15 (words_for false 19) 19 free_answer ∙ free_words.1

pub free_run : (k : ℕ) (S I : List ℕ) → length S ≡ 4 → run false (lines_of false (flat_left free_circuit 15 (words_for false 19)) 19) k S I ≡ run false free_lines k S I
free_run k S I h = flat_run free_circuit 15 (words_for false 19) 19 free_answer k S I (omega (arith, free_words.0, h))
