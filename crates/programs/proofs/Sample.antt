-- The request's flat circuit meets the premises: it and its program run alike, and the program is accepted. Of another the free states are computed, and those of its program.
-- Assumes nothing.
use Rattle.std.specs.Prelude.{Ok}
use Prim.Native.Nat.{ℕ, ◌≤◌}
use mathlib.Core.Path.{◌≡◌, refl}
use mathlib.Core.Bool.{true, false}
use mathlib.Core.List.{List, [], ◌∷◌}
use lib.ListN.{length}
use Rattle.tables.specs.Kinds.{row_of}
use Rattle.tables.specs.Lines.{fields}
use Rattle.tables.specs.Layout.{filled_by, lines_of, table_with}
use Rattle.tables.specs.Types.{no_ctx}
use Rattle.tables.specs.Rules.{suits, fault}
use Rattle.tables.specs.Tables.{checked}
use Rattle.tables.proofs.Facts.{AllOk}
use Rattle.tables.proofs.Sound.{accepted_ok}
use Rattle.circuits.specs.Layout.{layout}
use Rattle.circuits.specs.Free.{driven, free, sources}
use Rattle.circuits.specs.Run.{run}
use Rattle.programs.specs.Translation.{translate}
use Rattle.programs.specs.Answers.{program_of, program_left}
use Rattle.programs.specs.Examples.{request_flat, flat_accepted, exact_answer}
use Rattle.programs.proofs.Runs.{Small, alike}
use Rattle.programs.proofs.Done.{target_accepted}

sample_ok : AllOk false no_ctx (lines_of false request_flat 19)
sample_ok = accepted_ok false request_flat 19 flat_accepted

pub sample_alike : (k : ℕ) (S I : List ℕ) → 2 ≤ length S → Small I → run true (program_of request_flat 19) k S I ≡ run false (lines_of false request_flat 19) k S I
unfolding layout filled_by
sample_alike k S I h w = alike (lines_of false request_flat 19) sample_ok refl k S I h w

pub sample_accepted : checked true (program_left request_flat 19 85) 17 ≡ Ok tt
sample_accepted = target_accepted request_flat 19 85 17 exact_answer

-- 1 sort bitvec 8, 2 sort bitvec 5, 3 input 1, 4 state 1, 5 state 1, 6 state 2, 7 next 1 5 3: the states 4 and 6 are free. The input gets a mask, so in the program the states are 3, 4 and 5
abbrev free_flat : List ℕ
free_flat = table_with false (fields 1 0 8 0 0 ∷ fields 1 0 5 0 0 ∷ fields 4 1 0 0 0 ∷ fields 5 1 0 0 0 ∷ fields 5 1 0 0 0 ∷ fields 5 2 0 0 0 ∷ fields 7 1 5 3 0 ∷ [])

free_accepted : checked false free_flat 7 ≡ Ok tt
unfolding filled_by checked fault suits row_of
free_accepted = refl

free_circuit : sources false (lines_of false free_flat 7) ≡ free 8 ∷ driven ∷ free 5 ∷ []
unfolding filled_by layout sources
free_circuit = refl

free_program : sources true (program_of free_flat 7) ≡ free 8 ∷ driven ∷ free 5 ∷ []
unfolding filled_by layout sources translate
free_program = refl
