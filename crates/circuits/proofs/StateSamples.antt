-- Three circuits and a program meet the premises of the laws about states. Assumes nothing.
use Prim.Native.Nat.{ℕ, zero, suc, ◌+◌, ◌*◌, ◌≤◌, ◌<◌}
use mathlib.Core.Path.{◌≡◌, refl}
use mathlib.Core.Logic.{◌⊎◌, inl, inr}
use mathlib.Core.Bool.{true, false}
use mathlib.Core.List.{List, [], ◌∷◌}
use native.Mathlib.Omega.{arith}
use lib.Dec.{lit<, lit≤}
use lib.ListN.{length, get_or}
use Rattle.tables.specs.Layout.{filled_by, lines_of}
use Rattle.circuits.specs.Cells.{mask_words, part}
use Rattle.circuits.specs.Layout.{layout}
use Rattle.circuits.specs.Meaning.{cells_at, step}
use Rattle.circuits.specs.Free.{sources}
use Rattle.circuits.specs.Run.{row_length, free_at, run, step_at}
use Rattle.circuits.specs.FreeExamples.{circuit, lines, circuit_accepted}
use Rattle.circuits.specs.StateExamples.{swap, swap_accepted, swap_program, swap_program_accepted, begins, begins_accepted}
use Rattle.circuits.proofs.States.{next_value}
use Rattle.circuits.proofs.FreeStates.{free_value, driven_value}
use Rattle.circuits.proofs.Pending.{Initialised}
use Rattle.circuits.proofs.Starts.{run_unused}

-- two states swap their values at each step, in the circuit and in the program
swaps_first : (σ ι ι' : List ℕ) → 3 ≤ length σ → cells_at (step false false (lines_of false swap 7) (step false false (lines_of false swap 7) σ ι).sts ι') 2 ≡ cells_at (step false false (lines_of false swap 7) σ ι) 3
unfolding filled_by layout
swaps_first σ ι ι' h = next_value false swap 7 swap_accepted 4 1 2 3 (lit< tt) refl σ ι ι' h

swaps_second : (σ ι ι' : List ℕ) → 3 ≤ length σ → cells_at (step false false (lines_of false swap 7) (step false false (lines_of false swap 7) σ ι).sts ι') 3 ≡ cells_at (step false false (lines_of false swap 7) σ ι) 2
unfolding filled_by layout
swaps_second σ ι ι' h = next_value false swap 7 swap_accepted 5 1 3 2 (lit< tt) refl σ ι ι' h

swaps_program : (σ ι ι' : List ℕ) → 3 ≤ length σ
    → cells_at (step true false (lines_of true swap_program 6) (step true false (lines_of true swap_program 6) σ ι).sts ι') 1 ≡ cells_at (step true false (lines_of true swap_program 6) σ ι) 2
unfolding filled_by layout
swaps_program σ ι ι' h = next_value true swap_program 6 swap_program_accepted 3 3 1 2 (lit< tt) refl σ ι ι' h

-- the start word of the state that has an init makes no difference to a run
one_word : (x y s j : ℕ) → j < (layout false (lines_of false begins 12)).counts.states → (get_or (x ∷ s ∷ []) j 0 ≡ get_or (y ∷ s ∷ []) j 0) ⊎ Initialised (layout false (lines_of false begins 12)) j
unfolding filled_by layout
one_word x y s zero h = inr (record { state = 4; init = refl; from = lit≤ tt; to = lit< tt })
one_word x y s (suc zero) h = inl refl
one_word x y s (suc (suc j)) h = absurd (omega arith)

two_words : (layout false (lines_of false begins 12)).counts.states ≤ 2
unfolding filled_by layout
two_words = lit≤ tt

any_start : (k x y s : ℕ) (I : List ℕ) → run false (lines_of false begins 12) k (x ∷ s ∷ []) I ≡ run false (lines_of false begins 12) k (y ∷ s ∷ []) I
any_start k x y s I = run_unused false begins 12 begins_accepted (x ∷ s ∷ []) (y ∷ s ∷ []) I two_words two_words (one_word x y s) k

-- of the circuit with free states: the state on line 9 is driven by itself and keeps its value, the array on line 5 takes the first two free words of each row
driven_kept : (S I : List ℕ) → 4 ≤ length S → (j : ℕ) → cells_at (step_at false lines S I (suc j)) 9 ≡ cells_at (step_at false lines S I j) 9
unfolding filled_by layout
driven_kept S I h j = driven_value false circuit 15 circuit_accepted S I h 8 2 (lit< tt) refl j 9 2 9 (lit< tt) refl

array_fed : (S I : List ℕ) → 4 ≤ length S → (j : ℕ) → (suc j + 1) * row_length false lines ≤ length I → cells_at (step_at false lines S I (suc j)) 5 ≡ mask_words 3 (part (free_at false lines I (suc j)) 0 2)
unfolding filled_by layout sources
array_fed S I h j full = free_value false circuit 15 circuit_accepted S I h 4 3 (lit< tt) refl j refl full
