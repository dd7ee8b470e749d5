-- The run of a circuit, or of a program (`program` says which): its steps, their signals and bytes, and the first counted bad. A run of the lines C starts from the start
-- words S, and each of its steps takes a row of the inputs I. Assumes nothing.
use Rattle.std.specs.Prelude.{ℕ, zero, suc, ◌+◌, ◌*◌, Bool, true, false, ◌&&◌, List, [], ◌∷◌, ◌++◌, map, eqb, take, Option, None, Some}
use Rattle.tables.specs.Lines.{Line}
use Rattle.tables.specs.Layout.{from}
use Rattle.circuits.specs.declared.FirstBad.{FirstBad}
use Rattle.circuits.specs.Cells.{part}
use Rattle.circuits.specs.Layout.{layout}
use Rattle.circuits.specs.Meaning.{Signal, signal_byte, Frame, step}
use Rattle.circuits.specs.Free.{sources, free_count, fed}

-- ---- a row

abbrev pub input_count : (program : Bool) → (C : List Line) → ℕ
input_count program C = (layout program C).counts.inputs

-- "Each row is the inputs and then one word for each cell of each such state, in line order", a state without next.
abbrev pub row_length : (program : Bool) → (C : List Line) → ℕ
row_length program C = input_count program C + free_count (sources program C)

-- of the row of the step t: the inputs, and the words for free states
abbrev pub inputs_at : (program : Bool) → (C : List Line) (I : List ℕ) (t : ℕ) → List ℕ
inputs_at program C I t = part I (t * row_length program C) (input_count program C)

abbrev pub free_at : (program : Bool) → (C : List Line) (I : List ℕ) (t : ℕ) → List ℕ
free_at program C I t = part I (t * row_length program C + input_count program C) (free_count (sources program C))

-- ---- the steps

-- Step 0 starts from the start words and the init values. No init value depends on an input or a state, so the row is of no matter there.
unfoldable pub start : (program : Bool) → (C : List Line) (S I : List ℕ) → List ℕ
start program C S I = (step program true C S (take (input_count program C) I)).sts

-- The state words that the step t begins with, from those before it and the row's words for free states. Step 0 reads none of these: "at step 0 those words are present
-- and unread". "From step 1 on it takes words from the row, modulo 2^w, and not the word the last step left."
abbrev pub entered : (program : Bool) → (C : List Line) (t : ℕ) (before row : List ℕ) → List ℕ
entered program C zero before row = before
entered program C (suc t) before row = fed (sources program C) before row

-- all lines at the step t, from the state words before it
unfoldable pub step_from : (program : Bool) → (C : List Line) (I : List ℕ) (t : ℕ) (before : List ℕ) → Frame
step_from program C I t before = step program false C (entered program C t before (free_at program C I t)) (inputs_at program C I t)

-- the state words before the step t of a run that starts from σ: these, and then those that the last step left
unfoldable pub words_before : (program : Bool) → (C : List Line) (I σ : List ℕ) (t : ℕ) → List ℕ
words_before program C I σ zero = σ
words_before program C I σ (suc t) = (step_from program C I t (words_before program C I σ t)).sts

-- k steps of it: the signals of the steps 0 to k - 1
unfoldable pub steps : (program : Bool) → (C : List Line) (k : ℕ) (σ I : List ℕ) → List (List Signal)
steps program C k σ I = map (λ (t : ℕ). (step_from program C I t (words_before program C I σ t)).sigs) (from 0 k)

unfoldable pub run : (program : Bool) → (C : List Line) (k : ℕ) (S I : List ℕ) → List (List Signal)
run program C k S I = steps program C k (start program C S I) I

-- the step t of a run: the values of all lines, the signals, and the state words that it leaves
unfoldable pub step_at : (program : Bool) → (C : List Line) (S I : List ℕ) (t : ℕ) → Frame
step_at program C S I t = step_from program C I t (words_before program C I (start program C S I) t)

-- ---- what is seen of a run

abbrev pub bytes_of : List Signal → List ℕ
bytes_of [] = []
bytes_of (signal_byte m v ∷ g) = v ∷ bytes_of g

-- the signal bytes of all steps
abbrev pub bytes : List (List Signal) → List ℕ
bytes [] = []
bytes (g ∷ gs) = bytes_of g ++ bytes gs

-- the constraints of a step are met
abbrev pub met : List Signal → Bool
met [] = true
met (signal_byte true v ∷ g) = met g
met (signal_byte false v ∷ g) = eqb v 1 && met g

-- the place, from n, of the first bad line whose byte is 1, or 0
abbrev pub bad_at : (n : ℕ) → List Signal → ℕ
bad_at n [] = 0
bad_at n (signal_byte true v ∷ g) = elim (eqb v 1) [ true ↦ n | false ↦ bad_at (suc n) g ]
bad_at n (signal_byte false v ∷ g) = bad_at n g

abbrev pub counted : (step place : ℕ) → FirstBad
counted t n = record { step = t; place = n }

-- at the step t, where all constraints are met so far: the bad at the place n of this step, or what the later steps give where it has none
abbrev pub bad_or : (t n : ℕ) (later : Option FirstBad) → Option FirstBad
bad_or t zero later = later
bad_or t (suc n) later = Some (counted t (suc n))

-- The first step from t on, and in it the first bad line, whose byte is 1 while all constraint bytes up to and including that step are 1.
abbrev pub first_bad : (t : ℕ) → List (List Signal) → Option FirstBad
first_bad t [] = None
first_bad t (g ∷ gs) = elim (met g) [ false ↦ None | true ↦ bad_or t (bad_at 1 g) (first_bad (suc t) gs) ]
