-- The comparison: what the three runs are given, and what is claimed of them. Every name here is one that a contract cites: `flattened` and what flattening leaves,
-- `translated` and what translating leaves, `ready`, `ran` and `signals_left` of the runs. Assumes nothing.
use Rattle.tables.specs.declared.Refusal.{Refusal}
use Rattle.std.specs.Prelude.{ℕ, ◌+◌, ◌*◌, ◌^◌, ◌≤◌, ◌<◌, ◌≡◌, Bool, true, false, List, [], ◌∷◌, length, Result, Ok, Option}
use Rattle.tables.specs.Layout.{lines_of}
use Rattle.circuits.specs.declared.FirstBad.{FirstBad}
use Rattle.circuits.specs.Layout.{Counts, layout}
use Rattle.circuits.specs.Run.{row_length}
use Rattle.circuits.specs.Answers.{ready, ran, signals_left}
use Rattle.flattening.specs.Answers.{flattened, flat_left}
use Rattle.programs.specs.Answers.{translated, program_left}

-- ---- what is given

-- a list with its count
pub record Table : Type 0 where
  pub words : List ℕ
  pub count : ℕ

-- what all three runs are lent as it stands: the steps k, the start words S, the inputs I, and so many signal bytes
pub record Lent : Type 0 where
  pub steps : ℕ
  pub starts : List ℕ
  pub inputs : List ℕ
  pub signals : ℕ

-- Three runs: of C; of F, which flattening leaves for C in a target of so many words, with the count that it answers; of P, which translating leaves for F in a target of
-- so many words, with the count that it answers. Each has a work area of its own.
pub record Runs : Type 0 where
  pub circuit : Table
  pub flat_words : ℕ
  pub flat_count : ℕ
  pub program_words : ℕ
  pub program_count : ℕ
  pub lent : Lent
  pub work_c : ℕ
  pub work_f : ℕ
  pub work_p : ℕ

abbrev pub flat_table : Runs → Table
flat_table R = record { words = flat_left R.circuit.words R.circuit.count R.flat_words; count = R.flat_count }

abbrev pub program_table : Runs → Table
program_table R = record { words = program_left (flat_table R).words (flat_table R).count R.program_words; count = R.program_count }

-- ---- one run

-- whether it may start, its first counted bad and its signal bytes: of a circuit (false) or of a program (true), with a work area of w words
abbrev pub starts : Bool → Table → Lent → (w : ℕ) → Result (Unit {0}) Refusal
starts p T L w = ready p T.words T.count L.steps L.starts L.inputs L.signals w

abbrev pub bad : Bool → Table → Lent → (w : ℕ) → Result (Option FirstBad) Refusal
bad p T L w = ran p T.words T.count L.steps L.starts L.inputs L.signals w

abbrev pub signals : Bool → Table → Lent → (w : ℕ) → List ℕ
signals p T L w = signals_left p T.words T.count L.steps L.starts L.inputs L.signals w

-- the counts of a table's lines: cells of value lines, state words, inputs of a row, signals of a step
abbrev pub totals : Bool → Table → Counts
totals p T = (layout p (lines_of p T.words T.count)).counts

-- the words of a row of a table's lines: the inputs, and one for each cell of each free state
abbrev pub row : Bool → Table → ℕ
row p T = row_length p (lines_of p T.words T.count)

-- a work area of w words that 17 lets pass
abbrev pub Roomy : Bool → Table → (w : ℕ) → Type 0
Roomy p T w = (totals p T).cells + (totals p T).states ≤ w

-- every word of a list fits 64 bits, as those of a lent list do
abbrev pub Words : List ℕ → Type 0
Words [] = Unit {0}
Words (x ∷ xs) = (x < 2 ^ 64) × Words xs

-- ---- the claim

-- what is assumed: flattening and translating answered these counts, and the runs are lent what C asks for
pub record Given (R : Runs) : Type 0 where
  pub flat : flattened R.circuit.words R.circuit.count R.flat_words ≡ Ok R.flat_count
  pub program : translated (flat_table R).words (flat_table R).count R.program_words ≡ Ok R.program_count
  pub steps : R.lent.steps ≤ 4096
  pub starts : length R.lent.starts ≡ (totals false R.circuit).states
  pub inputs : length R.lent.inputs ≡ R.lent.steps * row false R.circuit
  pub signals : R.lent.signals ≡ R.lent.steps * (totals false R.circuit).signals
  pub words : Words R.lent.inputs
  pub work_c : Roomy false R.circuit R.work_c
  pub work_f : Roomy false (flat_table R) R.work_f
  pub work_p : Roomy true (program_table R) R.work_p

-- None of the three runs is refused, the three signal lists are equal byte for byte, and the three answers for the first counted bad are the same.
pub record Agree (R : Runs) : Type 0 where
  pub run_c : starts false R.circuit R.lent R.work_c ≡ Ok tt
  pub run_f : starts false (flat_table R) R.lent R.work_f ≡ Ok tt
  pub run_p : starts true (program_table R) R.lent R.work_p ≡ Ok tt
  pub signals_f : signals false (flat_table R) R.lent R.work_f ≡ signals false R.circuit R.lent R.work_c
  pub signals_p : signals true (program_table R) R.lent R.work_p ≡ signals false R.circuit R.lent R.work_c
  pub bad_f : bad false (flat_table R) R.lent R.work_f ≡ bad false R.circuit R.lent R.work_c
  pub bad_p : bad true (program_table R) R.lent R.work_p ≡ bad false R.circuit R.lent R.work_c
