-- What a run answers and leaves: 1, 11 (20 for a program), 13, 14, 15, 16, 17, the first that holds; else the first counted bad. `program` says that the table t, of which
-- n records count, is a program's, else it is a circuit's. The run takes k steps from the start words S with the inputs I; g signal bytes and w words of work area are lent.
-- Assumes nothing.
use Rattle.tables.specs.declared.Refusal.{Refusal}
use Rattle.std.specs.Prelude.{ℕ, ◌+◌, ◌*◌, Bool, List, [], ◌∷◌, leb, eqb, length, replicate, Result, Ok, Err, Option, None, Some}
use Rattle.tables.specs.declared.Refusal.TheVariants.{TooManySteps, StartWords, InputWords, SignalBytes, WorkArea}
use Rattle.tables.specs.Pick.{pick}
use Rattle.tables.specs.Layout.{lines_of}
use Rattle.tables.specs.Tables.{checked}
use Rattle.tables.specs.Refusals.{number_of}
use Rattle.tables.specs.Answers.{Outcome, outcome}
use Rattle.circuits.specs.declared.FirstBad.{FirstBad}
use Rattle.circuits.specs.Layout.{Counts, layout}
use Rattle.circuits.specs.Run.{row_length, run, bytes, first_bad}

-- the tests after the table's, where s start words, i input words, g signal bytes and w words of work area are lent for k steps, each with a row of so many words
abbrev pub lent : Counts → (row k s i g w : ℕ) → Result (Unit {0}) Refusal
lent c row k s i g w =
    pick (leb k 4096) (
    pick (eqb s c.states) (
    pick (eqb i (k * row)) (
    pick (eqb g (k * c.signals)) (
    pick (leb (c.cells + c.states) w) (Ok tt)
    (Err WorkArea)) (Err SignalBytes)) (Err InputWords)) (Err StartWords)) (Err TooManySteps)

abbrev pub and_then : Result (Unit {0}) Refusal → Result (Unit {0}) Refusal → Result (Unit {0}) Refusal
and_then (Ok _) d = d
and_then (Err r) d = Err r

-- may a run start
unfoldable pub ready : (program : Bool) (t : List ℕ) (n k : ℕ) (S I : List ℕ) (g w : ℕ) → Result (Unit {0}) Refusal
ready program t n k S I g w = and_then (checked program t n) (lent (layout program (lines_of program t n)).counts (row_length program (lines_of program t n)) k (length S) (length I) g w)

abbrev pub answer_of : Result (Unit {0}) Refusal → Option FirstBad → Result (Option FirstBad) Refusal
answer_of (Ok _) b = Ok b
answer_of (Err r) b = Err r

abbrev pub left_of : Result (Unit {0}) Refusal → ℕ → List ℕ → List ℕ
left_of (Ok _) g x = x
left_of (Err r) g x = replicate g 0

-- what a run answers, and the signal bytes that it leaves; the work area is zero after any call
unfoldable pub ran : (program : Bool) (t : List ℕ) (n k : ℕ) (S I : List ℕ) (g w : ℕ) → Result (Option FirstBad) Refusal
ran program t n k S I g w = answer_of (ready program t n k S I g w) (first_bad 0 (run program (lines_of program t n) k S I))

unfoldable pub signals_left : (program : Bool) (t : List ℕ) (n k : ℕ) (S I : List ℕ) (g w : ℕ) → List ℕ
signals_left program t n k S I g w = left_of (ready program t n k S I g w) g (bytes (run program (lines_of program t n) k S I))

-- the request's number and values for what a run answers: 1, the step and the place of the first counted bad, or zeros
abbrev pub told_run : Result (Option FirstBad) Refusal → (left : List (List ℕ)) → Outcome
told_run (Ok None) left = outcome 0 0 0 0 left
told_run (Ok (Some b)) left = outcome 0 1 b.step b.place left
told_run (Err r) left = outcome (number_of r) 0 0 0 left

-- the outcome of a run
unfoldable pub runs : (program : Bool) (t : List ℕ) (n k : ℕ) (S I : List ℕ) (g w : ℕ) → Outcome
runs program t n k S I g w = told_run (ran program t n k S I g w) (signals_left program t n k S I g w ∷ replicate w 0 ∷ [])
