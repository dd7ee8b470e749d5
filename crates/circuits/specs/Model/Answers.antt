-- What a run of an accepted table answers and leaves. Assumes nothing.
use Rattle.std.specs.Prelude.{ℕ, ◌+◌, ◌*◌, ◌≤◌, ◌<◌, ◌≡◌, Bool, List, [], ◌∷◌, length, replicate, Option, Result, Ok}
use Rattle.tables.specs.Lines.{Line}
use Rattle.tables.specs.Layout.{lines_of}
use Rattle.tables.specs.Answers.{Outcome}
use Rattle.circuits.specs.declared.FirstBad.{FirstBad}
use Rattle.tables.specs.declared.Refusal.{Refusal}
use Rattle.circuits.specs.declared.Totals.{Totals}
use Rattle.circuits.specs.Layout.{layout}
use Rattle.circuits.specs.Free.{sources, free_count}
use Rattle.circuits.specs.Run.{row_length, run, bytes, first_bad}
use Rattle.circuits.specs.Answers.{lent, answer_of, left_of, told_run}

-- what the steps of a run are lent, of a table with these totals: so many input words and signal bytes for k steps, at least one
pub record RunAsked (p : Bool) (C : List Line) (t : Totals) (k i g : ℕ) : Type 0 where
  pub free : t.free ≡ free_count (sources p C)
  pub inputs : k * (t.inputs + t.free) ≤ i
  pub signals : g ≡ k * t.signals
  pub some : 0 < k

-- where what is lent lets it start: the first counted bad and the signal bytes of all steps; the work area, of w words, is zero
abbrev pub started : (program : Bool) (C : List Line) (k : ℕ) (S I : List ℕ) (w : ℕ) → Outcome
started p C k S I w = told_run (Ok (first_bad 0 (run p C k S I))) (bytes (run p C k S I) ∷ replicate w 0 ∷ [])

-- where what is lent decides
abbrev pub lent_answer : (program : Bool) (t : List ℕ) (n k : ℕ) (S I : List ℕ) (g w : ℕ) → Result (Option FirstBad) Refusal
lent_answer p t n k S I g w = answer_of (lent (layout p (lines_of p t n)).counts (row_length p (lines_of p t n)) k (length S) (length I) g w) (first_bad 0 (run p (lines_of p t n) k S I))

abbrev pub lent_signals : (program : Bool) (t : List ℕ) (n k : ℕ) (S I : List ℕ) (g w : ℕ) → List ℕ
lent_signals p t n k S I g w = left_of (lent (layout p (lines_of p t n)).counts (row_length p (lines_of p t n)) k (length S) (length I) g w) g (bytes (run p (lines_of p t n) k S I))

abbrev pub lent_runs : (program : Bool) (t : List ℕ) (n k : ℕ) (S I : List ℕ) (g w : ℕ) → Outcome
lent_runs p t n k S I g w = told_run (lent_answer p t n k S I g w) (lent_signals p t n k S I g w ∷ replicate w 0 ∷ [])
