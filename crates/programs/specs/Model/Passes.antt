-- The passes over a table: the lists and the target that they are given, and what they leave. Assumes nothing.
use Rattle.tables.specs.declared.Refusal.{Refusal}
use Rattle.std.specs.Prelude.{ℕ, ◌-◌, ◌≤◌, ◌<◌, ◌≡◌, Bool, true, false, List, [], ◌∷◌, map, eqb, length, replicate, Result, Ok}
use Rattle.tables.specs.Pick.{pick}
use Rattle.tables.specs.Lines.{Line, words_of}
use Rattle.tables.specs.Layout.{held, lines_of, recorded, filled}
use Rattle.tables.specs.Tables.{checked}
use Rattle.tables.specs.Answers.{Outcome, told, fitting, left_by}
use Rattle.programs.specs.declared.Known.{Known}
use Rattle.programs.specs.Uses.{has_needing_use}
use Rattle.programs.specs.Translation.{none_known}
use Rattle.programs.specs.Answers.{program_of}
use Rattle.programs.specs.Model.Kinds.{mark_at}
use Rattle.programs.specs.Model.Records.{mask_record}

-- the marks are at the lines that have a needing use
pub record Needing (F : List Line) (ms : List Bool) : Type 0 where
  pub size : length ms ≡ 16385
  pub at : (i : ℕ) → i < 16385 → mark_at ms i ≡ has_needing_use F i

-- a list that knows nothing of any line, with more entries than there are lines
pub record Zeroed (n : ℕ) (K : List Known) : Type 0 where
  pub wide : n < length K
  pub none : K ≡ replicate (length K) none_known

-- a target with the e instructions of a line in it: the instruction i, of width w, at the number b, and its mask
abbrev pub emitted_to : (e : ℕ) (i : List ℕ) (w b : ℕ) → List ℕ → List ℕ
emitted_to e i w b t = pick (eqb e 0) t (pick (eqb e 2) (recorded true (recorded true t (b - 1) i) b (mask_record w b)) (recorded true t (b - 1) i))

-- the table is accepted, and the marks are those of its lines
pub record Prepared (t : List ℕ) (n : ℕ) (ms : List Bool) : Type 0 where
  pub accepted : checked false t n ≡ Ok tt
  pub needing : Needing (lines_of false t n) ms

-- and the target is zero and holds as many records as the program has
pub record Fitted (t : List ℕ) (n : ℕ) (ms : List Bool) (target : List ℕ) : Type 0 where
  pub prepared : Prepared t n ms
  pub blank : target ≡ replicate (length target) 0
  pub fits : length (program_of t n) ≤ held true (length target)

-- a list of len words that holds the program
abbrev pub program_in : (t : List ℕ) (n len : ℕ) → List ℕ
program_in t n len = filled true len (map words_of (program_of t n))

-- the outcome where a is answered
abbrev pub outcome_for : Result ℕ Refusal → (t : List ℕ) (n len : ℕ) → Outcome
outcome_for a t n len = told a (left_by a len (filled true len (map words_of (program_of t n))) ∷ [])

-- and where only the target's room is in question
abbrev pub makes : (t : List ℕ) (n len : ℕ) → Outcome
makes t n len = outcome_for (fitting true (length (program_of t n)) len) t n len
