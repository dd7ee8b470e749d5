-- Two circuits or programs with as many inputs and the same sources are lent the same rows: a row has the same parts, and a step begins with the same words. Assumes nothing.
use Prim.Native.Nat.{ℕ, zero, suc, ◌+◌, ◌*◌, ◌≤◌}
use mathlib.Core.Path.{◌≡◌, refl, sym, ap, ap₂, fun_ext, ◌∙◌}
use mathlib.Core.Bool.{Bool}
use mathlib.Core.List.{List, map}
use native.Mathlib.Omega.{arith}
use lib.ListN.{length}
use Rattle.tables.specs.Lines.{Line}
use Rattle.tables.specs.Layout.{from}
use Rattle.circuits.specs.Cells.{part}
use Rattle.circuits.specs.Layout.{layout}
use Rattle.circuits.specs.Meaning.{Signal}
use Rattle.circuits.specs.Free.{Source, sources, free_count, fed}
use Rattle.circuits.specs.Run.{input_count, row_length, inputs_at, free_at, entered, run, step_at}
use Rattle.circuits.proofs.Sources.{sources_many, fed_many}
use Rattle.circuits.proofs.Repeated.{run_steps}

module _ (p q : Bool) (C D : List Line) (ins : input_count q D ≡ input_count p C) (same : sources q D ≡ sources p C) where
  pub row_same : row_length q D ≡ row_length p C
  row_same = ap₂ (λ (n : ℕ) (ss : List Source). n + free_count ss) ins same

  pub inputs_same : (I : List ℕ) (t : ℕ) → inputs_at q D I t ≡ inputs_at p C I t
  inputs_same I t = ap₂ (λ (n m : ℕ). part I (t * m) n) ins row_same

  pub entered_same : (I : List ℕ) (t : ℕ) (before : List ℕ) → entered q D t before (free_at q D I t) ≡ entered p C t before (free_at p C I t)
  entered_same I zero before = refl
  entered_same I (suc t) before = ap₂ (λ (n : ℕ) (ss : List Source). fed ss before (part I (suc t * (n + free_count ss) + n) (free_count ss))) ins same

-- a step begins with a word for every state cell where the last one left so many
pub entered_long : (p : Bool) (C : List Line) (t : ℕ) (before row : List ℕ) → (layout p C).counts.states ≤ length before → (layout p C).counts.states ≤ length (entered p C t before row)
entered_long p C zero before row h = h
entered_long p C (suc t) before row h = omega (arith, fed_many (sources p C) before row, sources_many p C)

-- runs are the same where their steps have the same signals
pub run_same : (p q : Bool) (C D : List Line) (k : ℕ) (S I : List ℕ) → ((t : ℕ) → (step_at q D S I t).sigs ≡ (step_at p C S I t).sigs) → run q D k S I ≡ run p C k S I
run_same p q C D k S I e = run_steps q D k S I ∙ ap (λ (g : ℕ → List Signal). map g (from 0 k)) (fun_ext e) ∙ sym (run_steps p C k S I)
