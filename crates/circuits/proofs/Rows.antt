-- The first counted bad from a step on, where the constraints of that step are met. Assumes nothing.
use Prim.Native.Nat.{ℕ, suc, ◌+◌, ◌-◌, ◌<◌}
use mathlib.Core.Path.{◌≡◌, sym, ap, ◌∙◌}
use mathlib.Core.Bool.{Bool, true, false}
use mathlib.Core.List.{List, ◌∷◌}
use native.Mathlib.Omega.{arith}
use native.Mathlib.Numerals.{add-one}
use lib.ListN.{length, drop}
use Rattle.std.specs.Prelude.{Option, None}
use Rattle.circuits.specs.declared.FirstBad.{FirstBad}
use Rattle.circuits.specs.Meaning.{Signal}
use Rattle.circuits.specs.Run.{met, bad_at, bad_or, first_bad}
use Rattle.circuits.specs.Model.Signals.{zip_sig, sig_rows}

-- ---- the steps

first_step : (i : ℕ) (g : List Signal) (gs : List (List Signal)) (b : Bool) → met g ≡ b
    → first_bad i (g ∷ gs) ≡ elim b as (λ x. Option FirstBad) [ false ↦ None | true ↦ bad_or i (bad_at 1 g) (first_bad (suc i) gs) ]
first_step i g gs b e = ap (λ (t : Bool). elim t as (λ x. Option FirstBad) [ false ↦ None | true ↦ bad_or i (bad_at 1 g) (first_bad (suc i) gs) ]) e

module _ (bs g : List ℕ) (k i : ℕ) where
  pub step_met : i < k → met (zip_sig bs g) ≡ true
      → first_bad i (sig_rows bs (k - i) g) ≡ bad_or i (bad_at 1 (zip_sig bs g)) (first_bad (i + 1) (sig_rows bs (k - (i + 1)) (drop (length bs) g)))
  step_met h e =
      let u : k - i ≡ suc (k - (i + 1)) = omega arith in
      ap (λ (m : ℕ). first_bad i (sig_rows bs m g)) u ∙ first_step i (zip_sig bs g) (sig_rows bs (k - (i + 1)) (drop (length bs) g)) true e
      ∙ ap (λ (x : ℕ). bad_or i (bad_at 1 (zip_sig bs g)) (first_bad x (sig_rows bs (k - (i + 1)) (drop (length bs) g)))) (sym (add-one i))
