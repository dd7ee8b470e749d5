-- The outcome of flattening is built from its answer and what it leaves, and both are found in it. Assumes nothing.
use Rattle.std.specs.Prelude.{Result}
use Rattle.tables.specs.declared.Refusal.{Refusal}
use Prim.Native.Nat.{ℕ}
use mathlib.Core.Path.{◌≡◌, ap}
use mathlib.Core.List.{List, [], ◌∷◌}
use lib.ListN.{get_or}
use Rattle.tables.specs.Answers.{told}
use Rattle.tables.proofs.Outcomes.{told_as, told_answer, told_left}
use Rattle.flattening.specs.Answers.{flattened, flat_left, flattens}

module _ (t : List ℕ) (n len : ℕ) where
  pub flattens_as : {r : Result ℕ Refusal} {x : List ℕ} → r ≡ flattened t n len → x ≡ flat_left t n len → told r (x ∷ []) ≡ flattens t n len
  unfolding flattens
  flattens_as e f = told_as e (ap (λ (y : List ℕ). y ∷ []) f)

  pub flattens_answer : (r : Result ℕ Refusal) (x : List ℕ) → told r (x ∷ []) ≡ flattens t n len → r ≡ flattened t n len
  unfolding flattens
  flattens_answer r x e = told_answer r (flattened t n len) (x ∷ []) (flat_left t n len ∷ []) e

  pub flattens_left : (r : Result ℕ Refusal) (x : List ℕ) → told r (x ∷ []) ≡ flattens t n len → x ≡ flat_left t n len
  unfolding flattens
  flattens_left r x e = ap (λ (l : List (List ℕ)). get_or l 0 []) (told_left r (flattened t n len) (x ∷ []) (flat_left t n len ∷ []) e)
