-- Two tables of n rows, row i the first: where they are equal, which antt finds by computing both, they are equal at each row. Assumes nothing.
use Prim.Native.Nat.{ℕ, zero, suc, ◌+◌, ◌-◌, ◌≤◌, ◌<◌}
use mathlib.Core.Path.{◌≡◌, sym, ap, subst, ◌∙◌}
use mathlib.Core.List.{List, [], ◌∷◌}
use native.Mathlib.Nat.{add-zero, le_of_suc-le-suc, not-suc-le-zero}
use native.Mathlib.Omega.{arith}
use lib.ListN.{get_or, drop}

abbrev pub table : {A : Type 0} → (ℕ → A) → ℕ → ℕ → List A
table r i zero = []
table r i (suc n) = r i ∷ table r (suc i) n

module _ {A : Type 0} (f g : ℕ → A) where
  go : (n i : ℕ) → table f i n ≡ table g i n → (j : ℕ) → j < n → (k : ℕ) → i + j ≡ k → f k ≡ g k
  go zero i e j h k p = absurd (not-suc-le-zero h)
  go (suc n) i e zero h k p = subst (λ (m : ℕ). f m ≡ g m) (sym (add-zero i) ∙ p) (ap (λ (l : List A). get_or l 0 (f i)) e)
  go (suc n) i e (suc j) h k p = go n (suc i) (ap (λ (l : List A). drop 1 l) e) j (le_of_suc-le-suc h) k (omega arith)

  pub at : (n i : ℕ) → table f i n ≡ table g i n → (k : ℕ) → i ≤ k → k < i + n → f k ≡ g k
  at n i e k h l = go n i e (k - i) (omega arith) k (omega arith)
