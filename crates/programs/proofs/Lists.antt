-- Lists that grow at the end, side by side. Assumes nothing.
use Prim.Native.Nat.{ℕ, zero, suc, ◌<◌}
use mathlib.Core.Path.{◌≡◌, refl, ap}
use mathlib.Core.List.{List, [], ◌∷◌, ◌++◌}
use native.Mathlib.Omega.{arith}
use lib.ListN.{length, get_or}

module _ {A : Type 0} where
  pub length_snoc : (xs : List A) (x : A) → length (xs ++ (x ∷ [])) ≡ suc (length xs)
  length_snoc [] x = refl
  length_snoc (y ∷ xs) x = ap suc (length_snoc xs x)

  -- what is below the end stays
  pub below_snoc : (xs : List A) (x d : A) (i : ℕ) → i < length xs → get_or (xs ++ (x ∷ [])) i d ≡ get_or xs i d
  below_snoc [] x d i h = absurd (omega arith)
  below_snoc (y ∷ xs) x d zero h = refl
  below_snoc (y ∷ xs) x d (suc i) h = below_snoc xs x d i (omega arith)

-- what holds at each place of three lists, and of the default entries, holds with one entry more if it holds of the new ones
module _ {A B C : Type 0} (a₀ : A) (b₀ : B) (c₀ : C) {a : A} {b : B} {c : C} where
  pub snoc₃ : (Q : ℕ → A → B → C → Type 0) (xs : List A) (ys : List B) (zs : List C) → length ys ≡ length xs → length zs ≡ length xs
      → ((i : ℕ) → Q i (get_or xs i a₀) (get_or ys i b₀) (get_or zs i c₀)) → ((i : ℕ) → Q i a₀ b₀ c₀) → Q (length xs) a b c
      → (i : ℕ) → Q i (get_or (xs ++ (a ∷ [])) i a₀) (get_or (ys ++ (b ∷ [])) i b₀) (get_or (zs ++ (c ∷ [])) i c₀)
  snoc₃ Q [] [] [] e f h d q zero = q
  snoc₃ Q [] [] [] e f h d q (suc i) = d (suc i)
  snoc₃ Q [] [] (z ∷ zs) e f h d q i = absurd (omega arith)
  snoc₃ Q [] (y ∷ ys) zs e f h d q i = absurd (omega arith)
  snoc₃ Q (x ∷ xs) [] zs e f h d q i = absurd (omega arith)
  snoc₃ Q (x ∷ xs) (y ∷ ys) [] e f h d q i = absurd (omega arith)
  snoc₃ Q (x ∷ xs) (y ∷ ys) (z ∷ zs) e f h d q zero = h zero
  snoc₃ Q (x ∷ xs) (y ∷ ys) (z ∷ zs) e f h d q (suc i) = snoc₃ (λ j. Q (suc j)) xs ys zs (omega arith) (omega arith) (λ j. h (suc j)) (λ j. d (suc j)) q i
