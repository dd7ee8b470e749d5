-- A test that is computed for every number below n holds at each of them, and one that is computed for n numbers from i on. Assumes nothing.
use Prim.Native.Nat.{ℕ, zero, suc, ◌+◌, ◌-◌, ◌≤◌, ◌<◌}
use mathlib.Core.Path.{◌≡◌, refl, sym, subst}
use mathlib.Core.Bool.{Bool, true, false, ◌&&◌}
use native.Mathlib.Omega.{arith}
use lib.Dec.{T, eqb}
use mir.Facts.{and_yes}
use borrow.Author.Tests.{eqb-true, eqb-false}
use Rattle.tables.proofs.Laws.{true_of}

module _ (f : ℕ → Bool) where
  abbrev pub every : ℕ → Bool
  every zero = true
  every (suc n) = f n && every n

  pub at_each : (n : ℕ) → T (every n) → (k : ℕ) → k < n → T (f k)
  at_each zero t k h = absurd (omega arith)
  at_each (suc n) t k h = go (eqb k n) refl (λ l. at_each n (and_yes (f n) (every n) t).1 k l)
    where
      go : (q : Bool) → eqb k n ≡ q → (k < n → T (f k)) → T (f k)
      go true e r = subst (λ (x : ℕ). T (f x)) (sym (eqb-true k n e)) (and_yes (f n) (every n) t).0
      go false e r = let p : (k ≡ n → ⊥) = eqb-false k n e in r (omega arith)

-- and of each from i on
pub from_to : (f : ℕ → Bool) (i n k : ℕ) → ((m : ℕ) → m < n → T (f (m + i))) → i ≤ k → k < n + i → f k ≡ true
from_to f i n k g h l =
    let m : ℕ = k - i in
    let q : m + i ≡ k = omega arith in
    true_of (f k) (subst (λ (x : ℕ). T (f x)) q (g m (omega arith)))
