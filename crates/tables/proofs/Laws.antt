-- Laws of tests. Assumes nothing.
use Prim.Native.Nat.{ℕ, zero, suc, ◌+◌, ◌*◌, ◌/◌, ◌%◌, ◌<◌, ◌≤◌}
use mathlib.Core.Path.{◌≡◌, refl, sym, subst}
use mathlib.Core.List.{List, [], ◌∷◌}
use lib.ListN.{length, get_or}
use mathlib.Core.Bool.{Bool, true, false, not, ◌&&◌, ◌||◌}
use native.Mathlib.Nat.{div-eq_of_lt, mod-lt, div-add-mod'}
use native.Mathlib.Omega.{arith}
use lib.Arith.{lt_of_le-ne}
use lib.Dec.{T, eqb, ltb}
use borrow.Author.Tests.{eq-eqb, ne_eqb, ltb-true, ltb-false}
use Rattle.tables.specs.Pick.{pick}

-- what holds of both choices holds of the one that is picked
pub by_pick : {A : Type 0} (P : A → Type 0) (b : Bool) {x y : A} → (b ≡ true → P x) → (b ≡ false → P y) → P (pick b x y)
by_pick P true f g = f refl
by_pick P false f g = g refl

-- a test that is computed
pub true_of : (b : Bool) → T b → b ≡ true
true_of true t = refl
true_of false t = absurd t

pub and_true : (b : Bool) → (b && true) ≡ b
and_true true = refl
and_true false = refl

pub and_false : (b : Bool) → (b && false) ≡ false
and_false true = refl
and_false false = refl

pub or_true : (b : Bool) → (b || true) ≡ true
or_true true = refl
or_true false = refl

pub or_false : (b : Bool) → (b || false) ≡ b
or_false true = refl
or_false false = refl

pub or_assoc : (a b c : Bool) → (a || (b || c)) ≡ ((a || b) || c)
or_assoc true b c = refl
or_assoc false b c = refl

pub not_of_lem : (b : Bool) → T (not b) → b ≡ false
not_of_lem true t = absurd t
not_of_lem false t = refl

-- what is left of v is nothing just where v is below m
pub shifted_out : (v m : ℕ) → 0 < m → eqb (v / m) 0 ≡ ltb v m
shifted_out v m h = go (ltb v m) refl
  where
    empty : v / m ≡ 0 → v < m
    empty e = let q : v / m * m + v % m ≡ v = div-add-mod' v m in let r : v % m < m = mod-lt v h in omega (arith, subst (λ (n : ℕ). n * m + v % m ≡ v) e q)

    go : (b : Bool) → ltb v m ≡ b → eqb (v / m) 0 ≡ b
    go true e = eq-eqb (v / m) 0 (div-eq_of_lt (ltb-true v m e))
    go false e = ne_eqb (v / m) 0 (λ z. omega (arith, ltb-false v m e, empty z))

-- past one number more
pub past : {n k : ℕ} → n ≤ k → (k ≡ n → ⊥) → suc n ≤ k
past h f = lt_of_le-ne h (λ e. f (sym e))

pub within : {n k : ℕ} → k < suc n → k ≤ n
within h = omega arith

-- an entry that is there is the same whatever stands for none
pub get_or_in : {A : Type 0} (xs : List A) (n : ℕ) (d e : A) → n < length xs → get_or xs n d ≡ get_or xs n e
get_or_in [] n d e h = absurd (omega arith)
get_or_in (x ∷ xs) zero d e h = refl
get_or_in (x ∷ xs) (suc n) d e h = get_or_in xs n d e (omega arith)
