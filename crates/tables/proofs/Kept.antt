-- What it takes for a record to keep the rules. Assumes nothing.
use Prim.Native.Nat.{ℕ, zero, suc, ◌≤◌}
use mathlib.Core.Path.{◌≡◌, refl, sym, subst}
use mathlib.Core.Bool.{Bool, true, false, ◌&&◌, ◌||◌}
use mathlib.Core.List.{List, [], ◌∷◌}
use native.Mathlib.Omega.{arith}
use lib.Dec.{eqb}
use lib.ListN.{get_or}
use borrow.Author.Tests.{eqb-true}
use Rattle.tables.specs.declared.Ty.{Ty}
use Rattle.tables.specs.Pick.{all, inside}
use Rattle.tables.specs.Kinds.{row_of}
use Rattle.tables.specs.Lines.{kind_in}
use Rattle.tables.specs.Rules.{fault}
use Rattle.tables.specs.Tables.{known, tidy, formed, keeps}
use Rattle.tables.proofs.Shapes.{range}

pub no_yes : ◌≡◌ {A = Bool} false true → ⊥
no_yes z = let q : ◌≡◌ {A = ℕ} 0 1 = cc in omega arith

-- the parts of a conjunction
pub both : (a b : Bool) → (a && b) ≡ true → (a ≡ true) × (b ≡ true)
both true b e = (refl, e)
both false b e = absurd (no_yes e)

-- each test of a list that holds
pub all_at : (bs : List Bool) → all bs ≡ true → (j : ℕ) → get_or bs j true ≡ true
all_at [] h j = refl
all_at (b ∷ bs) h zero = (both b _ h).0
all_at (b ∷ bs) h (suc j) = all_at bs (both b _ h).1 j

pub either : (a b : Bool) {P : Type 0} → (a || b) ≡ true → (a ≡ true → P) → (b ≡ true → P) → P
either true b e f g = f refl
either false b e f g = g e

pub neither : (a b : Bool) → (a || b) ≡ false → (a ≡ false) × (b ≡ false)
neither true b e = absurd (no_yes (sym e))
neither false b e = (refl, e)

-- a kind that is known has a row
pub known_range : (p : Bool) (k : ℕ) → known p k ≡ true → (1 ≤ k) × (k ≤ 63)
known_range false k e =
    either (inside 1 55 k) (inside 57 63 k) e (λ q. let h = range 1 55 k q in (h.0, omega arith)) (λ q. let h = range 57 63 k q in (omega arith, h.1))
known_range true k e =
    either (inside 3 53 k) (inside 56 63 k) e (λ q. let h = range 3 53 k q in (omega arith, omega arith)) (λ q. let h = range 56 63 k q in (omega arith, h.1))

-- a circuit has no mask
pub no_mask : (k : ℕ) → known false k ≡ true → k ≡ 56 → ⊥
no_mask k e q = no_yes (subst (λ (m : ℕ). known false m ≡ true) q e)

module _ (p : Bool) (L : ℕ → Ty) (G : Bool → ℕ → Bool) (r row : List ℕ) where
  pub breaks_kind : known p (kind_in r) ≡ false → false ≡ keeps p L G r
  breaks_kind e = rw e

  pub breaks_place : known p (kind_in r) ≡ true → row ≡ row_of (kind_in r) → all (tidy row r) ≡ false → false ≡ keeps p L G r
  breaks_place e q f = let g : all (tidy (row_of (kind_in r)) r) ≡ false = subst (λ (x : List ℕ). all (tidy x r) ≡ false) q f in rw (e, g)

  pub by_fault : known p (kind_in r) ≡ true → row ≡ row_of (kind_in r) → all (tidy row r) ≡ true → {m : ℕ} → m ≡ fault p L G r → eqb m 0 ≡ keeps p L G r
  by_fault e q f h = let g : all (tidy (row_of (kind_in r)) r) ≡ true = subst (λ (x : List ℕ). all (tidy x r) ≡ true) q f in rw (e, g, h) refl

pub kept_fault : (p : Bool) (L : ℕ → Ty) (G : Bool → ℕ → Bool) (r : List ℕ) → keeps p L G r ≡ true → fault p L G r ≡ 0
kept_fault p L G r e = eqb-true (fault p L G r) 0 (both (formed p r) _ e).1
