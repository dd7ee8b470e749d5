-- The first refusal that holds. Assumes nothing.
use Prim.Native.Nat.{ℕ}
use mathlib.Core.Path.{◌≡◌, refl, sym, ◌∙◌}
use mathlib.Core.Bool.{Bool, true, false}
use mathlib.Core.List.{List, [], ◌∷◌, ◌++◌}
use native.Mathlib.Omega.{arith}
use Rattle.tables.specs.declared.Refusal.{Refusal}
use Rattle.texts.specs.Reading.{Reply, no, got, lowest}
use Rattle.texts.specs.Model.Stages.{stopped}

module _ (r : Refusal) (b : Bool) (xs : List (Refusal × Bool)) (y : Reply) where
  pub holds : b ≡ true → lowest ((r, b) ∷ xs) y ≡ no r
  unfolding lowest
  holds h = rw (h, lowest) refl

  pub passes : b ≡ false → lowest ((r, b) ∷ xs) y ≡ lowest xs y
  unfolding lowest
  passes h = rw (h, lowest) refl

-- none of them holds
abbrev pub NoneHolds : List (Refusal × Bool) → Type 0
NoneHolds [] = Unit {0}
NoneHolds (x ∷ xs) = (x.1 ≡ false) × NoneHolds xs

pub none_holds : (xs : List (Refusal × Bool)) (y : Reply) → NoneHolds xs → lowest xs y ≡ y
unfolding lowest
none_holds [] y h = refl
none_holds (x ∷ xs) y h = passes x.0 x.1 xs y h.0 ∙ none_holds xs y h.1

-- a record is given only then
pub got_none : (xs : List (Refusal × Bool)) (y : Reply) (r : List ℕ) (s : List Bool) → lowest xs y ≡ got r s → NoneHolds xs × (y ≡ got r s)
unfolding lowest
got_none [] y r s e = (tt, e)
got_none (x ∷ xs) y r s e = go x.1 refl (got_none xs y r s)
  where
    go : (b : Bool) → x.1 ≡ b → (lowest xs y ≡ got r s → NoneHolds xs × (y ≡ got r s)) → NoneHolds (x ∷ xs) × (y ≡ got r s)
    go true h f = let z : no x.0 ≡ got r s = sym (holds x.0 x.1 xs y h) ∙ e in let w : ◌≡◌ {A = ℕ} 0 1 = cc in absurd (omega arith)
    go false h f = let g = f (sym (passes x.0 x.1 xs y h) ∙ e) in ((h, g.0), g.1)

-- 22 and 4 again, last of all
pub stopped_last : (q : Refusal) (test : List Bool → Bool) (xs : List (Refusal × Bool)) (rec : List ℕ) (s : List Bool)
    → stopped q test (lowest xs (got rec s)) ≡ lowest (xs ++ ((q, test s) ∷ [])) (got rec s)
unfolding lowest stopped
stopped_last q test [] rec s = refl
stopped_last q test (x ∷ xs) rec s = go x.1 refl (stopped_last q test xs rec s)
  where
    later : List (Refusal × Bool)
    later = xs ++ ((q, test s) ∷ [])

    go : (b : Bool) → x.1 ≡ b → stopped q test (lowest xs (got rec s)) ≡ lowest later (got rec s) → stopped q test (lowest (x ∷ xs) (got rec s)) ≡ lowest (x ∷ later) (got rec s)
    go true e f = rw (e, lowest) refl
    go false e f = rw (e, lowest) f
