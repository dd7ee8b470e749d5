-- Each line that some line needs clean is one that `has_needing_use` names. Assumes nothing.
use Prim.Native.Nat.{ℕ}
use mathlib.Core.Path.{◌≡◌, refl, ap, ◌∙◌}
use mathlib.Core.Bool.{Bool, true, false, ◌||◌}
use mathlib.Core.List.{List, [], ◌∷◌, ◌++◌}
use lib.Dec.{eqb}
use borrow.Author.Tests.{eq-eqb}
use Rattle.tables.specs.Pick.{among}
use Rattle.tables.specs.Lines.{Line}
use Rattle.tables.proofs.Laws.{or_true}
use Rattle.tables.proofs.Kept.{no_yes}
use Rattle.programs.specs.Uses.{when, needs, has_needing_use}

-- N names all of them
abbrev pub Met : (ℕ → Bool) → List ℕ → Type 0
Met N [] = Unit {0}
Met N (a ∷ r) = (N a ≡ true) × Met N r

abbrev pub MetAll : (ℕ → Bool) → List Line → Type 0
MetAll N [] = Unit {0}
MetAll N (l ∷ ls) = Met N (needs l) × MetAll N ls

pub met_append : (N : ℕ → Bool) (r q : List ℕ) → Met N (r ++ q) → Met N r × Met N q
met_append N [] q m = (tt, m)
met_append N (a ∷ r) q m = let p = met_append N r q m.1 in ((m.0, p.0), p.1)

pub met_when : (N : ℕ → Bool) (t : Bool) (a : ℕ) → Met N (when t a) → t ≡ true → N a ≡ true
met_when N true a m e = m.0
met_when N false a m e = absurd (no_yes e)

module _ (N M : ℕ → Bool) (f : (i : ℕ) → N i ≡ true → M i ≡ true) where
  met_mono : (r : List ℕ) → Met N r → Met M r
  met_mono [] m = tt
  met_mono (a ∷ r) m = (f a m.0, met_mono r m.1)

  met_all_mono : (ls : List Line) → MetAll N ls → MetAll M ls
  met_all_mono [] m = tt
  met_all_mono (l ∷ ls) m = (met_mono (needs l) m.0, met_all_mono ls m.1)

or_left : (a b : Bool) → a ≡ true → (a || b) ≡ true
or_left a b e = ap (λ (t : Bool). t || b) e

or_right : (a b : Bool) → b ≡ true → (a || b) ≡ true
or_right a b e = ap (λ (t : Bool). a || t) e ∙ or_true a

met_self : (r : List ℕ) → Met (λ i. among i r) r
met_self [] = tt
met_self (a ∷ r) = (or_left (eqb a a) (among a r) (eq-eqb a a refl), met_mono (λ i. among i r) (λ i. among i (a ∷ r)) (λ i e. or_right (eqb i a) (among i r) e) r (met_self r))

pub met_needed : (F : List Line) → MetAll (has_needing_use F) F
met_needed [] = tt
met_needed (l ∷ ls) = (
  met_mono (λ i. among i (needs l)) (has_needing_use (l ∷ ls)) (λ i e. or_left (among i (needs l)) (has_needing_use ls i) e) (needs l) (met_self (needs l)),
  met_all_mono (has_needing_use ls) (has_needing_use (l ∷ ls)) (λ i e. or_right (among i (needs l)) (has_needing_use ls i) e) ls (met_needed ls),
)
