-- A state is noted as having an init or a next exactly where one of the lines is an init or a next of it. Assumes nothing.
use Prim.Native.Nat.{ℕ, zero, suc}
use mathlib.Core.Path.{◌≡◌, refl, sym, ap, ◌∙◌, subst}
use mathlib.Core.Logic.{◌↔◌, ◌⊎◌, inl, inr}
use mathlib.Core.Bool.{Bool, true, false, false≢true}
use mathlib.Core.List.{List, [], ◌∷◌}
use native.Mathlib.Omega.{arith}
use lib.Dec.{eqb}
use borrow.Author.Tests.{eqb-true}
use Rattle.tables.specs.Pick.{among}
use Rattle.tables.specs.Lines.{Line}
use Rattle.tables.specs.Types.{Ctx, given_by, given, grow, grow_all, no_ctx}
use Rattle.tables.specs.Cone.{line_numbered, HasInitOrNext}
use Rattle.tables.proofs.Laws.{or_true, or_false}
use Rattle.tables.proofs.Kept.{either}
use Rattle.tables.proofs.GivenStates.{gives_to, given_more, given_once}

module _ (p m : Bool) (q : ℕ) where
  gives_line : (l : Line) → among q (gives_to m l) ≡ true → HasInitOrNext (l ∷ []) m q
  gives_line l h = go m l h
    where
      is_next_lem : (n : Bool) (s x v : ℕ) → among q (x ∷ []) ≡ true → HasInitOrNext (Line.init_or_next n s x v ∷ []) n q
      is_next_lem n s x v h = record { line = 1; sort = s; value = v; is = ap (λ (y : ℕ). Line.init_or_next n s y v) (sym (eqb-true q x (sym (or_false (eqb q x)) ∙ h))) }

      go : (n : Bool) (l : Line) → among q (gives_to n l) ≡ true → HasInitOrNext (l ∷ []) n q
      go n (Line.bitvec w) h = absurd (false≢true h)
      go n (Line.array i el) h = absurd (false≢true h)
      go n (Line.input s) h = absurd (false≢true h)
      go n (Line.state s) h = absurd (false≢true h)
      go n (Line.value s x) h = absurd (false≢true h)
      go true (Line.init_or_next true s x v) h = is_next_lem true s x v h
      go true (Line.init_or_next false s x v) h = absurd (false≢true h)
      go false (Line.init_or_next true s x v) h = absurd (false≢true h)
      go false (Line.init_or_next false s x v) h = is_next_lem false s x v h
      go n (Line.signal k a) h = absurd (false≢true h)
      go n (Line.output a) h = absurd (false≢true h)
      go n Line.unknown h = absurd (false≢true h)

  -- it was so before, or by this line
  by_line : (c : Ctx) (l : Line) → given (grow p c l) m q ≡ true → (given c m q ≡ true) ⊎ HasInitOrNext (l ∷ []) m q
  by_line c l e = either (given c m q) (among q (gives_to m l)) (sym (given_more p m c l q) ∙ e) inl (λ k. inr (gives_line l k))

  -- and is so after it
  kept : (c : Ctx) (l : Line) → given c m q ≡ true → given (grow p c l) m q ≡ true
  kept c l e = given_more p m c l q ∙ rw e

  all_kept : (c : Ctx) (ls : List Line) → given c m q ≡ true → given (grow_all p c ls) m q ≡ true
  all_kept c [] e = e
  all_kept c (l ∷ ls) e = all_kept (grow p c l) ls (kept c l e)

  own : (c : Ctx) (s v : ℕ) → given (grow p c (Line.init_or_next m s q v)) m q ≡ true
  own c s v = given_more p m c (Line.init_or_next m s q v) q ∙ rw (given_once m q _ refl, or_true)

  -- line 0 is none
  no_line : {s x v : ℕ} {n : Bool} → Line.unknown ≡ Line.init_or_next n s x v → ⊥
  no_line e = let z : ◌≡◌ {A = ℕ} 0 1 = cc in omega arith

  -- one line more before the others
  later : (l : Line) (ls : List Line) → HasInitOrNext ls m q → HasInitOrNext (l ∷ ls) m q
  later l ls h = record { line = suc h.line; sort = h.sort; value = h.value; is = go h.line h.is }
    where
      go : (n : ℕ) → line_numbered ls n ≡ Line.init_or_next m h.sort q h.value → line_numbered (l ∷ ls) (suc n) ≡ Line.init_or_next m h.sort q h.value
      go zero e = absurd (no_line e)
      go (suc n) e = e

  first : (l : Line) (ls : List Line) → HasInitOrNext (l ∷ []) m q → HasInitOrNext (l ∷ ls) m q
  first l ls h = record { line = 1; sort = h.sort; value = h.value; is = go h.line h.is }
    where
      go : (n : ℕ) → line_numbered (l ∷ []) n ≡ Line.init_or_next m h.sort q h.value → l ≡ Line.init_or_next m h.sort q h.value
      go zero e = absurd (no_line e)
      go (suc zero) e = e
      go (suc (suc n)) e = absurd (no_line e)

  has_line : (c : Ctx) (ls : List Line) → given (grow_all p c ls) m q ≡ true → (given c m q ≡ true) ⊎ HasInitOrNext ls m q
  has_line c [] e = inl e
  has_line c (l ∷ ls) e = go (has_line (grow p c l) ls e)
    where
      once : (given c m q ≡ true) ⊎ HasInitOrNext (l ∷ []) m q → (given c m q ≡ true) ⊎ HasInitOrNext (l ∷ ls) m q
      once (inl h) = inl h
      once (inr h) = inr (first l ls h)

      go : (given (grow p c l) m q ≡ true) ⊎ HasInitOrNext ls m q → (given c m q ≡ true) ⊎ HasInitOrNext (l ∷ ls) m q
      go (inl h) = once (by_line c l h)
      go (inr h) = inr (later l ls h)

  line_given : (c : Ctx) (ls : List Line) (n : ℕ) {s v : ℕ} → line_numbered ls n ≡ Line.init_or_next m s q v → given (grow_all p c ls) m q ≡ true
  line_given c ls zero e = absurd (no_line e)
  line_given c [] (suc n) e = absurd (no_line e)
  line_given c (l ∷ ls) (suc zero) {s} {v} e = all_kept (grow p c l) ls (subst (λ (x : Line). given (grow p c x) m q ≡ true) (sym e) (own c s v))
  line_given c (l ∷ ls) (suc (suc n)) e = line_given (grow p c l) ls (suc n) e

  pub given_line : (C : List Line) → (given (grow_all p no_ctx C) m q ≡ true) ↔ HasInitOrNext C m q
  given_line C = (λ e. go (has_line no_ctx C e), λ h. line_given no_ctx C h.line h.is)
    where
      none : (n : Bool) → among q (given_by n no_ctx) ≡ true → ⊥
      none true e = false≢true e
      none false e = false≢true e

      go : (given no_ctx m q ≡ true) ⊎ HasInitOrNext C m q → HasInitOrNext C m q
      go (inl e) = absurd (none m e)
      go (inr h) = h
