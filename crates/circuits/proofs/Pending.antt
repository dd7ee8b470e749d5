-- Inits that a walk over lines has still to come to: each word of a state that has an init is given by one of the lines. Assumes nothing.
use Prim.Native.Nat.{ℕ, ◌+◌, ◌≤◌, ◌<◌}
use mathlib.Core.Path.{◌≡◌, sym, ap, ◌∙◌, subst}
use mathlib.Core.Logic.{◌⊎◌, inl, inr, ⊎_elim}
use mathlib.Core.Bool.{Bool, true, false}
use mathlib.Core.List.{List, [], ◌∷◌}
use native.Mathlib.Omega.{arith}
use lib.Dec.{eqb}
use lib.ListN.{length}
use borrow.Author.Tests.{eqb-true}
use Rattle.tables.specs.Pick.{among}
use Rattle.tables.specs.Lines.{Line}
use Rattle.tables.specs.Types.{ty_at, given}
use Rattle.tables.proofs.Kept.{no_yes, either}
use Rattle.tables.proofs.Showing.{earlier}
use Rattle.tables.proofs.Facts.{OkLine, AllOk}
use Rattle.circuits.specs.Layout.{Layout, type_at, place_at, size, lay, lay_all}
use Rattle.circuits.proofs.Laid.{Sound, sound_more, later}
use Rattle.tables.proofs.GivenStates.{gives_to, given_more}

-- the word j is one of a state that has an init
pub record Initialised (Y : Layout) (j : ℕ) : Type 0 where
  pub state : ℕ
  pub init : given Y.ctx true state ≡ true
  pub from : place_at Y state ≤ j
  pub to : j < place_at Y state + size (type_at Y state)

-- the line l, after lines laid out as Z, gives the word j
pub record Hits (Z : Layout) (l : Line) (j : ℕ) : Type 0 where
  pub state : ℕ
  pub gives : among state (gives_to true l) ≡ true
  pub from : place_at Z state ≤ j
  pub to : j < place_at Z state + size (type_at Z state)

-- one of the lines D does
abbrev pub Pending : (p : Bool) → Layout → (D : List Line) (j : ℕ) → Type 0
Pending p Z [] j = ⊥
Pending p Z (l ∷ D) j = Hits Z l j ⊎ Pending p (lay p Z l) D j

pub only_one : (q x : ℕ) → among q (x ∷ []) ≡ true → q ≡ x
only_one q x e = eqb-true q x (either (eqb q x) false e (λ a. a) (λ a. absurd (no_yes a)))

-- a state that has an init after all lines, and none yet, has one among them
module _ (p : Bool) (q j : ℕ) where
  -- the state of an init stands among the lines so far
  known : (Z : Layout) (l : Line) → OkLine p (ty_at Z.ctx) (given Z.ctx) l → among q (gives_to true l) ≡ true → q < length Z.ctx.tys
  known Z (Line.bitvec w) ok e = absurd (no_yes e)
  known Z (Line.array i x) ok e = absurd (no_yes e)
  known Z (Line.input s) ok e = absurd (no_yes e)
  known Z (Line.state s) ok e = absurd (no_yes e)
  known Z (Line.value s x) ok e = absurd (no_yes e)
  known Z (Line.init_or_next true s x v) ok e =
      subst (λ (y : ℕ). y < length Z.ctx.tys) (sym (only_one q x e)) (earlier Z.ctx.tys x (omega (arith, ok.state)))
  known Z (Line.init_or_next false s x v) ok e = absurd (no_yes e)
  known Z (Line.signal m a) ok e = absurd (no_yes e)
  known Z (Line.output a) ok e = absurd (no_yes e)
  known Z Line.unknown ok e = absurd (no_yes e)

  pub comes : (Z : Layout) (D : List Line) → Sound Z → AllOk p Z.ctx D → given (lay_all p Z D).ctx true q ≡ true → place_at (lay_all p Z D) q ≤ j
      → j < place_at (lay_all p Z D) q + size (type_at (lay_all p Z D) q) → (given Z.ctx true q ≡ true) ⊎ Pending p Z D j
  comes Z [] S ok e g h = inl e
  comes Z (l ∷ D) S ok e g h =
      ⊎_elim
      (λ a. either (given Z.ctx true q) (among q (gives_to true l)) (sym (given_more p true Z.ctx l q) ∙ a) (λ b. inl b)
      (λ b.
      let m = known Z l ok.0 b in
      let r = later p Z (l ∷ D) in
      let ep = r.place q (omega (arith, S.long)) in
      let et = ap size (r.type q m) in
      inr (inl (record { state = q; gives = b; from = omega arith; to = omega arith }))))
      (λ a. inr (inr a))
      (comes (lay p Z l) D (sound_more p Z l S ok.0) ok.1 e g h)
