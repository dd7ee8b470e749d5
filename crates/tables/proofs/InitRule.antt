-- Rule 10 as the request says it: after accepted lines, an init or a next that neither 8 nor 9 refuses is refused by 10 exactly where its state has one already or, for an init,
-- where the value does not stand below the state or a line of the value's cone is an input or a state. Assumes nothing.
use Prim.Native.Nat.{ℕ, ◌≤◌}
use mathlib.Core.Path.{◌≡◌, refl, sym, ap, ◌∙◌, subst}
use mathlib.Core.Logic.{◌↔◌}
use mathlib.Core.Bool.{Bool, true, false, not, ◌&&◌, true≢false}
use mathlib.Core.List.{List, [], ◌∷◌, map}
use native.Mathlib.Omega.{arith}
use lib.Dec.{ltb}
use borrow.Author.Tests.{ltb-false, le-ltb, leb-true, not-false}
use Rattle.tables.specs.declared.Ty.{Ty}
use Rattle.tables.specs.Pick.{all}
use Rattle.tables.specs.Kinds.{row_of}
use Rattle.tables.specs.Lines.{Line, is_init_or_next, init_or_next_kind, shape_of, fields, line_of, kind_in, sort_in, first_in, second_in, third_in}
use Rattle.tables.specs.Types.{rank, is_sort, is_state, is_value, marked, is_word, sort_at, Ctx, ty_at, given, grow_all, no_ctx, context}
use Rattle.tables.specs.Cone.{itself, under, SourceInCone, HasInitOrNext, BarsInit, second_init, not_below, source_in_cone, RuleTen}
use Rattle.tables.specs.Rules.{suits, classes, fits, once_rules, answer, fault}
use Rattle.tables.proofs.Laws.{and_true, and_false}
use Rattle.tables.proofs.Kept.{both}
use Rattle.tables.proofs.Shapes.{once_as, no_once}
use Rattle.tables.proofs.Facts.{AllOk}
use Rattle.tables.proofs.Sound.{all_sound}
use Rattle.tables.proofs.Marks.{marks_exactly}
use Rattle.tables.proofs.GivenLines.{given_line}

-- ---- the answer is 10 exactly where a test of the last list fails

ten : (x y z : Bool) → (answer x y z ≡ 8 → ⊥) → (answer x y z ≡ 9 → ⊥) → (x ≡ true) × ((answer x y z ≡ 10) ↔ (z ≡ false))
ten true true true f g = (refl, (λ e. absurd (omega arith), λ e. absurd (true≢false e)))
ten true true false f g = (refl, (λ e. refl, λ e. refl))
ten true false z f g = absurd (g refl)
ten false y z f g = absurd (f refl)

-- one of three tests fails
fails : (a b c : Bool) {P : Type 0} → (a && (b && (c && true))) ≡ false → (a ≡ false → P) → (b ≡ false → P) → (c ≡ false → P) → P
fails true true true e f g h = absurd (true≢false e)
fails true true false e f g h = h refl
fails true false c e f g h = g refl
fails false b c e f g h = f refl

-- the answer for the record r after the lines C
abbrev pub fault_after : (p : Bool) (C : List Line) (r : List ℕ) → ℕ
fault_after p C r = fault p (ty_at (context p C)) (given (context p C)) r

module _ (p : Bool) (C : List Line) (ok : AllOk p no_ctx C) (r : List ℕ) where
  abbrev c : Ctx
  c = grow_all p no_ctx C

  -- the three lists of tests, for 8, 9 and 10
  abbrev classed : Bool
  classed = all (classes (row_of (kind_in r)) (sort_at p (ty_at c) (sort_in r)) (ty_at c (first_in r)) (ty_at c (second_in r)) (ty_at c (third_in r)))

  abbrev fitting : Bool
  fitting = all (fits (line_of r) (sort_at p (ty_at c) (sort_in r)) (ty_at c (first_in r)) (ty_at c (second_in r)) (ty_at c (third_in r)))

  abbrev once : Bool
  once = all (once_rules (line_of r) (given c) (ty_at c (second_in r)))

  -- an init's value, and a next's, is a value line
  value_second : (m : Bool) (t a b c : Ty) → all (classes (row_of (init_or_next_kind m)) t a b c) ≡ true → 2 ≤ rank b.role
  unfolding row_of suits
  value_second true t a b c e =
      let h₁ = both (is_sort t) _ e in
      let h₂ = both (is_state a) _ h₁.1 in
      let h₃ = both (is_word b) _ h₂.1 in
      leb-true 2 (rank b.role) (both (is_value b) _ h₃.0).0
  value_second false t a b c e =
      let h₁ = both (is_sort t) _ e in
      let h₂ = both (is_state a) _ h₁.1 in
      leb-true 2 (rank b.role) (both (is_value b) _ h₂.1).0

  once_is : (m : Bool) → kind_in r ≡ init_or_next_kind m → (G : Bool → ℕ → Bool) (b : Ty)
      → all (once_rules (Line.init_or_next m (sort_in r) (first_in r) (second_in r)) G b) ≡ all (once_rules (line_of r) G b)
  once_is true k G b = once_as r (is_init_or_next true) (ap shape_of k) G b refl
  once_is false k G b = once_as r (is_init_or_next false) (ap shape_of k) G b refl

  -- the tests of rule 10, and what they test
  tests : (m : Bool) (s q v : ℕ) → 2 ≤ rank (ty_at c v).role
      → (all (once_rules (Line.init_or_next m s q v) (given c) (ty_at c v)) ≡ false) ↔ RuleTen m C q v
  unfolding context
  tests true s q v t = (
    λ e. fails (not (given c true q)) (ltb v q) (not (marked (ty_at c v))) e
        (λ h. second_init ((given_line p true q C).0 (not-false (given c true q) h)))
        (λ h. not_below (ltb-false v q h))
        (λ h. source_in_cone (marks.0 (not-false (marked (ty_at c v)) h))),
    refuses,
  )
    where
      marks : (marked (ty_at c v) ≡ true) ↔ SourceInCone C v
      marks = marks_exactly p C ok v t

      refuses : BarsInit C q v → all (once_rules (Line.init_or_next true s q v) (given c) (ty_at c v)) ≡ false
      refuses (second_init h) = rw ((given_line p true q C).1 h)
      refuses (not_below h) = rw (le-ltb v q h, and_false)
      refuses (source_in_cone S) = rw (marks.1 S, and_false, and_false)
  tests false s q v t = (
    λ e. (given_line p false q C).0 (not-false (given c false q) (sym (and_true _) ∙ e)),
    λ h. rw ((given_line p false q C).1 h),
  )

  -- "10 second init or next of a state, or the init rule", where neither 8 nor 9 holds
  pub rule_ten : (m : Bool) → kind_in r ≡ init_or_next_kind m → (fault_after p C r ≡ 8 → ⊥) → (fault_after p C r ≡ 9 → ⊥) → (fault_after p C r ≡ 10) ↔ RuleTen m C (first_in r) (second_in r)
  unfolding context fault
  rule_ten m k f g =
      let h = ten classed fitting once f g in
      let t = value_second m _ _ _ _ (subst (λ (n : ℕ). all (classes (row_of n) (sort_at p (ty_at c) (sort_in r)) (ty_at c (first_in r)) (ty_at c (second_in r)) (ty_at c (third_in r))) ≡ true) k h.0) in
      let z = tests m (sort_in r) (first_in r) (second_in r) t in
      let o = once_is m k (given c) (ty_at c (second_in r)) in
      (λ e. z.0 (o ∙ h.1.0 e), λ b. h.1.1 (sym o ∙ z.1 b))

-- no other line is refused by 10
pub ten_else : (p : Bool) (L : ℕ → Ty) (G : Bool → ℕ → Bool) (r : List ℕ) → (kind_in r ≡ 6 → ⊥) → (kind_in r ≡ 7 → ⊥) → fault p L G r ≡ 10 → ⊥
unfolding fault
ten_else p L G r f g e = go _ _ _ refl refl (no_once r G (L (second_in r)) f g) e
  where
    go : (x y z : Bool) → all (classes (row_of (kind_in r)) (sort_at p L (sort_in r)) (L (first_in r)) (L (second_in r)) (L (third_in r))) ≡ x
        → all (fits (line_of r) (sort_at p L (sort_in r)) (L (first_in r)) (L (second_in r)) (L (third_in r))) ≡ y → true ≡ z → answer x y z ≡ 10 → ⊥
    go false y z a b q e = omega arith
    go true false z a b q e = omega arith
    go true true false a b q e = true≢false q
    go true true true a b q e = omega arith

-- ---- examples: accepted lines, after which each of the reasons holds

-- 1 sort bitvec 8, 2 constd 1 7, 3 input 1, 4 add 1 2 3, 5 state 1, 6 constd 1 9, 7 state 1, 8 init 1 7 2, 9 next 1 7 6
abbrev circuit : List (List ℕ)
circuit =
    fields 1 0 8 0 0 ∷ fields 3 1 7 0 0 ∷ fields 4 1 0 0 0 ∷ fields 39 1 2 3 0 ∷ fields 5 1 0 0 0 ∷ fields 3 1 9 0 0 ∷ fields 5 1 0 0 0 ∷ fields 6 1 7 2 0 ∷ fields 7 1 7 6 0
    ∷ []

abbrev lines : List Line
lines = map line_of circuit

circuit_ok : AllOk false no_ctx lines
unfolding fault suits row_of
circuit_ok = all_sound false no_ctx circuit refl

-- init 1 7 2 is a second init; the value of init 1 5 6 stands behind its state; that of init 1 5 4 depends on the input 3
sample_reasons : BarsInit lines 7 2 × BarsInit lines 5 6 × BarsInit lines 5 4
sample_reasons = (
  second_init (record { line = 8; sort = 1; value = 2; is = refl }),
  not_below (omega arith),
  source_in_cone (record { line = 3; in_cone = under 3 refl itself; is = refl }),
)

-- 8 and 9 do not hold of them, so each is refused by 10
sample_ten : (fault_after false lines (fields 6 1 7 2 0) ≡ 10) × (fault_after false lines (fields 6 1 5 6 0) ≡ 10) × (fault_after false lines (fields 6 1 5 4 0) ≡ 10)
unfolding context fault suits row_of
sample_ten = (
  (rule_ten false lines circuit_ok (fields 6 1 7 2 0) true refl (λ e. omega arith) (λ e. omega arith)).1 sample_reasons.0,
  (rule_ten false lines circuit_ok (fields 6 1 5 6 0) true refl (λ e. omega arith) (λ e. omega arith)).1 sample_reasons.1,
  (rule_ten false lines circuit_ok (fields 6 1 5 4 0) true refl (λ e. omega arith) (λ e. omega arith)).1 sample_reasons.2,
)

-- init 1 5 2 is accepted, so none of the reasons holds; next 1 7 7 is refused, so the state 7 has a next
sample_admitted : BarsInit lines 5 2 → ⊥
unfolding context fault suits row_of
sample_admitted b =
    let e : ◌≡◌ {A = ℕ} 0 10 = (rule_ten false lines circuit_ok (fields 6 1 5 2 0) true refl (λ e. omega arith) (λ e. omega arith)).1 b in
    omega arith

sample_next : HasInitOrNext lines false 7
unfolding context fault suits row_of
sample_next = (rule_ten false lines circuit_ok (fields 7 1 7 7 0) false refl (λ e. omega arith) (λ e. omega arith)).0 refl

-- a program, each line of width 8: 1 input, 2 its mask, 3 state; the cone of an init's value goes through the mask
abbrev program : List (List ℕ)
program = fields 4 8 0 0 0 ∷ fields 56 8 1 0 0 ∷ fields 5 8 0 0 0 ∷ []

sample_mask : fault_after true (map line_of program) (fields 6 8 3 2 0) ≡ 10
unfolding context fault suits row_of
sample_mask =
    (rule_ten true (map line_of program) (all_sound true no_ctx program refl) (fields 6 8 3 2 0) true refl (λ e. omega arith) (λ e. omega arith)).1
    (source_in_cone (record { line = 1; in_cone = under 1 refl itself; is = refl }))
