-- The line of a record, by the kind's number. Assumes nothing.
use Prim.Native.Nat.{ℕ, suc, ◌+◌, ◌-◌, ◌≤◌, ◌<◌}
use mathlib.Core.Path.{◌≡◌, refl, sym, ap, ◌∙◌, subst}
use mathlib.Core.Logic.{◌⊎◌, inl, inr}
use mathlib.Core.Bool.{Bool, true, false, not, ◌||◌}
use mathlib.Core.List.{List}
use lib.Dec.{T, T_not, leb, eqb, leb→le}
use Rattle.tables.proofs.Every.{every, at_each, from_to}
use Rattle.tables.proofs.Laws.{by_pick, past}
use mir.Facts.{and_yes}
use borrow.Author.Tests.{le-leb, lt-leb, leb-true, leb-false, ne_eqb, eqb-true, eqb-false}
use native.Mathlib.Omega.{arith}
use Rattle.tables.specs.declared.Ty.{Ty}
use Rattle.tables.specs.Pick.{inside, all}
use Rattle.tables.specs.Lines.{Line, Shape, is_bitvec, is_array, is_const, is_input, is_state, is_output, is_unary, is_binary, is_ite, is_read, is_write, is_unknown, is_init_or_next, is_signal, is_equality, init_or_next_kind, signal_kind, equality_kind, shape_of, build, line_of, kind_in, sort_in, first_in, second_in, third_in}
use Rattle.tables.specs.Types.{ty, no_ty, marked, value_role, type_of}
use Rattle.tables.specs.Rules.{fits, once_rules}

pub line_as : (r : List ℕ) (S : Shape) → shape_of (kind_in r) ≡ S → line_of r ≡ build S (kind_in r) (sort_in r) (first_in r) (second_in r) (third_in r)
line_as r S e = ap (λ (s : Shape). build s (kind_in r) (sort_in r) (first_in r) (second_in r) (third_in r)) e

pub shape_unary : (k : ℕ) → 11 ≤ k → k ≤ 20 → shape_of k ≡ is_unary
shape_unary k h l = rw (le-leb 11 k h, le-leb k 20 l)

-- the kinds of operators of two words: overflow detectors stand apart from the others
abbrev pub BinaryKind : ℕ → Type 0
BinaryKind k = ((23 ≤ k) × (k ≤ 52)) ⊎ ((57 ≤ k) × (k ≤ 63))

pub binary_range : {k : ℕ} → BinaryKind k → (23 ≤ k) × (k ≤ 63)
binary_range (inl b) = (b.0, omega arith)
binary_range (inr b) = (omega arith, b.1)

-- between them stand ite, read and write
pub binary_apart : {k : ℕ} → BinaryKind k → 52 < k → k < 56 → ⊥
binary_apart (inl b) h l = omega arith
binary_apart (inr b) h l = omega arith

-- what is left of 23 to 63 where the other shapes' kinds are taken out
pub binary_left : {k : ℕ} → 23 ≤ k → k ≤ 63 → (k ≡ 53 → ⊥) → (k ≡ 54 → ⊥) → (k ≡ 55 → ⊥) → (k ≡ 56 → ⊥) → BinaryKind k
binary_left {k} h l n₁ n₂ n₃ n₄ = go (leb k 52) refl
  where
    go : (t : Bool) → leb k 52 ≡ t → BinaryKind k
    go true e = inl (h, leb-true k 52 e)
    go false e = inr (past (past (past (past (leb-false k 52 e) n₁) n₂) n₃) n₄, l)

-- a test that is computed for all of them
pub each_binary : (f : ℕ → Bool) → T (every (λ (m : ℕ). f (m + 23)) 30) → T (every (λ (m : ℕ). f (m + 57)) 7) → (k : ℕ) → BinaryKind k → f k ≡ true
each_binary f g h k (inl b) = from_to f 23 30 k (at_each (λ (m : ℕ). f (m + 23)) 30 g) b.0 (omega arith)
each_binary f g h k (inr b) = from_to f 57 7 k (at_each (λ (m : ℕ). f (m + 57)) 7 h) b.0 (omega arith)

pub shape_binary : (k : ℕ) → BinaryKind k → shape_of k ≡ is_binary
shape_binary k (inl b) = rw (le-leb 11 k (omega arith), lt-leb k 20 (omega arith), le-leb 23 k b.0, le-leb k 52 b.1)
shape_binary k (inr b) =
    rw (le-leb 11 k (omega arith), lt-leb k 20 (omega arith), le-leb 23 k (omega arith), lt-leb k 52 (omega arith), le-leb 57 k b.0, le-leb k 63 b.1)

pub shape_equality : {k : ℕ} → 21 ≤ k → k < 23 → shape_of k ≡ is_equality (eqb k 21)
shape_equality {k} h l = go (eqb k 21) refl
  where
    go : (b : Bool) → eqb k 21 ≡ b → shape_of k ≡ is_equality (eqb k 21)
    go true e = let q : k ≡ 21 = eqb-true k 21 e in ap shape_of q ∙ ap is_equality (sym e)
    go false e = let m : 22 ≤ k = past h (eqb-false k 21 e) in let q : k ≡ 22 = omega arith in ap shape_of q ∙ ap is_equality (sym e)

-- a number that no kind has
pub shape_zero : (k : ℕ) → k < 1 → shape_of k ≡ is_unknown
shape_zero k h = let e : k ≡ 0 = omega arith in ap shape_of e

pub shape_past : (k : ℕ) → 63 < k → shape_of k ≡ is_unknown
shape_past k h =
    let ne : (n : ℕ) → n ≤ 56 → eqb k n ≡ false = λ n l. ne_eqb k n (λ e. omega arith) in
    rw (lt-leb k 20 (omega arith), le-leb 11 k (omega arith), lt-leb k 52 (omega arith), le-leb 23 k (omega arith), lt-leb k 63 (omega arith), le-leb 57 k (omega arith), ne 1 (omega arith), ne 2 (omega arith), ne 3 (omega arith), ne 4 (omega arith), ne 5 (omega arith), ne 6 (omega arith), ne 7 (omega arith), ne 8 (omega arith), ne 9 (omega arith), ne 10 (omega arith), ne 21 (omega arith), ne 22 (omega arith), ne 53 (omega arith), ne 54 (omega arith), ne 55 (omega arith), ne 56 (omega arith))

-- what the rules say of a record's line, they say of the line of its shape
module _ (r : List ℕ) (S : Shape) (e : shape_of (kind_in r) ≡ S) where
  pub fits_as : (t a b c : Ty) {x : Bool} → x ≡ all (fits (build S (kind_in r) (sort_in r) (first_in r) (second_in r) (third_in r)) t a b c) → x ≡ all (fits (line_of r) t a b c)
  fits_as t a b c h = h ∙ ap (λ (l : Line). all (fits l t a b c)) (sym (line_as r S e))

  pub once_as : (G : Bool → ℕ → Bool) (b : Ty) {x : Bool} → x ≡ all (once_rules (build S (kind_in r) (sort_in r) (first_in r) (second_in r) (third_in r)) G b)
      → x ≡ all (once_rules (line_of r) G b)
  once_as G b h = h ∙ ap (λ (l : Line). all (once_rules l G b)) (sym (line_as r S e))

-- ---- the kinds of a shape

-- what is known of a kind by its shape
abbrev pub KindOf : Shape → ℕ → Type 0
KindOf is_bitvec k = k ≡ 1
KindOf is_array k = k ≡ 2
KindOf is_const k = k ≡ 3
KindOf is_input k = k ≡ 4
KindOf is_state k = k ≡ 5
KindOf is_output k = k ≡ 10
KindOf is_unary k = ((11 ≤ k) × (k ≤ 20)) ⊎ (k ≡ 56)
KindOf is_binary k = BinaryKind k
KindOf is_ite k = k ≡ 53
KindOf is_read k = k ≡ 54
KindOf is_write k = k ≡ 55
KindOf is_unknown k = Unit {0}
KindOf (is_init_or_next m) k = k ≡ init_or_next_kind m
KindOf (is_signal m) k = k ≡ signal_kind m
KindOf (is_equality e) k = k ≡ equality_kind e

pub range : (i j k : ℕ) → inside i j k ≡ true → (i ≤ k) × (k ≤ j)
range i j k e = let h = and_yes (leb i k) (leb k j) (subst T (sym e) tt) in (leb→le i k h.0, leb→le k j h.1)

pub kind_of_lem : (k : ℕ) → KindOf (shape_of k) k
kind_of_lem k =
    by_pick P (inside 11 20 k) (λ e. inl (range 11 20 k e)) (λ _.
    by_pick P (inside 23 52 k) (λ e. inl (range 23 52 k e)) (λ _.
    by_pick P (inside 57 63 k) (λ e. inr (range 57 63 k e)) (λ _.
    by_pick P (eqb k 1) (eqb-true k 1) (λ _.
    by_pick P (eqb k 2) (eqb-true k 2) (λ _.
    by_pick P (eqb k 3) (eqb-true k 3) (λ _.
    by_pick P (eqb k 4) (eqb-true k 4) (λ _.
    by_pick P (eqb k 5) (eqb-true k 5) (λ _.
    by_pick P (eqb k 6) (eqb-true k 6) (λ _.
    by_pick P (eqb k 7) (eqb-true k 7) (λ _.
    by_pick P (eqb k 8) (eqb-true k 8) (λ _.
    by_pick P (eqb k 9) (eqb-true k 9) (λ _.
    by_pick P (eqb k 10) (eqb-true k 10) (λ _.
    by_pick P (eqb k 21) (eqb-true k 21) (λ _.
    by_pick P (eqb k 22) (eqb-true k 22) (λ _.
    by_pick P (eqb k 53) (eqb-true k 53) (λ _.
    by_pick P (eqb k 54) (eqb-true k 54) (λ _.
    by_pick P (eqb k 55) (eqb-true k 55) (λ _.
    by_pick P (eqb k 56) (λ e. inr (eqb-true k 56 e)) (λ _. tt)))))))))))))))))))
  where
    P : Shape → Type 0
    P S = KindOf S k

-- only init and next lines can break rule 10
pub no_once : (r : List ℕ) (G : Bool → ℕ → Bool) (b : Ty) → (kind_in r ≡ 6 → ⊥) → (kind_in r ≡ 7 → ⊥) → true ≡ all (once_rules (line_of r) G b)
no_once r G b f g = go (shape_of (kind_in r)) refl (kind_of_lem (kind_in r))
  where
    go : (S : Shape) → shape_of (kind_in r) ≡ S → KindOf S (kind_in r) → true ≡ all (once_rules (line_of r) G b)
    go is_bitvec e h = once_as r is_bitvec e G b refl
    go is_array e h = once_as r is_array e G b refl
    go is_const e h = once_as r is_const e G b refl
    go is_input e h = once_as r is_input e G b refl
    go is_state e h = once_as r is_state e G b refl
    go is_output e h = once_as r is_output e G b refl
    go is_unary e h = once_as r is_unary e G b refl
    go is_binary e h = once_as r is_binary e G b refl
    go is_ite e h = once_as r is_ite e G b refl
    go is_read e h = once_as r is_read e G b refl
    go is_write e h = once_as r is_write e G b refl
    go is_unknown e h = once_as r is_unknown e G b refl
    go (is_init_or_next true) e h = absurd (f h)
    go (is_init_or_next false) e h = absurd (g h)
    go (is_signal m) e h = once_as r (is_signal m) e G b refl
    go (is_equality q) e h = once_as r (is_equality q) e G b refl

-- every number from 1 to 63 is a kind: one computed test
abbrev is_unknown? : Shape → Bool
is_unknown? is_bitvec = false
is_unknown? is_array = false
is_unknown? is_const = false
is_unknown? is_input = false
is_unknown? is_state = false
is_unknown? is_output = false
is_unknown? is_unary = false
is_unknown? is_binary = false
is_unknown? is_ite = false
is_unknown? is_read = false
is_unknown? is_write = false
is_unknown? is_unknown = true
is_unknown? (is_init_or_next m) = false
is_unknown? (is_signal m) = false
is_unknown? (is_equality e) = false

pub no_unknown : (k : ℕ) → 1 ≤ k → k ≤ 63 → shape_of k ≡ is_unknown → ⊥
no_unknown k h l e =
    let n : ℕ = k - 1 in
    let q : suc n ≡ k = omega arith in
    T_not (is_unknown? is_unknown) (subst (λ (S : Shape). T (not (is_unknown? S))) (ap shape_of q ∙ e) (at_each (λ m. not (is_unknown? (shape_of (suc m)))) 63 tt n (omega arith))) tt

-- ---- the types of lines

module _ (r : List ℕ) (t a b c : Ty) where
  pub type_as : (S : Shape) → shape_of (kind_in r) ≡ S → {x : Ty} → x ≡ type_of (build S (kind_in r) (sort_in r) (first_in r) (second_in r) (third_in r)) t a b c → x ≡ type_of (line_of r) t a b c
  type_as S e h = h ∙ ap (λ (l : Line). type_of l t a b c) (sym (line_as r S e))

  -- init, next, bad, constraint and output have no type
  pub no_type : 6 ≤ kind_in r → kind_in r ≤ 10 → no_ty ≡ type_of (line_of r) t a b c
  no_type h l = go (shape_of (kind_in r)) refl (kind_of_lem (kind_in r))
    where
      go : (S : Shape) → shape_of (kind_in r) ≡ S → KindOf S (kind_in r) → no_ty ≡ type_of (line_of r) t a b c
      go is_bitvec e k = absurd (omega arith)
      go is_array e k = absurd (omega arith)
      go is_const e k = absurd (omega arith)
      go is_input e k = absurd (omega arith)
      go is_state e k = absurd (omega arith)
      go is_output e k = type_as is_output e refl
      go is_unary e (inl k) = absurd (omega arith)
      go is_unary e (inr k) = absurd (omega arith)
      go is_binary e k = absurd (omega (arith, binary_range k))
      go is_ite e k = absurd (omega arith)
      go is_read e k = absurd (omega arith)
      go is_write e k = absurd (omega arith)
      go is_unknown e k = type_as is_unknown e refl
      go (is_init_or_next m) e k = type_as (is_init_or_next m) e refl
      go (is_signal m) e k = type_as (is_signal m) e refl
      go (is_equality true) e k = absurd (omega arith)
      go (is_equality false) e k = absurd (omega arith)

  -- of two operands: comparisons, operators of two words, read
  pub two_type : 20 < kind_in r → kind_in r ≤ 63 → (kind_in r ≡ 53 → ⊥) → (kind_in r ≡ 55 → ⊥) → (kind_in r ≡ 56 → ⊥)
      → ty (value_role (marked a || marked b)) t.iw t.w ≡ type_of (line_of r) t a b c
  two_type h l n₁ n₂ n₃ = go (shape_of (kind_in r)) refl (kind_of_lem (kind_in r))
    where
      go : (S : Shape) → shape_of (kind_in r) ≡ S → KindOf S (kind_in r) → ty (value_role (marked a || marked b)) t.iw t.w ≡ type_of (line_of r) t a b c
      go is_bitvec e k = absurd (omega arith)
      go is_array e k = absurd (omega arith)
      go is_const e k = absurd (omega arith)
      go is_input e k = absurd (omega arith)
      go is_state e k = absurd (omega arith)
      go is_output e k = absurd (omega arith)
      go is_unary e (inl k) = absurd (omega arith)
      go is_unary e (inr k) = absurd (n₃ k)
      go is_binary e k = type_as is_binary e refl
      go is_ite e k = absurd (n₁ k)
      go is_read e k = type_as is_read e refl
      go is_write e k = absurd (n₂ k)
      go is_unknown e k = absurd (no_unknown (kind_in r) (omega arith) l e)
      go (is_init_or_next true) e k = absurd (omega arith)
      go (is_init_or_next false) e k = absurd (omega arith)
      go (is_signal true) e k = absurd (omega arith)
      go (is_signal false) e k = absurd (omega arith)
      go (is_equality q) e k = type_as (is_equality q) e refl
