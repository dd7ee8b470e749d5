-- A record's line by its kind: what it asks and what it leaves. Assumes nothing.
use Prim.Native.Nat.{ℕ, ◌≤◌}
use mathlib.Core.Path.{◌≡◌, refl, sym, ap, ◌∙◌, subst}
use mathlib.Core.Logic.{inl, inr}
use mathlib.Core.Bool.{Bool, true, false, not}
use mathlib.Core.List.{List}
use lib.ListN.{length}
use Rattle.tables.specs.Pick.{alike}
use Rattle.tables.specs.Lines.{Line, Shape, is_bitvec, is_array, is_const, is_input, is_state, is_output, is_unary, is_binary, is_ite, is_read, is_write, is_unknown, is_init_or_next, is_signal, is_equality, shape_of, build, line_of, kind_in, sort_in, first_in, second_in, third_in}
use Rattle.tables.proofs.Laws.{past}
use Rattle.tables.proofs.Shapes.{BinaryKind, KindOf, kind_of_lem, line_as}
use Rattle.circuits.specs.Model.Work.{work_in, sigs_in}
use Rattle.circuits.specs.Model.Fits.{FitL}

module _ (r : List ℕ) (S : Shape) (e : shape_of (kind_in r) ≡ S) where
  pub fit_line : (p : Bool) (P : List (List ℕ)) (all : ℕ) (ι w g : List ℕ) (n : ℕ) → FitL p P all (length ι) (length g) w n (line_of r)
      → FitL p P all (length ι) (length g) w n (build S (kind_in r) (sort_in r) (first_in r) (second_in r) (third_in r))
  fit_line p P all ι w g n h = subst (λ (l : Line). FitL p P all (length ι) (length g) w n l) (line_as r S e) h

  pub does_line : (p f : Bool) (P : List (List ℕ)) (all : ℕ) (ι w g : List ℕ) (n : ℕ) {x y : List ℕ}
      → x ≡ work_in p f P all ι w n (build S (kind_in r) (sort_in r) (first_in r) (second_in r) (third_in r))
      → y ≡ sigs_in f P g w n (build S (kind_in r) (sort_in r) (first_in r) (second_in r) (third_in r))
      → (x ≡ work_in p f P all ι w n (line_of r)) × (y ≡ sigs_in f P g w n (line_of r))
  does_line p f P all ι w g n hx hy =
      (hx ∙ ap (work_in p f P all ι w n) (sym (line_as r S e)), hy ∙ ap (sigs_in f P g w n) (sym (line_as r S e)))

-- every other kind leaves all as it is
pub idle_line : (r : List ℕ) (p f : Bool) (P : List (List ℕ)) (all : ℕ) (ι w g : List ℕ) (n : ℕ)
    → (kind_in r ≡ 3 → ⊥) → (kind_in r ≡ 4 → ⊥) → (kind_in r ≡ 5 → ⊥) → (kind_in r ≡ 6 → ⊥) → (kind_in r ≡ 7 → ⊥) → (kind_in r ≡ 8 → ⊥) → (kind_in r ≡ 9 → ⊥)
    → (11 ≤ kind_in r → kind_in r ≤ 20 → ⊥) → (kind_in r ≡ 21 → ⊥) → (kind_in r ≡ 22 → ⊥) → (BinaryKind (kind_in r) → ⊥)
    → (kind_in r ≡ 53 → ⊥) → (kind_in r ≡ 54 → ⊥) → (kind_in r ≡ 55 → ⊥) → (kind_in r ≡ 56 → ⊥)
    → (w ≡ work_in p f P all ι w n (line_of r)) × (g ≡ sigs_in f P g w n (line_of r))
idle_line r p f P all ι w g n n₃ n₄ n₅ n₆ n₇ n₈ n₉ none n₂₁ n₂₂ ntwo n₅₃ n₅₄ n₅₅ n₅₆ = go (shape_of (kind_in r)) refl (kind_of_lem (kind_in r))
  where
    go : (S : Shape) → shape_of (kind_in r) ≡ S → KindOf S (kind_in r) → (w ≡ work_in p f P all ι w n (line_of r)) × (g ≡ sigs_in f P g w n (line_of r))
    go is_bitvec e k = does_line r is_bitvec e p f P all ι w g n refl refl
    go is_array e k = does_line r is_array e p f P all ι w g n refl refl
    go is_const e k = absurd (n₃ k)
    go is_input e k = absurd (n₄ k)
    go is_state e k = absurd (n₅ k)
    go is_output e k = does_line r is_output e p f P all ι w g n refl refl
    go is_unary e (inl k) = absurd (none k.0 k.1)
    go is_unary e (inr k) = absurd (n₅₆ k)
    go is_binary e k = absurd (ntwo k)
    go is_ite e k = absurd (n₅₃ k)
    go is_read e k = absurd (n₅₄ k)
    go is_write e k = absurd (n₅₅ k)
    go is_unknown e k = does_line r is_unknown e p f P all ι w g n refl refl
    go (is_init_or_next true) e k = absurd (n₆ k)
    go (is_init_or_next false) e k = absurd (n₇ k)
    go (is_signal true) e k = absurd (n₈ k)
    go (is_signal false) e k = absurd (n₉ k)
    go (is_equality true) e k = absurd (n₂₁ k)
    go (is_equality false) e k = absurd (n₂₂ k)

pub alike_true : (f : Bool) → f ≡ alike f true
alike_true true = refl
alike_true false = refl

pub alike_false : (f : Bool) → not f ≡ alike f false
alike_false true = refl
alike_false false = refl

-- past the kinds 21 and 22
pub from_two : {k : ℕ} → 21 ≤ k → (k ≡ 21 → ⊥) → (k ≡ 22 → ⊥) → 23 ≤ k
from_two h p q = past (past h p) q
