-- The answer for a record, from the types of its sort and operands, test by test. Assumes nothing.
use Prim.Native.Nat.{ℕ, ◌≤◌}
use mathlib.Core.Path.{◌≡◌, refl, sym, ap, ◌∙◌}
use mathlib.Core.Bool.{Bool, true, false}
use mathlib.Core.List.{List}
use Rattle.tables.specs.declared.Ty.{Ty}
use native.Mathlib.Omega.{arith}
use Rattle.tables.specs.Pick.{all, inside}
use Rattle.tables.specs.Kinds.{row_of}
use Rattle.tables.specs.Lines.{is_bitvec, shape_of, line_of, kind_in, sort_in, first_in, second_in, third_in}
use Rattle.tables.specs.Types.{sort_at, type_of, record_type}
use Rattle.tables.proofs.Laws.{and_true}
use Rattle.tables.proofs.Shapes.{fits_as, range}
use Rattle.tables.specs.Rules.{classes, fits, once_rules, answer, fault}

pub typed : (p : Bool) (L : ℕ → Ty) (r : List ℕ) {t a b c y : Ty} → t ≡ sort_at p L (sort_in r) → a ≡ L (first_in r) → b ≡ L (second_in r) → c ≡ L (third_in r)
    → y ≡ type_of (line_of r) t a b c → y ≡ record_type p L r (line_of r)
typed p L r et ea eb ec e = e ∙ rw (et, ea, eb, ec) refl

module _ (p : Bool) (L : ℕ → Ty) (G : Bool → ℕ → Bool) (r row : List ℕ) {t a b c : Ty} (er : row ≡ row_of (kind_in r))
    (et : t ≡ sort_at p L (sort_in r)) (ea : a ≡ L (first_in r)) (eb : b ≡ L (second_in r)) (ec : c ≡ L (third_in r)) where
  answered : fault p L G r ≡ answer (all (classes row t a b c)) (all (fits (line_of r) t a b c)) (all (once_rules (line_of r) G b))
  unfolding fault
  answered = rw (er, et, ea, eb, ec) refl

  pub is_eight : all (classes row t a b c) ≡ false → 8 ≡ fault p L G r
  is_eight x = sym (answered ∙ rw x refl)

  pub is_nine : all (classes row t a b c) ≡ true → all (fits (line_of r) t a b c) ≡ false → 9 ≡ fault p L G r
  is_nine x y = sym (answered ∙ rw (x, y) refl)

  pub is_ten : all (classes row t a b c) ≡ true → all (fits (line_of r) t a b c) ≡ true → all (once_rules (line_of r) G b) ≡ false → 10 ≡ fault p L G r
  is_ten x y z = sym (answered ∙ rw (x, y, z) refl)

  pub is_none : all (classes row t a b c) ≡ true → all (fits (line_of r) t a b c) ≡ true → all (once_rules (line_of r) G b) ≡ true → 0 ≡ fault p L G r
  is_none x y z = sym (answered ∙ rw (x, y, z) refl)

-- a record that breaks no rule passes all three lists of tests
pub record Passed (p : Bool) (L : ℕ → Ty) (G : Bool → ℕ → Bool) (r : List ℕ) : Type 0 where
  pub class : all (classes (row_of (kind_in r)) (sort_at p L (sort_in r)) (L (first_in r)) (L (second_in r)) (L (third_in r))) ≡ true
  pub width : all (fits (line_of r) (sort_at p L (sort_in r)) (L (first_in r)) (L (second_in r)) (L (third_in r))) ≡ true
  pub once : all (once_rules (line_of r) G (L (second_in r))) ≡ true

pub passed : (p : Bool) (L : ℕ → Ty) (G : Bool → ℕ → Bool) (r : List ℕ) → fault p L G r ≡ 0 → Passed p L G r
unfolding fault
passed p L G r e = go _ _ _ refl refl refl e
  where
    go : (x y z : Bool) → all (classes (row_of (kind_in r)) (sort_at p L (sort_in r)) (L (first_in r)) (L (second_in r)) (L (third_in r))) ≡ x
        → all (fits (line_of r) (sort_at p L (sort_in r)) (L (first_in r)) (L (second_in r)) (L (third_in r))) ≡ y → all (once_rules (line_of r) G (L (second_in r))) ≡ z
        → answer x y z ≡ 0 → Passed p L G r
    go true true true a b c q = record { class = a; width = b; once = c }
    go true true false a b c q = absurd (omega arith)
    go true false z a b c q = absurd (omega arith)
    go false y z a b c q = absurd (omega arith)

pub all_passed : (p : Bool) (L : ℕ → Ty) (G : Bool → ℕ → Bool) (r : List ℕ) → Passed p L G r → fault p L G r ≡ 0
unfolding fault
all_passed p L G r h = rw (h.class, h.width, h.once) refl

-- a sort that breaks no rule has a width of 1 to 64
pub sort_width : (p : Bool) (L : ℕ → Ty) (G : Bool → ℕ → Bool) (r : List ℕ) → fault p L G r ≡ 0 → kind_in r ≡ 1 → first_in r ≤ 64
sort_width p L G r e k =
    let h = fits_as r is_bitvec (ap shape_of k) (sort_at p L (sort_in r)) (L (first_in r)) (L (second_in r)) (L (third_in r)) refl ∙ (passed p L G r e).width in
    (range 1 64 (first_in r) (sym (and_true (inside 1 64 (first_in r))) ∙ h)).1
