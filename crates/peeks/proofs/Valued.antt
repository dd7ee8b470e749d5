-- The word of a line from the words of the lines that it looks at, by its shape. Assumes nothing.
use Prim.Native.Nat.{ℕ, ◌-◌, ◌^◌, ◌≤◌, ◌<◌}
use mathlib.Core.Path.{◌≡◌, refl, ap, ap₂, ◌∙◌}
use mathlib.Core.Logic.{inl, inr}
use mathlib.Core.Bool.{Bool, true, false, ◌&&◌}
use mathlib.Core.List.{List, [], ◌∷◌}
use native.Mathlib.Omega.{arith}
use lib.Dec.{eqb}
use lib.ListN.{length, get_or}
use Rattle.tables.specs.Lines.{Shape, is_bitvec, is_array, is_const, is_input, is_state, is_output, is_unary, is_binary, is_ite, is_read, is_write, is_unknown, is_init_or_next, is_signal, is_equality, shape_of, build, kind_in, sort_in, first_in, second_in, third_in}
use Rattle.tables.specs.Layout.{record_at, lines_of}
use Rattle.tables.proofs.Shapes.{binary_range, binary_apart, KindOf, kind_of_lem}
use Rattle.tables.proofs.Showing.{by_place}
use Rattle.words.specs.Word.{bit}
use Rattle.circuits.specs.Cells.{eq_or_neq, same_cells}
use Rattle.circuits.specs.Layout.{Layout, layout}
use Rattle.circuits.specs.Meaning.{Frame, cells_at, word_at}
use Rattle.circuits.specs.Model.Work.{num_in}
use Rattle.circuits.proofs.Fitting.{fit_as, op_as}
use Rattle.peeks.specs.Peek.{step_zero}
use Rattle.peeks.specs.Model.Looks.{Looks, WordLine, FirstLine, SecondLine, ValueAsked, ValueFound}
use Rattle.peeks.proofs.Looked.{Fact, cells_of_lem}
use Rattle.peeks.proofs.Peeking.{number, first_cell, flat_of, fact, start_asks, start_is, init_is, compared, ite_chosen}

-- two words are the same if their only cells are
same_one : (xs ys : List ℕ) → length xs ≡ 1 → length ys ≡ 1 → eqb (get_or xs 0 0) (get_or ys 0 0) ≡ same_cells xs ys
same_one [] ys e f = absurd (omega arith)
same_one (x ∷ []) [] e f = absurd (omega arith)
same_one (x ∷ []) (y ∷ ys) e f = and_true (eqb x y)
  where
    and_true : (u : Bool) → u ≡ (u && true)
    and_true true = refl
    and_true false = refl
same_one (x ∷ z ∷ xs) ys e f = absurd (omega arith)

module _ {t : List ℕ} {n : ℕ} {P : List (List ℕ)} {ini S R : List ℕ} (lk : Looks t n P ini S R) {r : List ℕ} {m a x b y : ℕ} (w : WordLine t n m) (er : r ≡ record_at false t (m - 1))
    (F : FirstLine r (get_or ini m 0) a) (one : num_in P a ≤ 1) (ex : x ≡ word_at (step_zero (lines_of false t n) S R) a) (G : SecondLine r x b)
    (ey : y ≡ word_at (step_zero (lines_of false t n) S R) b) (n₅₄ : kind_in r ≡ 54 → ⊥) where
  abbrev A : Frame
  A = step_zero (lines_of false t n) S R

  abbrev Z : Layout
  Z = layout false (lines_of false t n)

  abbrev says : (X : Shape) → shape_of (kind_in r) ≡ X → Fact A Z P ini S R m 0 (build X (kind_in r) (sort_in r) (first_in r) (second_in r) (third_in r))
  says = fact lk m 0 w.value (first_cell lk m) er F

  most : m ≤ 64
  most = (number lk m w.value).most

  -- the words of an operator's operands
  left : 5 < kind_in r → (53 < kind_in r → kind_in r < 56 → ⊥) → x ≡ word_at A (first_in r)
  left h l = ex ∙ ap (word_at A) (F.operand h l)

  right : 20 < kind_in r → (52 < kind_in r → kind_in r < 56 → ⊥) → y ≡ word_at A (second_in r)
  right h l = ey ∙ ap (word_at A) (G.operand h l)

  -- a line of words is no write
  no_write : shape_of (kind_in r) ≡ is_write → ⊥
  no_write e = omega (arith, (says is_write e).arr.deep, (says is_write e).sort_a, w.flat)

  pub value_asks : ValueAsked P S R r m a x y
  value_asks = go (shape_of (kind_in r)) refl (kind_of_lem (kind_in r))
    where
      go : (X : Shape) → shape_of (kind_in r) ≡ X → KindOf X (kind_in r) → ValueAsked P S R r m a x y
      go is_bitvec e k = absurd (says is_bitvec e)
      go is_array e k = absurd (says is_array e)
      go is_const e k = record { known = omega (arith, most); input = λ h z. absurd (z k); start = λ z e. absurd (omega arith); unary = λ h l. absurd (omega arith); binary = λ h z. absurd (omega arith) }
      go is_input e k =
          let I = says is_input e in
          record { known = omega (arith, most); input = λ h z. (I.inside, I.wide); start = λ z e. absurd (omega arith); unary = λ h l. absurd (omega arith); binary = λ h z. absurd (omega arith) }
      go is_state e k =
          record { known = omega (arith, most); input = λ h z. absurd (omega arith); start = start_asks lk m 0 w.value (first_cell lk m) er F; unary = λ h l. absurd (omega arith); binary = λ h z. absurd (omega arith) }
      go is_output e k = absurd (says is_output e)
      go is_unary e (inl k) =
          let I = says is_unary e in
          record {
            known = omega (arith, most);
            input = λ h z. absurd (omega arith);
            start = λ z e. absurd (omega arith);
            unary = λ h l. (omega (arith, I.arg.below, most), fit_as refl refl refl (left h (λ g m. omega arith)) refl I.op);
            binary = λ h z. absurd (omega arith);
          }
      go is_unary e (inr k) = absurd (omega (arith, (says is_unary e).most))
      go is_binary e k =
          let I = says is_binary e in
          let d = binary_range k in
          record {
            known = omega (arith, most);
            input = λ h z. absurd (omega arith);
            start = λ z e. absurd (omega arith);
            unary = λ h l. absurd (omega arith);
            binary = λ h z.
                (omega (arith, I.left.below, most), (omega (arith, I.right.below, most), fit_as refl refl refl (left (omega arith) (λ g m. binary_apart k (omega arith) m)) (right (omega arith) (λ g m. binary_apart k g m)) I.op));
          }
      go is_ite e k = record { known = omega (arith, most); input = λ h z. absurd (omega arith); start = λ z e. absurd (omega arith); unary = λ h l. absurd (omega arith); binary = λ h z. absurd (z k) }
      go is_read e k = absurd (n₅₄ k)
      go is_write e k = absurd (no_write e)
      go is_unknown e k = absurd (says is_unknown e)
      go (is_init_or_next b) e k = absurd (says (is_init_or_next b) e)
      go (is_signal b) e k = absurd (says (is_signal b) e)
      go (is_equality true) e k = record { known = omega (arith, most); input = λ h z. absurd (omega arith); start = λ z e. absurd (omega arith); unary = λ h l. absurd (omega arith); binary = λ h z. absurd (omega arith) }
      go (is_equality false) e k = record { known = omega (arith, most); input = λ h z. absurd (omega arith); start = λ z e. absurd (omega arith); unary = λ h l. absurd (omega arith); binary = λ h z. absurd (omega arith) }

  module _ {v : ℕ} (f : ValueFound P S R r m a x y v) where
    equal : 20 < kind_in r → kind_in r < 23 → v ≡ word_at A m
    equal h l =
        let E = compared lk w er F h l in
        let flat = flat_of lk a E.left.value one in
        let la : length (cells_at A a) ≡ 1 = cells_of_lem lk a E.left.value ∙ ap (λ (z : ℕ). 2 ^ z) flat in
        let lb : length (cells_at A (second_in r)) ≡ 1 = cells_of_lem lk (second_in r) E.right.value ∙ ap (λ (z : ℕ). 2 ^ z) (E.sorts ∙ flat) in
        f.equality h l ∙ ap (λ (s : Bool). bit (eq_or_neq (eqb (kind_in r) 21) s)) (ap₂ eqb ex (right h (λ g m. omega arith)) ∙ same_one (cells_at A a) (cells_at A (second_in r)) la lb) ∙ E.is

    pub value_is : v ≡ word_at A m
    value_is = go (shape_of (kind_in r)) refl (kind_of_lem (kind_in r))
      where
        go : (X : Shape) → shape_of (kind_in r) ≡ X → KindOf X (kind_in r) → v ≡ word_at A m
        go is_bitvec e k = absurd (says is_bitvec e)
        go is_array e k = absurd (says is_array e)
        go is_const e k = f.const k ∙ (says is_const e).is
        go is_input e k = f.input k ∙ (says is_input e).is
        go is_state e k =
            by_place a 0 (λ z. f.start k z ∙ start_is lk m 0 w.value (first_cell lk m) er F k z)
            (λ z. f.init k z ∙ ex ∙ init_is lk m 0 w.value (first_cell lk m) er F k z)
        go is_output e k = absurd (says is_output e)
        go is_unary e (inl k) = op_as false (kind_in r) (third_in r) (f.unary (omega arith) (omega arith)) refl refl (left (omega arith) (λ h l. omega arith)) refl ∙ (says is_unary e).is
        go is_unary e (inr k) = absurd (omega (arith, (says is_unary e).most))
        go is_binary e k =
            let d = binary_range k in
            op_as false (kind_in r) 0 (f.binary (omega arith) (λ z. binary_apart k (omega arith) (omega arith))) refl refl (left (omega arith) (λ g m. binary_apart k (omega arith) m)) (right (omega arith) (λ g m. binary_apart k g m)) ∙ (says is_binary e).is
        go is_ite e k = f.ite k ∙ ey ∙ (ite_chosen lk w er F one ex G k).is
        go is_read e k = absurd (n₅₄ k)
        go is_write e k = absurd (no_write e)
        go is_unknown e k = absurd (says is_unknown e)
        go (is_init_or_next b) e k = absurd (says (is_init_or_next b) e)
        go (is_signal b) e k = absurd (says (is_signal b) e)
        go (is_equality true) e k = equal (omega arith) (omega arith)
        go (is_equality false) e k = equal (omega arith) (omega arith)
