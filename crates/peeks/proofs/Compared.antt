-- Two values of one sort, compared cell by cell. Assumes nothing.
use Prim.Native.Nat.{ℕ, ◌+◌, ◌^◌, ◌≤◌, ◌<◌}
use mathlib.Core.Path.{◌≡◌, sym, ap, ◌∙◌, subst}
use mathlib.Core.Bool.{Bool, true, false}
use mathlib.Core.List.{List}
use native.Mathlib.Omega.{arith}
use Rattle.std.specs.Prelude.{Option}
use lib.ListN.{length, drop, get_or, drop_of_length-le}
use Rattle.words.specs.Word.{bit}
use Rattle.circuits.specs.Cells.{eq_or_neq, same_cells}
use Rattle.circuits.specs.Layout.{Layout, type_at, size, layout}
use Rattle.circuits.specs.Meaning.{Frame, cells_at, word_at}
use Rattle.circuits.specs.Model.Work.{num_in}
use Rattle.tables.specs.Layout.{lines_of}
use Rattle.peeks.specs.Peek.{step_zero}
use Rattle.peeks.specs.Model.Looks.{Looks, KeptWords, CellLine}
use Rattle.peeks.proofs.Looked.{FactEquality, more_cells, shown, number_of, cells_of_lem}
use Rattle.circuits.proofs.Puts as laws

-- the lines a and b of m cells each, whose cells before c are the same, and the words found so far
pub record Alike (A : Frame) (a b : ℕ) (K : List (Option ℕ)) (m c : ℕ) : Type 0 where
  pub most : c ≤ m
  pub kept : KeptWords A K
  pub rest : same_cells (cells_at A a) (cells_at A b) ≡ same_cells (drop c (cells_at A a)) (drop c (cells_at A b))

-- and what the comparison ends with: the words found, and the word of the line l that compares (f: eq or neq), where all cells are the same or not
pub record Compared (A : Frame) (l : ℕ) (f : Bool) (K : List (Option ℕ)) (same : Bool) : Type 0 where
  pub kept : KeptWords A K
  pub is : bit (eq_or_neq f same) ≡ word_at A l

module _ {t : List ℕ} {n : ℕ} {P : List (List ℕ)} {ini S R : List ℕ} (lk : Looks t n P ini S R) where
  abbrev A : Frame
  A = step_zero (lines_of false t n) S R

  abbrev Z : Layout
  Z = layout false (lines_of false t n)

  module _ {l a b m : ℕ} {f : Bool} (k : FactEquality A Z P ini S R l 0 f a b) (em : m ≡ num_in P a) where
    many : m ≡ size (type_at Z a)
    many = em ∙ (shown lk.laid a (number_of lk a (omega (arith, k.left.value))).1).is_num

    long_left : length (cells_at A a) ≡ size (type_at Z a)
    long_left = cells_of_lem lk a k.left.value

    long_right : length (cells_at A b) ≡ size (type_at Z a)
    long_right = cells_of_lem lk b k.right.value ∙ ap (λ (x : ℕ). 2 ^ x) k.sorts

    pub left_cell : {c : ℕ} → 1 < m → c < m → CellLine t n a c
    left_cell {c} o h =
        record {
          array = record { value = k.left.value; deep = more_cells (type_at Z a).iw (λ x. omega (arith, many)) };
          inside = subst (λ (x : ℕ). c < x) many h;
        }

    pub right_cell : {c : ℕ} → 1 < m → c < m → CellLine t n b c
    right_cell {c} o h =
        let l = left_cell o h in
        record {
          array = record { value = k.right.value; deep = subst (λ (x : ℕ). 0 < x) (sym k.sorts) l.array.deep };
          inside = subst (λ (x : ℕ). c < 2 ^ x) (sym k.sorts) l.inside;
        }

    pub alike_more : {K K' : List (Option ℕ)} {c x y : ℕ} → c < m → Alike A a b K m c → KeptWords A K' → x ≡ get_or (cells_at A a) c 0 → y ≡ get_or (cells_at A b) c 0
        → x ≡ y → Alike A a b K' m (c + 1)
    alike_more {c = c} h s f ex ey e =
        record {
          most = omega arith;
          kept = f;
          rest = s.rest ∙ laws.same_more (cells_at A a) (cells_at A b) c (omega (arith, many, long_left)) (omega (arith, many, long_right)) (sym ex ∙ e ∙ ey);
        }

    -- left at a difference
    pub alike_broken : {K K' K'' : List (Option ℕ)} {c x y : ℕ} {same : Bool} → K'' ≡ K' → same ≡ false → c < m → Alike A a b K m c → KeptWords A K' → x ≡ get_or (cells_at A a) c 0 → y ≡ get_or (cells_at A b) c 0
        → (x ≡ y → ⊥) → Compared A l f K'' same
    alike_broken {c = c} z e h s g ex ey n =
        let d : same_cells (cells_at A a) (cells_at A b) ≡ false = s.rest ∙ laws.same_not (cells_at A a) (cells_at A b) c (omega (arith, many, long_left)) (omega (arith, many, long_right)) (λ i. n (ex ∙ i ∙ sym ey)) in
        record { kept = subst (KeptWords A) (sym z) g; is = ap (λ (u : Bool). bit (eq_or_neq f u)) (e ∙ sym d) ∙ k.is }

    -- and after all cells
    pub alike_all : {K K' : List (Option ℕ)} {c : ℕ} {same : Bool} → K' ≡ K → same ≡ true → m ≤ c → Alike A a b K m c → Compared A l f K' same
    alike_all {c = c} z e h s =
        let d : same_cells (cells_at A a) (cells_at A b) ≡ true = s.rest ∙ ap (λ (x : List ℕ). same_cells x (drop c (cells_at A b))) (drop_of_length-le (cells_at A a) {i = c} (omega (arith, many, long_left))) in
        record { kept = subst (KeptWords A) (sym z) s.kept; is = ap (λ (u : Bool). bit (eq_or_neq f u)) (e ∙ sym d) ∙ k.is }
