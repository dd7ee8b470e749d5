-- eq, neq and ite take words and arrays, so what they give is said over cells. On words it is the word operator of the kind: of 21, 22 and 53 as of all others `circ` says what they
-- give in a circuit, and `prog` in a program. Assumes nothing.
use Prim.Native.Nat.{ℕ, zero, suc}
use mathlib.Core.Path.{◌≡◌, refl, ap}
use mathlib.Core.Bool.{Bool, true, false}
use mathlib.Core.List.{List, [], ◌∷◌}
use native.Mathlib.Omega.{arith}
use lib.Dec.{eqb}
use lib.ListN.{length, get_or}
use borrow.Author.Tests.{eq-eqb}
use Rattle.words.specs.Word.{bit}
use Rattle.tables.specs.Pick.{among}
use Rattle.tables.specs.Lines.{Line, Expr, equality_kind, words_of, kind_in, first_in, second_in, third_in}
use Rattle.tables.specs.Cone.{uses_expr}
use Rattle.tables.proofs.Laws.{and_true, or_true}
use Rattle.circuits.specs.Cells.{if_nonzero, eq_or_neq, same_cells}
use Rattle.circuits.specs.Meaning.{op_word, cells_e, Frame, cells_at, word_at, width_at, cells_of}

-- the values whose operands may be words or arrays: kinds 21, 22 and 53
pub data AnySort : Expr → Type 0 where
  any_equality : (e : Bool) (a b : ℕ) → AnySort (Expr.equality e a b)
  any_ite : (c a b : ℕ) → AnySort (Expr.ite c a b)

-- every operand has one cell, its word
abbrev pub OneCell : (word : ℕ → ℕ) (cells : ℕ → List ℕ) → List ℕ → Type 0
OneCell word cells r = (a : ℕ) → among a r ≡ true → cells a ≡ word a ∷ []

-- the operator of a record's kind on the words of the record's operands
abbrev pub operator_word : (program : Bool) (width word : ℕ → ℕ) (r : List ℕ) → ℕ
operator_word program width word r = op_word program (kind_in r) (width (first_in r)) (width (second_in r)) (word (first_in r)) (word (second_in r)) (word (third_in r))

module _ (program : Bool) (width word : ℕ → ℕ) (cells : ℕ → List ℕ) where
  same_words : (x y : ℕ) → same_cells (x ∷ []) (y ∷ []) ≡ eqb x y
  same_words x y = and_true (eqb x y)

  equality_word : (e p : Bool) (u v x y z : ℕ) → bit (eq_or_neq e (eqb x y)) ≡ op_word p (equality_kind e) u v x y z
  equality_word true true u v x y z = refl
  equality_word true false u v x y z = refl
  equality_word false true u v x y z = refl
  equality_word false false u v x y z = refl

  ite_word : (p : Bool) (u v x y z : ℕ) → if_nonzero x (y ∷ []) (z ∷ []) ≡ op_word p 53 u v x y z ∷ []
  ite_word true u v zero y z = refl
  ite_word true u v (suc x) y z = refl
  ite_word false u v zero y z = refl
  ite_word false u v (suc x) y z = refl

  pub word_cells : (s : ℕ) {e : Expr} → AnySort e → OneCell word cells (uses_expr e) → cells_e program width word cells e ≡ operator_word program width word (words_of (Line.value s e)) ∷ []
  word_cells s (any_equality e a b) h =
      rw (h a (rw (eq-eqb a a refl)), h b (rw (eq-eqb b b refl, or_true)), same_words (word a) (word b))
      (ap (λ (x : ℕ). x ∷ []) (equality_word e program (width a) (width b) (word a) (word b) (word 0)))
  word_cells s (any_ite c a b) h =
      rw (h a (rw (eq-eqb a a refl, or_true)), h b (rw (eq-eqb b b refl, or_true, or_true))) (ite_word program (width c) (width a) (word c) (word a) (word b))

-- a list of one word
one_word : (xs : List ℕ) → length xs ≡ 1 → xs ≡ get_or xs 0 0 ∷ []
one_word [] h = absurd (omega arith)
one_word (x ∷ []) h = refl
one_word (x ∷ (y ∷ xs)) h = absurd (omega arith)

-- of the line of a walk, as a run starts or at a step
pub frame_word : (program starting : Bool) (states row : List ℕ) (A : Frame) (s : ℕ) {e : Expr} → AnySort e → ((a : ℕ) → among a (uses_expr e) ≡ true → length (cells_at A a) ≡ 1)
    → cells_of program starting states row A (Line.value s e) ≡ operator_word program (width_at A) (word_at A) (words_of (Line.value s e)) ∷ []
frame_word program starting states row A s k h = word_cells program (width_at A) (word_at A) (cells_at A) s k (λ a u. one_word (cells_at A a) (h a u))
