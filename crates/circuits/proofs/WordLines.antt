-- The cells of an eq, neq or ite line whose operands are words, at a step or as a run starts, after lines that keep the rules and from enough state words: the word that the operator
-- of its kind gives. Assumes nothing.
use Prim.Native.Nat.{ℕ, zero, suc, ◌^◌, ◌≤◌, ◌<◌}
use mathlib.Core.Path.{◌≡◌, refl, sym, ap, ◌∙◌, subst}
use mathlib.Core.Bool.{Bool, true, false}
use mathlib.Core.List.{List, [], ◌∷◌, map}
use native.Mathlib.Nat.{le_of_lt}
use native.Mathlib.Omega.{arith}
use lib.Dec.{eqb}
use lib.ListN.{length, get_or, take, drop}
use lib.Seq.{length-take-le}
use borrow.Author.Tests.{eqb-true, eq-eqb}
use Rattle.words.specs.Op.{eq, ite}
use Rattle.words.specs.Circuit.{circ}
use Rattle.words.specs.Program.{prog}
use Rattle.tables.specs.declared.Ty.{Ty}
use Rattle.tables.specs.Pick.{among, all}
use Rattle.tables.specs.Kinds.{row_of}
use Rattle.tables.specs.Lines.{Line, Expr, fields, line_of, words_of, kind_in, first_in, second_in, third_in}
use Rattle.tables.specs.Types.{rank, no_ty, sort_at, ty_at, given, no_ctx}
use Rattle.tables.specs.Cone.{uses_expr}
use Rattle.tables.specs.Rules.{suits, fault}
use Rattle.tables.proofs.Laws.{or_true}
use Rattle.tables.proofs.Kept.{both}
use Rattle.tables.proofs.Showing.{earlier}
use Rattle.tables.proofs.Facts.{OkExpr, OkLine, AllOk}
use Rattle.tables.proofs.Sound.{all_sound}
use Rattle.tables.proofs.Cones.{operand_value}
use Rattle.circuits.specs.Layout.{Layout, type_at, no_layout, lay_all, layout}
use Rattle.circuits.specs.Meaning.{op_word, Frame, cells_at, word_at, width_at, cells_of, no_frame, step}
use Rattle.circuits.proofs.Laid.{sound_none, first_laid, ok_at, later, length_laid}
use Rattle.circuits.proofs.Walked.{acc_at, acc_lay, lay_rest}
use Rattle.circuits.proofs.Earlier.{cells_first, cells_here}
use Rattle.circuits.proofs.Sizes.{cells_count}
use Rattle.circuits.proofs.WordCells.{AnySort, any_equality, any_ite, operator_word, frame_word}

operator_as : (p : Bool) (u v x y : ℕ → ℕ) (r : List ℕ) → u (first_in r) ≡ v (first_in r) → u (second_in r) ≡ v (second_in r)
    → x (first_in r) ≡ y (first_in r) → x (second_in r) ≡ y (second_in r) → x (third_in r) ≡ y (third_in r) → operator_word p u x r ≡ operator_word p v y r
operator_as p u v x y r e₁ e₂ e₃ e₄ e₅ = λ i. op_word p (kind_in r) (e₁ i) (e₂ i) (e₃ i) (e₄ i) (e₅ i)

module _ (p f : Bool) (C : List Line) (σ ι : List ℕ) (ok : AllOk p no_ctx C) (few : length C ≤ 16384) (room : (layout p C).counts.states ≤ length σ) (i : ℕ) (h : i < length C) where
  -- all lines, and those before the line at the place i
  abbrev A : Frame
  A = step p f C σ ι

  abbrev B : Frame
  B = acc_at p f σ ι C i

  abbrev Y : Layout
  Y = lay_all p no_layout (take i C)

  lay_all_lem : A.lay ≡ layout p C
  unfolding step layout
  lay_all_lem = acc_lay p f σ ι no_frame C

  lay_before : B.lay ≡ Y
  lay_before = acc_lay p f σ ι no_frame (take i C)

  before_length : length Y.ctx.tys ≡ suc i
  before_length = sym (first_laid p no_layout C i sound_none ok).long ∙ length_laid p no_layout (take i C) ∙ omega (arith, length-take-le i C (le_of_lt h))

  type_before : (a : ℕ) → a ≤ i → type_at (layout p C) a ≡ type_at Y a
  type_before a l = ap (λ (Z : Layout). type_at Z a) (lay_rest p C i) ∙ (later p Y (drop i C)).type a (omega (arith, before_length))

  cells_before_lem : (a : ℕ) → a ≤ i → cells_at A a ≡ cells_at B a
  cells_before_lem a l = cells_first p f C σ ι i a (le_of_lt h) l

  width_before : (a : ℕ) → a ≤ i → width_at B a ≡ width_at A a
  width_before a l = ap (λ (Z : Layout). (type_at Z a).w) lay_before ∙ sym (ap (λ (Z : Layout). (type_at Z a).w) lay_all_lem ∙ ap (λ (t : Ty). t.w) (type_before a l))

  word_before : (a : ℕ) → a ≤ i → word_at B a ≡ word_at A a
  word_before a l = sym (ap (λ (x : List ℕ). get_or x 0 0) (cells_before_lem a l))

  -- the line at the place i, whose number is i + 1, is an eq, neq or ite line, and its operands are words
  pub step_word : (s : ℕ) {e : Expr} → AnySort e → get_or C i Line.unknown ≡ Line.value s e → ((a : ℕ) → among a (uses_expr e) ≡ true → (type_at (layout p C) a).iw ≡ 0)
      → cells_at A (suc i) ≡ operator_word p (width_at A) (word_at A) (words_of (Line.value s e)) ∷ []
  step_word s {e} k is flat =
      cells_here p f C σ ι i h ∙ ap (cells_of p f σ ι B) is ∙ frame_word p f σ ι B s k one ∙ ap (λ (x : ℕ). x ∷ []) (whole k below)
    where
      kept : OkExpr p (ty_at Y.ctx) (sort_at p (ty_at Y.ctx) s) e
      kept = subst (λ (l : Line). OkLine p (ty_at Y.ctx) (given Y.ctx) l) is (ok_at p no_layout C i ok h)

      value : (a : ℕ) → among a (uses_expr e) ≡ true → 2 ≤ rank (type_at Y a).role
      value a m = operand_value p (ty_at Y.ctx) (sort_at p (ty_at Y.ctx) s) e kept a m

      below : (a : ℕ) → among a (uses_expr e) ≡ true → a ≤ i
      below a m = let v = value a m in omega (arith, earlier Y.ctx.tys a (omega arith), before_length)

      one : (a : ℕ) → among a (uses_expr e) ≡ true → length (cells_at B a) ≡ 1
      one a m =
          ap length (sym (cells_before_lem a (below a m)))
          ∙ cells_count p f σ ι C ok few room a (subst (λ (t : Ty). 2 ≤ rank t.role) (sym (type_before a (below a m))) (value a m)) ∙ ap (λ (n : ℕ). 2 ^ n) (flat a m)

      whole : {e : Expr} → AnySort e → ((a : ℕ) → among a (uses_expr e) ≡ true → a ≤ i)
          → operator_word p (width_at B) (word_at B) (words_of (Line.value s e)) ≡ operator_word p (width_at A) (word_at A) (words_of (Line.value s e))
      whole (any_equality q a b) m =
          let la = m a (rw (eq-eqb a a refl)) in
          let lb = m b (rw (eq-eqb b b refl, or_true)) in
          operator_as p (width_at B) (width_at A) (word_at B) (word_at A) (words_of (Line.value s (Expr.equality q a b)))
          (width_before a la) (width_before b lb) (word_before a la) (word_before b lb) (word_before 0 (omega arith))
      whole (any_ite c a b) m =
          let lc = m c (rw (eq-eqb c c refl)) in
          let la = m a (rw (eq-eqb a a refl, or_true)) in
          let lb = m b (rw (eq-eqb b b refl, or_true, or_true)) in
          operator_as p (width_at B) (width_at A) (word_at B) (word_at A) (words_of (Line.value s (Expr.ite c a b)))
          (width_before c lc) (width_before a la) (word_before c lc) (word_before a la) (word_before b lb)

-- ---- examples that meet the premises

-- every type of a list is a word's
words_only : (ts : List Ty) → all (map (λ (t : Ty). eqb t.iw 0) ts) ≡ true → (a : ℕ) → (get_or ts a no_ty).iw ≡ 0
words_only [] e a = refl
words_only (t ∷ ts) e zero = eqb-true t.iw 0 (both (eqb t.iw 0) _ e).0
words_only (t ∷ ts) e (suc a) = words_only ts (both (eqb t.iw 0) _ e).1 a

-- 1 sort bitvec 1, 2 sort bitvec 3, 3 input 2, 4 input 2, 5 eq 1 3 4: at a step with the inputs 9 and 1, of which 9 is taken modulo 8
abbrev circuit : List (List ℕ)
circuit = fields 1 0 1 0 0 ∷ fields 1 0 3 0 0 ∷ fields 4 2 0 0 0 ∷ fields 4 2 0 0 0 ∷ fields 21 1 3 4 0 ∷ []

sample_eq : cells_at (step false false (map line_of circuit) [] (9 ∷ 1 ∷ [])) 5 ≡ circ eq 3 3 1 1 0 ∷ []
unfolding step layout fault suits row_of
sample_eq =
    step_word false false (map line_of circuit) [] (9 ∷ 1 ∷ []) (all_sound false no_ctx circuit refl) (omega arith) (omega arith) 4 (omega arith) 1 (any_equality true 3 4) refl (λ a m. words_only (layout false (map line_of circuit)).ctx.tys refl a)

-- a program: 1 input of width 1, 2 and 3 inputs of width 3, 4 ite 1 2 3. Inputs stand as they are, and a condition of 2 is not 0
abbrev program : List (List ℕ)
program = fields 4 1 0 0 0 ∷ fields 4 3 0 0 0 ∷ fields 4 3 0 0 0 ∷ fields 53 3 1 2 3 ∷ []

sample_ite : cells_at (step true false (map line_of program) [] (2 ∷ 9 ∷ 4 ∷ [])) 4 ≡ prog ite 1 3 2 9 4 ∷ []
unfolding step layout fault suits row_of
sample_ite =
    step_word true false (map line_of program) [] (2 ∷ 9 ∷ 4 ∷ []) (all_sound true no_ctx program refl) (omega arith) (omega arith) 3 (omega arith) 3 (any_ite 1 2 3) refl (λ a m. words_only (layout true (map line_of program)).ctx.tys refl a)
