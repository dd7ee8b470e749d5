-- What the code does with a record is what the definition does with its line: the instructions, what is kept of the line, and the lines it needs clean. Assumes nothing.
use Prim.Native.Nat.{ℕ, suc, ◌≤◌}
use mathlib.Core.Path.{◌≡◌, refl, sym, ap, ◌∙◌}
use mathlib.Core.Bool.{Bool, true, false, not, ◌&&◌}
use mathlib.Core.List.{List, [], ◌∷◌, ◌++◌, map, append-nil}
use native.Mathlib.Omega.{arith}
use lib.Dec.{eqb, leb}
use lib.ListN.{length}
use borrow.Author.Tests.{le-leb, lt-leb, ne_eqb, not-true}
use Rattle.words.specs.Kinds.{need_kind₁, need_kind₂}
use Rattle.tables.specs.Pick.{pick, inside}
use Rattle.tables.specs.Lines.{Line, Expr, bitvec, array, input, state, value, init_or_next, signal, output, unknown, const, unary, binary, equality, ite, read, write, fields, words_of, kind_in, sort_in, first_in, second_in}
use Rattle.tables.proofs.Laws.{or_true, and_true}
use Rattle.tables.proofs.Shapes.{BinaryKind, binary_range, each_binary}
use Rattle.programs.specs.Uses.{loose_line, when, needs}
use Rattle.programs.specs.declared.Known.{Known}
use Rattle.programs.specs.Translation.{array_sort_line, info, operand_width, operand_number, loose_of, Made, with_mask, instructions_of}
use Rattle.programs.specs.Model.Kinds.{first_line, second_line, third_line, has_value}
use Rattle.programs.specs.Model.Records.{loose_in, instruction, mask_record, width_in, number_in, emitted}

-- the kinds of operators of one line and of two
abbrev pub KindedExpr : Expr → Type 0
KindedExpr (const v) = Unit {0}
KindedExpr (unary k a x y) = (11 ≤ k) × (k ≤ 20)
KindedExpr (binary k a b) = BinaryKind k
KindedExpr (equality e a b) = Unit {0}
KindedExpr (ite c a b) = Unit {0}
KindedExpr (read a i) = Unit {0}
KindedExpr (write a i v) = Unit {0}

abbrev pub Kinded : Line → Type 0
Kinded (bitvec w) = Unit {0}
Kinded (array i e) = Unit {0}
Kinded (input s) = Unit {0}
Kinded (state s) = Unit {0}
Kinded (value s e) = KindedExpr e
Kinded (init_or_next m s q v) = Unit {0}
Kinded (signal m a) = Unit {0}
Kinded (output a) = Unit {0}
Kinded unknown = Unit {0}

and_none : (b : Bool) → (b && false) ≡ false
and_none true = refl
and_none false = refl

-- ---- the tests of the kinds, for operators

module _ (k : ℕ) (h : 11 ≤ k) where
  first_op : first_line k ≡ true
  first_op = le-leb 6 k (omega arith)

  value_op : has_value k ≡ true
  value_op = rw (lt-leb k 5 (omega arith), le-leb 11 k h) (or_true (leb 3 k && false))

  sort_op : leb k 2 ≡ false
  sort_op = lt-leb k 2 (omega arith)

  width_op : eqb k 1 ≡ false
  width_op = ne_eqb k 1 (λ e. omega arith)

  array_op : eqb k 2 ≡ false
  array_op = ne_eqb k 2 (λ e. omega arith)

  range_op : inside 6 7 k ≡ false
  range_op = rw (le-leb 6 k (omega arith), lt-leb k 7 (omega arith))

  third_one : k ≤ 20 → third_line k ≡ false
  third_one l = rw (ne_eqb k 53 (λ e. omega arith), ne_eqb k 55 (λ e. omega arith))

second_one : (k : ℕ) → 11 ≤ k → k ≤ 20 → second_line k ≡ false
second_one k h l = rw (range_op k h) (lt-leb 21 k (omega arith))

second_two : (k : ℕ) → BinaryKind k → second_line k ≡ true
second_two = each_binary second_line tt tt

third_two : (k : ℕ) → BinaryKind k → third_line k ≡ false
third_two k b = not-true (third_line k) (each_binary (λ (n : ℕ). not (third_line n)) tt tt k b)

-- ---- the lines that a record needs clean

pub needs_words : (l : Line) → Kinded l → needs l ≡ when (need_kind₁ (kind_in (words_of l))) (first_in (words_of l)) ++ when (need_kind₂ (kind_in (words_of l)) && second_line (kind_in (words_of l))) (second_in (words_of l))
needs_words (bitvec w) k = refl
needs_words (array i e) k = refl
needs_words (input s) k = refl
needs_words (state s) k = refl
needs_words (value s (const v)) k = refl
needs_words (value s (unary n a x y)) k = rw (second_one n k.0 k.1, and_none (need_kind₂ n)) (sym (append-nil (when (need_kind₁ n) a)))
needs_words (value s (binary n a b)) k = ap (λ (t : Bool). when (need_kind₁ n) a ++ when t b) (sym (ap (λ (t : Bool). need_kind₂ n && t) (second_two n k) ∙ and_true (need_kind₂ n)))
needs_words (value s (equality true a b)) k = refl
needs_words (value s (equality false a b)) k = refl
needs_words (value s (ite c a b)) k = refl
needs_words (value s (read a i)) k = refl
needs_words (value s (write a i v)) k = refl
needs_words (init_or_next true s q v) k = refl
needs_words (init_or_next false s q v) k = refl
needs_words (signal true a) k = refl
needs_words (signal false a) k = refl
needs_words (output a) k = refl
needs_words unknown k = refl

-- a record of kind 2 is an array sort
pub array_words : (l : Line) → Kinded l → array_sort_line l ≡ eqb (kind_in (words_of l)) 2
array_words (bitvec w) k = refl
array_words (array i e) k = refl
array_words (input s) k = refl
array_words (state s) k = refl
array_words (value s (const v)) k = refl
array_words (value s (unary n a x y)) k = sym (array_op n k.0)
array_words (value s (binary n a b)) k = sym (array_op n (omega (arith, binary_range k)))
array_words (value s (equality true a b)) k = refl
array_words (value s (equality false a b)) k = refl
array_words (value s (ite c a b)) k = refl
array_words (value s (read a i)) k = refl
array_words (value s (write a i v)) k = refl
array_words (init_or_next true s q v) k = refl
array_words (init_or_next false s q v) k = refl
array_words (signal true a) k = refl
array_words (signal false a) k = refl
array_words (output a) k = refl
array_words unknown k = refl

-- ---- what is made of a line

-- the definition's, by the tests that the code makes
mask_info : (b w : ℕ) (i : Line) (lo n : Bool) → (with_mask b w i lo n).info ≡ info w (pick (lo && n) (suc b) b) lo
mask_info b w i false n = refl
mask_info b w i true false = refl
mask_info b w i true true = refl

mask_code : (b w : ℕ) (i : Line) (lo n : Bool) → map words_of (with_mask b w i lo n).code ≡ words_of i ∷ pick (lo && n) (mask_record w b ∷ []) []
mask_code b w i false n = refl
mask_code b w i true false = refl
mask_code b w i true true = refl

mask_count : (b w : ℕ) (i : Line) (lo n : Bool) → length (with_mask b w i lo n).code ≡ pick (lo && n) 2 1
mask_count b w i false n = refl
mask_count b w i true false = refl
mask_count b w i true true = refl

module _ (W M : ℕ → ℕ) (L : ℕ → Bool) (nd : Bool) (b : ℕ) (r : List ℕ) where
  abbrev pub mask_in : Bool
  mask_in = loose_in W L r && nd

  abbrev pub info_in : Known
  info_in = info (width_in W r) (number_in (kind_in r) b mask_in) (loose_in W L r)

  abbrev pub code_in : List (List ℕ)
  code_in = pick (leb (kind_in r) 2) [] (instruction W M r ∷ pick mask_in (mask_record (W (sort_in r)) b ∷ []) [])

  abbrev pub count_in : ℕ
  count_in = emitted (kind_in r) mask_in

-- the same information, records and number of instructions
pub record Agrees (W M : ℕ → ℕ) (L : ℕ → Bool) (nd : Bool) (b : ℕ) (r : List ℕ) (m : Made) : Type 0 where
  pub info : m.info ≡ info_in W M L nd b r
  pub code : map words_of m.code ≡ code_in W M L nd b r
  pub count : length m.code ≡ count_in W M L nd b r

module _ (N : ℕ → Bool) (J : List Known) (b : ℕ) (zero-w : operand_width J 0 ≡ 0) where
  abbrev W : ℕ → ℕ
  W = operand_width J

  abbrev M : ℕ → ℕ
  M = operand_number J

  abbrev L : ℕ → Bool
  L = loose_of J

  abbrev nd : Bool
  nd = N (length J)

  abbrev Here : Line → Type 0
  Here l = Agrees W M L nd b (words_of l) (instructions_of N J b l)

  -- a value line, of which the code finds the same
  value_line : (l i : Line) (lo : Bool) → has_value (kind_in (words_of l)) ≡ true → eqb (kind_in (words_of l)) 1 ≡ false → leb (kind_in (words_of l)) 2 ≡ false
      → loose_in W L (words_of l) ≡ lo → instruction W M (words_of l) ≡ words_of i → Agrees W M L nd b (words_of l) (with_mask b (W (sort_in (words_of l))) i lo nd)
  value_line l i lo v w q e c =
      let u = W (sort_in (words_of l)) in
      record {
        info = mask_info b u i lo nd ∙ sym (rw (v, w, e));
        code = mask_code b u i lo nd ∙ sym (rw (q, e) (ap (λ (x : List ℕ). x ∷ pick (lo && nd) (mask_record u b ∷ []) []) c));
        count = mask_count b u i lo nd ∙ sym (rw (q, e));
      }

  -- a line without a value; it is never loose
  plain : (l i : Line) → has_value (kind_in (words_of l)) ≡ false → eqb (kind_in (words_of l)) 1 ≡ false → leb (kind_in (words_of l)) 2 ≡ false → loose_in W L (words_of l) ≡ false
      → instruction W M (words_of l) ≡ words_of i → Agrees W M L nd b (words_of l) (record { code = i ∷ []; info = info 0 0 false })
  plain l i v w q e c =
      record {
        info = sym (rw (v, w, e));
        code = sym (rw (q, e) (ap (λ (x : List ℕ). x ∷ []) c));
        count = sym (rw (q, e));
      }

  never : (w : ℕ) → (not (eqb w 64) && false) ≡ false
  never w = and_none (not (eqb w 64))

  pub agrees : (l : Line) → Kinded l → Here l
  agrees (bitvec w) k = record { info = sym (rw (never (W 0))); code = refl; count = refl }
  agrees (array i e) k = record { info = sym (rw (never (W 0))); code = refl; count = refl }
  agrees (input s) k = value_line (input s) (input (W s)) _ refl refl refl refl refl
  agrees (state s) k = value_line (state s) (state (W s)) _ refl refl refl refl refl
  agrees (value s (const v)) k = value_line (value s (const v)) (value (W s) (const v)) _ refl refl refl refl refl
  agrees (value s (unary n a x y)) k =
      value_line (value s (unary n a x y)) (value (W s) (unary n (M a) x y)) (loose_line (W s) n (L a) false false) (value_op n k.0) (width_op n k.0) (sort_op n k.0)
      (rw (second_one n k.0 k.1, first_op n k.0, third_one n k.0 k.1)) (rw (second_one n k.0 k.1, first_op n k.0, third_one n k.0 k.1))
  agrees (value s (binary n a c)) k =
      let h : 11 ≤ n = omega (arith, binary_range k) in
      value_line (value s (binary n a c)) (value (W s) (binary n (M a) (M c))) (loose_line (W s) n (L a) (L c) false) (value_op n h) (width_op n h) (sort_op n h)
      (rw (second_two n k, first_op n h, third_two n k)) (rw (second_two n k, first_op n h, third_two n k))
  agrees (value s (equality true a c)) k = value_line (value s (equality true a c)) (value (W s) (equality true (M a) (M c))) _ refl refl refl refl refl
  agrees (value s (equality false a c)) k = value_line (value s (equality false a c)) (value (W s) (equality false (M a) (M c))) _ refl refl refl refl refl
  agrees (value s (ite d a c)) k = value_line (value s (ite d a c)) (value (W s) (ite (M d) (M a) (M c))) _ refl refl refl refl refl
  agrees (value s (read a i)) k = value_line (value s (read a i)) (value (W s) (read (M a) (M i))) _ refl refl refl (never (W s)) refl
  agrees (value s (write a i v)) k = value_line (value s (write a i v)) (value (W s) (write (M a) (M i) (M v))) _ refl refl refl (never (W s)) refl
  agrees (init_or_next true s q v) k = plain (init_or_next true s q v) (init_or_next true (W s) (M q) (M v)) refl refl refl (never (W s)) refl
  agrees (init_or_next false s q v) k = plain (init_or_next false s q v) (init_or_next false (W s) (M q) (M v)) refl refl refl (never (W s)) refl
  agrees (signal true a) k = plain (signal true a) (signal true (M a)) refl refl refl (never (W 0)) (ap (λ (w : ℕ). fields 8 w (M a) 0 0) zero-w)
  agrees (signal false a) k = plain (signal false a) (signal false (M a)) refl refl refl (never (W 0)) (ap (λ (w : ℕ). fields 9 w (M a) 0 0) zero-w)
  agrees (output a) k = plain (output a) (output (M a)) refl refl refl (never (W 0)) (ap (λ (w : ℕ). fields 10 w (M a) 0 0) zero-w)
  agrees unknown k = record { info = sym (rw (never (W 0))); code = refl; count = refl }
