-- What one line is made, by its kind. Assumes nothing.
use Prim.Native.Nat.{ℕ, suc, ◌+◌, ◌-◌, ◌*◌, ◌^◌, ◌≤◌, ◌<◌}
use mathlib.Core.Path.{◌≡◌, refl, sym, ap, ◌∙◌, subst, subst⁻¹}
use mathlib.Core.Bool.{Bool, true, false}
use mathlib.Core.Logic.{◌≢◌}
use mathlib.Core.List.{List, [], ◌∷◌}
use native.Mathlib.Omega.{arith}
use lib.Dec.{eqb}
use lib.Pow.{pow_mono}
use borrow.Author.Tests.{eq-eqb, ne_eqb, eqb-true, eqb-false, le-leb, lt-leb}
use lib.Arith.{lt_of_le-ne}
use Rattle.std.specs.Prelude.{Some, None}
use Rattle.tables.specs.Lines.{Line, Expr, Shape, is_bitvec, is_array, is_const, is_input, is_state, is_output, is_unary, is_binary, is_ite, is_read, is_write, is_unknown, is_init_or_next, is_signal, is_equality, shape_of, build, fields, line_of, kind_in, sort_in as sort_of, first_in, second_in, third_in}
use Rattle.tables.specs.Tables.{known}
use Rattle.tables.proofs.Laws.{past, within}
use Rattle.tables.proofs.Shapes.{binary_left, KindOf, kind_of_lem, line_as, shape_unary, shape_binary}
use Rattle.tables.proofs.Kept.{known_range, no_mask}
use Rattle.flattening.specs.declared.Made.{Made}
use Rattle.flattening.specs.Model.Cells.{Held, cell_in}
use Rattle.flattening.specs.Model.Rows.{rows_for, row_at, stepping, still, join_records, read_records, write_records}
use Rattle.flattening.specs.Model.Lines.{Notes, sort_line, word_line, bit_in, con_in, size_in, made_as, flat_count, line_records, flat_made}
use Rattle.flattening.specs.Model.Fits.{Fit, MadeFlat}

-- an index width of at most 8 means at most 256 cells
pub size_le : (w : ℕ) → w ≤ 8 → 2 ^ w ≤ 256
size_le w h = pow_mono h

pub size_two : (w : ℕ) → 0 < w → 2 ≤ 2 ^ w
size_two w h = pow_mono h

-- none of 0 to 7
pub eight : (w : ℕ) → w ≤ 8 → (w ≡ 0 → ⊥) → (w ≡ 1 → ⊥) → (w ≡ 2 → ⊥) → (w ≡ 3 → ⊥) → (w ≡ 4 → ⊥) → (w ≡ 5 → ⊥) → (w ≡ 6 → ⊥) → (w ≡ 7 → ⊥) → w ≡ 8
eight w h a b c d e f g i = top h (past (past (past (past (past (past (past (past (zero_le w) a) b) c) d) e) f) g) i)
  where
    zero_le : (n : ℕ) → 0 ≤ n
    zero_le n = omega arith

    top : w ≤ 8 → 8 ≤ w → w ≡ 8
    top x y = omega arith

-- ---- by the number of cells, or the index

pub join_none : (H : Held) (p j s n : ℕ) → n < 2 → join_records H p j s n ≡ []
join_none H p j s n h = rw (lt-leb 2 n h)

pub join_some : (H : Held) (p j s n : ℕ) → 2 ≤ n → join_records H p j s n ≡ fields j s (p + 1) (p + 2) 0 ∷ rows_for (n - 2) (row_at H j s (stepping (p + n + 1) 1) (stepping (p + 3) 1) (still 0))
join_some H p j s n h = rw (le-leb 2 n h)

module _ (N : Notes) (p s a i : ℕ) where
  -- by a constant index
  pub read_con : con_in N i ≢ 0 → flat_made N p (Line.value s (Expr.read a i)) ≡ made_as p (cell_in N.held a (con_in N i - 1)) (bit_in N s) None 1 None
  read_con d = let e : p + 0 ≡ p = omega arith in rw (ne_eqb (con_in N i) 0 d) (ap (λ (q : ℕ). made_as q (cell_in N.held a (con_in N i - 1)) (bit_in N s) None 1 None) e)

  pub read_con_records : con_in N i ≢ 0 → line_records N p (Line.value s (Expr.read a i)) ≡ []
  read_con_records d = rw (ne_eqb (con_in N i) 0 d)

  -- by any other
  pub read_any : con_in N i ≡ 0 → flat_made N p (Line.value s (Expr.read a i)) ≡ made_as (p + 2 * (size_in N a - 1)) (p + 2 * (size_in N a - 1)) (bit_in N s) None 1 None
  read_any e = rw (eq-eqb (con_in N i) 0 e)

  pub read_any_count : con_in N i ≡ 0 → flat_count N (Line.value s (Expr.read a i)) ≡ 2 * (size_in N a - 1)
  read_any_count e = rw (eq-eqb (con_in N i) 0 e)

  pub read_any_records : con_in N i ≡ 0 → line_records N p (Line.value s (Expr.read a i)) ≡ read_records N.held p (bit_in N a) (word_line N i) (sort_line N s) a (size_in N a)
  read_any_records e = rw (eq-eqb (con_in N i) 0 e)

  pub write_con : (v : ℕ) → con_in N i ≢ 0 → flat_made N p (Line.value s (Expr.write a i v)) ≡ made_as p (word_line N v) (bit_in N s) (Some a) (con_in N i - 1) None
  write_con v d = let e : p + 0 ≡ p = omega arith in rw (ne_eqb (con_in N i) 0 d) (ap (λ (q : ℕ). made_as q (word_line N v) (bit_in N s) (Some a) (con_in N i - 1) None) e)

  pub write_con_records : (v : ℕ) → con_in N i ≢ 0 → line_records N p (Line.value s (Expr.write a i v)) ≡ []
  write_con_records v d = rw (ne_eqb (con_in N i) 0 d)

  pub write_any : (v : ℕ) → con_in N i ≡ 0 → flat_made N p (Line.value s (Expr.write a i v)) ≡ made_as (p + 2 * size_in N s) (p + 2) (bit_in N s) None 2 None
  write_any v e = rw (eq-eqb (con_in N i) 0 e)

  pub write_any_count : (v : ℕ) → con_in N i ≡ 0 → flat_count N (Line.value s (Expr.write a i v)) ≡ 2 * size_in N s
  write_any_count v e = rw (eq-eqb (con_in N i) 0 e)

  pub write_any_records : (v : ℕ) → con_in N i ≡ 0 → line_records N p (Line.value s (Expr.write a i v)) ≡ write_records N.held p (bit_in N s) (word_line N i) (sort_line N s) (word_line N v) a (size_in N s)
  write_any_records v e = rw (eq-eqb (con_in N i) 0 e)

-- ---- by the kind of a record

pub fit_as : {N : Notes} {p len : ℕ} {l m : Line} → l ≡ m → Fit N p l len → Fit N p m len
fit_as {N} {p} {len} e h = subst (λ (x : Line). Fit N p x len) e h

pub laid_as_lem : {N : Notes} {p : ℕ} {t u : List ℕ} {r : Made} {l m : Line} → l ≡ m → MadeFlat N p m t u r → MadeFlat N p l t u r
laid_as_lem {N} {p} {t} {u} {r} e h = subst⁻¹ (λ (x : Line). MadeFlat N p x t u r) e h

pub as_key : (r : List ℕ) (n : ℕ) → kind_in r ≡ n → line_of r ≡ build (shape_of n) (kind_in r) (sort_of r) (first_in r) (second_in r) (third_in r)
as_key r n e = line_as r (shape_of n) (ap shape_of e)

pub as_unary : (r : List ℕ) → 10 < kind_in r → kind_in r ≤ 20 → line_of r ≡ build is_unary (kind_in r) (sort_of r) (first_in r) (second_in r) (third_in r)
as_unary r h l = line_as r is_unary (shape_unary (kind_in r) h l)

pub as_binary : (r : List ℕ) → 22 < kind_in r → known false (kind_in r) ≡ true → (kind_in r ≡ 53 → ⊥) → (kind_in r ≡ 54 → ⊥) → (kind_in r ≡ 55 → ⊥)
    → line_of r ≡ build is_binary (kind_in r) (sort_of r) (first_in r) (second_in r) (third_in r)
as_binary r h e c d f = line_as r is_binary (shape_binary (kind_in r) (binary_left h (known_range false (kind_in r) e).1 c d f (no_mask (kind_in r) e)))

-- one of two kinds, n and the next
as_either : (r : List ℕ) (n : ℕ) (F : Bool → Line) → n ≤ kind_in r → kind_in r ≤ suc n → (kind_in r ≡ n → line_of r ≡ F true) → (kind_in r ≡ suc n → line_of r ≡ F false) → line_of r ≡ F (eqb (kind_in r) n)
as_either r n F h l f g = go (eqb (kind_in r) n) refl
  where
    go : (b : Bool) → eqb (kind_in r) n ≡ b → line_of r ≡ F b
    go true e = f (eqb-true (kind_in r) n e)
    go false e = let d = eqb-false (kind_in r) n e in g (top (past h d) l)
      where
        top : suc n ≤ kind_in r → kind_in r ≤ suc n → kind_in r ≡ suc n
        top x y = omega arith

pub as_equality : (r : List ℕ) → 20 < kind_in r → kind_in r ≤ 22 → line_of r ≡ Line.value (sort_of r) (Expr.equality (eqb (kind_in r) 21) (first_in r) (second_in r))
as_equality r h l = as_either r 21 (λ b. Line.value (sort_of r) (Expr.equality b (first_in r) (second_in r))) h l (as_key r 21) (as_key r 22)

pub as_signal : (r : List ℕ) → 7 < kind_in r → kind_in r ≤ 10 → (kind_in r ≡ 10 → ⊥) → line_of r ≡ Line.signal (eqb (kind_in r) 8) (first_in r)
as_signal r h l d = as_either r 8 (λ b. Line.signal b (first_in r)) h (within (lt_of_le-ne l d)) (as_key r 8) (as_key r 9)

pub as_init_next : (r : List ℕ) → known false (kind_in r) ≡ true → kind_in r ≤ 7 → (kind_in r ≡ 1 → ⊥) → (kind_in r ≡ 2 → ⊥) → (kind_in r ≡ 3 → ⊥) → (kind_in r ≡ 4 → ⊥) → (kind_in r ≡ 5 → ⊥)
    → line_of r ≡ Line.init_or_next (eqb (kind_in r) 6) (sort_of r) (first_in r) (second_in r)
as_init_next r e l a₁ a₂ a₃ a₄ a₅ =
    as_either r 6 (λ b. Line.init_or_next b (sort_of r) (first_in r) (second_in r)) (past (past (past (past (past (known_range false (kind_in r) e).0 a₁) a₂) a₃) a₄) a₅) l (as_key r 6) (as_key r 7)

-- the kinds that leave one flat line
pub count_rest : (N : Notes) (r : List ℕ) → known false (kind_in r) ≡ true → (kind_in r ≡ 2 → ⊥) → (kind_in r ≡ 5 → ⊥) → (kind_in r ≡ 6 → ⊥) → (kind_in r ≡ 7 → ⊥) → (kind_in r ≡ 21 → ⊥) → (kind_in r ≡ 22 → ⊥)
    → (kind_in r ≡ 53 → ⊥) → (kind_in r ≡ 54 → ⊥) → (kind_in r ≡ 55 → ⊥) → 1 ≡ flat_count N (line_of r)
count_rest N r e a₂ a₅ a₆ a₇ b₁ b₂ c₃ c₄ c₅ = go (shape_of (kind_in r)) refl (kind_of_lem (kind_in r))
  where
    made_one : (S : Shape) → shape_of (kind_in r) ≡ S → 1 ≡ flat_count N (build S (kind_in r) (sort_of r) (first_in r) (second_in r) (third_in r)) → 1 ≡ flat_count N (line_of r)
    made_one S q h = h ∙ ap (flat_count N) (sym (line_as r S q))

    go : (S : Shape) → shape_of (kind_in r) ≡ S → KindOf S (kind_in r) → 1 ≡ flat_count N (line_of r)
    go is_bitvec q h = made_one is_bitvec q refl
    go is_array q h = absurd (a₂ h)
    go is_const q h = made_one is_const q refl
    go is_input q h = made_one is_input q refl
    go is_state q h = absurd (a₅ h)
    go is_output q h = made_one is_output q refl
    go is_unary q h = made_one is_unary q refl
    go is_binary q h = made_one is_binary q refl
    go is_ite q h = absurd (c₃ h)
    go is_read q h = absurd (c₄ h)
    go is_write q h = absurd (c₅ h)
    go is_unknown q h = made_one is_unknown q refl
    go (is_init_or_next true) q h = absurd (a₆ h)
    go (is_init_or_next false) q h = absurd (a₇ h)
    go (is_signal m) q h = made_one (is_signal m) q refl
    go (is_equality true) q h = absurd (b₁ h)
    go (is_equality false) q h = absurd (b₂ h)
