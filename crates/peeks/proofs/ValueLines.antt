-- The lines that have a value are those of the kinds 3 to 5, 11 to 55 and 57 to 63, and no other number has a type of a value. Assumes nothing.
use Rattle.std.specs.Prelude.{Ok}
use Prim.Native.Nat.{ℕ, suc, ◌+◌, ◌≤◌, ◌<◌}
use mathlib.Core.Path.{◌≡◌, refl, sym, ap, ◌∙◌, subst}
use mathlib.Core.Logic.{inl, inr}
use mathlib.Core.Bool.{true, false}
use mathlib.Core.List.{List}
use native.Mathlib.Omega.{arith}
use lib.ListN.{length, take, get_or, get_or-eq_default}
use borrow.Author.Tests.{le-leb, lt-leb}
use Rattle.tables.specs.Lines.{Line, Expr, Shape, is_bitvec, is_array, is_const, is_input, is_state, is_output, is_unary, is_binary, is_ite, is_read, is_write, is_unknown, is_init_or_next, is_signal, is_equality, shape_of, build, line_of, kind_in, sort_in, first_in, second_in, third_in}
use Rattle.tables.specs.Layout.{record_at, lines_of}
use Rattle.tables.specs.Types.{rank, is_value, no_ty, ty_at, given}
use Rattle.tables.specs.Tables.{checked}
use Rattle.tables.proofs.Facts.{OkLine}
use Rattle.tables.proofs.Shapes.{each_binary, KindOf, kind_of_lem, line_as}
use Rattle.tables.proofs.Every.{at_each, from_to}
use Rattle.tables.proofs.Values.{val_value}
use Rattle.circuits.specs.Layout.{Layout, type_at, line_type_in, lay, no_layout, lay_all, layout}
use Rattle.peeks.specs.Peek.{value_kind}
use Rattle.circuits.proofs.Laid.{type_new, more_types, later}
use Rattle.circuits.proofs.Walked.{line_here, ok_here, sound_at, number_at, later_at}
use Rattle.circuits.proofs.Placing.{lines_here}

unary_value : (k : ℕ) → 11 ≤ k → k ≤ 20 → value_kind k ≡ true
unary_value k h l = from_to value_kind 11 10 k (at_each (λ (m : ℕ). value_kind (m + 11)) 10 tt) h (omega arith)

module _ (Y : Layout) (r : List ℕ) (ok : OkLine false (ty_at Y.ctx) (given Y.ctx) (line_of r)) where
  yes : (S : Shape) → shape_of (kind_in r) ≡ S → 2 ≤ rank (line_type_in false Y (build S (kind_in r) (sort_in r) (first_in r) (second_in r) (third_in r))).role → value_kind (kind_in r) ≡ true
      → is_value (line_type_in false Y (line_of r)) ≡ value_kind (kind_in r)
  yes S e q v = ap (λ (l : Line). is_value (line_type_in false Y l)) (line_as r S e) ∙ le-leb 2 _ q ∙ sym v

  no : (S : Shape) → shape_of (kind_in r) ≡ S → rank (line_type_in false Y (build S (kind_in r) (sort_in r) (first_in r) (second_in r) (third_in r))).role < 2 → value_kind (kind_in r) ≡ false
      → is_value (line_type_in false Y (line_of r)) ≡ value_kind (kind_in r)
  no S e q v = ap (λ (l : Line). is_value (line_type_in false Y l)) (line_as r S e) ∙ lt-leb 2 _ q ∙ sym v

  by : (S : Shape) → shape_of (kind_in r) ≡ S → OkLine false (ty_at Y.ctx) (given Y.ctx) (build S (kind_in r) (sort_in r) (first_in r) (second_in r) (third_in r))
  by S e = subst (OkLine false (ty_at Y.ctx) (given Y.ctx)) (line_as r S e) ok

  val : (e : Expr) → 2 ≤ rank (line_type_in false Y (Line.value (sort_in r) e)).role
  val e = val_value false (ty_at Y.ctx) (sort_in r) e

  pub value_of_lem : is_value (line_type_in false Y (line_of r)) ≡ value_kind (kind_in r)
  value_of_lem = go (shape_of (kind_in r)) refl (kind_of_lem (kind_in r))
    where
      go : (S : Shape) → shape_of (kind_in r) ≡ S → KindOf S (kind_in r) → is_value (line_type_in false Y (line_of r)) ≡ value_kind (kind_in r)
      go is_bitvec e k = no is_bitvec e (omega arith) (ap value_kind k)
      go is_array e k = no is_array e (omega arith) (ap value_kind k)
      go is_const e k = yes is_const e (val (Expr.const (first_in r))) (ap value_kind k)
      go is_input e k = yes is_input e (omega arith) (ap value_kind k)
      go is_state e k = yes is_state e (omega arith) (ap value_kind k)
      go is_output e k = no is_output e (omega arith) (ap value_kind k)
      go is_unary e (inl k) = yes is_unary e (val (Expr.unary (kind_in r) (first_in r) (second_in r) (third_in r))) (unary_value (kind_in r) k.0 k.1)
      go is_unary e (inr k) = absurd (omega (arith, (by is_unary e).kind.1))
      go is_binary e k = yes is_binary e (val (Expr.binary (kind_in r) (first_in r) (second_in r))) (each_binary value_kind tt tt (kind_in r) k)
      go is_ite e k = yes is_ite e (val (Expr.ite (first_in r) (second_in r) (third_in r))) (ap value_kind k)
      go is_read e k = yes is_read e (val (Expr.read (first_in r) (second_in r))) (ap value_kind k)
      go is_write e k = yes is_write e (val (Expr.write (first_in r) (second_in r) (third_in r))) (ap value_kind k)
      go is_unknown e k = absurd (by is_unknown e)
      go (is_init_or_next true) e k = no (is_init_or_next true) e (omega arith) (ap value_kind k)
      go (is_init_or_next false) e k = no (is_init_or_next false) e (omega arith) (ap value_kind k)
      go (is_signal true) e k = no (is_signal true) e (omega arith) (ap value_kind k)
      go (is_signal false) e k = no (is_signal false) e (omega arith) (ap value_kind k)
      go (is_equality true) e k = yes (is_equality true) e (val (Expr.equality true (first_in r) (second_in r))) (ap value_kind k)
      go (is_equality false) e k = yes (is_equality false) e (val (Expr.equality false (first_in r) (second_in r))) (ap value_kind k)

module _ (t : List ℕ) (n : ℕ) (acc : checked false t n ≡ Ok tt) where
  -- the line of the record at the place i
  pub value_line : (i : ℕ) → i < n → is_value (type_at (layout false (lines_of false t n)) (suc i)) ≡ value_kind (kind_in (record_at false t i))
  value_line i h =
      let Y = lay_all false no_layout (take i (lines_of false t n)) in
      let l = get_or (lines_of false t n) i Line.unknown in
      let el = line_here false t n acc i h in
      let q : suc i ≡ length Y.ctx.tys = omega (arith, number_at false t n acc i (omega arith)) in
      let ty : type_at (layout false (lines_of false t n)) (suc i) ≡ line_type_in false Y l =
      (later_at false t n acc i h).type (suc i) (omega (arith, more_types false Y l)) ∙ ap (type_at (lay false Y l)) q ∙ type_new false Y l (sound_at false t n acc i).long in
      ap is_value (ty ∙ ap (line_type_in false Y) el) ∙ value_of_lem Y (record_at false t i) (subst (OkLine false (ty_at Y.ctx) (given Y.ctx)) el (ok_here false t n acc i h))

  -- line 0 and the lines past the count
  pub no_value_lem : is_value (type_at (layout false (lines_of false t n)) 0) ≡ false
  unfolding layout
  no_value_lem = ap is_value ((later false no_layout (lines_of false t n)).type 0 (omega arith))

  pub past_value : (a : ℕ) → n < a → is_value (type_at (layout false (lines_of false t n)) a) ≡ false
  past_value a h = ap is_value (get_or-eq_default (layout false (lines_of false t n)).ctx.tys no_ty {n = a} (omega (arith, lines_here false t n acc)))
