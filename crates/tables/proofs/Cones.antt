-- The lines that a value of accepted lines uses are values that stand before it. Assumes nothing.
use Prim.Native.Nat.{ℕ, zero, suc, ◌+◌, ◌≤◌, ◌<◌}
use mathlib.Core.Path.{◌≡◌, sym, ap, subst}
use mathlib.Core.Bool.{Bool, true}
use mathlib.Core.List.{List, [], ◌∷◌}
use native.Mathlib.Omega.{arith}
use lib.Dec.{eqb}
use lib.ListN.{get_or}
use borrow.Author.Tests.{eqb-true}
use Rattle.tables.specs.declared.Ty.{Ty}
use Rattle.tables.specs.Pick.{among}
use Rattle.tables.specs.Lines.{Line, Expr}
use Rattle.tables.specs.Types.{rank, sort_at, ty_at, given, no_ctx, grow_all}
use Rattle.tables.specs.Cone.{line_numbered, uses_expr, uses}
use Rattle.tables.proofs.Kept.{either, no_yes}
use Rattle.tables.proofs.Showing.{earlier}
use Rattle.tables.proofs.Facts.{OkExpr, OkLine, AllOk}
use Rattle.tables.proofs.Entries.{Entry, entry, keeps_type, length_all}

-- every operand of a value is a value
abbrev Values : (ℕ → Ty) → List ℕ → Type 0
Values L [] = Unit {0}
Values L (a ∷ r) = (2 ≤ rank (L a).role) × Values L r

value_at : (L : ℕ → Ty) (r : List ℕ) → Values L r → (a : ℕ) → among a r ≡ true → 2 ≤ rank (L a).role
value_at L [] k a e = absurd (no_yes e)
value_at L (x ∷ r) k a e = either (eqb a x) (among a r) e (λ q. subst (λ (n : ℕ). 2 ≤ rank (L n).role) (sym (eqb-true a x q)) k.0) (λ q. value_at L r k.1 a q)

operands : (p : Bool) (L : ℕ → Ty) (t : Ty) (e : Expr) → OkExpr p L t e → Values L (uses_expr e)
operands p L t (Expr.const v) k = tt
operands p L t (Expr.unary n a x y) k = (k.arg.is, tt)
operands p L t (Expr.binary n a b) k = (k.left.is, (k.right.is, tt))
operands p L t (Expr.equality e a b) k = (k.left.is, (k.right.is, tt))
operands p L t (Expr.ite c a b) k = (k.cond.is, (k.left.is, (k.right.is, tt)))
operands p L t (Expr.read a i) k = (k.arr.is, (k.index.is, tt))
operands p L t (Expr.write a i v) k = (k.arr.is, (k.index.is, (k.value.is, tt)))

pub operand_value : (p : Bool) (L : ℕ → Ty) (t : Ty) (e : Expr) → OkExpr p L t e → (a : ℕ) → among a (uses_expr e) ≡ true → 2 ≤ rank (L a).role
operand_value p L t e k a m = value_at L (uses_expr e) (operands p L t e k) a m

used_value : (p : Bool) (L : ℕ → Ty) (G : Bool → ℕ → Bool) (l : Line) → OkLine p L G l → (a : ℕ) → among a (uses l) ≡ true → 2 ≤ rank (L a).role
used_value p L G (Line.bitvec w) k a m = absurd (no_yes m)
used_value p L G (Line.array i e) k a m = absurd (no_yes m)
used_value p L G (Line.input s) k a m = absurd (no_yes m)
used_value p L G (Line.state s) k a m = absurd (no_yes m)
used_value p L G (Line.value s e) k a m = operand_value p L (sort_at p L s) e k a m
used_value p L G (Line.init_or_next n s q v) k a m = absurd (no_yes m)
used_value p L G (Line.signal n x) k a m = absurd (no_yes m)
used_value p L G (Line.output x) k a m = absurd (no_yes m)
used_value p L G Line.unknown k a m = absurd (no_yes m)

-- what is known of a line that a value line of accepted lines uses
pub record Used (v a : ℕ) (now before : Ty) : Type 0 where
  pub below : a < v
  pub same : now ≡ before
  pub is : 2 ≤ rank now.role

module _ (p : Bool) (C : List Line) (ok : AllOk p no_ctx C) where
  first_type : rank (ty_at (grow_all p no_ctx C) 0).role ≡ 0
  first_type = ap (λ (t : Ty). rank t.role) (keeps_type p no_ctx C 0 (omega arith))

  -- a line with a role has a number from 1 on
  pub some_line : (v : ℕ) → 1 ≤ rank (ty_at (grow_all p no_ctx C) v).role → 1 ≤ v
  some_line zero h = absurd (omega (arith, first_type))
  some_line (suc i) h = omega arith

  -- what it was when it was read
  pub line_entry : (v : ℕ) → 1 ≤ rank (ty_at (grow_all p no_ctx C) v).role → Entry p (grow_all p no_ctx C) v (line_numbered C v)
  line_entry zero h = absurd (omega (arith, first_type))
  line_entry (suc i) h =
      subst (λ (n : ℕ). Entry p (grow_all p no_ctx C) n (get_or C i Line.unknown)) (one i)
      (entry p no_ctx C ok i (omega (arith, earlier (grow_all p no_ctx C).tys (suc i) h, length_all p no_ctx C)))
    where
      one : (i : ℕ) → 1 + i ≡ suc i
      one i = omega arith

  pub used : (v : ℕ) (E : Entry p (grow_all p no_ctx C) v (line_numbered C v)) (a : ℕ) → among a (uses (line_numbered C v)) ≡ true
      → Used v a (ty_at (grow_all p no_ctx C) a) (ty_at E.before a)
  used v E a m =
      let t = used_value p (ty_at E.before) (given E.before) (line_numbered C v) E.ok a m in
      let z = earlier E.before.tys a (omega arith) in
      let b : a < v = omega (arith, E.count) in
      let o = E.old a b in
      record { below = b; same = o; is = subst (λ (y : Ty). 2 ≤ rank y.role) (sym o) t }
