-- The type of a value line: its sort's widths, and a value's role. Assumes nothing.
use Prim.Native.Nat.{ℕ, ◌≤◌}
use mathlib.Core.Path.{◌≡◌, refl}
use mathlib.Core.Bool.{Bool, true, false}
use native.Mathlib.Omega.{arith}
use lib.Dec.{leb}
use borrow.Author.Tests.{leb-false}
use Rattle.tables.specs.declared.Role.{Role}
use Rattle.tables.specs.declared.Role.TheVariants.{Other, Sort, Unmarked, Marked, State}
use Rattle.tables.specs.declared.Ty.{Ty}
use Rattle.tables.specs.Lines.{Line, Expr, words_of, first_in, second_in, third_in}
use Rattle.tables.specs.Types.{rank, marked, sort_at, value_role, line_type, marked_expr}

-- ---- the role of a value, and its mark

pub role_least : (m : Bool) → 2 ≤ rank (value_role m)
role_least true = omega arith
role_least false = omega arith

pub role_most : (m : Bool) → rank (value_role m) ≤ 3
role_most true = omega arith
role_most false = omega arith

pub role_mark : (m : Bool) → leb 3 (rank (value_role m)) ≡ m
role_mark true = refl
role_mark false = refl

pub role_back : (c : Role) → 2 ≤ rank c → rank c ≤ 3 → value_role (leb 3 (rank c)) ≡ c
role_back Other h l = absurd (omega arith)
role_back Sort h l = absurd (omega arith)
role_back Unmarked h l = refl
role_back Marked h l = refl
role_back State h l = absurd (omega arith)

pub unmarked_value : (t : Ty) → 2 ≤ rank t.role → marked t ≡ false → rank t.role ≡ 2
unmarked_value t h e = omega (arith, leb-false 3 (rank t.role) e)

-- ---- the type of a value line

module _ (p : Bool) (L : ℕ → Ty) (s : ℕ) where
  pub val_iw : (e : Expr) → (line_type p L (Line.value s e)).iw ≡ (sort_at p L s).iw
  val_iw (Expr.const v) = refl
  val_iw (Expr.unary k a x y) = refl
  val_iw (Expr.binary k a b) = refl
  val_iw (Expr.equality e a b) = refl
  val_iw (Expr.ite c a b) = refl
  val_iw (Expr.read a i) = refl
  val_iw (Expr.write a i v) = refl

  pub val_w : (e : Expr) → (line_type p L (Line.value s e)).w ≡ (sort_at p L s).w
  val_w (Expr.const v) = refl
  val_w (Expr.unary k a x y) = refl
  val_w (Expr.binary k a b) = refl
  val_w (Expr.equality e a b) = refl
  val_w (Expr.ite c a b) = refl
  val_w (Expr.read a i) = refl
  val_w (Expr.write a i v) = refl

  -- it has a value's role, and is no state
  pub val_value : (e : Expr) → 2 ≤ rank (line_type p L (Line.value s e)).role
  val_value e = let r = words_of (Line.value s e) in role_least (marked_expr e (L (first_in r)) (L (second_in r)) (L (third_in r)))

  pub val_most : (e : Expr) → rank (line_type p L (Line.value s e)).role ≤ 3
  val_most e = let r = words_of (Line.value s e) in role_most (marked_expr e (L (first_in r)) (L (second_in r)) (L (third_in r)))
