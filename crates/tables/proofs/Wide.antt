-- The widths of every line of an accepted table: 1 to 64, and index widths of at most 8. Assumes nothing.
use Prim.Native.Nat.{ℕ, zero, suc, ◌≤◌}
use mathlib.Core.Path.{◌≡◌, refl, sym, ap, ◌∙◌, subst}
use mathlib.Core.Bool.{Bool, true, false}
use mathlib.Core.List.{List, [], ◌∷◌}
use native.Mathlib.Omega.{arith}
use lib.ListN.{length}
use lib.Seq.{get_or_at}
use Rattle.tables.specs.declared.Role.{Role}
use Rattle.tables.specs.declared.Role.TheVariants.{Sort, Marked, State}
use Rattle.tables.specs.declared.Ty.{Ty}
use Rattle.tables.specs.Pick.{pick, inside}
use Rattle.tables.specs.Lines.{Line, Expr}
use Rattle.tables.specs.Types.{rank, ty, no_ty, sort_at, line_type, Ctx, ty_at, given, grow, grow_all, no_ctx}
use Rattle.tables.proofs.Shapes.{range}
use Rattle.tables.proofs.Showing.{snoc_other, by_place}
use Rattle.tables.proofs.Values.{val_iw, val_w}
use Rattle.tables.proofs.Facts.{OkLine, OkExpr, AllOk}

pub record Wide (t : Ty) : Type 0 where
  pub least : 1 ≤ t.w
  pub most : t.w ≤ 64
  pub deep : t.iw ≤ 8

-- every line that is a sort or a value
abbrev pub AllWide : (ℕ → Ty) → Type 0
AllWide L = (a : ℕ) → 1 ≤ rank (L a).role → Wide (L a)

pub sort_wide : (p : Bool) (L : ℕ → Ty) (s : ℕ) → AllWide L → rank (sort_at p L s).role ≡ 1 → Wide (sort_at p L s)
sort_wide false L s h e = h s (omega arith)
sort_wide true L s h e = go (inside 1 64 s) refl e
  where
    go : (b : Bool) → inside 1 64 s ≡ b → rank (pick b (ty Sort 0 s) no_ty).role ≡ 1 → Wide (pick b (ty Sort 0 s) no_ty)
    go true q z = let r = range 1 64 s q in record { least = r.0; most = r.1; deep = omega arith }
    go false q z = absurd (omega arith)

module _ (p : Bool) (L : ℕ → Ty) (G : Bool → ℕ → Bool) (h : AllWide L) where
  sort_of_value : (s : ℕ) (e : Expr) → OkExpr p L (sort_at p L s) e → rank (sort_at p L s).role ≡ 1
  sort_of_value s (Expr.const v) k = k.sort.is
  sort_of_value s (Expr.unary n a x y) k = k.sort.is
  sort_of_value s (Expr.binary n a b) k = k.sort.is
  sort_of_value s (Expr.equality e a b) k = k.sort.is
  sort_of_value s (Expr.ite c a b) k = k.sort.is
  sort_of_value s (Expr.read a i) k = k.sort.is
  sort_of_value s (Expr.write a i v) k = k.sort.is

  like : (t : Ty) (c : Role) → Wide t → Wide (ty c t.iw t.w)
  like t c k = record { least = k.least; most = k.most; deep = k.deep }

  -- the line's own type
  pub line_wide : (l : Line) → OkLine p L G l → 1 ≤ rank (line_type p L l).role → Wide (line_type p L l)
  line_wide (Line.bitvec w) k q = record { least = k.least; most = k.most; deep = omega arith }
  line_wide (Line.array i e) k q =
      let m = h e (omega (arith, k.element.is)) in
      record { least = m.least; most = m.most; deep = k.most }
  line_wide (Line.input s) k q = like (sort_at p L s) Marked (sort_wide p L s h k.is)
  line_wide (Line.state s) k q = like (sort_at p L s) State (sort_wide p L s h k.is)
  line_wide (Line.value s e) k q =
      let m = sort_wide p L s h (sort_of_value s e k) in
      let i = val_iw p L s e in
      let w = val_w p L s e in
      record { least = omega (arith, m.least); most = omega (arith, m.most); deep = omega (arith, m.deep) }
  line_wide (Line.init_or_next m s x v) k q = absurd (omega arith)
  line_wide (Line.signal m a) k q = absurd (omega arith)
  line_wide (Line.output a) k q = absurd (omega arith)
  line_wide Line.unknown k q = absurd k

pub grow_wide : (p : Bool) (c : Ctx) (l : Line) → AllWide (ty_at c) → OkLine p (ty_at c) (given c) l → AllWide (ty_at (grow p c l))
grow_wide p c l h k a q =
    by_place a (length c.tys)
    (λ e.
    let new : ty_at (grow p c l) a ≡ line_type p (ty_at c) l = ap (ty_at (grow p c l)) e ∙ get_or_at c.tys (line_type p (ty_at c) l) [] no_ty (length c.tys) refl in
    subst Wide (sym new) (line_wide p (ty_at c) (given c) h l k (subst (λ (t : Ty). 1 ≤ rank t.role) new q)))
    (λ n.
    let old : ty_at (grow p c l) a ≡ ty_at c a = snoc_other c.tys (line_type p (ty_at c) l) no_ty a n in
    subst Wide (sym old) (h a (subst (λ (t : Ty). 1 ≤ rank t.role) old q)))

none_wide : AllWide (ty_at no_ctx)
none_wide zero q = absurd (omega arith)
none_wide (suc a) q = absurd (omega arith)

pub all_wide : (p : Bool) (ls : List Line) → AllOk p no_ctx ls → AllWide (ty_at (grow_all p no_ctx ls))
all_wide p ls k = go no_ctx ls none_wide k
  where
    go : (c : Ctx) (ls : List Line) → AllWide (ty_at c) → AllOk p c ls → AllWide (ty_at (grow_all p c ls))
    go c [] h k = h
    go c (l ∷ ls) h k = go (grow p c l) ls (grow_wide p c l h k.0) k.1
