-- The index widths of the lines of an accepted table: at most 8, and 0 where a line has no type. Assumes nothing.
use Rattle.std.specs.Prelude.{Ok}
use Prim.Native.Nat.{ℕ, zero, suc, ◌≤◌, ◌<◌}
use mathlib.Core.Path.{◌≡◌, refl, sym, ap, ◌∙◌}
use mathlib.Core.Bool.{Bool, true, false}
use mathlib.Core.List.{List, [], ◌∷◌}
use native.Mathlib.Omega.{arith}
use lib.Dec.{eqb}
use lib.ListN.{length}
use lib.Seq.{get_or_at}
use borrow.Author.Tests.{eqb-true, eqb-false}
use Rattle.tables.specs.declared.Ty.{Ty}
use Rattle.tables.specs.Lines.{Line}
use Rattle.tables.specs.Layout.{lines_of}
use Rattle.tables.specs.Types.{rank, line_type, Ctx, no_ty, ty_at, grow, grow_all, no_ctx, context}
use Rattle.tables.specs.Tables.{checked}
use Rattle.tables.proofs.Values.{val_value}
use Rattle.tables.proofs.Showing.{snoc_other}
use Rattle.tables.proofs.Facts.{AllOk}
use Rattle.tables.proofs.Sound.{accepted_ok}
use Rattle.tables.proofs.Wide.{all_wide}

-- a line that has a type
pub wide_at : (t : List ℕ) (n : ℕ) → checked false t n ≡ Ok tt → (a : ℕ) → 0 < rank (ty_at (context false (lines_of false t n)) a).role → (ty_at (context false (lines_of false t n)) a).iw ≤ 8
unfolding context
wide_at t n acc a h = (all_wide false (lines_of false t n) (accepted_ok false t n acc) a h).deep

-- a line without a type has no index width
grown_flat : (c : Ctx) (ls : List Line) → ((a : ℕ) → rank (ty_at c a).role ≡ 0 → (ty_at c a).iw ≡ 0) → AllOk false c ls → (a : ℕ) → rank (ty_at (grow_all false c ls) a).role ≡ 0 → (ty_at (grow_all false c ls) a).iw ≡ 0
grown_flat c [] f k a e = f a e
grown_flat c (l ∷ ls) f k a e = grown_flat (grow false c l) ls (one_flat c l f) k.1 a e
  where
    own_flat : (c : Ctx) (l : Line) → rank (line_type false (ty_at c) l).role ≡ 0 → (line_type false (ty_at c) l).iw ≡ 0
    own_flat c (Line.bitvec w) z = refl
    own_flat c (Line.array i x) z = absurd (omega arith)
    own_flat c (Line.input x) z = absurd (omega arith)
    own_flat c (Line.state x) z = absurd (omega arith)
    own_flat c (Line.value x y) z = absurd (let q = val_value false (ty_at c) x y in omega arith)
    own_flat c (Line.init_or_next m x y w) z = refl
    own_flat c (Line.signal m x) z = refl
    own_flat c (Line.output x) z = refl
    own_flat c Line.unknown z = refl

    one_flat : (c : Ctx) (l : Line) → ((a : ℕ) → rank (ty_at c a).role ≡ 0 → (ty_at c a).iw ≡ 0) → (a : ℕ) → rank (ty_at (grow false c l) a).role ≡ 0 → (ty_at (grow false c l) a).iw ≡ 0
    one_flat c l f a z = go (eqb a (length c.tys)) refl
      where
        T : Ty
        T = line_type false (ty_at c) l

        go : (b : Bool) → eqb a (length c.tys) ≡ b → (ty_at (grow false c l) a).iw ≡ 0
        go true q =
            let e : ty_at (grow false c l) a ≡ line_type false (ty_at c) l = ap (ty_at (grow false c l)) (eqb-true a (length c.tys) q) ∙ get_or_at c.tys (line_type false (ty_at c) l) [] no_ty (length c.tys) refl in
            ap (λ (x : Ty). x.iw) e ∙ own_flat c l (sym (ap (λ (x : Ty). rank x.role) e) ∙ z)
        go false q =
            let e : ty_at (grow false c l) a ≡ ty_at c a = snoc_other c.tys (line_type false (ty_at c) l) no_ty a (eqb-false a (length c.tys) q) in
            ap (λ (x : Ty). x.iw) e ∙ f a (sym (ap (λ (x : Ty). rank x.role) e) ∙ z)

pub flat_at : (t : List ℕ) (n : ℕ) → checked false t n ≡ Ok tt → (a : ℕ) → rank (ty_at (context false (lines_of false t n)) a).role ≡ 0 → (ty_at (context false (lines_of false t n)) a).iw ≡ 0
unfolding context
flat_at t n acc a h = grown_flat no_ctx (lines_of false t n) none_flat (accepted_ok false t n acc) a h
  where
    none_flat : (a : ℕ) → rank (ty_at no_ctx a).role ≡ 0 → (ty_at no_ctx a).iw ≡ 0
    none_flat zero e = refl
    none_flat (suc a) e = refl
