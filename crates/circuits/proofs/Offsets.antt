-- Where the cells of the lines stand in the work area: a line more leaves those of the lines before it, its own begin where theirs end. Assumes nothing.
use Prim.Native.Nat.{ℕ, zero, suc, ◌+◌, ◌≤◌}
use mathlib.Core.Path.{◌≡◌, refl, sym, ap, ◌∙◌}
use mathlib.Core.Bool.{Bool, true, false}
use mathlib.Core.List.{List, [], ◌∷◌, ◌++◌}
use native.Mathlib.Omega.{arith}
use native.Mathlib.Numerals.{add-one}
use lib.ListN.{length, get_or, length-append}
use lib.Seq.{get_or_at}
use borrow.Author.Tests.{le-leb, leb-true}
use Rattle.tables.specs.declared.Ty.{Ty}
use Rattle.tables.specs.Pick.{pick}
use Rattle.tables.specs.Lines.{Line}
use Rattle.tables.specs.Types.{rank, no_ty, is_value, ty_at}
use Rattle.tables.proofs.Showing.{snoc_other, earlier}
use Rattle.tables.proofs.Values.{val_value}
use Rattle.circuits.specs.Layout.{Layout, type_at, size, line_type_in, lay}
use Rattle.circuits.specs.Model.Places.{cells_before, off_at}
use Rattle.circuits.specs.Model.Passes.{spot_by}

-- ---- the cells of the first lines, by their types

before_old : (ts : List Ty) (t : Ty) (a : ℕ) → a ≤ length ts → cells_before (ts ++ (t ∷ [])) a ≡ cells_before ts a
before_old [] t zero h = refl
before_old [] t (suc a) h = absurd (omega arith)
before_old (y ∷ ts) t zero h = refl
before_old (y ∷ ts) t (suc a) h = ap (λ (n : ℕ). pick (is_value y) (size y) 0 + n) (before_old ts t a (omega arith))

before_new : (ts : List Ty) (t : Ty) → cells_before (ts ++ (t ∷ [])) (suc (length ts)) ≡ cells_before ts (length ts) + pick (is_value t) (size t) 0
before_new [] t = omega arith
before_new (y ∷ ts) t = omega (arith, before_new ts t)

before_low : (ts : List Ty) (a : ℕ) → 2 ≤ rank (get_or ts a no_ty).role → cells_before ts a + size (get_or ts a no_ty) ≤ cells_before ts (length ts)
before_low [] zero q = absurd (omega arith)
before_low [] (suc a) q = absurd (omega arith)
before_low (y ∷ ts) zero q = rw (le-leb 2 (rank y.role) q) (omega arith)
before_low (y ∷ ts) (suc a) q = omega (arith, before_low ts a q)

-- ---- a line more

pick_same : (b : Bool) (x y : ℕ) → (b ≡ true → x ≡ y) → pick b x 0 ≡ pick b y 0
pick_same true x y f = f refl
pick_same false x y f = refl

pub off_old : (p : Bool) (Y : Layout) (l : Line) (a : ℕ) → (a ≡ length Y.ctx.tys → ⊥) → off_at (lay p Y l) a ≡ off_at Y a
unfolding off_at
off_old p Y l a n =
    ap (λ (t : Ty). pick (is_value t) (cells_before (lay p Y l).ctx.tys a) 0) (snoc_other Y.ctx.tys (line_type_in p Y l) no_ty a n)
    ∙ pick_same (is_value (type_at Y a)) (cells_before (lay p Y l).ctx.tys a) (cells_before Y.ctx.tys a)
    (λ e. before_old Y.ctx.tys (line_type_in p Y l) a (omega (arith, earlier Y.ctx.tys a (omega (arith, leb-true 2 (rank (type_at Y a).role) e)))))

-- the cells counted so far are those of the lines so far
abbrev pub AllCounted : Layout → Type 0
AllCounted Y = cells_before Y.ctx.tys (length Y.ctx.tys) ≡ Y.counts.cells

-- a line adds the cells of its type where it has a value
line_cells : (p : Bool) (Y : Layout) (l : Line) → (lay p Y l).counts.cells ≡ Y.counts.cells + pick (is_value (line_type_in p Y l)) (size (line_type_in p Y l)) 0
line_cells p Y (Line.bitvec w) = omega arith
line_cells p Y (Line.array i e) = omega arith
line_cells p Y (Line.input s) = refl
line_cells p Y (Line.state s) = refl
line_cells p Y (Line.value s e) = rw (le-leb 2 (rank (line_type_in p Y (Line.value s e)).role) (val_value p (ty_at Y.ctx) s e)) refl
line_cells p Y (Line.init_or_next m s q v) = omega arith
line_cells p Y (Line.signal m a) = omega arith
line_cells p Y (Line.output a) = omega arith
line_cells p Y Line.unknown = omega arith

pub counted_more : (p : Bool) (Y : Layout) (l : Line) → AllCounted Y → AllCounted (lay p Y l)
counted_more p Y l e =
    ap (cells_before (lay p Y l).ctx.tys) (length-append Y.ctx.tys (line_type_in p Y l ∷ []) ∙ add-one (length Y.ctx.tys)) ∙ before_new Y.ctx.tys (line_type_in p Y l)
    ∙ ap (λ (n : ℕ). n + pick (is_value (line_type_in p Y l)) (size (line_type_in p Y l)) 0) e ∙ sym (line_cells p Y l)

-- where the cells of a line begin, by its kind
off_by : (p : Bool) (Y : Layout) (l : Line) → pick (is_value (line_type_in p Y l)) Y.counts.cells 0 ≡ (spot_by Y.counts l).off
off_by p Y (Line.bitvec w) = refl
off_by p Y (Line.array i e) = refl
off_by p Y (Line.input s) = refl
off_by p Y (Line.state s) = refl
off_by p Y (Line.value s e) = rw (le-leb 2 (rank (line_type_in p Y (Line.value s e)).role) (val_value p (ty_at Y.ctx) s e)) refl
off_by p Y (Line.init_or_next m s q v) = refl
off_by p Y (Line.signal m a) = refl
off_by p Y (Line.output a) = refl
off_by p Y Line.unknown = refl

pub off_new : (p : Bool) (Y : Layout) (l : Line) → AllCounted Y → off_at (lay p Y l) (length Y.ctx.tys) ≡ (spot_by Y.counts l).off
unfolding off_at
off_new p Y l e =
    ap (λ (t : Ty). pick (is_value t) (cells_before (lay p Y l).ctx.tys (length Y.ctx.tys)) 0) (get_or_at Y.ctx.tys (line_type_in p Y l) [] no_ty (length Y.ctx.tys) refl)
    ∙ ap (λ (n : ℕ). pick (is_value (line_type_in p Y l)) n 0) (before_old Y.ctx.tys (line_type_in p Y l) (length Y.ctx.tys) (omega arith) ∙ e) ∙ off_by p Y l

pub off_value : (p : Bool) (Y : Layout) (l : Line) → AllCounted Y → 2 ≤ rank (line_type_in p Y l).role → off_at (lay p Y l) (length Y.ctx.tys) ≡ Y.counts.cells
off_value p Y l e q = off_new p Y l e ∙ sym (off_by p Y l) ∙ rw (le-leb 2 (rank (line_type_in p Y l).role) q) refl

-- the cells of a value lie below those counted
pub off_low : (Y : Layout) (a : ℕ) → AllCounted Y → 2 ≤ rank (type_at Y a).role → off_at Y a + size (type_at Y a) ≤ Y.counts.cells
unfolding off_at
off_low Y a e q = rw (le-leb 2 (rank (type_at Y a).role) q) (omega (arith, e, before_low Y.ctx.tys a q))
