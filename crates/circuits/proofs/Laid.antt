-- What is known of the layout of lines that keep the rules: widths, and that every value's cells, and every state's words, lie below what was counted. Assumes nothing.
use Prim.Native.Nat.{ℕ, zero, suc, ◌+◌, ◌*◌, ◌≤◌, ◌<◌}
use mathlib.Core.Path.{◌≡◌, refl, sym, ap, ◌∙◌, subst}
use mathlib.Core.Bool.{Bool}
use mathlib.Core.List.{List, [], ◌∷◌, ◌++◌}
use native.Mathlib.Omega.{arith}
use lib.Pow.{pow_mono}
use lib.ListN.{length, get_or, take, length-append, get_or-append}
use lib.Seq.{get_or_at}
use Rattle.tables.specs.declared.Ty.{Ty}
use Rattle.tables.specs.Lines.{Line, Expr}
use Rattle.tables.specs.Types.{rank, no_ty, line_type, ty_at, given}
use Rattle.tables.proofs.Showing.{snoc_other, by_place}
use Rattle.tables.proofs.Values.{val_value, val_most}
use Rattle.tables.proofs.Wide.{AllWide, line_wide, grow_wide}
use Rattle.tables.proofs.Facts.{OkLine, AllOk}
use Rattle.circuits.specs.Layout.{Counts, Layout, type_at, place_at, size, line_type_in, place_of, counts_after, no_layout, lay, lay_all}
use Rattle.circuits.specs.Model.Places.{off_at}
use Rattle.circuits.proofs.Offsets.{AllCounted, off_old, counted_more, off_low}

-- ---- one line more

module _ (p : Bool) (Y : Layout) (l : Line) (long : length Y.places ≡ length Y.ctx.tys) where
  pub type_new : type_at (lay p Y l) (length Y.ctx.tys) ≡ line_type_in p Y l
  type_new = get_or_at Y.ctx.tys (line_type_in p Y l) [] no_ty (length Y.ctx.tys) refl

  pub place_new : place_at (lay p Y l) (length Y.ctx.tys) ≡ place_of Y l
  place_new = get_or_at Y.places (place_of Y l) [] 0 (length Y.ctx.tys) long

  pub type_old : (a : ℕ) → (a ≡ length Y.ctx.tys → ⊥) → type_at (lay p Y l) a ≡ type_at Y a
  type_old a n = snoc_other Y.ctx.tys (line_type_in p Y l) no_ty a n

  pub place_old : (a : ℕ) → (a ≡ length Y.ctx.tys → ⊥) → place_at (lay p Y l) a ≡ place_at Y a
  place_old a n = snoc_other Y.places (place_of Y l) 0 a (λ e. n (e ∙ long))

pub more_types : (p : Bool) (Y : Layout) (l : Line) → length (lay p Y l).ctx.tys ≡ length Y.ctx.tys + 1
more_types p Y l = length-append Y.ctx.tys (line_type_in p Y l ∷ [])

pub more_places : (p : Bool) (Y : Layout) (l : Line) → length (lay p Y l).places ≡ length Y.places + 1
more_places p Y l = length-append Y.places (place_of Y l ∷ [])

-- ---- the counts grow, by at most the line's cells

pub record Grew (c d : Counts) (m : ℕ) : Type 0 where
  pub cells : c.cells ≤ d.cells
  pub states : c.states ≤ d.states
  pub inputs : c.inputs ≤ d.inputs
  pub signals : c.signals ≤ d.signals
  pub cells_most : d.cells ≤ c.cells + m
  pub states_most : d.states ≤ c.states + m
  pub inputs_most : d.inputs ≤ c.inputs + 1
  pub signals_most : d.signals ≤ c.signals + 1

same_counts : (c : Counts) (m : ℕ) → Grew c c m
same_counts c m =
    record { cells = omega arith; states = omega arith; inputs = omega arith; signals = omega arith; cells_most = omega arith; states_most = omega arith; inputs_most = omega arith; signals_most = omega arith }

pub grew : (c : Counts) (m : ℕ) (l : Line) → Grew c (counts_after c m l) m
grew c m (Line.bitvec w) = same_counts c m
grew c m (Line.array i e) = same_counts c m
grew c m (Line.input s) =
    record { cells = omega arith; states = omega arith; inputs = omega arith; signals = omega arith; cells_most = omega arith; states_most = omega arith; inputs_most = omega arith; signals_most = omega arith }
grew c m (Line.state s) =
    record { cells = omega arith; states = omega arith; inputs = omega arith; signals = omega arith; cells_most = omega arith; states_most = omega arith; inputs_most = omega arith; signals_most = omega arith }
grew c m (Line.value s e) =
    record { cells = omega arith; states = omega arith; inputs = omega arith; signals = omega arith; cells_most = omega arith; states_most = omega arith; inputs_most = omega arith; signals_most = omega arith }
grew c m (Line.init_or_next n s q v) = same_counts c m
grew c m (Line.signal n a) =
    record { cells = omega arith; states = omega arith; inputs = omega arith; signals = omega arith; cells_most = omega arith; states_most = omega arith; inputs_most = omega arith; signals_most = omega arith }
grew c m (Line.output a) = same_counts c m
grew c m Line.unknown = same_counts c m

-- ---- what is known of all lines

pub record Sound (Y : Layout) : Type 0 where
  pub long : length Y.places ≡ length Y.ctx.tys
  pub wide : AllWide (ty_at Y.ctx)
  pub counted : AllCounted Y
  pub room : (a : ℕ) → rank (type_at Y a).role ≡ 4 → place_at Y a + size (type_at Y a) ≤ Y.counts.states
  pub few_cells : Y.counts.cells ≤ 256 * length Y.ctx.tys
  pub few_states : Y.counts.states ≤ 256 * length Y.ctx.tys
  pub few_inputs : Y.counts.inputs ≤ length Y.ctx.tys
  pub few_signals : Y.counts.signals ≤ length Y.ctx.tys

-- the cells of a value lie below those counted
pub low : {Y : Layout} → Sound Y → (a : ℕ) → 2 ≤ rank (type_at Y a).role → off_at Y a + size (type_at Y a) ≤ Y.counts.cells
low {Y} S a q = off_low Y a S.counted q

-- the line's own type and place
record New (t : Ty) (q : ℕ) (d : Counts) : Type 0 where
  deep : t.iw ≤ 8
  room : rank t.role ≡ 4 → q + size t ≤ d.states

pub not_four : (p : Bool) (L : ℕ → Ty) (s : ℕ) (e : Expr) → rank (line_type p L (Line.value s e)).role ≡ 4 → ⊥
not_four p L s e q = omega (arith, val_most p L s e)

pub line_deep : (p : Bool) (Y : Layout) (l : Line) → AllWide (ty_at Y.ctx) → OkLine p (ty_at Y.ctx) (given Y.ctx) l → (line_type_in p Y l).iw ≤ 8
line_deep p Y (Line.bitvec w) h ok = omega arith
line_deep p Y (Line.array i e) h ok = ok.most
line_deep p Y (Line.input s) h ok = (line_wide p (ty_at Y.ctx) (given Y.ctx) h (Line.input s) ok (omega arith)).deep
line_deep p Y (Line.state s) h ok = (line_wide p (ty_at Y.ctx) (given Y.ctx) h (Line.state s) ok (omega arith)).deep
line_deep p Y (Line.value s e) h ok =
    let v = val_value p (ty_at Y.ctx) s e in
    (line_wide p (ty_at Y.ctx) (given Y.ctx) h (Line.value s e) ok (omega arith)).deep
line_deep p Y (Line.init_or_next m s q v) h ok = omega arith
line_deep p Y (Line.signal m a) h ok = omega arith
line_deep p Y (Line.output a) h ok = omega arith
line_deep p Y Line.unknown h ok = absurd ok

new_line : (p : Bool) (Y : Layout) (l : Line) → AllWide (ty_at Y.ctx) → OkLine p (ty_at Y.ctx) (given Y.ctx) l → New (line_type_in p Y l) (place_of Y l) (lay p Y l).counts
new_line p Y (Line.bitvec w) h ok = record { deep = omega arith; room = λ q. absurd (omega arith) }
new_line p Y (Line.array i e) h ok = record { deep = ok.most; room = λ q. absurd (omega arith) }
new_line p Y (Line.input s) h ok = record { deep = line_deep p Y (Line.input s) h ok; room = λ q. absurd (omega arith) }
new_line p Y (Line.state s) h ok = record { deep = line_deep p Y (Line.state s) h ok; room = λ q. omega arith }
new_line p Y (Line.value s e) h ok = record { deep = line_deep p Y (Line.value s e) h ok; room = λ q. absurd (not_four p (ty_at Y.ctx) s e q) }
new_line p Y (Line.init_or_next m s q v) h ok = record { deep = omega arith; room = λ q. absurd (omega arith) }
new_line p Y (Line.signal m a) h ok = record { deep = omega arith; room = λ q. absurd (omega arith) }
new_line p Y (Line.output a) h ok = record { deep = omega arith; room = λ q. absurd (omega arith) }
new_line p Y Line.unknown h ok = absurd ok

pub size_most : (t : Ty) → t.iw ≤ 8 → size t ≤ 256
size_most t h = pow_mono h

pub sound_more : (p : Bool) (Y : Layout) (l : Line) → Sound Y → OkLine p (ty_at Y.ctx) (given Y.ctx) l → Sound (lay p Y l)
sound_more p Y l S ok =
    let g = grew Y.counts (size (line_type_in p Y l)) l in
    let w = new_line p Y l S.wide ok in
    let z = size_most (line_type_in p Y l) w.deep in
    let lt = more_types p Y l in
    record {
      long = more_places p Y l ∙ ap (λ (n : ℕ). n + 1) S.long ∙ sym lt;
      wide = grow_wide p Y.ctx l S.wide ok;
      counted = counted_more p Y l S.counted;
      room = λ a.
          by_place a (length Y.ctx.tys)
          (λ e. subst (λ (n : ℕ). rank (type_at (lay p Y l) n).role ≡ 4 → place_at (lay p Y l) n + size (type_at (lay p Y l) n) ≤ (lay p Y l).counts.states) (sym e)
          (λ q. rw (type_new p Y l S.long, place_new p Y l S.long) (w.room (rw (type_new p Y l S.long) at q))))
          (λ n q.
          rw (type_old p Y l S.long a n, place_old p Y l S.long a n) (let h : place_at Y a + size (type_at Y a) ≤ Y.counts.states = S.room a (rw (type_old p Y l S.long a n) at q) in omega (arith, g.states)));
      few_cells = omega (arith, g.cells_most, S.few_cells);
      few_states = omega (arith, g.states_most, S.few_states);
      few_inputs = omega (arith, g.inputs_most, S.few_inputs);
      few_signals = omega (arith, g.signals_most, S.few_signals);
    }

no_type : (a : ℕ) → type_at no_layout a ≡ no_ty
no_type zero = refl
no_type (suc a) = refl

pub sound_none : Sound no_layout
sound_none =
    record {
      long = refl;
      wide = λ a q. absurd (omega (arith, ap (λ (t : Ty). rank t.role) (no_type a)));
      counted = refl;
      room = λ a q. absurd (omega (arith, ap (λ (t : Ty). rank t.role) (no_type a)));
      few_cells = omega arith;
      few_states = omega arith;
      few_inputs = omega arith;
      few_signals = omega arith;
    }

-- ---- many lines

pub all_laid : (p : Bool) (Y : Layout) (C : List Line) → Sound Y → AllOk p Y.ctx C → Sound (lay_all p Y C)
all_laid p Y [] S h = S
all_laid p Y (l ∷ C) S h = all_laid p (lay p Y l) C (sound_more p Y l S h.0) h.1

pub lay_append : (p : Bool) (Y : Layout) (C D : List Line) → lay_all p Y (C ++ D) ≡ lay_all p (lay_all p Y C) D
lay_append p Y [] D = refl
lay_append p Y (l ∷ C) D = lay_append p (lay p Y l) C D

-- the line at the place i, after those before it
pub ok_at : (p : Bool) (Y : Layout) (C : List Line) (i : ℕ) → AllOk p Y.ctx C → i < length C
    → OkLine p (ty_at (lay_all p Y (take i C)).ctx) (given (lay_all p Y (take i C)).ctx) (get_or C i Line.unknown)
ok_at p Y [] i h q = absurd (omega arith)
ok_at p Y (l ∷ C) zero h q = h.0
ok_at p Y (l ∷ C) (suc i) h q = ok_at p (lay p Y l) C i h.1 (omega arith)

pub first_laid : (p : Bool) (Y : Layout) (C : List Line) (i : ℕ) → Sound Y → AllOk p Y.ctx C → Sound (lay_all p Y (take i C))
first_laid p Y [] zero S h = S
first_laid p Y [] (suc i) S h = S
first_laid p Y (l ∷ C) zero S h = S
first_laid p Y (l ∷ C) (suc i) S h = first_laid p (lay p Y l) C i (sound_more p Y l S h.0) h.1

-- later lines leave the types, the places and the counts of earlier ones
pub record Later (Y Z : Layout) : Type 0 where
  pub type : (a : ℕ) → a < length Y.ctx.tys → type_at Z a ≡ type_at Y a
  pub place : (a : ℕ) → a < length Y.places → place_at Z a ≡ place_at Y a
  pub off : (a : ℕ) → a < length Y.ctx.tys → off_at Z a ≡ off_at Y a
  pub cells : Y.counts.cells ≤ Z.counts.cells
  pub states : Y.counts.states ≤ Z.counts.states
  pub inputs : Y.counts.inputs ≤ Z.counts.inputs
  pub signals : Y.counts.signals ≤ Z.counts.signals
  pub longer : length Y.places ≤ length Z.places

pub later : (p : Bool) (Y : Layout) (C : List Line) → Later Y (lay_all p Y C)
later p Y [] = record { type = λ a h. refl; place = λ a h. refl; off = λ a h. refl; cells = omega arith; states = omega arith; inputs = omega arith; signals = omega arith; longer = omega arith }
later p Y (l ∷ C) =
    let r = later p (lay p Y l) C in
    let g = grew Y.counts (size (line_type_in p Y l)) l in
    let lt = more_types p Y l in
    let lp = more_places p Y l in
    record {
      type = λ a h. r.type a (omega arith) ∙ get_or-append Y.ctx.tys (line_type_in p Y l ∷ []) no_ty a h;
      place = λ a h. r.place a (omega arith) ∙ get_or-append Y.places (place_of Y l ∷ []) 0 a h;
      off = λ a h. r.off a (omega arith) ∙ off_old p Y l a (λ e. omega arith);
      cells = omega (arith, r.cells, g.cells);
      states = omega (arith, r.states, g.states);
      inputs = omega (arith, r.inputs, g.inputs);
      signals = omega (arith, r.signals, g.signals);
      longer = omega (arith, r.longer);
    }

pub length_laid : (p : Bool) (Y : Layout) (C : List Line) → length (lay_all p Y C).places ≡ length Y.places + length C
length_laid p Y [] = omega arith
length_laid p Y (l ∷ C) = length_laid p (lay p Y l) C ∙ omega (arith, more_places p Y l)
