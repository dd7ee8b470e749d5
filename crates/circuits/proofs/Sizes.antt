-- In a walk over lines that keep the rules each value has the cells of its type, in a circuit each of them below 2 to its width, and so many state words are left as the states have.
-- They are read off a work area that holds the lines so far. Assumes nothing.
use Prim.Native.Nat.{ℕ, zero, suc, ◌+◌, ◌^◌, ◌≤◌, ◌<◌}
use mathlib.Core.Path.{◌≡◌, refl, sym, ap, ◌∙◌, subst}
use mathlib.Core.Logic.{⊎_elim}
use mathlib.Core.Bool.{Bool, false}
use mathlib.Core.List.{List, [], ◌∷◌, ◌++◌}
use native.Mathlib.Omega.{arith}
use lib.Pow.{pow_pos}
use lib.ListN.{length, get_or, replicate, length-append, length-replicate, get_or-eq_default}
use lib.Seq.{drop_at}
use Rattle.tables.specs.Types.{rank}
use Rattle.tables.specs.Lines.{Line}
use Rattle.tables.proofs.Facts.{AllOk}
use Rattle.circuits.specs.Layout.{Layout, type_at, place_at, size, no_layout, lay, lay_all, layout}
use Rattle.circuits.specs.Meaning.{Frame, cells_at, eval_line, eval_all, no_frame, step}
use Rattle.circuits.specs.Model.Work.{laid_as, laid_in, work_in}
use Rattle.circuits.specs.Model.Places.{off_at, ShowsAll}
use Rattle.circuits.proofs.Puts as laws
use Rattle.circuits.proofs.Laid.{sound_none, low, later, more_places}
use Rattle.circuits.proofs.Held.{Held, cells_at_lem}
use Rattle.circuits.proofs.Simulation.{sim}
use Rattle.circuits.proofs.Walked.{seen_nothing, acc_lay}

-- ---- a list that holds what a layout knows of its lines

-- of the line a; of n lines from a on; of all lines
abbrev row : Layout → (a : ℕ) → List ℕ
row Y a = laid_as (off_at Y a) (size (type_at Y a)) (place_at Y a) (type_at Y a).w

abbrev rows : Layout → (a n : ℕ) → List (List ℕ)
rows Y a zero = []
rows Y a (suc n) = row Y a ∷ rows Y (suc a) n

abbrev pub laid_of : Layout → List (List ℕ)
laid_of Y = rows Y 0 (length Y.places)

rows_at : (Y : Layout) (a n i : ℕ) {b : ℕ} → i < n → a + i ≡ b → laid_in (rows Y a n) i ≡ row Y b
rows_at Y a zero i h e = absurd (omega arith)
rows_at Y a (suc n) zero h e = ap (row Y) (omega arith)
rows_at Y a (suc n) (suc i) h e = rows_at Y (suc a) n i (omega arith) (omega arith)

pub laid_shows : (Y : Layout) → length Y.places ≤ 16385 → ShowsAll (laid_of Y) Y
laid_shows Y few a h =
    let e : laid_in (laid_of Y) a ≡ row Y a = rows_at Y 0 (length Y.places) a h (omega arith) in
    record {
      known = omega arith;
      is_off = ap (λ (r : List ℕ). get_or r 0 0) e;
      is_wid = ap (λ (r : List ℕ). get_or r 3 0) e;
      is_num = ap (λ (r : List ℕ). get_or r 1 0) e;
      is_pos = ap (λ (r : List ℕ). get_or r 2 0) e;
    }

-- ---- the cells of a value, read off a work area that holds the lines so far

module _ {p : Bool} {all : ℕ} {σ work : List ℕ} {A : Frame} (H : Held p all σ work A) (room : A.lay.counts.cells ≤ all) (a : ℕ) (q : 2 ≤ rank (type_at A.lay a).role) where
  pub held_size : length (cells_at A a) ≡ size (type_at A.lay a)
  held_size =
      let h = low H.sound a q in
      ap length (sym (cells_at_lem H.sound H.holds a q)) ∙ laws.length_part work (off_at A.lay a) (size (type_at A.lay a)) (omega (arith, H.kept.len))

  pub held_below : p ≡ false → (j : ℕ) → get_or (cells_at A a) j 0 < 2 ^ (type_at A.lay a).w
  held_below e j =
      let n = size (type_at A.lay a) in
      ⊎_elim
      (λ lt. subst (λ (x : ℕ). x < 2 ^ (type_at A.lay a).w)
      (sym (ap (λ (x : List ℕ). get_or x j 0) (sym (cells_at_lem H.sound H.holds a q)) ∙ laws.part_get_or work (off_at A.lay a) n j lt)) (H.holds.small e a q j lt))
      (λ ge. subst (λ (x : ℕ). x < 2 ^ (type_at A.lay a).w) (sym (get_or-eq_default (cells_at A a) 0 (omega (arith, held_size)))) (pow_pos (type_at A.lay a).w))
      (laws.lt_or_ge j n)

-- ---- a walk

-- The lines so far, A, lie in some work area; the lines C are left, and the state words are enough for all of them.
pub record Walking (p : Bool) (all : ℕ) (σ : List ℕ) (A : Frame) (C : List Line) : Type 0 where
  pub work : List ℕ
  pub held : Held p all σ work A
  pub ok : AllOk p A.lay.ctx C
  pub cells : (lay_all p A.lay C).counts.cells ≤ all
  pub states : (lay_all p A.lay C).counts.states ≤ length σ
  pub few : length A.lay.places + length C ≤ 16385

module _ (p f : Bool) (σ ι : List ℕ) where
  pub walk_none : (C : List Line) → AllOk p no_layout.ctx C → length C ≤ 16384 → (layout p C).counts.states ≤ length σ → Walking p (layout p C).counts.cells σ no_frame C
  unfolding layout
  walk_none C ok few enough =
      let all = (lay_all p no_layout C).counts.cells in
      let zeros : List ℕ = replicate all 0 in
      let lz : length zeros ≡ all = length-replicate all 0 in
      record {
        work = zeros ++ σ;
        held =
            record {
              sound = sound_none;
              holds = seen_nothing p (zeros ++ σ);
              kept = record { words = drop_at zeros σ all lz; many = refl; len = length-append zeros σ ∙ ap (λ (m : ℕ). m + length σ) lz };
            };
        ok = ok;
        cells = omega arith;
        states = enough;
        few = omega arith;
      }

  pub walk_line : {all : ℕ} (A : Frame) (l : Line) (C : List Line) → Walking p all σ A (l ∷ C) → Walking p all σ (eval_line p f σ ι A l) C
  walk_line {all} A l C k =
      let Z = lay p A.lay l in
      let P = laid_of Z in
      let g = later p Z C in
      let lp = more_places p A.lay l in
      record {
        work = work_in p f P all ι k.work (length A.lay.ctx.tys) l;
        held = sim p f P all σ ι k.work A k.held l k.ok.0 (laid_shows Z (omega (arith, k.few))) (omega (arith, g.cells, k.cells)) (omega (arith, g.states, k.states));
        ok = k.ok.1;
        cells = k.cells;
        states = k.states;
        few = omega (arith, k.few);
      }

  -- what holds at the start, and after a line where it held before it, holds at the end
  pub walk_through : {all : ℕ} (Inv : Frame → Type 0) → ((A : Frame) (l : Line) (D : List Line) → Walking p all σ A (l ∷ D) → Inv A → Inv (eval_line p f σ ι A l))
      → (A : Frame) (C : List Line) → Walking p all σ A C → Inv A → Inv (eval_all p f σ ι A C)
  walk_through Inv s A [] k i = i
  walk_through Inv s A (l ∷ C) k i = walk_through Inv s (eval_line p f σ ι A l) C (walk_line A l C k) (s A l C k i)

  pub walk_done : {all : ℕ} (A : Frame) (C : List Line) → Walking p all σ A C → Walking p all σ (eval_all p f σ ι A C) []
  walk_done A [] k = k
  walk_done A (l ∷ C) k = walk_done (eval_line p f σ ι A l) C (walk_line A l C k)

-- ---- what it shows of the lines so far

module _ {p : Bool} {all : ℕ} {σ : List ℕ} {A : Frame} {C : List Line} (k : Walking p all σ A C) where
  cells_counted : A.lay.counts.cells ≤ all
  cells_counted = omega (arith, (later p A.lay C).cells, k.cells)

  pub states_many : length A.sts ≡ A.lay.counts.states
  states_many = k.held.kept.many

  pub cells_size : (a : ℕ) → 2 ≤ rank (type_at A.lay a).role → length (cells_at A a) ≡ size (type_at A.lay a)
  cells_size = held_size k.held cells_counted

  pub cells_below : (a : ℕ) → 2 ≤ rank (type_at A.lay a).role → p ≡ false → (j : ℕ) → get_or (cells_at A a) j 0 < 2 ^ (type_at A.lay a).w
  cells_below = held_below k.held cells_counted

-- ---- a step, and the walk as a run starts

-- a value has 2 ^ iw cells, a word one
pub cells_count : (p f : Bool) (σ ι : List ℕ) (C : List Line) → AllOk p no_layout.ctx C → length C ≤ 16384 → (layout p C).counts.states ≤ length σ → (a : ℕ) → 2 ≤ rank (type_at (layout p C) a).role
    → length (cells_at (step p f C σ ι) a) ≡ size (type_at (layout p C) a)
unfolding step layout
cells_count p f σ ι C ok few enough a q =
    let e = acc_lay p f σ ι no_frame C in
    cells_size (walk_done p f σ ι no_frame C (walk_none p f σ ι C ok few enough)) a (subst (λ (Y : Layout). 2 ≤ rank (type_at Y a).role) (sym e) q) ∙ ap (λ (Y : Layout). size (type_at Y a)) e
