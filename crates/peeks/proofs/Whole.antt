-- All lines of an accepted circuit as one step leaves them: each value has the cells of its type, each below 2 to its width. Assumes nothing.
use Rattle.std.specs.Prelude.{Ok}
use Prim.Native.Nat.{ℕ, zero, suc, ◌+◌, ◌^◌, ◌≤◌, ◌<◌}
use mathlib.Core.Path.{◌≡◌, refl, sym, ap, ◌∙◌, subst}
use mathlib.Core.Bool.{Bool, false}
use mathlib.Core.List.{List, ◌++◌}
use native.Mathlib.Omega.{arith}
use lib.ListN.{length, take, get_or, replicate, length-append, length-replicate}
use lib.Seq.{drop_at, take-length}
use Rattle.tables.specs.Types.{rank}
use Rattle.tables.specs.Lines.{Line}
use Rattle.tables.specs.Tables.{checked}
use Rattle.circuits.specs.Layout.{Layout, type_at, size, lay_all, no_layout, layout}
use Rattle.circuits.specs.Meaning.{Frame, cells_at, eval_all, no_frame, step}
use Rattle.tables.specs.Layout.{lines_of}
use Rattle.circuits.specs.Model.Work.{work_in}
use Rattle.circuits.specs.Model.Places.{Ready}
use Rattle.circuits.proofs.Held.{Held}
use Rattle.circuits.proofs.Simulation.{sim}
use Rattle.circuits.proofs.Walked.{acc_at, acc_suc, acc_lay, lines_many, facts_at, Facts, walk_start}
use Rattle.circuits.proofs.Placing.{all_sound, lines_here, few_here}
use Rattle.circuits.proofs.Sizes.{laid_of, laid_shows, held_size, held_below}

-- some work area holds the lines so far
pub record HeldBy (all : ℕ) (σ : List ℕ) (A : Frame) : Type 0 where
  pub work : List ℕ
  pub held : Held false all σ work A

module _ (t : List ℕ) (n : ℕ) (acc : checked false t n ≡ Ok tt) where
  abbrev pub whole : Layout
  whole = layout false (lines_of false t n)

  module _ (σ : List ℕ) (many : length σ ≡ (layout false (lines_of false t n)).counts.states) where
    pub ready_whole : Ready false t n (laid_of whole) whole.counts.cells (length σ) whole.counts.inputs whole.counts.signals
    ready_whole =
        let long = (all_sound false t n acc).long in
        let count = lines_here false t n acc in
        let few = few_here false t n acc in
        record {
          accepted = acc;
          shows = laid_shows whole (omega arith);
          cells = refl;
          states = sym many;
          inputs = refl;
          signals = refl;
        }

    module _ (f : Bool) (ι : List ℕ) where
      pub lay_is : (i : ℕ) → (acc_at false f σ ι (lines_of false t n) i).lay ≡ lay_all false no_layout (take i (lines_of false t n))
      lay_is i = acc_lay false f σ ι no_frame (take i (lines_of false t n))

      pub facts_of : (i : ℕ) → i < n
          → Facts false (laid_of whole) (acc_at false f σ ι (lines_of false t n) i).lay (get_or (lines_of false t n) i Line.unknown) whole.counts.cells (length σ) whole.counts.inputs whole.counts.signals
      facts_of i h =
          subst (λ (Y : Layout). Facts false (laid_of whole) Y (get_or (lines_of false t n) i Line.unknown) whole.counts.cells (length σ) whole.counts.inputs whole.counts.signals)
          (sym (lay_is i)) (facts_at ready_whole i h)

      pub held_at : (i : ℕ) → i ≤ n → HeldBy whole.counts.cells σ (acc_at false f σ ι (lines_of false t n) i)
      held_at zero h =
          let zeros : List ℕ = replicate whole.counts.cells 0 in
          let lz : length zeros ≡ whole.counts.cells = length-replicate whole.counts.cells 0 in
          record {
            work = zeros ++ σ;
            held = (walk_start false f t n (laid_of whole) whole.counts.cells ι σ whole.counts.inputs whole.counts.signals ready_whole (zeros ++ σ)
                (replicate whole.counts.signals 0) (sym (drop_at zeros σ whole.counts.cells lz)) (length-append zeros σ ∙ ap (λ (m : ℕ). m + length σ) lz) (length-replicate whole.counts.signals 0)).held;
          }
      held_at (suc i) h =
          let A = acc_at false f σ ι (lines_of false t n) i in
          let l = get_or (lines_of false t n) i Line.unknown in
          let H = held_at i (omega arith) in
          let k = facts_of i h in
          let w : List ℕ = work_in false f (laid_of whole) whole.counts.cells ι H.work (length A.lay.ctx.tys) l in
          record {
            work = w;
            held = subst (λ (B : Frame). Held false whole.counts.cells σ w B) (sym (acc_suc false f σ ι (lines_of false t n) i (omega (arith, lines_many false t n acc))))
                (sim false f (laid_of whole) whole.counts.cells σ ι H.work A H.held l k.ok k.shows k.cells k.states);
          }

      -- ---- all lines

      pub all_lines : acc_at false f σ ι (lines_of false t n) n ≡ step false f (lines_of false t n) σ ι
      unfolding step
      all_lines = ap (eval_all false f σ ι no_frame) (ap (λ (m : ℕ). take m (lines_of false t n)) (sym (lines_many false t n acc)) ∙ take-length (lines_of false t n))

      pub held_whole : HeldBy whole.counts.cells σ (step false f (lines_of false t n) σ ι)
      held_whole = subst (HeldBy whole.counts.cells σ) all_lines (held_at n (omega arith))

      pub lay_whole : (step false f (lines_of false t n) σ ι).lay ≡ whole
      unfolding step layout
      lay_whole = acc_lay false f σ ι no_frame (lines_of false t n)

-- ---- the cells of a value

module _ {all : ℕ} {σ : List ℕ} {A : Frame} (H : HeldBy all σ A) (room : A.lay.counts.cells ≤ all) (a : ℕ) (q : 2 ≤ rank (type_at A.lay a).role) where
  pub cells_many : length (cells_at A a) ≡ size (type_at A.lay a)
  cells_many = held_size H.held room a q

  pub cells_small : (j : ℕ) → get_or (cells_at A a) j 0 < 2 ^ (type_at A.lay a).w
  cells_small = held_below H.held room a q refl
