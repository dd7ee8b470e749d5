-- All lines of a step on the work area: after i lines it holds what the first i lines mean. Assumes nothing.
use Rattle.std.specs.Prelude.{Ok}
use Prim.Native.Nat.{ℕ, zero, suc, ◌+◌, ◌≤◌, ◌<◌}
use mathlib.Core.Path.{◌≡◌, refl, sym, ap, ap₂, ◌∙◌, subst}
use mathlib.Core.Bool.{Bool, false}
use mathlib.Core.List.{List, [], ◌∷◌, ◌++◌, append-nil}
use native.Mathlib.Omega.{arith}
use native.Mathlib.Numerals.{add-one}
use lib.ListN.{length, take, drop, get_or, set, take-append-drop, get_or-map}
use lib.Seq.{take-suc, take-suc-set, take-length, drop-length, length-take-le}
use Rattle.tables.specs.Lines.{Line, line_of}
use Rattle.tables.specs.Layout.{record_at, records_of, lines_of}
use Rattle.tables.specs.Types.{rank, ty_at, given}
use Rattle.tables.specs.Tables.{checked}
use Rattle.tables.proofs.Places.{record_at_lem, length_lines}
use Rattle.tables.proofs.Sound.{accepted_ok}
use Rattle.tables.proofs.Facts.{OkLine, AllOk}
use Rattle.circuits.specs.Cells.{if_nonzero}
use Rattle.circuits.specs.Layout.{Layout, type_at, no_layout, lay, lay_all, layout}
use Rattle.circuits.specs.Meaning.{Signal, signal_byte, Frame, word_at, signals_after, eval_line, eval_all, no_frame, step}
use Rattle.circuits.specs.Run.{bytes_of}
use Rattle.circuits.specs.Model.Work.{work_in, sigs_in}
use Rattle.circuits.specs.Model.Fits.{FitL}
use Rattle.circuits.specs.Model.Places.{off_at, ShowsAll, Ready}
use Rattle.circuits.proofs.Laid.{Sound, sound_none, first_laid, lay_append, ok_at, Later, later, length_laid}
use Rattle.circuits.proofs.Held.{Held, Holds, seen}
use Rattle.circuits.proofs.Simulation.{mine, word_of, sim, fit}

-- ---- the first lines

pub eval_append : (p f : Bool) (σ ι : List ℕ) (A : Frame) (C D : List Line) → eval_all p f σ ι A (C ++ D) ≡ eval_all p f σ ι (eval_all p f σ ι A C) D
eval_append p f σ ι A [] D = refl
eval_append p f σ ι A (l ∷ C) D = eval_append p f σ ι (eval_line p f σ ι A l) C D

pub acc_lay : (p f : Bool) (σ ι : List ℕ) (A : Frame) (C : List Line) → (eval_all p f σ ι A C).lay ≡ lay_all p A.lay C
acc_lay p f σ ι A [] = refl
acc_lay p f σ ι A (l ∷ C) = acc_lay p f σ ι (eval_line p f σ ι A l) C

abbrev pub acc_at : Bool → Bool → (σ ι : List ℕ) → List Line → ℕ → Frame
acc_at p f σ ι C i = eval_all p f σ ι no_frame (take i C)

pub acc_suc : (p f : Bool) (σ ι : List ℕ) (C : List Line) (i : ℕ) → i < length C → acc_at p f σ ι C (suc i) ≡ eval_line p f σ ι (acc_at p f σ ι C i) (get_or C i Line.unknown)
acc_suc p f σ ι C i h = ap (eval_all p f σ ι no_frame) (take-suc C i Line.unknown h) ∙ eval_append p f σ ι no_frame (take i C) (get_or C i Line.unknown ∷ [])

lay_suc : (p : Bool) (C : List Line) (i : ℕ) → i < length C → lay_all p no_layout (take (suc i) C) ≡ lay p (lay_all p no_layout (take i C)) (get_or C i Line.unknown)
lay_suc p C i h = ap (lay_all p no_layout) (take-suc C i Line.unknown h) ∙ lay_append p no_layout (take i C) (get_or C i Line.unknown ∷ [])

pub lay_rest : (p : Bool) (C : List Line) (i : ℕ) → layout p C ≡ lay_all p (lay_all p no_layout (take i C)) (drop i C)
unfolding layout
lay_rest p C i = ap (lay_all p no_layout) (sym (take-append-drop i C)) ∙ lay_append p no_layout (take i C) (drop i C)

-- ---- the lines of an accepted table

module _ (p : Bool) (t : List ℕ) (n : ℕ) (acc : checked p t n ≡ Ok tt) where
  pub lines_many : length (lines_of p t n) ≡ n
  lines_many = length_lines p t n

  pub line_here : (i : ℕ) → i < n → get_or (lines_of p t n) i Line.unknown ≡ line_of (record_at p t i)
  line_here i h = get_or-map line_of (records_of p t n) i [] ∙ ap line_of (record_at_lem p t n i h)

  pub lines_ok : AllOk p no_layout.ctx (lines_of p t n)
  lines_ok = accepted_ok p t n acc

  -- the layout of the first i lines, and one line more
  pub sound_at : (i : ℕ) → Sound (lay_all p no_layout (take i (lines_of p t n)))
  sound_at i = first_laid p no_layout (lines_of p t n) i sound_none lines_ok

  pub ok_here : (i : ℕ) → i < n → OkLine p (ty_at (lay_all p no_layout (take i (lines_of p t n))).ctx) (given (lay_all p no_layout (take i (lines_of p t n))).ctx) (get_or (lines_of p t n) i Line.unknown)
  ok_here i h = ok_at p no_layout (lines_of p t n) i lines_ok (omega (arith, lines_many))

  pub lay_next : (i : ℕ) → i < n → lay_all p no_layout (take (suc i) (lines_of p t n)) ≡ lay p (lay_all p no_layout (take i (lines_of p t n))) (get_or (lines_of p t n) i Line.unknown)
  lay_next i h = lay_suc p (lines_of p t n) i (omega (arith, lines_many))

  pub later_at : (i : ℕ) → i < n → Later (lay p (lay_all p no_layout (take i (lines_of p t n))) (get_or (lines_of p t n) i Line.unknown)) (layout p (lines_of p t n))
  later_at i h =
      let Y = lay_all p no_layout (take i (lines_of p t n)) in
      let l = get_or (lines_of p t n) i Line.unknown in
      let full : layout p (lines_of p t n) ≡ lay_all p (lay p Y l) (drop (suc i) (lines_of p t n)) = lay_rest p (lines_of p t n) (suc i) ∙ ap (λ (Z : Layout). lay_all p Z (drop (suc i) (lines_of p t n))) (lay_next i h) in
      subst (λ (Z : Layout). Later (lay p Y l) Z) (sym full) (later p (lay p Y l) (drop (suc i) (lines_of p t n)))

  -- the number of the line
  pub number_at : (i : ℕ) → i ≤ n → length (lay_all p no_layout (take i (lines_of p t n))).ctx.tys ≡ i + 1
  number_at i h =
      sym (sound_at i).long ∙ length_laid p no_layout (take i (lines_of p t n)) ∙ omega (arith, length-take-le i (lines_of p t n) (omega (arith, lines_many)))

  pub lay_done : lay_all p no_layout (take n (lines_of p t n)) ≡ layout p (lines_of p t n)
  unfolding layout
  lay_done = ap (lay_all p no_layout) (ap (λ (m : ℕ). take m (lines_of p t n)) (sym lines_many) ∙ take-length (lines_of p t n))

-- ---- what is known at the line i

pub record Facts (p : Bool) (P : List (List ℕ)) (Y : Layout) (l : Line) (all words ins sigs : ℕ) : Type 0 where
  pub ok : OkLine p (ty_at Y.ctx) (given Y.ctx) l
  pub shows : ShowsAll P (lay p Y l)
  pub cells : (lay p Y l).counts.cells ≤ all
  pub states : (lay p Y l).counts.states ≤ words
  pub inputs : (lay p Y l).counts.inputs ≤ ins
  pub signals : (lay p Y l).counts.signals ≤ sigs

-- what the lists show of all lines they show of the first ones
pub shows_first : {P : List (List ℕ)} {Y Z : Layout} → Sound Y → Later Y Z → ShowsAll P Z → ShowsAll P Y
shows_first {P} {Y} {Z} S r sh a h =
    let s = sh a (omega (arith, r.longer)) in
    rw (r.type a (omega (arith, S.long)), r.off a (omega (arith, S.long)), r.place a h) at s

module _ {p : Bool} {t : List ℕ} {n : ℕ} {P : List (List ℕ)} {all words ins sigs : ℕ} (rd : Ready p t n P all words ins sigs) where
  pub facts_at : (i : ℕ) → i < n → Facts p P (lay_all p no_layout (take i (lines_of p t n))) (get_or (lines_of p t n) i Line.unknown) all words ins sigs
  facts_at i h =
      let S : Sound (lay p (lay_all p no_layout (take i (lines_of p t n))) (get_or (lines_of p t n) i Line.unknown)) = subst Sound (lay_next p t n rd.accepted i h) (sound_at p t n rd.accepted (suc i)) in
      let r = later_at p t n rd.accepted i h in
      record {
        ok = ok_here p t n rd.accepted i h;
        shows = shows_first S r rd.shows;
        cells = omega (arith, r.cells, rd.cells);
        states = omega (arith, r.states, rd.states);
        inputs = omega (arith, r.inputs, rd.inputs);
        signals = omega (arith, r.signals, rd.signals);
      }

-- ---- the signals

bytes_snoc : (g : List Signal) (m : Bool) (v : ℕ) → bytes_of (g ++ (signal_byte m v ∷ [])) ≡ bytes_of g ++ (v ∷ [])
bytes_snoc [] m v = refl
bytes_snoc (signal_byte b x ∷ g) m v = ap (λ (l : List ℕ). x ∷ l) (bytes_snoc g m v)

sig_step : (p : Bool) (P : List (List ℕ)) (all words ins sigs : ℕ) (σ w g : List ℕ) (A : Frame) (l : Line) → Held p all σ w A → Facts p P A.lay l all words ins sigs
    → length g ≡ sigs → take A.lay.counts.signals g ≡ bytes_of A.sigs
    → take (lay p A.lay l).counts.signals (sigs_in false P g w (length A.lay.ctx.tys) l) ≡ bytes_of (signals_after A l)
sig_step p P all words ins sigs σ w g A (Line.bitvec x) H F lg e = e
sig_step p P all words ins sigs σ w g A (Line.array i x) H F lg e = e
sig_step p P all words ins sigs σ w g A (Line.input s) H F lg e = e
sig_step p P all words ins sigs σ w g A (Line.state s) H F lg e = e
sig_step p P all words ins sigs σ w g A (Line.value s x) H F lg e = e
sig_step p P all words ins sigs σ w g A (Line.init_or_next m s q v) H F lg e = e
sig_step p P all words ins sigs σ w g A (Line.signal m a) H F lg e =
    let l = Line.signal m a in
    let me = mine H F.cells l P F.shows in
    let v : ℕ = if_nonzero (word_at A a) 1 0 in
    let n = A.lay.counts.signals in
    let h : suc n ≤ sigs = F.signals in
    ap₂ (λ (q x : ℕ). take (suc n) (set g q (if_nonzero {A = ℕ} x 1 0))) me.is_pos (word_of H F.cells l P F.shows a F.ok.word)
    ∙ take-suc-set g n v (omega arith) ∙ ap (λ (x : List ℕ). x ++ (v ∷ [])) e ∙ sym (bytes_snoc A.sigs m v)
sig_step p P all words ins sigs σ w g A (Line.output a) H F lg e = e
sig_step p P all words ins sigs σ w g A Line.unknown H F lg e = absurd F.ok

-- ---- the walk

-- the first i lines are done: the work area w, the signal bytes g
pub record Walked (p f : Bool) (C : List Line) (all : ℕ) (ι σ : List ℕ) (sigs : ℕ) (w g : List ℕ) (i : ℕ) : Type 0 where
  pub held : Held p all σ w (acc_at p f σ ι C i)
  pub sig : f ≡ false → take (acc_at p f σ ι C i).lay.counts.signals g ≡ bytes_of (acc_at p f σ ι C i).sigs
  pub len : length g ≡ sigs

no_cells : (w : List ℕ) (a : ℕ) → get_or no_frame.env a [] ≡ []
no_cells w zero = refl
no_cells w (suc a) = refl

no_type : (a : ℕ) → rank (type_at no_layout a).role ≡ 0
no_type zero = refl
no_type (suc a) = refl

pub seen_nothing : (p : Bool) (w : List ℕ) → Holds p w no_layout no_frame.env
seen_nothing p w = record { lines = refl; cells = cells; small = λ e a q. absurd (omega (arith, no_type a)) }
  where
    cells : (a : ℕ) → get_or no_frame.env a [] ≡ seen w (type_at no_layout a) (off_at no_layout a)
    cells zero = refl
    cells (suc a) = refl

module _ (p f : Bool) (t : List ℕ) (n : ℕ) (P : List (List ℕ)) (all : ℕ) (ι σ : List ℕ) (ins sigs : ℕ) (rd : Ready p t n P all (length σ) ins sigs) where
  pub walk_start : (w g : List ℕ) → σ ≡ drop all w → length w ≡ all + length σ → length g ≡ sigs → Walked p f (lines_of p t n) all ι σ sigs w g 0
  walk_start w g e l lg =
      record { held = record { sound = sound_none; holds = seen_nothing p w; kept = record { words = sym e; many = refl; len = l } }; sig = λ q. refl; len = lg }

  same_lay : (i : ℕ) → (acc_at p f σ ι (lines_of p t n) i).lay ≡ lay_all p no_layout (take i (lines_of p t n))
  same_lay i = acc_lay p f σ ι no_frame (take i (lines_of p t n))

  module _ (i : ℕ) (h : i < n) where
    here : length (acc_at p f σ ι (lines_of p t n) i).lay.ctx.tys ≡ i + 1
    here = ap (λ (Y : Layout). length Y.ctx.tys) (same_lay i) ∙ number_at p t n rd.accepted i (omega arith)

    line_is : get_or (lines_of p t n) i Line.unknown ≡ line_of (record_at p t i)
    line_is = line_here p t n rd.accepted i h

    known : Facts p P (acc_at p f σ ι (lines_of p t n) i).lay (get_or (lines_of p t n) i Line.unknown) all (length σ) ins sigs
    known = subst (λ (Y : Layout). Facts p P Y (get_or (lines_of p t n) i Line.unknown) all (length σ) ins sigs) (sym (same_lay i)) (facts_at rd i h)

    -- r is the record at hand
    pub walk_fit : {r : List ℕ} (w g : List ℕ) → r ≡ record_at p t i → Walked p f (lines_of p t n) all ι σ sigs w g i → FitL p P all ins (length g) w (i + 1) (line_of r)
    walk_fit {r} w g er k =
        subst (λ (x : List ℕ). FitL p P all ins (length g) w (i + 1) (line_of x)) (sym er)
        (subst (λ (l : Line). FitL p P all ins (length g) w (i + 1) l) line_is
        (subst (λ (m : ℕ). FitL p P all ins (length g) w m (get_or (lines_of p t n) i Line.unknown)) here
        (subst (λ (m : ℕ). FitL p P all ins m w (length (acc_at p f σ ι (lines_of p t n) i).lay.ctx.tys) (get_or (lines_of p t n) i Line.unknown)) (sym k.len)
        (fit p f P all σ ι w (acc_at p f σ ι (lines_of p t n) i) k.held ins sigs (get_or (lines_of p t n) i Line.unknown) known.ok known.shows known.cells known.states known.inputs known.signals))))

    pub walk_step : {r : List ℕ} (w g w' g' : List ℕ) → r ≡ record_at p t i → Walked p f (lines_of p t n) all ι σ sigs w g i → length g' ≡ length g
        → w' ≡ work_in p f P all ι w (i + 1) (line_of r) → g' ≡ sigs_in f P g w (i + 1) (line_of r) → Walked p f (lines_of p t n) all ι σ sigs w' g' (i + 1)
    walk_step {r} w g w' g' er k lg ew eg =
        let A = acc_at p f σ ι (lines_of p t n) i in
        let l = get_or (lines_of p t n) i Line.unknown in
        let m = length A.lay.ctx.tys in
        let el : line_of r ≡ l = ap line_of er ∙ sym line_is in
        let ew' : w' ≡ work_in p f P all ι w m l = ew ∙ ap₂ (work_in p f P all ι w) (sym here) el in
        let eg' : g' ≡ sigs_in f P g w m l = eg ∙ ap₂ (sigs_in f P g w) (sym here) el in
        let next : acc_at p f σ ι (lines_of p t n) (i + 1) ≡ eval_line p f σ ι A l = ap (acc_at p f σ ι (lines_of p t n)) (add-one i) ∙ acc_suc p f σ ι (lines_of p t n) i (omega (arith, lines_many p t n rd.accepted)) in
        record {
          held = subst (λ (B : Frame). Held p all σ w' B) (sym next) (subst (λ (x : List ℕ). Held p all σ x (eval_line p f σ ι A l)) (sym ew') (sim p f P all σ ι w A k.held l known.ok known.shows known.cells known.states));
          sig = λ q.
              ap (λ (B : Frame). take B.lay.counts.signals g') next ∙ ap (take (lay p A.lay l).counts.signals) (eg' ∙ ap (λ (b : Bool). sigs_in b P g w m l) q)
              ∙ sig_step p P all (length σ) ins sigs σ w g A l k.held known k.len (k.sig q) ∙ ap (λ (B : Frame). bytes_of B.sigs) (sym next);
          len = lg ∙ k.len;
        }

  pub walk_ends : (w g : List ℕ) → Walked p f (lines_of p t n) all ι σ sigs w g n
      → (drop all w ≡ (step p f (lines_of p t n) σ ι).sts) × (f ≡ false → g ≡ bytes_of (step p f (lines_of p t n) σ ι).sigs)
  unfolding step layout
  walk_ends w g k =
      let e : acc_at p f σ ι (lines_of p t n) n ≡ eval_all p f σ ι no_frame (lines_of p t n) = ap (eval_all p f σ ι no_frame) (ap (λ (m : ℕ). take m (lines_of p t n)) (sym (lines_many p t n rd.accepted)) ∙ take-length (lines_of p t n)) in
      let y : (acc_at p f σ ι (lines_of p t n) n).lay ≡ lay_all p no_layout (lines_of p t n) = ap (λ (A : Frame). A.lay) e ∙ acc_lay p f σ ι no_frame (lines_of p t n) in
      let A = acc_at p f σ ι (lines_of p t n) n in (
        k.held.kept.words ∙ ap (λ (m : ℕ). A.sts ++ drop m σ) (ap (λ (Y : Layout). Y.counts.states) y ∙ rd.states) ∙ ap (λ (x : List ℕ). A.sts ++ x) (drop-length σ) ∙ append-nil A.sts ∙ ap (λ (B : Frame). B.sts) e,
        λ q. sym (ap (λ (m : ℕ). take m g) (ap (λ (Y : Layout). Y.counts.signals) y ∙ rd.signals ∙ sym k.len) ∙ take-length g) ∙ k.sig q ∙ ap (λ (B : Frame). bytes_of B.sigs) e,
      )
