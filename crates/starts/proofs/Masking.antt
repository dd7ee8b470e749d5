-- The start of a run without init lines: after i lines the work area holds the start words of the states among them masked, and all others as they were. No input row has a part
-- in it. Assumes nothing.
use Prim.Native.Nat.{ℕ, zero, suc, ◌+◌, ◌≤◌, ◌<◌}
use mathlib.Core.Path.{◌≡◌, refl, sym, ap, ap₂, ◌∙◌, subst}
use mathlib.Core.Bool.{Bool, true, false, ◌||◌}
use mathlib.Core.List.{List, [], ◌∷◌, ◌++◌, append-nil}
use native.Mathlib.Omega.{arith}
use native.Mathlib.Numerals.{add-one}
use lib.ListN.{length, take, drop, get_or, length-drop}
use lib.Seq.{take-length, drop-length}
use Rattle.words.specs.Word.{Width}
use Rattle.tables.specs.declared.Ty.{Ty}
use Rattle.tables.specs.Lines.{Line, words_of, kind_in, sort_in}
use Rattle.tables.specs.Layout.{record_at, lines_of}
use Rattle.tables.specs.Types.{ty_at, given}
use Rattle.tables.proofs.Kept.{no_yes}
use Rattle.tables.proofs.Wide.{line_wide}
use Rattle.circuits.specs.Cells.{part, put, mask_words}
use Rattle.circuits.specs.Layout.{Layout, type_at, place_at, size, line_type_in, place_of, no_layout, lay, lay_all, layout}
use Rattle.circuits.specs.Meaning.{Frame, states_after, eval_line, eval_all, no_frame, step}
use Rattle.circuits.specs.Model.Work.{num_in, pos_in, wid_in}
use Rattle.circuits.specs.Model.Places.{Ready}
use Rattle.circuits.proofs.Puts.{length_lows, length_part}
use Rattle.circuits.proofs.Laid.{Sound, type_new, place_new, more_places}
use Rattle.circuits.proofs.Held.{Kept, kept_state, state_words_lem}
use Rattle.circuits.proofs.Walked.{acc_lay, acc_at, acc_suc, lines_many, sound_at, number_at, Facts, facts_at}
use Rattle.starts.specs.Model.Starting.{init_line, has_init, NoInit}
use Rattle.starts.proofs.Inits.{kind_here, state_here}

-- ---- lines that are no init

first_none : (a b : Bool) → (a || b) ≡ false → (a ≡ false) × (b ≡ false)
first_none true b e = absurd (no_yes (sym e))
first_none false b e = (refl, e)

none_at : (C : List Line) (i : ℕ) → has_init C ≡ false → init_line (get_or C i Line.unknown) ≡ false
none_at [] i e = refl
none_at (l ∷ C) zero e = (first_none (init_line l) (has_init C) e).0
none_at (l ∷ C) (suc i) e = none_at C i (first_none (init_line l) (has_init C) e).1

-- a line that is neither a state nor an init leaves the state words, and their number, as the run starts
record Quiet (p : Bool) (σ : List ℕ) (A : Frame) (l : Line) : Type 0 where
  words : states_after p true σ A l ≡ A.sts
  many : (lay p A.lay l).counts.states ≡ A.lay.counts.states

quiet : (p : Bool) (σ : List ℕ) (A : Frame) (l : Line) → (kind_in (words_of l) ≡ 5 → ⊥) → init_line l ≡ false → Quiet p σ A l
quiet p σ A (Line.bitvec w) h e = record { words = refl; many = refl }
quiet p σ A (Line.array i x) h e = record { words = refl; many = refl }
quiet p σ A (Line.input s) h e = record { words = refl; many = refl }
quiet p σ A (Line.state s) h e = absurd (h refl)
quiet p σ A (Line.value s x) h e = record { words = refl; many = refl }
quiet p σ A (Line.init_or_next true s q v) h e = absurd (no_yes (sym e))
quiet p σ A (Line.init_or_next false s q v) h e = record { words = refl; many = refl }
quiet p σ A (Line.signal m a) h e = record { words = refl; many = refl }
quiet p σ A (Line.output a) h e = record { words = refl; many = refl }
quiet p σ A Line.unknown h e = record { words = refl; many = refl }

-- ---- the walk

-- the first i lines are done, whatever the row: the work area is w
abbrev pub Masked : (p : Bool) (C : List Line) (all : ℕ) (σ w : List ℕ) (i : ℕ) → Type 0
Masked p C all σ w i = (ι : List ℕ) → Kept all σ w (acc_at p true σ ι C i).sts (acc_at p true σ ι C i).lay.counts.states

pub masked_none : (p : Bool) (C : List Line) (all : ℕ) (w : List ℕ) → all ≤ length w → Masked p C all (drop all w) w 0
masked_none p C all w h ι = record { words = refl; many = refl; len = omega (arith, length-drop all w) }

-- what the walk over all lines asks for is enough
pub no_inits : {p : Bool} {t : List ℕ} {n : ℕ} {P : List (List ℕ)} {all words words' ins sigs : ℕ} → words ≡ words' → Ready p t n P all words ins sigs → has_init (lines_of p t n) ≡ false
    → NoInit p t n P words'
no_inits e rd none = record { accepted = rd.accepted; shows = rd.shows; states = rd.states ∙ e; none = none }

-- what is known of the state on the line n: its words from q on, its type t
record StateAt (P : List (List ℕ)) (n q : ℕ) (t : Ty) (words : ℕ) : Type 0 where
  known : n ≤ 16384
  is_pos : pos_in P n ≡ q
  is_num : num_in P n ≡ size t
  is_wid : wid_in P n ≡ t.w
  wide : Width t.w
  room : q + size t ≤ words

state_at : {p : Bool} {P : List (List ℕ)} {Y : Layout} {cells words ins sigs : ℕ} (n s : ℕ) → Sound Y → length Y.ctx.tys ≡ n → Facts p P Y (Line.state s) cells words ins sigs
    → StateAt P n Y.counts.states (line_type_in p Y (Line.state s)) words
state_at {p} {P} {Y} n s S e F =
    let l = Line.state s in
    let k = line_wide p (ty_at Y.ctx) (given Y.ctx) S.wide l F.ok (omega arith) in
    let type : type_at (lay p Y l) n ≡ line_type_in p Y l = ap (type_at (lay p Y l)) (sym e) ∙ type_new p Y l S.long in
    let place : place_at (lay p Y l) n ≡ place_of Y l = ap (place_at (lay p Y l)) (sym e) ∙ place_new p Y l S.long in
    let m = F.shows n (omega (arith, more_places p Y l, S.long)) in
    record {
      known = m.known;
      is_pos = m.is_pos ∙ place;
      is_num = m.is_num ∙ ap size type;
      is_wid = m.is_wid ∙ ap (λ (t : Ty). t.w) type;
      wide = record { least = k.least; most = k.most };
      room = F.states;
    }

module _ {p : Bool} {t : List ℕ} {n : ℕ} {P : List (List ℕ)} (all : ℕ) (σ : List ℕ) (u : NoInit p t n P (length σ)) where
  module _ (i : ℕ) (h : i < n) {w : List ℕ} (M : Masked p (lines_of p t n) all σ w i) where
    next : (ι : List ℕ) → acc_at p true σ ι (lines_of p t n) (i + 1) ≡ eval_line p true σ ι (acc_at p true σ ι (lines_of p t n) i) (get_or (lines_of p t n) i Line.unknown)
    next ι = ap (acc_at p true σ ι (lines_of p t n)) (add-one i) ∙ acc_suc p true σ ι (lines_of p t n) i (omega (arith, lines_many p t n u.accepted))

    -- a line of another kind
    pub masked_other : (k : ℕ) → k ≡ kind_in (record_at p t i) → (k ≡ 5 → ⊥) → Masked p (lines_of p t n) all σ w (i + 1)
    masked_other k q other ι =
        let A = acc_at p true σ ι (lines_of p t n) i in
        let l = get_or (lines_of p t n) i Line.unknown in
        let x = quiet p σ A l (λ e. other (q ∙ sym (kind_here p t n u.accepted i h) ∙ e)) (none_at (lines_of p t n) i u.none) in
        subst (λ (B : Frame). Kept all σ w B.sts B.lay.counts.states) (sym (next ι))
        (subst (λ (m : ℕ). Kept all σ w (states_after p true σ A l) m) (sym x.many) (subst (λ (s : List ℕ). Kept all σ w s A.lay.counts.states) (sym x.words) (M ι)))

    -- a state line
    module _ (k : ℕ) (q : k ≡ kind_in (record_at p t i)) (five : k ≡ 5) where
      abbrev s : ℕ
      s = sort_in (record_at p t i)

      line_is : get_or (lines_of p t n) i Line.unknown ≡ Line.state (sort_in (record_at p t i))
      line_is = state_here p t n u.accepted i h (sym q ∙ five)

      -- read off the list, whatever the counts that `NoInit` does not ask for
      here : (ι : List ℕ) → StateAt P (i + 1) (acc_at p true σ ι (lines_of p t n) i).lay.counts.states (line_type_in p (acc_at p true σ ι (lines_of p t n) i).lay (Line.state (sort_in (record_at p t i)))) (length σ)
      here ι =
          let Y = lay_all p no_layout (take i (lines_of p t n)) in
          let Z = layout p (lines_of p t n) in
          let rd : Ready p t n P Z.counts.cells (length σ) Z.counts.inputs Z.counts.signals =
          record { accepted = u.accepted; shows = u.shows; cells = refl; states = u.states; inputs = refl; signals = refl } in
          let F : Facts p P Y (Line.state s) Z.counts.cells (length σ) Z.counts.inputs Z.counts.signals =
          subst (λ (l : Line). Facts p P Y l Z.counts.cells (length σ) Z.counts.inputs Z.counts.signals) line_is (facts_at rd i h) in
          subst (λ (X : Layout). StateAt P (i + 1) X.counts.states (line_type_in p X (Line.state s)) (length σ)) (sym (acc_lay p true σ ι no_frame (take i (lines_of p t n))))
          (state_at (i + 1) s (sound_at p t n u.accepted i) (number_at p t n u.accepted i (omega arith)) F)

      pub masked_fit : (i + 1 ≤ 16384) × (Width (wid_in P (i + 1)) × (all + pos_in P (i + 1) + num_in P (i + 1) ≤ length w))
      masked_fit =
          let x = here [] in
          (x.known, (subst (λ (m : ℕ). Width m) (sym x.is_wid) x.wide, omega (arith, x.is_pos, x.is_num, x.room, (M []).len)))

      pub masked_state : {w' : List ℕ} → w' ≡ put w (all + pos_in P (i + 1)) (mask_words (wid_in P (i + 1)) (part w (all + pos_in P (i + 1)) (num_in P (i + 1)))) → Masked p (lines_of p t n) all σ w' (i + 1)
      masked_state {w'} e ι =
          let A = acc_at p true σ ι (lines_of p t n) i in
          let x = here ι in
          let o = A.lay.counts.states in
          let T = line_type_in p A.lay (Line.state s) in
          let vs = mask_words T.w (part σ o (size T)) in
          let lv : length vs ≡ size T = length_lows T.w (part σ o (size T)) ∙ length_part σ o (size T) x.room in
          let at : all + pos_in P (i + 1) ≡ all + o = ap (λ (m : ℕ). all + m) x.is_pos in
          let ev : mask_words (wid_in P (i + 1)) (part w (all + pos_in P (i + 1)) (num_in P (i + 1))) ≡ vs = ap₂ mask_words x.is_wid (ap₂ (part w) at x.is_num ∙ state_words_lem (M ι) (size T)) in
          subst (λ (B : Frame). Kept all σ w' B.sts B.lay.counts.states) (sym (next ι ∙ ap (eval_line p true σ ι A) line_is))
          (subst (λ (y : List ℕ). Kept all σ y (A.sts ++ vs) (o + size T)) (sym (e ∙ ap₂ (put w) at ev)) (kept_state (M ι) vs (size T) lv x.room))

  pub masked_all : {w : List ℕ} → Masked p (lines_of p t n) all σ w n → (ι : List ℕ) → drop all w ≡ (step p true (lines_of p t n) σ ι).sts
  unfolding step layout
  masked_all M ι =
      let C = lines_of p t n in
      let A = acc_at p true σ ι C n in
      let e : A ≡ eval_all p true σ ι no_frame C = ap (eval_all p true σ ι no_frame) (ap (λ (m : ℕ). take m C) (sym (lines_many p t n u.accepted)) ∙ take-length C) in
      let y : A.lay.counts.states ≡ length σ = ap (λ (B : Frame). B.lay.counts.states) e ∙ ap (λ (Y : Layout). Y.counts.states) (acc_lay p true σ ι no_frame C) ∙ u.states in
      (M ι).words ∙ ap (λ (m : ℕ). A.sts ++ drop m σ) y ∙ ap (λ (x : List ℕ). A.sts ++ x) (drop-length σ) ∙ append-nil A.sts ∙ ap (λ (B : Frame). B.sts) e
