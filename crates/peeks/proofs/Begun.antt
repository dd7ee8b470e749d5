-- The words that a state starts from: its init's word in every cell, or its start words modulo 2 to its width. Assumes nothing.
use Rattle.std.specs.Prelude.{Ok}
use Prim.Native.Nat.{ℕ, zero, suc, ◌+◌, ◌-◌, ◌≤◌, ◌<◌}
use mathlib.Core.Path.{◌≡◌, refl, sym, ap, ap₂, ◌∙◌, subst}
use mathlib.Core.Logic.{◌⊎◌, inl, inr, ⊎_elim}
use mathlib.Core.Bool.{Bool, true, false}
use mathlib.Core.List.{List, [], ◌∷◌, ◌++◌}
use native.Mathlib.Omega.{arith}
use lib.Dec.{eqb}
use lib.ListN.{length, take, get_or, replicate, length-replicate, get_or-append}
use lib.Seq.{drop_at, take_all, take-length, take-suc}
use borrow.Author.Tests.{eq-eqb, ne_eqb}
use Rattle.tables.specs.declared.Ty.{Ty}
use Rattle.tables.specs.Pick.{pick}
use Rattle.tables.specs.Lines.{Line}
use Rattle.tables.specs.Types.{rank, ty_at, given, sort_at}
use Rattle.tables.specs.Tables.{checked}
use Rattle.tables.proofs.Facts.{OkLine, OkInitOrNext}
use Rattle.tables.proofs.Values.{unmarked_value}
use Rattle.tables.proofs.Showing.{by_place, earlier}
use Rattle.circuits.specs.Cells.{if_nonzero, mask_words, part, put}
use Rattle.circuits.specs.Layout.{Layout, type_at, place_at, size, line_type_in, place_of, no_layout, lay, layout}
use Rattle.circuits.specs.Meaning.{Frame, word_at, cells_of, states_after, eval_line, step}
use Rattle.tables.specs.Layout.{lines_of}
use Rattle.peeks.specs.Model.Looks.{note_init, init_after, init_of}
use Rattle.circuits.proofs.StateWords.{part_front}
use Rattle.circuits.proofs.Puts as laws
use Rattle.circuits.proofs.Laid.{Sound, not_four, type_new, place_new, type_old, place_old, more_types, grew, later}
use Rattle.circuits.proofs.Walked.{acc_at, acc_suc, lines_many, number_at}
use Rattle.peeks.proofs.Whole.{lay_is, facts_of, held_at, all_lines}

-- ---- the value of the init, one line more

pub init_snoc : (q d : ℕ) (C : List Line) (l : Line) → init_after q d (C ++ (l ∷ [])) ≡ note_init q (init_after q d C) l
init_snoc q d [] l = refl
init_snoc q d (x ∷ C) l = init_snoc q (note_init q d x) C l

pub init_more : (q : ℕ) (C : List Line) (j : ℕ) → j < length C → init_of q (take (suc j) C) ≡ note_init q (init_of q (take j C)) (get_or C j Line.unknown)
init_more q C j h = ap (init_after q 0) (take-suc C j Line.unknown h) ∙ init_snoc q 0 (take j C) (get_or C j Line.unknown)

-- ---- what is known of a state on the line q, m words from the place `at` on, and of its init's value on the line d

pub record Settled (Y : Layout) (q at m w d : ℕ) : Type 0 where
  pub known : q < length Y.ctx.tys
  pub room : at + m ≤ Y.counts.states
  pub sized : size (type_at Y q) ≡ m
  pub width : (type_at Y q).w ≡ w
  pub spot : place_at Y q ≡ at
  pub none : rank (type_at Y 0).role ≡ 0
  -- the words of no other state meet its own
  pub apart : (x : ℕ) → rank (type_at Y x).role ≡ 4 → (x ≡ q → ⊥) → (at + m ≤ place_at Y x) ⊎ (place_at Y x + size (type_at Y x) ≤ at)
  pub below : d < q
  pub unmarked : (d ≡ 0 → ⊥) → rank (type_at Y d).role ≡ 2
  pub flat : (d ≡ 0 → ⊥) → (type_at Y d).iw ≡ 0
  pub same : (d ≡ 0 → ⊥) → (type_at Y d).w ≡ w

-- a line of a state's role is a state, whose words come after all others
state_place : (p : Bool) (Y : Layout) (l : Line) → rank (line_type_in p Y l).role ≡ 4 → place_of Y l ≡ Y.counts.states
state_place p Y (Line.bitvec w) e = absurd (omega arith)
state_place p Y (Line.array i x) e = absurd (omega arith)
state_place p Y (Line.input s) e = absurd (omega arith)
state_place p Y (Line.state s) e = refl
state_place p Y (Line.value s x) e = absurd (not_four p (ty_at Y.ctx) s x e)
state_place p Y (Line.init_or_next m s q v) e = absurd (omega arith)
state_place p Y (Line.signal m a) e = absurd (omega arith)
state_place p Y (Line.output a) e = absurd (omega arith)
state_place p Y Line.unknown e = absurd (omega arith)

module _ (Y : Layout) (S : Sound Y) (l : Line) where
  abbrev N : ℕ
  N = length Y.ctx.tys

  old : {q at m w d : ℕ} → Settled Y q at m w d → q ≡ length Y.ctx.tys → ⊥
  old k e = omega (arith, k.known)

  -- what is known stays so after one line more
  pub settled_more : {q at m w d : ℕ} → Settled Y q at m w d → Settled (lay false Y l) q at m w d
  settled_more {q} {at} {m} {w} {d} k =
      let tq = type_old false Y l S.long q (old k) in
      let r = k.room in
      let ed : d ≡ length Y.ctx.tys → ⊥ = λ e. omega (arith, k.known, k.below) in
      let td = type_old false Y l S.long d ed in
      record {
        known = omega (arith, k.known, more_types false Y l);
        room = omega (arith, (grew Y.counts (size (line_type_in false Y l)) l).states);
        sized = ap size tq ∙ k.sized;
        width = ap (λ (t : Ty). t.w) tq ∙ k.width;
        spot = place_old false Y l S.long q (old k) ∙ k.spot;
        none = ap (λ (t : Ty). rank t.role) (type_old false Y l S.long 0 (λ e. omega (arith, k.known))) ∙ k.none;
        apart = λ x.
            by_place x (length Y.ctx.tys)
            (λ e c ne.
            let tx : type_at (lay false Y l) x ≡ line_type_in false Y l = ap (type_at (lay false Y l)) e ∙ type_new false Y l S.long in
            let px : place_at (lay false Y l) x ≡ Y.counts.states = ap (place_at (lay false Y l)) e ∙ place_new false Y l S.long ∙ state_place false Y l (sym (ap (λ (t : Ty). rank t.role) tx) ∙ c) in
            inl (omega arith))
            (λ n c ne.
            let tx = type_old false Y l S.long x n in
            let px = place_old false Y l S.long x n in
            rw (tx, px) (k.apart x (sym (ap (λ (t : Ty). rank t.role) tx) ∙ c) ne));
        below = k.below;
        unmarked = λ z. ap (λ (t : Ty). rank t.role) td ∙ k.unmarked z;
        flat = λ z. ap (λ (t : Ty). t.iw) td ∙ k.flat z;
        same = λ z. ap (λ (t : Ty). t.w) td ∙ k.same z;
      }

-- ---- the words themselves

-- the words that a state starts from: d is the line of its init's value x, or 0
abbrev pub start_of : (S : List ℕ) (at m w d x : ℕ) → List ℕ
start_of S at m w d x = if_nonzero d (replicate m x) (mask_words w (part S at m))

start_as : (S : List ℕ) (at m w d : ℕ) {x y : ℕ} → ((d ≡ 0 → ⊥) → x ≡ y) → start_of S at m w d x ≡ start_of S at m w d y
start_as S at m w zero e = refl
start_as S at m w (suc d) e = ap (replicate m) (e (λ z. omega arith))

start_some : (S : List ℕ) (at m w d x : ℕ) → (d ≡ 0 → ⊥) → start_of S at m w d x ≡ replicate m x
start_some S at m w zero x n = absurd (n refl)
start_some S at m w (suc d) x n = refl

pub record Begun (S : List ℕ) (B : Frame) (q at m w d : ℕ) : Type 0 where
  pub settled : Settled B.lay q at m w d
  pub words : part B.sts at m ≡ start_of S at m w d (word_at B d)

module _ (S ι : List ℕ) (B : Frame) (sound : Sound B.lay) (lines : length B.env ≡ length B.lay.ctx.tys) (many : length B.sts ≡ B.lay.counts.states) where
  word_kept_lem : (l : Line) (d : ℕ) → d < length B.env → word_at (eval_line false true S ι B l) d ≡ word_at B d
  word_kept_lem l d h = ap (λ (x : List ℕ). get_or x 0 0) (get_or-append B.env (cells_of false true S ι B l ∷ []) [] d h)

  module _ {q at m w d : ℕ} (k : Begun S B q at m w d) where
    -- a line that gives the state no word
    quiet : (l : Line) → part (states_after false true S B l) at m ≡ part B.sts at m → Begun S (eval_line false true S ι B l) q at m w d
    quiet l e =
        record {
          settled = settled_more B.lay sound l k.settled;
          words = e ∙ k.words ∙ start_as S at m w d (λ z. sym (word_kept_lem l d (omega (arith, k.settled.below, k.settled.known))));
        }

    room : at + m ≤ length B.sts
    room = omega (arith, k.settled.room)

    -- an init
    gives : (s x v : ℕ) → OkInitOrNext true (given B.lay.ctx) (sort_at false (ty_at B.lay.ctx) s) (type_at B.lay x) (type_at B.lay v) x v
        → Begun S (eval_line false true S ι B (Line.init_or_next true s x v)) q at m w (pick (eqb q x) v d)
    gives s x v ok =
        by_place q x
        (λ e.
        subst (λ (b : Bool). Begun S (eval_line false true S ι B (Line.init_or_next true s x v)) q at m w (pick b v d)) (sym (eq-eqb q x e))
        (let l = Line.init_or_next true s x v in
        let K = settled_more B.lay sound l k.settled in
        let vk : v < length B.lay.ctx.tys = earlier B.lay.ctx.tys v (omega (arith, ok.value.word.is)) in
        let tv = type_old false B.lay l sound.long v (λ z. omega arith) in
        let sx : size (type_at B.lay x) ≡ m = ap (λ (y : ℕ). size (type_at B.lay y)) (sym e) ∙ k.settled.sized in
        let px : place_at B.lay x ≡ at = ap (place_at B.lay) (sym e) ∙ k.settled.spot in
        let wx : (type_at B.lay x).w ≡ w = ap (λ (y : ℕ). (type_at B.lay y).w) (sym e) ∙ k.settled.width in
        let nz : v ≡ 0 → ⊥ = λ z. omega (arith, ok.value.word.is, ap (λ (y : ℕ). rank (type_at B.lay y).role) z, k.settled.none) in
        record {
          settled =
              record {
                known = K.known;
                room = K.room;
                sized = K.sized;
                width = K.width;
                spot = K.spot;
                none = K.none;
                apart = K.apart;
                below = omega (arith, ok.value.below);
                unmarked = λ z. ap (λ (t : Ty). rank t.role) tv ∙ unmarked_value (type_at B.lay v) ok.value.word.is ok.value.unmarked;
                flat = λ z. ap (λ (t : Ty). t.iw) tv ∙ ok.value.word.flat;
                same = λ z. ap (λ (t : Ty). t.w) tv ∙ ok.w ∙ sym ok.same.w ∙ wx;
              };
          words =
              ap₂ (λ (o n : ℕ). part (put B.sts o (replicate n (word_at B v))) at m) px sx ∙ laws.self B.sts at m (replicate m (word_at B v)) (length-replicate m (word_at B v)) room
              ∙ ap (replicate m) (sym (word_kept_lem l v (omega arith))) ∙ sym (start_some S at m w v (word_at (eval_line false true S ι B l) v) nz);
        }))
        (λ n.
        subst (λ (b : Bool). Begun S (eval_line false true S ι B (Line.init_or_next true s x v)) q at m w (pick b v d)) (sym (ne_eqb q x n))
        (let sx = size (type_at B.lay x) in
        let vs : List ℕ = replicate sx (word_at B v) in
        let lv : length vs ≡ sx = length-replicate sx (word_at B v) in
        let r = sound.room x ok.state in
        quiet (Line.init_or_next true s x v)
        (laws.put_apart B.sts (place_at B.lay x) vs (omega arith) at m room
        (⊎_elim (λ h. inl h) (λ h. inr (omega arith)) (k.settled.apart x ok.state (λ z. n (sym z)))))))

    pub begun_line : (l : Line) → OkLine false (ty_at B.lay.ctx) (given B.lay.ctx) l → Begun S (eval_line false true S ι B l) q at m w (note_init q d l)
    begun_line (Line.bitvec x) ok = quiet (Line.bitvec x) refl
    begun_line (Line.array i e) ok = quiet (Line.array i e) refl
    begun_line (Line.input s) ok = quiet (Line.input s) refl
    begun_line (Line.state s) ok = quiet (Line.state s) (part_front B.sts _ at m room)
    begun_line (Line.value s e) ok = quiet (Line.value s e) refl
    begun_line (Line.init_or_next true s x v) ok = gives s x v ok
    begun_line (Line.init_or_next false s x v) ok = quiet (Line.init_or_next false s x v) refl
    begun_line (Line.signal b a) ok = quiet (Line.signal b a) refl
    begun_line (Line.output a) ok = quiet (Line.output a) refl
    begun_line Line.unknown ok = absurd ok

-- ---- lines before the state give it nothing

note_early : (Y : Layout) (q : ℕ) (l : Line) → OkLine false (ty_at Y.ctx) (given Y.ctx) l → length Y.ctx.tys ≤ q → note_init q 0 l ≡ 0
note_early Y q (Line.bitvec w) ok h = refl
note_early Y q (Line.array i e) ok h = refl
note_early Y q (Line.input s) ok h = refl
note_early Y q (Line.state s) ok h = refl
note_early Y q (Line.value s e) ok h = refl
note_early Y q (Line.init_or_next true s x v) ok h =
    let k = earlier Y.ctx.tys x (omega (arith, ok.state)) in
    ap (λ (b : Bool). pick b v 0) (ne_eqb q x (λ e. omega arith))
note_early Y q (Line.init_or_next false s x v) ok h = refl
note_early Y q (Line.signal m a) ok h = refl
note_early Y q (Line.output a) ok h = refl
note_early Y q Line.unknown ok h = refl

-- the state's own line
settled_new : (Y : Layout) (S : Sound Y) (s : ℕ) → rank (type_at Y 0).role ≡ 0 → 0 < length Y.ctx.tys
    → Settled (lay false Y (Line.state s)) (length Y.ctx.tys) Y.counts.states (size (line_type_in false Y (Line.state s))) (line_type_in false Y (Line.state s)).w 0
settled_new Y S s z h =
    let l = Line.state s in
    let q = length Y.ctx.tys in
    let tn = type_new false Y l S.long in
    record {
      known = omega (arith, more_types false Y l);
      room = omega arith;
      sized = ap size tn;
      width = ap (λ (t : Ty). t.w) tn;
      spot = place_new false Y l S.long;
      none = ap (λ (t : Ty). rank t.role) (type_old false Y l S.long 0 (λ e. omega arith)) ∙ z;
      apart = λ x.
          by_place x q
          (λ e c ne. absurd (ne e))
          (λ n c ne.
          let tx = type_old false Y l S.long x n in
          let px = place_old false Y l S.long x n in
          inr (rw (tx, px) (S.room x (sym (ap (λ (t : Ty). rank t.role) tx) ∙ c))));
      below = h;
      unmarked = λ e. absurd (e refl);
      flat = λ e. absurd (e refl);
      same = λ e. absurd (e refl);
    }

-- ---- the state on the line i + 1 of an accepted circuit

module _ (t : List ℕ) (n : ℕ) (acc : checked false t n ≡ Ok tt) (S ι : List ℕ) (many : length S ≡ (layout false (lines_of false t n)).counts.states) where
  abbrev C : List Line
  C = lines_of false t n

  abbrev B : ℕ → Frame
  B j = acc_at false true S ι (lines_of false t n) j

  number : (j : ℕ) → j ≤ n → length (acc_at false true S ι (lines_of false t n) j).lay.ctx.tys ≡ j + 1
  number j h = ap (λ (Y : Layout). length Y.ctx.tys) (lay_is t n acc S many true ι j) ∙ number_at false t n acc j h

  nothing : (j : ℕ) → rank (type_at (acc_at false true S ι (lines_of false t n) j).lay 0).role ≡ 0
  nothing j = ap (λ (Y : Layout). rank (type_at Y 0).role) (lay_is t n acc S many true ι j) ∙ ap (λ (y : Ty). rank y.role) ((later false no_layout (take j (lines_of false t n))).type 0 (omega arith))

  module _ (i : ℕ) (h : i < n) (s : ℕ) (el : get_or (lines_of false t n) i Line.unknown ≡ Line.state s) where
    early : (j : ℕ) → j ≤ suc i → init_of (suc i) (take j (lines_of false t n)) ≡ 0
    early zero z = refl
    early (suc j) z =
        init_more (suc i) (lines_of false t n) j (omega (arith, lines_many false t n acc)) ∙ ap (λ (d : ℕ). note_init (suc i) d (get_or (lines_of false t n) j Line.unknown)) (early j (omega arith))
        ∙ note_early (acc_at false true S ι (lines_of false t n) j).lay (suc i) (get_or (lines_of false t n) j Line.unknown) (facts_of t n acc S many true ι j (omega arith)).ok (omega (arith, number j (omega arith)))

    abbrev at : ℕ
    at = (acc_at false true S ι (lines_of false t n) i).lay.counts.states

    abbrev own : Ty
    own = line_type_in false (acc_at false true S ι (lines_of false t n) i).lay (Line.state s)

    first : Begun S (acc_at false true S ι (lines_of false t n) (suc i)) (suc i) at (size own) own.w 0
    first =
        let A = acc_at false true S ι (lines_of false t n) i in
        let l = Line.state s in
        let H = (held_at t n acc S many true ι i (omega arith)).held in
        let k = facts_of t n acc S many true ι i h in
        let q : length A.lay.ctx.tys ≡ suc i = number i (omega arith) ∙ omega arith in
        let hs : at + size own ≤ length S = subst (λ (x : Line). (lay false A.lay x).counts.states ≤ length S) el k.states in
        let vs : List ℕ = mask_words own.w (part S at (size own)) in
        let lv : length vs ≡ size own = laws.length_lows own.w (part S at (size own)) ∙ laws.length_part S at (size own) hs in
        subst (λ (X : Frame). Begun S X (suc i) at (size own) own.w 0) (sym (acc_suc false true S ι (lines_of false t n) i (omega (arith, lines_many false t n acc)) ∙ ap (eval_line false true S ι A) el))
        (record {
          settled = subst (λ (x : ℕ). Settled (lay false A.lay l) x at (size own) own.w 0) q (settled_new A.lay H.sound s (nothing i) (omega arith));
          words = ap (take (size own)) (drop_at A.sts vs at H.kept.many) ∙ take_all (size own) vs (omega arith);
        })

    from : (k : ℕ) → k + suc i ≤ n → Begun S (acc_at false true S ι (lines_of false t n) (k + suc i)) (suc i) at (size own) own.w (init_of (suc i) (take (k + suc i) (lines_of false t n)))
    from zero z =
        let e : suc i ≡ 0 + suc i = omega arith in
        subst (λ (j : ℕ). Begun S (acc_at false true S ι (lines_of false t n) j) (suc i) at (size own) own.w (init_of (suc i) (take j (lines_of false t n)))) e
        (subst (λ (d : ℕ). Begun S (acc_at false true S ι (lines_of false t n) (suc i)) (suc i) at (size own) own.w d) (sym (early (suc i) (omega arith))) first)
    from (suc k) z =
        let j : ℕ = k + suc i in
        let hj : j < n = omega arith in
        let hl : j < length (lines_of false t n) = omega (arith, lines_many false t n acc) in
        let e : suc (k + suc i) ≡ suc k + suc i = omega arith in
        let H = (held_at t n acc S many true ι (k + suc i) (omega arith)).held in
        let r = begun_line S ι (acc_at false true S ι (lines_of false t n) (k + suc i)) H.sound H.holds.lines H.kept.many (from k (omega arith)) (get_or (lines_of false t n) (k + suc i) Line.unknown) (facts_of t n acc S many true ι (k + suc i) hj).ok in
        subst (λ (x : ℕ). Begun S (acc_at false true S ι (lines_of false t n) x) (suc i) at (size own) own.w (init_of (suc i) (take x (lines_of false t n)))) e
        (subst (λ (d : ℕ). Begun S (acc_at false true S ι (lines_of false t n) (suc (k + suc i))) (suc i) at (size own) own.w d) (sym (init_more (suc i) (lines_of false t n) (k + suc i) hl))
        (subst (λ (X : Frame). Begun S X (suc i) at (size own) own.w (note_init (suc i) (init_of (suc i) (take (k + suc i) (lines_of false t n))) (get_or (lines_of false t n) (k + suc i) Line.unknown))) (sym (acc_suc false true S ι (lines_of false t n) (k + suc i) hl)) r))

    -- after all lines
    pub begun : Begun S (step false true (lines_of false t n) S ι) (suc i) at (size own) own.w (init_of (suc i) (lines_of false t n))
    begun =
        let k : ℕ = n - suc i in
        let e : k + suc i ≡ n = omega arith in
        let c : take n (lines_of false t n) ≡ lines_of false t n = ap (λ (m : ℕ). take m (lines_of false t n)) (sym (lines_many false t n acc)) ∙ take-length (lines_of false t n) in
        subst (λ (x : List Line). Begun S (step false true (lines_of false t n) S ι) (suc i) at (size own) own.w (init_of (suc i) x)) c
        (subst (λ (X : Frame). Begun S X (suc i) at (size own) own.w (init_of (suc i) (take n (lines_of false t n)))) (all_lines t n acc S many true ι)
        (subst (λ (x : ℕ). Begun S (acc_at false true S ι (lines_of false t n) x) (suc i) at (size own) own.w (init_of (suc i) (take x (lines_of false t n)))) e (from k (omega arith))))
