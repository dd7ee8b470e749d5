-- "Start words: one for each state cell in line order, cells rising; unused where there is an init." Two lists of start words that differ only in the words of states that have an init give
-- the same start, and so the same run. Assumes nothing.
use Rattle.std.specs.Prelude.{Ok}
use Prim.Native.Nat.{ℕ, zero, suc, ◌+◌, ◌-◌, ◌%◌, ◌^◌, ◌≤◌, ◌<◌}
use mathlib.Core.Path.{◌≡◌, refl, sym, ap, ap₂, ◌∙◌, subst}
use mathlib.Core.Logic.{◌⊎◌, inl, inr, ⊎_elim}
use mathlib.Core.Bool.{Bool, true, false}
use mathlib.Core.List.{List, [], ◌∷◌, ◌++◌}
use native.Mathlib.Omega.{arith}
use lib.ListN.{length, take, drop, get_or, replicate, length-append, length-drop, length-replicate, get_or-append}
use lib.Seq.{drop_at, ext_get_or}
use Rattle.tables.specs.Pick.{among}
use Rattle.tables.specs.Lines.{Line}
use Rattle.tables.specs.Layout.{lines_of}
use Rattle.tables.specs.Tables.{checked}
use Rattle.tables.proofs.Kept.{no_yes}
use Rattle.circuits.specs.Cells.{mask_words, part, put}
use Rattle.circuits.specs.Layout.{Layout, type_at, place_at, size, line_type_in, no_layout, lay, lay_all, layout}
use Rattle.circuits.specs.Meaning.{Frame, word_at, eval_line, eval_all, no_frame, step}
use Rattle.circuits.specs.Run.{input_count, start, steps, run}
use Rattle.circuits.proofs.Puts as laws
use Rattle.circuits.proofs.Laid.{sound_none, later}
use Rattle.circuits.proofs.Held.{put_front, put_end}
use Rattle.circuits.proofs.Walked.{lines_many, lines_ok}
use Rattle.circuits.proofs.Earlier.{Alike, line_alike}
use Rattle.circuits.proofs.Placing.{few_here}
use Rattle.circuits.proofs.Sizes.{Walking, walk_none, walk_line, states_many}
use Rattle.tables.proofs.GivenStates.{gives_to}
use Rattle.circuits.proofs.Pending.{Initialised, Pending, only_one, comes}

-- ---- puts into two lists that are alike at the place j

put_alike : (u w vs : List ℕ) (o j : ℕ) → o + length vs ≤ length u → o + length vs ≤ length w → (get_or u j 0 ≡ get_or w j 0) ⊎ ((o ≤ j) × (j < o + length vs))
    → get_or (put u o vs) j 0 ≡ get_or (put w o vs) j 0
put_alike u w vs o j hu hw d =
    ⊎_elim (λ lo. laws.put_lo u o vs hu j lo ∙ out d (λ e. omega (arith, e.0)) ∙ sym (laws.put_lo w o vs hw j lo))
    (λ ge. ⊎_elim (λ lt.
    let i : ℕ = j - o in
    let e : o + i ≡ j = omega arith in
    ap (λ (k : ℕ). get_or (put u o vs) k 0) (sym e) ∙ laws.put_in u o vs hu i (omega arith) ∙ sym (ap (λ (k : ℕ). get_or (put w o vs) k 0) (sym e) ∙ laws.put_in w o vs hw i (omega arith)))
    (λ hi. laws.put_hi u o vs hu j hi ∙ out d (λ e. omega (arith, e.1)) ∙ sym (laws.put_hi w o vs hw j hi))
    (laws.lt_or_ge j (o + length vs)))
    (laws.lt_or_ge j o)
  where
    out : (get_or u j 0 ≡ get_or w j 0) ⊎ ((o ≤ j) × (j < o + length vs)) → (((o ≤ j) × (j < o + length vs)) → ⊥) → get_or u j 0 ≡ get_or w j 0
    out (inl e) n = e
    out (inr e) n = absurd (n e)

lows_at : (w : ℕ) (xs : List ℕ) (i : ℕ) → i < length xs → get_or (mask_words w xs) i 0 ≡ get_or xs i 0 % 2 ^ w
lows_at w [] i h = absurd (omega arith)
lows_at w (x ∷ xs) zero h = refl
lows_at w (x ∷ xs) (suc i) h = lows_at w xs i (omega arith)

-- m words from o on, each modulo 2 ^ w
abbrev masked : List ℕ → (o m w : ℕ) → List ℕ
masked u o m w = put u o (mask_words w (part u o m))

mask_length : (u : List ℕ) (o m w : ℕ) → o + m ≤ length u → length (mask_words w (part u o m)) ≡ m
mask_length u o m w h = laws.length_lows w (part u o m) ∙ laws.length_part u o m h

mask_in_lem : (u : List ℕ) (o m w i : ℕ) → o + m ≤ length u → i < m → get_or (masked u o m w) (o + i) 0 ≡ get_or u (o + i) 0 % 2 ^ w
mask_in_lem u o m w i h k =
    let l = mask_length u o m w h in
    laws.put_in u o (mask_words w (part u o m)) (omega arith) i (omega arith) ∙ lows_at w (part u o m) i (omega (arith, laws.length_part u o m h))
    ∙ ap (λ (x : ℕ). x % 2 ^ w) (laws.part_get_or u o m i k)

mask_alike : (u v : List ℕ) (o m w j : ℕ) → o + m ≤ length u → o + m ≤ length v → get_or u j 0 ≡ get_or v j 0 → get_or (masked u o m w) j 0 ≡ get_or (masked v o m w) j 0
mask_alike u v o m w j hu hv d =
    let lu = mask_length u o m w hu in
    let lv = mask_length v o m w hv in
    ⊎_elim (λ lo. laws.put_lo u o (mask_words w (part u o m)) (omega arith) j lo ∙ d ∙ sym (laws.put_lo v o (mask_words w (part v o m)) (omega arith) j lo))
    (λ ge. ⊎_elim (λ lt.
    let i : ℕ = j - o in
    let e : o + i ≡ j = omega arith in
    subst (λ (k : ℕ). get_or u k 0 ≡ get_or v k 0 → get_or (masked u o m w) k 0 ≡ get_or (masked v o m w) k 0) e
    (λ z. mask_in_lem u o m w i hu (omega arith) ∙ ap (λ (x : ℕ). x % 2 ^ w) z ∙ sym (mask_in_lem v o m w i hv (omega arith))) d)
    (λ hi. laws.put_hi u o (mask_words w (part u o m)) (omega arith) j (omega arith) ∙ d ∙ sym (laws.put_hi v o (mask_words w (part v o m)) (omega arith) j (omega arith)))
    (laws.lt_or_ge j (o + m)))
    (laws.lt_or_ge j o)

-- ---- two walks as a run starts, from the start words S and S'

-- the state words as the lines so far, A, leave them, and the start words of states to come
abbrev words_so_far : Frame → (S : List ℕ) → List ℕ
words_so_far A S = A.sts ++ drop A.lay.counts.states S

module _ {p : Bool} {all : ℕ} {S : List ℕ} {A : Frame} {C : List Line} (k : Walking p all S A C) where
  many_so_far : length (words_so_far A S) ≡ length S
  many_so_far =
      length-append A.sts (drop A.lay.counts.states S)
      ∙ omega (arith, states_many k, length-drop A.lay.counts.states S, (later p A.lay C).states, k.states)

  -- a state line masks its words where they stand
  masked_so_far : (n m w : ℕ) → n ≡ A.lay.counts.states → n + m ≤ length S → (A.sts ++ mask_words w (part S n m)) ++ drop (n + m) S ≡ masked (words_so_far A S) n m w
  masked_so_far n m w e h =
      let vs : List ℕ = mask_words w (part S n m) in
      let lv : length vs ≡ m = mask_length S n m w h in
      let ln : length A.sts ≡ n = states_many k ∙ sym e in
      let same : part (words_so_far A S) n m ≡ part S n m = ap (take m) (drop_at A.sts (drop A.lay.counts.states S) n ln ∙ ap (λ (x : ℕ). drop x S) (sym e)) in
      ap (λ (x : ℕ). (A.sts ++ vs) ++ drop (n + x) S) (sym lv) ∙ sym (put_end A.sts S vs n ln)
      ∙ ap₂ (λ (x : ℕ) (xs : List ℕ). put (A.sts ++ drop x S) n (mask_words w xs)) e (sym same)

-- each of the words is the same in both, or an init is still to come for it among the lines D
abbrev Agrees : (p : Bool) (S S' : List ℕ) (total : ℕ) → Frame → Frame → (D : List Line) → Type 0
Agrees p S S' total A B D = (j : ℕ) → j < total → (get_or (words_so_far A S) j 0 ≡ get_or (words_so_far B S') j 0) ⊎ Pending p A.lay D j

-- a line that is no init
pass : (p : Bool) {X : Type 0} (Z : Layout) (l : Line) (D : List Line) (j : ℕ) → ((x : ℕ) → among x (gives_to true l) ≡ false) → X ⊎ Pending p Z (l ∷ D) j → X ⊎ Pending p (lay p Z l) D j
pass p Z l D j n (inl e) = inl e
pass p Z l D j n (inr (inl h)) = absurd (no_yes (sym (n h.state) ∙ h.gives))
pass p Z l D j n (inr (inr r)) = inr r

module _ (p : Bool) (S S' ι : List ℕ) {all : ℕ} (total : ℕ) where
  module _ (A B : Frame) (a : Alike A B) where
    agrees_state : (s : ℕ) (D : List Line) → Walking p all S A (Line.state s ∷ D) → Walking p all S' B (Line.state s ∷ D) → Agrees p S S' total A B (Line.state s ∷ D)
        → Agrees p S S' total (eval_line p true S ι A (Line.state s)) (eval_line p true S' ι B (Line.state s)) D
    agrees_state s D kA kB W j h =
        let l = Line.state s in
        let n = A.lay.counts.states in
        let m = size (line_type_in p A.lay l) in
        let w = (line_type_in p A.lay l).w in
        let g = (later p (lay p A.lay l) D).states in
        let h_a : n + m ≤ length S = omega (arith, kA.states) in
        let h_b : n + m ≤ length S' = omega (arith, subst (λ (Y : Layout). (lay_all p Y (l ∷ D)).counts.states ≤ length S') (sym a.lay) kB.states) in
        let e_a : words_so_far (eval_line p true S ι A l) S ≡ masked (words_so_far A S) n m w = masked_so_far kA n m w refl h_a in
        let e_b : words_so_far (eval_line p true S' ι B l) S' ≡ masked (words_so_far B S') n m w =
        ap (λ (Y : Layout). (B.sts ++ mask_words (line_type_in p Y l).w (part S' Y.counts.states (size (line_type_in p Y l)))) ++ drop (Y.counts.states + size (line_type_in p Y l)) S') (sym a.lay)
        ∙ masked_so_far kB n m w (ap (λ (Y : Layout). Y.counts.states) a.lay) h_b in
        ⊎_elim
        (λ e. inl (ap (λ (x : List ℕ). get_or x j 0) e_a ∙ mask_alike (words_so_far A S) (words_so_far B S') n m w j (omega (arith, many_so_far kA)) (omega (arith, many_so_far kB)) e ∙ sym (ap (λ (x : List ℕ). get_or x j 0) e_b)))
        (λ r. inr r) (pass p A.lay l D j (λ x. refl) (W j h))

    agrees_init : (s q v : ℕ) (D : List Line) → Walking p all S A (Line.init_or_next true s q v ∷ D) → Walking p all S' B (Line.init_or_next true s q v ∷ D) → Agrees p S S' total A B (Line.init_or_next true s q v ∷ D)
        → Agrees p S S' total (eval_line p true S ι A (Line.init_or_next true s q v)) (eval_line p true S' ι B (Line.init_or_next true s q v)) D
    agrees_init s q v D kA kB W j h = by (W j h)
      where
        o : ℕ
        o = place_at A.lay q

        vs : List ℕ
        vs = replicate (size (type_at A.lay q)) (word_at A v)

        lv : length vs ≡ size (type_at A.lay q)
        lv = length-replicate (size (type_at A.lay q)) (word_at A v)

        h_a : o + length vs ≤ length A.sts
        h_a = omega (arith, lv, kA.held.sound.room q kA.ok.0.state, states_many kA)

        h_b : o + length vs ≤ length B.sts
        h_b = omega (arith, lv, kA.held.sound.room q kA.ok.0.state, states_many kB, ap (λ (Y : Layout). Y.counts.states) a.lay)

        e_a : words_so_far (eval_line p true S ι A (Line.init_or_next true s q v)) S ≡ put (words_so_far A S) o vs
        e_a = sym (put_front A.sts (drop A.lay.counts.states S) o vs h_a)

        e_b : words_so_far (eval_line p true S' ι B (Line.init_or_next true s q v)) S' ≡ put (words_so_far B S') o vs
        e_b =
            ap₂ (λ (Y : Layout) (x : ℕ). put B.sts (place_at Y q) (replicate (size (type_at Y q)) x) ++ drop B.lay.counts.states S') (sym a.lay) (sym (ap (λ (x : List ℕ). get_or x 0 0) (a.cells v kA.ok.0.value.unmarked)))
            ∙ sym (put_front B.sts (drop B.lay.counts.states S') o vs h_b)

        same : (get_or (words_so_far A S) j 0 ≡ get_or (words_so_far B S') j 0) ⊎ ((o ≤ j) × (j < o + length vs))
            → get_or (words_so_far (eval_line p true S ι A (Line.init_or_next true s q v)) S) j 0 ≡ get_or (words_so_far (eval_line p true S' ι B (Line.init_or_next true s q v)) S') j 0
        same d =
            ap (λ (x : List ℕ). get_or x j 0) e_a
            ∙ put_alike (words_so_far A S) (words_so_far B S') vs o j (omega (arith, h_a, length-append A.sts (drop A.lay.counts.states S))) (omega (arith, h_b, length-append B.sts (drop B.lay.counts.states S'))) d
            ∙ sym (ap (λ (x : List ℕ). get_or x j 0) e_b)

        by : (get_or (words_so_far A S) j 0 ≡ get_or (words_so_far B S') j 0) ⊎ Pending p A.lay (Line.init_or_next true s q v ∷ D) j
            → (get_or (words_so_far (eval_line p true S ι A (Line.init_or_next true s q v)) S) j 0 ≡ get_or (words_so_far (eval_line p true S' ι B (Line.init_or_next true s q v)) S') j 0)
            ⊎ Pending p (lay p A.lay (Line.init_or_next true s q v)) D j
        by (inl e) = inl (same (inl e))
        by (inr (inl x)) =
            let z = only_one x.state q x.gives in
            let g : (o ≤ j) × (j < o + size (type_at A.lay q)) = subst (λ (y : ℕ). (place_at A.lay y ≤ j) × (j < place_at A.lay y + size (type_at A.lay y))) z (x.from, x.to) in
            inl (same (inr (g.0, omega (arith, g.1, lv))))
        by (inr (inr r)) = inr r

    agrees_line : (l : Line) (D : List Line) → Walking p all S A (l ∷ D) → Walking p all S' B (l ∷ D) → Agrees p S S' total A B (l ∷ D) → Agrees p S S' total (eval_line p true S ι A l) (eval_line p true S' ι B l) D
    agrees_line (Line.bitvec w) D kA kB W j h = pass p A.lay (Line.bitvec w) D j (λ x. refl) (W j h)
    agrees_line (Line.array i e) D kA kB W j h = pass p A.lay (Line.array i e) D j (λ x. refl) (W j h)
    agrees_line (Line.input s) D kA kB W j h = pass p A.lay (Line.input s) D j (λ x. refl) (W j h)
    agrees_line (Line.state s) D kA kB W j h = agrees_state s D kA kB W j h
    agrees_line (Line.value s e) D kA kB W j h = pass p A.lay (Line.value s e) D j (λ x. refl) (W j h)
    agrees_line (Line.init_or_next true s q v) D kA kB W j h = agrees_init s q v D kA kB W j h
    agrees_line (Line.init_or_next false s q v) D kA kB W j h = pass p A.lay (Line.init_or_next false s q v) D j (λ x. refl) (W j h)
    agrees_line (Line.signal m x) D kA kB W j h = pass p A.lay (Line.signal m x) D j (λ y. refl) (W j h)
    agrees_line (Line.output x) D kA kB W j h = pass p A.lay (Line.output x) D j (λ y. refl) (W j h)
    agrees_line Line.unknown D kA kB W j h = pass p A.lay Line.unknown D j (λ x. refl) (W j h)

  agrees_all : (A B : Frame) (D : List Line) → Alike A B → Walking p all S A D → Walking p all S' B D → Agrees p S S' total A B D → total ≡ (lay_all p A.lay D).counts.states
      → (eval_all p true S ι A D).sts ≡ (eval_all p true S' ι B D).sts
  agrees_all A B [] a kA kB W e =
      let lA : length A.sts ≡ total = states_many kA ∙ sym e in
      let lB : length B.sts ≡ total = states_many kB ∙ ap (λ (Y : Layout). Y.counts.states) (sym a.lay) ∙ sym e in
      ext_get_or 0 A.sts B.sts (lA ∙ sym lB)
      (λ j h.
      ⊎_elim
      (λ z. sym (get_or-append A.sts (drop A.lay.counts.states S) 0 j h) ∙ z ∙ get_or-append B.sts (drop B.lay.counts.states S') 0 j (omega arith))
      (λ z. absurd z) (W j (omega arith)))
  agrees_all A B (l ∷ D) a kA kB W e =
      agrees_all (eval_line p true S ι A l) (eval_line p true S' ι B l) D (line_alike p true true S S' ι ι A B l a) (walk_line p true S ι A l D kA) (walk_line p true S' ι B l D kB)
      (agrees_line A B a l D kA kB W) e

-- ---- the law

module _ (p : Bool) (t : List ℕ) (n : ℕ) (acc : checked p t n ≡ Ok tt) where
  abbrev C : List Line
  C = lines_of p t n

  abbrev Y : Layout
  Y = layout p (lines_of p t n)

  -- S and S' are two lists of start words that are alike but in words of states that have an init
  module _ (S S' I : List ℕ) (enough : Y.counts.states ≤ length S) (enough' : Y.counts.states ≤ length S')
      (same : (j : ℕ) → j < Y.counts.states → (get_or S j 0 ≡ get_or S' j 0) ⊎ Initialised Y j) where
    pub start_unused : start p C S I ≡ start p C S' I
    unfolding start step layout
    start_unused =
        let few : length C ≤ 16384 = omega (arith, lines_many p t n acc, few_here p t n acc) in
        let ok = lines_ok p t n acc in
        let ι = take (input_count p C) I in
        agrees_all p S S' ι (lay_all p no_layout C).counts.states no_frame no_frame C (record { lay = refl; long_a = refl; long_b = refl; cells = λ x e. refl })
        (walk_none p true S ι C ok few enough) (walk_none p true S' ι C ok few enough')
        (λ j h. ⊎_elim (λ e. inl e) (λ x. ⊎_elim (λ b. absurd (no_yes b)) (λ r. inr r) (comes p x.state j no_layout C sound_none ok x.init x.from x.to)) (same j h)) refl

    -- and so the same run, for any number of steps
    pub run_unused : (k : ℕ) → run p C k S I ≡ run p C k S' I
    unfolding run
    run_unused k = ap (λ (x : List ℕ). steps p C k x I) start_unused
