-- What a step of an accepted circuit (p is false) or program (true) does to its states. Its lines see the state words that it began with, and then all next values are set together.
-- C are the table's lines, Y is their layout, and σ the state words before the step, ι its input row. Assumes nothing.
use Rattle.std.specs.Prelude.{Ok}
use Prim.Native.Nat.{ℕ, suc, ◌^◌, ◌≤◌, ◌<◌}
use mathlib.Core.Path.{◌≡◌, refl, sym, ap, ap₂, ◌∙◌, subst}
use mathlib.Core.Bool.{Bool, true, false}
use mathlib.Core.List.{List, [], ◌∷◌}
use native.Mathlib.Omega.{arith}
use native.Mathlib.Nat.{mod-eq_of_lt}
use lib.ListN.{length, take, get_or, replicate}
use Rattle.tables.specs.declared.Ty.{Ty}
use Rattle.tables.specs.Lines.{Line}
use Rattle.tables.specs.Layout.{lines_of}
use Rattle.tables.specs.Types.{rank, ty_at, given}
use Rattle.tables.specs.Tables.{checked}
use Rattle.tables.proofs.Facts.{OkLine}
use Rattle.tables.proofs.Showing.{earlier}
use Rattle.circuits.specs.Cells.{mask_words}
use Rattle.circuits.specs.Layout.{Layout, type_at, size, lay_all, no_layout, layout}
use Rattle.circuits.specs.Meaning.{state_words, cells_at, word_at, given_words, eval_all, no_frame, step}
use Rattle.circuits.proofs.Laid.{type_old, more_types}
use Rattle.circuits.proofs.Walked.{acc_lay, lines_many, lines_ok, ok_here, sound_at, later_at}
use Rattle.circuits.proofs.Placing.{few_here}
use Rattle.circuits.proofs.Sizes.{Walking, walk_none, walk_through, walk_done, states_many, cells_below}
use Rattle.circuits.proofs.StateWords.{words_of_state, States, states_none, states_line, gives_words}

-- words of w bits are stored and read as they are
masked_small : (w : ℕ) (xs : List ℕ) → ((j : ℕ) → get_or xs j 0 < 2 ^ w) → mask_words w xs ≡ xs
masked_small w [] h = refl
masked_small w (x ∷ xs) h = ap₂ (λ (y : ℕ) (ys : List ℕ). y ∷ ys) (mod-eq_of_lt (h 0)) (masked_small w xs (λ j. h (suc j)))

pub settled : (p : Bool) (w : ℕ) (xs : List ℕ) → (p ≡ false → (j : ℕ) → get_or xs j 0 < 2 ^ w) → state_words p false w xs ≡ xs
settled false w xs h = masked_small w xs (h refl)
settled true w xs h = refl

module _ (p : Bool) (t : List ℕ) (n : ℕ) (acc : checked p t n ≡ Ok tt) where
  abbrev C : List Line
  C = lines_of p t n

  abbrev Y : Layout
  Y = layout p (lines_of p t n)

  step_lay : (f : Bool) (σ ι : List ℕ) → (step p f C σ ι).lay ≡ Y
  unfolding step layout
  step_lay f σ ι = acc_lay p f σ ι no_frame C

  module _ (σ : List ℕ) (enough : Y.counts.states ≤ length σ) (f : Bool) (ι : List ℕ) where
    begun : Walking p Y.counts.cells σ no_frame C
    begun = walk_none p f σ ι C (lines_ok p t n acc) (omega (arith, lines_many p t n acc, few_here p t n acc)) enough

    ended : Walking p Y.counts.cells σ (step p f C σ ι) []
    unfolding step
    ended = walk_done p f σ ι no_frame C begun

    states : States p f σ (step p f C σ ι)
    unfolding step
    states = walk_through p f σ ι (States p f σ) (states_line p f σ ι) no_frame C begun (states_none p f σ)

    -- a step leaves as many state words as the states have
    pub words_many : length (step p f C σ ι).sts ≡ Y.counts.states
    words_many = states_many ended ∙ ap (λ (Z : Layout). Z.counts.states) (step_lay f σ ι)

    -- The value of a state in a step: its words before the step, whatever its next line is and whatever other next lines store.
    pub state_value : (q : ℕ) → rank (type_at Y q).role ≡ 4
        → cells_at (step p f C σ ι) q ≡ state_words p f (type_at Y q).w (words_of_state Y σ q)
    state_value =
        subst (λ (Z : Layout). (q : ℕ) → rank (type_at Z q).role ≡ 4 → cells_at (step p f C σ ι) q ≡ state_words p f (type_at Z q).w (words_of_state Z σ q)) (step_lay f σ ι)
        states.own

    -- its words after the step where it has no next line (as a run starts: no init line): the value that it had
    pub words_kept : (q : ℕ) → rank (type_at Y q).role ≡ 4 → given Y.ctx f q ≡ false
        → words_of_state Y (step p f C σ ι).sts q ≡ cells_at (step p f C σ ι) q
    words_kept =
        subst (λ (Z : Layout). (q : ℕ) → rank (type_at Z q).role ≡ 4 → given Z.ctx f q ≡ false → words_of_state Z (step p f C σ ι).sts q ≡ cells_at (step p f C σ ι) q) (step_lay f σ ι)
        states.kept

    -- its words after the step where the line at the place i is its next (as a run starts: its init)
    pub words_given : (i s q v : ℕ) → i < n → get_or C i Line.unknown ≡ Line.init_or_next f s q v
        → words_of_state Y (step p f C σ ι).sts q ≡ given_words (step p f C σ ι) f (size (type_at Y q)) v
    unfolding step
    words_given i s q v h e =
        subst (λ (Z : Layout). words_of_state Z (eval_all p f σ ι no_frame C).sts q ≡ given_words (eval_all p f σ ι no_frame C) f (size (type_at Z q)) v) (step_lay f σ ι)
        (gives_words p f σ ι no_frame C begun (states_none p f σ) i s q v (omega (arith, lines_many p t n acc)) e)

  -- ---- "then sets all next values together"

  -- The words of a state after a step are the cells that its next's value line has in this very step, all of whose lines were evaluated from the state words before it.
  pub next_words : (σ ι : List ℕ) → Y.counts.states ≤ length σ → (i s q v : ℕ) → i < n → get_or C i Line.unknown ≡ Line.init_or_next false s q v
      → words_of_state Y (step p false C σ ι).sts q ≡ cells_at (step p false C σ ι) v
  next_words σ ι enough i s q v h e = words_given σ enough false ι i s q v h e

  -- a next's state is one, and its value has the state's width
  module _ (i s q v : ℕ) (h : i < n) (e : get_or C i Line.unknown ≡ Line.init_or_next false s q v) where
    abbrev Z : Layout
    Z = lay_all p no_layout (take i C)

    ok : OkLine p (ty_at Z.ctx) (given Z.ctx) (Line.init_or_next false s q v)
    ok = subst (OkLine p (ty_at Z.ctx) (given Z.ctx)) e (ok_here p t n acc i h)

    same_type : (a : ℕ) → 1 ≤ rank (type_at Z a).role → type_at Y a ≡ type_at Z a
    same_type a r =
        let l = get_or C i Line.unknown in
        let k = earlier Z.ctx.tys a r in
        (later_at p t n acc i h).type a (omega (arith, more_types p Z l)) ∙ type_old p Z l (sound_at p t n acc i).long a (λ z. omega arith)

    is_state_lem : rank (type_at Y q).role ≡ 4
    is_state_lem = ap (λ (x : Ty). rank x.role) (same_type q (omega (arith, ok.state))) ∙ ok.state

    is_value_lem : 2 ≤ rank (type_at Y v).role
    is_value_lem = subst (λ (x : Ty). 2 ≤ rank x.role) (sym (same_type v (omega (arith, ok.value.is)))) ok.value.is

    same_width : (type_at Y v).w ≡ (type_at Y q).w
    same_width =
        ap (λ (x : Ty). x.w) (same_type v (omega (arith, ok.value.is))) ∙ ok.w ∙ sym ok.same.w ∙ sym (ap (λ (x : Ty). x.w) (same_type q (omega (arith, ok.state))))

    -- So its value at the next step, whatever the row ι', is the one that the value line has now.
    pub next_value : (σ ι ι' : List ℕ) → Y.counts.states ≤ length σ
        → cells_at (step p false C (step p false C σ ι).sts ι') q ≡ cells_at (step p false C σ ι) v
    next_value σ ι ι' enough =
        let after : List ℕ = (step p false C σ ι).sts in
        let w = (type_at Y q).w in
        let L = step_lay false σ ι in
        let r : 2 ≤ rank (type_at (step p false C σ ι).lay v).role = subst (λ (X : Layout). 2 ≤ rank (type_at X v).role) (sym L) is_value_lem in
        let x : (type_at (step p false C σ ι).lay v).w ≡ w = ap (λ (X : Layout). (type_at X v).w) L ∙ same_width in
        state_value after (omega (arith, words_many σ enough false ι)) false ι' q is_state_lem
        ∙ ap (state_words p false w) (next_words σ ι enough i s q v h e)
        ∙ settled p w (cells_at (step p false C σ ι) v) (λ b j. subst (λ (m : ℕ). get_or (cells_at (step p false C σ ι) v) j 0 < 2 ^ m) x (cells_below (ended σ enough false ι) v r b j))

  -- ---- an init's word goes to every cell

  pub init_words : (S ι : List ℕ) → Y.counts.states ≤ length S → (i s q v : ℕ) → i < n → get_or C i Line.unknown ≡ Line.init_or_next true s q v
      → words_of_state Y (step p true C S ι).sts q ≡ replicate (size (type_at Y q)) (word_at (step p true C S ι) v)
  init_words S ι enough i s q v h e = words_given S enough true ι i s q v h e
