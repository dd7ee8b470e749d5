-- The runs of an accepted circuit and of its flat circuit are alike, and the flat circuit keeps the rules. Assumes nothing.
use Prim.Native.Nat.{ℕ, zero, suc, ◌+◌, ◌≤◌}
use mathlib.Core.Path.{◌≡◌, refl, sym, ap, ap₂, ◌∙◌, subst₂, subst⁻¹}
use mathlib.Core.Bool.{Bool, true, false}
use mathlib.Core.List.{List, [], ◌∷◌, ◌++◌}
use native.Mathlib.Nat.{le_refl, le_trans}
use native.Mathlib.Omega.{arith}
use lib.ListN.{length, take, replicate, length-replicate}
use Rattle.tables.specs.Lines.{Line, Expr, bitvec, array, input, state, value, init_or_next, signal, output, unknown, const, unary, binary, equality, ite, read, write}
use Rattle.tables.specs.Types.{rank, ty_at, given, no_ctx}
use Rattle.tables.proofs.Facts.{OkLine, AllOk}
use Rattle.circuits.specs.Layout.{Layout, no_layout, layout, type_at, place_at}
use Rattle.circuits.specs.Meaning.{Frame, no_frame, cells_at, step}
use Rattle.circuits.specs.Free.{Source, sources_from, sources}
use Rattle.circuits.specs.Run.{input_count, row_length, inputs_at, free_at, start, entered, step_from, words_before, run, step_at}
use Rattle.circuits.proofs.Sources.{sources_append}
use Rattle.circuits.proofs.SameRows.{row_same, inputs_same, entered_same, entered_long, run_same}
use Rattle.flattening.specs.Flat.{Info, no_info, info_at, chunk, flatten_from, flatten}
use Rattle.flattening.proofs.Walk.{alike_refl, ev1, evs, evs_append, evs_lay, len_all, states_all, ok_append}
use Rattle.flattening.proofs.Rel.{Rel, Inv, rel_none}
use Rattle.flattening.proofs.SimWords.{Keeps, sim_bitvec, sim_array, sim_input, sim_const, sim_unary, sim_binary, sim_signal, sim_output}
use Rattle.flattening.proofs.SimStates.{sim_state, sim_init_next}
use Rattle.flattening.proofs.SimArrays.{sim_ite, sim_equality, sim_read, sim_write}
use Rattle.flattening.proofs.FreeCells.{infos_from, infos, line_sources}

no_state : (q : ℕ) → rank (ty_at no_ctx q).role ≡ 4 → ⊥
no_state zero e = omega arith
no_state (suc q) e = omega arith

module _ (f : Bool) (σ ι : List ℕ) where
  sim_value : {A B : Frame} {I : List Info} {b : ℕ} (s : ℕ) (x : Expr) → Inv A B I → b ≡ length B.env → OkLine false (ty_at A.lay.ctx) (given A.lay.ctx) (value s x)
      → Keeps f σ ι A B I (value s x) (chunk I b (value s x))
  sim_value s (const c) v e k = sim_const f σ ι s c v e k
  sim_value s (unary h a x y) v e k = sim_unary f σ ι s h a x y v e k
  sim_value s (binary h x y) v e k = sim_binary f σ ι s h x y v e k
  sim_value s (equality t x y) v e k = sim_equality f σ ι s t x y v e k
  sim_value s (ite d x y) v e k = sim_ite f σ ι s d x y v e k
  sim_value s (read a i) v e k = sim_read f σ ι s a i v e k
  sim_value s (write a i x) v e k = sim_write f σ ι s a i x v e k

  -- any line
  pub sim_line : {A B : Frame} {I : List Info} {b : ℕ} (l : Line) → Inv A B I → b ≡ length B.env → OkLine false (ty_at A.lay.ctx) (given A.lay.ctx) l
      → (ev1 f σ ι A l).lay.counts.states ≤ length σ → Keeps f σ ι A B I l (chunk I b l)
  sim_line (bitvec w) v e k h = sim_bitvec f σ ι w v e k
  sim_line (array i el) v e k h = sim_array f σ ι i el v e k
  sim_line (input s) v e k h = sim_input f σ ι s v e k
  sim_line (state s) v e k h = sim_state f σ ι s v e k h
  sim_line (value s x) v e k h = sim_value s x v e k
  sim_line (init_or_next m s q a) v e k h = sim_init_next f σ ι m s q a v e k
  sim_line (signal m a) v e k h = sim_signal f σ ι m a v e k
  sim_line (output a) v e k h = sim_output f σ ι a v e k
  sim_line unknown v e k h = absurd k

  -- the walks go together to the end, the flat lines keep the rules, and their state words come from where those of the lines do
  record Flattens (A B : Frame) (J : List Info) (ls fs : List Line) : Type 0 where
    inv : Inv (evs f σ ι A ls) (evs f σ ι B fs) J
    ok : AllOk false B.lay.ctx fs
    sources : sources_from false (given (evs f σ ι B fs).lay.ctx false) B.lay fs ≡ sources_from false (given (evs f σ ι A ls).lay.ctx false) A.lay ls

  -- all lines: σ has a word for every state cell
  sim_all : {A B : Frame} {I : List Info} {b : ℕ} (ls : List Line) → Inv A B I → b ≡ length B.env → AllOk false A.lay.ctx ls → (evs f σ ι A ls).lay.counts.states ≤ length σ
      → Flattens A B (infos_from I b ls) ls (flatten_from I b ls)
  sim_all [] v e k h = record { inv = v; ok = tt; sources = refl }
  sim_all {A} {B} {I} {b} (l ∷ ls) v e k h =
      let L = (chunk I b l).lines in
      let J = I ++ ((chunk I b l).info ∷ []) in
      let R = flatten_from J (b + length L) ls in
      let s = sim_line l v e k.0 (le_trans (states_all f σ ι (ev1 f σ ι A l) ls) h) in
      let r = sim_all {A = ev1 f σ ι A l} {b = b + length L} ls s.inv (omega (arith, len_all f σ ι B L)) k.1 h in
      let h' = given (evs f σ ι (evs f σ ι B L) R).lay.ctx false in
      record {
        inv = subst⁻¹ (λ (X : Frame). Inv (evs f σ ι A (l ∷ ls)) X (infos_from I b (l ∷ ls))) (evs_append f σ ι B L R) r.inv;
        ok = ok_append f σ ι B L R s.ok r.ok;
        sources =
            ap (λ (X : Frame). sources_from false (given X.lay.ctx false) B.lay (L ++ R)) (evs_append f σ ι B L R) ∙ sources_append false h' B.lay L R
            ∙ ap₂ (λ (xs ys : List Source). xs ++ ys) (line_sources f σ ι l ls v e k.0 s r.inv) (ap (λ (Y : Layout). sources_from false h' Y R) (sym (evs_lay f σ ι B L)) ∙ r.sources);
      }

  pub at_start : Inv no_frame no_frame (no_info ∷ [])
  at_start =
      record {
        even_a = record { types = refl; places = refl };
        even_b = record { types = refl; places = refl };
        len_i = refl;
        alike = alike_refl;
        many = refl;
        rel = start_rel;
        below = λ q s. absurd (no_state q s);
        same = λ m q s. absurd (no_state q s);
        ahead_a = λ m p h. none_given m p;
        ahead_b = λ m p h. none_given m p;
      }
    where
      start_rel : (i : ℕ) → Rel no_frame (type_at no_frame.lay i) (place_at no_frame.lay i) (cells_at no_frame i) (info_at (no_info ∷ []) i)
      start_rel zero = rel_none
      start_rel (suc i) = rel_none

      none_given : (m : Bool) (p : ℕ) → given no_frame.lay.ctx m p ≡ false
      none_given true p = refl
      none_given false p = refl

pub step_lay : (f : Bool) (C : List Line) (σ ι : List ℕ) → (step false f C σ ι).lay ≡ layout false C
unfolding step layout
step_lay f C σ ι = evs_lay f σ ι no_frame C

-- from the first line on
walk : (C : List Line) → AllOk false no_ctx C → (f : Bool) (σ ι : List ℕ) → (layout false C).counts.states ≤ length σ
    → Flattens f σ ι no_frame no_frame (infos C) C (flatten C)
unfolding flatten layout
walk C a f σ ι h = sim_all f σ ι C (at_start f σ ι) refl a (subst⁻¹ (λ (Y : Layout). Y.counts.states ≤ length σ) (evs_lay f σ ι no_frame C) h)

-- zeros for every state cell
pub zeros : List Line → List ℕ
zeros C = replicate (layout false C).counts.states 0

pub zeros_many : (C : List Line) → (layout false C).counts.states ≤ length (zeros C)
unfolding zeros
zeros_many C =
    subst⁻¹ (λ (n : ℕ). (layout false C).counts.states ≤ n) (length-replicate (layout false C).counts.states 0) (le_refl (layout false C).counts.states)

any_walk : (C : List Line) → AllOk false no_ctx C → Flattens true (zeros C) [] no_frame no_frame (infos C) C (flatten C)
any_walk C a = walk C a true (zeros C) [] (zeros_many C)

-- what flattening leaves keeps the rules
pub flat_ok : (C : List Line) → AllOk false no_ctx C → AllOk false no_ctx (flatten C)
flat_ok C a = (any_walk C a).ok

-- ---- the words of a run

-- as many state words, inputs in a row, and signals in a step
pub record SameCounts (C F : List Line) : Type 0 where
  pub states : (layout false F).counts.states ≡ (layout false C).counts.states
  pub inputs : (layout false F).counts.inputs ≡ (layout false C).counts.inputs
  pub signals : (layout false F).counts.signals ≡ (layout false C).counts.signals

module _ (C : List Line) (a : AllOk false no_ctx C) where
  laid : (X : List Line) → (evs true (zeros C) [] no_frame X).lay ≡ layout false X
  unfolding layout
  laid X = evs_lay true (zeros C) [] no_frame X

  pub counts_alike : SameCounts C (flatten C)
  counts_alike =
      let s = (any_walk C a).inv.alike in
      record {
        states = sym (ap (λ (Y : Layout). Y.counts.states) (laid (flatten C))) ∙ s.states ∙ ap (λ (Y : Layout). Y.counts.states) (laid C);
        inputs = sym (ap (λ (Y : Layout). Y.counts.inputs) (laid (flatten C))) ∙ s.inputs ∙ ap (λ (Y : Layout). Y.counts.inputs) (laid C);
        signals = sym (ap (λ (Y : Layout). Y.counts.signals) (laid (flatten C))) ∙ s.signals ∙ ap (λ (Y : Layout). Y.counts.signals) (laid C);
      }

  -- C and its flat circuit have the same free cells in the same order
  pub sources_flat : sources false (flatten C) ≡ sources false C
  unfolding sources
  sources_flat =
      ap (λ (Y : Layout). sources_from false (given Y.ctx false) no_layout (flatten C)) (sym (laid (flatten C))) ∙ (any_walk C a).sources
      ∙ ap (λ (Y : Layout). sources_from false (given Y.ctx false) no_layout C) (laid C)

  pub rows_alike : row_length false (flatten C) ≡ row_length false C
  rows_alike = row_same false false C (flatten C) counts_alike.inputs sources_flat

-- ---- the steps of a run

-- a step A of C and a step B of its flat circuit go together, and the step leaves a word for every state cell
pub record StepAlike (C : List Line) (A B : Frame) : Type 0 where
  pub inv : Inv A B (infos C)
  pub many : length A.sts ≡ (layout false C).counts.states

step_alike : (C : List Line) → AllOk false no_ctx C → (f : Bool) (σ ι : List ℕ) → (layout false C).counts.states ≤ length σ → StepAlike C (step false f C σ ι) (step false f (flatten C) σ ι)
unfolding step
step_alike C a f σ ι h = let v = (walk C a f σ ι h).inv in record { inv = v; many = v.many ∙ ap (λ (Y : Layout). Y.counts.states) (step_lay f C σ ι) }

-- a run that is lent S and I
module _ (C : List Line) (a : AllOk false no_ctx C) (S I : List ℕ) (h : (layout false C).counts.states ≤ length S) where
  abbrev Enough : List ℕ → Type 0
  Enough σ = (layout false C).counts.states ≤ length σ

  from_alike : (t : ℕ) (σ : List ℕ) → Enough σ → StepAlike C (step_from false C I t σ) (step_from false (flatten C) I t σ)
  unfolding step_from
  from_alike t σ g =
      subst₂ (λ (x y : List ℕ). StepAlike C (step_from false C I t σ) (step false false (flatten C) x y)) (sym (entered_same false false C (flatten C) (counts_alike C a).inputs (sources_flat C a) I t σ)) (sym (inputs_same false false C (flatten C) (counts_alike C a).inputs (sources_flat C a) I t))
      (step_alike C a false (entered false C t σ (free_at false C I t)) (inputs_at false C I t) (entered_long false C t σ (free_at false C I t) g))

  words_same : (t : ℕ) → (words_before false (flatten C) I (start false (flatten C) S I) t ≡ words_before false C I (start false C S I) t) × Enough (words_before false C I (start false C S I) t)
  unfolding words_before start
  words_same zero =
      let s = step_alike C a true S (take (input_count false C) I) h in
      (ap (λ (n : ℕ). (step false true (flatten C) S (take n I)).sts) (counts_alike C a).inputs ∙ s.inv.alike.sts, omega (arith, s.many))
  words_same (suc t) =
      let w = words_same t in
      let s = from_alike t (words_before false C I (start false C S I) t) w.1 in
      (ap (λ (σ : List ℕ). (step_from false (flatten C) I t σ).sts) w.0 ∙ s.inv.alike.sts, omega (arith, s.many))

  -- the state words before each step
  pub words_alike : (t : ℕ) → words_before false (flatten C) I (start false (flatten C) S I) t ≡ words_before false C I (start false C S I) t
  words_alike t = (words_same t).0

  -- and the step
  pub at_alike : (t : ℕ) → StepAlike C (step_at false C S I t) (step_at false (flatten C) S I t)
  unfolding step_at
  at_alike t =
      let w = words_same t in
      subst⁻¹ (λ (σ : List ℕ). StepAlike C (step_at false C S I t) (step_from false (flatten C) I t σ)) w.0 (from_alike t (words_before false C I (start false C S I) t) w.1)

-- the signals of every step, with their marks, for all steps and inputs, and for start words of every state cell
pub runs_alike : (C : List Line) → AllOk false no_ctx C → (k : ℕ) (S I : List ℕ) → (layout false C).counts.states ≤ length S → run false (flatten C) k S I ≡ run false C k S I
runs_alike C a k S I h = run_same false false C (flatten C) k S I (λ t. (at_alike C a S I h t).inv.alike.sigs)
