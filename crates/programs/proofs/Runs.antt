-- A flat circuit and its program run alike: every step leaves the same signals and the same state words. Assumes nothing.
use Prim.Native.Nat.{ℕ, zero, suc, ◌+◌, ◌*◌, ◌^◌, ◌≤◌, ◌<◌}
use mathlib.Core.Path.{◌≡◌, refl, sym, ap, ◌∙◌}
use mathlib.Core.Bool.{Bool, true, false}
use mathlib.Core.List.{List, [], ◌∷◌, ◌++◌, append_assoc}
use native.Mathlib.Nat.{le_refl, le_trans}
use native.Mathlib.Omega.{arith}
use lib.ListN.{length, get_or, take, drop, length-append}
use lib.Seq.{get_or_at}
use lib.Pow.{pow_pos}
use Rattle.tables.specs.Lines.{Line, bitvec, array, input, state, value, init_or_next, signal, output, unknown}
use Rattle.tables.specs.Types.{rank, ty_at, no_ctx}
use Rattle.tables.proofs.Kept.{no_yes, neither}
use Rattle.tables.proofs.Facts.{AllOk}
use Rattle.circuits.specs.Cells.{part}
use Rattle.circuits.specs.Layout.{Layout, type_at, size, lay, lay_all, no_layout, layout}
use Rattle.circuits.specs.Meaning.{Frame, eval_line, eval_all, no_frame, step}
use Rattle.circuits.specs.Run.{input_count, row_length, inputs_at, free_at, start, entered, step_from, words_before, run, step_at, bytes, first_bad}
use Rattle.circuits.proofs.SameRows.{row_same, inputs_same, entered_same, entered_long, run_same}
use Rattle.programs.specs.Uses.{has_needing_use}
use Rattle.programs.specs.declared.Known.{Known}
use Rattle.programs.specs.Translation.{none_known, instructions_of, array_sort_line, has_array, translate_from, translate}
use Rattle.programs.proofs.Grew.{lines, Even, even_line, grew_line}
use Rattle.programs.proofs.LaidLines.{laid_start, lines_more, same_counts}
use Rattle.programs.proofs.FreeCells.{width_here, widths_from, state_width, Tame, sources_program, fed_tame}
use Rattle.programs.proofs.Held.{Alike}
use Rattle.programs.proofs.Needs.{MetAll, met_needed}
use Rattle.programs.proofs.StepLines.{eval_lay, Reads, alike_line}

-- ---- one step

-- the two steps leave the same signals and state words, as many as the circuit has, each below its width
pub record SameStep (W : ℕ → ℕ) (A B : Frame) : Type 0 where
  pub sts : B.sts ≡ A.sts
  pub sigs : B.sigs ≡ A.sigs
  pub count : length A.sts ≡ A.lay.counts.states
  pub fit : (j : ℕ) → get_or A.sts j 0 < 2 ^ W j

states_grow : (Y : Layout) → Even Y → (ls : List Line) → Y.counts.states ≤ (lay_all false Y ls).counts.states
states_grow Y ev [] = le_refl Y.counts.states
states_grow Y ev (l ∷ ls) = le_trans (grew_line false ev l).states (states_grow (lay false Y l) (even_line false ev l) ls)

eval_append : (p g : Bool) (σ ι : List ℕ) (B : Frame) (xs ys : List Line) → eval_all p g σ ι B (xs ++ ys) ≡ eval_all p g σ ι (eval_all p g σ ι B xs) ys
eval_append p g σ ι B [] ys = refl
eval_append p g σ ι B (x ∷ xs) ys = eval_append p g σ ι (eval_line p g σ ι B x) xs ys

module _ (g : Bool) (σ ι Ws : List ℕ) (N : ℕ → Bool) (tame : g ≡ false → (j : ℕ) → get_or σ j 0 < 2 ^ get_or Ws j 0) (words : (j : ℕ) → get_or ι j 0 < 2 ^ 64) where
  abbrev W : ℕ → ℕ
  W j = get_or Ws j 0

  -- pre has the widths of the state words so far
  reads : (Y : Layout) (pre : List ℕ) (l : Line) (ls : List Line) → Even Y → Ws ≡ pre ++ widths_from Y (l ∷ ls) → length pre ≡ Y.counts.states → (lay_all false Y (l ∷ ls)).counts.states ≤ length σ
      → ((s : ℕ) → (type_at Y s).iw ≡ 0) → Reads W σ Y l
  reads Y pre (bitvec w) ls ev e n h f = tt
  reads Y pre (array i j) ls ev e n h f = tt
  reads Y pre (input s) ls ev e n h f = tt
  reads Y pre (state s) ls ev e n h f =
      let z : size (type_at Y s) ≡ 1 = ap (λ (y : ℕ). 2 ^ y) (f s) in (
        ap (λ (y : List ℕ). get_or y Y.counts.states 0) e ∙ get_or_at pre (type_at Y s).w (widths_from (lay false Y (state s)) ls) 0 Y.counts.states n,
        omega (arith, states_grow (lay false Y (state s)) (even_line false ev (state s)) ls),
      )
  reads Y pre (value s x) ls ev e n h f = tt
  reads Y pre (init_or_next m s q x) ls ev e n h f = tt
  reads Y pre (signal m a) ls ev e n h f = tt
  reads Y pre (output a) ls ev e n h f = tt
  reads Y pre unknown ls ev e n h f = tt

  counted : (Y : Layout) (pre : List ℕ) (l : Line) → length pre ≡ Y.counts.states → ((s : ℕ) → (type_at Y s).iw ≡ 0) → array_sort_line l ≡ false
      → length (pre ++ width_here Y l) ≡ (lay false Y l).counts.states
  counted Y pre (bitvec w) n f a = simp length-append (omega arith)
  counted Y pre (array i j) n f a = absurd (no_yes (sym a))
  counted Y pre (input s) n f a = simp length-append (omega arith)
  counted Y pre (state s) n f a = let z : size (type_at Y s) ≡ 1 = ap (λ (y : ℕ). 2 ^ y) (f s) in omega (arith, length-append pre ((type_at Y s).w ∷ []))
  counted Y pre (value s x) n f a = simp length-append (omega arith)
  counted Y pre (init_or_next m s q x) n f a = simp length-append (omega arith)
  counted Y pre (signal m x) n f a = simp length-append (omega arith)
  counted Y pre (output x) n f a = simp length-append (omega arith)
  counted Y pre unknown n f a = simp length-append (omega arith)

  alike_all : {A B : Frame} {J : List Known} (b : ℕ) (pre : List ℕ) (ls : List Line) → Alike W N A B J → b ≡ lines B.lay → AllOk false A.lay.ctx ls → has_array ls ≡ false → MetAll N ls
      → Ws ≡ pre ++ widths_from A.lay ls → length pre ≡ A.lay.counts.states → (lay_all false A.lay ls).counts.states ≤ length σ
      → SameStep W (eval_all false g σ ι A ls) (eval_all true g σ ι B (translate_from N J b ls))
  alike_all b pre [] v e k f m q n h = record { sts = v.sts; sigs = v.sigs; count = v.count; fit = v.fit }
  alike_all {A} {B} {J} b pre (l ∷ ls) v e k f m q n h =
      let c = instructions_of N J b l in
      let d = neither (array_sort_line l) (has_array ls) f in
      let flat : ((s : ℕ) → (type_at A.lay s).iw ≡ 0) = λ s. (v.laid.rel s).flat in
      let r = reads A.lay pre l ls v.laid.even_y q n h flat in
      rw (eval_append true g σ ι B c.code)
      (alike_all {A = eval_line false g σ ι A l} (b + length c.code) (pre ++ width_here A.lay l) ls (alike_line g σ ι W N tame words v b e l k.0 d.0 m.0 r)
      (omega (arith, ap lines (eval_lay true g σ ι B c.code), lines_more true B.lay v.laid.even_z c.code)) k.1 d.1 m.1
      (q ∙ sym (append_assoc pre (width_here A.lay l) (widths_from (lay false A.lay l) ls))) (counted A.lay pre l n flat d.0) h)

alike_start : (W : ℕ → ℕ) (N : ℕ → Bool) → Alike W N no_frame no_frame (none_known ∷ [])
alike_start W N =
    record {
      laid = laid_start;
      full_a = record { even = record { alike = refl }; env = refl };
      full_b = record { even = record { alike = refl }; env = refl };
      sts = refl;
      sigs = refl;
      count = refl;
      fit = λ j. pow_pos (W j);
      word = λ i h. absurd (none i h);
    }
  where
    none : (a : ℕ) → 2 ≤ rank (ty_at no_ctx a).role → ⊥
    none zero h = omega arith
    none (suc a) h = omega arith

module _ (F : List Line) (ok : AllOk false no_ctx F) (flat : has_array F ≡ false) where
  -- one step, from the same state words and the same row; after the start they are small
  pub step_alike : (g : Bool) (σ ι : List ℕ) → (layout false F).counts.states ≤ length σ → (g ≡ false → Tame F σ) → ((j : ℕ) → get_or ι j 0 < 2 ^ 64)
      → SameStep (state_width F) (step false g F σ ι) (step true g (translate F) σ ι)
  unfolding step layout translate
  step_alike g σ ι h tame words =
      alike_all g σ ι (widths_from no_layout F) (has_needing_use F) tame words 1 [] F (alike_start (state_width F) (has_needing_use F)) refl ok flat (met_needed F) refl refl h

  step_counts : (g : Bool) (σ ι : List ℕ) → (step false g F σ ι).lay.counts.states ≡ (layout false F).counts.states
  unfolding step layout
  step_counts g σ ι = ap (λ (Y : Layout). Y.counts.states) (eval_lay false g σ ι no_frame F)

-- ---- words of 64 bits

abbrev pub Small : List ℕ → Type 0
Small [] = Unit {0}
Small (x ∷ xs) = (x < 2 ^ 64) × Small xs

-- a list is small if each of its words is
pub small_of : (xs : List ℕ) → ((j : ℕ) → j < length xs → get_or xs j 0 < 2 ^ 64) → Small xs
small_of [] h = tt
small_of (x ∷ xs) h = (h 0 (omega arith), small_of xs (λ j l. h (suc j) (omega arith)))

small_at : (xs : List ℕ) → Small xs → (j : ℕ) → get_or xs j 0 < 2 ^ 64
small_at [] h j = pow_pos 64
small_at (x ∷ xs) h zero = h.0
small_at (x ∷ xs) h (suc j) = small_at xs h.1 j

small_take : (n : ℕ) (xs : List ℕ) → Small xs → Small (take n xs)
small_take zero xs h = tt
small_take (suc n) [] h = tt
small_take (suc n) (x ∷ xs) h = (h.0, small_take n xs h.1)

small_drop : (n : ℕ) (xs : List ℕ) → Small xs → Small (drop n xs)
small_drop zero xs h = h
small_drop (suc n) [] h = tt
small_drop (suc n) (x ∷ xs) h = small_drop n xs h.1

-- ---- all steps

-- the state words before a step of F, σ, and of its program, τ: the same, as many as F has, each below its width
record Begun (F : List Line) (σ τ : List ℕ) : Type 0 where
  same : τ ≡ σ
  many : (layout false F).counts.states ≤ length σ
  tame : Tame F σ

module _ (F : List Line) (ok : AllOk false no_ctx F) (flat : has_array F ≡ false) where
  begun_after : {A B : Frame} → SameStep (state_width F) A B → A.lay.counts.states ≡ (layout false F).counts.states → Begun F A.sts B.sts
  begun_after s e = record { same = s.sts; many = omega (arith, s.count); tame = s.fit }

  -- what a step begins with: those, and the row's words for free states
  entered_tame : (t : ℕ) (before row : List ℕ) → Tame F before → Tame F (entered false F t before row)
  entered_tame zero before row h = h
  entered_tame (suc t) before row h = fed_tame F ok flat before row h

  -- the rows of both have the same parts
  inputs_alike : input_count true (translate F) ≡ input_count false F
  inputs_alike = (same_counts F ok flat).inputs

  pub row_alike : row_length true (translate F) ≡ row_length false F
  row_alike = row_same false true F (translate F) inputs_alike (sources_program F ok flat)

  module _ (I : List ℕ) (small : Small I) where
    part_small : (a n j : ℕ) → get_or (part I a n) j 0 < 2 ^ 64
    part_small a n j = small_at (part I a n) (small_take n (drop a I) (small_drop a I small)) j

    step_from_lem : (t : ℕ) {σ τ : List ℕ} → Begun F σ τ → SameStep (state_width F) (step_from false F I t σ) (step_from true (translate F) I t τ)
    unfolding step_from
    step_from_lem t {σ} b =
        let row = free_at false F I t in
        rw (b.same, entered_same false true F (translate F) inputs_alike (sources_program F ok flat) I t σ, inputs_same false true F (translate F) inputs_alike (sources_program F ok flat) I t)
        (step_alike F ok flat false (entered false F t σ row) (inputs_at false F I t) (entered_long false F t σ row b.many) (λ e. entered_tame t σ row b.tame) (part_small (t * row_length false F) (input_count false F)))

    module _ (S : List ℕ) (h : (layout false F).counts.states ≤ length S) where
      begun : (t : ℕ) → Begun F (words_before false F I (start false F S I) t) (words_before true (translate F) I (start true (translate F) S I) t)
      unfolding words_before start step_from
      begun zero =
          let ι = take (input_count false F) I in
          rw (inputs_alike, start) (begun_after (step_alike F ok flat true S ι h (λ e. absurd (no_yes (sym e))) (part_small 0 (input_count false F))) (step_counts F ok flat true S ι))
      begun (suc t) = begun_after (step_from_lem t (begun t)) (step_counts F ok flat false (entered false F t (words_before false F I (start false F S I) t) (free_at false F I t)) (inputs_at false F I t))

      step_at_lem : (t : ℕ) → SameStep (state_width F) (step_at false F S I t) (step_at true (translate F) S I t)
      unfolding step_at
      step_at_lem t = step_from_lem t (begun t)

  -- the state words before each step are the same
  pub words_alike : (S I : List ℕ) → (layout false F).counts.states ≤ length S → Small I → (t : ℕ) → words_before true (translate F) I (start true (translate F) S I) t ≡ words_before false F I (start false F S I) t
  words_alike S I h w t = (begun I w S h t).same

  -- F and its program run alike, for every number of steps, all start words and all inputs of 64 bits
  pub alike : (k : ℕ) (S I : List ℕ) → (layout false F).counts.states ≤ length S → Small I → run true (translate F) k S I ≡ run false F k S I
  alike k S I h w = run_same false true F (translate F) k S I (λ t. (step_at_lem I w S h t).sigs)

  -- so the bytes are the same, and the first counted bad
  pub bytes_alike : (k : ℕ) (S I : List ℕ) → (layout false F).counts.states ≤ length S → Small I → bytes (run true (translate F) k S I) ≡ bytes (run false F k S I)
  bytes_alike k S I h w = ap bytes (alike k S I h w)

  pub first_alike : (k : ℕ) (S I : List ℕ) → (layout false F).counts.states ≤ length S → Small I → first_bad 0 (run true (translate F) k S I) ≡ first_bad 0 (run false F k S I)
  first_alike k S I h w = ap (first_bad 0) (alike k S I h w)
