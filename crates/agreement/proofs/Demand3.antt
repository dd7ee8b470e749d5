-- Demand 3: the runs of a circuit, of its flat circuit and of that one's program are alike in every signal byte and in the first counted bad, for all starts, inputs and
-- step counts: one theorem. Assumes nothing.
use Rattle.std.specs.Prelude.{Ok}
use Prim.Native.Nat.{ℕ, ◌*◌}
use mathlib.Core.Path.{◌≡◌, sym, ap, ◌∙◌, subst⁻¹}
use mathlib.Core.Bool.{Bool, true, false}
use mathlib.Core.List.{List, [], ◌∷◌}
use native.Mathlib.Omega.{arith}
use Rattle.tables.specs.Lines.{Line}
use Rattle.tables.specs.Layout.{lines_of}
use Rattle.circuits.specs.Layout.{layout}
use Rattle.circuits.specs.Meaning.{Signal}
use Rattle.circuits.specs.Run.{row_length, run, bytes, first_bad}
use Rattle.flattening.proofs.Leaves.{answered, flat_accepted, flat_counts, flat_row, flat_run}
use Rattle.programs.proofs.LaidLines.{same_counts}
use Rattle.programs.proofs.Runs.{Small, row_alike, alike}
use Rattle.programs.proofs.Done.{is_done, flat_ok, target_accepted, target_lines}
use Rattle.agreement.specs.Comparison.{Table, Runs, flat_table, program_table, starts, totals, row, Words, Given, Agree}
use Rattle.agreement.proofs.Ready.{is_ready, answers, leaves}

small : (xs : List ℕ) → Words xs → Small xs
small [] h = tt
small (x ∷ xs) h = (h.0, small xs h.1)

module _ (R : Runs) (G : Given R) where
  abbrev C : Table
  C = R.circuit

  abbrev F : Table
  F = flat_table R

  abbrev P : Table
  P = program_table R

  abbrev k : ℕ
  k = R.lent.steps

  abbrev S : List ℕ
  S = R.lent.starts

  abbrev I : List ℕ
  I = R.lent.inputs

  abbrev lines : Bool → Table → List Line
  lines p T = lines_of p T.words T.count

  -- F has as many state words and signals as C, and its rows as many words
  counts_f : ((totals false F).states ≡ (totals false C).states) × ((row false F ≡ row false C) × ((totals false F).signals ≡ (totals false C).signals))
  counts_f =
      let c = flat_counts C.words C.count R.flat_words R.flat_count G.flat in
      (c.states, (flat_row C.words C.count R.flat_words R.flat_count G.flat, c.signals))

  -- and P as many as F
  counts_p : ((totals true P).states ≡ (totals false F).states) × ((row true P ≡ row false F) × ((totals true P).signals ≡ (totals false F).signals))
  counts_p =
      let d = is_done F.words F.count R.program_words R.program_count G.program in
      let o = flat_ok F.words F.count R.program_words R.program_count G.program in
      let c = same_counts (lines false F) o d.flat in
      subst⁻¹ (λ (X : List Line). ((layout true X).counts.states ≡ (totals false F).states) × ((row_length true X ≡ row false F) × ((layout true X).counts.signals ≡ (totals false F).signals)))
      (target_lines F.words F.count R.program_words R.program_count G.program) (c.states, (row_alike (lines false F) o d.flat, c.signals))

  ready_c : starts false C R.lent R.work_c ≡ Ok tt
  ready_c = is_ready false C R.lent R.work_c (answered C.words C.count R.flat_words R.flat_count G.flat).accepted G.steps G.starts G.inputs G.signals G.work_c

  ready_f : starts false F R.lent R.work_f ≡ Ok tt
  ready_f =
      is_ready false F R.lent R.work_f (flat_accepted C.words C.count R.flat_words R.flat_count G.flat) G.steps (G.starts ∙ sym counts_f.0)
      (G.inputs ∙ ap (λ (i : ℕ). k * i) (sym counts_f.1.0)) (G.signals ∙ ap (λ (i : ℕ). k * i) (sym counts_f.1.1)) G.work_f

  ready_p : starts true P R.lent R.work_p ≡ Ok tt
  ready_p =
      is_ready true P R.lent R.work_p (target_accepted F.words F.count R.program_words R.program_count G.program) G.steps (G.starts ∙ sym counts_f.0 ∙ sym counts_p.0)
      (G.inputs ∙ ap (λ (i : ℕ). k * i) (sym counts_f.1.0 ∙ sym counts_p.1.0)) (G.signals ∙ ap (λ (i : ℕ). k * i) (sym counts_f.1.1 ∙ sym counts_p.1.1)) G.work_p

  -- the runs, step by step, with the marks of their signals
  run_f : run false (lines false F) k S I ≡ run false (lines false C) k S I
  run_f = flat_run C.words C.count R.flat_words R.flat_count G.flat k S I (omega (arith, G.starts))

  run_p : run true (lines true P) k S I ≡ run false (lines false C) k S I
  run_p =
      let d = is_done F.words F.count R.program_words R.program_count G.program in
      ap (λ (X : List Line). run true X k S I) (target_lines F.words F.count R.program_words R.program_count G.program)
      ∙ alike (lines false F) (flat_ok F.words F.count R.program_words R.program_count G.program) d.flat k S I (omega (arith, G.starts, counts_f.0)) (small I G.words) ∙ run_f

  pub demand_3 : Agree R
  demand_3 =
      record {
        run_c = ready_c;
        run_f = ready_f;
        run_p = ready_p;
        signals_f = leaves false F R.lent R.work_f ready_f ∙ ap bytes run_f ∙ sym (leaves false C R.lent R.work_c ready_c);
        signals_p = leaves true P R.lent R.work_p ready_p ∙ ap bytes run_p ∙ sym (leaves false C R.lent R.work_c ready_c);
        bad_f = answers false F R.lent R.work_f ready_f ∙ ap (λ (x : List (List Signal)). Ok (first_bad 0 x)) run_f ∙ sym (answers false C R.lent R.work_c ready_c);
        bad_p = answers true P R.lent R.work_p ready_p ∙ ap (λ (x : List (List Signal)). Ok (first_bad 0 x)) run_p ∙ sym (answers false C R.lent R.work_c ready_c);
      }
