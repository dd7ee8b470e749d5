-- The loop over the steps of a run: what holds before the step i, and what a step does to it. Assumes nothing.
use Prim.Native.Nat.{ℕ, ◌+◌, ◌-◌, ◌*◌, ◌≤◌, ◌<◌}
use mathlib.Core.Path.{◌≡◌, refl, sym, ap, ap₂, ◌∙◌, subst}
use mathlib.Core.Bool.{Bool, false}
use mathlib.Core.List.{List, [], ◌++◌}
use native.Mathlib.Omega.{arith}
use native.Mathlib.Nat.{zero-mul}
use lib.ListN.{length, take, drop, length-drop}
use Rattle.tables.specs.Lines.{Line}
use Rattle.tables.specs.Layout.{lines_of}
use Rattle.circuits.specs.declared.Totals.{Totals}
use Rattle.circuits.specs.Cells.{part}
use Rattle.circuits.specs.Meaning.{step}
use Rattle.circuits.specs.Free.{sources, free_count}
use Rattle.circuits.specs.Run.{inputs_at, free_at, entered, words_before, steps, bytes_of, bytes}
use Rattle.circuits.specs.Model.Places.{Ready}
use Rattle.circuits.specs.Model.Answers.{RunAsked}
use Rattle.circuits.specs.Model.Feeding.{free_lines, cells_in, entered_in, AllFed, Rows}
use Rattle.circuits.proofs.Puts as laws
use Rattle.circuits.proofs.Repeated.{next_row, within, once, ready_as, bytes_begin, bytes_more, bytes_end, words_begin, words_more, signals_as}
use Rattle.circuits.proofs.Feeding.{lines_fit, lines_cells, no_lines_lem, lines_entered}

-- The first i of k steps are done, from the state words σ and the rows I: the state words are those before the step i, and the signal bytes hold those of the steps done. The row of
-- the step i begins at r, its bytes at g. The work area has so many words, the state words being those from `all` on.
pub record Stepped (p : Bool) (C : List Line) (row sigs k all len : ℕ) (σ I : List ℕ) (signals work : List ℕ) (i r g : ℕ) : Type 0 where
  pub most : i ≤ k
  pub rows : r ≡ i * row
  pub put : g ≡ i * sigs
  pub long : length signals ≡ k * sigs
  pub many : length work ≡ len
  pub words : drop all work ≡ words_before p C I σ i
  pub done : take g signals ≡ bytes (steps p C i σ I)

pub stepped_none : (p : Bool) (C : List Line) (row sigs k all : ℕ) (I signals work : List ℕ) → length signals ≡ k * sigs → Stepped p C row sigs k all (length work) (drop all work) I signals work 0 0 0
stepped_none p C row sigs k all I signals work e =
    record {
      most = omega arith;
      rows = sym (zero-mul row);
      put = sym (zero-mul sigs);
      long = e;
      many = refl;
      words = words_begin p C (drop all work) I;
      done = bytes_begin p C (drop all work) I signals;
    }

pub stepped_all : (p : Bool) (C : List Line) (row sigs k all len : ℕ) (σ I signals work : List ℕ) (i r g : ℕ) → k ≤ i → Stepped p C row sigs k all len σ I signals work i r g → signals ≡ bytes (steps p C k σ I)
stepped_all p C row sigs k all len σ I signals work i r g h s =
    let e : i ≡ k = omega (arith, s.most) in
    bytes_end p C k i σ I signals g e (omega (arith, s.long, s.put, ap (λ (n : ℕ). n * sigs) e)) s.done

-- the inputs of the first row are there
pub first_inputs : {p : Bool} {t : List ℕ} {n : ℕ} {P : List (List ℕ)} {all words ins sigs row : ℕ} {free : List ℕ} (k m : ℕ) → Ready p t n P all words ins sigs → Rows p (lines_of p t n) row free → 0 < k → k * row ≤ m → ins ≤ m
first_inputs {row = row} k m rd rs h l = omega (arith, rd.inputs, rs.long, once k row h)

-- what the loop is given: a row has so many words, and free are the lines of free states
pub record Running (p : Bool) (t : List ℕ) (n : ℕ) (P : List (List ℕ)) (all ins sigs fed k len : ℕ) (σ free I : List ℕ) : Type 0 where
  pub ready : Ready p t n P all (length σ) ins sigs
  pub rows : Rows p (lines_of p t n) (ins + fed) free
  pub enough : k * (ins + fed) ≤ length I
  pub words : length σ ≡ len - all

pub running : {p : Bool} {t : List ℕ} {n : ℕ} {P : List (List ℕ)} {all ins sigs : ℕ} {free : List ℕ} (fed k : ℕ) (I work : List ℕ) → Ready p t n P all (length (drop all work)) ins sigs
    → Rows p (lines_of p t n) (ins + fed) free → k * (ins + fed) ≤ length I → Running p t n P all ins sigs fed k (length work) (drop all work) free I
running {all = all} fed k I work rd rs h = record { ready = rd; rows = rs; enough = h; words = length-drop all work }

module _ {p : Bool} {t : List ℕ} {n : ℕ} {P : List (List ℕ)} {all ins sigs fed k len : ℕ} {σ free I : List ℕ} (u : Running p t n P all ins sigs fed k len σ free I) where
  abbrev C : List Line
  C = lines_of p t n

  -- behind the inputs of a row stand its words for free states
  free_words : free_count (sources p C) ≡ fed
  free_words = omega (arith, u.ready.inputs, u.rows.long)

  module _ {i r g : ℕ} {signals work : List ℕ} (s : Stepped p C (ins + fed) sigs k all len σ I signals work i r g) (h : i < k) where
    row_room : r + ins + fed ≤ length I
    row_room = omega (arith, s.rows, within k i (ins + fed) h, u.enough)

    bytes_room : g + sigs ≤ length signals
    bytes_room = omega (arith, s.put, s.long, within k i sigs h)

    pub rooms : (r + ins + fed ≤ length I) × (g + sigs ≤ length signals)
    rooms = (row_room, bytes_room)

    -- the parts of the row, as they are lent
    inputs_are : part I r (r + ins - r) ≡ inputs_at p C I i
    inputs_are =
        let d : r + ins - r ≡ ins = omega arith in
        ap₂ (λ (a m : ℕ). part I a m) (s.rows ∙ ap (λ (m : ℕ). i * m) (sym u.rows.long)) (d ∙ sym u.ready.inputs)

    free_are : part I (r + ins) (r + ins + fed - (r + ins)) ≡ free_at p C I i
    free_are =
        let d : r + ins + fed - (r + ins) ≡ free_count (sources p C) = omega (arith, free_words) in
        ap₂ (λ (a m : ℕ). part I a m) (ap₂ (λ (x y : ℕ). x + y) (s.rows ∙ ap (λ (m : ℕ). i * m) (sym u.rows.long)) (sym u.ready.inputs)) d

    free_long : length (part I (r + ins) (r + ins + fed - (r + ins))) ≡ free_count (sources p C)
    free_long = laws.length_part I (r + ins) (r + ins + fed - (r + ins)) (omega (arith, free_words, row_room)) ∙ omega (arith, free_words)

    words_long : length (drop all work) ≡ length σ
    words_long = length-drop all work ∙ ap (λ (m : ℕ). m - all) s.many ∙ sym u.words

    -- what the step's beginning asks for
    pub enter_fits : AllFed P (length (drop all work)) free × (cells_in P free ≤ length (part I (r + ins) (r + ins + fed - (r + ins))))
    enter_fits = (
      subst (λ (m : ℕ). AllFed P m free) (sym words_long) (subst (AllFed P (length σ)) (sym u.rows.lines) (lines_fit u.ready)),
      omega (arith, ap (cells_in P) u.rows.lines, lines_cells u.ready, free_long),
    )

    module _ (work₁ : List ℕ) (l₁ : length work₁ ≡ length work) (e₁ : drop all work₁ ≡ entered_in P free i (drop all work) (part I (r + ins) (r + ins + fed - (r + ins)))) where
      begun : drop all work₁ ≡ entered p C i (words_before p C I σ i) (free_at p C I i)
      begun =
          e₁ ∙ ap (λ (qs : List ℕ). entered_in P qs i (drop all work) (part I (r + ins) (r + ins + fed - (r + ins)))) u.rows.lines
          ∙ lines_entered u.ready i (drop all work) (part I (r + ins) (r + ins + fed - (r + ins))) words_long (omega (arith, free_long)) ∙ ap₂ (entered p C i) s.words free_are

      -- what its lines ask for
      pub walk_ready : all ≤ length work → (all ≤ length work₁) × Ready p t n P all (length (drop all work₁)) (length (part I r (r + ins - r))) (length (part signals g (g + sigs - g)))
      walk_ready a =
          let d : r + ins - r ≡ ins = omega arith in
          let d₂ : g + sigs - g ≡ sigs = omega arith in
          let l : length (drop all work₁) ≡ length (drop all work) = length-drop all work₁ ∙ ap (λ (m : ℕ). m - all) l₁ ∙ sym (length-drop all work) in (
            omega arith,
            ready_as (sym (l ∙ words_long)) (sym (laws.length_part I r (r + ins - r) (omega (arith, free_words, row_room)) ∙ d))
                (sym (laws.length_part signals g (g + sigs - g) (omega (arith, bytes_room)) ∙ d₂)) u.ready,
          )

      -- one step more: q are its signal bytes
      pub stepped_more : {work₂ : List ℕ} (q : List ℕ) → length work₂ ≡ length work₁ → length q ≡ length (part signals g (g + sigs - g))
          → drop all work₂ ≡ (step p false C (drop all work₁) (part I r (r + ins - r))).sts → q ≡ bytes_of (step p false C (drop all work₁) (part I r (r + ins - r))).sigs
          → Stepped p C (ins + fed) sigs k all len σ I (take g signals ++ (q ++ drop (g + sigs - g) (drop g signals))) work₂ (i + 1) (r + ins + fed) (g + sigs)
      stepped_more {work₂} q l₂ lq es eg =
          let b = bytes_room in
          let d : g + sigs - g ≡ sigs = omega arith in
          let lq₁ : length q ≡ g + sigs - g = lq ∙ laws.length_part signals g (g + sigs - g) (omega arith) in
          let eb = words_begin p C σ I in
          record {
            most = omega arith;
            rows = omega (arith, s.rows, next_row i (ins + fed));
            put = omega (arith, s.put, next_row i sigs);
            long = laws.mid_length signals q g (g + sigs - g) lq₁ (omega arith) ∙ s.long;
            many = l₂ ∙ l₁ ∙ s.many;
            words = words_more p C i σ I (words_before p C I σ i) (free_at p C I i) (inputs_at p C I i) refl refl refl (es ∙ ap₂ (λ (x y : List ℕ). (step p false C x y).sts) begun inputs_are);
            done = bytes_more p C sigs i σ I signals q g b (lq₁ ∙ d) s.done (signals_as p C i σ I (words_before p C I σ i) (free_at p C I i) (inputs_at p C I i) refl refl refl (eg ∙ ap₂ (λ (x y : List ℕ). bytes_of (step p false C x y).sigs) begun inputs_are));
          }

-- ---- the lines of free states that the steps are given: none where no word is free, or those that were found

module _ {p : Bool} {t : List ℕ} {n : ℕ} {P : List (List ℕ)} {all words sigs k i g : ℕ} {tot : Totals} (rd : Ready p t n P all words tot.inputs sigs) (asked : RunAsked p (lines_of p t n) tot k i g) where
  pub rows_of : (qs : List ℕ) → qs ≡ free_lines p (lines_of p t n) → Rows p (lines_of p t n) (tot.inputs + tot.free) qs
  rows_of qs e = record { long = ap₂ (λ (x y : ℕ). x + y) rd.inputs (sym asked.free); lines = e }

  pub rows_none : (qs : List ℕ) → tot.free ≡ 0 → qs ≡ [] → Rows p (lines_of p t n) (tot.inputs + tot.free) qs
  rows_none qs z e = rows_of qs (e ∙ sym (no_lines_lem rd (sym asked.free ∙ z)))
