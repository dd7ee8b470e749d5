-- The pass over the lines before a run: a record's place and count by its kind, and lists that hold the places so far. Assumes nothing.
use Rattle.std.specs.Prelude.{Ok}
use Prim.Native.Nat.{ℕ, zero, suc, ◌+◌, ◌*◌, ◌%◌, ◌^◌, ◌≤◌, ◌<◌}
use mathlib.Core.Path.{◌≡◌, refl, sym, ap, ap₂, ◌∙◌, subst}
use mathlib.Core.Logic.{inl, inr}
use mathlib.Core.Bool.{Bool, true, false}
use mathlib.Core.List.{List, [], ◌∷◌, ◌++◌, append-nil, append_assoc}
use native.Mathlib.Omega.{arith}
use native.Mathlib.Numerals.{add-one}
use native.Mathlib.Nat.{mod-eq_of_lt, one-mul, add-zero, zero-add}
use lib.Pow.{pow-lt, pow_mono}
use lib.ListN.{length, take, drop, get_or, set, length-set, length-append}
use lib.Seq.{get_or-set_same, get_or-set_other, take-suc-set, take-suc, take-length, length-take-le, drop-cons, drop-length}
use Rattle.tables.specs.declared.Note.{Note}
use Rattle.tables.specs.declared.Ty.{Ty}
use Rattle.tables.specs.Lines.{Line, Shape, is_bitvec, is_array, is_const, is_input, is_state, is_output, is_unary, is_binary, is_ite, is_read, is_write, is_unknown, is_init_or_next, is_signal, is_equality, shape_of, build, line_of, kind_in, sort_in, first_in, second_in, third_in}
use Rattle.tables.specs.Layout.{record_at, lines_of}
use Rattle.tables.specs.Types.{ty_at, Ctx, given, grow_all, context}
use Rattle.tables.specs.Model.Notes.{look_in, given_in}
use Rattle.tables.proofs.Shapes.{binary_range, KindOf, kind_of_lem, line_as, no_unknown}
use Rattle.tables.proofs.Showing.{by_place}
use Rattle.circuits.specs.declared.Spot.{Spot}
use Rattle.circuits.specs.Layout.{Counts, Layout, counting, type_at, place_at, size, line_type_in, place_of, counts_after, no_layout, lay, lay_all, layout}
use Rattle.circuits.specs.Free.{if_state, has_next, sources_here, sources_from, sources, free_count}
use Rattle.circuits.specs.Run.{row_length}
use Rattle.circuits.specs.Model.Work.{laid_as, laid_in}
use Rattle.circuits.specs.Model.Places.{off_at, ShowsAll, Ready}
use Rattle.circuits.specs.Model.Passes.{Noted, counts_of, totals_of, free_here, spot, no_spot, spot_by, Small}
use Rattle.circuits.specs.Model.Signals.{bad_mark, marks}
use Rattle.tables.specs.Tables.{checked}
use Rattle.tables.proofs.Encoding.{fits_table}
use Rattle.circuits.specs.declared.Totals.{Totals}
use Rattle.circuits.proofs.Walked.{sound_at, ok_here, lay_next, later_at, number_at, lay_done, line_here, lines_many}
use Rattle.circuits.proofs.Sources.{sources_many, free_append, here_free, free_few}
use Rattle.circuits.proofs.Answering.{signals_many}
use Rattle.circuits.proofs.Offsets.{off_new, off_old}
use Rattle.circuits.proofs.Laid.{Sound, type_new, place_new, type_old, place_old, more_places, more_types, line_deep}

pub place_by : (Y : Layout) (l : Line) → (spot_by Y.counts l).at ≡ place_of Y l
place_by Y (Line.bitvec w) = refl
place_by Y (Line.array i e) = refl
place_by Y (Line.input s) = refl
place_by Y (Line.state s) = refl
place_by Y (Line.value s e) = refl
place_by Y (Line.init_or_next m s q v) = refl
place_by Y (Line.signal m a) = refl
place_by Y (Line.output a) = refl
place_by Y Line.unknown = refl

-- ---- by the kind

-- the counts after a record's line, and its place; the record is known by its kind alone
pub record Way (c : Counts) (m : ℕ) (r : List ℕ) (d : Counts) (q : Spot) : Type 0 where
  pub count : d ≡ counts_after c m (line_of r)
  pub spot : q ≡ spot_by c (line_of r)

module _ (r : List ℕ) {kind : ℕ} (e : kind ≡ kind_in r) (c : Counts) (m : ℕ) where
  way_as : (S : Shape) → shape_of kind ≡ S → {d : Counts} {q : Spot} → d ≡ counts_after c m (build S (kind_in r) (sort_in r) (first_in r) (second_in r) (third_in r))
      → q ≡ spot_by c (build S (kind_in r) (sort_in r) (first_in r) (second_in r) (third_in r)) → Way c m r d q
  way_as S s hd hq = let l = sym (line_as r S (ap shape_of (sym e) ∙ s)) in record { count = hd ∙ ap (counts_after c m) l; spot = hq ∙ ap (spot_by c) l }

  pub way_input : kind ≡ 4 → Way c m r (counting (c.cells + m) c.states (c.inputs + 1) c.signals) (spot c.cells c.inputs)
  way_input k = way_as is_input (ap shape_of k) (ap (λ (n : ℕ). counting (c.cells + m) c.states n c.signals) (add-one c.inputs)) refl

  pub way_state : kind ≡ 5 → Way c m r (counting (c.cells + m) (c.states + m) c.inputs c.signals) (spot c.cells c.states)
  way_state k = way_as is_state (ap shape_of k) refl refl

  pub way_const : kind ≡ 3 → Way c m r (counting (c.cells + m) c.states c.inputs c.signals) (spot c.cells 0)
  way_const k = way_as is_const (ap shape_of k) refl refl

  pub way_signal : 8 ≤ kind → kind < 10 → Way c m r (counting c.cells c.states c.inputs (c.signals + 1)) (spot 0 c.signals)
  way_signal h l = go (shape_of kind) refl (kind_of_lem kind)
    where
      bump : counting c.cells c.states c.inputs (c.signals + 1) ≡ counting c.cells c.states c.inputs (suc c.signals)
      bump = ap (counting c.cells c.states c.inputs) (add-one c.signals)

      go : (S : Shape) → shape_of kind ≡ S → KindOf S kind → Way c m r (counting c.cells c.states c.inputs (c.signals + 1)) (spot 0 c.signals)
      go is_bitvec e k = absurd (omega arith)
      go is_array e k = absurd (omega arith)
      go is_const e k = absurd (omega arith)
      go is_input e k = absurd (omega arith)
      go is_state e k = absurd (omega arith)
      go is_output e k = absurd (omega arith)
      go is_unary e (inl k) = absurd (omega arith)
      go is_unary e (inr k) = absurd (omega arith)
      go is_binary e k = absurd (omega (arith, binary_range k))
      go is_ite e k = absurd (omega arith)
      go is_read e k = absurd (omega arith)
      go is_write e k = absurd (omega arith)
      go is_unknown e k = absurd (no_unknown kind (omega arith) (omega arith) e)
      go (is_init_or_next true) e k = absurd (omega arith)
      go (is_init_or_next false) e k = absurd (omega arith)
      go (is_signal n) e k = way_as (is_signal n) e bump refl
      go (is_equality true) e k = absurd (omega arith)
      go (is_equality false) e k = absurd (omega arith)

  pub way_value : 11 ≤ kind → kind < 64 → Way c m r (counting (c.cells + m) c.states c.inputs c.signals) (spot c.cells 0)
  way_value h l = go (shape_of kind) refl (kind_of_lem kind)
    where
      go : (S : Shape) → shape_of kind ≡ S → KindOf S kind → Way c m r (counting (c.cells + m) c.states c.inputs c.signals) (spot c.cells 0)
      go is_bitvec e k = absurd (omega arith)
      go is_array e k = absurd (omega arith)
      go is_const e k = absurd (omega arith)
      go is_input e k = absurd (omega arith)
      go is_state e k = absurd (omega arith)
      go is_output e k = absurd (omega arith)
      go is_unary e k = way_as is_unary e refl refl
      go is_binary e k = way_as is_binary e refl refl
      go is_ite e k = way_as is_ite e refl refl
      go is_read e k = way_as is_read e refl refl
      go is_write e k = way_as is_write e refl refl
      go is_unknown e k = absurd (no_unknown kind (omega arith) (omega arith) e)
      go (is_init_or_next true) e k = absurd (omega arith)
      go (is_init_or_next false) e k = absurd (omega arith)
      go (is_signal true) e k = absurd (omega arith)
      go (is_signal false) e k = absurd (omega arith)
      go (is_equality b) e k = way_as (is_equality b) e refl refl

  pub way_none : (kind ≡ 3 → ⊥) → (kind ≡ 4 → ⊥) → (kind ≡ 5 → ⊥) → (8 ≤ kind → kind ≤ 9 → ⊥) → (11 ≤ kind → kind ≤ 63 → ⊥) → Way c m r c no_spot
  way_none n₃ n₄ n₅ n₈ n₁ = go (shape_of kind) refl (kind_of_lem kind)
    where
      go : (S : Shape) → shape_of kind ≡ S → KindOf S kind → Way c m r c no_spot
      go is_bitvec e k = way_as is_bitvec e refl refl
      go is_array e k = way_as is_array e refl refl
      go is_const e k = absurd (n₃ k)
      go is_input e k = absurd (n₄ k)
      go is_state e k = absurd (n₅ k)
      go is_output e k = way_as is_output e refl refl
      go is_unary e (inl k) = absurd (n₁ k.0 (omega arith))
      go is_unary e (inr k) = absurd (n₁ (omega arith) (omega arith))
      go is_binary e k = let h = binary_range k in absurd (n₁ (omega arith) h.1)
      go is_ite e k = absurd (n₁ (omega arith) (omega arith))
      go is_read e k = absurd (n₁ (omega arith) (omega arith))
      go is_write e k = absurd (n₁ (omega arith) (omega arith))
      go is_unknown e k = way_as is_unknown e refl refl
      go (is_init_or_next b) e k = way_as (is_init_or_next b) e refl refl
      go (is_signal true) e k = absurd (n₈ (omega arith) (omega arith))
      go (is_signal false) e k = absurd (n₈ (omega arith) (omega arith))
      go (is_equality true) e k = absurd (n₁ (omega arith) (omega arith))
      go (is_equality false) e k = absurd (n₁ (omega arith) (omega arith))

pub shift_one : (x : ℕ) → x ≤ 8 → 1 * 2 ^ x % 18446744073709551616 ≡ 2 ^ x
shift_one x h = ap (λ (n : ℕ). n % 18446744073709551616) (one-mul (2 ^ x)) ∙ mod-eq_of_lt (pow-lt {i = x} {j = 64} (omega arith))

-- ---- the list that holds what is known of the lines so far

pub lay_ctx : (p : Bool) (Y : Layout) (C : List Line) → (lay_all p Y C).ctx ≡ grow_all p Y.ctx C
lay_ctx p Y [] = refl
lay_ctx p Y (l ∷ C) = lay_ctx p (lay p Y l) C

-- the types that the notes hold are those of the layout
pub noted_types : (p : Bool) (t : List ℕ) (n : ℕ) {xs : List Note} → Noted p t n xs → (a : ℕ) → look_in xs a ≡ type_at (layout p (lines_of p t n)) a
unfolding context layout
noted_types p t n k a = k.shows.types a ∙ ap (λ (c : Ctx). ty_at c a) (sym (lay_ctx p no_layout (lines_of p t n)))

shows_none : (P : List (List ℕ)) → 0 < length P → ShowsAll (set P 0 (laid_as 0 1 0 0)) no_layout
unfolding off_at
shows_none P h zero q =
    let e : laid_in (set P 0 (laid_as 0 1 0 0)) 0 ≡ laid_as 0 1 0 0 = get_or-set_same P 0 (laid_as 0 1 0 0) [] h in
    record {
      known = omega arith;
      is_off = ap (λ (r : List ℕ). get_or r 0 0) e;
      is_wid = ap (λ (r : List ℕ). get_or r 3 0) e;
      is_num = ap (λ (r : List ℕ). get_or r 1 0) e;
      is_pos = ap (λ (r : List ℕ). get_or r 2 0) e;
    }
shows_none P h (suc a) q = absurd (omega arith)

shows_more : (p : Bool) (Y : Layout) (l : Line) (P : List (List ℕ)) (n m w : ℕ) (s : Spot) → Sound Y → length Y.ctx.tys ≡ n → n ≤ 16384 → n < length P → s ≡ spot_by Y.counts l → m ≡ size (line_type_in p Y l)
    → w ≡ (line_type_in p Y l).w → ShowsAll P Y → ShowsAll (set P n (laid_as s.off m s.at w)) (lay p Y l)
shows_more p Y l P n m w s S en few h es em ew pl a q =
    by_place a (length Y.ctx.tys)
    (λ e.
    let ea : a ≡ n = e ∙ en in
    let et : type_at (lay p Y l) a ≡ line_type_in p Y l = ap (type_at (lay p Y l)) e ∙ type_new p Y l S.long in
    let eo : off_at (lay p Y l) a ≡ (spot_by Y.counts l).off = ap (off_at (lay p Y l)) e ∙ off_new p Y l S.counted in
    let eq : place_at (lay p Y l) a ≡ place_of Y l = ap (place_at (lay p Y l)) e ∙ place_new p Y l S.long in
    let er : laid_in (set P n (laid_as s.off m s.at w)) a ≡ laid_as s.off m s.at w = ap (laid_in (set P n (laid_as s.off m s.at w))) ea ∙ get_or-set_same P n (laid_as s.off m s.at w) [] h in
    record {
      known = omega arith;
      is_off = ap (λ (r : List ℕ). get_or r 0 0) er ∙ ap (λ (x : Spot). x.off) es ∙ sym eo;
      is_wid = ap (λ (r : List ℕ). get_or r 3 0) er ∙ ew ∙ sym (ap (λ (x : Ty). x.w) et);
      is_num = ap (λ (r : List ℕ). get_or r 1 0) er ∙ em ∙ sym (ap size et);
      is_pos = ap (λ (r : List ℕ). get_or r 2 0) er ∙ ap (λ (x : Spot). x.at) es ∙ place_by Y l ∙ sym eq;
    })
    (λ e.
    let ne : a ≡ n → ⊥ = λ x. e (x ∙ sym en) in
    let et = type_old p Y l S.long a e in
    let eo = off_old p Y l a e in
    let eq = place_old p Y l S.long a e in
    let k = pl a (omega (arith, more_places p Y l, S.long, e)) in
    let er : laid_in (set P n (laid_as s.off m s.at w)) a ≡ laid_in P a = get_or-set_other P n a (laid_as s.off m s.at w) [] ne in
    record {
      known = k.known;
      is_off = ap (λ (r : List ℕ). get_or r 0 0) er ∙ k.is_off ∙ sym eo;
      is_wid = ap (λ (r : List ℕ). get_or r 3 0) er ∙ k.is_wid ∙ sym (ap (λ (x : Ty). x.w) et);
      is_num = ap (λ (r : List ℕ). get_or r 1 0) er ∙ k.is_num ∙ sym (ap size et);
      is_pos = ap (λ (r : List ℕ). get_or r 2 0) er ∙ k.is_pos ∙ sym eq;
    })

pub record Sofar (p : Bool) (t : List ℕ) (n i : ℕ) (tot : Totals) (P : List (List ℕ)) : Type 0 where
  pub most : i ≤ n
  pub long : length P ≡ 16385
  pub counts : tot ≡ totals_of (lay_all p no_layout (take i (lines_of p t n))).counts tot.free
  pub shows : ShowsAll P (lay_all p no_layout (take i (lines_of p t n)))
  -- the free words so far, and those of the lines to come
  pub free : tot.free + free_count (sources_from p (has_next p (lines_of p t n)) (lay_all p no_layout (take i (lines_of p t n))) (drop i (lines_of p t n))) ≡ free_count (sources p (lines_of p t n))

module _ (p : Bool) (t : List ℕ) (n : ℕ) (xs : List Note) (k : Noted p t n xs) where
  pub begun : (P : List (List ℕ)) {P' : List (List ℕ)} → length P ≡ 16385 → P' ≡ set P 0 (laid_as 0 1 0 0) → Sofar p t n 0 (record { cells = 0; states = 0; inputs = 0; signals = 0; free = 0 }) P'
  unfolding sources
  begun P lp e =
      rw e
      (record {
        most = omega arith;
        long = length-set P 0 (laid_as 0 1 0 0) ∙ lp;
        counts = refl;
        shows = shows_none P (omega arith);
        free = zero-add (free_count (sources_from p (has_next p (lines_of p t n)) no_layout (lines_of p t n)));
      })

  -- the notes tell which states have a next
  pub next_noted : (q : ℕ) → given_in xs false q ≡ has_next p (lines_of p t n) q
  unfolding context layout
  next_noted q = k.shows.flags false q ∙ ap (λ (c : Ctx). given c false q) (sym (lay_ctx p no_layout (lines_of p t n)))

  module _ (i : ℕ) (h : i < n) where
    -- the note of the line at hand has its type
    type_here : look_in xs (i + 1) ≡ line_type_in p (lay_all p no_layout (take i (lines_of p t n))) (get_or (lines_of p t n) i Line.unknown)
    type_here =
        let r = later_at p t n k.accepted i h in
        let S = sound_at p t n k.accepted i in
        let e = number_at p t n k.accepted i (omega arith) in
        let lm = more_types p (lay_all p no_layout (take i (lines_of p t n))) (get_or (lines_of p t n) i Line.unknown) in
        noted_types p t n k (i + 1) ∙ r.type (i + 1) (omega arith) ∙ ap (type_at (lay p (lay_all p no_layout (take i (lines_of p t n))) (get_or (lines_of p t n) i Line.unknown))) (sym e) ∙ type_new p (lay_all p no_layout (take i (lines_of p t n))) (get_or (lines_of p t n) i Line.unknown) S.long

    pub deep_here : (look_in xs (i + 1)).iw ≤ 8
    deep_here = omega (arith, ap (λ (x : Ty). x.iw) type_here, line_deep p (lay_all p no_layout (take i (lines_of p t n))) (get_or (lines_of p t n) i Line.unknown) (sound_at p t n k.accepted i).wide (ok_here p t n k.accepted i h))

    pub small_here : {m : ℕ} {tot : Totals} {P : List (List ℕ)} → Sofar p t n i tot P → m ≡ size (look_in xs (i + 1)) → Small (counts_of tot) m × (m ≤ 256)
    small_here {m} {tot} s em =
        let S = sound_at p t n k.accepted i in
        let e = number_at p t n k.accepted i (omega arith) in
        let hm : m ≤ 256 = subst (λ (x : ℕ). x ≤ 256) (sym em) (pow_mono deep_here) in
        let f = fits_table p t n k.accepted in
        let q : Small (lay_all p no_layout (take i (lines_of p t n))).counts m =
        record { cells = omega (arith, S.few_cells); states = omega (arith, S.few_states); inputs = omega (arith, S.few_inputs); signals = omega (arith, S.few_signals) } in
        (subst (λ (x : Totals). Small (counts_of x) m) (sym s.counts) q, hm)

    -- the free words are at most the state words
    pub free_small : {tot : Totals} {P : List (List ℕ)} → Sofar p t n i tot P → tot.free ≤ 4194560
    free_small {tot} s =
        let S = sound_at p t n k.accepted n in
        let e = number_at p t n k.accepted n (omega arith) in
        let f = fits_table p t n k.accepted in
        let d = ap (λ (Y : Layout). Y.counts.states) (lay_done p t n k.accepted) in
        omega (arith, s.free, free_few (sources p (lines_of p t n)), sources_many p (lines_of p t n), S.few_states)

    -- one line more: r is the record at hand, y its type
    pub further : {r : List ℕ} {y : Ty} {m : ℕ} {o : Spot} {tot tot' tot'' : Totals} (P : List (List ℕ)) {P' : List (List ℕ)} → Sofar p t n i tot P → r ≡ record_at p t i → y ≡ look_in xs (i + 1) → m ≡ size y
        → o ≡ spot_by (counts_of tot) (line_of r) → tot' ≡ totals_of (counts_after (counts_of tot) m (line_of r)) tot.free → P' ≡ set P (i + 1) (laid_as o.off m o.at y.w)
        → tot'' ≡ totals_of (counts_of tot') (tot'.free + free_here (given_in xs false (i + 1)) m (line_of r))
        → Sofar p t n (i + 1) tot'' P'
    further {r} {y} {m} {o} {tot} {tot'} {tot''} P {P'} s er ey em eo et e ef =
        let Y = lay_all p no_layout (take i (lines_of p t n)) in
        let l = get_or (lines_of p t n) i Line.unknown in
        let S = sound_at p t n k.accepted i in
        let el : line_of r ≡ l = ap line_of er ∙ sym (line_here p t n k.accepted i h) in
        let ec : counts_of tot ≡ Y.counts = ap counts_of s.counts in
        let eq : o ≡ spot_by Y.counts l = eo ∙ ap₂ spot_by ec el in
        let ty : y ≡ line_type_in p Y l = ey ∙ type_here in
        let sm : m ≡ size (line_type_in p Y l) = em ∙ ap size ty in
        let next : lay_all p no_layout (take (i + 1) (lines_of p t n)) ≡ lay p Y l = ap (λ (j : ℕ). lay_all p no_layout (take j (lines_of p t n))) (add-one i) ∙ lay_next p t n k.accepted i h in
        let f = fits_table p t n k.accepted in
        let hl = s.long in
        record {
          most = omega arith;
          long = ap length e ∙ length-set P (i + 1) (laid_as o.off m o.at y.w) ∙ hl;
          counts = ef ∙ ap₂ totals_of (ap counts_of et ∙ ap₂ (λ (c : Counts) (x : Line). counts_after c m x) ec el ∙ ap (λ (x : ℕ). counts_after Y.counts x l) sm ∙ ap (λ (Z : Layout). Z.counts) (sym next)) (sym (ap (λ (x : Totals). x.free) ef));
          shows = subst (λ (Z : Layout). ShowsAll P' Z) (sym next)
              (rw e (shows_more p Y l P (i + 1) m y.w o S (number_at p t n k.accepted i (omega arith)) (omega arith) (omega arith) eq sm (ap (λ (x : Ty). x.w) ty) s.shows));
          free =
              let G = has_next p (lines_of p t n) in
              let rest = drop (i + 1) (lines_of p t n) in
              let ln : length Y.places ≡ i + 1 = S.long ∙ number_at p t n k.accepted i (omega arith) in
              let here : free_here (given_in xs false (i + 1)) m (line_of r) ≡ free_count (sources_here p G Y l) =
              ap₂ (λ (b : Bool) (x : Line). free_here b m x) (next_noted (i + 1) ∙ ap G (sym ln)) el ∙ ap (λ (x : ℕ). free_here (G (length Y.places)) x l) sm ∙ sym (here_free p G Y l) in
              let cut : free_count (sources_from p G Y (drop i (lines_of p t n))) ≡ free_count (sources_here p G Y l) + free_count (sources_from p G (lay p Y l) rest) =
              ap (λ (x : List Line). free_count (sources_from p G Y x)) (drop-cons (lines_of p t n) i Line.unknown (omega (arith, lines_many p t n k.accepted)) ∙ ap (λ (j : ℕ). l ∷ drop j (lines_of p t n)) (sym (add-one i)))
              ∙ free_append (sources_here p G Y l) (sources_from p G (lay p Y l) rest) in
              let tf : tot'.free ≡ tot.free = ap (λ (x : Totals). x.free) et in
              let tg : tot''.free ≡ tot'.free + free_here (given_in xs false (i + 1)) m (line_of r) = ap (λ (x : Totals). x.free) ef in
              ap (λ (Z : Layout). tot''.free + free_count (sources_from p G Z rest)) next ∙ omega (arith, here, cut, tf, tg, s.free);
        }

  pub laid : {i : ℕ} {tot : Totals} {P : List (List ℕ)} → n ≤ i → Sofar p t n i tot P → ShowsAll P (layout p (lines_of p t n)) × (tot ≡ totals_of (layout p (lines_of p t n)).counts (free_count (sources p (lines_of p t n))))
  laid {i} {tot} {P} h s =
      let e : i ≡ n = omega (arith, s.most) in
      let q : lay_all p no_layout (take i (lines_of p t n)) ≡ layout p (lines_of p t n) = ap (λ (j : ℕ). lay_all p no_layout (take j (lines_of p t n))) e ∙ lay_done p t n k.accepted in
      let none : drop i (lines_of p t n) ≡ [] = ap (λ (j : ℕ). drop j (lines_of p t n)) (e ∙ sym (lines_many p t n k.accepted)) ∙ drop-length (lines_of p t n) in
      let all : tot.free ≡ free_count (sources p (lines_of p t n)) =
      sym (add-zero tot.free) ∙ ap (λ (x : List Line). tot.free + free_count (sources_from p (has_next p (lines_of p t n)) (lay_all p no_layout (take i (lines_of p t n))) x)) (sym none) ∙ s.free in
      (subst (λ (Z : Layout). ShowsAll P Z) q s.shows, s.counts ∙ ap₂ (λ (Z : Layout) (f : ℕ). totals_of Z.counts f) q all)

pub place_small : (c : Counts) (m : ℕ) (l : Line) → Small c m → ((spot_by c l).off < 4294967296) × ((spot_by c l).at < 4294967296)
place_small c m (Line.bitvec w) s = (omega arith, omega arith)
place_small c m (Line.array i e) s = (omega arith, omega arith)
place_small c m (Line.input x) s = (omega (arith, s.cells), omega (arith, s.inputs))
place_small c m (Line.state x) s = (omega (arith, s.cells), omega (arith, s.states))
place_small c m (Line.value x e) s = (omega (arith, s.cells), omega arith)
place_small c m (Line.init_or_next n x q v) s = (omega arith, omega arith)
place_small c m (Line.signal n a) s = (omega arith, omega (arith, s.signals))
place_small c m (Line.output a) s = (omega arith, omega arith)
place_small c m Line.unknown s = (omega arith, omega arith)

-- ---- the marks of the signals

module _ (r : List ℕ) {kind : ℕ} (e : kind ≡ kind_in r) where
  state_as : (S : Shape) → shape_of kind ≡ S → {A : Type 0} (x y : A) {z : A} → z ≡ if_state (build S (kind_in r) (sort_in r) (first_in r) (second_in r) (third_in r)) x y → z ≡ if_state (line_of r) x y
  state_as S s x y h = h ∙ ap (λ (l : Line). if_state l x y) (sym (line_as r S (ap shape_of (sym e) ∙ s)))

  pub state_line : kind ≡ 5 → {A : Type 0} (x y : A) → x ≡ if_state (line_of r) x y
  state_line k x y = state_as is_state (ap shape_of k) x y refl

  pub other_line : (kind ≡ 5 → ⊥) → {A : Type 0} (x y : A) → y ≡ if_state (line_of r) x y
  other_line n₅ {A} x y = go (shape_of kind) refl (kind_of_lem kind)
    where
      go : (S : Shape) → shape_of kind ≡ S → KindOf S kind → y ≡ if_state (line_of r) x y
      go is_bitvec e k = state_as is_bitvec e x y refl
      go is_array e k = state_as is_array e x y refl
      go is_const e k = state_as is_const e x y refl
      go is_input e k = state_as is_input e x y refl
      go is_state e k = absurd (n₅ k)
      go is_output e k = state_as is_output e x y refl
      go is_unary e k = state_as is_unary e x y refl
      go is_binary e k = state_as is_binary e x y refl
      go is_ite e k = state_as is_ite e x y refl
      go is_read e k = state_as is_read e x y refl
      go is_write e k = state_as is_write e x y refl
      go is_unknown e k = state_as is_unknown e x y refl
      go (is_init_or_next d) e k = state_as (is_init_or_next d) e x y refl
      go (is_signal d) e k = state_as (is_signal d) e x y refl
      go (is_equality d) e k = state_as (is_equality d) e x y refl

  mark_as : (S : Shape) → shape_of kind ≡ S → bad_mark (build S (kind_in r) (sort_in r) (first_in r) (second_in r) (third_in r)) ≡ bad_mark (line_of r)
  mark_as S s = ap bad_mark (sym (line_as r S (ap shape_of (sym e) ∙ s)))

  pub mark_bad : kind ≡ 8 → 1 ∷ [] ≡ bad_mark (line_of r)
  mark_bad k = mark_as (is_signal true) (ap shape_of k)

  pub mark_constraint : kind ≡ 9 → 0 ∷ [] ≡ bad_mark (line_of r)
  mark_constraint k = mark_as (is_signal false) (ap shape_of k)

  pub mark_none : (kind ≡ 8 → ⊥) → (kind ≡ 9 → ⊥) → [] ≡ bad_mark (line_of r)
  mark_none n₈ n₉ = go (shape_of kind) refl (kind_of_lem kind)
    where
      go : (S : Shape) → shape_of kind ≡ S → KindOf S kind → [] ≡ bad_mark (line_of r)
      go is_bitvec e k = mark_as is_bitvec e
      go is_array e k = mark_as is_array e
      go is_const e k = mark_as is_const e
      go is_input e k = mark_as is_input e
      go is_state e k = mark_as is_state e
      go is_output e k = mark_as is_output e
      go is_unary e k = mark_as is_unary e
      go is_binary e k = mark_as is_binary e
      go is_ite e k = mark_as is_ite e
      go is_read e k = mark_as is_read e
      go is_write e k = mark_as is_write e
      go is_unknown e k = mark_as is_unknown e
      go (is_init_or_next b) e k = mark_as (is_init_or_next b) e
      go (is_signal true) e k = absurd (n₈ k)
      go (is_signal false) e k = absurd (n₉ k)
      go (is_equality b) e k = mark_as (is_equality b) e

-- a signal's mark goes to the place g
pub noted : (r bad : List ℕ) (g : ℕ) {v : ℕ} → g < length bad → v ∷ [] ≡ bad_mark (line_of r)
    → (take (g + 1) (set bad g v) ≡ take g bad ++ bad_mark (line_of r)) × (g + 1 ≡ g + length (bad_mark (line_of r)))
noted r bad g {v} h e =
    (ap (λ (n : ℕ). take n (set bad g v)) (add-one g) ∙ take-suc-set bad g v h ∙ ap (λ (x : List ℕ). take g bad ++ x) e, ap (λ (x : List ℕ). g + length x) e)

pub not_noted : (r bad : List ℕ) (g : ℕ) → [] ≡ bad_mark (line_of r) → (take g bad ≡ take g bad ++ bad_mark (line_of r)) × (g ≡ g + length (bad_mark (line_of r)))
not_noted r bad g e = (sym (append-nil (take g bad)) ∙ ap (λ (x : List ℕ). take g bad ++ x) e, sym (add-zero g) ∙ ap (λ (x : List ℕ). g + length x) e)

pub marks_append : (C D : List Line) → marks (C ++ D) ≡ marks C ++ marks D
marks_append [] D = refl
marks_append (l ∷ C) D = ap (λ (x : List ℕ). bad_mark l ++ x) (marks_append C D) ∙ sym (append_assoc (bad_mark l) (marks C) (marks D))

one_mark : (l : Line) → length (bad_mark l) ≤ 1
one_mark (Line.bitvec w) = omega arith
one_mark (Line.array i e) = omega arith
one_mark (Line.input s) = omega arith
one_mark (Line.state s) = omega arith
one_mark (Line.value s e) = omega arith
one_mark (Line.init_or_next m s q v) = omega arith
one_mark (Line.signal m a) = omega arith
one_mark (Line.output a) = omega arith
one_mark Line.unknown = omega arith

marks_few : (C : List Line) → length (marks C) ≤ length C
marks_few [] = omega arith
marks_few (l ∷ C) = omega (arith, length-append (bad_mark l) (marks C), one_mark l, marks_few C)

pub record MarksSoFar (C : List Line) (n i g : ℕ) (bad : List ℕ) : Type 0 where
  pub most : i ≤ n
  pub few : g ≤ i
  pub long : length bad ≡ 16385
  pub count : g ≡ length (marks (take i C))
  pub holds : take g bad ≡ marks (take i C)

module _ (p : Bool) (t : List ℕ) (n : ℕ) (acc : checked p t n ≡ Ok tt) where
  pub marks_more : {r : List ℕ} (i g g' : ℕ) (bad bad' : List ℕ) → i < n → MarksSoFar (lines_of p t n) n i g bad → r ≡ record_at p t i → length bad' ≡ length bad
      → take g' bad' ≡ take g bad ++ bad_mark (line_of r) → g' ≡ g + length (bad_mark (line_of r)) → MarksSoFar (lines_of p t n) n (i + 1) g' bad'
  marks_more {r} i g g' bad bad' h s er lb e₁ e₂ =
      let l = get_or (lines_of p t n) i Line.unknown in
      let el : line_of r ≡ l = ap line_of er ∙ sym (line_here p t n acc i h) in
      let q : i < length (lines_of p t n) = omega (arith, lines_many p t n acc) in
      let em : marks (take (i + 1) (lines_of p t n)) ≡ marks (take i (lines_of p t n)) ++ bad_mark l =
      ap (λ (j : ℕ). marks (take j (lines_of p t n))) (add-one i) ∙ ap marks (take-suc (lines_of p t n) i Line.unknown q) ∙ marks_append (take i (lines_of p t n)) (l ∷ []) ∙ ap (λ (x : List ℕ). marks (take i (lines_of p t n)) ++ x) (append-nil (bad_mark l)) in
      record {
        most = omega arith;
        few = omega (arith, s.few, e₂, one_mark (line_of r));
        long = lb ∙ s.long;
        count = e₂ ∙ ap₂ (λ (x : ℕ) (y : Line). x + length (bad_mark y)) s.count el ∙ sym (length-append (marks (take i (lines_of p t n))) (bad_mark l)) ∙ ap length (sym em);
        holds = e₁ ∙ ap₂ (λ (x : List ℕ) (y : Line). x ++ bad_mark y) s.holds el ∙ sym em;
      }

  pub marks_end : (i g : ℕ) (bad : List ℕ) → n ≤ i → MarksSoFar (lines_of p t n) n i g bad → take (length (marks (lines_of p t n))) bad ≡ marks (lines_of p t n)
  marks_end i g bad h s =
      let e : i ≡ length (lines_of p t n) = omega (arith, s.most, lines_many p t n acc) in
      let q : take i (lines_of p t n) ≡ lines_of p t n = ap (λ (j : ℕ). take j (lines_of p t n)) e ∙ take-length (lines_of p t n) in
      ap (λ (x : ℕ). take x bad) (sym (s.count ∙ ap (λ (C : List Line). length (marks C)) q)) ∙ s.holds ∙ ap marks q

-- ---- the counts of an accepted table are small

module _ (p : Bool) (t : List ℕ) (n : ℕ) (acc : checked p t n ≡ Ok tt) where
  pub all_sound : Sound (layout p (lines_of p t n))
  all_sound = subst Sound (lay_done p t n acc) (sound_at p t n acc n)

  pub lines_here : length (layout p (lines_of p t n)).ctx.tys ≡ n + 1
  lines_here = ap (λ (Y : Layout). length Y.ctx.tys) (sym (lay_done p t n acc)) ∙ number_at p t n acc n (omega arith)

  pub few_here : n ≤ 16384
  few_here = (fits_table p t n acc).0

  pub words_few : ((layout p (lines_of p t n)).counts.cells ≤ 4194560) × ((layout p (lines_of p t n)).counts.states ≤ 4194560)
  words_few = let e = lines_here in let h = few_here in (omega (arith, all_sound.few_cells), omega (arith, all_sound.few_states))

  pub inputs_few : (layout p (lines_of p t n)).counts.inputs ≤ 16385
  inputs_few = let e = lines_here in let h = few_here in omega (arith, all_sound.few_inputs)

  pub signals_few : (layout p (lines_of p t n)).counts.signals ≤ 16384
  signals_few =
      let e : length (take n (lines_of p t n)) ≡ n = length-take-le n (lines_of p t n) (omega (arith, lines_many p t n acc)) in
      let s = marks_few (lines_of p t n) in
      omega (arith, signals_many p (lines_of p t n), lines_many p t n acc, few_here)

  -- ---- what the pass leaves is what the steps ask for

  pub ready_laid : {P : List (List ℕ)} {tot : Totals} → ShowsAll P (layout p (lines_of p t n)) → {f : ℕ} → tot ≡ totals_of (layout p (lines_of p t n)).counts f → Ready p t n P tot.cells tot.states tot.inputs tot.signals
  ready_laid sh e =
      record {
        accepted = acc;
        shows = sh;
        cells = ap (λ (x : Totals). x.cells) (sym e);
        states = ap (λ (x : Totals). x.states) (sym e);
        inputs = ap (λ (x : Totals). x.inputs) (sym e);
        signals = ap (λ (x : Totals). x.signals) (sym e);
      }

  -- and the words of a row
  pub row_few : row_length p (lines_of p t n) ≤ 4210945
  row_few = omega (arith, inputs_few, words_few.1, free_few (sources p (lines_of p t n)), sources_many p (lines_of p t n))

  pub lent_small : {tot : Totals} → tot ≡ totals_of (layout p (lines_of p t n)).counts (free_count (sources p (lines_of p t n)))
      → (tot.cells + tot.states < 4294967296) × ((tot.inputs + tot.free < 4294967296) × (tot.signals < 4294967296))
  lent_small {tot} e =
      subst (λ (x : Totals). (x.cells + x.states < 4294967296) × ((x.inputs + x.free < 4294967296) × (x.signals < 4294967296))) (sym e)
      (omega (arith, words_few), (omega (arith, row_few), omega (arith, signals_few)))
