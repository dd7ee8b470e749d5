-- "It takes its start word or init value at step 0. From step 1 on it takes words from the row, modulo 2^w, and not the word the last step left": the states of an accepted circuit (p is
-- false) or program (true) at each step of a run. C are the table's lines, Y is their layout. Assumes nothing.
use Rattle.std.specs.Prelude.{Ok}
use Prim.Native.Nat.{ℕ, zero, suc, ◌+◌, ◌*◌, ◌%◌, ◌^◌, ◌≤◌, ◌<◌}
use mathlib.Core.Path.{◌≡◌, refl, sym, ap, ap₂, ◌∙◌}
use mathlib.Core.Bool.{Bool, true, false, ◌||◌}
use mathlib.Core.List.{List, [], ◌∷◌, ◌++◌, append-nil}
use native.Mathlib.Omega.{arith}
use native.Mathlib.Nat.{zero-add, zero-mul}
use lib.ListN.{length, take, drop, get_or, replicate, length-append, length-drop, length-replicate, take-append-drop}
use lib.Seq.{take_at, drop_at, drop-cons}
use Rattle.tables.specs.declared.Ty.{Ty}
use Rattle.tables.specs.Pick.{pick, among, alike}
use Rattle.tables.specs.Lines.{Line}
use Rattle.tables.specs.Layout.{lines_of}
use Rattle.tables.specs.Types.{rank, given}
use Rattle.tables.specs.Tables.{checked}
use Rattle.tables.proofs.Laws.{or_true}
use Rattle.tables.proofs.GivenStates.{gives_to, given_more, given_once}
use Rattle.circuits.specs.Cells.{mask_words, part}
use Rattle.circuits.specs.Layout.{Layout, type_at, place_at, size, line_type_in, place_of, no_layout, lay, lay_all, layout}
use Rattle.circuits.specs.Meaning.{state_words, Frame, cells_at, step}
use Rattle.circuits.specs.Free.{Source, driven, free, source_of, cell_sources, has_next, sources_from, sources, free_count, fed}
use Rattle.circuits.specs.Run.{input_count, row_length, inputs_at, free_at, start, entered, step_from, words_before, step_at}
use Rattle.circuits.proofs.Puts as laws
use Rattle.circuits.proofs.Laid.{type_new, place_new, more_types, more_places}
use Rattle.circuits.proofs.Walked.{lines_many, sound_at, later_at, number_at}
use Rattle.circuits.proofs.Sources.{sources_append, from_many, sources_many, free_append, free_cells, fed_many}
use Rattle.circuits.proofs.Feeding.{fed_driven, fed_free}
use Rattle.circuits.proofs.Repeated.{next_row, step_zero_lem, step_later}
use Rattle.circuits.proofs.SameRows.{entered_long}
use Rattle.circuits.proofs.Simulation.{state_small}
use Rattle.circuits.proofs.StateWords.{words_of_state}
use Rattle.circuits.proofs.States.{settled, words_many, state_value, next_value}

-- ---- the words of some sources among those of all

drop_next : (k : ℕ) (l : List ℕ) → drop k (drop 1 l) ≡ drop (suc k) l
drop_next zero [] = refl
drop_next (suc k) [] = refl
drop_next k (x ∷ l) = refl

fed_append : (xs ys : List Source) (left row : List ℕ) → fed (xs ++ ys) left row ≡ fed xs left row ++ fed ys (drop (length xs) left) (drop (free_count xs) row)
fed_append [] ys left row = refl
fed_append (driven ∷ xs) ys left row =
    ap (λ (zs : List ℕ). get_or left 0 0 ∷ zs)
    (fed_append xs ys (drop 1 left) row ∙ ap (λ (l : List ℕ). fed xs (drop 1 left) row ++ fed ys l (drop (free_count xs) row)) (drop_next (length xs) left))
fed_append (free w ∷ xs) ys left row =
    ap (λ (zs : List ℕ). get_or row 0 0 % 2 ^ w ∷ zs)
    (fed_append xs ys (drop 1 left) (drop 1 row) ∙ ap₂ (λ (l r : List ℕ). fed xs (drop 1 left) (drop 1 row) ++ fed ys l r) (drop_next (length xs) left) (drop_next (free_count xs) row))

-- those of zs, which stand between xs and ys
fed_between : (xs zs ys : List Source) (left row : List ℕ) → part (fed (xs ++ (zs ++ ys)) left row) (length xs) (length zs) ≡ fed zs (drop (length xs) left) (drop (free_count xs) row)
fed_between xs zs ys left row =
    let l = drop (length xs) left in
    let r = drop (free_count xs) row in
    ap (take (length zs)) (ap (drop (length xs)) (fed_append xs (zs ++ ys) left row) ∙ drop_at (fed xs left row) (fed (zs ++ ys) l r) (length xs) (fed_many xs left row))
    ∙ ap (take (length zs)) (fed_append zs ys l r) ∙ take_at (fed zs l r) (fed ys (drop (length zs) l) (drop (free_count zs) r)) (length zs) (fed_many zs l r)

-- ---- a state that an init (f is true) or a next line sets is given words

given_stays : (p f : Bool) (Y : Layout) (D : List Line) (q : ℕ) → given Y.ctx f q ≡ true → given (lay_all p Y D).ctx f q ≡ true
given_stays p f Y [] q e = e
given_stays p f Y (l ∷ D) q e = given_stays p f (lay p Y l) D q (given_more p f Y.ctx l q ∙ ap (λ (b : Bool). b || among q (gives_to f l)) e)

given_at : (p f : Bool) (Y : Layout) (D : List Line) (k s q v : ℕ) → k < length D → get_or D k Line.unknown ≡ Line.init_or_next f s q v → given (lay_all p Y D).ctx f q ≡ true
given_at p f Y [] k s q v h e = absurd (omega arith)
given_at p f Y (l ∷ D) zero s q v h e =
    given_stays p f (lay p Y l) D q
    (given_more p f Y.ctx l q ∙ ap (λ (x : Line). given Y.ctx f q || among q (gives_to f x)) e ∙ ap (λ (b : Bool). given Y.ctx f q || b) (given_once f q (alike f f) refl) ∙ or_true (given Y.ctx f q))
given_at p f Y (l ∷ D) (suc k) s q v h e = given_at p f (lay p Y l) D k s q v (omega arith) e

-- ---- a state's place among the words of a row for free states: how many there are before its own

abbrev pub free_place : (p : Bool) (C : List Line) (q : ℕ) → ℕ
free_place p C q = free_count (take (place_at (layout p C) q) (sources p C))

module _ (p : Bool) (t : List ℕ) (n : ℕ) (acc : checked p t n ≡ Ok tt) where
  abbrev C : List Line
  C = lines_of p t n

  abbrev Y : Layout
  Y = layout p (lines_of p t n)

  -- the line at the place i, counted from 0, is a state
  module _ (i s : ℕ) (h : i < n) (e : get_or C i Line.unknown ≡ Line.state s) where
    abbrev Z : Layout
    Z = lay_all p no_layout (take i C)

    abbrev q : ℕ
    q = i + 1

    number : length Z.places ≡ q
    number = (sound_at p t n acc i).long ∙ number_at p t n acc i (omega arith)

    type : type_at Y q ≡ line_type_in p Z (Line.state s)
    type =
        let l = get_or C i Line.unknown in
        let k = number_at p t n acc i (omega arith) in
        (later_at p t n acc i h).type q (omega (arith, more_types p Z l)) ∙ ap (type_at (lay p Z l)) (sym k) ∙ type_new p Z l (sound_at p t n acc i).long ∙ ap (line_type_in p Z) e

    place : place_at Y q ≡ Z.counts.states
    place =
        let l = get_or C i Line.unknown in
        let k = number_at p t n acc i (omega arith) in
        (later_at p t n acc i h).place q (omega (arith, more_places p Z l, number)) ∙ ap (place_at (lay p Z l)) (sym k) ∙ place_new p Z l (sound_at p t n acc i).long ∙ ap (place_of Z) e

    pub is_state_lem : rank (type_at Y q).role ≡ 4
    is_state_lem = ap (λ (x : Ty). rank x.role) type

    -- its sources stand between those of the lines before and after it
    before : List Source
    before = sources_from p (has_next p C) no_layout (take i C)

    after : List Source
    after = sources_from p (has_next p C) (lay p Z (Line.state s)) (drop (suc i) C)

    between : sources p C ≡ before ++ (cell_sources (has_next p C q) (type_at Y q) ++ after)
    unfolding sources before after
    between =
        ap (sources_from p (has_next p C) no_layout) (sym (take-append-drop i C) ∙ ap (λ (D : List Line). take i C ++ D) (drop-cons C i Line.unknown (omega (arith, lines_many p t n acc)) ∙ ap (λ (l : Line). l ∷ drop (suc i) C) e))
        ∙ sources_append p (has_next p C) no_layout (take i C) (Line.state s ∷ drop (suc i) C)
        ∙ ap₂ (λ (m : ℕ) (x : Ty). before ++ (cell_sources (has_next p C m) x ++ after)) number (sym type)

    before_many : length before ≡ place_at Y q
    unfolding before
    before_many = sym (zero-add (length (sources_from p (has_next p C) no_layout (take i C)))) ∙ from_many p (has_next p C) no_layout (take i C) ∙ sym place

    free_before : free_count before ≡ free_place p C q
    free_before = ap free_count (sym (ap₂ take (sym before_many) between ∙ take_at before (cell_sources (has_next p C q) (type_at Y q) ++ after) (length before) refl))

    cells_many : length (cell_sources (has_next p C q) (type_at Y q)) ≡ size (type_at Y q)
    cells_many = length-replicate (size (type_at Y q)) (source_of (has_next p C q) (type_at Y q).w)

    -- so the words that a later step finds for it are those of its own sources
    words_here : (j : ℕ) (left row : List ℕ) → words_of_state Y (entered p C (suc j) left row) q ≡ fed (cell_sources (has_next p C q) (type_at Y q)) (drop (place_at Y q) left) (drop (free_place p C q) row)
    words_here j left row =
        ap (λ (ss : List Source). part (fed ss left row) (place_at Y q) (size (type_at Y q))) between
        ∙ ap₂ (part (fed (before ++ (cell_sources (has_next p C q) (type_at Y q) ++ after)) left row)) (sym before_many) (sym cells_many)
        ∙ fed_between before (cell_sources (has_next p C q) (type_at Y q)) after left row
        ∙ ap₂ (λ (a f : ℕ). fed (cell_sources (has_next p C q) (type_at Y q)) (drop a left) (drop f row)) before_many free_before

    room : place_at Y q + size (type_at Y q) ≤ Y.counts.states
    room = omega (arith, sources_many p C, ap length between, length-append before (cell_sources (has_next p C q) (type_at Y q) ++ after), length-append (cell_sources (has_next p C q) (type_at Y q)) after, before_many, cells_many)

    -- A driven state: the words that the last step left.
    pub entered_driven : (j : ℕ) (left row : List ℕ) → has_next p C q ≡ true → Y.counts.states ≤ length left → words_of_state Y (entered p C (suc j) left row) q ≡ words_of_state Y left q
    entered_driven j left row g enough =
        let m = size (type_at Y q) in
        let l = drop (place_at Y q) left in
        words_here j left row ∙ ap (λ (b : Bool). fed (cell_sources b (type_at Y q)) l (drop (free_place p C q) row)) g
        ∙ ap (λ (ss : List Source). fed ss l (drop (free_place p C q) row)) (sym (append-nil (replicate m driven)))
        ∙ fed_driven m [] l (drop (free_place p C q) row) (omega (arith, room, length-drop (place_at Y q) left)) ∙ append-nil (take m l)

    -- A free one: the row's words, each modulo 2 ^ w, and not those that the last step left.
    pub entered_free : (j : ℕ) (left row : List ℕ) → has_next p C q ≡ false → Y.counts.states ≤ length left → free_count (sources p C) ≤ length row
        → words_of_state Y (entered p C (suc j) left row) q ≡ mask_words (type_at Y q).w (part row (free_place p C q) (size (type_at Y q)))
    entered_free j left row g enough full =
        let m = size (type_at Y q) in
        let w = (type_at Y q).w in
        let l = drop (place_at Y q) left in
        let r = drop (free_place p C q) row in
        let few : free_place p C q + m ≤ length row =
        omega (arith, full, ap free_count between, free_append before (cell_sources (has_next p C q) (type_at Y q) ++ after), free_append (cell_sources (has_next p C q) (type_at Y q)) after, free_before, free_cells (has_next p C q) w m, ap (λ (b : Bool). pick b 0 m) g) in
        words_here j left row ∙ ap (λ (b : Bool). fed (cell_sources b (type_at Y q)) l r) g ∙ ap (λ (ss : List Source). fed ss l r) (sym (append-nil (replicate m (free w))))
        ∙ fed_free m w [] l r (omega (arith, room, length-drop (place_at Y q) left)) (omega (arith, length-drop (free_place p C q) row)) ∙ append-nil (mask_words w (take m r))

  -- a state that a next line sets, on whatever line it stands, is driven
  pub is_driven : (k s q v : ℕ) → k < n → get_or C k Line.unknown ≡ Line.init_or_next false s q v → has_next p C q ≡ true
  unfolding layout
  is_driven k s q v h e = given_at p false no_layout C k s q v (omega (arith, lines_many p t n acc)) e

  -- ---- at the steps of a run, from start words S of every state cell and rows I

  module _ (S I : List ℕ) (enough : Y.counts.states ≤ length S) where
    -- step 0 reads none of the row's words for free states
    pub zero_unread : (J : List ℕ) → take (input_count p C) I ≡ take (input_count p C) J → step_at p C S I 0 ≡ step_at p C S J 0
    unfolding start
    zero_unread J e =
        let first : (X : List ℕ) → inputs_at p C X 0 ≡ take (input_count p C) X = λ X. ap (λ (a : ℕ). part X a (input_count p C)) (zero-mul (row_length p C)) in
        step_zero_lem p C S I ∙ ap₂ (λ (x y : List ℕ). step p false C (step p true C S x).sts y) e (first I ∙ e ∙ sym (first J)) ∙ sym (step_zero_lem p C S J)

    -- there is a word for every state cell before each step
    pub words_long : (j : ℕ) → Y.counts.states ≤ length (words_before p C I (start p C S I) j)
    unfolding words_before start step_from
    words_long zero = omega (arith, words_many p t n acc S enough true (take (input_count p C) I))
    words_long (suc j) =
        omega (arith, words_many p t n acc (entered p C j (words_before p C I (start p C S I) j) (free_at p C I j)) (entered_long p C j _ _ (words_long j)) false (inputs_at p C I j))

    left_long : (j : ℕ) → Y.counts.states ≤ length (step_at p C S I j).sts
    unfolding words_before step_at
    left_long j = words_long (suc j)

    module _ (i s : ℕ) (h : i < n) (e : get_or C i Line.unknown ≡ Line.state s) (j : ℕ) where
      -- the words that the state finds at the step after j are its value there
      later_value : cells_at (step_at p C S I (suc j)) (i + 1)
          ≡ state_words p false (type_at Y (i + 1)).w (words_of_state Y (entered p C (suc j) (step_at p C S I j).sts (free_at p C I (suc j))) (i + 1))
      later_value =
          ap (λ (A : Frame). cells_at A (i + 1)) (step_later p C S I j)
          ∙ state_value p t n acc (entered p C (suc j) (step_at p C S I j).sts (free_at p C I (suc j))) (entered_long p C (suc j) _ _ (left_long j)) false (inputs_at p C I (suc j)) (i + 1) (is_state_lem i s h e)

      -- A free state's value at a later step: the row's words modulo 2 ^ w.
      pub free_value : has_next p C (i + 1) ≡ false → (suc j + 1) * row_length p C ≤ length I
          → cells_at (step_at p C S I (suc j)) (i + 1) ≡ mask_words (type_at Y (i + 1)).w (part (free_at p C I (suc j)) (free_place p C (i + 1)) (size (type_at Y (i + 1))))
      free_value g full =
          let w = (type_at Y (i + 1)).w in
          let xs : List ℕ = part (free_at p C I (suc j)) (free_place p C (i + 1)) (size (type_at Y (i + 1))) in
          let lr = laws.length_part I (suc j * row_length p C + input_count p C) (free_count (sources p C)) (omega (arith, next_row (suc j) (row_length p C))) in
          later_value ∙ ap (state_words p false w) (entered_free i s h e j (step_at p C S I j).sts (free_at p C I (suc j)) g (left_long j) (omega arith))
          ∙ settled p w (mask_words w xs) (λ b k. state_small false false w xs refl k)

      -- A driven state's value at a later step: the one that its next's value line, v, has at the step before.
      pub driven_value : (k s' v : ℕ) → k < n → get_or C k Line.unknown ≡ Line.init_or_next false s' (i + 1) v → cells_at (step_at p C S I (suc j)) (i + 1) ≡ cells_at (step_at p C S I j) v
      unfolding step_at step_from
      driven_value k s' v hk ek =
          let w = (type_at Y (i + 1)).w in
          let σ : List ℕ = entered p C j (words_before p C I (start p C S I) j) (free_at p C I j) in
          let ι : List ℕ = inputs_at p C I j in
          let ι' : List ℕ = inputs_at p C I (suc j) in
          let left : List ℕ = (step p false C σ ι).sts in
          let hσ = entered_long p C j _ (free_at p C I j) (words_long j) in
          later_value ∙ ap (state_words p false w) (entered_driven i s h e j left (free_at p C I (suc j)) (is_driven k s' (i + 1) v hk ek) (left_long j))
          ∙ sym (state_value p t n acc left (left_long j) false ι' (i + 1) (is_state_lem i s h e)) ∙ next_value p t n acc k s' (i + 1) v hk ek σ ι ι' hσ
