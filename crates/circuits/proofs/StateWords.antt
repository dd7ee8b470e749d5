-- Which line gives a state its words, in a walk over lines that keep the rules: the words of a state are those that its own line found, until an init line (as a run starts) or a next line
-- (at a step) stores others, and no second one does. Assumes nothing.
use Prim.Native.Nat.{ℕ, zero, suc, ◌+◌, ◌^◌, ◌≤◌, ◌<◌}
use mathlib.Core.Path.{◌≡◌, refl, sym, ap, ap₂, ◌∙◌, subst}
use mathlib.Core.Logic.{◌⊎◌, inl, inr, ⊎_elim}
use mathlib.Core.Bool.{Bool, true, false, ◌||◌}
use mathlib.Core.List.{List, [], ◌∷◌, ◌++◌}
use native.Mathlib.Omega.{arith}
use lib.Dec.{eqb}
use lib.ListN.{length, take, drop, get_or, replicate, length-drop, length-replicate}
use lib.Seq.{get_or_at, drop_at, take_all, take-append-le, drop-append-le}
use borrow.Author.Tests.{eqb-false}
use Rattle.tables.specs.declared.Ty.{Ty}
use Rattle.tables.specs.Pick.{pick, among, alike}
use Rattle.tables.specs.Lines.{Line}
use Rattle.tables.specs.Types.{rank, ty_at, given}
use Rattle.tables.proofs.Laws.{or_true}
use Rattle.tables.proofs.Kept.{neither}
use Rattle.tables.proofs.Showing.{by_place, snoc_other, earlier}
use Rattle.tables.proofs.Facts.{OkValue}
use Rattle.circuits.specs.Cells.{part, put}
use Rattle.circuits.specs.Layout.{Layout, type_at, place_at, size, line_type_in, place_of, no_layout, lay}
use Rattle.circuits.specs.Meaning.{state_words, Frame, cells_at, word_at, given_words, cells_of, states_after, eval_line, eval_all, no_frame}
use Rattle.circuits.proofs.Puts as laws
use Rattle.circuits.proofs.Laid.{not_four, type_new, place_new, type_old, place_old, more_types, later}
use Rattle.circuits.proofs.Simulation.{state_length}
use Rattle.circuits.proofs.Walked.{acc_lay}
use Rattle.circuits.proofs.Earlier.{cells_kept_lem}
use Rattle.tables.proofs.GivenStates.{gives_to, given_more, gives_none, same_flag, given_once}
use Rattle.circuits.proofs.Sizes.{Walking, walk_line, states_many, cells_size}

-- the words of the state on the line q, among the state words
abbrev pub words_of_state : Layout → List ℕ → (q : ℕ) → List ℕ
words_of_state Y σ q = part σ (place_at Y q) (size (type_at Y q))

-- ---- what is known of the states so far

-- words of a later state stand behind those of an earlier one
abbrev Rising : Layout → Type 0
Rising Y = (x q : ℕ) → rank (type_at Y x).role ≡ 4 → rank (type_at Y q).role ≡ 4 → x < q → place_at Y x + size (type_at Y x) ≤ place_at Y q

pub record States (p f : Bool) (σ : List ℕ) (A : Frame) : Type 0 where
  pub rising : Rising A.lay
  -- the cells of a state's line are its words as the walk found them
  pub own : (q : ℕ) → rank (type_at A.lay q).role ≡ 4 → cells_at A q ≡ state_words p f (type_at A.lay q).w (words_of_state A.lay σ q)
  -- and these are its words where it has been given no others
  pub kept : (q : ℕ) → rank (type_at A.lay q).role ≡ 4 → given A.lay.ctx f q ≡ false → words_of_state A.lay A.sts q ≡ cells_at A q

apart : (Y : Layout) → Rising Y → (x q : ℕ) → rank (type_at Y x).role ≡ 4 → rank (type_at Y q).role ≡ 4 → (x ≡ q → ⊥)
    → (place_at Y q + size (type_at Y q) ≤ place_at Y x) ⊎ (place_at Y x + size (type_at Y x) ≤ place_at Y q)
apart Y r x q sx sq n = ⊎_elim (λ h. inr (r x q sx sq h)) (λ h. inl (r q x sq sx (omega (arith, n)))) (laws.lt_or_ge x q)

pub part_front : (xs ys : List ℕ) (a m : ℕ) → a + m ≤ length xs → part (xs ++ ys) a m ≡ part xs a m
part_front xs ys a m h = ap (take m) (drop-append-le a xs ys (omega arith)) ∙ take-append-le m (drop a xs) ys (omega (arith, length-drop a xs))

-- ---- a line gives one state words, and leaves those of the others

module _ {p : Bool} {all : ℕ} {σ : List ℕ} (A : Frame) where
  -- an init or a next gives a state as many words as it has
  given_size : (m : Bool) (s x v : ℕ) (D : List Line) → Walking p all σ A (Line.init_or_next m s x v ∷ D) → length (given_words A m (size (type_at A.lay x)) v) ≡ size (type_at A.lay x)
  given_size true s x v D k = length-replicate (size (type_at A.lay x)) (word_at A v)
  given_size false s x v D k = let ok = k.ok.0 in cells_size k v ok.value.is ∙ ap (λ (n : ℕ). 2 ^ n) (ok.iw ∙ sym ok.same.iw)

  room : {C : List Line} → Walking p all σ A C → (q : ℕ) → rank (type_at A.lay q).role ≡ 4 → place_at A.lay q + size (type_at A.lay q) ≤ length A.sts
  room k q s = omega (arith, k.held.sound.room q s, states_many k)

  module _ (f : Bool) (r : Rising A.lay) (q : ℕ) (sq : rank (type_at A.lay q).role ≡ 4) where
    stored : (m : Bool) (s x v : ℕ) (D : List Line) → Walking p all σ A (Line.init_or_next m s x v ∷ D) → (b : Bool) → among q (pick b (x ∷ []) []) ≡ false
        → words_of_state A.lay (pick b (put A.sts (place_at A.lay x) (given_words A m (size (type_at A.lay x)) v)) A.sts) q ≡ words_of_state A.lay A.sts q
    stored m s x v D k false n = refl
    stored m s x v D k true n =
        let ok = k.ok.0 in
        let e = given_size m s x v D k in
        let ne : x ≡ q → ⊥ = λ z. eqb-false q x (neither (eqb q x) false n).0 (sym z) in
        laws.put_apart A.sts (place_at A.lay x) (given_words A m (size (type_at A.lay x)) v) (omega (arith, room k x ok.state)) (place_at A.lay q) (size (type_at A.lay q)) (room k q sq)
        (⊎_elim (λ h. inl h) (λ h. inr (omega arith)) (apart A.lay r x q ok.state sq ne))

    stays : (l : Line) (D : List Line) → Walking p all σ A (l ∷ D) → among q (gives_to f l) ≡ false → words_of_state A.lay (states_after p f σ A l) q ≡ words_of_state A.lay A.sts q
    stays (Line.bitvec w) D k n = refl
    stays (Line.array i e) D k n = refl
    stays (Line.input s) D k n = refl
    stays (Line.state s) D k n = part_front A.sts _ (place_at A.lay q) (size (type_at A.lay q)) (room k q sq)
    stays (Line.value s e) D k n = refl
    stays (Line.init_or_next m s x v) D k n = stored m s x v D k (alike f m) n
    stays (Line.signal m a) D k n = refl
    stays (Line.output a) D k n = refl
    stays Line.unknown D k n = refl

-- ---- one line more

-- a line of a state's role: its words come behind all others, and its cells are the words that it found
record Fresh (p f : Bool) (σ ι : List ℕ) (A : Frame) (l : Line) : Type 0 where
  place : place_of A.lay l ≡ A.lay.counts.states
  own : cells_of p f σ ι A l ≡ state_words p f (line_type_in p A.lay l).w (part σ (place_of A.lay l) (size (line_type_in p A.lay l)))
  words : part (states_after p f σ A l) (place_of A.lay l) (size (line_type_in p A.lay l)) ≡ cells_of p f σ ι A l

module _ (p f : Bool) (σ ι : List ℕ) {all : ℕ} (A : Frame) where
  fresh : (l : Line) (D : List Line) → Walking p all σ A (l ∷ D) → rank (line_type_in p A.lay l).role ≡ 4 → Fresh p f σ ι A l
  fresh (Line.bitvec w) D k e = absurd (omega arith)
  fresh (Line.array i x) D k e = absurd (omega arith)
  fresh (Line.input s) D k e = absurd (omega arith)
  fresh (Line.state s) D k e =
      let t = line_type_in p A.lay (Line.state s) in
      let n = A.lay.counts.states in
      let vs : List ℕ = state_words p f t.w (part σ n (size t)) in
      let lv : length vs ≡ size t = state_length p f t.w (part σ n (size t)) ∙ laws.length_part σ n (size t) (omega (arith, (later p (lay p A.lay (Line.state s)) D).states, k.states)) in
      record { place = refl; own = refl; words = ap (take (size t)) (drop_at A.sts vs n (states_many k)) ∙ take_all (size t) vs (omega arith) }
  fresh (Line.value s x) D k e = absurd (not_four p (ty_at A.lay.ctx) s x e)
  fresh (Line.init_or_next m s q v) D k e = absurd (omega arith)
  fresh (Line.signal m a) D k e = absurd (omega arith)
  fresh (Line.output a) D k e = absurd (omega arith)
  fresh Line.unknown D k e = absurd (omega arith)

  module _ (l : Line) (D : List Line) (k : Walking p all σ A (l ∷ D)) where
    long : length A.lay.places ≡ length A.lay.ctx.tys
    long = k.held.sound.long

    -- the line's own cells, and those of an earlier line
    cells_new : cells_at (eval_line p f σ ι A l) (length A.lay.ctx.tys) ≡ cells_of p f σ ι A l
    cells_new = get_or_at A.env (cells_of p f σ ι A l) [] [] (length A.lay.ctx.tys) k.held.holds.lines

    cells_old : (a : ℕ) → (a ≡ length A.lay.ctx.tys → ⊥) → cells_at (eval_line p f σ ι A l) a ≡ cells_at A a
    cells_old a n = snoc_other A.env (cells_of p f σ ι A l) [] a (λ e. n (e ∙ k.held.holds.lines))

    words_new : (xs : List ℕ) → words_of_state (lay p A.lay l) xs (length A.lay.ctx.tys) ≡ part xs (place_of A.lay l) (size (line_type_in p A.lay l))
    words_new xs = ap₂ (λ (a : ℕ) (t : Ty). part xs a (size t)) (place_new p A.lay l long) (type_new p A.lay l long)

    words_old : (q : ℕ) → (q ≡ length A.lay.ctx.tys → ⊥) → (xs : List ℕ) → words_of_state (lay p A.lay l) xs q ≡ words_of_state A.lay xs q
    words_old q n xs = ap₂ (λ (a : ℕ) (t : Ty). part xs a (size t)) (place_old p A.lay l long q n) (type_old p A.lay l long q n)

    role_new : rank (type_at (lay p A.lay l) (length A.lay.ctx.tys)).role ≡ rank (line_type_in p A.lay l).role
    role_new = ap (λ (t : Ty). rank t.role) (type_new p A.lay l long)

    role_old : (q : ℕ) → (q ≡ length A.lay.ctx.tys → ⊥) → rank (type_at (lay p A.lay l) q).role ≡ rank (type_at A.lay q).role
    role_old q n = ap (λ (t : Ty). rank t.role) (type_old p A.lay l long q n)

    pub states_line : States p f σ A → States p f σ (eval_line p f σ ι A l)
    states_line S =
        record {
          rising = λ x q sx sq lt.
              let nx : x ≡ length A.lay.ctx.tys → ⊥ = λ e. let h = earlier (lay p A.lay l).ctx.tys q (omega arith) in omega (arith, more_types p A.lay l) in
              let sx' : rank (type_at A.lay x).role ≡ 4 = sym (role_old x nx) ∙ sx in
              let px = place_old p A.lay l long x nx in
              let tx = ap size (type_old p A.lay l long x nx) in
              by_place q (length A.lay.ctx.tys)
              (λ e.
              let sq' = subst (λ (n : ℕ). rank (type_at (lay p A.lay l) n).role ≡ 4) e sq in
              let pq : place_at (lay p A.lay l) q ≡ A.lay.counts.states = ap (place_at (lay p A.lay l)) e ∙ place_new p A.lay l long ∙ (fresh l D k (sym role_new ∙ sq')).place in
              omega (arith, k.held.sound.room x sx'))
              (λ n. let pq = place_old p A.lay l long q n in omega (arith, S.rising x q sx' (sym (role_old q n) ∙ sq) lt));
          own = λ q.
              by_place q (length A.lay.ctx.tys)
              (λ e. subst (λ (n : ℕ). rank (type_at (lay p A.lay l) n).role ≡ 4 → cells_at (eval_line p f σ ι A l) n ≡ state_words p f (type_at (lay p A.lay l) n).w (words_of_state (lay p A.lay l) σ n)) (sym e)
              (λ s. cells_new ∙ (fresh l D k (sym role_new ∙ s)).own ∙ sym (ap₂ (λ (t : Ty) (xs : List ℕ). state_words p f t.w xs) (type_new p A.lay l long) (words_new σ))))
              (λ n s. cells_old q n ∙ S.own q (sym (role_old q n) ∙ s) ∙ sym (ap₂ (λ (t : Ty) (xs : List ℕ). state_words p f t.w xs) (type_old p A.lay l long q n) (words_old q n σ)));
          kept = λ q.
              by_place q (length A.lay.ctx.tys)
              (λ e. subst (λ (n : ℕ). rank (type_at (lay p A.lay l) n).role ≡ 4 → given (lay p A.lay l).ctx f n ≡ false → words_of_state (lay p A.lay l) (states_after p f σ A l) n ≡ cells_at (eval_line p f σ ι A l) n) (sym e)
              (λ s g. words_new (states_after p f σ A l) ∙ (fresh l D k (sym role_new ∙ s)).words ∙ sym cells_new))
              (λ n s g.
              let h = neither _ _ (sym (given_more p f A.lay.ctx l q) ∙ g) in
              let s' : rank (type_at A.lay q).role ≡ 4 = sym (role_old q n) ∙ s in
              words_old q n (states_after p f σ A l) ∙ stays A f S.rising q s' l D k h.1 ∙ S.kept q s' h.0 ∙ sym (cells_old q n));
        }

-- ---- all lines

given_as : (f : Bool) (A B : Frame) (m n v : ℕ) → cells_at A v ≡ cells_at B v → m ≡ n → given_words A f m v ≡ given_words B f n v
given_as true A B m n v e h = ap₂ (λ (k : ℕ) (xs : List ℕ). replicate k (get_or xs 0 0)) h e
given_as false A B m n v e h = e

value_role_lem : (f : Bool) (q v : ℕ) (t : Ty) → OkValue f q v t → 2 ≤ rank t.role
value_role_lem true q v t k = k.word.is
value_role_lem false q v t k = k.is

module _ (p f : Bool) (σ ι : List ℕ) {all : ℕ} where
  -- later lines leave the words that a state has been given
  later_keeps : (A : Frame) (D : List Line) → Walking p all σ A D → States p f σ A → (q : ℕ) → rank (type_at A.lay q).role ≡ 4 → given A.lay.ctx f q ≡ true
      → words_of_state (eval_all p f σ ι A D).lay (eval_all p f σ ι A D).sts q ≡ words_of_state A.lay A.sts q
  later_keeps A [] k S q s g = refl
  later_keeps A (l ∷ D) k S q s g =
      let n : q ≡ length A.lay.ctx.tys → ⊥ = λ e. let h = earlier A.lay.ctx.tys q (omega arith) in omega arith in
      later_keeps (eval_line p f σ ι A l) D (walk_line p f σ ι A l D k) (states_line p f σ ι A l D k S) q (role_old p f σ ι A l D k q n ∙ s)
      (given_more p f A.lay.ctx l q ∙ ap (λ (b : Bool). b || among q (gives_to f l)) g)
      ∙ words_old p f σ ι A l D k q n (states_after p f σ A l) ∙ stays A f S.rising q s l D k (gives_none p f A.lay.ctx q g l k.ok.0)

  gives_here : (A : Frame) (s q v : ℕ) (D : List Line) → Walking p all σ A (Line.init_or_next f s q v ∷ D) → States p f σ A
      → words_of_state (eval_all p f σ ι A (Line.init_or_next f s q v ∷ D)).lay (eval_all p f σ ι A (Line.init_or_next f s q v ∷ D)).sts q
      ≡ given_words (eval_all p f σ ι A (Line.init_or_next f s q v ∷ D)) f (size (type_at (eval_all p f σ ι A (Line.init_or_next f s q v ∷ D)).lay q)) v
  gives_here A s q v D k S =
      let l = Line.init_or_next f s q v in
      let ok = k.ok.0 in
      let B = eval_line p f σ ι A l in
      let sq : rank (type_at A.lay q).role ≡ 4 = ok.state in
      let hq = earlier A.lay.ctx.tys q (omega arith) in
      let hv = earlier A.lay.ctx.tys v (omega (arith, value_role_lem f q v (type_at A.lay v) ok.value)) in
      let n : q ≡ length A.lay.ctx.tys → ⊥ = λ e. omega arith in
      let vs : List ℕ = given_words A f (size (type_at A.lay q)) v in
      let lv = given_size A f s q v D k in
      let tq = ap (λ (Y : Layout). type_at Y q) (acc_lay p f σ ι A (l ∷ D)) ∙ (later p A.lay (l ∷ D)).type q hq in
      later_keeps B D (walk_line p f σ ι A l D k) (states_line p f σ ι A l D k S) q (role_old p f σ ι A l D k q n ∙ sq)
      (given_more p f A.lay.ctx l q ∙ ap (λ (b : Bool). given A.lay.ctx f q || b) (given_once f q (alike f f) refl) ∙ or_true (given A.lay.ctx f q))
      ∙ words_old p f σ ι A l D k q n (states_after p f σ A l)
      ∙ ap (λ (b : Bool). words_of_state A.lay (pick b (put A.sts (place_at A.lay q) vs) A.sts) q) (same_flag f)
      ∙ laws.self A.sts (place_at A.lay q) (size (type_at A.lay q)) vs lv (room A k q sq)
      ∙ sym (given_as f (eval_all p f σ ι A (l ∷ D)) A _ _ v (cells_kept_lem p f σ ι A (l ∷ D) v (omega (arith, k.held.holds.lines))) (ap size tq))

  -- at the end a state has the words that its init or next line, at the place i, gives it
  pub gives_words : (A : Frame) (C : List Line) → Walking p all σ A C → States p f σ A → (i s q v : ℕ) → i < length C → get_or C i Line.unknown ≡ Line.init_or_next f s q v
      → words_of_state (eval_all p f σ ι A C).lay (eval_all p f σ ι A C).sts q ≡ given_words (eval_all p f σ ι A C) f (size (type_at (eval_all p f σ ι A C).lay q)) v
  gives_words A [] k S i s q v h e = absurd (omega arith)
  gives_words A (l ∷ C) k S zero s q v h e =
      subst (λ (x : Line). words_of_state (eval_all p f σ ι A (x ∷ C)).lay (eval_all p f σ ι A (x ∷ C)).sts q ≡ given_words (eval_all p f σ ι A (x ∷ C)) f (size (type_at (eval_all p f σ ι A (x ∷ C)).lay q)) v) (sym e)
      (gives_here A s q v C (subst (λ (x : Line). Walking p all σ A (x ∷ C)) e k) S)
  gives_words A (l ∷ C) k S (suc i) s q v h e = gives_words (eval_line p f σ ι A l) C (walk_line p f σ ι A l C k) (states_line p f σ ι A l C k S) i s q v (omega arith) e

no_states : (a : ℕ) → rank (type_at no_layout a).role ≡ 4 → ⊥
no_states zero e = omega arith
no_states (suc a) e = omega arith

pub states_none : (p f : Bool) (σ : List ℕ) → States p f σ no_frame
states_none p f σ = record { rising = λ x q s. absurd (no_states x s); own = λ q s. absurd (no_states q s); kept = λ q s. absurd (no_states q s) }
