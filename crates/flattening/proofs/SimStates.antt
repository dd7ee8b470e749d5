-- A state, an init or a next: the circuit's walk over it and the flat circuit's walk over its chunk keep `Inv`. Assumes nothing.
use Prim.Native.Nat.{ℕ, zero, suc, ◌+◌, ◌^◌, ◌≤◌, ◌<◌}
use mathlib.Core.Path.{◌≡◌, refl, sym, ap, ap₂, ◌∙◌, subst, subst⁻¹}
use mathlib.Core.Logic.{◌≢◌}
use mathlib.Core.Bool.{Bool, true, false, not, ◌||◌}
use mathlib.Core.Option.{none as nothing}
use mathlib.Core.List.{List, [], ◌∷◌, ◌++◌}
use native.Mathlib.Nat.{le_refl, le_trans}
use native.Mathlib.Omega.{arith}
use native.Mathlib.Decide.{dec_lt}
use lib.Dec.{T}
use lib.Pow.{pow_pos}
use lib.ListN.{length, get_or, replicate, length-append, length-replicate}
use borrow.Author.Tests.{eq-eqb, ne_eqb}
use Rattle.tables.specs.declared.Ty.{Ty}
use Rattle.tables.specs.Pick.{pick, among, alike}
use Rattle.tables.specs.Lines.{state, init_or_next}
use Rattle.tables.specs.Types.{rank, marked, ty_at, given, given_by}
use Rattle.tables.specs.Rules.{value_index}
use Rattle.tables.specs.Layout.{from}
use Rattle.tables.proofs.Laws.{or_true}
use Rattle.tables.proofs.Showing.{by_place, among_join, earlier}
use Rattle.tables.proofs.Facts.{OkLine, OkValue}
use Rattle.tables.proofs.Ids.{from_at, length_from}
use Rattle.circuits.specs.Cells.{part, put}
use Rattle.circuits.specs.Layout.{type_at, place_at, size}
use Rattle.circuits.specs.Meaning.{Frame, cells_at, word_at, state_cells, given_words}
use Rattle.flattening.specs.Flat.{Info, no_info, info_at, lines_at, line_at, value_info, chunk, value_lines, init_or_next_lines}
use Rattle.flattening.proofs.Walk.{Holds, States, Small, none, more, ext_refl, holds_length, states_room, ev1, evs, len1, gave_same, holds_at}
use Rattle.flattening.proofs.CellLaws.{taken, lows_taken, state_lows, length_taken, small_taken, holds_replicate}
use Rattle.flattening.proofs.Stores.{length_stored}
use Rattle.flattening.proofs.Effects.{Fresh, Under, Inits, Gives, among_one, run_states, run_gives, gave_init_next}
use Rattle.flattening.proofs.Rel.{SortRel, ValRel, Inv, sortrel_ext, sort_of_value, rel_none, word_for, cells_for, extend, same_given}
use Rattle.flattening.proofs.SimWords.{Keeps}

-- ---- lists of lines, and lines in them

not_among : (p : ℕ) (qs : List ℕ) → ((i : ℕ) → i < length qs → get_or qs i 0 ≢ p) → among p qs ≡ false
not_among p [] h = refl
not_among p (q ∷ qs) h = rw (ne_eqb p q (λ e. h 0 (omega arith) (sym e))) (not_among p qs (λ i l. h (suc i) (omega arith)))

fresh_all : (d qs : List ℕ) → ((j : ℕ) → j < length qs → among (get_or qs j 0) d ≡ false) → Fresh d qs
fresh_all d [] h = tt
fresh_all d (q ∷ qs) h = (h 0 (omega arith), fresh_all d qs (λ j l. h (suc j) (omega arith)))

under_all : (lo n v : ℕ) → v < lo → Under lo (replicate n v)
under_all lo zero v h = tt
under_all lo (suc n) v h = (h, under_all lo n v h)

among_at : (qs : List ℕ) (j : ℕ) → j < length qs → among (get_or qs j 0) qs ≡ true
among_at [] j h = absurd (omega arith)
among_at (q ∷ qs) zero h = rw (eq-eqb q q refl)
among_at (q ∷ qs) (suc j) h = rw (among_at qs j (omega arith), or_true)

-- in a list that ys are put behind, or not
among_pick : (c : Bool) (xs ys : List ℕ) (x : ℕ) → among x (pick c (xs ++ ys) xs) ≡ pick c (among x xs || among x ys) (among x xs)
among_pick true xs ys x = among_join x xs ys
among_pick false xs ys x = refl

nowhere : (c : Bool) {x y : Bool} → x ≡ false → y ≡ false → pick c (x || y) x ≡ false
nowhere true e d = rw (e, d)
nowhere false e d = e

states_low : {A : Frame} {lo w a : ℕ} {qs : List ℕ} → States A lo w a qs → (j : ℕ) → j < length qs → lo ≤ get_or qs j 0
states_low none j h = absurd (omega arith)
states_low (more s r) zero h = s.low
states_low (more s r) (suc j) h = states_low r j (omega arith)

-- every flat line that holds a cell is one of the flat walk's
pub held_below : {A B : Frame} {I : List Info} → Inv A B I → (i : ℕ) → 2 ≤ rank (type_at A.lay i).role → (j : ℕ) → j < length (lines_at I i) → get_or (lines_at I i) j 0 < length B.env
held_below v i h j l = let r = (v.rel i).value h in (holds_at j r.held (subst (λ (n : ℕ). j < n) (holds_length r.held) l)).inb

-- ---- a value that an init or a next gives

record GivenRel (B : Frame) (u m : Bool) (lo w : ℕ) (qs vs cs : List ℕ) : Type 0 where
  held : Holds B u w vs cs
  len : length qs ≡ length vs
  inits : Inits m u lo vs

given_rel : {A B : Frame} {I : List Info} {lo n : ℕ} (v : Inv A B I) (m : Bool) (t : Ty) (q a : ℕ) (qs : List ℕ) → length qs ≡ n → 2 ^ t.iw ≡ n → OkValue m q a (type_at A.lay a)
    → (type_at A.lay a).w ≡ t.w → (type_at A.lay a).iw ≡ value_index m t → (a < q → line_at I a < lo)
    → GivenRel B (not (marked (type_at A.lay a))) m lo t.w qs (value_lines I m (length qs) a) (given_words A m n a)
given_rel {A} {B} {I} {lo} {n} v true t q a qs e d k ew ei h =
    let c = word_at A a in
    let p = line_at I a in
    record {
      held =
          subst (λ (x : ℕ). Holds B (not (marked (type_at A.lay a))) t.w (replicate (length qs) p) (replicate x c)) e
          (holds_replicate (length qs) (word_for v a k.word (λ z. z) ew));
      len = sym (length-replicate (length qs) p);
      inits = (subst⁻¹ T (ap not k.unmarked) tt, under_all lo (length qs) p (h k.below));
    }
given_rel {A} {B} {I} v false t q a qs e d k ew ei h =
    let r = (v.rel a).value k.is in
    record {
      held = cells_for r (λ z. z) ew;
      len = e ∙ sym d ∙ ap (λ (i : ℕ). 2 ^ i) (sym ei) ∙ sym r.len ∙ sym (holds_length r.held);
      inits = tt;
    }

module _ (f : Bool) (σ ι : List ℕ) where
  pub sim_state : {A B : Frame} {I : List Info} {b : ℕ} (s : ℕ) → Inv A B I → b ≡ length B.env → OkLine false (ty_at A.lay.ctx) (given A.lay.ctx) (state s)
      → (ev1 f σ ι A (state s)).lay.counts.states ≤ length σ → Keeps f σ ι A B I (state s) (chunk I b (state s))
  sim_state {A} {B} {I} {b} s v e k room =
      let t = type_at A.lay s in
      let g = info_at I s in
      let a = A.lay.counts.states in
      let n = 2 ^ t.iw in
      let rs = (v.rel s).sort k.is in
      let pos : 0 < g.size = subst⁻¹ (λ (x : ℕ). 0 < x) rs.size (pow_pos t.iw) in
      let r = run_states f σ ι {lo = b} g.size (le_refl b) (ext_refl v.even_b) e rs.elem (omega (arith, v.alike.states, rs.size)) in
      let B' = evs f σ ι B (replicate g.size (state g.elem)) in
      let et : taken σ B.lay.counts.states g.size t.w ≡ taken σ a n t.w = ap₂ (λ (x y : ℕ). taken σ x y t.w) v.alike.states rs.size in
      let ec : taken σ a n t.w ≡ state_cells false f σ A (state s) = sym (state_lows f t.w (part σ a n) ∙ lows_taken σ a n t.w room) in
      let first : get_or (from b g.size) 0 0 ≡ b = from_at b g.size 0 pos ∙ omega arith in
      record {
        inv =
            extend f σ ι (state s) (value_info g (from b g.size) nothing) v r.left.ext
            (record {
              states = r.left.states ∙ ap₂ (λ (x y : ℕ). x + y) v.alike.states rs.size;
              inputs = r.left.inputs ∙ v.alike.inputs;
              signals = r.left.signals ∙ v.alike.signals;
              sts = r.left.sts ∙ ap₂ (λ (x y : List ℕ). x ++ y) v.alike.sts (et ∙ ec);
              sigs = r.left.sigs ∙ v.alike.sigs;
            })
            (length-append A.sts (state_cells false f σ A (state s)) ∙ ap₂ (λ (x y : ℕ). x + y) v.many (sym (ap length ec) ∙ length_taken σ a n t.w))
            (record {
              sort = λ z. absurd (omega arith);
              value =
                  λ z.
                  record {
                    sort = sort_of_value (sortrel_ext r.left.ext rs);
                    held = subst (λ (cs : List ℕ). Holds B' false t.w (from b g.size) cs) (et ∙ ec) r.holds;
                    len = sym (ap length ec) ∙ length_taken σ a n t.w;
                    small = subst (Small t.w) ec (small_taken σ a n t.w);
                    known = tt;
                    states =
                        λ z.
                        subst⁻¹ (λ (lo : ℕ). States B' lo t.w a (from b g.size)) first
                        (subst (λ (x : ℕ). States B' b t.w x (from b g.size)) v.alike.states r.places);
                  };
            })
            (λ z.
            record {
              below = λ i h j l. subst⁻¹ (λ (x : ℕ). get_or (lines_at I i) j 0 < x) (first ∙ e) (held_below v i h j l);
              same =
                  λ m j l.
                  let h : j < g.size = subst (λ (x : ℕ). j < x) (length_from b g.size) l in
                  ap (among (get_or (from b g.size) j 0)) (r.gave m) ∙ v.ahead_b m (get_or (from b g.size) j 0) (omega (arith, from_at b g.size j h))
                  ∙ sym (ap (among (length A.env)) (gave_same f σ ι A (state s) refl m) ∙ v.ahead_a m (length A.env) (le_refl (length A.env)));
            })
            (same_given f σ ι (state s) refl v r.left.ext.len r.gave);
        ok = r.left.ok;
      }

  pub sim_init_next : {A B : Frame} {I : List Info} {b : ℕ} (m : Bool) (s q a : ℕ) → Inv A B I → b ≡ length B.env → OkLine false (ty_at A.lay.ctx) (given A.lay.ctx) (init_or_next m s q a)
      → Keeps f σ ι A B I (init_or_next m s q a) (chunk I b (init_or_next m s q a))
  sim_init_next {A} {B} {I} m s q a v e k =
      record {
        inv =
            extend f σ ι (init_or_next m s q a) no_info v r.left.ext
            (record {
              states = r.left.states ∙ v.alike.states;
              inputs = r.left.inputs ∙ v.alike.inputs;
              signals = r.left.signals ∙ v.alike.signals;
              sts = r.left.sts ∙ ap (λ (x : List ℕ). pick (alike f m) (put x at cs) x) v.alike.sts;
              sigs = r.left.sigs ∙ v.alike.sigs;
            })
            (length_stored (alike f m) A.sts at cs (omega (arith, room, holds_length gr.held, gr.len, v.many)) ∙ v.many)
            rel_none (λ z. absurd (omega arith))
            (record {
              same = λ n p h j l. gave_B n (get_or (lines_at I p) j 0) ∙ ap₂ (λ (x y : Bool). pick (alike n m) (x || y) x) (v.same n p h j l) (named p h j l) ∙ sym (gave_A n p);
              ahead_a = λ n p h. gave_A n p ∙ nowhere (alike n m) (v.ahead_a n p (omega (arith, len1 f σ ι A (init_or_next m s q a)))) (among_one p q (λ z. omega (arith, len1 f σ ι A (init_or_next m s q a), in_a)));
              ahead_b = λ n p h. gave_B n p ∙ nowhere (alike n m) (v.ahead_b n p (le_trans r.left.ext.len h)) (not_among p qs (λ i l z. let x = held_below v q is i l in let y = r.left.ext.len in omega arith));
            });
        ok = r.left.ok;
      }
    where
      t : Ty
      t = type_at A.lay s

      at : ℕ
      at = place_at A.lay q

      qs : List ℕ
      qs = lines_at I q

      is : 2 ≤ rank (type_at A.lay q).role
      is = let h : rank (type_at A.lay q).role ≡ 4 = k.state in omega arith

      rs : SortRel B t (info_at I s)
      rs = (v.rel s).sort k.sort.is

      rq : ValRel B (type_at A.lay q) at (cells_at A q) (info_at I q)
      rq = (v.rel q).value is

      n : ℕ
      n = size (type_at A.lay q)

      many : length qs ≡ n
      many = holds_length rq.held ∙ rq.len

      pos : 0 < length qs
      pos = subst⁻¹ (λ (x : ℕ). 0 < x) many (pow_pos (type_at A.lay q).iw)

      places : States B (line_at I q) t.w at qs
      places = subst (λ (w : ℕ). States B (line_at I q) w at qs) k.same.w (rq.states k.state)

      cs : List ℕ
      cs = given_words A m n a

      value : (m : Bool) → OkValue m q a (type_at A.lay a) → 2 ≤ rank (type_at A.lay a).role
      value true h = h.word.is
      value false h = h.is

      before : a < q → line_at I a < line_at I q
      before h =
          let ra = (v.rel a).value (value m k.value) in
          v.below q k.state a h (value m k.value) 0 (omega (arith, holds_length ra.held, ra.len, pow_pos (type_at A.lay a).iw))

      gr : GivenRel B (not (marked (type_at A.lay a))) m (line_at I q) t.w qs (value_lines I m (length qs) a) cs
      gr = given_rel v m t q a qs many (ap (λ (i : ℕ). 2 ^ i) (sym k.same.iw)) k.value k.w k.iw before

      room : at + length qs ≤ length A.sts
      room = let h = states_room places pos in omega (arith, h, v.many, v.alike.states)

      r : Gives f σ ι B m (init_or_next_lines m (info_at I s).elem qs (value_lines I m (length qs) a)) qs (pick (alike f m) (put B.sts at cs) B.sts)
      r =
          run_gives f σ ι m (ext_refl v.even_b) rs.elem places gr.held gr.len gr.inits (fresh_all (given_by m B.lay.ctx) qs (λ j l. v.same m q k.state j l ∙ k.once))
          (subst⁻¹ (λ (x : List ℕ). at + length qs ≤ length x) v.alike.sts room)

      B' : Frame
      B' = evs f σ ι B (init_or_next_lines m (info_at I s).elem qs (value_lines I m (length qs) a))

      -- the lines of another state are not those of q
      apart : (p : ℕ) → rank (type_at A.lay p).role ≡ 4 → p ≢ q → (j : ℕ) → j < length (lines_at I p) → among (get_or (lines_at I p) j 0) qs ≡ false
      apart p h d j l = not_among (get_or (lines_at I p) j 0) qs (λ i g. by_order (dec_lt p q) i g)
        where
          val_p : 2 ≤ rank (type_at A.lay p).role
          val_p = omega arith

          by_order : Dec (p < q) → (i : ℕ) → i < length qs → get_or qs i 0 ≢ get_or (lines_at I p) j 0
          by_order (yes o) i g z = let x = v.below q k.state p o val_p j l in let y = states_low places i g in omega arith
          by_order (no o) i g z =
              let x = v.below p h q (omega arith) is i g in
              let y = states_low (((v.rel p).value val_p).states h) j l in
              omega arith

      -- the lines of q hold those of no other state
      named : (p : ℕ) → rank (type_at A.lay p).role ≡ 4 → (j : ℕ) → j < length (lines_at I p) → among (get_or (lines_at I p) j 0) qs ≡ among p (q ∷ [])
      named p h j l =
          by_place p q
          (λ e. subst (λ (x : ℕ). among (get_or (lines_at I p) j 0) (lines_at I x) ≡ true) e (among_at (lines_at I p) j l) ∙ sym (rw (eq-eqb p q e)))
          (λ d. apart p h d j l ∙ sym (among_one p q d))

      in_a : q < length A.env
      in_a = subst (λ (x : ℕ). q < x) v.even_a.types (earlier A.lay.ctx.tys q (omega arith))

      gave_A : (n : Bool) (p : ℕ) → given (ev1 f σ ι A (init_or_next m s q a)).lay.ctx n p ≡ pick (alike n m) (given A.lay.ctx n p || among p (q ∷ [])) (given A.lay.ctx n p)
      gave_A n p = ap (among p) (gave_init_next f σ ι A m s q a n) ∙ among_pick (alike n m) (given_by n A.lay.ctx) (q ∷ []) p

      gave_B : (n : Bool) (p : ℕ) → given B'.lay.ctx n p ≡ pick (alike n m) (given B.lay.ctx n p || among p qs) (given B.lay.ctx n p)
      gave_B n p = ap (among p) (r.gave n) ∙ among_pick (alike n m) (given_by n B.lay.ctx) qs p
