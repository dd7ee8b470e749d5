-- The flat lines of a state, and of an init or a next, evaluated: these change what a step leaves. Assumes nothing.
use Prim.Native.Nat.{ℕ, zero, suc, ◌+◌, ◌%◌, ◌^◌, ◌≤◌, ◌<◌}
use mathlib.Core.Path.{◌≡◌, refl, sym, ap, ap₂, ◌∙◌, subst, subst⁻¹}
use mathlib.Core.Logic.{◌≢◌}
use mathlib.Core.Bool.{Bool, true, false}
use mathlib.Core.List.{List, [], ◌∷◌, ◌++◌, append_assoc, append-nil}
use native.Mathlib.Nat.{le_trans}
use native.Mathlib.Omega.{arith}
use lib.Dec.{T}
use lib.ListN.{length, get_or, replicate}
use borrow.Author.Tests.{ne_eqb}
use Rattle.tables.specs.declared.Ty.{Ty}
use Rattle.tables.specs.Pick.{pick, among, alike}
use Rattle.tables.specs.Lines.{Line, state, init_or_next}
use Rattle.tables.specs.Types.{rank, given_by}
use Rattle.tables.specs.Rules.{value_index}
use Rattle.tables.specs.Layout.{from}
use Rattle.tables.proofs.Laws.{not_of_lem}
use Rattle.tables.proofs.Showing.{among_join}
use Rattle.tables.proofs.Facts.{OkValue, AllOk}
use Rattle.circuits.specs.Cells.{mask_words, part, put}
use Rattle.circuits.specs.Layout.{type_at, place_at, size}
use Rattle.circuits.specs.Meaning.{Frame, state_cells, given_words}
use Rattle.flattening.specs.Flat.{init_or_next_lines}
use Rattle.flattening.proofs.Walk.{Even, Ext, ext_refl, ext_trans, SortAt, Word, Holds, StateAt, States, none, more, sort_ext, word_ext, word_val, word_ok, state_ext, ev1, evs, len1, ext_line, new_type, new_place, new_word, gave_same}
use Rattle.flattening.proofs.CellLaws.{taken, lows_taken, state_lows}
use Rattle.flattening.proofs.Stores.{stored_none, stored_more, length_stored}

-- ---- states that have not been given a line

abbrev pub Fresh : List ℕ → List ℕ → Type 0
Fresh d [] = Unit {0}
Fresh d (q ∷ qs) = (among q d ≡ false) × Fresh d qs

among_append : (x : ℕ) (d e : List ℕ) → among x d ≡ false → among x e ≡ false → among x (d ++ e) ≡ false
among_append x d e h k = among_join x d e ∙ rw (h, k) refl

pub among_one : (x q : ℕ) → x ≢ q → among x (q ∷ []) ≡ false
among_one x q n = rw (ne_eqb x q n)

-- a state and those whose state words come after its own are different lines
fresh_more : {O : Frame} {lo w a k q : ℕ} {qs : List ℕ} (d : List ℕ) → StateAt O lo a w q → States O lo w k qs → a < k → Fresh d qs → Fresh (d ++ (q ∷ [])) qs
fresh_more d s none h g = tt
fresh_more {O} {a = a} {k} {q} d s (more {p = p} t r) h g =
    let differ : p ≢ q = λ e. let z : k ≡ a = sym t.at ∙ ap (place_at O.lay) e ∙ s.at in omega arith in
    (among_append p d (q ∷ []) g.0 (among_one p q differ), fresh_more d s r (omega arith) g.1)

-- ---- what an init or a next is given

abbrev pub Under : ℕ → List ℕ → Type 0
Under lo [] = Unit {0}
Under lo (v ∷ vs) = (v < lo) × Under lo vs

-- an init's values are unmarked and stand before the states
abbrev pub Inits : Bool → Bool → ℕ → List ℕ → Type 0
Inits true u lo vs = T u × Under lo vs
Inits false u lo vs = Unit {0}

inits_tail : (m u : Bool) (lo v : ℕ) (vs : List ℕ) → Inits m u lo (v ∷ vs) → Inits m u lo vs
inits_tail true u lo v vs h = (h.0, h.1.1)
inits_tail false u lo v vs h = tt

init_next_value : {A : Frame} {u : Bool} {w c lo q v : ℕ} (m : Bool) (vs : List ℕ) → Inits m u lo (v ∷ vs) → Word A u v w c → lo ≤ q → OkValue m q v (type_at A.lay v)
init_next_value {A} {v = v} true vs i h l = record { word = word_ok h; below = le_trans i.1.0 l; unmarked = not_of_lem _ (h.unmarked i.0) }
init_next_value false vs i h l = record { is = h.is }

value_index_lem : (m : Bool) (t : Ty) → t.iw ≡ 0 → 0 ≡ value_index m t
value_index_lem true t e = refl
value_index_lem false t e = sym e

one_given : {A : Frame} {u : Bool} {w c v : ℕ} (m : Bool) → Word A u v w c → given_words A m 1 v ≡ c ∷ []
one_given true h = ap (λ (x : ℕ). x ∷ []) (word_val h)
one_given false h = h.cells

gave_none : (b : Bool) (d : List ℕ) → d ≡ pick b (d ++ []) d
gave_none true d = sym (append-nil d)
gave_none false d = refl

gave_more : (b : Bool) (d : List ℕ) (q : ℕ) (qs : List ℕ) → pick b (pick b (d ++ (q ∷ [])) d ++ qs) (pick b (d ++ (q ∷ [])) d) ≡ pick b (d ++ (q ∷ qs)) d
gave_more true d q qs = append_assoc d (q ∷ []) qs
gave_more false d q qs = refl

pub alike_self : (m : Bool) → alike m m ≡ true
alike_self true = refl
alike_self false = refl

module _ (f : Bool) (σ ι : List ℕ) where
  -- after the lines ls, which keep the rules, there are k state words so far, and these are the words that they leave
  pub record Left (A : Frame) (ls : List Line) (k : ℕ) (ws : List ℕ) : Type 0 where
    pub ext : Ext A (evs f σ ι A ls)
    pub states : (evs f σ ι A ls).lay.counts.states ≡ k
    pub inputs : (evs f σ ι A ls).lay.counts.inputs ≡ A.lay.counts.inputs
    pub signals : (evs f σ ι A ls).lay.counts.signals ≡ A.lay.counts.signals
    pub sts : (evs f σ ι A ls).sts ≡ ws
    pub sigs : (evs f σ ι A ls).sigs ≡ A.sigs
    pub ok : AllOk false A.lay.ctx ls

  -- ---- states

  pub record StatesRun (A : Frame) (ls : List Line) (lo b n w : ℕ) (cs : List ℕ) : Type 0 where
    pub left : Left A ls (A.lay.counts.states + n) (A.sts ++ cs)
    pub gave : (m : Bool) → given_by m (evs f σ ι A ls).lay.ctx ≡ given_by m A.lay.ctx
    pub holds : Holds (evs f σ ι A ls) false w (from b n) cs
    pub places : States (evs f σ ι A ls) lo w A.lay.counts.states (from b n)

  state_cells_lem : {A : Frame} {s w : ℕ} → SortAt A s w → A.lay.counts.states < length σ → state_cells false f σ A (state s) ≡ get_or σ A.lay.counts.states 0 % 2 ^ w ∷ []
  state_cells_lem {A} {s} {w} hs h =
      let a = A.lay.counts.states in
      let t = type_at A.lay s in
      state_lows f t.w (part σ a (size t)) ∙ ap₂ (λ (x i : ℕ). mask_words x (part σ a (2 ^ i))) hs.wide hs.flat ∙ lows_taken σ a 1 w (omega arith)

  state_place : {A : Frame} {lo b s w : ℕ} → lo ≤ b → Even A → b ≡ length A.env → SortAt A s w → StateAt (ev1 f σ ι A (state s)) lo A.lay.counts.states w b
  state_place {A} {lo} {b} {s} g ev e hs =
      let h = new_type f σ ι ev (state s) b e in
      record {
        inb = omega (arith, len1 f σ ι A (state s));
        is = ap (λ (t : Ty). rank t.role) h;
        flat = ap (λ (t : Ty). t.iw) h ∙ hs.flat;
        wide = ap (λ (t : Ty). t.w) h ∙ hs.wide;
        at = new_place f σ ι ev (state s) b e;
        low = g;
        room = rw hs.flat (omega arith);
      }

  pub run_states : {O A : Frame} {lo b s w : ℕ} (n : ℕ) → lo ≤ b → Ext O A → b ≡ length A.env → SortAt O s w → A.lay.counts.states + n ≤ length σ
      → StatesRun A (replicate n (state s)) lo b n w (taken σ A.lay.counts.states n w)
  run_states {A = A} zero g x e hs r =
      record {
        left =
            record {
              ext = ext_refl x.even;
              states = omega arith;
              inputs = refl;
              signals = refl;
              sts = sym (append-nil A.sts);
              sigs = refl;
              ok = tt;
            };
        gave = λ m. refl;
        holds = none;
        places = none;
      }
  run_states {A = A} {lo} {b} {s} {w} (suc n) g x e hs r =
      let l = state s in
      let a = A.lay.counts.states in
      let y = ext_line f σ ι x.even l in
      let h_a = sort_ext x hs in
      let c = get_or σ a 0 % 2 ^ w in
      let cell = state_cells_lem h_a (omega arith) in
      let one : (ev1 f σ ι A l).lay.counts.states ≡ suc a = rw h_a.flat (omega arith) in
      let z = run_states {A = ev1 f σ ι A l} {lo = lo} {b = suc b} n (omega arith) (ext_trans x y) (ap suc e ∙ sym (len1 f σ ι A l)) hs (omega arith) in
      record {
        left =
            record {
              ext = ext_trans y z.left.ext;
              states = omega (arith, z.left.states);
              inputs = z.left.inputs;
              signals = z.left.signals;
              sts =
                  z.left.sts ∙ ap₂ (λ (X : List ℕ) (k : ℕ). (A.sts ++ X) ++ taken σ k n w) cell one ∙ append_assoc A.sts (c ∷ []) (taken σ (suc a) n w);
              sigs = z.left.sigs;
              ok = (record { is = h_a.is }, z.left.ok);
            };
        gave = λ m. z.gave m ∙ gave_same f σ ι A l refl m;
        holds =
            more (word_ext z.left.ext (new_word f σ ι x.even l e h_a refl cell (omega arith) (λ q. absurd q)))
            (subst (λ (k : ℕ). Holds (evs f σ ι (ev1 f σ ι A l) (replicate n l)) false w (from (suc b) n) (taken σ k n w)) one z.holds);
        places =
            more (state_ext z.left.ext (state_place g x.even e h_a))
            (subst (λ (k : ℕ). States (evs f σ ι (ev1 f σ ι A l) (replicate n l)) lo w k (from (suc b) n)) one z.places);
      }

  -- ---- init and next

  pub record Gives (A : Frame) (m : Bool) (ls : List Line) (qs ws : List ℕ) : Type 0 where
    pub left : Left A ls A.lay.counts.states ws
    pub gave : (n : Bool) → given_by n (evs f σ ι A ls).lay.ctx ≡ pick (alike n m) (given_by n A.lay.ctx ++ qs) (given_by n A.lay.ctx)

  pub gave_init_next : (A : Frame) (m : Bool) (s q v : ℕ) (n : Bool)
      → given_by n (ev1 f σ ι A (init_or_next m s q v)).lay.ctx ≡ pick (alike n m) (given_by n A.lay.ctx ++ (q ∷ [])) (given_by n A.lay.ctx)
  gave_init_next A m s q v true = refl
  gave_init_next A m s q v false = refl

  pub run_gives : {O : Frame} {lo w : ℕ} {u : Bool} {A : Frame} {a s : ℕ} {qs vs cs : List ℕ} (m : Bool) → Ext O A → SortAt O s w → States O lo w a qs → Holds O u w vs cs → length qs ≡ length vs
      → Inits m u lo vs → Fresh (given_by m A.lay.ctx) qs → a + length qs ≤ length A.sts
      → Gives A m (init_or_next_lines m s qs vs) qs (pick (alike f m) (put A.sts a cs) A.sts)
  run_gives {A = A} {a = a} m x hs none none n i g r =
      record {
        left =
            record { ext = ext_refl x.even; states = refl; inputs = refl; signals = refl; sts = stored_none (alike f m) A.sts a; sigs = refl; ok = tt };
        gave = λ k. gave_none (alike k m) (given_by k A.lay.ctx);
      }
  run_gives m x hs none (more h t) n i g r = absurd (omega arith)
  run_gives m x hs (more p ps) none n i g r = absurd (omega arith)
  run_gives {lo = lo} {w} {u} {A} {a} {s} m x hs (more {p = q} {ps = qs} p ps) (more {p = v} {c = c} {ps = vs} {cs = cs} h t) n i g r =
      let l = init_or_next m s q v in
      let y = ext_line f σ ι x.even l in
      let h_a = sort_ext x hs in
      let pA = state_ext x p in
      let vA = word_ext x h in
      let b = alike f m in
      let d = given_by m A.lay.ctx in
      let new : (ev1 f σ ι A l).sts ≡ pick b (put A.sts a (c ∷ [])) A.sts = rw (pA.at, pA.flat) (ap (λ (X : List ℕ). pick b (put A.sts a X) A.sts) (one_given m vA)) in
      let added : given_by m (ev1 f σ ι A l).lay.ctx ≡ d ++ (q ∷ []) = gave_init_next A m s q v m ∙ ap (λ (k : Bool). pick k (d ++ (q ∷ [])) d) (alike_self m) in
      let many : length (ev1 f σ ι A l).sts ≡ length A.sts = ap length new ∙ length_stored b A.sts a (c ∷ []) (omega arith) in
      let z = run_gives {A = ev1 f σ ι A l} m (ext_trans x y) hs ps t (omega arith) (inits_tail m u lo v vs i)
      (subst⁻¹ (λ (X : List ℕ). Fresh X qs) added (fresh_more d p ps (omega arith) g.1)) (omega arith) in
      record {
        left =
            record {
              ext = ext_trans y z.left.ext;
              states = z.left.states;
              inputs = z.left.inputs;
              signals = z.left.signals;
              sts = z.left.sts ∙ ap (λ (X : List ℕ). pick b (put X (suc a) cs) X) new ∙ stored_more b A.sts a c cs (omega arith);
              sigs = z.left.sigs;
              ok = (
                record {
                  sort = record { is = h_a.is };
                  state = pA.is;
                  same = record { iw = pA.flat ∙ sym h_a.flat; w = pA.wide ∙ sym h_a.wide };
                  value = init_next_value m vs i vA pA.low;
                  iw = vA.flat ∙ value_index_lem m (type_at A.lay s) h_a.flat;
                  w = vA.wide ∙ sym h_a.wide;
                  once = g.0;
                },
                z.left.ok,
              );
            };
        gave = λ k. z.gave k ∙ ap (λ (X : List ℕ). pick (alike k m) (X ++ qs) X) (gave_init_next A m s q v k) ∙ gave_more (alike k m) (given_by k A.lay.ctx) q qs;
      }
