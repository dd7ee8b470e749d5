-- A walk over more lines keeps what it has. `Ext A B`: B is A after some lines more. `Word A u p w v`: the line p is a word of width w and value v, and where u holds its
-- cone has no input and no state. `Holds A u w ps cs`: the lines ps are such words, of values cs. `States A lo w a qs`: the lines qs, none below lo, are states of one
-- word of width w, their state words being those from a on. Assumes nothing.
use Prim.Native.Nat.{ℕ, zero, suc, ◌+◌, ◌^◌, ◌≤◌, ◌<◌}
use mathlib.Core.Path.{◌≡◌, refl, sym, ap, ◌∙◌, subst⁻¹}
use mathlib.Core.Bool.{Bool, true, false, not, ◌||◌}
use mathlib.Core.List.{List, [], ◌∷◌, ◌++◌}
use native.Mathlib.Nat.{le_refl, le_trans}
use native.Mathlib.Omega.{arith}
use native.Mathlib.Numerals.{add-one}
use lib.Dec.{T, leb}
use lib.ListN.{length, get_or, length-append, get_or-append}
use lib.Seq.{get_or_at}
use Rattle.tables.specs.declared.Role.{Role}
use Rattle.tables.specs.declared.Ty.{Ty}
use Rattle.tables.specs.Lines.{Line}
use Rattle.tables.specs.Types.{rank, ty, no_ty, marked, value_role, given_by}
use Rattle.tables.proofs.Kept.{no_yes}
use Rattle.tables.proofs.Values.{role_least, role_mark}
use Rattle.tables.proofs.Facts.{IsWord, IsWordSort, AllOk}
use Rattle.circuits.specs.Layout.{type_at, place_at, size, line_type_in, place_of, lay_all}
use Rattle.circuits.specs.Meaning.{Frame, cells_at, word_at, cells_of, eval_line, eval_all}
use Rattle.circuits.proofs.Laid.{grew}

pub length_snoc {ℓ} : {A : Type ℓ} (xs : List A) (x : A) → length (xs ++ (x ∷ [])) ≡ suc (length xs)
length_snoc xs x = length-append xs (x ∷ []) ∙ add-one (length xs)

-- every list of a walk has an entry for each line
pub record Even (A : Frame) : Type 0 where
  pub types : length A.lay.ctx.tys ≡ length A.env
  pub places : length A.lay.places ≡ length A.env

pub record Ext (A B : Frame) : Type 0 where
  pub type : (p : ℕ) → p < length A.env → type_at B.lay p ≡ type_at A.lay p
  pub place : (p : ℕ) → p < length A.env → place_at B.lay p ≡ place_at A.lay p
  pub cells : (p : ℕ) → p < length A.env → cells_at B p ≡ cells_at A p
  pub len : length A.env ≤ length B.env
  pub states : A.lay.counts.states ≤ B.lay.counts.states
  pub even : Even B

pub ext_refl : {A : Frame} → Even A → Ext A A
ext_refl {A} ev =
    record { type = λ p h. refl; place = λ p h. refl; cells = λ p h. refl; len = le_refl (length A.env); states = le_refl A.lay.counts.states; even = ev }

pub ext_trans : {A B C : Frame} → Ext A B → Ext B C → Ext A C
ext_trans x y =
    record {
      type = λ p h. y.type p (le_trans h x.len) ∙ x.type p h;
      place = λ p h. y.place p (le_trans h x.len) ∙ x.place p h;
      cells = λ p h. y.cells p (le_trans h x.len) ∙ x.cells p h;
      len = le_trans x.len y.len;
      states = le_trans x.states y.states;
      even = y.even;
    }

-- ---- what is known of a line

pub record SortAt (A : Frame) (p w : ℕ) : Type 0 where
  pub inb : p < length A.env
  pub is : rank (type_at A.lay p).role ≡ 1
  pub wide : (type_at A.lay p).w ≡ w
  pub flat : (type_at A.lay p).iw ≡ 0

pub record Word (A : Frame) (u : Bool) (p w v : ℕ) : Type 0 where
  pub inb : p < length A.env
  pub is : 2 ≤ rank (type_at A.lay p).role
  pub flat : (type_at A.lay p).iw ≡ 0
  pub wide : (type_at A.lay p).w ≡ w
  pub cells : cells_at A p ≡ v ∷ []
  pub unmarked : T u → T (not (marked (type_at A.lay p)))

pub data Holds (A : Frame) (u : Bool) (w : ℕ) : List ℕ → List ℕ → Type 0 where
  none : Holds A u w [] []
  more : {p c : ℕ} {ps cs : List ℕ} → Word A u p w c → Holds A u w ps cs → Holds A u w (p ∷ ps) (c ∷ cs)

pub record StateAt (A : Frame) (lo a w p : ℕ) : Type 0 where
  pub inb : p < length A.env
  pub is : rank (type_at A.lay p).role ≡ 4
  pub flat : (type_at A.lay p).iw ≡ 0
  pub wide : (type_at A.lay p).w ≡ w
  pub at : place_at A.lay p ≡ a
  pub low : lo ≤ p
  pub room : a < A.lay.counts.states

pub data States (A : Frame) (lo w : ℕ) : ℕ → List ℕ → Type 0 where
  none : {a : ℕ} → States A lo w a []
  more : {a p : ℕ} {ps : List ℕ} → StateAt A lo a w p → States A lo w (suc a) ps → States A lo w a (p ∷ ps)

-- ---- it stays so

pub sort_ext : {A B : Frame} {p w : ℕ} → Ext A B → SortAt A p w → SortAt B p w
sort_ext {p = p} x h =
    let e = x.type p h.inb in
    record {
      inb = le_trans h.inb x.len;
      is = ap (λ (t : Ty). rank t.role) e ∙ h.is;
      wide = ap (λ (t : Ty). t.w) e ∙ h.wide;
      flat = ap (λ (t : Ty). t.iw) e ∙ h.flat;
    }

pub word_ext : {u : Bool} {A B : Frame} {p w v : ℕ} → Ext A B → Word A u p w v → Word B u p w v
word_ext {p = p} x h =
    let e = x.type p h.inb in
    record {
      inb = le_trans h.inb x.len;
      is = subst⁻¹ (λ (t : Ty). 2 ≤ rank t.role) e h.is;
      flat = ap (λ (t : Ty). t.iw) e ∙ h.flat;
      wide = ap (λ (t : Ty). t.w) e ∙ h.wide;
      cells = x.cells p h.inb ∙ h.cells;
      unmarked = λ z. subst⁻¹ (λ (t : Ty). T (not (marked t))) e (h.unmarked z);
    }

pub holds_ext : {u : Bool} {A B : Frame} {w : ℕ} {ps cs : List ℕ} → Ext A B → Holds A u w ps cs → Holds B u w ps cs
holds_ext x none = none
holds_ext x (more h r) = more (word_ext x h) (holds_ext x r)

pub state_ext : {A B : Frame} {lo a w p : ℕ} → Ext A B → StateAt A lo a w p → StateAt B lo a w p
state_ext {p = p} x h =
    let e = x.type p h.inb in
    record {
      inb = le_trans h.inb x.len;
      is = ap (λ (t : Ty). rank t.role) e ∙ h.is;
      flat = ap (λ (t : Ty). t.iw) e ∙ h.flat;
      wide = ap (λ (t : Ty). t.w) e ∙ h.wide;
      at = x.place p h.inb ∙ h.at;
      low = h.low;
      room = le_trans h.room x.states;
    }

pub states_ext : {A B : Frame} {lo w a : ℕ} {ps : List ℕ} → Ext A B → States A lo w a ps → States B lo w a ps
states_ext x none = none
states_ext x (more h r) = more (state_ext x h) (states_ext x r)

-- ---- and what follows

pub sort_ok : {A : Frame} {p w : ℕ} → SortAt A p w → IsWordSort (type_at A.lay p)
sort_ok h = record { is = h.is; flat = h.flat }

pub word_ok : {u : Bool} {A : Frame} {p w v : ℕ} → Word A u p w v → IsWord (type_at A.lay p)
word_ok h = record { is = h.is; flat = h.flat }

pub word_val : {u : Bool} {A : Frame} {p w v : ℕ} → Word A u p w v → word_at A p ≡ v
word_val h = ap (λ (l : List ℕ). get_or l 0 0) h.cells

pub holds_head : {u : Bool} {A : Frame} {w : ℕ} {p c : ℕ} {ps cs : List ℕ} → Holds A u w (p ∷ ps) (c ∷ cs) → Word A u p w c
holds_head (more h r) = h

pub holds_tail : {u : Bool} {A : Frame} {w : ℕ} {p c : ℕ} {ps cs : List ℕ} → Holds A u w (p ∷ ps) (c ∷ cs) → Holds A u w ps cs
holds_tail (more h r) = r

pub holds_length : {u : Bool} {A : Frame} {w : ℕ} {ps cs : List ℕ} → Holds A u w ps cs → length ps ≡ length cs
holds_length none = refl
holds_length (more h r) = ap suc (holds_length r)

pub holds_at : {u : Bool} {A : Frame} {w : ℕ} {ps cs : List ℕ} (j : ℕ) → Holds A u w ps cs → j < length cs → Word A u (get_or ps j 0) w (get_or cs j 0)
holds_at j none h = absurd (omega arith)
holds_at zero (more x r) h = x
holds_at (suc j) (more x r) h = holds_at j r (omega arith)

-- less is known to be unmarked
pub word_weak : {A : Frame} {u u' : Bool} {p w v : ℕ} → (T u → T u') → Word A u' p w v → Word A u p w v
word_weak f h = record { inb = h.inb; is = h.is; flat = h.flat; wide = h.wide; cells = h.cells; unmarked = λ z. h.unmarked (f z) }

pub holds_weak : {A : Frame} {u u' : Bool} {w : ℕ} {ps cs : List ℕ} → (T u → T u') → Holds A u' w ps cs → Holds A u w ps cs
holds_weak f none = none
holds_weak f (more h r) = more (word_weak f h) (holds_weak f r)

-- the state words of states are among those so far
pub states_room : {A : Frame} {lo w a : ℕ} {ps : List ℕ} → States A lo w a ps → 0 < length ps → a + length ps ≤ A.lay.counts.states
states_room none h = absurd (omega arith)
states_room (more s none) h = let r = s.room in omega arith
states_room (more s (more q r)) h = let k = states_room (more q r) (omega arith) in omega arith

-- neither of two marks is set
pub unmarked_each : (a b : Bool) → T (not (a || b)) → T (not a) × T (not b)
unmarked_each true b h = absurd h
unmarked_each false b h = (tt, h)

pub unmarked_both : (a b : Bool) → T (not a) → T (not b) → T (not (a || b))
unmarked_both true b x y = absurd x
unmarked_both false b x y = y

-- each cell is a word of width w
abbrev pub Small : ℕ → List ℕ → Type 0
Small w [] = Unit {0}
Small w (c ∷ cs) = (c < 2 ^ w) × Small w cs

-- ---- lines that only have a value

-- two walks leave the same
pub record Alike (A B : Frame) : Type 0 where
  pub states : B.lay.counts.states ≡ A.lay.counts.states
  pub inputs : B.lay.counts.inputs ≡ A.lay.counts.inputs
  pub signals : B.lay.counts.signals ≡ A.lay.counts.signals
  pub sts : B.sts ≡ A.sts
  pub sigs : B.sigs ≡ A.sigs

pub alike_refl : {A : Frame} → Alike A A
alike_refl = record { states = refl; inputs = refl; signals = refl; sts = refl; sigs = refl }

pub alike_trans : {A B C : Frame} → Alike A B → Alike B C → Alike A C
alike_trans x y =
    record {
      states = y.states ∙ x.states;
      inputs = y.inputs ∙ x.inputs;
      signals = y.signals ∙ x.signals;
      sts = y.sts ∙ x.sts;
      sigs = y.sigs ∙ x.sigs;
    }

pub alike_sym : {A B : Frame} → Alike A B → Alike B A
alike_sym x = record { states = sym x.states; inputs = sym x.inputs; signals = sym x.signals; sts = sym x.sts; sigs = sym x.sigs }

abbrev pub quiet : Line → Bool
quiet (Line.bitvec w) = true
quiet (Line.array i e) = true
quiet (Line.input s) = false
quiet (Line.state s) = false
quiet (Line.value s x) = true
quiet (Line.init_or_next m s q v) = false
quiet (Line.signal m a) = false
quiet (Line.output a) = true
quiet Line.unknown = true

pub record Grew (A B : Frame) : Type 0 where
  pub ext : Ext A B
  pub alike : Alike A B
  pub gave : (m : Bool) → given_by m B.lay.ctx ≡ given_by m A.lay.ctx

pub grew_refl : {A : Frame} → Even A → Grew A A
grew_refl ev = record { ext = ext_refl ev; alike = alike_refl; gave = λ m. refl }

pub grew_trans : {A B C : Frame} → Grew A B → Grew B C → Grew A C
grew_trans x y = record { ext = ext_trans x.ext y.ext; alike = alike_trans x.alike y.alike; gave = λ m. y.gave m ∙ x.gave m }

-- only init and next lines are given to states
abbrev pub gives : Line → Bool
gives (Line.bitvec w) = false
gives (Line.array i e) = false
gives (Line.input s) = false
gives (Line.state s) = false
gives (Line.value s x) = false
gives (Line.init_or_next m s q v) = true
gives (Line.signal m a) = false
gives (Line.output a) = false
gives Line.unknown = false

pub quiet_gives : (l : Line) → T (quiet l) → gives l ≡ false
quiet_gives (Line.bitvec w) t = refl
quiet_gives (Line.array i e) t = refl
quiet_gives (Line.input s) t = refl
quiet_gives (Line.state s) t = refl
quiet_gives (Line.value s x) t = refl
quiet_gives (Line.init_or_next m s q v) t = absurd t
quiet_gives (Line.signal m a) t = refl
quiet_gives (Line.output a) t = refl
quiet_gives Line.unknown t = refl

module _ (f : Bool) (σ ι : List ℕ) where
  abbrev pub ev1 : Frame → Line → Frame
  ev1 A l = eval_line false f σ ι A l

  abbrev pub evs : Frame → List Line → Frame
  evs A ls = eval_all false f σ ι A ls

  pub evs_append : (A : Frame) (xs ys : List Line) → evs A (xs ++ ys) ≡ evs (evs A xs) ys
  evs_append A [] ys = refl
  evs_append A (l ∷ xs) ys = evs_append (ev1 A l) xs ys

  pub len1 : (A : Frame) (l : Line) → length (ev1 A l).env ≡ suc (length A.env)
  len1 A l = length_snoc A.env (cells_of false f σ ι A l)

  pub len_all : (A : Frame) (ls : List Line) → length (evs A ls).env ≡ length A.env + length ls
  len_all A [] = omega arith
  len_all A (l ∷ ls) = omega (arith, len_all (ev1 A l) ls, len1 A l)

  pub ext_line : {A : Frame} → Even A → (l : Line) → Ext A (ev1 A l)
  ext_line {A} ev l =
      record {
        type = λ p h. get_or-append A.lay.ctx.tys (line_type_in false A.lay l ∷ []) no_ty p (omega (arith, ev.types));
        place = λ p h. get_or-append A.lay.places (place_of A.lay l ∷ []) 0 p (omega (arith, ev.places));
        cells = λ p h. get_or-append A.env (cells_of false f σ ι A l ∷ []) [] p h;
        len = omega (arith, len1 A l);
        states = (grew A.lay.counts (size (line_type_in false A.lay l)) l).states;
        even =
            record {
              types = length_snoc A.lay.ctx.tys (line_type_in false A.lay l) ∙ ap suc ev.types ∙ sym (len1 A l);
              places = length_snoc A.lay.places (place_of A.lay l) ∙ ap suc ev.places ∙ sym (len1 A l);
            };
      }

  pub ext_all : {A : Frame} → Even A → (ls : List Line) → Ext A (evs A ls)
  ext_all ev [] = ext_refl ev
  ext_all {A} ev (l ∷ ls) = ext_trans (ext_line ev l) (ext_all {A = ev1 A l} (ext_line ev l).even ls)

  -- the places of lines depend on no value
  pub evs_lay : (A : Frame) (ls : List Line) → (evs A ls).lay ≡ lay_all false A.lay ls
  evs_lay A [] = refl
  evs_lay A (l ∷ ls) = evs_lay (ev1 A l) ls

  pub states_all : (A : Frame) (ls : List Line) → A.lay.counts.states ≤ (evs A ls).lay.counts.states
  states_all A [] = le_refl A.lay.counts.states
  states_all A (l ∷ ls) = le_trans (grew A.lay.counts (size (line_type_in false A.lay l)) l).states (states_all (ev1 A l) ls)

  -- the line that has just been evaluated
  pub new_type : {A : Frame} → Even A → (l : Line) (b : ℕ) → b ≡ length A.env → type_at (ev1 A l).lay b ≡ line_type_in false A.lay l
  new_type {A} ev l b e = get_or_at A.lay.ctx.tys (line_type_in false A.lay l) [] no_ty b (ev.types ∙ sym e)

  pub new_place : {A : Frame} → Even A → (l : Line) (b : ℕ) → b ≡ length A.env → place_at (ev1 A l).lay b ≡ place_of A.lay l
  new_place {A} ev l b e = get_or_at A.lay.places (place_of A.lay l) [] 0 b (ev.places ∙ sym e)

  pub new_cells : {A : Frame} → Even A → (l : Line) (b : ℕ) → b ≡ length A.env → cells_at (ev1 A l) b ≡ cells_of false f σ ι A l
  new_cells {A} ev l b e = get_or_at A.env (cells_of false f σ ι A l) [] [] b (sym e)

  -- it is a word, of the sort line s
  pub new_word : {A : Frame} {u : Bool} {b s w v : ℕ} {c : Role} → Even A → (l : Line) → b ≡ length A.env → SortAt A s w
      → line_type_in false A.lay l ≡ ty c (type_at A.lay s).iw (type_at A.lay s).w → cells_of false f σ ι A l ≡ v ∷ [] → 2 ≤ rank c → (T u → T (not (leb 3 (rank c)))) → Word (ev1 A l) u b w v
  new_word {A} {b = b} ev l e hs ht hc hv hu =
      let h = new_type ev l b e ∙ ht in
      record {
        inb = omega (arith, len1 A l);
        is = subst⁻¹ (λ (t : Ty). 2 ≤ rank t.role) h hv;
        flat = ap (λ (t : Ty). t.iw) h ∙ hs.flat;
        wide = ap (λ (t : Ty). t.w) h ∙ hs.wide;
        cells = new_cells ev l b e ∙ hc;
        unmarked = λ z. subst⁻¹ (λ (t : Ty). T (not (marked t))) h (hu z);
      }

  -- the same of a line that computes: x is its mark
  pub new_val : {A : Frame} {u : Bool} {b s w v : ℕ} (x : Bool) → Even A → (l : Line) → b ≡ length A.env → SortAt A s w
      → line_type_in false A.lay l ≡ ty (value_role x) (type_at A.lay s).iw (type_at A.lay s).w → cells_of false f σ ι A l ≡ v ∷ [] → (T u → T (not x)) → Word (ev1 A l) u b w v
  new_val x ev l e hs ht hc hu = new_word ev l e hs ht hc (role_least x) (λ z. subst⁻¹ (λ (m : Bool). T (not m)) (role_mark x) (hu z))

  -- ---- accepted lines

  pub ok_append : (A : Frame) (xs ys : List Line) → AllOk false A.lay.ctx xs → AllOk false (evs A xs).lay.ctx ys → AllOk false A.lay.ctx (xs ++ ys)
  ok_append A [] ys h k = k
  ok_append A (l ∷ xs) ys h k = (h.0, ok_append (ev1 A l) xs ys h.1 k)

  quiet_alike : (A : Frame) (l : Line) → T (quiet l) → Alike A (ev1 A l)
  quiet_alike A (Line.bitvec w) t = record { states = refl; inputs = refl; signals = refl; sts = refl; sigs = refl }
  quiet_alike A (Line.array i e) t = record { states = refl; inputs = refl; signals = refl; sts = refl; sigs = refl }
  quiet_alike A (Line.input s) t = absurd t
  quiet_alike A (Line.state s) t = absurd t
  quiet_alike A (Line.value s x) t = record { states = refl; inputs = refl; signals = refl; sts = refl; sigs = refl }
  quiet_alike A (Line.init_or_next m s q v) t = absurd t
  quiet_alike A (Line.signal m a) t = absurd t
  quiet_alike A (Line.output a) t = record { states = refl; inputs = refl; signals = refl; sts = refl; sigs = refl }
  quiet_alike A Line.unknown t = record { states = refl; inputs = refl; signals = refl; sts = refl; sigs = refl }

  pub gave_same : (A : Frame) (l : Line) → gives l ≡ false → (m : Bool) → given_by m (ev1 A l).lay.ctx ≡ given_by m A.lay.ctx
  gave_same A (Line.bitvec w) t true = refl
  gave_same A (Line.bitvec w) t false = refl
  gave_same A (Line.array i e) t true = refl
  gave_same A (Line.array i e) t false = refl
  gave_same A (Line.input s) t true = refl
  gave_same A (Line.input s) t false = refl
  gave_same A (Line.state s) t true = refl
  gave_same A (Line.state s) t false = refl
  gave_same A (Line.value s x) t true = refl
  gave_same A (Line.value s x) t false = refl
  gave_same A (Line.init_or_next n s q v) t m = absurd (no_yes (sym t))
  gave_same A (Line.signal n a) t true = refl
  gave_same A (Line.signal n a) t false = refl
  gave_same A (Line.output a) t true = refl
  gave_same A (Line.output a) t false = refl
  gave_same A Line.unknown t true = refl
  gave_same A Line.unknown t false = refl

  pub grew_line : {A : Frame} → Even A → (l : Line) → T (quiet l) → Grew A (ev1 A l)
  grew_line {A} ev l t = record { ext = ext_line ev l; alike = quiet_alike A l t; gave = gave_same A l (quiet_gives l t) }
