-- How a circuit's walk A and its flat circuit's walk B go together (`Inv`): what they leave is the same, and what is kept of each line in I names the flat lines that hold
-- its sort, its index constants and its cells (`Rel`). Assumes nothing.
use Prim.Native.Nat.{ℕ, suc, ◌^◌, ◌≤◌, ◌<◌}
use mathlib.Core.Path.{◌≡◌, refl, sym, ap, ◌∙◌, subst, subst⁻¹}
use mathlib.Core.Bool.{Bool, true, false, not}
use mathlib.Core.Option.{Option, none, some}
use mathlib.Core.List.{List, [], ◌∷◌, ◌++◌}
use native.Mathlib.Nat.{le_trans}
use native.Mathlib.Omega.{arith}
use native.Mathlib.Decide.{dec_lt}
use lib.Dec.{T}
use lib.ListN.{length, get_or, get_or-append, get_or-eq_default}
use lib.Seq.{get_or_at}
use Rattle.words.specs.Word.{Width}
use Rattle.tables.specs.declared.Role.{Role}
use Rattle.tables.specs.declared.Role.TheVariants.{Sort}
use Rattle.tables.specs.declared.Ty.{Ty}
use Rattle.tables.specs.Pick.{among}
use Rattle.tables.specs.Lines.{Line}
use Rattle.tables.specs.Types.{rank, ty, no_ty, marked, value_role, given_by, given}
use Rattle.tables.specs.Layout.{from}
use Rattle.tables.proofs.Values.{role_least, role_most, role_mark, val_most}
use Rattle.tables.proofs.Facts.{IsWord}
use Rattle.circuits.specs.Layout.{type_at, place_at, line_type_in, place_of}
use Rattle.circuits.specs.Meaning.{Frame, cells_at, word_at, cells_of}
use Rattle.flattening.specs.Flat.{Info, no_info, info_at, lines_at, line_at, value_info}
use Rattle.flattening.proofs.Walk as W
use Rattle.flattening.proofs.Walk.{Even, Ext, SortAt, Word, Holds, States, Small, Alike, alike_trans, alike_sym, sort_ext, holds_ext, word_weak, holds_weak, states_ext, ev1, ext_line, length_snoc, Grew, quiet, gives, quiet_gives, gave_same, grew_line, len1, new_type, new_place, new_cells, holds_at}
use Rattle.flattening.proofs.CellLaws.{small_at}

pub record ArrRel (B : Frame) (t : Ty) (f : Info) : Type 0 where
  pub bit : SortAt B f.bit 1
  pub index : Holds B true t.iw f.index (from 0 (2 ^ t.iw))

pub record SortRel (B : Frame) (t : Ty) (f : Info) : Type 0 where
  pub elem : SortAt B f.elem t.w
  pub size : f.size ≡ 2 ^ t.iw
  pub wide : f.width ≡ t.w
  pub width : Width t.w
  pub arr : 0 < t.iw → ArrRel B t f

-- a line whose Info names a number is a word of that value
abbrev pub KnownRel : Option ℕ → List ℕ → Type 0
KnownRel none cs = Unit {0}
KnownRel (some k) cs = cs ≡ k ∷ []

pub record ValRel (B : Frame) (t : Ty) (at : ℕ) (cs : List ℕ) (f : Info) : Type 0 where
  pub sort : SortRel B t f
  pub held : Holds B (not (marked t)) t.w f.cells cs
  pub len : length cs ≡ 2 ^ t.iw
  pub small : Small t.w cs
  pub known : KnownRel f.known cs
  pub states : rank t.role ≡ 4 → States B (get_or f.cells 0 0) t.w at f.cells

-- of a line of the type t, whose place is at and whose cells are cs
pub record Rel (B : Frame) (t : Ty) (at : ℕ) (cs : List ℕ) (f : Info) : Type 0 where
  pub sort : rank t.role ≡ 1 → SortRel B t f
  pub value : 2 ≤ rank t.role → ValRel B t at cs f

arr_ext : {B B' : Frame} {t : Ty} {f : Info} → Ext B B' → ArrRel B t f → ArrRel B' t f
arr_ext x r = record { bit = sort_ext x r.bit; index = holds_ext x r.index }

pub sortrel_ext : {B B' : Frame} {t : Ty} {f : Info} → Ext B B' → SortRel B t f → SortRel B' t f
sortrel_ext x r = record { elem = sort_ext x r.elem; size = r.size; wide = r.wide; width = r.width; arr = λ h. arr_ext x (r.arr h) }

valrel_ext : {B B' : Frame} {t : Ty} {at : ℕ} {cs : List ℕ} {f : Info} → Ext B B' → ValRel B t at cs f → ValRel B' t at cs f
valrel_ext x r =
    record {
      sort = sortrel_ext x r.sort;
      held = holds_ext x r.held;
      len = r.len;
      small = r.small;
      known = r.known;
      states = λ s. states_ext x (r.states s);
    }

rel_ext : {B B' : Frame} {t : Ty} {at : ℕ} {cs : List ℕ} {f : Info} → Ext B B' → Rel B t at cs f → Rel B' t at cs f
rel_ext x r = record { sort = λ s. sortrel_ext x (r.sort s); value = λ s. valrel_ext x (r.value s) }

pub rel_none : {B : Frame} {at : ℕ} {cs : List ℕ} {f : Info} → Rel B no_ty at cs f
rel_none = record { sort = λ s. absurd (omega arith); value = λ s. absurd (omega arith) }

pub rel_sort : {B : Frame} {i w at : ℕ} {cs : List ℕ} {f : Info} → SortRel B (ty Sort i w) f → Rel B (ty Sort i w) at cs f
rel_sort r = record { sort = λ s. r; value = λ s. absurd (omega arith) }

-- a value's Info starts as its sort's
pub sort_of_value : {B : Frame} {t : Ty} {f : Info} {c : Role} {ps : List ℕ} {k : Option ℕ} → SortRel B t f → SortRel B (ty c t.iw t.w) (value_info f ps k)
sort_of_value r =
    record { elem = r.elem; size = r.size; wide = r.wide; width = r.width; arr = λ h. record { bit = (r.arr h).bit; index = (r.arr h).index } }

-- ---- a line that computes; x is its mark

pub val_rel : {B : Frame} {t : Ty} {f : Info} {at : ℕ} {cs ps : List ℕ} (x : Bool) (k : Option ℕ) → SortRel B t f → Holds B (not x) t.w ps cs → length cs ≡ 2 ^ t.iw → Small t.w cs
    → KnownRel k cs → Rel B (ty (value_role x) t.iw t.w) at cs (value_info f ps k)
val_rel x k r h n s c =
    record {
      sort = λ e. absurd (omega (arith, role_least x));
      value = λ e. record { sort = sort_of_value r; held = holds_weak (subst (λ (m : Bool). T (not m)) (role_mark x)) h; len = n; small = s; known = c; states = λ e. absurd (omega (arith, role_most x)) };
    }

-- whose sort is a word's
pub word_rel : {B : Frame} {t : Ty} {f : Info} {at p v : ℕ} (x : Bool) (k : Option ℕ) → SortRel B t f → t.iw ≡ 0 → Word B (not x) p t.w v → v < 2 ^ t.w → KnownRel k (v ∷ [])
    → Rel B (ty (value_role x) t.iw t.w) at (v ∷ []) (value_info f (p ∷ []) k)
word_rel x k r e h s c = val_rel x k r (W.more h W.none) (rw e) (s, tt) c

-- ---- all lines

-- no line that is still to come has an init or a next
abbrev pub Ahead : Frame → Type 0
Ahead A = (m : Bool) (p : ℕ) → length A.env ≤ p → given A.lay.ctx m p ≡ false

pub record Inv (A B : Frame) (I : List Info) : Type 0 where
  pub even_a : Even A
  pub even_b : Even B
  pub len_i : length I ≡ length A.env
  pub alike : Alike A B
  pub many : length A.sts ≡ A.lay.counts.states
  pub rel : (i : ℕ) → Rel B (type_at A.lay i) (place_at A.lay i) (cells_at A i) (info_at I i)
  -- what stands before a state is held below the state's lines
  pub below : (q : ℕ) → rank (type_at A.lay q).role ≡ 4 → (i : ℕ) → i < q → 2 ≤ rank (type_at A.lay i).role → (j : ℕ) → j < length (lines_at I i) → get_or (lines_at I i) j 0 < line_at I q
  -- each cell of a state has an init or a next just where the state has one
  pub same : (m : Bool) (q : ℕ) → rank (type_at A.lay q).role ≡ 4 → (j : ℕ) → j < length (lines_at I q) → given B.lay.ctx m (get_or (lines_at I q) j 0) ≡ given A.lay.ctx m q
  pub ahead_a : Ahead A
  pub ahead_b : Ahead B

-- a word of the circuit is held by its flat line
pub word_of : {A B : Frame} {I : List Info} → Inv A B I → (a : ℕ) → IsWord (type_at A.lay a) → Word B (not (marked (type_at A.lay a))) (line_at I a) (type_at A.lay a).w (word_at A a)
word_of v a k = let r = (v.rel a).value k.is in holds_at 0 r.held (omega (arith, rw k.flat at r.len))

-- the same where less is said to be unmarked
pub word_for : {A B : Frame} {I : List Info} {u : Bool} {w : ℕ} → Inv A B I → (a : ℕ) → IsWord (type_at A.lay a) → (T u → T (not (marked (type_at A.lay a)))) → (type_at A.lay a).w ≡ w
    → Word B u (line_at I a) w (word_at A a)
word_for {A} {B} {I} {u} v a k f e = subst (λ (w : ℕ). Word B u (line_at I a) w (word_at A a)) e (word_weak f (word_of v a k))

pub cells_for : {B : Frame} {t : Ty} {at : ℕ} {cs : List ℕ} {f : Info} {u : Bool} {w : ℕ} → ValRel B t at cs f → (T u → T (not (marked t))) → t.w ≡ w → Holds B u w f.cells cs
cells_for {B} {cs = cs} {f = f} {u} r g e = subst (λ (w : ℕ). Holds B u w f.cells cs) e (holds_weak g r.held)

-- a word fits its width
pub word_small : {A B : Frame} {I : List Info} → Inv A B I → (a : ℕ) → 2 ≤ rank (type_at A.lay a).role → word_at A a < 2 ^ (type_at A.lay a).w
word_small {A} v a h = small_at (type_at A.lay a).w (cells_at A a) 0 ((v.rel a).value h).small

-- ---- one more line

-- an earlier line, the line itself, or none
data Spot (n i : ℕ) : Type 0 where
  old : i < n → Spot n i
  new : i ≡ n → Spot n i
  past : n < i → Spot n i

spot : (n i : ℕ) → Spot n i
spot n i = go (dec_lt i n) (dec_lt n i)
  where
    go : Dec (i < n) → Dec (n < i) → Spot n i
    go (yes h) d = old h
    go (no h) (yes k) = past k
    go (no h) (no k) = new (omega arith)

rel_at : {B : Frame} {t t' : Ty} {at at' : ℕ} {cs cs' : List ℕ} {g g' : Info} → t' ≡ t → at' ≡ at → cs' ≡ cs → g' ≡ g → Rel B t at cs g → Rel B t' at' cs' g'
rel_at {B} {t = t} {t'} {at = at} {at'} {cs = cs} {cs'} {g = g} {g'} e₁ e₂ e₃ e₄ r =
    subst⁻¹ (λ (x : Ty). Rel B x at' cs' g') e₁ (subst⁻¹ (λ (x : ℕ). Rel B t x cs' g') e₂ (subst⁻¹ (λ (x : List ℕ). Rel B t at x g') e₃ (subst⁻¹ (λ (x : Info). Rel B t at cs x) e₄ r)))

below_at : {x x' y y' : Info} → x' ≡ x → y' ≡ y → ((j : ℕ) → j < length x.cells → get_or x.cells j 0 < get_or y.cells 0 0)
    → (j : ℕ) → j < length x'.cells → get_or x'.cells j 0 < get_or y'.cells 0 0
below_at {x} {y' = y'} e₁ e₂ h =
    subst⁻¹ (λ (z : Info). (j : ℕ) → j < length z.cells → get_or z.cells j 0 < get_or y'.cells 0 0) e₁
    (subst⁻¹ (λ (z : Info). (j : ℕ) → j < length x.cells → get_or x.cells j 0 < get_or z.cells 0 0) e₂ h)

-- what a new state is: none of its lines has been given an init or a next, as little as the state, and every value so far is held below them
pub record NewState (A A' B' : Frame) (I : List Info) (g : Info) : Type 0 where
  pub below : (i : ℕ) → 2 ≤ rank (type_at A.lay i).role → (j : ℕ) → j < length (lines_at I i) → get_or (lines_at I i) j 0 < get_or g.cells 0 0
  pub same : (m : Bool) (j : ℕ) → j < length g.cells → given B'.lay.ctx m (get_or g.cells j 0) ≡ given A'.lay.ctx m (length A.env)

-- the states of A, after a line more
pub record Once (A A' B' : Frame) (I : List Info) : Type 0 where
  pub same : (m : Bool) (q : ℕ) → rank (type_at A.lay q).role ≡ 4 → (j : ℕ) → j < length (lines_at I q) → given B'.lay.ctx m (get_or (lines_at I q) j 0) ≡ given A'.lay.ctx m q
  pub ahead_a : Ahead A'
  pub ahead_b : Ahead B'

quiet_state : (A : Frame) (l : Line) → T (quiet l) → rank (line_type_in false A.lay l).role ≡ 4 → ⊥
quiet_state A (Line.bitvec w) q t = omega arith
quiet_state A (Line.array i e) q t = omega arith
quiet_state A (Line.input s) q t = q
quiet_state A (Line.state s) q t = q
quiet_state A (Line.value s x) q t = omega (arith, val_most false (type_at A.lay) s x)
quiet_state A (Line.init_or_next m s p v) q t = q
quiet_state A (Line.signal m a) q t = q
quiet_state A (Line.output a) q t = omega arith
quiet_state A Line.unknown q t = omega arith

module _ (f : Bool) (σ ι : List ℕ) where
  pub extend : {A B B' : Frame} {I : List Info} (l : Line) (g : Info) → Inv A B I → Ext B B' → Alike (ev1 f σ ι A l) B' → length (ev1 f σ ι A l).sts ≡ (ev1 f σ ι A l).lay.counts.states
      → Rel B' (line_type_in false A.lay l) (place_of A.lay l) (cells_of false f σ ι A l) g → (rank (line_type_in false A.lay l).role ≡ 4 → NewState A (ev1 f σ ι A l) B' I g) → Once A (ev1 f σ ι A l) B' I
      → Inv (ev1 f σ ι A l) B' (I ++ (g ∷ []))
  extend {A} {B} {B'} {I} l g v x al mn r st on =
      record {
        even_a = y.even;
        even_b = x.even;
        len_i = length_snoc I g ∙ ap suc v.len_i ∙ sym (len1 f σ ι A l);
        alike = al;
        many = mn;
        rel = λ i. rel_by i (spot N i);
        below = λ q s i h k j. below_by q s i h k j (spot N q);
        same = λ m q s j. same_by m q s j (spot N q);
        ahead_a = on.ahead_a;
        ahead_b = on.ahead_b;
      }
    where
      A' : Frame
      A' = ev1 f σ ι A l

      J : List Info
      J = I ++ (g ∷ [])

      N : ℕ
      N = length A.env

      y : Ext A (ev1 f σ ι A l)
      y = ext_line f σ ι v.even_a l

      info_old : (i : ℕ) → i < N → info_at J i ≡ info_at I i
      info_old i h = get_or-append I (g ∷ []) no_info i (subst⁻¹ (λ (n : ℕ). i < n) v.len_i h)

      info_new : (i : ℕ) → i ≡ N → info_at J i ≡ g
      info_new i h = get_or_at I g [] no_info i (v.len_i ∙ sym h)

      type_past : (i : ℕ) → N < i → type_at A'.lay i ≡ no_ty
      type_past i h =
          get_or-eq_default (A.lay.ctx.tys ++ (line_type_in false A.lay l ∷ [])) no_ty {n = i} (omega (arith, length_snoc A.lay.ctx.tys (line_type_in false A.lay l), v.even_a.types))

      rel_by : (i : ℕ) → Spot N i → Rel B' (type_at A'.lay i) (place_at A'.lay i) (cells_at A' i) (info_at J i)
      rel_by i (old h) = rel_at (y.type i h) (y.place i h) (y.cells i h) (info_old i h) (rel_ext x (v.rel i))
      rel_by i (new e) =
          rel_at (new_type f σ ι v.even_a l i e) (new_place f σ ι v.even_a l i e) (new_cells f σ ι v.even_a l i e) (info_new i e) r
      rel_by i (past h) = rel_at (type_past i h) refl refl refl rel_none

      no_past : (q : ℕ) → N < q → rank (type_at A'.lay q).role ≡ 4 → ⊥
      no_past q h s = let z : ◌≡◌ {A = ℕ} 0 4 = sym (ap (λ (t : Ty). rank t.role) (type_past q h)) ∙ s in omega arith

      below_by : (q : ℕ) → rank (type_at A'.lay q).role ≡ 4 → (i : ℕ) → i < q → 2 ≤ rank (type_at A'.lay i).role → (j : ℕ) → Spot N q → j < length (lines_at J i) → get_or (lines_at J i) j 0 < line_at J q
      below_by q s i h k j (past z) b = absurd (no_past q z s)
      below_by q s i h k j (old z) b =
          let zi : i < N = omega arith in
          let s' = sym (ap (λ (t : Ty). rank t.role) (y.type q z)) ∙ s in
          let k' = subst (λ (t : Ty). 2 ≤ rank t.role) (y.type i zi) k in
          below_at (info_old i zi) (info_old q z) (v.below q s' i h k') j b
      below_by q s i h k j (new e) b =
          let zi : i < N = omega arith in
          let s' = sym (ap (λ (t : Ty). rank t.role) (new_type f σ ι v.even_a l q e)) ∙ s in
          let k' = subst (λ (t : Ty). 2 ≤ rank t.role) (y.type i zi) k in
          below_at (info_old i zi) (info_new q e) ((st s').below i k') j b

      same_by : (m : Bool) (q : ℕ) → rank (type_at A'.lay q).role ≡ 4 → (j : ℕ) → Spot N q → j < length (lines_at J q) → given B'.lay.ctx m (get_or (lines_at J q) j 0) ≡ given A'.lay.ctx m q
      same_by m q s j (past z) b = absurd (no_past q z s)
      same_by m q s j (old z) b =
          let s' = sym (ap (λ (t : Ty). rank t.role) (y.type q z)) ∙ s in
          subst⁻¹ (λ (x : Info). j < length x.cells → given B'.lay.ctx m (get_or x.cells j 0) ≡ given A'.lay.ctx m q) (info_old q z) (on.same m q s' j) b
      same_by m q s j (new e) b =
          let s' = sym (ap (λ (t : Ty). rank t.role) (new_type f σ ι v.even_a l q e)) ∙ s in
          subst⁻¹ (λ (x : Info). j < length x.cells → given B'.lay.ctx m (get_or x.cells j 0) ≡ given A'.lay.ctx m q) (info_new q e)
          (λ h. (st s').same m j h ∙ ap (given A'.lay.ctx m) (sym e)) b

  -- lines that give nothing to a state
  pub same_given : {A B B' : Frame} {I : List Info} (l : Line) → gives l ≡ false → Inv A B I → length B.env ≤ length B'.env
      → ((m : Bool) → given_by m B'.lay.ctx ≡ given_by m B.lay.ctx) → Once A (ev1 f σ ι A l) B' I
  same_given {A} {B} {B'} {I} l e v n g =
      record {
        same = λ m q s j b. ap (among (get_or (lines_at I q) j 0)) (g m) ∙ v.same m q s j b ∙ sym (ap (among q) (gave_same f σ ι A l e m));
        ahead_a = λ m p h. ap (among p) (gave_same f σ ι A l e m) ∙ v.ahead_a m p (omega (arith, len1 f σ ι A l));
        ahead_b = λ m p h. ap (among p) (g m) ∙ v.ahead_b m p (le_trans n h);
      }

  pub extend_quiet : {A B B' : Frame} {I : List Info} (l : Line) (g : Info) → T (quiet l) → Inv A B I → Grew B B'
      → Rel B' (line_type_in false A.lay l) (place_of A.lay l) (cells_of false f σ ι A l) g → Inv (ev1 f σ ι A l) B' (I ++ (g ∷ []))
  extend_quiet {A} l g q v w r =
      let a = grew_line f σ ι v.even_a l q in
      extend l g v w.ext (alike_trans (alike_sym a.alike) (alike_trans v.alike w.alike)) (ap length a.alike.sts ∙ v.many ∙ sym a.alike.states) r
      (λ t. absurd (quiet_state A l q t)) (same_given l (quiet_gives l q) v w.ext.len w.gave)
