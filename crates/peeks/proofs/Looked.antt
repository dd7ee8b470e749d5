-- What each line says of its cell c at step 0, in terms of the values of earlier lines: what peek's functions ask and find. Assumes nothing.
use Rattle.std.specs.Prelude.{Ok}
use Prim.Native.Nat.{ℕ, zero, suc, ◌+◌, ◌-◌, ◌%◌, ◌^◌, ◌≤◌, ◌<◌}
use mathlib.Core.Path.{◌≡◌, refl, sym, ap, ap₂, ◌∙◌, subst}
use mathlib.Core.Bool.{Bool, true, false}
use mathlib.Core.List.{List, [], ◌∷◌}
use native.Mathlib.Omega.{arith}
use native.Mathlib.Nat.{mod-eq_of_lt, mod-mod, pow-suc}
use lib.Dec.{leb}
use lib.Pow.{pow_pos}
use lib.ListN.{length, take, get_or, set, get_or-replicate}
use lib.Seq.{get_or-take, get_or-set_same, get_or-set_other}
use Rattle.words.specs.Word.{Width, bit}
use Rattle.tables.specs.declared.Ty.{Ty}
use Rattle.tables.specs.Lines.{Line, Expr, line_of}
use Rattle.tables.specs.Layout.{record_at, lines_of}
use Rattle.tables.specs.Types.{rank, ty_at, given, sort_at}
use Rattle.tables.specs.Tables.{checked}
use Rattle.tables.proofs.Facts.{IsWord, IsArray, OkLine, OkExpr}
use Rattle.tables.proofs.Showing.{earlier}
use Rattle.tables.proofs.Values.{val_iw, val_w}
use Rattle.tables.proofs.Wide.{sort_wide}
use Rattle.circuits.specs.Cells.{if_nonzero, eq_or_neq, same_cells, mask_words, part}
use Rattle.circuits.specs.Layout.{Layout, type_at, place_at, size, line_type_in, place_of, no_layout, lay, layout}
use Rattle.circuits.specs.Meaning.{op_word, cells_e, Frame, cells_at, word_at, width_at, cells_of, step}
use Rattle.circuits.specs.Run.{input_count, start}
use Rattle.peeks.specs.Peek.{step_zero}
use Rattle.circuits.specs.Model.Work.{pos_in, wid_in}
use Rattle.circuits.specs.Model.Fits.{FitWord}
use Rattle.circuits.specs.Model.Places.{off_at, Shown}
use Rattle.peeks.specs.Model.Looks.{init_of, Laid, Looks}
use Rattle.circuits.proofs.Fitting.{fit_as}
use Rattle.circuits.proofs.Laid.{Later, later, grew, type_new, place_new, type_old, more_types, more_places}
use Rattle.circuits.proofs.Simulation.{word_one, word_two, is_sort_lem}
use Rattle.circuits.proofs.Walked.{acc_at, lines_many, line_here, number_at, later_at, Facts}
use Rattle.circuits.proofs.Placing.{all_sound, lines_here}
use Rattle.circuits.proofs.Earlier.{cells_first, cells_here, unmarked_alike}
use Rattle.circuits.proofs.Sizes.{laid_of}
use Rattle.peeks.proofs.Whole.{HeldBy, lay_is, facts_of, held_at, held_whole, lay_whole, cells_many, cells_small}
use Rattle.peeks.proofs.Begun.{start_of, Begun, begun}
use Rattle.circuits.proofs.Puts as laws

-- ---- what is known of the line n of the type that Z has for it, by its expression

-- an operand that is a word, or any value, on an earlier line
pub record Arg (Z : Layout) (n a : ℕ) : Type 0 where
  pub word : IsWord (type_at Z a)
  pub below : a < n

pub record Operand (Z : Layout) (n a : ℕ) : Type 0 where
  pub value : 2 ≤ rank (type_at Z a).role
  pub below : a < n

module _ (A : Frame) (Z : Layout) (P : List (List ℕ)) (ini S R : List ℕ) (n c : ℕ) where
  pub record FactConst (v : ℕ) : Type 0 where
    pub flat : (type_at Z n).iw ≡ 0
    pub is : v ≡ word_at A n

  pub record FactUnary (k a x y : ℕ) : Type 0 where
    pub most : k ≤ 20
    pub flat : (type_at Z n).iw ≡ 0
    pub arg : Arg Z n a
    pub op : FitWord false k (wid_in P n) (wid_in P a) 64 (word_at A a) x y
    pub is : op_word false k (wid_in P a) 64 (word_at A a) x y ≡ word_at A n

  pub record FactBinary (k a b : ℕ) : Type 0 where
    pub flat : (type_at Z n).iw ≡ 0
    pub left : Arg Z n a
    pub right : Arg Z n b
    pub op : FitWord false k (wid_in P n) (wid_in P a) (wid_in P b) (word_at A a) (word_at A b) 0
    pub is : op_word false k (wid_in P a) (wid_in P b) (word_at A a) (word_at A b) 0 ≡ word_at A n

  pub record FactEquality (e : Bool) (a b : ℕ) : Type 0 where
    pub flat : (type_at Z n).iw ≡ 0
    pub left : Operand Z n a
    pub right : Operand Z n b
    pub sorts : (type_at Z b).iw ≡ (type_at Z a).iw
    pub is : bit (eq_or_neq e (same_cells (cells_at A a) (cells_at A b))) ≡ word_at A n

  pub record FactIte (d a b : ℕ) : Type 0 where
    pub cond : Arg Z n d
    pub left : Operand Z n a
    pub right : Operand Z n b
    pub sort_a : (type_at Z a).iw ≡ (type_at Z n).iw
    pub sort_b : (type_at Z b).iw ≡ (type_at Z n).iw
    pub yes : (word_at A d ≡ 0 → ⊥) → get_or (cells_at A a) c 0 ≡ get_or (cells_at A n) c 0
    pub no : word_at A d ≡ 0 → get_or (cells_at A b) c 0 ≡ get_or (cells_at A n) c 0

  pub record FactRead (a i : ℕ) : Type 0 where
    pub flat : (type_at Z n).iw ≡ 0
    pub arr : IsArray (type_at Z a)
    pub below_a : a < n
    pub index : Arg Z n i
    pub inside : word_at A i < size (type_at Z a)
    pub is : get_or (cells_at A a) (word_at A i) 0 ≡ word_at A n

  pub record FactWrite (a i v : ℕ) : Type 0 where
    pub arr : IsArray (type_at Z a)
    pub below_a : a < n
    pub sort_a : (type_at Z a).iw ≡ (type_at Z n).iw
    pub index : Arg Z n i
    pub value : Arg Z n v
    pub hit : word_at A i ≡ c → word_at A v ≡ get_or (cells_at A n) c 0
    pub miss : (word_at A i ≡ c → ⊥) → get_or (cells_at A a) c 0 ≡ get_or (cells_at A n) c 0

  pub record FactInput : Type 0 where
    pub flat : (type_at Z n).iw ≡ 0
    pub inside : pos_in P n < length R
    pub wide : Width (wid_in P n)
    pub is : get_or R (pos_in P n) 0 % 2 ^ wid_in P n ≡ word_at A n

  -- a state whose init's value is on the line d, and one that has no init
  pub record FactInit (d : ℕ) : Type 0 where
    pub arg : Arg Z n d
    pub is : word_at A d ≡ get_or (cells_at A n) c 0

  pub record FactStart : Type 0 where
    pub inside : pos_in P n + c < length S
    pub wide : Width (wid_in P n)
    pub is : get_or S (pos_in P n + c) 0 % 2 ^ wid_in P n ≡ get_or (cells_at A n) c 0

  pub record FactState : Type 0 where
    pub init : (get_or ini n 0 ≡ 0 → ⊥) → FactInit (get_or ini n 0)
    pub none : get_or ini n 0 ≡ 0 → FactStart

  abbrev pub FactE : Expr → Type 0
  FactE (Expr.const v) = FactConst v
  FactE (Expr.unary k a x y) = FactUnary k a x y
  FactE (Expr.binary k a b) = FactBinary k a b
  FactE (Expr.equality e a b) = FactEquality e a b
  FactE (Expr.ite d a b) = FactIte d a b
  FactE (Expr.read a i) = FactRead a i
  FactE (Expr.write a i v) = FactWrite a i v

  abbrev pub Fact : Line → Type 0
  Fact (Line.bitvec w) = ⊥
  Fact (Line.array i e) = ⊥
  Fact (Line.input s) = FactInput
  Fact (Line.state s) = FactState
  Fact (Line.value s e) = FactE e
  Fact (Line.init_or_next m s q v) = ⊥
  Fact (Line.signal m a) = ⊥
  Fact (Line.output a) = ⊥
  Fact Line.unknown = ⊥

-- ---- small laws

pub yes_choose : {X : Type 0} (d : ℕ) (x y : X) → (d ≡ 0 → ⊥) → if_nonzero d x y ≡ x
yes_choose zero x y n = absurd (n refl)
yes_choose (suc d) x y n = refl

no_choose : {X : Type 0} (d : ℕ) (x y : X) → d ≡ 0 → if_nonzero d x y ≡ y
no_choose d x y e = ap (λ (k : ℕ). if_nonzero k x y) e

get_or_lows : (w : ℕ) (xs : List ℕ) (c : ℕ) → get_or (mask_words w xs) c 0 ≡ get_or xs c 0 % 2 ^ w
get_or_lows w [] c = sym (mod-eq_of_lt (pow_pos w))
get_or_lows w (x ∷ xs) zero = refl
get_or_lows w (x ∷ xs) (suc c) = get_or_lows w xs c

-- one cell is a word, more are an array
pub one_cell : (x : ℕ) → 2 ^ x ≡ 1 → x ≡ 0
one_cell zero e = refl
one_cell (suc x) e = absurd (omega (arith, pow_pos x, pow-suc 2 x))

pub more_cells : (x : ℕ) → (2 ^ x ≡ 1 → ⊥) → 0 < x
more_cells zero z = absurd (z refl)
more_cells (suc x) z = omega arith

-- what is known of a line by its number
pub shown : {t : List ℕ} {n : ℕ} {P : List (List ℕ)} {S R : List ℕ} → Laid t n P S R → (a : ℕ) → a ≤ n
    → Shown P a (type_at (layout false (lines_of false t n)) a) (off_at (layout false (lines_of false t n)) a) (place_at (layout false (lines_of false t n)) a)
shown {t} {n} l a h = let long = (all_sound false t n l.accepted).long in let many = lines_here false t n l.accepted in l.shows a (omega arith)

-- ---- step 0 of an accepted circuit

module _ {t : List ℕ} {n : ℕ} {P : List (List ℕ)} {ini S R : List ℕ} (lk : Looks t n P ini S R) where
  abbrev C : List Line
  C = lines_of false t n

  abbrev Z : Layout
  Z = layout false (lines_of false t n)

  abbrev ι : List ℕ
  ι = take (input_count false (lines_of false t n)) R

  abbrev σ : List ℕ
  σ = (step false true (lines_of false t n) S (take (input_count false (lines_of false t n)) R)).sts

  abbrev A : Frame
  A = step false false (lines_of false t n) σ ι

  accepted : checked false t n ≡ Ok tt
  accepted = lk.laid.accepted

  zero_is : step_zero (lines_of false t n) S R ≡ A
  unfolding step_zero start
  zero_is = refl

  many : length σ ≡ Z.counts.states
  many =
      (held_whole t n accepted S lk.laid.starts true ι).held.kept.many ∙ ap (λ (Y : Layout). Y.counts.states) (lay_whole t n accepted S lk.laid.starts true ι)

  H : HeldBy Z.counts.cells σ A
  H = held_whole t n accepted σ many false ι

  lay_A : A.lay ≡ Z
  lay_A = lay_whole t n accepted σ many false ι

  room : A.lay.counts.cells ≤ Z.counts.cells
  room = omega (arith, ap (λ (Y : Layout). Y.counts.cells) lay_A)

  type_A : (a : ℕ) → type_at A.lay a ≡ type_at Z a
  type_A a = ap (λ (Y : Layout). type_at Y a) lay_A

  length_of : (a : ℕ) → 2 ≤ rank (type_at Z a).role → length (cells_at A a) ≡ size (type_at Z a)
  length_of a q = cells_many H room a (subst (λ (y : Ty). 2 ≤ rank y.role) (sym (type_A a)) q) ∙ ap size (type_A a)

  small : (a : ℕ) → 2 ≤ rank (type_at Z a).role → (j : ℕ) → get_or (cells_at A a) j 0 < 2 ^ (type_at Z a).w
  small a q j = subst (λ (y : Ty). get_or (cells_at A a) j 0 < 2 ^ y.w) (type_A a) (cells_small H room a (subst (λ (y : Ty). 2 ≤ rank y.role) (sym (type_A a)) q) j)

  no_line : rank (type_at (layout false (lines_of false t n)) 0).role ≡ 0
  unfolding layout
  no_line = ap (λ (y : Ty). rank y.role) ((later false no_layout (lines_of false t n)).type 0 (omega arith))

  pub none_flat : (type_at (layout false (lines_of false t n)) 0).iw ≡ 0
  unfolding layout
  none_flat = ap (λ (y : Ty). y.iw) ((later false no_layout (lines_of false t n)).type 0 (omega arith))

  from_one : (a : ℕ) → 1 ≤ rank (type_at (layout false (lines_of false t n)) a).role → 1 ≤ a
  from_one zero q = absurd (omega (arith, no_line))
  from_one (suc a) q = omega arith

  -- a line of some role has a number from 1 to the count
  pub number_of : (a : ℕ) → 1 ≤ rank (type_at Z a).role → (1 ≤ a) × (a ≤ n)
  number_of a q = (from_one a q, omega (arith, earlier Z.ctx.tys a q, lines_here false t n accepted))

  width_of : (a : ℕ) → 2 ≤ rank (type_at Z a).role → Width (wid_in P a)
  width_of a q =
      let k = (all_sound false t n accepted).wide a (omega arith) in
      let e = (shown lk.laid a (number_of a (omega arith)).1).is_wid in
      record { least = omega (arith, k.least); most = omega (arith, k.most) }

  -- ---- the line at the place i

  module _ (i : ℕ) (h : i < n) where
    abbrev B : Frame
    B = acc_at false false σ ι (lines_of false t n) i

    abbrev l : Line
    l = get_or (lines_of false t n) i Line.unknown

    known : Facts false (laid_of Z) B.lay l Z.counts.cells (length σ) Z.counts.inputs Z.counts.signals
    known = facts_of t n accepted σ many false ι i h

    held : HeldBy Z.counts.cells σ B
    held = held_at t n accepted σ many false ι i (omega arith)

    tall : length B.lay.ctx.tys ≡ i + 1
    tall = ap (λ (Y : Layout). length Y.ctx.tys) (lay_is t n accepted σ many false ι i) ∙ number_at false t n accepted i (omega arith)

    next : Later (lay false B.lay l) Z
    next = subst (λ (Y : Layout). Later (lay false Y l) Z) (sym (lay_is t n accepted σ many false ι i)) (later_at false t n accepted i h)

    arg_below : (a : ℕ) → 1 ≤ rank (type_at B.lay a).role → a < suc i
    arg_below a q = omega (arith, earlier B.lay.ctx.tys a q, tall)

    arg_type : (a : ℕ) → 1 ≤ rank (type_at B.lay a).role → type_at Z a ≡ type_at B.lay a
    arg_type a q =
        let b = earlier B.lay.ctx.tys a q in
        next.type a (omega (arith, more_types false B.lay l)) ∙ type_old false B.lay l held.held.sound.long a (λ e. omega arith)

    arg_cells : (a : ℕ) → 1 ≤ rank (type_at B.lay a).role → cells_at A a ≡ cells_at B a
    arg_cells a q = cells_first false false (lines_of false t n) σ ι i a (omega (arith, lines_many false t n accepted)) (omega (arith, arg_below a q))

    arg_word : (a : ℕ) → 1 ≤ rank (type_at B.lay a).role → word_at A a ≡ word_at B a
    arg_word a q = ap (λ (x : List ℕ). get_or x 0 0) (arg_cells a q)

    arg_width : (a : ℕ) → 1 ≤ rank (type_at B.lay a).role → wid_in P a ≡ width_at B a
    arg_width a q = (shown lk.laid a (omega (arith, arg_below a q))).is_wid ∙ ap (λ (y : Ty). y.w) (arg_type a q)

    arg_of : (a : ℕ) → IsWord (type_at B.lay a) → Arg Z (suc i) a
    arg_of a q = record { word = subst IsWord (sym (arg_type a (omega (arith, q.is)))) q; below = arg_below a (omega (arith, q.is)) }

    array_of : (a : ℕ) → IsArray (type_at B.lay a) → IsArray (type_at Z a)
    array_of a q = subst IsArray (sym (arg_type a (omega (arith, q.is)))) q

    operand_of : (a : ℕ) → 2 ≤ rank (type_at B.lay a).role → Operand Z (suc i) a
    operand_of a q = record { value = subst (λ (y : Ty). 2 ≤ rank y.role) (sym (arg_type a (omega arith))) q; below = arg_below a (omega arith) }

    own_cells : cells_at A (suc i) ≡ cells_of false false σ ι B l
    own_cells = cells_here false false (lines_of false t n) σ ι i (omega (arith, lines_many false t n accepted))

    own_type : type_at Z (suc i) ≡ line_type_in false B.lay l
    own_type =
        let e : suc i ≡ length B.lay.ctx.tys = omega (arith, tall) in
        next.type (suc i) (omega (arith, more_types false B.lay l)) ∙ ap (type_at (lay false B.lay l)) e ∙ type_new false B.lay l held.held.sound.long

    own_place : place_at Z (suc i) ≡ place_of B.lay l
    own_place =
        let e : suc i ≡ length B.lay.ctx.tys = omega (arith, tall) in
        let g = held.held.sound.long in
        next.place (suc i) (omega (arith, more_places false B.lay l)) ∙ ap (place_at (lay false B.lay l)) e ∙ place_new false B.lay l g

    cells_room : B.lay.counts.cells ≤ Z.counts.cells
    cells_room = omega (arith, known.cells, (grew B.lay.counts (size (line_type_in false B.lay l)) l).cells)

    module _ (s : ℕ) (e : Expr) (el : l ≡ Line.value s e) where
      abbrev sort : Ty
      sort = sort_at false (ty_at B.lay.ctx) s

      expr_w : wid_in P (suc i) ≡ sort.w
      expr_w = (shown lk.laid (suc i) (omega arith)).is_wid ∙ ap (λ (y : Ty). y.w) (own_type ∙ ap (line_type_in false B.lay) el) ∙ val_w false (ty_at B.lay.ctx) s e

      expr_iw : (type_at Z (suc i)).iw ≡ sort.iw
      expr_iw = ap (λ (y : Ty). y.iw) (own_type ∙ ap (line_type_in false B.lay) el) ∙ val_iw false (ty_at B.lay.ctx) s e

      expr_cells : cells_at A (suc i) ≡ cells_e false (width_at B) (word_at B) (cells_at B) e
      expr_cells = own_cells ∙ ap (cells_of false false σ ι B) el

      expr_word : word_at A (suc i) ≡ get_or (cells_e false (width_at B) (word_at B) (cells_at B) e) 0 0
      expr_word = ap (λ (x : List ℕ). get_or x 0 0) expr_cells

      expr_wide : OkExpr false (ty_at B.lay.ctx) sort e → sort.w ≤ 64
      expr_wide ok = (sort_wide false (ty_at B.lay.ctx) s held.held.sound.wide (is_sort_lem false (ty_at B.lay.ctx) sort e ok)).most

    fact_expr : (s : ℕ) (e : Expr) → l ≡ Line.value s e → OkExpr false (ty_at B.lay.ctx) (sort_at false (ty_at B.lay.ctx) s) e → (c : ℕ) → c < size (type_at Z (suc i)) → FactE A Z P ini S R (suc i) c e
    fact_expr s (Expr.const v) el ok c hc = record { flat = expr_iw s (Expr.const v) el ∙ ok.sort.flat; is = sym (expr_word s (Expr.const v) el) }
    fact_expr s (Expr.unary k a x y) el ok c hc =
        let e = Expr.unary k a x y in
        let q : 1 ≤ rank (type_at B.lay a).role = omega (arith, ok.arg.is) in
        record {
          most = ok.kind.1;
          flat = expr_iw s e el ∙ ok.sort.flat;
          arg = arg_of a ok.arg;
          op = fit_as (expr_w s e el) (arg_width a q) refl (arg_word a q) refl
              (word_one held.held cells_room l (laid_of Z) known.shows (sort_at false (ty_at B.lay.ctx) s) k a x y (expr_wide s e el ok) ok);
          is = ap₂ (λ (u v : ℕ). op_word false k u 64 v x y) (arg_width a q) (arg_word a q) ∙ sym (expr_word s e el);
        }
    fact_expr s (Expr.binary k a b) el ok c hc =
        let e = Expr.binary k a b in
        let qa : 1 ≤ rank (type_at B.lay a).role = omega (arith, ok.left.is) in
        let qb : 1 ≤ rank (type_at B.lay b).role = omega (arith, ok.right.is) in
        record {
          flat = expr_iw s e el ∙ ok.sort.flat;
          left = arg_of a ok.left;
          right = arg_of b ok.right;
          op = fit_as (expr_w s e el) (arg_width a qa) (arg_width b qb) (arg_word a qa) (arg_word b qb)
              (word_two held.held cells_room l (laid_of Z) known.shows (sort_at false (ty_at B.lay.ctx) s) k a b (expr_wide s e el ok) ok);
          is = ap₂ (λ (u v : ℕ). op_word false k u v (word_at A a) (word_at A b) 0) (arg_width a qa) (arg_width b qb)
              ∙ ap₂ (λ (u v : ℕ). op_word false k (width_at B a) (width_at B b) u v 0) (arg_word a qa) (arg_word b qb) ∙ sym (expr_word s e el);
        }
    fact_expr s (Expr.equality f a b) el ok c hc =
        let e = Expr.equality f a b in
        let qa : 1 ≤ rank (type_at B.lay a).role = omega (arith, ok.left.is) in
        let qb : 1 ≤ rank (type_at B.lay b).role = omega (arith, ok.right.is) in
        record {
          flat = expr_iw s e el ∙ ok.sort.flat;
          left = operand_of a ok.left.is;
          right = operand_of b ok.right.is;
          sorts = ap (λ (y : Ty). y.iw) (arg_type b qb) ∙ ok.same.iw ∙ sym (ap (λ (y : Ty). y.iw) (arg_type a qa));
          is = ap₂ (λ (x y : List ℕ). bit (eq_or_neq f (same_cells x y))) (arg_cells a qa) (arg_cells b qb) ∙ sym (expr_word s e el);
        }
    fact_expr s (Expr.ite d a b) el ok c hc =
        let e = Expr.ite d a b in
        let qd : 1 ≤ rank (type_at B.lay d).role = omega (arith, ok.cond.is) in
        let qa : 1 ≤ rank (type_at B.lay a).role = omega (arith, ok.left.is) in
        let qb : 1 ≤ rank (type_at B.lay b).role = omega (arith, ok.right.is) in
        let own : get_or (cells_at A (suc i)) c 0 ≡ get_or (if_nonzero (word_at B d) (cells_at B a) (cells_at B b)) c 0 = ap (λ (x : List ℕ). get_or x c 0) (expr_cells s e el) in
        record {
          cond = arg_of d ok.cond;
          left = operand_of a ok.left.is;
          right = operand_of b ok.right.is;
          sort_a = ap (λ (y : Ty). y.iw) (arg_type a qa) ∙ ok.same_a.iw ∙ sym (expr_iw s e el);
          sort_b = ap (λ (y : Ty). y.iw) (arg_type b qb) ∙ ok.same_b.iw ∙ sym (expr_iw s e el);
          yes = λ z. ap (λ (x : List ℕ). get_or x c 0) (arg_cells a qa ∙ sym (yes_choose (word_at B d) (cells_at B a) (cells_at B b) (λ y. z (arg_word d qd ∙ y)))) ∙ sym own;
          no = λ z. ap (λ (x : List ℕ). get_or x c 0) (arg_cells b qb ∙ sym (no_choose (word_at B d) (cells_at B a) (cells_at B b) (sym (arg_word d qd) ∙ z))) ∙ sym own;
        }
    fact_expr s (Expr.read a x) el ok c hc =
        let e = Expr.read a x in
        let qa : 1 ≤ rank (type_at B.lay a).role = omega (arith, ok.arr.is) in
        let qx : 1 ≤ rank (type_at B.lay x).role = omega (arith, ok.index.is) in
        let index = arg_of x ok.index in
        let wi : (type_at Z x).w ≡ (type_at Z a).iw = ap (λ (y : Ty). y.w) (arg_type x qx) ∙ ok.iw ∙ sym (ap (λ (y : Ty). y.iw) (arg_type a qa)) in
        record {
          flat = expr_iw s e el ∙ ok.sort.flat;
          arr = array_of a ok.arr;
          below_a = arg_below a qa;
          index = index;
          inside = subst (λ (m : ℕ). word_at A x < 2 ^ m) wi (small x index.word.is 0);
          is = ap₂ (λ (y : List ℕ) (m : ℕ). get_or y m 0) (arg_cells a qa) (arg_word x qx) ∙ sym (expr_word s e el);
        }
    fact_expr s (Expr.write a x v) el ok c hc =
        let e = Expr.write a x v in
        let qa : 1 ≤ rank (type_at B.lay a).role = omega (arith, ok.arr.is) in
        let qx : 1 ≤ rank (type_at B.lay x).role = omega (arith, ok.index.is) in
        let qv : 1 ≤ rank (type_at B.lay v).role = omega (arith, ok.value.is) in
        let sa : (type_at Z a).iw ≡ (type_at Z (suc i)).iw = ap (λ (y : Ty). y.iw) (arg_type a qa) ∙ ok.same.iw ∙ sym (expr_iw s e el) in
        let la : length (cells_at A a) ≡ size (type_at Z (suc i)) = length_of a (array_of a ok.arr).is ∙ ap (λ (m : ℕ). 2 ^ m) sa in
        let own : get_or (cells_at A (suc i)) c 0 ≡ get_or (set (cells_at A a) (word_at A x) (word_at A v)) c 0 =
        ap (λ (y : List ℕ). get_or y c 0) (expr_cells s e el ∙ sym (ap₂ (λ (y : List ℕ) (m : ℕ). set y m (word_at A v)) (arg_cells a qa) (arg_word x qx) ∙ ap (set (cells_at B a) (word_at B x)) (arg_word v qv))) in
        record {
          arr = array_of a ok.arr;
          below_a = arg_below a qa;
          sort_a = sa;
          index = arg_of x ok.index;
          value = arg_of v ok.value;
          hit = λ z. sym (own ∙ ap (λ (m : ℕ). get_or (set (cells_at A a) m (word_at A v)) c 0) z ∙ get_or-set_same (cells_at A a) c (word_at A v) 0 (omega arith));
          miss = λ z. sym (own ∙ get_or-set_other (cells_at A a) (word_at A x) c (word_at A v) 0 (λ y. z (sym y)));
        }

    -- ---- inputs and states

    fact_input : (s : ℕ) → l ≡ Line.input s → (type_at B.lay s).iw ≡ 0 → (c : ℕ) → FactInput A Z P ini S R (suc i) c
    fact_input s el flat c =
        let ty : type_at Z (suc i) ≡ line_type_in false B.lay (Line.input s) = own_type ∙ ap (line_type_in false B.lay) el in
        let pl : place_at Z (suc i) ≡ place_of B.lay (Line.input s) = own_place ∙ ap (place_of B.lay) el in
        let ep : pos_in P (suc i) ≡ B.lay.counts.inputs = (shown lk.laid (suc i) (omega arith)).is_pos ∙ pl in
        let ew : wid_in P (suc i) ≡ (line_type_in false B.lay (Line.input s)).w = (shown lk.laid (suc i) (omega arith)).is_wid ∙ ap (λ (y : Ty). y.w) ty in
        let hi : suc B.lay.counts.inputs ≤ Z.counts.inputs = subst (λ (x : Line). (lay false B.lay x).counts.inputs ≤ Z.counts.inputs) el known.inputs in
        record {
          flat = ap (λ (y : Ty). y.iw) ty ∙ flat;
          inside = omega (arith, lk.laid.row);
          wide = width_of (suc i) (subst (λ (y : Ty). 2 ≤ rank y.role) (sym ty) (omega arith));
          is = ap₂ (λ (v m : ℕ). v % 2 ^ m) (sym (get_or-take (input_count false (lines_of false t n)) R (pos_in P (suc i)) 0 (omega arith))) ew ∙ ap (λ (m : ℕ). get_or ι m 0 % 2 ^ (line_type_in false B.lay (Line.input s)).w) ep
              ∙ sym (ap (λ (x : List ℕ). get_or x 0 0) (own_cells ∙ ap (cells_of false false σ ι B) el));
        }

    module _ (s : ℕ) (el : l ≡ Line.state s) (c : ℕ) (hc : c < size (type_at Z (suc i))) where
      abbrev E : Layout
      E = (acc_at false true S ι (lines_of false t n) i).lay

      abbrev own : Ty
      own = line_type_in false (acc_at false true S ι (lines_of false t n) i).lay (Line.state s)

      begins : Begun S (step false true (lines_of false t n) S ι) (suc i) E.counts.states (size own) own.w (init_of (suc i) (lines_of false t n))
      begins = begun t n accepted S ι lk.laid.starts i h s el

      same_lay : B.lay ≡ E
      same_lay = lay_is t n accepted σ many false ι i ∙ sym (lay_is t n accepted S lk.laid.starts true ι i)

      state_type : type_at Z (suc i) ≡ own
      state_type = own_type ∙ ap (line_type_in false B.lay) el ∙ ap (λ (Y : Layout). line_type_in false Y (Line.state s)) same_lay

      state_place : pos_in P (suc i) ≡ E.counts.states
      state_place = (shown lk.laid (suc i) (omega arith)).is_pos ∙ (own_place ∙ ap (place_of B.lay) el) ∙ ap (λ (Y : Layout). Y.counts.states) same_lay

      state_wid : wid_in P (suc i) ≡ own.w
      state_wid = (shown lk.laid (suc i) (omega arith)).is_wid ∙ ap (λ (y : Ty). y.w) state_type

      hm : c < size own
      hm = subst (λ (y : Ty). c < size y) state_type hc

      state_cells_lem : cells_at A (suc i) ≡ mask_words own.w (start_of S E.counts.states (size own) own.w (init_of (suc i) (lines_of false t n)) (word_at (step false true (lines_of false t n) S ι) (init_of (suc i) (lines_of false t n))))
      state_cells_lem =
          own_cells ∙ ap (cells_of false false σ ι B) el
          ∙ ap (λ (Y : Layout). mask_words (line_type_in false Y (Line.state s)).w (part σ Y.counts.states (size (line_type_in false Y (Line.state s))))) same_lay ∙ ap (mask_words own.w) begins.words

      state_at : get_or (cells_at A (suc i)) c 0 ≡ get_or (start_of S E.counts.states (size own) own.w (init_of (suc i) (lines_of false t n)) (word_at (step false true (lines_of false t n) S ι) (init_of (suc i) (lines_of false t n)))) c 0 % 2 ^ own.w
      state_at = ap (λ (y : List ℕ). get_or y c 0) state_cells_lem ∙ get_or_lows own.w (start_of S E.counts.states (size own) own.w (init_of (suc i) (lines_of false t n)) (word_at (step false true (lines_of false t n) S ι) (init_of (suc i) (lines_of false t n)))) c

      some : (init_of (suc i) (lines_of false t n) ≡ 0 → ⊥) → FactInit A Z P ini S R (suc i) c (init_of (suc i) (lines_of false t n))
      some z =
          let k = begins.settled in
          let lz = lay_whole t n accepted S lk.laid.starts true ι in
          let d : ℕ = init_of (suc i) (lines_of false t n) in
          let td : type_at (step false true (lines_of false t n) S ι).lay d ≡ type_at Z d = ap (λ (Y : Layout). type_at Y d) lz in
          let role : rank (type_at Z d).role ≡ 2 = sym (ap (λ (y : Ty). rank y.role) td) ∙ k.unmarked z in
          let wd : (type_at Z d).w ≡ own.w = sym (ap (λ (y : Ty). y.w) td) ∙ k.same z in
          let xe : word_at (step false true (lines_of false t n) S ι) d ≡ word_at A d = ap (λ (y : List ℕ). get_or y 0 0) (unmarked_alike false true false S σ ι ι (lines_of false t n) d (ap (leb 3) role)) in
          record {
            arg = record { word = record { is = omega arith; flat = sym (ap (λ (y : Ty). y.iw) td) ∙ k.flat z }; below = k.below };
            is = sym (state_at ∙ ap (λ (y : List ℕ). get_or y c 0 % 2 ^ own.w) (yes_choose d _ _ z) ∙ ap (λ (m : ℕ). m % 2 ^ own.w) (get_or-replicate (size own) c _ 0 hm ∙ xe)
                ∙ mod-eq_of_lt (subst (λ (m : ℕ). word_at A d < 2 ^ m) wd (small d (omega arith) 0)));
          }

      none : init_of (suc i) (lines_of false t n) ≡ 0 → FactStart A Z P ini S R (suc i) c
      none z =
          let k = begins.settled in
          let lz = lay_whole t n accepted S lk.laid.starts true ι in
          let rm : E.counts.states + size own ≤ Z.counts.states = subst (λ (Y : Layout). E.counts.states + size own ≤ Y.counts.states) lz k.room in
          let w : ℕ = own.w in
          record {
            inside = omega (arith, state_place, hm, lk.laid.starts);
            wide = width_of (suc i) (subst (λ (y : Ty). 2 ≤ rank y.role) (sym state_type) (omega arith));
            is = ap₂ (λ (m v : ℕ). get_or S (m + c) 0 % 2 ^ v) state_place state_wid
                ∙ sym (state_at ∙ ap (λ (y : List ℕ). get_or y c 0 % 2 ^ w) (no_choose (init_of (suc i) (lines_of false t n)) _ _ z) ∙ ap (λ (m : ℕ). m % 2 ^ w) (get_or_lows w (part S E.counts.states (size own)) c)
                ∙ mod-mod (get_or (part S E.counts.states (size own)) c 0) (2 ^ w) ∙ ap (λ (m : ℕ). m % 2 ^ w) (laws.part_get_or S E.counts.states (size own) c hm));
          }

      fact_state : FactState A Z P ini S R (suc i) c
      fact_state =
          let e : get_or ini (suc i) 0 ≡ init_of (suc i) (lines_of false t n) = lk.inits (suc i) (omega arith) in
          record {
            init = λ z. subst (FactInit A Z P ini S R (suc i) c) (sym e) (some (λ y. z (e ∙ y)));
            none = λ z. none (sym e ∙ z);
          }

    -- ---- the line

    fact_line : (x : Line) → l ≡ x → OkLine false (ty_at B.lay.ctx) (given B.lay.ctx) x → 2 ≤ rank (line_type_in false B.lay x).role → (c : ℕ) → c < size (type_at Z (suc i)) → Fact A Z P ini S R (suc i) c x
    fact_line (Line.bitvec w) el ok q c hc = omega arith
    fact_line (Line.array a b) el ok q c hc = omega arith
    fact_line (Line.input s) el ok q c hc = fact_input s el ok.flat c
    fact_line (Line.state s) el ok q c hc = fact_state s el c hc
    fact_line (Line.value s e) el ok q c hc = fact_expr s e el ok c hc
    fact_line (Line.init_or_next m s a v) el ok q c hc = omega arith
    fact_line (Line.signal m a) el ok q c hc = omega arith
    fact_line (Line.output a) el ok q c hc = omega arith
    fact_line Line.unknown el ok q c hc = omega arith

    fact_here : (c : ℕ) → 2 ≤ rank (type_at Z (suc i)).role → c < size (type_at Z (suc i)) → Fact A Z P ini S R (suc i) c (line_of (record_at false t i))
    fact_here c q hc =
        subst (Fact A Z P ini S R (suc i) c) (line_here false t n accepted i h)
        (fact_line l refl known.ok (subst (λ (y : Ty). 2 ≤ rank y.role) own_type q) c hc)

  -- what the record of the line m says of its cell c
  pub facts : (m c : ℕ) → 2 ≤ rank (type_at Z m).role → c < size (type_at Z m) → Fact (step_zero (lines_of false t n) S R) Z P ini S R m c (line_of (record_at false t (m - 1)))
  facts m c q hc =
      let b = number_of m (omega arith) in
      let i : ℕ = m - 1 in
      let e : suc i ≡ m = omega arith in
      subst (λ (X : Frame). Fact X Z P ini S R m c (line_of (record_at false t (m - 1)))) (sym zero_is)
      (subst (λ (k : ℕ). Fact A Z P ini S R k c (line_of (record_at false t (m - 1)))) e
      (fact_here (m - 1) (omega arith) c (subst (λ (k : ℕ). 2 ≤ rank (type_at Z k).role) (sym e) q) (subst (λ (k : ℕ). c < size (type_at Z k)) (sym e) hc)))

  -- the number of cells of a value
  pub cells_of_lem : (a : ℕ) → 2 ≤ rank (type_at Z a).role → length (cells_at (step_zero (lines_of false t n) S R) a) ≡ size (type_at Z a)
  cells_of_lem a q = ap (λ (X : Frame). length (cells_at X a)) zero_is ∙ length_of a q
