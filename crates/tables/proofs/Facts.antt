-- What is known of a line that breaks no rule, as named facts: its operands are earlier lines of the right class, sorts and widths fit, a state has at most one init and
-- one next line. `OkLine p L G l` says it of the line l after lines whose types are L, and of which G has had an init or a next. Assumes nothing.
use Prim.Native.Nat.{ℕ, ◌^◌, ◌≤◌, ◌<◌}
use mathlib.Core.Path.{◌≡◌}
use mathlib.Core.Logic.{◌⊎◌}
use mathlib.Core.Bool.{Bool, true, false}
use mathlib.Core.List.{List, [], ◌∷◌}
use Rattle.tables.specs.declared.Ty.{Ty}
use Rattle.tables.specs.Kinds.{row_of, second_class, third_class}
use Rattle.tables.specs.Lines.{Line, Expr}
use Rattle.tables.specs.Types.{rank, marked, sort_at, Ctx, ty_at, given, grow}
use Rattle.tables.specs.Rules.{fits_unary, fits_binary, value_index}
use Rattle.tables.specs.Tables.{unused}
use Rattle.tables.proofs.Shapes.{BinaryKind}

pub record IsValue (t : Ty) : Type 0 where
  pub is : 2 ≤ rank t.role

pub record IsWord (t : Ty) : Type 0 where
  pub is : 2 ≤ rank t.role
  pub flat : t.iw ≡ 0

pub record IsArray (t : Ty) : Type 0 where
  pub is : 2 ≤ rank t.role
  pub deep : 0 < t.iw

pub record IsSort (t : Ty) : Type 0 where
  pub is : rank t.role ≡ 1

pub record IsWordSort (t : Ty) : Type 0 where
  pub is : rank t.role ≡ 1
  pub flat : t.iw ≡ 0

pub record IsArraySort (t : Ty) : Type 0 where
  pub is : rank t.role ≡ 1
  pub deep : 0 < t.iw

-- the same widths
pub record Same (a t : Ty) : Type 0 where
  pub iw : a.iw ≡ t.iw
  pub w : a.w ≡ t.w

pub record OkConst (t : Ty) (v : ℕ) : Type 0 where
  pub sort : IsWordSort t
  pub fits : v < 2 ^ t.w

-- the kinds of operators of one word: a mask is a program's
abbrev pub OneKind : Bool → ℕ → Type 0
OneKind false k = (11 ≤ k) × (k ≤ 20)
OneKind true k = ((11 ≤ k) × (k ≤ 20)) ⊎ (k ≡ 56)

pub record OkUnary (p : Bool) (t : Ty) (k : ℕ) (a : Ty) (x y : ℕ) : Type 0 where
  pub kind : OneKind p k
  pub sort : IsWordSort t
  pub arg : IsWord a
  pub rule : fits_unary k t.w a.w x y ≡ true
  -- a number that the kind does not have is 0
  pub spare₂ : unused (second_class (row_of k)) x ≡ true
  pub spare₃ : unused (third_class (row_of k)) y ≡ true

pub record OkBinary (t : Ty) (k : ℕ) (a b : Ty) : Type 0 where
  pub kind : BinaryKind k
  pub sort : IsWordSort t
  pub left : IsWord a
  pub right : IsWord b
  pub rule : fits_binary k t.w a.w b.w ≡ true

pub record OkEquality (t a b : Ty) : Type 0 where
  pub sort : IsWordSort t
  pub bit : t.w ≡ 1
  pub left : IsValue a
  pub right : IsValue b
  pub same : Same b a

pub record OkIte (t c a b : Ty) : Type 0 where
  pub sort : IsSort t
  pub cond : IsWord c
  pub bit : c.w ≡ 1
  pub left : IsValue a
  pub right : IsValue b
  pub same_a : Same a t
  pub same_b : Same b t

pub record OkRead (p : Bool) (t a i : Ty) : Type 0 where
  pub form : p ≡ false
  pub sort : IsWordSort t
  pub arr : IsArray a
  pub index : IsWord i
  pub wide : a.w ≡ t.w
  pub iw : i.w ≡ a.iw

pub record OkWrite (p : Bool) (t a i v : Ty) : Type 0 where
  pub form : p ≡ false
  pub sort : IsArraySort t
  pub arr : IsArray a
  pub index : IsWord i
  pub value : IsWord v
  pub same : Same a t
  pub iw : i.w ≡ t.iw
  pub vw : v.w ≡ t.w

abbrev pub OkExpr : Bool → (ℕ → Ty) → Ty → Expr → Type 0
OkExpr p L t (Expr.const v) = OkConst t v
OkExpr p L t (Expr.unary k a x y) = OkUnary p t k (L a) x y
OkExpr p L t (Expr.binary k a b) = OkBinary t k (L a) (L b)
OkExpr p L t (Expr.equality e a b) = OkEquality t (L a) (L b)
OkExpr p L t (Expr.ite c a b) = OkIte t (L c) (L a) (L b)
OkExpr p L t (Expr.read a i) = OkRead p t (L a) (L i)
OkExpr p L t (Expr.write a i v) = OkWrite p t (L a) (L i) (L v)

pub record OkBitvec (p : Bool) (w : ℕ) : Type 0 where
  pub form : p ≡ false
  pub least : 1 ≤ w
  pub most : w ≤ 64

pub record OkArray (p : Bool) (i e : Ty) : Type 0 where
  pub form : p ≡ false
  pub index : IsWordSort i
  pub element : IsWordSort e
  pub most : i.w ≤ 8

-- an init's value is a word; its line stands before the state's, and is not marked
pub record OkInit (q v : ℕ) (b : Ty) : Type 0 where
  pub word : IsWord b
  pub below : v < q
  pub unmarked : marked b ≡ false

abbrev pub OkValue : Bool → (q v : ℕ) → Ty → Type 0
OkValue true q v b = OkInit q v b
OkValue false q v b = IsValue b

pub record OkInitOrNext (m : Bool) (G : Bool → ℕ → Bool) (t a b : Ty) (q v : ℕ) : Type 0 where
  pub sort : IsSort t
  pub state : rank a.role ≡ 4
  pub same : Same a t
  pub value : OkValue m q v b
  pub iw : b.iw ≡ value_index m t
  pub w : b.w ≡ t.w
  pub once : G m q ≡ false

pub record OkSignal (a : Ty) : Type 0 where
  pub word : IsWord a
  pub bit : a.w ≡ 1

abbrev pub OkLine : Bool → (ℕ → Ty) → (Bool → ℕ → Bool) → Line → Type 0
OkLine p L G (Line.bitvec w) = OkBitvec p w
OkLine p L G (Line.array i e) = OkArray p (L i) (L e)
OkLine p L G (Line.input s) = IsWordSort (sort_at p L s)
OkLine p L G (Line.state s) = IsSort (sort_at p L s)
OkLine p L G (Line.value s e) = OkExpr p L (sort_at p L s) e
OkLine p L G (Line.init_or_next m s q v) = OkInitOrNext m G (sort_at p L s) (L q) (L v) q v
OkLine p L G (Line.signal m a) = OkSignal (L a)
OkLine p L G (Line.output a) = IsWord (L a)
OkLine p L G Line.unknown = ⊥

-- all lines, each after those before it
abbrev pub AllOk : Bool → Ctx → List Line → Type 0
AllOk p c [] = Unit {0}
AllOk p c (l ∷ ls) = OkLine p (ty_at c) (given c) l × AllOk p (grow p c l) ls
