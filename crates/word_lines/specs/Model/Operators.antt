-- A line whose kind k is a constant's or a word operator's, on the operands a, b and c: what it asks, and its word, in the work area w, where the list P says
-- where the words lie. Of other kinds nothing is said. Assumes nothing.
use Rattle.std.specs.Prelude.{ℕ, ◌≡◌, ◌⊎◌, Bool, List, [], ◌∷◌, length, Option, Some, None}
use Rattle.tables.specs.Lines.{Expr, Shape, is_const, is_unary, is_binary, shape_of}
use Rattle.circuits.specs.Cells.{put}
use Rattle.circuits.specs.Model.Work.{off_in, expr_in}
use Rattle.circuits.specs.Model.Fits.{WordBelow, FitUnary, FitBinary}

pub record Asked (p : Bool) (P : List (List ℕ)) (w : List ℕ) (n k a b c : ℕ) : Type 0 where
  pub const : shape_of k ≡ is_const → WordBelow P (length w) n
  pub unary : shape_of k ≡ is_unary → WordBelow P (length w) n × FitUnary p P w n k a b c
  pub binary : shape_of k ≡ is_binary → WordBelow P (length w) n × FitBinary p P w n k a b

-- the line is the expression e, whose one cell is v
pub record Computes (p : Bool) (P : List (List ℕ)) (w : List ℕ) (k : ℕ) (S : Shape) (e : Expr) (v : ℕ) : Type 0 where
  pub shape : shape_of k ≡ S
  pub word : expr_in p P w e ≡ v ∷ []

abbrev pub Computed : (p : Bool) (P : List (List ℕ)) (w : List ℕ) (k a b c v : ℕ) → Type 0
Computed p P w k a b c v = Computes p P w k is_const (Expr.const a) v ⊎ (Computes p P w k is_unary (Expr.unary k a b c) v ⊎ Computes p P w k is_binary (Expr.binary k a b) v)

abbrev pub Given : (p : Bool) (P : List (List ℕ)) (w : List ℕ) (k a b c : ℕ) → Option ℕ → Type 0
Given p P w k a b c (Some v) = Computed p P w k a b c v
Given p P w k a b c None = Unit {0}

-- ---- a word that is stored, if there is one: what is asked, and the work area after it

abbrev pub Room : (P : List (List ℕ)) (w : List ℕ) (n : ℕ) → Option ℕ → Type 0
Room P w n (Some v) = WordBelow P (length w) n
Room P w n None = Unit {0}

abbrev pub leaves : (P : List (List ℕ)) (w : List ℕ) (n : ℕ) → Option ℕ → List ℕ
leaves P w n (Some v) = put w (off_in P n) (v ∷ [])
leaves P w n None = w
