-- The cone of a line: itself and the lines it depends on; and rule 10 in the request's words, of which `proofs/InitRule.antt` shows that it is the answer's. Assumes nothing.
use Rattle.std.specs.Prelude.{ℕ, ◌≤◌, ◌≡◌, Bool, true, false, List, [], ◌∷◌, get_or}
use Rattle.tables.specs.Pick.{among}
use Rattle.tables.specs.Lines.{Line, Expr}

-- the line of a number, from 1
abbrev pub line_numbered : List Line → ℕ → Line
line_numbered C n = get_or (Line.unknown ∷ C) n Line.unknown

-- the lines whose values a value is computed from: its operands that are lines, not its sort and not plain numbers
abbrev pub uses_expr : Expr → List ℕ
uses_expr (Expr.const v) = []
uses_expr (Expr.unary k a x y) = a ∷ []
uses_expr (Expr.binary k a b) = a ∷ b ∷ []
uses_expr (Expr.equality e a b) = a ∷ b ∷ []
uses_expr (Expr.ite c a b) = c ∷ a ∷ b ∷ []
uses_expr (Expr.read a i) = a ∷ i ∷ []
uses_expr (Expr.write a i v) = a ∷ i ∷ v ∷ []

-- the same of a line; one without a value is beneath no other, so that nothing is asked of its operands
abbrev pub uses : Line → List ℕ
uses (Line.bitvec w) = []
uses (Line.array i e) = []
uses (Line.input s) = []
uses (Line.state s) = []
uses (Line.value s e) = uses_expr e
uses (Line.init_or_next m s q v) = []
uses (Line.signal m a) = []
uses (Line.output a) = []
uses Line.unknown = []

-- the line w is in the cone of the line v
pub data Cone (C : List Line) : ℕ → ℕ → Type 0 where
  itself : {v : ℕ} → Cone C v v
  under : {v w : ℕ} (a : ℕ) → among a (uses (line_numbered C v)) ≡ true → Cone C a w → Cone C v w

-- an input or a state
abbrev pub is_source : Line → Bool
is_source (Line.bitvec w) = false
is_source (Line.array i e) = false
is_source (Line.input s) = true
is_source (Line.state s) = true
is_source (Line.value s e) = false
is_source (Line.init_or_next m s q v) = false
is_source (Line.signal m a) = false
is_source (Line.output a) = false
is_source Line.unknown = false

-- a line of the cone of v is an input or a state
pub record SourceInCone (C : List Line) (v : ℕ) : Type 0 where
  pub line : ℕ
  pub in_cone : Cone C v line
  pub is : is_source (line_numbered C line) ≡ true

-- the state q has an init (true) or a next (false) line
pub record HasInitOrNext (C : List Line) (m : Bool) (q : ℕ) : Type 0 where
  pub line : ℕ
  pub sort : ℕ
  pub value : ℕ
  pub is : line_numbered C line ≡ Line.init_or_next m sort q value

-- "second init [..] of a state, or the init rule": "An init value's line number is below its state's, and its cone, itself and the lines it depends on, holds no input and no state."
pub data BarsInit (C : List Line) (q v : ℕ) : Type 0 where
  second_init : HasInitOrNext C true q → BarsInit C q v
  not_below : q ≤ v → BarsInit C q v
  source_in_cone : SourceInCone C v → BarsInit C q v

-- what bars an init (true) or a next (false) of the state q by the value v, after the lines C
abbrev pub RuleTen : Bool → List Line → (q v : ℕ) → Type 0
RuleTen true C q v = BarsInit C q v
RuleTen false C q v = HasInitOrNext C false q
