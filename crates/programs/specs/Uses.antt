-- Loose lines, and needing uses: the two lists of the request's section Program, worked out on the circuit alone. The kinds' numbers stand in `loose_kind`, `need_kind₁` and
-- `need_kind₂` of `words`. Assumes nothing.
use Rattle.std.specs.Prelude.{ℕ, Bool, true, false, not, ◌&&◌, ◌||◌, List, [], ◌∷◌, ◌++◌, eqb}
use Rattle.words.specs.Kinds.{loose_kind, need_kind₁, need_kind₂}
use Rattle.tables.specs.Pick.{among}
use Rattle.tables.specs.Lines.{Line, Expr, bitvec, array, input, state, value, init_or_next, signal, output, unknown, const, unary, binary, equality, ite, read, write, init_or_next_kind, signal_kind, equality_kind}

-- ---- "Loose: input, 11 to 14, 18, 31, 32, 36 to 41, 47. and is loose if both operands are; or, xor and ite if a data operand is; concat if its high operand is."

-- "Width 64 and the rest are never loose": a line of width w and of the kind k, where l₁, l₂ and l₃ say which of its operands are loose
abbrev pub loose_line : (w k : ℕ) → (l₁ l₂ l₃ : Bool) → Bool
loose_line w k l₁ l₂ l₃ = not (eqb w 64) && loose_kind k l₁ l₂ l₃

-- a value line of width w, where L says which earlier lines are loose. A number is no line, and an array operator is in no flat circuit
abbrev pub loose_expr : (ℕ → Bool) → ℕ → Expr → Bool
loose_expr L w (const v) = loose_line w 3 false false false
loose_expr L w (unary k a x y) = loose_line w k (L a) false false
loose_expr L w (binary k a b) = loose_line w k (L a) (L b) false
loose_expr L w (equality e a b) = loose_line w (equality_kind e) (L a) (L b) false
loose_expr L w (ite c a b) = loose_line w 53 (L c) (L a) (L b)
loose_expr L w (read a i) = false
loose_expr L w (write a i v) = false

-- ---- "Needing a clean operand: 6 to 10, 15 to 17, 19 to 30, 42 to 46, 48 to 51, the amount of sll, the low operand of concat, the condition of ite." And both operands of an
-- overflow detector: "They need clean operands and are never loose"

abbrev pub when : Bool → ℕ → List ℕ
when true a = a ∷ []
when false a = []

-- the operands that a line of the kind k needs clean: of one operand that is a line, a, and of two, a and b
abbrev pub needs_unary : (k a : ℕ) → List ℕ
needs_unary k a = when (need_kind₁ k) a

abbrev pub needs_binary : (k a b : ℕ) → List ℕ
needs_binary k a b = when (need_kind₁ k) a ++ when (need_kind₂ k) b

-- of a value line: slice bounds and extra bits are numbers, and no third operand has to be clean
abbrev pub needs_expr : Expr → List ℕ
needs_expr (const v) = []
needs_expr (unary k a x y) = needs_unary k a
needs_expr (binary k a b) = needs_binary k a b
needs_expr (equality e a b) = needs_binary (equality_kind e) a b
needs_expr (ite c a b) = needs_binary 53 c a
needs_expr (read a i) = []
needs_expr (write a i v) = []

-- of every line
abbrev pub needs : Line → List ℕ
needs (bitvec w) = []
needs (array i e) = []
needs (input s) = []
needs (state s) = []
needs (value s e) = needs_expr e
needs (init_or_next m s q v) = needs_binary (init_or_next_kind m) q v
needs (signal m a) = needs_unary (signal_kind m) a
needs (output a) = needs_unary 10 a
needs unknown = []

-- the line i has a needing use: some line needs it clean
abbrev pub has_needing_use : List Line → ℕ → Bool
has_needing_use [] i = false
has_needing_use (l ∷ ls) i = among i (needs l) || has_needing_use ls i
