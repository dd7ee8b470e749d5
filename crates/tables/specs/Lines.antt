-- A circuit, or a program, is a list of lines; a line is named by its number, which is its place, from 1. A record of five words stands for a line: kind, sort line (in a program the width),
-- and three operands. Assumes nothing.
use Rattle.std.specs.Prelude.{ℕ, Bool, true, false, List, [], ◌∷◌, eqb, get_or}
use Rattle.tables.specs.Pick.{pick, inside}

-- what the lines that only have a value compute
pub data Expr : Type 0 where
  const : (v : ℕ) → Expr
  -- a word operator of the kind k: of one line and two numbers (11 to 20, and 56), 0 where it has none; of two lines (23 to 52, and 57 to 63)
  unary : (k a x y : ℕ) → Expr
  binary : (k a b : ℕ) → Expr
  -- eq (true) and neq (false), of words or of arrays
  equality : (e : Bool) (a b : ℕ) → Expr
  ite : (c a b : ℕ) → Expr
  read : (a i : ℕ) → Expr
  write : (a i v : ℕ) → Expr

pub data Line : Type 0 where
  bitvec : (w : ℕ) → Line
  array : (i e : ℕ) → Line
  input : (s : ℕ) → Line
  state : (s : ℕ) → Line
  value : (s : ℕ) (e : Expr) → Line
  -- init (true) and next (false): the value v for the state q
  init_or_next : (m : Bool) (s q v : ℕ) → Line
  -- bad (true) and constraint (false)
  signal : (m : Bool) (a : ℕ) → Line
  output : (a : ℕ) → Line
  -- a record whose kind is none
  unknown : Line

-- ---- the kinds' numbers

pub data Shape : Type 0 where
  is_bitvec is_array is_const is_input is_state is_output is_unary is_binary is_ite is_read is_write is_unknown : Shape
  is_init_or_next is_signal is_equality : Bool → Shape

-- the ranges first, so that a test of the code settles a chain
abbrev pub shape_of : ℕ → Shape
shape_of k =
    pick (inside 11 20 k) is_unary (
    pick (inside 23 52 k) is_binary (
    pick (inside 57 63 k) is_binary (
    pick (eqb k 1) is_bitvec (
    pick (eqb k 2) is_array (
    pick (eqb k 3) is_const (
    pick (eqb k 4) is_input (
    pick (eqb k 5) is_state (
    pick (eqb k 6) (is_init_or_next true) (
    pick (eqb k 7) (is_init_or_next false) (
    pick (eqb k 8) (is_signal true) (
    pick (eqb k 9) (is_signal false) (
    pick (eqb k 10) is_output (
    pick (eqb k 21) (is_equality true) (
    pick (eqb k 22) (is_equality false) (
    pick (eqb k 53) is_ite (
    pick (eqb k 54) is_read (
    pick (eqb k 55) is_write (
    pick (eqb k 56) is_unary (
    is_unknown)))))))))))))))))))

abbrev pub build : Shape → (k s a b c : ℕ) → Line
build is_bitvec k s a b c = Line.bitvec a
build is_array k s a b c = Line.array a b
build is_const k s a b c = Line.value s (Expr.const a)
build is_input k s a b c = Line.input s
build is_state k s a b c = Line.state s
build is_output k s a b c = Line.output a
build is_unary k s a b c = Line.value s (Expr.unary k a b c)
build is_binary k s a b c = Line.value s (Expr.binary k a b)
build is_ite k s a b c = Line.value s (Expr.ite a b c)
build is_read k s a b c = Line.value s (Expr.read a b)
build is_write k s a b c = Line.value s (Expr.write a b c)
build is_unknown k s a b c = Line.unknown
build (is_init_or_next m) k s a b c = Line.init_or_next m s a b
build (is_signal m) k s a b c = Line.signal m a
build (is_equality e) k s a b c = Line.value s (Expr.equality e a b)

-- ---- a record's words

abbrev pub kind_in : List ℕ → ℕ
kind_in r = get_or r 0 0

abbrev pub sort_in : List ℕ → ℕ
sort_in r = get_or r 1 0

abbrev pub first_in : List ℕ → ℕ
first_in r = get_or r 2 0

abbrev pub second_in : List ℕ → ℕ
second_in r = get_or r 3 0

abbrev pub third_in : List ℕ → ℕ
third_in r = get_or r 4 0

-- the line of a record
abbrev pub line_of : List ℕ → Line
line_of r = build (shape_of (kind_in r)) (kind_in r) (sort_in r) (first_in r) (second_in r) (third_in r)

-- the record of a line: unused words are 0
abbrev pub init_or_next_kind : Bool → ℕ
init_or_next_kind true = 6
init_or_next_kind false = 7

abbrev pub signal_kind : Bool → ℕ
signal_kind true = 8
signal_kind false = 9

abbrev pub equality_kind : Bool → ℕ
equality_kind true = 21
equality_kind false = 22

-- the record of a kind, a sort line and three operands
abbrev pub fields : (k s a b c : ℕ) → List ℕ
fields k s a b c = k ∷ s ∷ a ∷ b ∷ c ∷ []

abbrev pub expr_words : ℕ → Expr → List ℕ
expr_words s (Expr.const v) = fields 3 s v 0 0
expr_words s (Expr.unary k a x y) = fields k s a x y
expr_words s (Expr.binary k a b) = fields k s a b 0
expr_words s (Expr.equality e a b) = fields (equality_kind e) s a b 0
expr_words s (Expr.ite c a b) = fields 53 s c a b
expr_words s (Expr.read a i) = fields 54 s a i 0
expr_words s (Expr.write a i v) = fields 55 s a i v

abbrev pub words_of : Line → List ℕ
words_of (Line.bitvec w) = fields 1 0 w 0 0
words_of (Line.array i e) = fields 2 0 i e 0
words_of (Line.input s) = fields 4 s 0 0 0
words_of (Line.state s) = fields 5 s 0 0 0
words_of (Line.value s e) = expr_words s e
words_of (Line.init_or_next m s q v) = fields (init_or_next_kind m) s q v 0
words_of (Line.signal m a) = fields (signal_kind m) 0 a 0 0
words_of (Line.output a) = fields 10 0 a 0 0
words_of Line.unknown = fields 0 0 0 0 0
