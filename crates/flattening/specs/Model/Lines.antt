-- What the code makes of one line: the number of its flat lines, their records, and what it keeps. The flat lines so far are p. Assumes nothing.
use Rattle.std.specs.Prelude.{ℕ, ◌+◌, ◌-◌, ◌*◌, ◌^◌, Bool, true, false, List, [], ◌∷◌, eqb, ltb, Option, Some, None}
use Rattle.tables.specs.declared.Note.{Note}
use Rattle.tables.specs.Pick.{pick}
use Rattle.tables.specs.Lines.{Line, Expr, fields, init_or_next_kind, signal_kind, equality_kind}
use Rattle.tables.specs.Model.Notes.{look_in}
use Rattle.flattening.specs.declared.Source.{Source}
use Rattle.flattening.specs.declared.Made.{Made}
use Rattle.flattening.specs.Flat.{join_kind}
use Rattle.flattening.specs.Model.Cells.{Held, at_of, bit_of, con_of, cell_in}
use Rattle.flattening.specs.Model.Rows.{still, of, rows_for, row_at, array_records, equality_records, read_records, write_records}

-- what is kept of the lines so far, and the types of all lines, as a check notes them
pub record Notes : Type 0 where
  pub held : Held
  pub types : List Note

abbrev pub notes : Held → (types : List Note) → Notes
notes H t = record { held = H; types = t }

abbrev pub sort_line : Notes → ℕ → ℕ
sort_line N s = at_of N.held s

abbrev pub word_line : Notes → ℕ → ℕ
word_line N a = cell_in N.held a 0

abbrev pub bit_in : Notes → ℕ → ℕ
bit_in N a = bit_of N.held a

abbrev pub con_in : Notes → ℕ → ℕ
con_in N a = con_of N.held a

-- the index width and the width of a line
abbrev pub deep_in : Notes → ℕ → ℕ
deep_in N a = (look_in N.types a).iw

abbrev pub wide_in : Notes → ℕ → ℕ
wide_in N a = (look_in N.types a).w

abbrev pub size_in : Notes → ℕ → ℕ
size_in N a = 2 ^ deep_in N a

-- a constant that is small
abbrev pub small : ℕ → Option ℕ
small v = pick (ltb v 256) (Some v) None

abbrev pub made_as : (next at bit : ℕ) → (old : Option ℕ) → (key : ℕ) → (con : Option ℕ) → Made
made_as n a b o k c = record { next = n; at = a; bit = b; old = o; key = k; con = c }

-- the number of flat lines
abbrev pub read_count : (c n : ℕ) → ℕ
read_count c n = pick (eqb c 0) (2 * (n - 1)) 0

abbrev pub write_count : (c n : ℕ) → ℕ
write_count c n = pick (eqb c 0) (2 * n) 0

abbrev pub expr_count : Notes → ℕ → Expr → ℕ
expr_count N s (Expr.const v) = 1
expr_count N s (Expr.unary k a x y) = 1
expr_count N s (Expr.binary k a b) = 1
expr_count N s (Expr.equality e a b) = size_in N a + (size_in N a - 1)
expr_count N s (Expr.ite c a b) = size_in N a
expr_count N s (Expr.read a i) = read_count (con_in N i) (size_in N a)
expr_count N s (Expr.write a i v) = write_count (con_in N i) (size_in N s)

abbrev pub flat_count : Notes → Line → ℕ
flat_count N (Line.bitvec w) = 1
flat_count N (Line.array i e) = 1 + 2 ^ wide_in N i
flat_count N (Line.input s) = 1
flat_count N (Line.state s) = size_in N s
flat_count N (Line.value s e) = expr_count N s e
flat_count N (Line.init_or_next m s q v) = size_in N q
flat_count N (Line.signal m a) = 1
flat_count N (Line.output a) = 1
flat_count N Line.unknown = 1

-- their records
abbrev pub expr_records : Notes → (p s : ℕ) → Expr → List (List ℕ)
expr_records N p s (Expr.const v) = fields 3 (sort_line N s) v 0 0 ∷ []
expr_records N p s (Expr.unary k a x y) = fields k (sort_line N s) (word_line N a) x y ∷ []
expr_records N p s (Expr.binary k a b) = fields k (sort_line N s) (word_line N a) (word_line N b) 0 ∷ []
expr_records N p s (Expr.equality e a b) = equality_records N.held p (equality_kind e) (join_kind e) (sort_line N s) a b (size_in N a)
expr_records N p s (Expr.ite c a b) = rows_for (size_in N a) (row_at N.held 53 (sort_line N s) (still (word_line N c)) (of a) (of b))
expr_records N p s (Expr.read a i) = pick (eqb (con_in N i) 0) (read_records N.held p (bit_in N a) (word_line N i) (sort_line N s) a (size_in N a)) []
expr_records N p s (Expr.write a i v) = pick (eqb (con_in N i) 0) (write_records N.held p (bit_in N s) (word_line N i) (sort_line N s) (word_line N v) a (size_in N s)) []

-- an init gives one word to all cells, a next its cells
abbrev pub given_from : Notes → Bool → ℕ → Source
given_from N true v = still (word_line N v)
given_from N false v = of v

abbrev pub line_records : Notes → ℕ → Line → List (List ℕ)
line_records N p (Line.bitvec w) = fields 1 0 w 0 0 ∷ []
line_records N p (Line.array i e) = array_records N.held (sort_line N i) (2 ^ wide_in N i)
line_records N p (Line.input s) = fields 4 (sort_line N s) 0 0 0 ∷ []
line_records N p (Line.state s) = rows_for (size_in N s) (row_at N.held 5 (sort_line N s) (still 0) (still 0) (still 0))
line_records N p (Line.value s e) = expr_records N p s e
line_records N p (Line.init_or_next m s q v) = rows_for (size_in N q) (row_at N.held (init_or_next_kind m) (sort_line N s) (of q) (given_from N m v) (still 0))
line_records N p (Line.signal m a) = fields (signal_kind m) 0 (word_line N a) 0 0 ∷ []
line_records N p (Line.output a) = fields 10 0 (word_line N a) 0 0 ∷ []
line_records N p Line.unknown = fields 0 0 0 0 0 ∷ []

-- what is kept: q is the number of flat lines after the line
abbrev pub expr_made : Notes → (p q s : ℕ) → Expr → Made
expr_made N p q s (Expr.const v) = made_as q q (bit_in N s) None 1 (small v)
expr_made N p q s (Expr.unary k a x y) = made_as q q (bit_in N s) None 1 None
expr_made N p q s (Expr.binary k a b) = made_as q q (bit_in N s) None 1 None
expr_made N p q s (Expr.equality e a b) = made_as q q (bit_in N s) None 1 None
expr_made N p q s (Expr.ite c a b) = made_as q (p + 1) (bit_in N s) None 1 None
expr_made N p q s (Expr.read a i) = made_as q (pick (eqb (con_in N i) 0) q (cell_in N.held a (con_in N i - 1))) (bit_in N s) None 1 None
expr_made N p q s (Expr.write a i v) =
    pick (eqb (con_in N i) 0) (made_as q (p + 2) (bit_in N s) None 2 None) (made_as q (word_line N v) (bit_in N s) (Some a) (con_in N i - 1) None)

abbrev pub line_made : Notes → (p q : ℕ) → Line → Made
line_made N p q (Line.bitvec w) = made_as q q 0 None 0 None
line_made N p q (Line.array i e) = made_as q (sort_line N e) (p + 1) None 0 None
line_made N p q (Line.input s) = made_as q q (bit_in N s) None 1 None
line_made N p q (Line.state s) = made_as q (p + 1) (bit_in N s) None 1 None
line_made N p q (Line.value s e) = expr_made N p q s e
line_made N p q (Line.init_or_next m s x v) = made_as q 0 0 None 0 None
line_made N p q (Line.signal m a) = made_as q 0 0 None 0 None
line_made N p q (Line.output a) = made_as q 0 0 None 0 None
line_made N p q Line.unknown = made_as q 0 0 None 0 None

abbrev pub flat_made : Notes → ℕ → Line → Made
flat_made N p l = line_made N p (p + flat_count N l) l
