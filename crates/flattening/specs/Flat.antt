-- The flat circuit of a circuit: "lines in order, new ids without gaps". Every line of the circuit leaves flat lines, its chunk, and of it is kept what later lines
-- need (`Info`). The sentences quoted are the request's. Assumes nothing.
use Rattle.std.specs.Prelude.{ℕ, zero, suc, ◌+◌, ◌-◌, ◌*◌, ◌^◌, Bool, true, false, List, [], ◌∷◌, ◌++◌, map, length, get_or, set, replicate}
use Rattle.std.proofs.Math.Option.{Option, none, some}
use Rattle.tables.specs.Lines.{Line, Expr, words_of}
use Rattle.tables.specs.Layout.{lines_of, from}

-- Of a sort: its width (an array's elements'), the number of cells of its values, the flat sort line of one cell; of an array sort besides the new width-1 sort line and
-- the flat lines of the index constants. A value has all that from its sort, and the flat line of each of its cells; and its number where the line is a constant.
pub record Info : Type 0 where
  pub width : ℕ
  pub size : ℕ
  pub elem : ℕ
  pub bit : ℕ
  pub index : List ℕ
  pub cells : List ℕ
  pub known : Option ℕ

abbrev pub no_info : Info
no_info = record { width = 0; size = 0; elem = 0; bit = 0; index = []; cells = []; known = none }

-- what is kept of the line a: entry 0 stands for no line
abbrev pub info_at : List Info → ℕ → Info
info_at I a = get_or I a no_info

abbrev pub lines_at : List Info → ℕ → List ℕ
lines_at I a = (info_at I a).cells

-- the flat line of a word
abbrev pub line_at : List Info → ℕ → ℕ
line_at I a = get_or (lines_at I a) 0 0

-- ---- the lines for each cell

-- "index constants 0 upward"
abbrev pub const_lines : ℕ → List ℕ → List Line
const_lines s [] = []
const_lines s (k ∷ ks) = Line.value s (Expr.const k) ∷ const_lines s ks

-- "init, next, ite: one line for each cell"
abbrev pub init_or_next_lines : Bool → ℕ → (qs vs : List ℕ) → List Line
init_or_next_lines m s [] vs = []
init_or_next_lines m s (q ∷ qs) [] = []
init_or_next_lines m s (q ∷ qs) (v ∷ vs) = Line.init_or_next m s q v ∷ init_or_next_lines m s qs vs

abbrev pub ite_lines : ℕ → ℕ → (ps qs : List ℕ) → List Line
ite_lines s c [] qs = []
ite_lines s c (p ∷ ps) [] = []
ite_lines s c (p ∷ ps) (q ∷ qs) = Line.value s (Expr.ite c p q) ∷ ite_lines s c ps qs

-- "eq of arrays, on its own sort: eq for each cell, then ands from the left; neq: neq and or"
abbrev pub equality_lines : Bool → ℕ → (ps qs : List ℕ) → List Line
equality_lines e s [] qs = []
equality_lines e s (p ∷ ps) [] = []
equality_lines e s (p ∷ ps) (q ∷ qs) = Line.value s (Expr.equality e p q) ∷ equality_lines e s ps qs

abbrev pub join_kind : Bool → ℕ
join_kind true = 33
join_kind false = 34

-- "ands from the left": r is the result so far, b the number of the next line, and ps are the tests left
abbrev pub join_lines : Bool → (s r b : ℕ) → List ℕ → List Line
join_lines e s r b [] = []
join_lines e s r b (p ∷ ps) = Line.value s (Expr.binary (join_kind e) r p) ∷ join_lines e s b (suc b) ps

-- "write, for each k rising: eq of index and constant k, .. then ite of that, value, old cell k": the index constants and the old cells go together
abbrev pub write_lines : (one s i v b : ℕ) → (ks ps : List ℕ) → List Line
write_lines one s i v b [] ps = []
write_lines one s i v b (k ∷ ks) [] = []
write_lines one s i v b (k ∷ ks) (p ∷ ps) = Line.value one (Expr.equality true i k) ∷ Line.value s (Expr.ite b v p) ∷ write_lines one s i v (suc (suc b)) ks ps

-- the numbers of the ites of n cells
abbrev pub write_cells : (b n : ℕ) → List ℕ
write_cells b zero = []
write_cells b (suc n) = suc b ∷ write_cells (suc (suc b)) n

-- "read: start from the last cell; for k falling from the last but one to 0, the same eq, then ite of that, cell k, result so far": r is the result so far, b the number
-- of the next line, and the cells below k are left
abbrev pub read_chain : (one s i : ℕ) → (ks ps : List ℕ) → (r b k : ℕ) → List Line
read_chain one s i ks ps r b zero = []
read_chain one s i ks ps r b (suc k) =
    Line.value one (Expr.equality true i (get_or ks k 0)) ∷ Line.value s (Expr.ite b (get_or ps k 0) r) ∷ read_chain one s i ks ps (suc b) (suc (suc b)) k

-- ---- one line: b is the number of the next flat line

pub record Chunk : Type 0 where
  pub lines : List Line
  pub info : Info

abbrev pub bitvec_info : (w b : ℕ) → Info
bitvec_info w b = record { width = w; size = 1; elem = b; bit = 0; index = []; cells = []; known = none }

-- i and e are kept of the index sort and of the element sort
abbrev pub array_info : (i e : Info) → ℕ → Info
array_info i e b =
    record { width = e.width; size = 2 ^ i.width; elem = e.elem; bit = b; index = from (suc b) (2 ^ i.width); cells = []; known = none }

-- a value of the sort f whose cells are the flat lines ps
abbrev pub value_info : Info → List ℕ → Option ℕ → Info
value_info f ps k = record { width = f.width; size = f.size; elem = f.elem; bit = f.bit; index = f.index; cells = ps; known = k }

-- "each line that stands for a cell takes the element sort of its line's array sort"; "both constant and new width-1 sort being those of the write's own array sort line";
-- "an index line of kind 3 adds no lines: write swaps one cell"
abbrev pub chunk_write : Info → List ℕ → Option ℕ → (i v b : ℕ) → Chunk
chunk_write f ps (some k) i v b = record { lines = []; info = value_info f (set ps k v) none }
chunk_write f ps none i v b =
    record { lines = write_lines f.bit f.elem i v b f.index ps; info = value_info f (write_cells b (length ps)) none }

-- "read's ites take the read's own sort", f; "the array operand's sort line gives the eq its sort and constant", g; "read stands for the cell" where the index is constant.
-- An array has two cells or more, so the last line is the value
abbrev pub chunk_read : (f g : Info) → Option ℕ → (i b : ℕ) → Chunk
chunk_read f g (some k) i b = record { lines = []; info = value_info f (get_or g.cells k 0 ∷ []) none }
chunk_read f g none i b =
    let k = length g.cells - 1 in
    record {
      lines = read_chain g.bit f.elem i g.index g.cells (get_or g.cells k 0) b k;
      info = value_info f ((b + (2 * k - 1)) ∷ []) none;
    }

-- of eq and neq the tests are the n lines from b on; the result is the first of them, then the join with each of the others, so the last line is the value
abbrev pub chunk_expr : List Info → ℕ → Info → Expr → Chunk
chunk_expr I b f (Expr.const v) = record { lines = Line.value f.elem (Expr.const v) ∷ []; info = value_info f (b ∷ []) (some v) }
chunk_expr I b f (Expr.unary k a x y) = record { lines = Line.value f.elem (Expr.unary k (line_at I a) x y) ∷ []; info = value_info f (b ∷ []) none }
chunk_expr I b f (Expr.binary k x y) = record { lines = Line.value f.elem (Expr.binary k (line_at I x) (line_at I y)) ∷ []; info = value_info f (b ∷ []) none }
chunk_expr I b f (Expr.equality e x y) =
    let n = length (lines_at I x) in
    record {
      lines = equality_lines e f.elem (lines_at I x) (lines_at I y) ++ join_lines e f.elem b (b + n) (from (suc b) (n - 1));
      info = value_info f ((b + 2 * (n - 1)) ∷ []) none;
    }
chunk_expr I b f (Expr.ite c x y) =
    record { lines = ite_lines f.elem (line_at I c) (lines_at I x) (lines_at I y); info = value_info f (from b (length (lines_at I x))) none }
chunk_expr I b f (Expr.read a i) = chunk_read f (info_at I a) (info_at I i).known (line_at I i) b
chunk_expr I b f (Expr.write a i v) = chunk_write f (lines_at I a) (info_at I i).known (line_at I i) (line_at I v) b

-- the value lines of the cells that an init (true) or a next gives to n cells: an init has one word for all of them
abbrev pub value_lines : List Info → Bool → (n v : ℕ) → List ℕ
value_lines I true n v = replicate n (line_at I v)
value_lines I false n v = lines_at I v

-- "array sort: `sort bitvec 1`, then index constants 0 upward"; "state: one state for each cell"; "any other line is copied, operands renumbered"
abbrev pub chunk : List Info → ℕ → Line → Chunk
chunk I b (Line.bitvec w) = record { lines = Line.bitvec w ∷ []; info = bitvec_info w b }
chunk I b (Line.array i e) =
    record {
      lines = Line.bitvec 1 ∷ const_lines (info_at I i).elem (from 0 (2 ^ (info_at I i).width));
      info = array_info (info_at I i) (info_at I e) b;
    }
chunk I b (Line.input s) = record { lines = Line.input (info_at I s).elem ∷ []; info = value_info (info_at I s) (b ∷ []) none }
chunk I b (Line.state s) =
    record { lines = replicate (info_at I s).size (Line.state (info_at I s).elem); info = value_info (info_at I s) (from b (info_at I s).size) none }
chunk I b (Line.value s e) = chunk_expr I b (info_at I s) e
chunk I b (Line.init_or_next m s q v) =
    record { lines = init_or_next_lines m (info_at I s).elem (lines_at I q) (value_lines I m (length (lines_at I q)) v); info = no_info }
chunk I b (Line.signal m a) = record { lines = Line.signal m (line_at I a) ∷ []; info = no_info }
chunk I b (Line.output a) = record { lines = Line.output (line_at I a) ∷ []; info = no_info }
chunk I b Line.unknown = record { lines = Line.unknown ∷ []; info = no_info }

-- ---- all lines

abbrev pub flatten_from : List Info → ℕ → List Line → List Line
flatten_from I b [] = []
flatten_from I b (l ∷ ls) =
    let c = chunk I b l in
    c.lines ++ flatten_from (I ++ (c.info ∷ [])) (b + length c.lines) ls

unfoldable pub flatten : List Line → List Line
flatten C = flatten_from (no_info ∷ []) 1 C

-- the flat circuit of a table with its count, and its records
abbrev pub flat_lines : List ℕ → ℕ → List Line
flat_lines t n = flatten (lines_of false t n)

unfoldable pub flat_records : List ℕ → ℕ → List (List ℕ)
flat_records t n = map words_of (flat_lines t n)
