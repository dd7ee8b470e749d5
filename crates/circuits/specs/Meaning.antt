-- What the lines of a circuit mean, and those of a program: `program` says which. `starting` is true for the walk over the lines as a run starts, where init lines
-- give the states their values, and false at each step, where next lines do. A value has 2 ^ iw cells, a word one. What a line's cells are is said over three
-- lookups of its operands (width, word, cells), so that the same text speaks of the values so far and of a work area that holds them. Assumes nothing.
use Rattle.std.specs.Prelude.{ℕ, ◌%◌, ◌^◌, Bool, true, false, not, ◌||◌, List, [], ◌∷◌, ◌++◌, get_or, set, replicate}
use Rattle.words.specs.Word.{bit}
use Rattle.words.specs.Op.{op_of}
use Rattle.words.specs.Circuit.{circ}
use Rattle.words.specs.Program.{prog}
use Rattle.tables.specs.Pick.{pick, alike}
use Rattle.tables.specs.Lines.{Line, Expr}
use Rattle.circuits.specs.Cells.{if_nonzero, eq_or_neq, same_cells, mask_words, part, put}
use Rattle.circuits.specs.Layout.{Layout, type_at, place_at, size, line_type_in, lay, no_layout}

-- a word operator of the kind k: in a circuit on words of its operands' widths, u and v, in a program on words of 64 bits
abbrev pub op_word : (program : Bool) → (k u v a b c : ℕ) → ℕ
op_word false k u v a b c = circ (op_of k) u v a b c
op_word true k u v a b c = prog (op_of k) u v a b c

-- the cells of an expression; a plain number counts as a word of 64 bits
abbrev pub cells_e : (program : Bool) (width word : ℕ → ℕ) (cells : ℕ → List ℕ) → Expr → List ℕ
cells_e program width word cells (Expr.const v) = v ∷ []
cells_e program width word cells (Expr.unary k a x y) = op_word program k (width a) 64 (word a) x y ∷ []
cells_e program width word cells (Expr.binary k a b) = op_word program k (width a) (width b) (word a) (word b) 0 ∷ []
cells_e program width word cells (Expr.equality e a b) = bit (eq_or_neq e (same_cells (cells a) (cells b))) ∷ []
cells_e program width word cells (Expr.ite c a b) = if_nonzero (word c) (cells a) (cells b)
cells_e program width word cells (Expr.read a i) = get_or (cells a) (word i) 0 ∷ []
cells_e program width word cells (Expr.write a i v) = set (cells a) (word i) (word v)

-- an input x of the width w is taken modulo 2 ^ w, in a program as it stands
abbrev pub input_word : (program : Bool) → (w x : ℕ) → ℕ
input_word false w x = x % 2 ^ w
input_word true w x = x

-- State words of the width w as a state line has them. Start words are taken modulo 2 ^ w. A program's later words are stored and read whole.
abbrev pub state_words : (program starting : Bool) (w : ℕ) → List ℕ → List ℕ
state_words program starting w xs = pick (starting || not program) (mask_words w xs) xs

-- ---- all lines of one step, in order

-- a signal: whether it is of a bad line, and its byte
pub data Signal : Type 0 where
  signal_byte : (bad : Bool) (v : ℕ) → Signal

-- The lines so far, in a walk over all of them: as a run starts, or at a step.
pub record Frame : Type 0 where
  -- their types, their places and the counts
  pub lay : Layout
  -- the cells of each; entry 0 stands for no line
  pub env : List (List ℕ)
  -- the state words as the next step finds them
  pub sts : List ℕ
  -- the signals
  pub sigs : List Signal

abbrev pub cells_at : Frame → ℕ → List ℕ
cells_at A a = get_or A.env a []

abbrev pub word_at : Frame → ℕ → ℕ
word_at A a = get_or (cells_at A a) 0 0

abbrev pub width_at : Frame → ℕ → ℕ
width_at A a = (type_at A.lay a).w

-- the words of the state on the line l, from the state words
abbrev pub state_cells : (program starting : Bool) (states : List ℕ) → Frame → (l : Line) → List ℕ
state_cells program starting states A l =
    state_words program starting (line_type_in program A.lay l).w (part states A.lay.counts.states (size (line_type_in program A.lay l)))

-- the cells of the line l, from the state words and the input row
abbrev pub cells_of : (program starting : Bool) (states row : List ℕ) → Frame → (l : Line) → List ℕ
cells_of program starting states row A (Line.bitvec w) = []
cells_of program starting states row A (Line.array i e) = []
cells_of program starting states row A (Line.input s) = input_word program (line_type_in program A.lay (Line.input s)).w (get_or row A.lay.counts.inputs 0) ∷ []
cells_of program starting states row A (Line.state s) = state_cells program starting states A (Line.state s)
cells_of program starting states row A (Line.value s e) = cells_e program (width_at A) (word_at A) (cells_at A) e
cells_of program starting states row A (Line.init_or_next m s q v) = []
cells_of program starting states row A (Line.signal m a) = []
cells_of program starting states row A (Line.output a) = []
cells_of program starting states row A Line.unknown = []

-- what a line gives a state of n cells: an init (true) its one word for all of them, a next (false) its cells
abbrev pub given_words : Frame → Bool → (n v : ℕ) → List ℕ
given_words A true n v = replicate n (word_at A v)
given_words A false n v = cells_at A v

-- The state words after the line l. Init lines store as the run starts, next lines at a step. A state line reads the words that the step began with, and those that are
-- stored stand apart, so all next values are set together.
abbrev pub states_after : (program starting : Bool) (states : List ℕ) → Frame → (l : Line) → List ℕ
states_after program starting states A (Line.bitvec w) = A.sts
states_after program starting states A (Line.array i e) = A.sts
states_after program starting states A (Line.input s) = A.sts
states_after program starting states A (Line.state s) = A.sts ++ state_cells program starting states A (Line.state s)
states_after program starting states A (Line.value s e) = A.sts
states_after program starting states A (Line.init_or_next m s q v) =
    pick (alike starting m) (put A.sts (place_at A.lay q) (given_words A m (size (type_at A.lay q)) v)) A.sts
states_after program starting states A (Line.signal m a) = A.sts
states_after program starting states A (Line.output a) = A.sts
states_after program starting states A Line.unknown = A.sts

-- the signals after the line l: a signal is 1 where the word is not 0
abbrev pub signals_after : Frame → (l : Line) → List Signal
signals_after A (Line.bitvec w) = A.sigs
signals_after A (Line.array i e) = A.sigs
signals_after A (Line.input s) = A.sigs
signals_after A (Line.state s) = A.sigs
signals_after A (Line.value s e) = A.sigs
signals_after A (Line.init_or_next m s q v) = A.sigs
signals_after A (Line.signal m a) = A.sigs ++ (signal_byte m (if_nonzero (word_at A a) 1 0) ∷ [])
signals_after A (Line.output a) = A.sigs
signals_after A Line.unknown = A.sigs

abbrev pub eval_line : (program starting : Bool) (states row : List ℕ) → Frame → (l : Line) → Frame
eval_line program starting states row A l =
    record {
      lay = lay program A.lay l;
      env = A.env ++ (cells_of program starting states row A l ∷ []);
      sts = states_after program starting states A l;
      sigs = signals_after A l;
    }

abbrev pub eval_all : (program starting : Bool) (states row : List ℕ) → Frame → List Line → Frame
eval_all program starting states row A [] = A
eval_all program starting states row A (l ∷ ls) = eval_all program starting states row (eval_line program starting states row A l) ls

abbrev pub no_frame : Frame
no_frame = record { lay = no_layout; env = [] ∷ []; sts = []; sigs = [] }

-- all lines of C, from the state words and the input row
unfoldable pub step : (program starting : Bool) → (C : List Line) (states row : List ℕ) → Frame
step program starting C states row = eval_all program starting states row no_frame C
