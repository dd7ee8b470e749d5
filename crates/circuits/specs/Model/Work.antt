-- A step's lines as the code computes them, in a work area: the cells of all value lines in line order, then the state words, which begin at `all`. The list P holds
-- for each line four numbers: its first word in the work area, its cells, its place (of a state's first word, an input or a signal) and its width. `program` and `starting`
-- (p and f) are as in `Meaning`. Assumes nothing.
use Rattle.std.specs.Prelude.{ℕ, ◌+◌, ◌≤◌, ◌⊎◌, Bool, true, false, List, [], ◌∷◌, get_or, set, replicate}
use Rattle.tables.specs.Pick.{pick, alike}
use Rattle.tables.specs.Lines.{Line, Expr}
use Rattle.circuits.specs.Cells.{if_nonzero, part, put}
use Rattle.circuits.specs.Meaning.{cells_e, input_word, state_words}

-- two runs of n words do not meet
abbrev pub Apart : ℕ → ℕ → ℕ → Type 0
Apart x y n = (x + n ≤ y) ⊎ (y + n ≤ x)

-- ---- what is known of a line

abbrev pub laid_as : (o m q w : ℕ) → List ℕ
laid_as o m q w = o ∷ m ∷ q ∷ w ∷ []

abbrev pub laid_in : List (List ℕ) → ℕ → List ℕ
laid_in P a = get_or P a []

abbrev pub off_in : List (List ℕ) → ℕ → ℕ
off_in P a = get_or (laid_in P a) 0 0

abbrev pub num_in : List (List ℕ) → ℕ → ℕ
num_in P a = get_or (laid_in P a) 1 0

abbrev pub pos_in : List (List ℕ) → ℕ → ℕ
pos_in P a = get_or (laid_in P a) 2 0

abbrev pub wid_in : List (List ℕ) → ℕ → ℕ
wid_in P a = get_or (laid_in P a) 3 0

-- ---- what a line finds in the work area

-- the word of the line a, and its cells
abbrev pub word_kept : List (List ℕ) → List ℕ → ℕ → ℕ
word_kept P w a = get_or w (off_in P a) 0

abbrev pub cells_kept : List (List ℕ) → List ℕ → ℕ → List ℕ
cells_kept P w a = part w (off_in P a) (num_in P a)

-- the cells of an expression
abbrev pub expr_in : (program : Bool) (P : List (List ℕ)) (w : List ℕ) → Expr → List ℕ
expr_in p P w e = cells_e p (wid_in P) (word_kept P w) (cells_kept P w) e

-- the words of the state on the line n, and those that an init or a next line gives the state q
abbrev pub state_in : (program starting : Bool) (P : List (List ℕ)) (all : ℕ) (w : List ℕ) (n : ℕ) → List ℕ
state_in p f P all w n = state_words p f (wid_in P n) (part w (all + pos_in P n) (num_in P n))

abbrev pub stored_in : (P : List (List ℕ)) (w : List ℕ) → Bool → (q v : ℕ) → List ℕ
stored_in P w true q v = replicate (num_in P q) (word_kept P w v)
stored_in P w false q v = cells_kept P w v

-- ---- what a line leaves

-- the work area after the line n, on the input row ι
abbrev pub work_in : (program starting : Bool) (P : List (List ℕ)) (all : ℕ) (ι w : List ℕ) (n : ℕ) → Line → List ℕ
work_in p f P all ι w n (Line.bitvec x) = w
work_in p f P all ι w n (Line.array i e) = w
work_in p f P all ι w n (Line.input s) = put w (off_in P n) (input_word p (wid_in P n) (get_or ι (pos_in P n) 0) ∷ [])
work_in p f P all ι w n (Line.state s) = put (put w (all + pos_in P n) (state_in p f P all w n)) (off_in P n) (state_in p f P all w n)
work_in p f P all ι w n (Line.value s e) = put w (off_in P n) (expr_in p P w e)
work_in p f P all ι w n (Line.init_or_next m s q v) = pick (alike f m) (put w (all + pos_in P q) (stored_in P w m q v)) w
work_in p f P all ι w n (Line.signal m a) = w
work_in p f P all ι w n (Line.output a) = w
work_in p f P all ι w n Line.unknown = w

-- the signal bytes after the line n
abbrev pub sigs_in : (starting : Bool) (P : List (List ℕ)) (g w : List ℕ) (n : ℕ) → Line → List ℕ
sigs_in f P g w n (Line.bitvec x) = g
sigs_in f P g w n (Line.array i e) = g
sigs_in f P g w n (Line.input s) = g
sigs_in f P g w n (Line.state s) = g
sigs_in f P g w n (Line.value s e) = g
sigs_in f P g w n (Line.init_or_next m s q v) = g
sigs_in f P g w n (Line.signal m a) = pick f g (set g (pos_in P n) (if_nonzero (word_kept P w a) 1 0))
sigs_in f P g w n (Line.output a) = g
sigs_in f P g w n Line.unknown = g
