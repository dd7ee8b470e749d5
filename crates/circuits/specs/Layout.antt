-- Where lines have their places: a state among the state words, an input in its row, a signal among those of a step; and how many there are of each. It depends on
-- no value. `program` says that the lines are a program's, else they are a circuit's. Assumes nothing.
use Rattle.std.specs.Prelude.{ℕ, suc, ◌+◌, ◌^◌, Bool, List, [], ◌∷◌, ◌++◌, get_or}
use Rattle.tables.specs.declared.Ty.{Ty}
use Rattle.tables.specs.Lines.{Line}
use Rattle.tables.specs.Types.{Ctx, ty_at, line_type, grow, no_ctx}

-- how many there are so far: cells of value lines, state words, inputs, signals
pub record Counts : Type 0 where
  pub cells : ℕ
  pub states : ℕ
  pub inputs : ℕ
  pub signals : ℕ

-- of the lines so far: their types, their places (entry 0 stands for no line) and the counts
pub record Layout : Type 0 where
  pub ctx : Ctx
  pub places : List ℕ
  pub counts : Counts

abbrev pub counting : (cells states inputs signals : ℕ) → Counts
counting v s i g = record { cells = v; states = s; inputs = i; signals = g }

-- the type and the place of an earlier line
abbrev pub type_at : Layout → ℕ → Ty
type_at Y a = ty_at Y.ctx a

abbrev pub place_at : Layout → ℕ → ℕ
place_at Y a = get_or Y.places a 0

-- the cells of a type: a word is an array of one cell
abbrev pub size : Ty → ℕ
size t = 2 ^ t.iw

-- the type of the line l itself
abbrev pub line_type_in : (program : Bool) → Layout → (l : Line) → Ty
line_type_in program Y l = line_type program (ty_at Y.ctx) l

-- its place: of a state's first word among the state words, of an input in its row, of a bad or constraint line among the signals of a step
abbrev pub place_of : Layout → (l : Line) → ℕ
place_of Y (Line.bitvec w) = 0
place_of Y (Line.array i e) = 0
place_of Y (Line.input s) = Y.counts.inputs
place_of Y (Line.state s) = Y.counts.states
place_of Y (Line.value s e) = 0
place_of Y (Line.init_or_next m s q v) = 0
place_of Y (Line.signal m a) = Y.counts.signals
place_of Y (Line.output a) = 0
place_of Y Line.unknown = 0

-- the counts after the line l, where n is the size of its type
abbrev pub counts_after : Counts → (n : ℕ) → (l : Line) → Counts
counts_after c n (Line.bitvec w) = c
counts_after c n (Line.array i e) = c
counts_after c n (Line.input s) = counting (c.cells + n) c.states (suc c.inputs) c.signals
counts_after c n (Line.state s) = counting (c.cells + n) (c.states + n) c.inputs c.signals
counts_after c n (Line.value s e) = counting (c.cells + n) c.states c.inputs c.signals
counts_after c n (Line.init_or_next m s q v) = c
counts_after c n (Line.signal m a) = counting c.cells c.states c.inputs (suc c.signals)
counts_after c n (Line.output a) = c
counts_after c n Line.unknown = c

abbrev pub no_layout : Layout
no_layout = record { ctx = no_ctx; places = 0 ∷ []; counts = counting 0 0 0 0 }

-- after one line more
abbrev pub lay : (program : Bool) → Layout → (l : Line) → Layout
lay program Y l =
    record { ctx = grow program Y.ctx l; places = Y.places ++ (place_of Y l ∷ []); counts = counts_after Y.counts (size (line_type_in program Y l)) l }

abbrev pub lay_all : (program : Bool) → Layout → List Line → Layout
lay_all program Y [] = Y
lay_all program Y (l ∷ ls) = lay_all program (lay program Y l) ls

-- of all lines
unfoldable pub layout : (program : Bool) → List Line → Layout
layout program C = lay_all program no_layout C
