-- States that nobody drives. A next line drives its state, on whatever later line it stands, `next q q` too; a state without next is free. Its words at step 0 are those of any
-- state; from step 1 on they are words of the row, which stand behind the inputs: one for each cell of each free state, in line order. Assumes nothing.
use Rattle.std.specs.Prelude.{ℕ, suc, ◌%◌, ◌^◌, Bool, true, false, List, [], ◌∷◌, ◌++◌, length, drop, get_or, replicate}
use Rattle.tables.specs.declared.Ty.{Ty}
use Rattle.tables.specs.Lines.{Line}
use Rattle.tables.specs.Types.{given}
use Rattle.circuits.specs.Layout.{Layout, size, line_type_in, no_layout, lay, layout}

-- where a state word comes from at a later step than 0: of a driven state it is the one that the last step left, of a free state of the width w a word of the row
pub data Source : Type 0 where
  driven : Source
  free : (w : ℕ) → Source

abbrev pub source_of : (is_driven : Bool) → (w : ℕ) → Source
source_of true w = driven
source_of false w = free w

-- one for each cell of a state of the type t
abbrev pub cell_sources : (is_driven : Bool) → (t : Ty) → List Source
cell_sources is_driven t = replicate (size t) (source_of is_driven t.w)

-- the first for a state line, the second for any other
abbrev pub if_state : {A : Type 0} → Line → A → A → A
if_state (Line.bitvec w) x y = y
if_state (Line.array i e) x y = y
if_state (Line.input s) x y = y
if_state (Line.state s) x y = x
if_state (Line.value s e) x y = y
if_state (Line.init_or_next m s q v) x y = y
if_state (Line.signal m a) x y = y
if_state (Line.output a) x y = y
if_state Line.unknown x y = y

-- those of the line l, which is the next after the lines laid out in Y; drives says of a line whether a next line sets it
abbrev pub sources_here : (program : Bool) (drives : ℕ → Bool) → Layout → (l : Line) → List Source
sources_here program drives Y l = if_state l (cell_sources (drives (length Y.places)) (line_type_in program Y l)) []

abbrev pub sources_from : (program : Bool) (drives : ℕ → Bool) → Layout → List Line → List Source
sources_from program drives Y [] = []
sources_from program drives Y (l ∷ ls) = sources_here program drives Y l ++ sources_from program drives (lay program Y l) ls

-- a next line sets the state on the line q, on whatever line it stands: all lines are looked at before the first step
abbrev pub has_next : (program : Bool) → (C : List Line) → (q : ℕ) → Bool
has_next program C q = given (layout program C).ctx false q

-- of all state words, in line order, cells rising
unfoldable pub sources : (program : Bool) → (C : List Line) → List Source
sources program C = sources_from program (has_next program C) no_layout C

-- how many words are free
abbrev pub free_count : List Source → ℕ
free_count [] = 0
free_count (driven ∷ ss) = free_count ss
free_count (free w ∷ ss) = suc (free_count ss)

-- the state words that a later step begins with: from those that the last step left, and from the words of the row for free states, each taken modulo 2 ^ w
abbrev pub fed : List Source → (left row : List ℕ) → List ℕ
fed [] left row = []
fed (driven ∷ ss) left row = get_or left 0 0 ∷ fed ss (drop 1 left) row
fed (free w ∷ ss) left row = get_or row 0 0 % 2 ^ w ∷ fed ss (drop 1 left) (drop 1 row)
