-- The pass over the lines before a run: what it counts, and where it puts a line. Assumes nothing.
use Rattle.std.specs.Prelude.{ℕ, ◌+◌, ◌<◌, ◌≡◌, Bool, List, Ok}
use Rattle.tables.specs.declared.Note.{Note}
use Rattle.tables.specs.Pick.{pick}
use Rattle.tables.specs.Lines.{Line}
use Rattle.tables.specs.Layout.{lines_of}
use Rattle.tables.specs.Types.{context}
use Rattle.tables.specs.Model.Notes.{Shows}
use Rattle.tables.specs.Tables.{checked}
use Rattle.circuits.specs.declared.Spot.{Spot}
use Rattle.circuits.specs.declared.Totals.{Totals}
use Rattle.circuits.specs.Layout.{Counts, counting}
use Rattle.circuits.specs.Free.{if_state}

-- the notes are those of an accepted table's check
pub record Noted (p : Bool) (t : List ℕ) (n : ℕ) (xs : List Note) : Type 0 where
  pub accepted : checked p t n ≡ Ok tt
  pub shows : Shows xs (context p (lines_of p t n))

-- the counts, as the code has them
abbrev pub counts_of : Totals → Counts
counts_of t = counting t.cells t.states t.inputs t.signals

abbrev pub totals_of : Counts → (free : ℕ) → Totals
totals_of c f = record { cells = c.cells; states = c.states; inputs = c.inputs; signals = c.signals; free = f }

-- the free words of a line of m cells
abbrev pub free_here : (is_driven : Bool) → (m : ℕ) → Line → ℕ
free_here is_driven m l = if_state l (pick is_driven 0 m) 0

abbrev pub spot : ℕ → ℕ → Spot
spot o q = record { off = o; at = q }

abbrev pub no_spot : Spot
no_spot = spot 0 0

-- the first word and the place of a line after lines of so many cells, state words, inputs and signals
abbrev pub spot_by : Counts → Line → Spot
spot_by c (Line.bitvec w) = no_spot
spot_by c (Line.array i e) = no_spot
spot_by c (Line.input s) = spot c.cells c.inputs
spot_by c (Line.state s) = spot c.cells c.states
spot_by c (Line.value s e) = spot c.cells 0
spot_by c (Line.init_or_next m s q v) = no_spot
spot_by c (Line.signal m a) = spot 0 c.signals
spot_by c (Line.output a) = no_spot
spot_by c Line.unknown = no_spot

-- the counts are small: m cells more fit a word of the list
pub record Small (c : Counts) (m : ℕ) : Type 0 where
  pub cells : c.cells + m < 4294967296
  pub states : c.states + m < 4294967296
  pub inputs : c.inputs + 1 < 4294967296
  pub signals : c.signals + 1 < 4294967296
