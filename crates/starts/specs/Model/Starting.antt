-- Init lines, and what the start of a run asks where there are none. Assumes nothing.
use Rattle.std.specs.Prelude.{ℕ, ◌≡◌, Bool, false, ◌||◌, List, [], ◌∷◌, Ok}
use Rattle.tables.specs.Lines.{Line}
use Rattle.tables.specs.Layout.{lines_of}
use Rattle.tables.specs.Tables.{checked}
use Rattle.circuits.specs.Layout.{layout}
use Rattle.circuits.specs.Model.Places.{ShowsAll}

abbrev pub init_line : Line → Bool
init_line (Line.bitvec w) = false
init_line (Line.array i e) = false
init_line (Line.input s) = false
init_line (Line.state s) = false
init_line (Line.value s e) = false
init_line (Line.init_or_next m s q v) = m
init_line (Line.signal m a) = false
init_line (Line.output a) = false
init_line Line.unknown = false

-- one of the lines is an init
abbrev pub has_init : List Line → Bool
has_init [] = false
has_init (l ∷ ls) = init_line l || has_init ls

-- an accepted table without an init line, whose states have so many words, and a list that holds what is known of its lines
pub record NoInit (p : Bool) (t : List ℕ) (n : ℕ) (P : List (List ℕ)) (words : ℕ) : Type 0 where
  pub accepted : checked p t n ≡ Ok tt
  pub shows : ShowsAll P (layout p (lines_of p t n))
  pub states : (layout p (lines_of p t n)).counts.states ≡ words
  pub none : has_init (lines_of p t n) ≡ false
