-- The signals of all steps, from their bytes and a mark for each signal: 1 for a bad line, 0 for a constraint. Assumes nothing.
use Rattle.std.specs.Prelude.{ℕ, zero, suc, List, [], ◌∷◌, ◌++◌, eqb, length, drop}
use Rattle.words.specs.Word.{bit}
use Rattle.tables.specs.Lines.{Line}
use Rattle.circuits.specs.Meaning.{Signal, signal_byte}

-- a mark for each signal: 1 for a bad line, 0 for a constraint
abbrev pub bad_mark : Line → List ℕ
bad_mark (Line.bitvec w) = []
bad_mark (Line.array i e) = []
bad_mark (Line.input s) = []
bad_mark (Line.state s) = []
bad_mark (Line.value s e) = []
bad_mark (Line.init_or_next m s q v) = []
bad_mark (Line.signal m a) = bit m ∷ []
bad_mark (Line.output a) = []
bad_mark Line.unknown = []

abbrev pub marks : List Line → List ℕ
marks [] = []
marks (l ∷ C) = bad_mark l ++ marks C

-- ---- the signals of all steps, from their bytes and marks

-- the signals of one step
abbrev pub zip_sig : List ℕ → List ℕ → List Signal
zip_sig [] vs = []
zip_sig (b ∷ bs) [] = []
zip_sig (b ∷ bs) (v ∷ vs) = signal_byte (eqb b 1) v ∷ zip_sig bs vs

-- the signals of k steps
abbrev pub sig_rows : List ℕ → ℕ → List ℕ → List (List Signal)
sig_rows bs zero g = []
sig_rows bs (suc k) g = zip_sig bs g ∷ sig_rows bs k (drop (length bs) g)
