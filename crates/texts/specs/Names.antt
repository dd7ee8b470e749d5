-- Names that are used twice. A name is a line's one extra token, its bytes as they stand; a line without a name has the empty one. Assumes nothing.
use Rattle.std.specs.Prelude.{ℕ, Bool, false, ◌||◌, List, [], ◌∷◌}
use Rattle.texts.specs.Split.{same_bytes}

-- a token that stands alone
abbrev pub only : List (List ℕ) → List ℕ
only [] = []
only (t ∷ []) = t
only (t ∷ u ∷ r) = []

-- the bytes t are one of the names ns
abbrev pub among : (t : List ℕ) (ns : List (List ℕ)) → Bool
among t [] = false
among t (n ∷ ns) = same_bytes t n || among t ns

-- "A line whose name already stands on an earlier line": ns are the names of the earlier lines
abbrev pub used : (name : List ℕ) (ns : List (List ℕ)) → Bool
used [] ns = false
used (c ∷ t) ns = among (c ∷ t) ns

-- the names of the lines so far with that of one more, the last one first
abbrev pub with_name : (name : List ℕ) (ns : List (List ℕ)) → List (List ℕ)
with_name [] ns = ns
with_name (c ∷ t) ns = (c ∷ t) ∷ ns
