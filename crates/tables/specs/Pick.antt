-- A choice by a test, and the tests that the rules are lists of. Assumes nothing.
use Rattle.std.specs.Prelude.{ℕ, Bool, true, false, not, ◌&&◌, ◌||◌, List, [], ◌∷◌, leb, eqb}

abbrev pub pick : {A : Type 0} → Bool → A → A → A
pick true x y = x
pick false x y = y

-- k from i to j
abbrev pub inside : ℕ → ℕ → ℕ → Bool
inside i j k = leb i k && leb k j

-- every test of a list holds
abbrev pub all : List Bool → Bool
all [] = true
all (b ∷ bs) = b && all bs

-- n is in a list
abbrev pub among : ℕ → List ℕ → Bool
among n [] = false
among n (x ∷ xs) = eqb n x || among n xs

-- the same flag
abbrev pub alike : Bool → Bool → Bool
alike true b = b
alike false b = not b
