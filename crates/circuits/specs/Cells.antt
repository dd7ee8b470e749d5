-- Words and runs of neighbouring words. Assumes nothing.
use Rattle.std.specs.Prelude.{ℕ, zero, suc, ◌+◌, ◌%◌, ◌^◌, Bool, true, false, not, ◌&&◌, List, [], ◌∷◌, ◌++◌, eqb, length, take, drop}

-- the first where a word is not 0
abbrev pub if_nonzero : {A : Type 0} → ℕ → A → A → A
if_nonzero zero x y = y
if_nonzero (suc c) x y = x

-- what eq (true) and neq (false) give for values that are the same, or not
abbrev pub eq_or_neq : (eq same : Bool) → Bool
eq_or_neq true same = same
eq_or_neq false same = not same

-- two values have the same cells
abbrev pub same_cells : List ℕ → List ℕ → Bool
same_cells [] ys = true
same_cells (x ∷ xs) [] = true
same_cells (x ∷ xs) (y ∷ ys) = eqb x y && same_cells xs ys

-- each word modulo 2 ^ w
abbrev pub mask_words : (w : ℕ) → List ℕ → List ℕ
mask_words w [] = []
mask_words w (x ∷ xs) = x % 2 ^ w ∷ mask_words w xs

-- the n words from the place a on, and a list with the words vs put there
abbrev pub part : List ℕ → (a n : ℕ) → List ℕ
part w a n = take n (drop a w)

unfoldable pub put : List ℕ → (a : ℕ) → (vs : List ℕ) → List ℕ
put w a vs = take a w ++ (vs ++ drop (a + length vs) w)
