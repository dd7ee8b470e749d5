-- How the code keeps what later lines need: six numbers for each line, in a list whose index is the line's number. Assumes nothing.
use Rattle.std.specs.Prelude.{ℕ, zero, suc, ◌+◌, ◌*◌, ◌%◌, ◌≤◌, ◌<◌, ◌≡◌, ◌≢◌, List, [], ◌∷◌, eqb, length, get_or, set, Option, Some, None}
use Rattle.tables.specs.Pick.{pick}
use Rattle.flattening.specs.declared.Made.{Made}

-- What is kept of each line: at, bit, old, key, con, word. Of a line whose `old` is 0, the cell j is held by the flat line at + key * j. A write by a constant index swaps one
-- cell: the cell `key` is held by the flat line `at`, and the others as those of the line `old` that it writes over. The words of all lines are one list of their own, in which
-- the cells of some lines are written out: of a line whose `key` is 257 the cell j is held by the flat line that the word at + j tells.
abbrev pub Held : Type 0
Held = List (List ℕ)

abbrev pub kept_numbers : (at bit old key con word : ℕ) → List ℕ
kept_numbers a b o k c w = a ∷ b ∷ o ∷ k ∷ c ∷ w ∷ []

-- what is kept of no line
abbrev pub nothing : List ℕ
nothing = kept_numbers 0 0 0 0 0 0

-- the number k of what is kept of the line m
abbrev pub kept_of : Held → (k m : ℕ) → ℕ
kept_of H k m = get_or (get_or H m nothing) k 0

abbrev pub at_of : Held → ℕ → ℕ
at_of H m = kept_of H 0 m

abbrev pub bit_of : Held → ℕ → ℕ
bit_of H m = kept_of H 1 m

abbrev pub old_of : Held → ℕ → ℕ
old_of H m = kept_of H 2 m

abbrev pub key_of : Held → ℕ → ℕ
key_of H m = kept_of H 3 m

abbrev pub con_of : Held → ℕ → ℕ
con_of H m = kept_of H 4 m

-- the flat line that the word i tells; the rest of the word is the code's own
abbrev pub written_at : Held → ℕ → ℕ
written_at H i = kept_of H 5 i % 131072

-- the flat line of the cell j of a line that writes over none
abbrev pub own_cell : Held → (m j : ℕ) → ℕ
own_cell H m j = pick (eqb (key_of H m) 257) (written_at H (at_of H m + j)) (at_of H m + key_of H m * j)

-- the flat line of the cell j of the line m, along at most k writes
abbrev pub cell_by : Held → (k m j : ℕ) → ℕ
cell_by H zero m j = own_cell H m j
cell_by H (suc k) m j = pick (eqb (old_of H m) 0) (own_cell H m j) (pick (eqb (key_of H m) j) (at_of H m) (cell_by H k (old_of H m) j))

-- a write comes after the line it writes over
unfoldable pub cell_in : Held → (m j : ℕ) → ℕ
cell_in H m j = cell_by H m m j

pub record Sound (H : Held) : Type 0 where
  pub falls : (m : ℕ) → old_of H m ≢ 0 → old_of H m < m
  pub low : (m : ℕ) → at_of H m ≤ 65536
  pub few : (m : ℕ) → key_of H m ≤ 257

-- the numbers that are kept of the line written over, and of a small constant: 0 for none
abbrev pub old_number : Option ℕ → ℕ
old_number None = 0
old_number (Some a) = a

abbrev pub con_number : Option ℕ → ℕ
con_number None = 0
con_number (Some v) = v + 1

-- the small constant of which the number n is kept
abbrev pub constant_of : ℕ → Option ℕ
constant_of zero = None
constant_of (suc v) = Some v

-- what is kept of a line is small
pub record Low (m : Made) : Type 0 where
  pub at : m.at ≤ 65536
  pub bit : m.bit ≤ 65536
  pub old : old_number m.old ≤ 65536
  pub key : m.key ≤ 256
  pub con : con_number m.con ≤ 256

-- the list with what is kept of the line n; the words stay
abbrev pub kept_now : Held → ℕ → Made → List ℕ
kept_now H n m = kept_numbers m.at m.bit (old_number m.old) m.key (con_number m.con) (kept_of H 5 n)

abbrev pub keep : Held → ℕ → Made → Held
keep H n m = set H n (kept_now H n m)

-- ---- cells written out

-- the list with the number w for the word i
abbrev pub put_word : Held → (i w : ℕ) → Held
put_word H i w = set H i (kept_numbers (kept_of H 0 i) (kept_of H 1 i) (kept_of H 2 i) (kept_of H 3 i) (kept_of H 4 i) w)

-- the list where the cells of the line m are those written out from the word u on
abbrev pub put_row : Held → (m u : ℕ) → Held
put_row H m u = set H m (kept_numbers u (kept_of H 1 m) 0 257 (kept_of H 4 m) (kept_of H 5 m))

-- the cells written out have words below u
pub record Written (H : Held) (u : ℕ) : Type 0 where
  pub within : u ≤ length H
  pub most : length H ≤ 65536
  pub below : (m : ℕ) → key_of H m ≡ 257 → at_of H m + 256 ≤ u

-- K differs from H in words from u on alone
pub record FromWord (H K : Held) (u : ℕ) : Type 0 where
  pub len : length K ≡ length H
  pub own : (k a : ℕ) → k < 5 → kept_of K k a ≡ kept_of H k a
  pub word : (i : ℕ) → i < u → written_at K i ≡ written_at H i

-- and where its words from u on tell the first n cells of the line m
pub record Filled (H K : Held) (m u n : ℕ) : Type 0 where
  pub from : FromWord H K u
  pub word : (j : ℕ) → j < n → written_at K (u + j) ≡ cell_in H m j

-- K tells of each line what H tells
pub record SameKept (H K : Held) : Type 0 where
  pub len : length K ≡ length H
  pub bit : (a : ℕ) → bit_of K a ≡ bit_of H a
  pub con : (a : ℕ) → con_of K a ≡ con_of H a
  pub old : (a : ℕ) → old_of H a ≡ 0 → old_of K a ≡ 0
  pub at : (a : ℕ) → old_of H a ≡ 0 → at_of K a ≡ at_of H a
  pub cells : (a j : ℕ) → j < 256 → cell_in K a j ≡ cell_in H a j

-- the same, in a list that can be looked up in, with the words below u used
pub record Shortened (H K : Held) (u : ℕ) : Type 0 where
  pub same : SameKept H K
  pub sound : Sound K
  pub written : Written K u
