-- Names chained by hash, as the reader keeps them in one list of numbers: at each hash the last name that has it; behind those how many names there are; and of each name,
-- counted from 1, the one before it that has the same hash and where its first and its last byte stand in the text. Only that equal names have equal hashes is made use of.
-- Assumes nothing.
use Rattle.std.specs.Prelude.{ℕ, zero, suc, ◌+◌, ◌-◌, ◌*◌, ◌/◌, ◌%◌, ◌≤◌, ◌<◌, ◌≡◌, List, [], ◌∷◌, eqb, leb, length, take, drop, get_or}
use Rattle.tables.specs.Pick.{pick}

-- ---- the hash of a name, below 1024: of every byte where it has less than 32, else of some 16 to 32 of them, the last among them

abbrev pub hashes : ℕ
hashes = 1024

-- one byte more, and four at once, which wait less for one another
abbrev pub mixed : (h b : ℕ) → ℕ
mixed h b = (h * 37 + b) % hashes

abbrev pub mixed_four : (h a b c d : ℕ) → ℕ
mixed_four h a b c d = (h * 1874161 + a * 50653 + b * 1369 + c * 37 + d) % hashes

-- of the bytes before the place p, each step-th one from the last on, and at most m of them
abbrev pub hash_from : (m step : ℕ) (t : List ℕ) (h p : ℕ) → ℕ
hash_from zero step t h p = h
hash_from (suc m) step t h p = pick (leb step p) (hash_from m step t (mixed h (get_or t (p - 1) 0)) (p - step)) h

-- as many as there are four of, and then the others
abbrev pub hash_fours : (m step : ℕ) (t : List ℕ) (h p : ℕ) → ℕ
hash_fours zero step t h p = hash_from p step t h p
hash_fours (suc m) step t h p =
    pick (leb (4 * step) p)
    (hash_fours m step t (mixed_four h (get_or t (p - 1) 0) (get_or t (p - step - 1) 0) (get_or t (p - 2 * step - 1) 0) (get_or t (p - 3 * step - 1) 0)) (p - 4 * step))
    (hash_from p step t h p)

unfoldable pub hash_of : List ℕ → ℕ
hash_of t = hash_fours (length t) (length t / 32 + 1) t (length t % hashes) (length t)

-- ---- the list

-- the last name with the hash h, 0 where there is none
abbrev pub head_in : (w : List ℕ) (h : ℕ) → ℕ
head_in w h = get_or w h 0

-- how many names there are
abbrev pub count_in : (w : List ℕ) → ℕ
count_in w = get_or w hashes 0

-- the name i: the one before it with the same hash, 0 where there is none; where its first and its last byte stand
abbrev pub link_of : (i : ℕ) → ℕ
link_of i = hashes - 2 + 3 * i

abbrev pub link_in : (w : List ℕ) (i : ℕ) → ℕ
link_in w i = get_or w (link_of i) 0

abbrev pub first_byte : (w : List ℕ) (i : ℕ) → ℕ
first_byte w i = get_or w (link_of i + 1) 0

abbrev pub last_byte : (w : List ℕ) (i : ℕ) → ℕ
last_byte w i = get_or w (link_of i + 2) 0

abbrev pub name_at : (s w : List ℕ) (i : ℕ) → List ℕ
name_at s w i = take (last_byte w i + 1 - first_byte w i) (drop (first_byte w i) s)

-- the first n names, the last one first; and all
abbrev pub names_up_to : (s w : List ℕ) (n : ℕ) → List (List ℕ)
names_up_to s w zero = []
names_up_to s w (suc n) = name_at s w (suc n) ∷ names_up_to s w n

abbrev pub names_in : (s w : List ℕ) → List (List ℕ)
names_in s w = names_up_to s w (count_in w)

-- of the first n names the last one with the hash h, 0 where there is none
abbrev pub last_with : (s w : List ℕ) (n h : ℕ) → ℕ
last_with s w zero h = 0
last_with s w (suc n) h = pick (eqb (hash_of (name_at s w (suc n))) h) (suc n) (last_with s w n h)

-- the list w chains names of the text s
pub record Chained (s w : List ℕ) : Type 0 where
  pub size : hashes + 1 + 3 * count_in w ≤ length w
  pub heads : (h : ℕ) → h < hashes → head_in w h ≡ last_with s w (count_in w) h
  pub links : (n : ℕ) → n < count_in w → link_in w (suc n) ≡ last_with s w n (hash_of (name_at s w (suc n)))
  pub ordered : (n : ℕ) → n < count_in w → first_byte w (suc n) ≤ last_byte w (suc n)
  pub within : (n : ℕ) → n < count_in w → last_byte w (suc n) < length s

-- there is room for the names of the text s: a line that has one takes 8 bytes at least
abbrev pub Ample : (s w : List ℕ) → Type 0
Ample s w = 8 * (hashes + 1) + 3 * (length s + 1) ≤ 8 * length w

-- there is room for a name more
abbrev pub HasRoom : (w : List ℕ) → Type 0
HasRoom w = (count_in w < 8192) × (hashes + 4 + 3 * count_in w ≤ length w)
