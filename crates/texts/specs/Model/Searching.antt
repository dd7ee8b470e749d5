-- Where a search for an id stands among ids that rise but for zeros. Ids are counted from 0 here. Assumes nothing.
use Rattle.std.specs.Prelude.{ℕ, ◌≤◌, ◌<◌, ◌≡◌, List, length, get_or}

-- the id at i is not 0
abbrev pub Named : (ds : List ℕ) (i : ℕ) → Type 0
Named ds i = get_or ds i 0 ≡ 0 → ⊥

-- the ids before lo are below d; those from hi on are not, but for zeros; those from lo up to hi are 0
abbrev pub AllBelow : (ds : List ℕ) (lo d : ℕ) → Type 0
AllBelow ds lo d = (j : ℕ) → j < lo → get_or ds j 0 < d

abbrev pub NoneBelow : (ds : List ℕ) (hi d : ℕ) → Type 0
NoneBelow ds hi d = (j : ℕ) → hi ≤ j → j < length ds → Named ds j → d ≤ get_or ds j 0

abbrev pub AllZero : (ds : List ℕ) (lo hi : ℕ) → Type 0
AllZero ds lo hi = (j : ℕ) → lo ≤ j → j < hi → get_or ds j 0 ≡ 0

-- o is the first from i on whose id is not 0, or the end
pub record FirstNamed (ds : List ℕ) (i o : ℕ) : Type 0 where
  pub least : i ≤ o
  pub most : o ≤ length ds
  pub zeros : AllZero ds i o
  pub named : o < length ds → Named ds o

-- the search that stands at i goes on at r, or where r is i before i
pub record GoesOn (ds : List ℕ) (d i r : ℕ) : Type 0 where
  pub least : i ≤ r
  pub most : r ≤ length ds
  pub behind : i < r → AllBelow ds r d
  pub before : r ≡ i → NoneBelow ds i d

-- and is done
pub record Parted (ds : List ℕ) (i d : ℕ) : Type 0 where
  pub below : AllBelow ds i d
  pub above : NoneBelow ds i d
