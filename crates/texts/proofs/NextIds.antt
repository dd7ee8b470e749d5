-- The ids of lines, one line more: they go on rising, and the last that is not 0 is the line's. Assumes nothing.
use Prim.Native.Nat.{ℕ, zero, suc}
use mathlib.Core.Path.{◌≡◌, refl}
use mathlib.Core.Bool.{Bool, true, false, ◌&&◌}
use mathlib.Core.List.{List, [], ◌∷◌, ◌++◌}
use native.Mathlib.Omega.{arith}
use lib.Dec.{eqb, leb, ltb}
use lib.ListN.{replicate}
use borrow.Author.Tests.{ltb-true, ne_eqb}
use Rattle.tables.specs.Pick.{pick}
use Rattle.tables.specs.Ids.{most_id, follows, rising}
use Rattle.tables.proofs.Kept.{both}
use Rattle.texts.specs.Reading.{last_of}

-- the last id that is not 0, or l where there is none
abbrev pub last_named : (l : ℕ) → List ℕ → ℕ
last_named l [] = l
last_named l (d ∷ ds) = last_named (pick (eqb d 0) l d) ds

-- an id that follows another is not 0
pub follows_some : (l d : ℕ) → follows l d ≡ true → d ≡ 0 → ⊥
follows_some l d f e = omega (arith, ltb-true l d (both (ltb l d) (leb d most_id) f).0)

pub named_zero : (l : ℕ) (ds : List ℕ) → last_named l (ds ++ (0 ∷ [])) ≡ last_named l ds
named_zero l [] = refl
named_zero l (d ∷ ds) = named_zero (pick (eqb d 0) l d) ds

pub named_more : (l : ℕ) (ds : List ℕ) (d : ℕ) → (d ≡ 0 → ⊥) → last_named l (ds ++ (d ∷ [])) ≡ d
named_more l [] d n = rw (ne_eqb d 0 n) refl
named_more l (e ∷ ds) d n = named_more (pick (eqb e 0) l e) ds d n

pub last_more : (l : ℕ) (ds : List ℕ) (d : ℕ) → last_of l (ds ++ (d ∷ [])) ≡ d
last_more l [] d = refl
last_more l (e ∷ ds) d = last_more e ds d

-- behind zeros
pub last_line_lem : (l : ℕ) (ds : List ℕ) (k d : ℕ) → last_of l (ds ++ (replicate k 0 ++ (d ∷ []))) ≡ d
last_line_lem l [] zero d = refl
last_line_lem l [] (suc k) d = last_line_lem 0 [] k d
last_line_lem l (e ∷ ds) k d = last_line_lem e ds k d

pub named_line : (l : ℕ) (ds : List ℕ) (k d : ℕ) → (d ≡ 0 → ⊥) → last_named l (ds ++ (replicate k 0 ++ (d ∷ []))) ≡ d
named_line l [] zero d n = rw (ne_eqb d 0 n) refl
named_line l [] (suc k) d n = named_line l [] k d n
named_line l (e ∷ ds) k d n = named_line (pick (eqb e 0) l e) ds k d n

-- ---- rising

pub rising_zero : (l : ℕ) (ds : List ℕ) → rising l ds ≡ true → rising l (ds ++ (0 ∷ [])) ≡ true
rising_zero l [] h = refl
rising_zero l (e ∷ ds) h = go (eqb e 0) h (rising_zero l ds) (rising_zero e ds)
  where
    go : (b : Bool) → pick b (rising l ds) (follows l e && rising e ds) ≡ true → (rising l ds ≡ true → rising l (ds ++ (0 ∷ [])) ≡ true) → (rising e ds ≡ true → rising e (ds ++ (0 ∷ [])) ≡ true)
        → pick b (rising l (ds ++ (0 ∷ []))) (follows l e && rising e (ds ++ (0 ∷ []))) ≡ true
    go true h f g = f h
    go false h f g = let q = both (follows l e) _ h in rw q.0 (g q.1)

pub rising_more : (l : ℕ) (ds : List ℕ) (d : ℕ) → rising l ds ≡ true → follows (last_named l ds) d ≡ true → rising l (ds ++ (d ∷ [])) ≡ true
rising_more l [] d h f = rw (ne_eqb d 0 (follows_some l d f), f) refl
rising_more l (e ∷ ds) d h f = go (eqb e 0) h f (λ q. rising_more l ds d q) (λ q. rising_more e ds d q)
  where
    go : (b : Bool) → pick b (rising l ds) (follows l e && rising e ds) ≡ true → follows (last_named (pick b l e) ds) d ≡ true
        → (rising l ds ≡ true → follows (last_named l ds) d ≡ true → rising l (ds ++ (d ∷ [])) ≡ true)
        → (rising e ds ≡ true → follows (last_named e ds) d ≡ true → rising e (ds ++ (d ∷ [])) ≡ true) → pick b (rising l (ds ++ (d ∷ []))) (follows l e && rising e (ds ++ (d ∷ []))) ≡ true
    go true h f p q = p h f
    go false h f p q = let z = both (follows l e) _ h in rw z.0 (q z.1 f)

-- the ids of a line: zeros and its own
pub rising_line : (l k d : ℕ) (es : List ℕ) → follows l d ≡ true → rising d es ≡ true → rising l (replicate k 0 ++ (d ∷ es)) ≡ true
rising_line l zero d es f r = rw (ne_eqb d 0 (follows_some l d f), f) r
rising_line l (suc k) d es f r = rising_line l k d es f r
