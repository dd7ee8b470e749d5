-- Words that are set at places of a function and read again, where the places lie inside the list and apart. Assumes nothing.
use Prim.Native.Nat.{ℕ, zero, suc, ◌+◌, ◌<◌, ◌≤◌}
use mathlib.Core.Path.{◌≡◌, refl, ap, ap₂, ◌∙◌}
use mathlib.Core.List.{List, [], ◌∷◌, ◌++◌}
use native.Mathlib.Omega.{arith}
use lib.ListN.{length, get_or, set, take, length-set}
use lib.Seq.{get_or-set_same, get_or-set_other}
use Rattle.tables.specs.Layout.{words_from, set_words}

pub length_set_words : (at : ℕ → ℕ) (t : List ℕ) (j : ℕ) (xs : List ℕ) → length (set_words at t j xs) ≡ length t
length_set_words at t j [] = refl
length_set_words at t j (x ∷ xs) = length_set_words at (set t (at j) x) (suc j) xs ∙ length-set t (at j) x

-- a place that none of them is
pub word_other : (at : ℕ → ℕ) (t : List ℕ) (j : ℕ) (xs : List ℕ) (q : ℕ) → ((k : ℕ) → j ≤ k → k < j + length xs → q ≡ at k → ⊥) → get_or (set_words at t j xs) q 0 ≡ get_or t q 0
word_other at t j [] q f = refl
word_other at t j (x ∷ xs) q f =
    word_other at (set t (at j) x) (suc j) xs q (λ k a b e. f k (omega arith) (omega arith) e) ∙ get_or-set_other t (at j) q x 0 (f j (omega arith) (omega arith))

-- the words of other places
pub words_other : (at by : ℕ → ℕ) (t : List ℕ) (xs : List ℕ) (i m : ℕ) → ((k l : ℕ) → k < i + m → l < length xs → by k ≡ at l → ⊥) → words_from by (set_words at t 0 xs) i m ≡ words_from by t i m
words_other at by t xs i zero f = refl
words_other at by t xs i (suc m) f =
    ap₂ (λ (x : ℕ) (l : List ℕ). x ∷ l)
    (word_other at t 0 xs (by i) (λ k a b e. f i k (omega arith) (omega arith) e))
    (words_other at by t xs (suc i) m (λ k l a b e. f k l (omega arith) b e))

-- the same places: the words that were set
pub record Spread (at : ℕ → ℕ) (n len : ℕ) : Type 0 where
  pub inside : (j : ℕ) → j < n → at j < len
  pub apart : (j l : ℕ) → j < n → l < n → at j ≡ at l → j ≡ l

pub words_same : {at : ℕ → ℕ} {n len : ℕ} → Spread at n len → (t : List ℕ) (j m : ℕ) (xs : List ℕ) → length t ≡ len → j + length xs ≤ n → m ≤ length xs
    → words_from at (set_words at t j xs) j m ≡ take m xs
words_same s t j zero xs e h l = refl
words_same s t j (suc m) [] e h l = absurd (omega arith)
words_same {at} {n} {len} s t j (suc m) (x ∷ xs) e h l =
    let u : List ℕ = set t (at j) x in
    let i : at j < length t = omega (arith, s.inside j (omega arith)) in
    ap₂ (λ (y : ℕ) (l : List ℕ). y ∷ l)
    (word_other at u (suc j) xs (at j) (λ k a b q. omega (arith, s.apart j k (omega arith) (omega arith) q)) ∙ get_or-set_same t (at j) x 0 i)
    (words_same s u (suc j) m xs (length-set t (at j) x ∙ e) (omega arith) (omega arith))

-- ---- one word more

pub set_more : (at : ℕ → ℕ) (t : List ℕ) (j : ℕ) (xs : List ℕ) (x : ℕ) → set (set_words at t j xs) (at (j + length xs)) x ≡ set_words at t j (xs ++ (x ∷ []))
set_more at t j [] x = let q : j + 0 ≡ j = omega arith in ap (λ (k : ℕ). set t (at k) x) q
set_more at t j (y ∷ xs) x =
    let q : j + suc (length xs) ≡ suc j + length xs = omega arith in
    ap (λ (k : ℕ). set (set_words at (set t (at j) y) (suc j) xs) (at k) x) q ∙ set_more at (set t (at j) y) (suc j) xs x

pub length_words_from : (by : ℕ → ℕ) (u : List ℕ) (j m : ℕ) → length (words_from by u j m) ≡ m
length_words_from by u j zero = refl
length_words_from by u j (suc m) = ap suc (length_words_from by u (suc j) m)
