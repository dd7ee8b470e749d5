-- Rows that are put and read again: laws of every layout that has the two facts. Assumes nothing.
use Prim.Native.Nat.{ℕ, zero, suc, ◌+◌, ◌<◌, ◌≤◌}
use mathlib.Core.Path.{◌≡◌, refl, ap, ap₂, sym, ◌∙◌}
use mathlib.Core.Bool.{Bool}
use mathlib.Core.List.{List, [], ◌∷◌, ◌++◌, map}
use native.Mathlib.Omega.{arith}
use lib.ListN.{length, get_or, take, replicate, length-replicate}
use lib.Seq.{take_all}
use Rattle.tables.specs.Layout.{Placing, record_size, held, words_from, row_by, rows_from, row_set, put_rows, filled_by}
use Rattle.tables.proofs.Layouts.{Sound}
use Rattle.tables.proofs.Spread.{Spread, length_set_words, words_other, words_same, length_words_from}

-- ---- lengths, and rows one after the other: no fact is needed

pub length_row : (f : Placing) (t : List ℕ) (i : ℕ) (x : List ℕ) → length (row_set f t i x) ≡ length t
length_row f t i x = length_set_words (f (length t) i) t 0 x

pub length_put : (f : Placing) (t : List ℕ) (i : ℕ) (xs : List (List ℕ)) → length (put_rows f t i xs) ≡ length t
length_put f t i [] = refl
length_put f t i (x ∷ xs) = length_put f (row_set f t i x) (suc i) xs ∙ length_row f t i x

pub put_append : (f : Placing) (t : List ℕ) (i : ℕ) (xs ys : List (List ℕ)) → put_rows f (put_rows f t i xs) (i + length xs) ys ≡ put_rows f t i (xs ++ ys)
put_append f t i [] ys = let q : i + 0 ≡ i = omega arith in ap (λ (k : ℕ). put_rows f t k ys) q
put_append f t i (x ∷ xs) ys =
    let q : i + suc (length xs) ≡ suc i + length xs = omega arith in
    ap (λ (k : ℕ). put_rows f (put_rows f (row_set f t i x) (suc i) xs) k ys) q ∙ put_append f (row_set f t i x) (suc i) xs ys

pub length_rows : (f : Placing) (m : ℕ) (t : List ℕ) (i n : ℕ) → length (rows_from f m t i n) ≡ n
length_rows f m t i zero = refl
length_rows f m t i (suc n) = ap suc (length_rows f m t (suc i) n)

row_from : (f : Placing) (m : ℕ) (t : List ℕ) (i n k : ℕ) → k < n → get_or (rows_from f m t i n) k [] ≡ row_by f m t (i + k)
row_from f m t i zero k h = absurd (omega arith)
row_from f m t i (suc n) zero h = let q : i ≡ i + 0 = omega arith in ap (row_by f m t) q
row_from f m t i (suc n) (suc k) h = let q : suc i + k ≡ i + suc k = omega arith in row_from f m t (suc i) n k (omega arith) ∙ ap (row_by f m t) q

pub row_at : (f : Placing) (m : ℕ) (t : List ℕ) (n k : ℕ) → k < n → get_or (rows_from f m t 0 n) k [] ≡ row_by f m t k
row_at f m t n k h = let q : 0 + k ≡ k = omega arith in row_from f m t 0 n k h ∙ ap (row_by f m t) q

rows_more_from : (f : Placing) (m : ℕ) (t : List ℕ) (i n : ℕ) → rows_from f m t i (suc n) ≡ rows_from f m t i n ++ (row_by f m t (i + n) ∷ [])
rows_more_from f m t i zero = let q : i ≡ i + 0 = omega arith in ap (λ (k : ℕ). row_by f m t k ∷ []) q
rows_more_from f m t i (suc n) =
    let q : suc i + n ≡ i + suc n = omega arith in
    ap (λ (l : List (List ℕ)). row_by f m t i ∷ l) (rows_more_from f m t (suc i) n ∙ ap (λ (k : ℕ). rows_from f m t (suc i) n ++ (row_by f m t k ∷ [])) q)

pub rows_more : (f : Placing) (m : ℕ) (t : List ℕ) (n : ℕ) → rows_from f m t 0 (suc n) ≡ rows_from f m t 0 n ++ (row_by f m t n ∷ [])
rows_more f m t n = let q : 0 + n ≡ n = omega arith in rows_more_from f m t 0 n ∙ ap (λ (k : ℕ). rows_from f m t 0 n ++ (row_by f m t k ∷ [])) q

pub take_rows : (f : Placing) (m : ℕ) (t : List ℕ) (i k n : ℕ) → k ≤ n → take k (rows_from f m t i n) ≡ rows_from f m t i k
take_rows f m t i zero n h = refl
take_rows f m t i (suc k) zero h = absurd (omega arith)
take_rows f m t i (suc k) (suc n) h = ap (λ (l : List (List ℕ)). row_by f m t i ∷ l) (take_rows f m t (suc i) k n (omega arith))

-- ---- a list that holds rows and zeros

pub filled_none : (f : Placing) (len : ℕ) → filled_by f len [] ≡ replicate len 0
unfolding filled_by
filled_none f len = refl

pub length_filled : (f : Placing) (len : ℕ) (xs : List (List ℕ)) → length (filled_by f len xs) ≡ len
unfolding filled_by
length_filled f len xs = length_put f (replicate len 0) 0 xs ∙ length-replicate len 0

pub put_filled : (f : Placing) (len : ℕ) (xs : List (List ℕ)) (k : ℕ) (ys : List (List ℕ)) → k ≡ length xs → put_rows f (filled_by f len xs) k ys ≡ filled_by f len (xs ++ ys)
unfolding filled_by
put_filled f len xs k ys q =
    let z : k ≡ 0 + length xs = omega arith in
    ap (λ (i : ℕ). put_rows f (put_rows f (replicate len 0) 0 xs) i ys) z ∙ put_append f (replicate len 0) 0 xs ys

-- ---- rows of w words

abbrev pub SizedBy : ℕ → List (List ℕ) → Type 0
SizedBy w [] = Unit {0}
SizedBy w (x ∷ xs) = (length x ≡ w) × SizedBy w xs

pub rows_sized : (f : Placing) (w : ℕ) (t : List ℕ) (i n : ℕ) → SizedBy w (rows_from f w t i n)
rows_sized f w t i zero = tt
rows_sized f w t i (suc n) = (length_words_from (f (length t) i) t 0 w, rows_sized f w t (suc i) n)

pub take_whole : (w : ℕ) (xs : List (List ℕ)) → SizedBy w xs → map (take w) xs ≡ xs
take_whole w [] z = refl
take_whole w (x ∷ xs) z = ap₂ (λ (y : List ℕ) (ys : List (List ℕ)). y ∷ ys) (take_all w x (omega (arith, z.0))) (take_whole w xs z.1)

-- ---- what is put is read again

-- the first m words of rows that have w
module _ {p : Bool} {f : Placing} (s : Sound p f) {m w : ℕ} (part : m ≤ w) (few : w ≤ record_size p) where
  spread : (len i : ℕ) → i < held p len → Spread (f len i) (record_size p) len
  spread len i h =
      record {
        inside = λ j a. s.inside len i j h a;
        apart = λ j l a b e. (s.apart len i j i l h h a b e).1;
      }

  row_same : (t : List ℕ) (i : ℕ) (x : List ℕ) → i < held p (length t) → length x ≡ w → row_by f m (row_set f t i x) i ≡ take m x
  row_same t i x h e =
      ap (λ (len : ℕ). words_from (f len i) (row_set f t i x) 0 m) (length_row f t i x)
      ∙ words_same (spread (length t) i h) t 0 m x refl (omega arith) (omega arith)

  row_other : (t : List ℕ) (i k : ℕ) (x : List ℕ) → i < held p (length t) → k < held p (length t) → (k ≡ i → ⊥) → length x ≡ w
      → row_by f m (row_set f t i x) k ≡ row_by f m t k
  row_other t i k x h hk n e =
      ap (λ (len : ℕ). words_from (f len k) (row_set f t i x) 0 m) (length_row f t i x)
      ∙ words_other (f (length t) i) (f (length t) k) t x 0 m (λ a b u v q. n (s.apart (length t) k a i b hk h (omega arith) (omega arith) q).0)

  put_other : (t : List ℕ) (i : ℕ) (xs : List (List ℕ)) (k : ℕ) → k < i → i + length xs ≤ held p (length t) → SizedBy w xs → row_by f m (put_rows f t i xs) k ≡ row_by f m t k
  put_other t i [] k b h z = refl
  put_other t i (x ∷ xs) k b h z =
      let u : List ℕ = row_set f t i x in
      let q : held p (length t) ≡ held p (length u) = ap (held p) (sym (length_row f t i x)) in
      put_other u (suc i) xs k (omega arith) (omega (arith, q)) z.1 ∙ row_other t i k x (omega arith) (omega arith) (λ e. omega arith) z.0

  put_rows_lem : (t : List ℕ) (i : ℕ) (xs : List (List ℕ)) → i + length xs ≤ held p (length t) → SizedBy w xs → rows_from f m (put_rows f t i xs) i (length xs) ≡ map (take m) xs
  put_rows_lem t i [] h z = refl
  put_rows_lem t i (x ∷ xs) h z =
      let u : List ℕ = row_set f t i x in
      let q : held p (length t) ≡ held p (length u) = ap (held p) (sym (length_row f t i x)) in
      ap₂ (λ (y : List ℕ) (ys : List (List ℕ)). y ∷ ys)
      (put_other u (suc i) xs i (omega arith) (omega (arith, q)) z.1 ∙ row_same t i x (omega arith) z.0)
      (put_rows_lem u (suc i) xs (omega (arith, q)) z.1)

  pub rows_filled : (len : ℕ) (xs : List (List ℕ)) → length xs ≤ held p len → SizedBy w xs → rows_from f m (filled_by f len xs) 0 (length xs) ≡ map (take m) xs
  unfolding filled_by
  rows_filled len xs h z =
      let q : held p len ≡ held p (length {A = ℕ} (replicate len 0)) = ap (held p) (sym (length-replicate len 0)) in put_rows_lem (replicate len 0) 0 xs (omega (arith, q)) z
