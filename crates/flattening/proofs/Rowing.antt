-- The records of the lines for each cell, as rows. Assumes nothing.
use Prim.Native.Nat.{ℕ, zero, suc, ◌+◌, ◌-◌, ◌*◌, ◌<◌}
use mathlib.Core.Path.{◌≡◌, refl, sym, ap, ap₂, ◌∙◌}
use mathlib.Core.Bool.{Bool}
use mathlib.Core.List.{List, [], ◌∷◌, ◌++◌, append_assoc, append-nil, map}
use native.Mathlib.Omega.{arith}
use lib.ListN.{length, get_or, replicate}
use Rattle.tables.specs.Lines.{Line, fields, words_of, init_or_next_kind, equality_kind}
use Rattle.tables.specs.Layout.{from}
use Rattle.flattening.specs.Flat.{const_lines, init_or_next_lines, ite_lines, equality_lines, join_kind, join_lines, write_lines, read_chain}
use Rattle.flattening.specs.Model.Rows.{rows_for}

pub rows_ext : (n : ℕ) (g h : ℕ → List (List ℕ)) → ((j : ℕ) → j < n → g j ≡ h j) → rows_for n g ≡ rows_for n h
rows_ext zero g h e = refl
rows_ext (suc n) g h e = ap₂ (λ (x y : List (List ℕ)). x ++ y) (rows_ext n g h (λ j l. e j (omega arith))) (e n (omega arith))

rows_cons : (n : ℕ) (g : ℕ → List (List ℕ)) → rows_for (suc n) g ≡ g 0 ++ rows_for n (λ j. g (suc j))
rows_cons zero g = sym (append-nil (g 0))
rows_cons (suc n) g = ap (λ (x : List (List ℕ)). x ++ g (suc n)) (rows_cons n g) ∙ append_assoc (g 0) (rows_for n (λ j. g (suc j))) (g (suc n))

pub rows_more : (n : ℕ) (g : ℕ → List (List ℕ)) → rows_for (suc n) g ≡ rows_for 1 g ++ rows_for n (λ j. g (suc j))
rows_more n g = rows_cons n g

-- a line more in front
front : (n : ℕ) (g : ℕ → List (List ℕ)) (r w : List (List ℕ)) → r ≡ g 0 → w ≡ rows_for n (λ j. g (suc j)) → r ++ w ≡ rows_for (suc n) g
front n g r w e f = ap₂ (λ (x y : List (List ℕ)). x ++ y) e f ∙ sym (rows_cons n g)

pub const_records : (s k n : ℕ) → map words_of (const_lines s (from k n)) ≡ rows_for n (λ j. fields 3 s (k + j) 0 0 ∷ [])
const_records s k zero = refl
const_records s k (suc n) =
    let e : k ≡ k + 0 = omega arith in
    front n (λ j. fields 3 s (k + j) 0 0 ∷ []) (fields 3 s k 0 0 ∷ []) (map words_of (const_lines s (from (suc k) n))) (ap (λ (x : ℕ). fields 3 s x 0 0 ∷ []) e)
    (const_records s (suc k) n ∙ rows_ext n (λ j. fields 3 s (suc k + j) 0 0 ∷ []) (λ j. fields 3 s (k + suc j) 0 0 ∷ []) (λ j l. let q : suc k + j ≡ k + suc j = omega arith in ap (λ (x : ℕ). fields 3 s x 0 0 ∷ []) q))

pub state_records : (s n : ℕ) → map words_of (replicate n (Line.state s)) ≡ rows_for n (λ j. fields 5 s 0 0 0 ∷ [])
state_records s zero = refl
state_records s (suc n) = front n (λ j. fields 5 s 0 0 0 ∷ []) (fields 5 s 0 0 0 ∷ []) (map words_of (replicate n (Line.state s))) refl (state_records s n)

pub init_next_records : (m : Bool) (s : ℕ) (qs vs : List ℕ) → length qs ≡ length vs → map words_of (init_or_next_lines m s qs vs) ≡ rows_for (length qs) (λ j. fields (init_or_next_kind m) s (get_or qs j 0) (get_or vs j 0) 0 ∷ [])
init_next_records m s [] vs n = refl
init_next_records m s (q ∷ qs) [] n = absurd (omega arith)
init_next_records m s (q ∷ qs) (v ∷ vs) n =
    front (length qs) (λ j. fields (init_or_next_kind m) s (get_or (q ∷ qs) j 0) (get_or (v ∷ vs) j 0) 0 ∷ []) (fields (init_or_next_kind m) s q v 0 ∷ []) (map words_of (init_or_next_lines m s qs vs)) refl (init_next_records m s qs vs (omega arith))

pub ite_records : (s c : ℕ) (ps qs : List ℕ) → length ps ≡ length qs → map words_of (ite_lines s c ps qs) ≡ rows_for (length ps) (λ j. fields 53 s c (get_or ps j 0) (get_or qs j 0) ∷ [])
ite_records s c [] qs n = refl
ite_records s c (p ∷ ps) [] n = absurd (omega arith)
ite_records s c (p ∷ ps) (q ∷ qs) n = front (length ps) (λ j. fields 53 s c (get_or (p ∷ ps) j 0) (get_or (q ∷ qs) j 0) ∷ []) (fields 53 s c p q ∷ []) (map words_of (ite_lines s c ps qs)) refl (ite_records s c ps qs (omega arith))

pub equality_records_lem : (e : Bool) (s : ℕ) (ps qs : List ℕ) → length ps ≡ length qs → map words_of (equality_lines e s ps qs) ≡ rows_for (length ps) (λ j. fields (equality_kind e) s (get_or ps j 0) (get_or qs j 0) 0 ∷ [])
equality_records_lem e s [] qs n = refl
equality_records_lem e s (p ∷ ps) [] n = absurd (omega arith)
equality_records_lem e s (p ∷ ps) (q ∷ qs) n =
    front (length ps) (λ j. fields (equality_kind e) s (get_or (p ∷ ps) j 0) (get_or (q ∷ qs) j 0) 0 ∷ []) (fields (equality_kind e) s p q 0 ∷ []) (map words_of (equality_lines e s ps qs)) refl (equality_records_lem e s ps qs (omega arith))

-- joins, each of the one before it
pub join_records_lem : (e : Bool) (s c q n : ℕ) → map words_of (join_lines e s c (suc c) (from q n)) ≡ rows_for n (λ j. fields (join_kind e) s (c + j) (q + j) 0 ∷ [])
join_records_lem e s c q zero = refl
join_records_lem e s c q (suc n) =
    let f : c ≡ c + 0 = omega arith in
    let g : q ≡ q + 0 = omega arith in
    front n (λ j. fields (join_kind e) s (c + j) (q + j) 0 ∷ []) (fields (join_kind e) s c q 0 ∷ []) (map words_of (join_lines e s (suc c) (suc (suc c)) (from (suc q) n))) (λ i. fields (join_kind e) s (f i) (g i) 0 ∷ [])
    (join_records_lem e s (suc c) (suc q) n ∙ rows_ext n (λ j. fields (join_kind e) s (suc c + j) (suc q + j) 0 ∷ []) (λ j. fields (join_kind e) s (c + suc j) (q + suc j) 0 ∷ [])
    (λ j l.
    let a : suc c + j ≡ c + suc j = omega arith in
    let b : suc q + j ≡ q + suc j = omega arith in
    (λ i. fields (join_kind e) s (a i) (b i) 0 ∷ [])))

-- a write's pair for the cell j
abbrev pub write_pair : (o s i v b : ℕ) (ks ps : List ℕ) → ℕ → List (List ℕ)
write_pair o s i v b ks ps j = fields 21 o i (get_or ks j 0) 0 ∷ fields 53 s (b + 2 * j) v (get_or ps j 0) ∷ []

pub write_records_lem : (o s i v b : ℕ) (ks ps : List ℕ) → length ks ≡ length ps → map words_of (write_lines o s i v b ks ps) ≡ rows_for (length ps) (write_pair o s i v b ks ps)
write_records_lem o s i v b [] [] n = refl
write_records_lem o s i v b [] (p ∷ ps) n = absurd (omega arith)
write_records_lem o s i v b (k ∷ ks) [] n = absurd (omega arith)
write_records_lem o s i v b (k ∷ ks) (p ∷ ps) n =
    let e : b ≡ b + 2 * 0 = omega arith in
    front (length ps) (write_pair o s i v b (k ∷ ks) (p ∷ ps)) (fields 21 o i k 0 ∷ fields 53 s b v p ∷ []) (map words_of (write_lines o s i v (suc (suc b)) ks ps)) (ap (λ (x : ℕ). fields 21 o i k 0 ∷ fields 53 s x v p ∷ []) e)
    (write_records_lem o s i v (suc (suc b)) ks ps (omega arith)
    ∙ rows_ext (length ps) (write_pair o s i v (suc (suc b)) ks ps) (λ j. write_pair o s i v b (k ∷ ks) (p ∷ ps) (suc j))
    (λ j l. let q : suc (suc b) + 2 * j ≡ b + 2 * suc j = omega arith in ap (λ (x : ℕ). fields 21 o i (get_or ks j 0) 0 ∷ fields 53 s x v (get_or ps j 0) ∷ []) q))

-- a read's pair t, where m cells lie before the last: the constants fall, and before the pair t stands the ite of the pair before it
abbrev pub so_far : (r b t : ℕ) → ℕ
so_far r b zero = r
so_far r b (suc t) = b + suc (2 * t)

abbrev pub read_pair : (o s i : ℕ) (ks ps : List ℕ) (r b m t : ℕ) → List (List ℕ)
read_pair o s i ks ps r b m t = fields 21 o i (get_or ks (m - 1 - t) 0) 0 ∷ fields 53 s (b + 2 * t) (get_or ps (m - 1 - t) 0) (so_far r b t) ∷ []

read_shift : (o s i : ℕ) (ks ps : List ℕ) (r b m t : ℕ) → read_pair o s i ks ps (suc b) (suc (suc b)) m t ≡ read_pair o s i ks ps r b (suc m) (suc t)
read_shift o s i ks ps r b m t =
    let e : m - 1 - t ≡ suc m - 1 - suc t = omega arith in
    let f : suc (suc b) + 2 * t ≡ b + 2 * suc t = omega arith in
    λ l. fields 21 o i (get_or ks (e l) 0) 0 ∷ fields 53 s (f l) (get_or ps (e l) 0) (so_far_lem t l) ∷ []
  where
    so_far_lem : (t : ℕ) → so_far (suc b) (suc (suc b)) t ≡ so_far r b (suc t)
    so_far_lem zero = omega arith
    so_far_lem (suc t) = omega arith

pub read_records_lem : (o s i : ℕ) (ks ps : List ℕ) (r b m : ℕ) → map words_of (read_chain o s i ks ps r b m) ≡ rows_for m (read_pair o s i ks ps r b m)
read_records_lem o s i ks ps r b zero = refl
read_records_lem o s i ks ps r b (suc m) =
    let e : m ≡ suc m - 1 - 0 = omega arith in
    let f : b ≡ b + 2 * 0 = omega arith in
    front m (read_pair o s i ks ps r b (suc m)) (fields 21 o i (get_or ks m 0) 0 ∷ fields 53 s b (get_or ps m 0) r ∷ []) (map words_of (read_chain o s i ks ps (suc b) (suc (suc b)) m))
    (λ l. fields 21 o i (get_or ks (e l) 0) 0 ∷ fields 53 s (f l) (get_or ps (e l) 0) r ∷ [])
    (read_records_lem o s i ks ps (suc b) (suc (suc b)) m
    ∙ rows_ext m (read_pair o s i ks ps (suc b) (suc (suc b)) m) (λ t. read_pair o s i ks ps r b (suc m) (suc t)) (λ t l. read_shift o s i ks ps r b m t))
