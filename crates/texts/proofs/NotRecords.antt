-- The records of a line are not records, one for each minus operand, and its own; a not line is what the writer prints for a not record. Assumes nothing.
use Prim.Native.Nat.{ℕ, zero, suc, ◌+◌, ◌-◌, ◌^◌, ◌≤◌, ◌<◌}
use mathlib.Core.Path.{◌≡◌, refl, sym, ap, ap₂, ◌∙◌}
use mathlib.Core.Bool.{Bool, true, false}
use mathlib.Core.List.{List, [], ◌∷◌, ◌++◌, map, append_assoc}
use native.Mathlib.Omega.{arith}
use lib.Dec.{lit<}
use lib.ListN.{length, get_or, set, length-append, get_or-append, get_or-map}
use lib.Seq.{get_or-set_other}
use Rattle.tables.specs.Pick.{pick}
use Rattle.tables.specs.Kinds.{row_of}
use Rattle.tables.specs.Lines.{fields, sort_in}
use Rattle.tables.proofs.OwnSorts.{own_sort}
use Rattle.texts.specs.Minus.{minus_at, minuses_from, not_of, spread}
use Rattle.texts.specs.WrittenOut.{not_line}
use Rattle.texts.specs.Writing.{tokens_of}
use Rattle.texts.proofs.Holding.{by_bool}
use Rattle.texts.proofs.Bounded.{small, Good}
use Rattle.texts.proofs.OutTokens.{out_nots, out_not_sorts}
use Rattle.texts.proofs.OwnNumbers.{own_record}

-- ---- the records of a line: its not records, then its own

-- the not records of the minus operands, of m from the place j on, after the records rs; A has the operands' places
abbrev pub not_records : List Bool → (m j : ℕ) (rs : List (List ℕ)) → (ℕ → ℕ) → List (List ℕ)
not_records s zero j rs A = []
not_records s (suc m) j rs A = pick (minus_at s j) (not_of rs (A j) ∷ not_records s m (suc j) rs A) (not_records s m (suc j) rs A)

-- what is known of each minus operand, of m from the place j on
abbrev pub EachMinus : List Bool → (m j : ℕ) → (ℕ → Type 0) → Type 0
EachMinus s m j Q = (i : ℕ) → j ≤ i → i < j + m → minus_at s i ≡ true → Q i

pub spread_parts : (s : List Bool) (rs : List (List ℕ)) (A : ℕ → ℕ) (m j : ℕ) (es : List (List ℕ)) (rec : List ℕ) → EachMinus s m j (λ i. get_or rec i 0 ≡ A i)
    → EachMinus s m j (λ i. (1 ≤ A i) × (A i ≤ length rs)) → spread s m j (rs ++ es) rec ≡ not_records s m j rs A ++ (own_record s m j (length (rs ++ es)) rec ∷ [])
spread_parts s rs A zero j es rec g h = refl
spread_parts s rs A (suc m) j es rec g h =
    let l : ℕ = length (rs ++ es) in
    let N : List ℕ = not_of (rs ++ es) (get_or rec j 0) in
    by_bool
    (λ (b : Bool).
    pick b (not_of (rs ++ es) (get_or rec j 0) ∷ spread s m (suc j) ((rs ++ es) ++ (not_of (rs ++ es) (get_or rec j 0) ∷ [])) (set rec j (suc (length (rs ++ es))))) (spread s m (suc j) (rs ++ es) rec)
    ≡ pick b (not_of rs (A j) ∷ not_records s m (suc j) rs A) (not_records s m (suc j) rs A)
    ++ (own_record s m (suc j) (length (rs ++ es) + pick b 1 0) (pick b (set rec j (suc (length (rs ++ es)))) rec) ∷ []))
    (minus_at s j)
    (λ q.
    let k = h j (omega arith) (omega arith) q in
    let e : N ≡ not_of rs (A j) =
    ap (not_of (rs ++ es)) (g j (omega arith) (omega arith) q)
    ∙ ap (λ (x : List ℕ). fields 11 (sort_in x) (A j) 0 0) (get_or-append rs es [] (A j - 1) (omega (arith, k.0, k.1)))
    in
    let a = append_assoc rs es (N ∷ []) in
    let z : length (rs ++ (es ++ (N ∷ []))) ≡ l + 1 = ap length (sym a) ∙ length-append (rs ++ es) (N ∷ []) in
    let rest =
    spread_parts s rs A m (suc j) (es ++ (N ∷ [])) (set rec j (suc l)) (λ i x y w. get_or-set_other rec j i (suc l) 0 (λ t. omega arith) ∙ g i (omega arith) (omega arith) w)
    (λ i x y. h i (omega arith) (omega arith))
    in
    ap₂ (λ (x : List ℕ) (xs : List (List ℕ)). x ∷ xs) e
    (ap (λ (xs : List (List ℕ)). spread s m (suc j) xs (set rec j (suc l))) a
    ∙ (rest ∙ ap (λ (i : ℕ). not_records s m (suc j) rs A ++ (own_record s m (suc j) i (set rec j (suc l)) ∷ [])) z)))
    (λ q.
    let z : l ≡ l + 0 = omega arith in
    spread_parts s rs A m (suc j) es rec (λ i x y. g i (omega arith) (omega arith)) (λ i x y. h i (omega arith) (omega arith))
    ∙ ap (λ (i : ℕ). not_records s m (suc j) rs A ++ (own_record s m (suc j) i rec ∷ [])) z)

-- how many not records
pub nots_length : (s : List Bool) (m j : ℕ) (rs : List (List ℕ)) (A : ℕ → ℕ) → length (not_records s m j rs A) ≡ minuses_from s m j
nots_length s zero j rs A = refl
nots_length s (suc m) j rs A = go (minus_at s j) (nots_length s m (suc j) rs A)
  where
    go : (b : Bool) → length (not_records s m (suc j) rs A) ≡ minuses_from s m (suc j)
        → length (pick b (not_of rs (A j) ∷ not_records s m (suc j) rs A) (not_records s m (suc j) rs A)) ≡ pick b 1 0 + minuses_from s m (suc j)
    go true e = omega arith
    go false e = omega arith

-- their words are small
pub nots_good : (s : List Bool) (m j : ℕ) (rs : List (List ℕ)) (A : ℕ → ℕ) → EachMinus s m j (λ i. (A i < 2 ^ 64) × (own_sort rs (A i) < 2 ^ 64)) → Good (not_records s m j rs A)
nots_good s zero j rs A h = tt
nots_good s (suc m) j rs A h =
    by_bool (λ (b : Bool). Good (pick b (not_of rs (A j) ∷ not_records s m (suc j) rs A) (not_records s m (suc j) rs A))) (minus_at s j)
    (λ q.
    let k = h j (omega arith) (omega arith) q in
    ((refl, small (2 ^ 64) 11 (own_sort rs (A j)) (A j) 0 0 (lit< tt) k.1 k.0 (lit< tt) (lit< tt)), nots_good s m (suc j) rs A (λ i x y. h i (omega arith) (omega arith))))
    (λ q. nots_good s m (suc j) rs A (λ i x y. h i (omega arith) (omega arith)))

-- ---- the lines of records, the first of which has the number n

abbrev pub tokens_from : ℕ → List (List ℕ) → List (List (List ℕ))
tokens_from n [] = []
tokens_from n (r ∷ rs) = tokens_of n r ∷ tokens_from (suc n) rs

pub tokens_length : (n : ℕ) (rs : List (List ℕ)) → length (tokens_from n rs) ≡ length rs
tokens_length n [] = refl
tokens_length n (r ∷ rs) = ap suc (tokens_length (suc n) rs)

-- a not line is the not record's
not_line_lem : (n : ℕ) (ss : List ℕ) (rs : List (List ℕ)) (a : ℕ) → get_or ss (a - 1) 0 ≡ own_sort rs a → not_line n ss a ≡ tokens_of n (not_of rs a)
unfolding row_of
not_line_lem n ss rs a e = rw e refl

module _ (ss : List ℕ) (rs : List (List ℕ)) (same : ss ≡ map sort_in rs) (A : ℕ → ℕ) where
  own_sort_lem : (a : ℕ) → get_or ss (a - 1) 0 ≡ own_sort rs a
  own_sort_lem a = ap (λ (x : List ℕ). get_or x (a - 1) 0) same ∙ get_or-map sort_in rs (a - 1) []

  pub nots_written : (s : List Bool) (m j n : ℕ) → out_nots s m j n ss A ≡ tokens_from (suc n) (not_records s m j rs A)
  nots_written s zero j n = refl
  nots_written s (suc m) j n = go (minus_at s j) (nots_written s m (suc j) (suc n)) (nots_written s m (suc j) n)
    where
      go : (b : Bool) → out_nots s m (suc j) (suc n) ss A ≡ tokens_from (suc (suc n)) (not_records s m (suc j) rs A) → out_nots s m (suc j) n ss A ≡ tokens_from (suc n) (not_records s m (suc j) rs A)
          → pick b (not_line (suc n) ss (A j) ∷ out_nots s m (suc j) (suc n) ss A) (out_nots s m (suc j) n ss A)
          ≡ tokens_from (suc n) (pick b (not_of rs (A j) ∷ not_records s m (suc j) rs A) (not_records s m (suc j) rs A))
      go true e g = ap₂ (λ (x : List (List ℕ)) (xs : List (List (List ℕ))). x ∷ xs) (not_line_lem (suc n) ss rs (A j) (own_sort_lem (A j))) e
      go false e g = g

  pub sorts_written : (s : List Bool) (m j : ℕ) → out_not_sorts s m j ss A ≡ map sort_in (not_records s m j rs A)
  sorts_written s zero j = refl
  sorts_written s (suc m) j = go (minus_at s j) (sorts_written s m (suc j))
    where
      go : (b : Bool) → out_not_sorts s m (suc j) ss A ≡ map sort_in (not_records s m (suc j) rs A)
          → pick b (get_or ss (A j - 1) 0 ∷ out_not_sorts s m (suc j) ss A) (out_not_sorts s m (suc j) ss A)
          ≡ map sort_in (pick b (not_of rs (A j) ∷ not_records s m (suc j) rs A) (not_records s m (suc j) rs A))
      go true e = ap₂ (λ (x : ℕ) (xs : List ℕ). x ∷ xs) (own_sort_lem (A j)) e
      go false e = e
