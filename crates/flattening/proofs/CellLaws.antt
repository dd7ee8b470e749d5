-- Lists of cells: what a write's and a read's chains of ites come to, and an eq's chain of ands; cells stay words. Assumes nothing.
use Prim.Native.Nat.{ℕ, zero, suc, ◌+◌, ◌-◌, ◌%◌, ◌^◌, ◌≤◌, ◌<◌}
use mathlib.Core.Path.{◌≡◌, refl, sym, ap, ap₂, ◌∙◌, subst}
use mathlib.Core.Logic.{◌≢◌}
use mathlib.Core.Bool.{Bool, true, false, ◌&&◌}
use mathlib.Core.List.{List, [], ◌∷◌}
use native.Mathlib.Nat.{mod-lt}
use native.Mathlib.Omega.{arith}
use native.Mathlib.Decide.{dec_lt}
use lib.Dec.{T, eqb, eqb→eq, eqb_refl}
use lib.Pow.{pow_pos}
use lib.ListN.{length, get_or, set, take, replicate}
use lib.Seq.{drop-cons}
use Rattle.tables.specs.Layout.{from}
use Rattle.tables.proofs.Laws.{true_of}
use Rattle.tables.proofs.Ids.{from_at}
use Rattle.words.specs.Word.{bit}
use Rattle.circuits.specs.Cells.{if_nonzero, eq_or_neq, same_cells, mask_words, part}
use Rattle.circuits.specs.Meaning.{Frame, state_words}
use Rattle.flattening.proofs.Walk.{Word, Holds, none, more, Small}
use Rattle.flattening.proofs.Chains.{hit, writes, picks, chooses, equality_values, join_value, join_vals}

-- ---- is the index the constant

hit_same : (k : ℕ) → hit k k ≡ 1
hit_same k = ap (λ (b : Bool). bit (b && true)) (true_of (eqb k k) (eqb_refl k))

hit_other : (i k : ℕ) → i ≢ k → hit i k ≡ 0
hit_other i k h = go (eqb i k) refl
  where
    go : (b : Bool) → eqb i k ≡ b → bit (b && true) ≡ 0
    go true e = absurd (h (eqb→eq i k (subst T (sym e) tt)))
    go false e = refl

-- ---- write

writes_past : (i k : ℕ) (v : ℕ) (cs : List ℕ) → i < k → writes i (from k (length cs)) v cs ≡ cs
writes_past i k v [] h = refl
writes_past i k v (c ∷ cs) h = ap₂ (λ (x : ℕ) (xs : List ℕ). x ∷ xs) (rw (hit_other i k (omega arith))) (writes_past i (suc k) v cs (omega arith))

writes_at : (i k j : ℕ) (v : ℕ) (cs : List ℕ) → i ≡ k + j → writes i (from k (length cs)) v cs ≡ set cs j v
writes_at i k j v [] e = refl
writes_at i k zero v (c ∷ cs) e =
    let z : i ≡ k = omega arith in
    ap₂ (λ (x : ℕ) (xs : List ℕ). x ∷ xs) (rw (z, hit_same k)) (writes_past i (suc k) v cs (omega arith))
writes_at i k (suc j) v (c ∷ cs) e =
    ap₂ (λ (x : ℕ) (xs : List ℕ). x ∷ xs) (rw (hit_other i k (omega arith))) (writes_at i (suc k) j v cs (omega arith))

pub writes_set : (i : ℕ) (v : ℕ) (cs : List ℕ) → writes i (from 0 (length cs)) v cs ≡ set cs i v
writes_set i v cs = writes_at i 0 i v cs (omega arith)

-- ---- read

-- the constant k is the number k
constant : (n k : ℕ) → k < n → get_or (from 0 n) k 0 ≡ k
constant n k h = from_at 0 n k h ∙ omega arith

picks_past : (i n v k : ℕ) (cs : List ℕ) → k ≤ i → k ≤ n → picks i (from 0 n) cs v k ≡ v
picks_past i n v zero cs h l = refl
picks_past i n v (suc k) cs h l =
    ap (λ (x : ℕ). picks i (from 0 n) cs (if_nonzero x (get_or cs k 0) v) k) (ap (hit i) (constant n k l) ∙ hit_other i k (λ e. omega arith))
    ∙ picks_past i n v k cs (omega arith) (omega arith)

picks_at : (i n v k : ℕ) (cs : List ℕ) → i < k → k ≤ n → picks i (from 0 n) cs v k ≡ get_or cs i 0
picks_at i n v zero cs h l = absurd (omega arith)
picks_at i n v (suc k) cs h l = go (λ q. picks_at i n (if_nonzero (hit i (get_or (from 0 n) k 0)) (get_or cs k 0) v) k cs q (omega arith)) (dec_lt i k)
  where
    go : (i < k → picks i (from 0 n) cs v (suc k) ≡ get_or cs i 0) → Dec (i < k) → picks i (from 0 n) cs v (suc k) ≡ get_or cs i 0
    go r (yes q) = r q
    go r (no q) =
        let e : i ≡ k = omega arith in
        picks_past i n (if_nonzero (hit i (get_or (from 0 n) k 0)) (get_or cs k 0) v) k cs (omega arith) (omega arith)
        ∙ ap (λ (x : ℕ). if_nonzero x (get_or cs k 0) v) (ap (hit i) (constant n k l ∙ sym e) ∙ hit_same i) ∙ ap (λ (x : ℕ). get_or cs x 0) (sym e)

-- from the last cell on
pub picks_get : (i n : ℕ) (cs : List ℕ) → i < n → picks i (from 0 n) cs (get_or cs (n - 1) 0) (n - 1) ≡ get_or cs i 0
picks_get i n cs h = go (dec_lt i (n - 1))
  where
    go : Dec (i < n - 1) → picks i (from 0 n) cs (get_or cs (n - 1) 0) (n - 1) ≡ get_or cs i 0
    go (yes q) = picks_at i n (get_or cs (n - 1) 0) (n - 1) cs q (omega arith)
    go (no q) =
        let e : n - 1 ≡ i = omega arith in
        picks_past i n (get_or cs (n - 1) 0) (n - 1) cs (omega arith) (omega arith) ∙ ap (λ (x : ℕ). get_or cs x 0) e

-- ---- eq and neq

join_bit : (e u q : Bool) → join_value e (bit (eq_or_neq e u)) (bit (eq_or_neq e (q && true))) ≡ bit (eq_or_neq e (u && q))
join_bit true true true = refl
join_bit true true false = refl
join_bit true false true = refl
join_bit true false false = refl
join_bit false true true = refl
join_bit false true false = refl
join_bit false false true = refl
join_bit false false false = refl

and_assoc : (a b c : Bool) → (a && b) && c ≡ a && (b && c)
and_assoc true b c = refl
and_assoc false b c = refl

joins_from : (e u : Bool) (xs ys : List ℕ) → length xs ≡ length ys → join_vals e (bit (eq_or_neq e u)) (equality_values e xs ys) ≡ bit (eq_or_neq e (u && same_cells xs ys))
joins_from e true [] ys n = refl
joins_from e false [] ys n = refl
joins_from e u (x ∷ xs) [] n = absurd (omega arith)
joins_from e u (x ∷ xs) (y ∷ ys) n =
    ap (λ (v : ℕ). join_vals e v (equality_values e xs ys)) (join_bit e u (eqb x y))
    ∙ joins_from e (u && eqb x y) xs ys (omega arith)
    ∙ ap (λ (b : Bool). bit (eq_or_neq e b)) (and_assoc u (eqb x y) (same_cells xs ys))

pub joins_agree : (e : Bool) (x y : ℕ) (xs ys : List ℕ) → length xs ≡ length ys
    → join_vals e (bit (eq_or_neq e (same_cells (x ∷ []) (y ∷ [])))) (equality_values e xs ys) ≡ bit (eq_or_neq e (same_cells (x ∷ xs) (y ∷ ys)))
joins_agree e x y xs ys n = joins_from e (eqb x y && true) xs ys n ∙ ap (λ (b : Bool). bit (eq_or_neq e b)) (and_assoc (eqb x y) true (same_cells xs ys))

-- ---- ite

pub chooses_choose : (d : ℕ) (xs ys : List ℕ) → length xs ≡ length ys → chooses d xs ys ≡ if_nonzero d xs ys
chooses_choose zero [] [] n = refl
chooses_choose (suc d) [] ys n = refl
chooses_choose zero [] (y ∷ ys) n = absurd (omega arith)
chooses_choose d (x ∷ xs) [] n = absurd (omega arith)
chooses_choose zero (x ∷ xs) (y ∷ ys) n = ap (λ (l : List ℕ). y ∷ l) (chooses_choose zero xs ys (omega arith))
chooses_choose (suc d) (x ∷ xs) (y ∷ ys) n = ap (λ (l : List ℕ). x ∷ l) (chooses_choose (suc d) xs ys (omega arith))

-- what holds of both lists holds of the one chosen
pub choose_has : (P : List ℕ → Type 0) (d : ℕ) {xs ys : List ℕ} → P xs → P ys → P (if_nonzero d xs ys)
choose_has P zero x y = y
choose_has P (suc d) x y = x

-- ---- state words

-- n of them from the place a on, modulo 2 ^ w
abbrev pub taken : List ℕ → (a n w : ℕ) → List ℕ
taken σ a zero w = []
taken σ a (suc n) w = get_or σ a 0 % 2 ^ w ∷ taken σ (suc a) n w

pub lows_taken : (σ : List ℕ) (a n w : ℕ) → a + n ≤ length σ → mask_words w (part σ a n) ≡ taken σ a n w
lows_taken σ a zero w h = refl
lows_taken σ a (suc n) w h =
    ap (λ (l : List ℕ). mask_words w (take (suc n) l)) (drop-cons σ a 0 (omega arith)) ∙ ap (λ (l : List ℕ). get_or σ a 0 % 2 ^ w ∷ l) (lows_taken σ (suc a) n w (omega arith))

-- in a circuit state words are always taken modulo 2 ^ w
pub state_lows : (f : Bool) (w : ℕ) (xs : List ℕ) → state_words false f w xs ≡ mask_words w xs
state_lows true w xs = refl
state_lows false w xs = refl

pub length_taken : (σ : List ℕ) (a n w : ℕ) → length (taken σ a n w) ≡ n
length_taken σ a zero w = refl
length_taken σ a (suc n) w = ap suc (length_taken σ (suc a) n w)

-- ---- cells stay words

pub small_at : (w : ℕ) (cs : List ℕ) (j : ℕ) → Small w cs → get_or cs j 0 < 2 ^ w
small_at w [] j s = pow_pos w
small_at w (c ∷ cs) zero s = s.0
small_at w (c ∷ cs) (suc j) s = small_at w cs j s.1

pub small_set : (w : ℕ) (cs : List ℕ) (j v : ℕ) → Small w cs → v < 2 ^ w → Small w (set cs j v)
small_set w [] j v s h = tt
small_set w (c ∷ cs) zero v s h = (h, s.1)
small_set w (c ∷ cs) (suc j) v s h = (s.0, small_set w cs j v s.1 h)

pub small_taken : (σ : List ℕ) (a n w : ℕ) → Small w (taken σ a n w)
small_taken σ a zero w = tt
small_taken σ a (suc n) w = (mod-lt (get_or σ a 0) (pow_pos w), small_taken σ (suc a) n w)

pub small_from : (w k n : ℕ) → k + n ≤ 2 ^ w → Small w (from k n)
small_from w k zero h = tt
small_from w k (suc n) h = (omega arith, small_from w (suc k) n (omega arith))

pub small_bit : (b : Bool) → bit b < 2
small_bit true = omega arith
small_bit false = omega arith

-- ---- a constant index

pub holds_set : {u : Bool} {A : Frame} {w p v : ℕ} {ps cs : List ℕ} (j : ℕ) → Holds A u w ps cs → Word A u p w v → Holds A u w (set ps j p) (set cs j v)
holds_set j none h = none
holds_set zero (more x r) h = more h r
holds_set (suc j) (more x r) h = more x (holds_set j r h)

pub holds_replicate : {u : Bool} {A : Frame} {w p v : ℕ} (n : ℕ) → Word A u p w v → Holds A u w (replicate n p) (replicate n v)
holds_replicate zero h = none
holds_replicate (suc n) h = more h (holds_replicate n h)
