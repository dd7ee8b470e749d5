-- The bridge between the places of a line and its tokens, and between those of a text and its lines. Assumes nothing.
use mathlib.Core.Path.{◌≡◌, refl, sym, ap, ◌∙◌}
use mathlib.Core.Bool.{Bool, true, false}
use mathlib.Core.List.{List, [], ◌∷◌}
use Prim.Native.Nat.{ℕ, zero, suc, ◌+◌, ◌-◌, ◌≤◌, ◌<◌}
use native.Mathlib.Omega.{arith}
use lib.Dec.{eqb}
use lib.ListN.{length, take, drop, get_or, drop_of_length-le, length-drop}
use lib.Seq.{drop-drop, get_or-drop, take-take}
use borrow.Author.Tests.{ne_eqb}
use Rattle.texts.specs.Split.{split, up_to, non_empty, tokens}
use Rattle.texts.proofs.Scan.{up_to_end}
use Rattle.texts.specs.Model.Structs.{several}

-- ---- from a place to the first part

-- what follows the first part
abbrev pub tail : ℕ → List ℕ → List (List ℕ)
tail b [] = []
tail b (c ∷ t) = split b t

pub split_first : (b : ℕ) (x : List ℕ) → split b x ≡ take (length (up_to b x)) x ∷ tail b (drop (length (up_to b x)) x)
unfolding split up_to
split_first b [] = refl
split_first b (c ∷ t) = go (eqb c b) refl (split_first b t)
  where
    go : (q : Bool) → eqb c b ≡ q → split b t ≡ take (length (up_to b t)) t ∷ tail b (drop (length (up_to b t)) t)
        → split b (c ∷ t) ≡ take (length (up_to b (c ∷ t))) (c ∷ t) ∷ tail b (drop (length (up_to b (c ∷ t))) (c ∷ t))
    go true e h = rw (e, split, up_to) refl
    go false e h = rw (e, split, up_to) (rw h refl)

pub tail_tokens : (x : List ℕ) → non_empty (tail 32 (drop (length (up_to 32 x)) x)) ≡ tokens (drop (length (up_to 32 x)) x)
unfolding split up_to tokens
tail_tokens [] = refl
tail_tokens (c ∷ t) = go (eqb c 32) refl (tail_tokens t)
  where
    go : (q : Bool) → eqb c 32 ≡ q → non_empty (tail 32 (drop (length (up_to 32 t)) t)) ≡ tokens (drop (length (up_to 32 t)) t)
        → non_empty (tail 32 (drop (length (up_to 32 (c ∷ t))) (c ∷ t))) ≡ tokens (drop (length (up_to 32 (c ∷ t))) (c ∷ t))
    go true e h = rw (e, up_to) (rw (e, split) refl)
    go false e h = rw (e, up_to) h

filled_first : (x : List ℕ) (c : ℕ) (y : List ℕ) (r : List (List ℕ)) → x ≡ c ∷ y → non_empty (x ∷ r) ≡ x ∷ non_empty r
filled_first x c y r e = rw e refl

up_to_cons : (c : ℕ) (t : List ℕ) → eqb c 32 ≡ false → up_to 32 (c ∷ t) ≡ c ∷ up_to 32 t
unfolding up_to
up_to_cons c t e = rw (e, up_to) refl

tokens_first : (c : ℕ) (t : List ℕ) → eqb c 32 ≡ false
    → tokens (c ∷ t) ≡ take (length (up_to 32 (c ∷ t))) (c ∷ t) ∷ tokens (drop (length (up_to 32 (c ∷ t))) (c ∷ t))
unfolding tokens
tokens_first c t e =
    let k : ℕ = length (up_to 32 (c ∷ t)) in
    ap (λ (p : List (List ℕ)). non_empty p) (split_first 32 (c ∷ t))
    ∙ (filled_first (take k (c ∷ t)) c (take (length (up_to 32 t)) t) (tail 32 (drop k (c ∷ t))) (ap (λ (u : List ℕ). take (length u) (c ∷ t)) (up_to_cons c t e))
    ∙ ap (λ (p : List (List ℕ)). take k (c ∷ t) ∷ p) (tail_tokens (c ∷ t)))

tokens_head : (x : List ℕ) → 0 < length x → (get_or x 0 0 ≡ 32 → ⊥) → tokens x ≡ take (length (up_to 32 x)) x ∷ tokens (drop (length (up_to 32 x)) x)
tokens_head [] h n = absurd (omega arith)
tokens_head (c ∷ t) h n = tokens_first c t (ne_eqb c 32 n)

module _ (l : List ℕ) (a : ℕ) where
  pub no_token : length l ≤ a → tokens (drop a l) ≡ []
  unfolding tokens split
  no_token h = rw (drop_of_length-le l h) refl

  pub next_token : (z : ℕ) → a < length l → (get_or l a 0 ≡ 32 → ⊥) → z ≡ a + length (up_to 32 (drop a l))
      → tokens (drop a l) ≡ take (z - a) (drop a l) ∷ tokens (drop z l)
  next_token z h n e =
      let k : ℕ = length (up_to 32 (drop a l)) in
      let q : k ≡ z - a = omega arith in
      let f : get_or (drop a l) 0 0 ≡ get_or l a 0 = get_or-drop a l 0 0 ∙ ap (λ (i : ℕ). get_or l i 0) (omega arith) in
      tokens_head (drop a l) (omega (arith, length-drop a l)) (λ x. n (sym f ∙ x))
      ∙ (ap (λ (m : ℕ). take m (drop a l) ∷ tokens (drop k (drop a l))) q
      ∙ ap (λ (p : List ℕ). take (z - a) (drop a l) ∷ tokens p) (drop-drop k a l ∙ ap (λ (m : ℕ). drop m l) (sym e)))

pub several_more : (l : List ℕ) (b : ℕ) (t : List ℕ) → b < length l → (get_or l b 0 ≡ 32 → ⊥) → several (t ∷ tokens (drop b l)) ≡ true
several_more l b t h n = ap (λ (x : List (List ℕ)). several (t ∷ x)) (next_token l b (b + length (up_to 32 (drop b l))) h n refl)

-- ---- where a comment starts

pub take_up_to : (b : ℕ) (y : List ℕ) → take (length (up_to b y)) y ≡ up_to b y
unfolding up_to
take_up_to b [] = refl
take_up_to b (c ∷ t) = go (eqb c b) refl (take_up_to b t)
  where
    go : (q : Bool) → eqb c b ≡ q → take (length (up_to b t)) t ≡ up_to b t → take (length (up_to b (c ∷ t))) (c ∷ t) ≡ up_to b (c ∷ t)
    go true x h = rw (x, up_to) refl
    go false x h = rw (x, up_to) (ap (λ (r : List ℕ). c ∷ r) h)

-- the bytes before the place k are no b
pub up_to_take : (b : ℕ) (x : List ℕ) (k m : ℕ) → k ≤ length (up_to b x) → k ≤ m → length (up_to b (take m x)) ≡ k + length (up_to b (take (m - k) (drop k x)))
unfolding up_to
up_to_take b x zero m h l = let e : m ≡ m - 0 = omega arith in omega (arith, ap (λ (n : ℕ). length (up_to b (take n x))) e)
up_to_take b x (suc k) zero h l = absurd (omega arith)
up_to_take b [] (suc k) (suc m) h l = absurd (omega arith)
up_to_take b (c ∷ t) (suc k) (suc m) h l = go (eqb c b) refl h (up_to_take b t k m)
  where
    go : (q : Bool) → eqb c b ≡ q → suc k ≤ length (up_to b (c ∷ t)) → (k ≤ length (up_to b t) → k ≤ m → length (up_to b (take m t)) ≡ k + length (up_to b (take (m - k) (drop k t))))
        → length (up_to b (take (suc m) (c ∷ t))) ≡ suc k + length (up_to b (take (suc m - suc k) (drop (suc k) (c ∷ t))))
    go true e h f = absurd (omega (arith, rw (e, up_to) at h))
    go false e h f =
        let i : suc k ≤ suc (length (up_to b t)) = (rw (e, up_to) at h) in
        let n : m - k ≡ suc m - suc k = omega arith in
        let j = f (omega (arith, i)) (omega arith) in
        rw (e, up_to) (omega (arith, j, ap (λ (y : ℕ). length (up_to b (take y (drop k t)))) n))

pub up_to_drop : (b : ℕ) (x : List ℕ) (k : ℕ) → k ≤ length (up_to b x) → length (up_to b x) ≡ k + length (up_to b (drop k x))
unfolding up_to
up_to_drop b x zero h = omega arith
up_to_drop b [] (suc k) h = absurd (omega arith)
up_to_drop b (c ∷ t) (suc k) h = go (eqb c b) refl h (up_to_drop b t k)
  where
    go : (q : Bool) → eqb c b ≡ q → suc k ≤ length (up_to b (c ∷ t)) → (k ≤ length (up_to b t) → length (up_to b t) ≡ k + length (up_to b (drop k t)))
        → length (up_to b (c ∷ t)) ≡ suc k + length (up_to b (drop (suc k) (c ∷ t)))
    go true e h f = absurd (omega (arith, rw (e, up_to) at h))
    go false e h f = let i : suc k ≤ suc (length (up_to b t)) = (rw (e, up_to) at h) in rw (e, up_to) (omega (arith, f (omega (arith, i))))

-- none among the last 16 bytes, and so none behind j
pub last_block : (b : ℕ) (s : List ℕ) (e j : ℕ) → e + 16 ≡ length s → e ≤ j → j ≤ length s → length (up_to b (drop e s)) ≡ 16 + length (up_to b (drop (e + 16) s))
    → j + length (up_to b (drop j s)) ≡ length s
last_block b s e j l a c h =
    let d : e + (j - e) ≡ j = omega arith in
    let k = up_to_drop b (drop e s) (j - e) (omega (arith, h, l, c)) in
    let q = ap (λ (x : List ℕ). length (up_to b x)) (drop-drop (j - e) e s ∙ ap (λ (n : ℕ). drop n s) d) in
    omega (arith, h, k, q, ap length (up_to_end b s (e + 16) (omega arith)))

pub cut_at : (x : List ℕ) (m k : ℕ) → k ≤ m → k ≡ length (up_to 59 (take m x)) → take k x ≡ up_to 59 (take m x)
cut_at x m k h e = sym (take-take k m x h) ∙ (ap (λ (j : ℕ). take j (take m x)) e ∙ take_up_to 59 (take m x))

-- ---- the line that starts at a place

pub line_first : (s : List ℕ) (i f : ℕ) → f ≡ i + length (up_to 10 (drop i s)) → split 10 (drop i s) ≡ take (f - i) (drop i s) ∷ tail 10 (drop f s)
line_first s i f h =
    let k : ℕ = length (up_to 10 (drop i s)) in
    let q : k ≡ f - i = omega arith in
    split_first 10 (drop i s)
    ∙ (ap (λ (m : ℕ). take m (drop i s) ∷ tail 10 (drop k (drop i s))) q
    ∙ ap (λ (p : List ℕ). take (f - i) (drop i s) ∷ tail 10 p) (drop-drop k i s ∙ ap (λ (m : ℕ). drop m s) (sym h)))
