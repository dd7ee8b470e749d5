-- In an accepted text the name that `name` gives of a line's id is the line's: ids rise, so no earlier line has it. Assumes nothing.
use Prim.Native.Nat.{ℕ, zero, suc, ◌+◌, ◌<◌}
use mathlib.Core.Path.{◌≡◌, refl, sym, ap, ◌∙◌}
use mathlib.Core.Bool.{Bool, true, false}
use mathlib.Core.List.{List, [], ◌∷◌}
use native.Mathlib.Omega.{arith}
use lib.Dec.{ltb, leb}
use lib.ListN.{length, get_or}
use borrow.Author.Tests.{ltb-true, eq-eqb, ne_eqb}
use Rattle.tables.specs.Layout.{room}
use Rattle.tables.specs.Ids.{most_id, follows}
use Rattle.tables.proofs.Kept.{both}
use Rattle.texts.specs.Decimal.{Num}
use Rattle.std.specs.Prelude.{Ok, Err}
use Rattle.texts.specs.Split.{split, up_to, tokens}
use Rattle.texts.specs.Decimal.{decimal}
use Rattle.texts.specs.Minus.{minuses}
use Rattle.texts.specs.Reading.{line_id, line_name, value_of, last_of, Reply, skip, no, got, line_tokens, done, refused, Sofar, no_lines, with_line, reply_after, read_lines, read_text}
use Rattle.texts.specs.Naming.{Located, is_id, leads, line_from, text_line, name_of}
use Rattle.texts.proofs.Kept.{gives_after}
use Rattle.texts.proofs.NextIds.{follows_some, last_line_lem}
use Rattle.texts.proofs.Reached.{step_got, step_skip, step_no}
use Rattle.texts.proofs.Taking.{blank}
use Rattle.texts.proofs.SameRecords.{lines_done}

-- the tokens of the line j, counted from 0
abbrev tokens_on : List (List ℕ) → (j : ℕ) → List (List ℕ)
tokens_on xs j = line_tokens (get_or xs j [])

past_end : (j : ℕ) → length (tokens_on [] j) ≡ 0
unfolding tokens split up_to
past_end j = refl

above : (l d : ℕ) → follows l d ≡ true → l < d
above l d h = ltb-true l d (both (ltb l d) (leb d most_id) h).0

-- ---- the id of a line, and lines that have another

number_own : (n : Num) → (value_of n ≡ 0 → ⊥) → is_id n (value_of n) ≡ true
number_own (Err e) h = absurd (h refl)
number_own (Ok v) h = eq-eqb v v refl

leads_own : (ts : List (List ℕ)) → (line_id ts ≡ 0 → ⊥) → leads (line_id ts) ts ≡ true
leads_own [] h = absurd (h refl)
leads_own (t ∷ ts) h = number_own (decimal t) h

number_other : (n : Num) (k : ℕ) → (value_of n ≡ k → ⊥) → is_id n k ≡ false
number_other (Err e) k h = refl
number_other (Ok v) k h = ne_eqb v k h

leads_other : (ts : List (List ℕ)) (k : ℕ) → (line_id ts ≡ k → ⊥) → leads k ts ≡ false
leads_other [] k h = refl
leads_other (t ∷ ts) k h = number_other (decimal t) k h

-- ---- lines that are read to the end

-- the id of each is above those before
rises : (m l : ℕ) (b : Sofar) (xs out : List (List ℕ)) (ids : List ℕ) → read_lines m l b xs ≡ done out ids → (j : ℕ) → 0 < length (tokens_on xs j) → last_of 0 b.ids < line_id (tokens_on xs j)
rises m l b [] out ids q j h = absurd (omega (arith, past_end j))
rises m l b (x ∷ xs) out ids q j h = go (reply_after m b (line_tokens x)) refl (rises m (suc l) b xs out ids) (λ r s. rises m (suc l) (with_line b (line_tokens x) r s) xs out ids) j h
  where
    go : (y : Reply) → reply_after m b (line_tokens x) ≡ y → (read_lines m (suc l) b xs ≡ done out ids → (j : ℕ) → 0 < length (tokens_on xs j) → last_of 0 b.ids < line_id (tokens_on xs j))
        → ((r : List ℕ) (s : List Bool) → read_lines m (suc l) (with_line b (line_tokens x) r s) xs ≡ done out ids → (j : ℕ) → 0 < length (tokens_on xs j)
        → last_of 0 (with_line b (line_tokens x) r s).ids < line_id (tokens_on xs j)) → (j : ℕ) → 0 < length (tokens_on (x ∷ xs) j) → last_of 0 b.ids < line_id (tokens_on (x ∷ xs) j)
    go skip e f g zero h = absurd (omega (arith, ap length (blank m b (line_tokens x) e)))
    go skip e f g (suc j) h = f (sym (step_skip m l b x xs e) ∙ q) j h
    go (no r) e f g j h = let z : refused r l ≡ done out ids = sym (step_no m l b x xs r e) ∙ q in let w : ◌≡◌ {A = ℕ} 0 1 = cc in absurd (omega arith)
    go (got r s) e f g zero h = above (last_of 0 b.ids) (line_id (line_tokens x)) (gives_after m b (line_tokens x) r s e).next
    go (got r s) e f g (suc j) h =
        let a = above (last_of 0 b.ids) (line_id (line_tokens x)) (gives_after m b (line_tokens x) r s e).next in
        let c = g r s (sym (step_got m l b x xs r s e) ∙ q) j h in
        omega (arith, a, c, last_line_lem 0 b.ids (minuses s) (line_id (line_tokens x)))

-- a line is found by its id
found : (m l : ℕ) (b : Sofar) (xs out : List (List ℕ)) (ids : List ℕ) → read_lines m l b xs ≡ done out ids → (j i : ℕ) → 0 < length (tokens_on xs j)
    → (line_from (line_id (tokens_on xs j)) i xs).content ≡ get_or xs j []
unfolding line_from
found m l b [] out ids q j i h = absurd (omega (arith, past_end j))
found m l b (x ∷ xs) out ids q j i h =
    go (reply_after m b (line_tokens x)) refl (found m (suc l) b xs out ids) (λ r s. found m (suc l) (with_line b (line_tokens x) r s) xs out ids) (λ r s. rises m (suc l) (with_line b (line_tokens x) r s) xs out ids) j h
  where
    here : leads (line_id (line_tokens x)) (line_tokens x) ≡ true → (line_from (line_id (line_tokens x)) i (x ∷ xs)).content ≡ x
    here e = rw (e, line_from) refl

    there : (n : ℕ) → leads n (line_tokens x) ≡ false → line_from n i (x ∷ xs) ≡ line_from n (i + length x + 1) xs
    there n e = rw (e, line_from) refl

    go : (y : Reply) → reply_after m b (line_tokens x) ≡ y → (read_lines m (suc l) b xs ≡ done out ids → (j i : ℕ) → 0 < length (tokens_on xs j) → (line_from (line_id (tokens_on xs j)) i xs).content ≡ get_or xs j [])
        → ((r : List ℕ) (s : List Bool) → read_lines m (suc l) (with_line b (line_tokens x) r s) xs ≡ done out ids → (j i : ℕ) → 0 < length (tokens_on xs j)
        → (line_from (line_id (tokens_on xs j)) i xs).content ≡ get_or xs j [])
        → ((r : List ℕ) (s : List Bool) → read_lines m (suc l) (with_line b (line_tokens x) r s) xs ≡ done out ids → (j : ℕ) → 0 < length (tokens_on xs j)
        → last_of 0 (with_line b (line_tokens x) r s).ids < line_id (tokens_on xs j))
        → (j : ℕ) → 0 < length (tokens_on (x ∷ xs) j) → (line_from (line_id (tokens_on (x ∷ xs) j)) i (x ∷ xs)).content ≡ get_or (x ∷ xs) j []
    go skip e f g k zero h = absurd (omega (arith, ap length (blank m b (line_tokens x) e)))
    go skip e f g k (suc j) h =
        let n : ℕ = line_id (tokens_on xs j) in
        ap (λ (y : Located). y.content) (there n (ap (leads n) (blank m b (line_tokens x) e))) ∙ f (sym (step_skip m l b x xs e) ∙ q) j (i + length x + 1) h
    go (no r) e f g k j h = let z : refused r l ≡ done out ids = sym (step_no m l b x xs r e) ∙ q in let w : ◌≡◌ {A = ℕ} 0 1 = cc in absurd (omega arith)
    go (got r s) e f g k zero h = here (leads_own (line_tokens x) (follows_some (last_of 0 b.ids) (line_id (line_tokens x)) (gives_after m b (line_tokens x) r s e).next))
    go (got r s) e f g k (suc j) h =
        let n : ℕ = line_id (tokens_on xs j) in
        let q₁ = sym (step_got m l b x xs r s e) ∙ q in
        let c = k r s q₁ j h in
        let o = leads_other (line_tokens x) n (λ y. omega (arith, y, c, last_line_lem 0 b.ids (minuses s) (line_id (line_tokens x)))) in
        ap (λ (y : Located). y.content) (there n o) ∙ g r s q₁ j (i + length x + 1) h

-- "`name` of each id is that line's"
pub name_of_line : (len : ℕ) (s : List ℕ) (rs : List (List ℕ)) (ds : List ℕ) → read_text len s ≡ done rs ds → (j : ℕ) → 0 < length (text_line s j)
    → name_of s (line_id (text_line s j)) ≡ line_name (text_line s j)
unfolding name_of
name_of_line len s rs ds q j h = ap (λ (x : List ℕ). line_name (line_tokens x)) (found (room false len) 1 no_lines (split 10 s) rs ds (lines_done len s rs ds q) j 0 h)
