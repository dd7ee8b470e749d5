-- A line that has a name takes 8 bytes at least, with the byte behind it: an id, a word, a number and a name. Assumes nothing.
use Prim.Native.Nat.{ℕ, zero, suc, ◌+◌, ◌*◌, ◌≤◌, ◌<◌}
use mathlib.Core.Path.{◌≡◌, refl}
use mathlib.Core.Bool.{Bool, true, false}
use mathlib.Core.List.{List, [], ◌∷◌}
use native.Mathlib.Omega.{arith}
use lib.Dec.{T, eqb, ltb}
use lib.ListN.{length, drop, length-drop}
use borrow.Author.Tests.{ltb-true, eqb-true, eqb-false}
use Rattle.tables.specs.Kinds.{row_of}
use Rattle.tables.proofs.Laws.{true_of}
use Rattle.tables.proofs.Every.{every, at_each}
use Rattle.texts.specs.Forms.{form_row, numbers_of, sort_word}
use Rattle.texts.specs.Split.{glue, split, non_empty, tokens, same_bytes}
use Rattle.texts.specs.Names.{only}
use Rattle.texts.specs.Reading.{find_in, find_word, Word, word, unknown, form_word, sort_words, word_in, behind, name_behind, line_name}
use Rattle.texts.proofs.Words.{InForms, word_forms}

-- ---- tokens take two bytes each, but the last

-- the bytes of parts, each with the byte behind it
abbrev weight : List (List ℕ) → ℕ
weight [] = 0
weight (p ∷ ps) = length p + 1 + weight ps

split_weight : (b : ℕ) (l : List ℕ) → (weight (split b l) ≡ length l + 1) × (0 < length (split b l))
unfolding split
split_weight b [] = (refl, omega arith)
split_weight b (c ∷ l) = go (eqb c b) (split b l) (split_weight b l)
  where
    go : (q : Bool) (ls : List (List ℕ)) → (weight ls ≡ length l + 1) × (0 < length ls)
        → (weight (elim q [ true ↦ [] ∷ ls | false ↦ glue c ls ]) ≡ length (c ∷ l) + 1) × (0 < length {A = List ℕ} (elim q [ true ↦ [] ∷ ls | false ↦ glue c ls ]))
    go true ls h = (omega (arith, h.0), omega arith)
    go false [] h = absurd (omega (arith, h.1))
    go false (p ∷ ps) h = (omega (arith, h.0), omega arith)

filled_weight : (ls : List (List ℕ)) → 2 * length (non_empty ls) ≤ weight ls
filled_weight [] = omega arith
filled_weight ([] ∷ ls) = omega (arith, filled_weight ls)
filled_weight ((c ∷ l) ∷ ls) = omega (arith, filled_weight ls)

token_bytes : (l : List ℕ) → 2 * length (tokens l) ≤ length l + 1
unfolding tokens
token_bytes l = omega (arith, filled_weight (split 32 l), (split_weight 32 l).0)

-- ---- a line with a name has four tokens

numbered? : ℕ → Bool
numbered? i = ltb 0 (numbers_of (form_row (suc i)))

all_numbered : T (every numbered? 68)
unfolding numbered? form_row row_of
all_numbered = tt

numbers_some : (f : ℕ) → 1 ≤ f → f ≤ 68 → 0 < numbers_of (form_row f)
unfolding numbered?
numbers_some zero a b = absurd (omega arith)
numbers_some (suc i) a b = ltb-true 0 (numbers_of (form_row (suc i))) (true_of (numbered? i) (at_each numbered? 68 all_numbered i (omega arith)))

-- its word is one of its tokens
form_behind : (f : ℕ) (ts : List (List ℕ)) → length (behind (form_word f ts)) ≤ length ts
form_behind zero ts = omega arith
form_behind (suc f) ts = omega arith

word_behind : (ts : List (List ℕ)) → 0 < length ts → length (behind (word_in ts)) < length ts
unfolding word_in
word_behind [] h = absurd (omega arith)
word_behind (t ∷ ts) h = go (same_bytes t sort_word)
  where
    sorted : (us : List (List ℕ)) → length (behind (sort_words us)) ≤ length us
    sorted [] = omega arith
    sorted (u ∷ us) = omega (arith, form_behind (find_in 1 2 u) us)

    go : (q : Bool) → length (behind (elim q [ true ↦ sort_words ts | false ↦ form_word (find_word t) ts ])) < length (t ∷ ts)
    go true = omega (arith, sorted ts)
    go false = omega (arith, form_behind (find_word t) ts)

only_some : (ts : List (List ℕ)) → 0 < length (only ts) → 0 < length ts
only_some [] h = absurd (omega arith)
only_some (t ∷ ts) h = omega arith

name_some : (w : Word) → InForms w → 0 < length (name_behind w) → 2 ≤ length (behind w)
name_some unknown f h = absurd (omega arith)
name_some (word f ts) b h =
    let n = numbers_some f b.0 b.1.0 in
    omega (arith, n, only_some (drop (numbers_of (form_row f)) ts) h, length-drop (numbers_of (form_row f)) ts)

-- nothing stands behind no word
none_behind : (ts : List (List ℕ)) → length ts ≡ 0 → length (behind (word_in ts)) ≡ 0
unfolding word_in
none_behind [] e = refl
none_behind (t ∷ ts) e = absurd (omega arith)

name_tokens : (ts : List (List ℕ)) → 0 < length (line_name ts) → 4 ≤ length ts
name_tokens ts h = go (eqb (length (drop 1 ts)) 0) refl
  where
    k : 2 ≤ length (behind (word_in (drop 1 ts)))
    k = name_some (word_in (drop 1 ts)) (word_forms (drop 1 ts)) h

    go : (q : Bool) → eqb (length (drop 1 ts)) 0 ≡ q → 4 ≤ length ts
    go true e = absurd (omega (arith, k, none_behind (drop 1 ts) (eqb-true (length (drop 1 ts)) 0 e)))
    go false e =
        let n : length (drop 1 ts) ≡ 0 → ⊥ = eqb-false (length (drop 1 ts)) 0 e in
        let o : 0 < length (drop 1 ts) = omega (arith, n) in
        omega (arith, k, word_behind (drop 1 ts) o, length-drop 1 ts)

pub named_bytes : (l : List ℕ) → 0 < length (line_name (tokens l)) → 7 ≤ length l
named_bytes l h = omega (arith, name_tokens (tokens l) h, token_bytes l)
