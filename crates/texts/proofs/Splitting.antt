-- Splitting what was joined. Assumes nothing.
use Prim.Native.Nat.{ℕ}
use mathlib.Core.Path.{◌≡◌, refl, ap, ◌∙◌}
use mathlib.Core.Bool.{false}
use mathlib.Core.List.{List, [], ◌∷◌, ◌++◌, append-nil}
use lib.Dec.{eqb}
use borrow.Author.Tests.{eq-eqb}
use Rattle.texts.specs.Split.{split, up_to, non_empty, tokens, spaced, join}

-- no byte of it is b
abbrev pub Lacks : ℕ → List ℕ → Type 0
Lacks b [] = Unit {0}
Lacks b (c ∷ t) = (eqb c b ≡ false) × Lacks b t

pub lacks_append : (b : ℕ) (s t : List ℕ) → Lacks b s → Lacks b t → Lacks b (s ++ t)
lacks_append b [] t h k = k
lacks_append b (c ∷ s) t h k = (h.0, lacks_append b s t h.1 k)

pub split_end : (b : ℕ) (a : List ℕ) → Lacks b a → split b a ≡ a ∷ []
unfolding split
split_end b [] h = refl
split_end b (c ∷ a) h = rw (h.0, split) (rw (split_end b a h.1) refl)

pub split_at : (b : ℕ) (a r : List ℕ) → Lacks b a → split b (a ++ b ∷ r) ≡ a ∷ split b r
unfolding split
split_at b [] r h = rw (eq-eqb b b refl, split) refl
split_at b (c ∷ a) r h = rw (h.0, split) (rw (split_at b a r h.1) refl)

pub up_to_all : (b : ℕ) (a : List ℕ) → Lacks b a → up_to b a ≡ a
unfolding up_to
up_to_all b [] h = refl
up_to_all b (c ∷ a) h = rw (h.0, up_to) (rw (up_to_all b a h.1) refl)

-- ---- tokens: not empty, and no byte parts them, ends a line or starts a comment

pub record CleanByte (c : ℕ) : Type 0 where
  pub feed : eqb c 10 ≡ false
  pub space : eqb c 32 ≡ false
  pub comment : eqb c 59 ≡ false

abbrev pub Clean : List ℕ → Type 0
Clean [] = Unit {0}
Clean (c ∷ t) = CleanByte c × Clean t

pub clean_append : (s t : List ℕ) → Clean s → Clean t → Clean (s ++ t)
clean_append [] t h k = k
clean_append (c ∷ s) t h k = (h.0, clean_append s t h.1 k)

lacks_feed : (t : List ℕ) → Clean t → Lacks 10 t
lacks_feed [] h = tt
lacks_feed (c ∷ t) h = (h.0.feed, lacks_feed t h.1)

lacks_space : (t : List ℕ) → Clean t → Lacks 32 t
lacks_space [] h = tt
lacks_space (c ∷ t) h = (h.0.space, lacks_space t h.1)

lacks_comment : (t : List ℕ) → Clean t → Lacks 59 t
lacks_comment [] h = tt
lacks_comment (c ∷ t) h = (h.0.comment, lacks_comment t h.1)

abbrev pub Tok : List ℕ → Type 0
Tok [] = ⊥
Tok (c ∷ t) = Clean (c ∷ t)

pub tok_clean : (t : List ℕ) → Tok t → Clean t
tok_clean [] h = tt
tok_clean (c ∷ t) h = h

abbrev pub Toks : List (List ℕ) → Type 0
Toks [] = Unit {0}
Toks (t ∷ ts) = Tok t × Toks ts

pub toks_append : (s t : List (List ℕ)) → Toks s → Toks t → Toks (s ++ t)
toks_append [] t h k = k
toks_append (c ∷ s) t h k = (h.0, toks_append s t h.1 k)

spaced_lacks : (b : ℕ) → eqb 32 b ≡ false → ((t : List ℕ) → Clean t → Lacks b t) → (ts : List (List ℕ)) → Toks ts → Lacks b (spaced ts)
spaced_lacks b e f [] h = tt
spaced_lacks b e f (t ∷ ts) h = (e, lacks_append b t (spaced ts) (f t (tok_clean t h.0)) (spaced_lacks b e f ts h.1))

join_lacks : (b : ℕ) → eqb 32 b ≡ false → ((t : List ℕ) → Clean t → Lacks b t) → (ts : List (List ℕ)) → Toks ts → Lacks b (join ts)
join_lacks b e f [] h = tt
join_lacks b e f (t ∷ ts) h = lacks_append b t (spaced ts) (f t (tok_clean t h.0)) (spaced_lacks b e f ts h.1)

split_join : (t : List ℕ) (ts : List (List ℕ)) → Tok t → Toks ts → split 32 (t ++ spaced ts) ≡ t ∷ ts
split_join t [] h k = split_end 32 (t ++ []) (lacks_append 32 t [] (lacks_space t (tok_clean t h)) tt) ∙ ap (λ (x : List ℕ). x ∷ []) (append-nil t)
split_join t (u ∷ ts) h k = split_at 32 t (u ++ spaced ts) (lacks_space t (tok_clean t h)) ∙ ap (λ (x : List (List ℕ)). t ∷ x) (split_join u ts k.0 k.1)

filled_toks : (ts : List (List ℕ)) → Toks ts → non_empty ts ≡ ts
filled_toks [] h = refl
filled_toks ([] ∷ ts) h = absurd h.0
filled_toks ((c ∷ t) ∷ ts) h = ap (λ (x : List (List ℕ)). (c ∷ t) ∷ x) (filled_toks ts h.1)

-- the tokens of a printed line are those that were printed
pub tokens_join : (t : List ℕ) (ts : List (List ℕ)) → Tok t → Toks ts → tokens (up_to 59 (join (t ∷ ts))) ≡ t ∷ ts
unfolding tokens
tokens_join t ts h k =
    rw (up_to_all 59 (join (t ∷ ts)) (join_lacks 59 refl lacks_comment (t ∷ ts) (h, k)))
    (rw (split_join t ts h k) (filled_toks (t ∷ ts) (h, k)))

-- the lines of a printed text
pub lines_join : (ts : List (List ℕ)) (r : List ℕ) → Toks ts → split 10 (join ts ++ 10 ∷ r) ≡ join ts ∷ split 10 r
lines_join ts r h = split_at 10 (join ts) r (join_lacks 10 refl lacks_feed ts h)
