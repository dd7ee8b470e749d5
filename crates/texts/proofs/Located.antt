-- Where a name starts: the text at that place is the name. Assumes nothing.
use Prim.Native.Nat.{ℕ, zero, suc, ◌+◌, ◌≤◌, ◌<◌}
use mathlib.Core.Path.{◌≡◌, refl, sym, ap, ◌∙◌, subst}
use mathlib.Core.Bool.{Bool, true, false}
use mathlib.Core.List.{List, [], ◌∷◌, map}
use native.Mathlib.Omega.{arith}
use lib.Dec.{eqb}
use lib.ListN.{length, take, drop, length-take}
use lib.Seq.{drop-drop, take-take, take-length}
use Rattle.texts.specs.Split.{glue, split, up_to, non_empty, tokens, same_bytes}
use Rattle.texts.specs.Forms.{form_row, numbers_of, sort_word}
use Rattle.texts.specs.Reading.{word_in, form_word, sort_words, find_in, find_word, last_of, line_tokens, name_behind, line_name}
use Rattle.texts.specs.Names.{only}
use Rattle.texts.specs.Naming.{Located, located, leads, line_from, line_with, name_of, located_from, located_tokens, name_place}
use Rattle.texts.proofs.Places.{take_up_to}

-- ---- the located tokens are the tokens

abbrev pub contents : List Located → List (List ℕ)
contents ts = map (λ (t : Located). t.content) ts

located_parts : (i : ℕ) (ls : List (List ℕ)) → contents (located_from i ls) ≡ non_empty ls
located_parts i [] = refl
located_parts i ([] ∷ ls) = located_parts (i + 1) ls
located_parts i ((c ∷ l) ∷ ls) = ap (λ (x : List (List ℕ)). (c ∷ l) ∷ x) (located_parts (i + length (c ∷ l) + 1) ls)

pub located_tokens_lem : (l : Located) → contents (located_tokens l) ≡ line_tokens l.content
unfolding tokens
located_tokens_lem l = located_parts l.place (split 32 (up_to 59 l.content))

-- ---- they stand at their places in the text

-- the bytes of the text at a part's place are the part's
abbrev pub Stands : List ℕ → Located → Type 0
Stands s t = take (length t.content) (drop t.place s) ≡ t.content

-- parts that are parted by one byte and of which the first is at the place i
abbrev AllStand : List ℕ → ℕ → List (List ℕ) → Type 0
AllStand s i [] = Unit {0}
AllStand s i (x ∷ xs) = Stands s (located i x) × AllStand s (i + length x + 1) xs

byte_on : (y : List ℕ) (c : ℕ) (t : List ℕ) → take (suc (length t)) y ≡ c ∷ t → take (length t) (drop 1 y) ≡ t
byte_on [] c t h = absurd (omega (arith, ap length h))
byte_on (d ∷ y) c t h = cc

byte_back : (y : List ℕ) (c : ℕ) (t l : List ℕ) → take (suc (length t)) y ≡ c ∷ t → take (length l) (drop 1 y) ≡ l → take (suc (length l)) y ≡ c ∷ l
byte_back [] c t l h k = absurd (omega (arith, ap length h))
byte_back (d ∷ y) c t l h k = cc

module _ (b : ℕ) (s : List ℕ) where
  glued : (i c : ℕ) (t : List ℕ) (ls : List (List ℕ)) → Stands s (located i (c ∷ t)) → AllStand s (i + 1) ls → AllStand s i (glue c ls)
  glued i c t [] h k = (byte_back (drop i s) c t [] h refl, tt)
  glued i c t (l ∷ ls) h k =
      let q : i + 1 + length l + 1 ≡ i + length (c ∷ l) + 1 = omega arith in
      (byte_back (drop i s) c t l h (ap (λ (y : List ℕ). take (length l) y) (drop-drop 1 i s) ∙ k.0), subst (λ (j : ℕ). AllStand s j ls) q k.1)

  -- the parts of what stands at a place stand at theirs
  split_stand : (i : ℕ) (l : List ℕ) → Stands s (located i l) → AllStand s i (split b l)
  unfolding split
  split_stand i [] h = (refl, tt)
  split_stand i (c ∷ t) h = go (eqb c b) refl (split_stand (i + 1) t (ap (λ (y : List ℕ). take (length t) y) (sym (drop-drop 1 i s)) ∙ byte_on (drop i s) c t h))
    where
      go : (q : Bool) → eqb c b ≡ q → AllStand s (i + 1) (split b t) → AllStand s i (split b (c ∷ t))
      go true e k = rw (e, split) (refl, subst (λ (j : ℕ). AllStand s j (split b t)) (omega arith) k)
      go false e k = rw (e, split) (glued i c t (split b t) h k)

module _ (s : List ℕ) where
  last_stands : (t : Located) (i : ℕ) (ls : List (List ℕ)) → Stands s t → AllStand s i ls → Stands s (last_of t (located_from i ls))
  last_stands t i [] h k = h
  last_stands t i ([] ∷ ls) h k = last_stands t (i + 1) ls h (subst (λ (j : ℕ). AllStand s j ls) (omega arith) k.1)
  last_stands t i ((c ∷ l) ∷ ls) h k = last_stands (located i (c ∷ l)) (i + length (c ∷ l) + 1) ls k.0 k.1

  -- the line found, and a line without its comment
  line_stands : (n i : ℕ) (xs : List (List ℕ)) → AllStand s i xs → Stands s (line_from n i xs)
  unfolding line_from
  line_stands n i [] h = refl
  line_stands n i (x ∷ xs) h = go (leads n (line_tokens x)) refl (line_stands n (i + length x + 1) xs h.1)
    where
      go : (q : Bool) → leads n (line_tokens x) ≡ q → Stands s (line_from n (i + length x + 1) xs) → Stands s (line_from n i (x ∷ xs))
      go true e k = rw (e, line_from) h.0
      go false e k = rw (e, line_from) k

up_to_length : (b : ℕ) (y : List ℕ) → length (up_to b y) ≤ length y
up_to_length b y = omega (arith, ap length (take_up_to b y), length-take (length (up_to b y)) y)

cut_stands : (s : List ℕ) (i : ℕ) (x : List ℕ) → Stands s (located i x) → Stands s (located i (up_to 59 x))
cut_stands s i x h =
    sym (take-take (length (up_to 59 x)) (length x) (drop i s) (up_to_length 59 x))
    ∙ (ap (λ (y : List ℕ). take (length (up_to 59 x)) y) h ∙ take_up_to 59 x)

-- the last token of a line that stands in the text
token_stands : (s : List ℕ) (l : Located) → Stands s l → Stands s (last_of (located 0 []) (located_tokens l))
token_stands s l h =
    last_stands s (located 0 []) l.place (split 32 (up_to 59 l.content)) refl (split_stand 32 s l.place (up_to 59 l.content) (cut_stands s l.place l.content h))

-- ---- a name is its line's last token

only_last : (m : ℕ) (t : List ℕ) (ts : List (List ℕ)) → 0 < length (only (drop m ts)) → only (drop m ts) ≡ last_of t ts
only_last zero t [] h = absurd (omega arith)
only_last zero t (u ∷ []) h = refl
only_last zero t (u ∷ v ∷ r) h = absurd (omega arith)
only_last (suc m) t [] h = absurd (omega arith)
only_last (suc m) t (u ∷ ts) h = only_last m u ts h

form_last : (f : ℕ) (t : List ℕ) (ts : List (List ℕ)) → 0 < length (name_behind (form_word f ts)) → name_behind (form_word f ts) ≡ last_of t ts
form_last zero t ts h = absurd (omega arith)
form_last (suc f) t ts h = only_last (numbers_of (form_row (suc f))) t ts h

sort_last : (t : List ℕ) (ts : List (List ℕ)) → 0 < length (name_behind (sort_words ts)) → name_behind (sort_words ts) ≡ last_of t ts
sort_last t [] h = absurd (omega arith)
sort_last t (u ∷ ts) h = form_last (find_in 1 2 u) u ts h

word_last : (t : List ℕ) (ts : List (List ℕ)) → 0 < length (name_behind (word_in ts)) → name_behind (word_in ts) ≡ last_of t ts
unfolding word_in
word_last t [] h = absurd (omega arith)
word_last t (u ∷ ts) h = go (same_bytes u sort_word) refl h
  where
    go : (q : Bool) → same_bytes u sort_word ≡ q → 0 < length (name_behind (word_in (u ∷ ts))) → name_behind (word_in (u ∷ ts)) ≡ last_of u ts
    go true e = rw (e, word_in) (sort_last u ts)
    go false e = rw (e, word_in) (form_last (find_word u) u ts)

name_last : (t : List ℕ) (ts : List (List ℕ)) → 0 < length (line_name ts) → line_name ts ≡ last_of t ts
name_last t [] h = word_last t [] h
name_last t (u ∷ ts) h = word_last u ts h

last_content : (t : Located) (ts : List Located) → (last_of t ts).content ≡ last_of t.content (contents ts)
last_content t [] = refl
last_content t (u ∷ ts) = last_content u ts

-- the name in the tokens of a line without its comment
pub name_content : (i : ℕ) (l : List ℕ) → 0 < length (line_name (tokens l)) → line_name (tokens l) ≡ (last_of (located 0 []) (located_from i (split 32 l))).content
unfolding tokens
name_content i l h =
    name_last [] (tokens l) h ∙ sym (last_content (located 0 []) (located_from i (split 32 l)) ∙ ap (λ (x : List (List ℕ)). last_of [] x) (located_parts i (split 32 l)))

-- a line's name, where it is not empty, is the last of its located tokens
pub name_token : (s : List ℕ) (n : ℕ) → 0 < length (name_of s n) → name_of s n ≡ (last_of (located 0 []) (located_tokens (line_with s n))).content
unfolding name_of
name_token s n h = name_content (line_with s n).place (up_to 59 (line_with s n).content) h

-- ---- the theorem: the text at the name's place is the name

pub text_named : (s : List ℕ) (n : ℕ) → take (length (name_of s n)) (drop (name_place s n) s) ≡ name_of s n
unfolding name_place
text_named s n = go (name_of s n) refl
  where
    go : (x : List ℕ) → name_of s n ≡ x → take (length x) (drop (name_place s n) s) ≡ x
    go [] e = refl
    go (c ∷ x) e = let k : c ∷ x ≡ (last_of (located 0 []) (located_tokens (line_with s n))).content = sym e ∙ name_token s n (omega (arith, ap length e)) in
        ap (λ (y : List ℕ). take (length y) (drop (name_place s n) s)) k
        ∙ (token_stands s (line_with s n) (line_stands s n 0 (split 10 s) (split_stand 10 s 0 s (take-length s))) ∙ sym k)
