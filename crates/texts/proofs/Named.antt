-- The name of a line, from the places of the text. Assumes nothing.
use Prim.Native.Nat.{ℕ, zero, suc, ◌+◌, ◌-◌, ◌≤◌, ◌<◌, min}
use mathlib.Core.Path.{◌≡◌, refl, sym, ap, ap₂, ◌∙◌}
use mathlib.Core.Bool.{Bool, true, false}
use mathlib.Core.List.{List, [], ◌∷◌}
use native.Mathlib.Omega.{arith}
use lib.Dec.{ltb}
use lib.ListN.{length, take, drop, get_or, drop_of_length-le, length-take, length-drop}
use lib.Seq.{drop-cons, drop-drop, take-nil, take-take}
use borrow.Author.Tests.{ltb-true, ltb-false}
use Rattle.texts.specs.declared.Form.{Form}
use Rattle.texts.specs.Forms.{form_row, numbers_of}
use Rattle.texts.specs.Split.{split, up_to, tokens}
use Rattle.std.specs.Prelude.{Some}
use Rattle.texts.specs.Reading.{unknown, word_in, line_tokens, name_behind, line_name}
use Rattle.texts.specs.Names.{only}
use Rattle.texts.specs.Naming.{Located, located, leads, line_from, line_with, name_of}
use Rattle.texts.specs.Model.Structs.{as_word}
use Rattle.texts.proofs.Places.{tail, line_first, next_token}

-- ---- tokens passed

-- what is left after one token more
pub pass_more : (m p : ℕ) (t : List ℕ) (ts : List (List ℕ)) → p < m → drop (m - p) (t ∷ ts) ≡ drop (m - (p + 1)) ts
pass_more m p t ts h = let q : m - p ≡ suc (m - (p + 1)) = omega arith in ap (λ (k : ℕ). drop k (t ∷ ts)) q

pub pass_none : (m p : ℕ) (ts : List (List ℕ)) → m ≤ p → drop (m - p) ts ≡ ts
pass_none m p ts h = let q : m - p ≡ 0 = omega arith in ap (λ (k : ℕ). drop k ts) q

pub only_more : (l : List ℕ) (b : ℕ) (t : List ℕ) → b < length l → (get_or l b 0 ≡ 32 → ⊥) → only (t ∷ tokens (drop b l)) ≡ []
only_more l b t h n = ap (λ (x : List (List ℕ)). only (t ∷ x)) (next_token l b (b + length (up_to 32 (drop b l))) h n refl)

-- the extra token behind a word
pub extra_none : (ts : List (List ℕ)) → word_in ts ≡ unknown → [] ≡ name_behind (word_in ts)
extra_none ts e = sym (ap name_behind e)

pub extra_of : (l : List ℕ) (w : Form) (ts : List (List ℕ)) (m : ℕ) → word_in ts ≡ as_word l (Some w) → m ≡ numbers_of (form_row w.form)
    → only (drop m (tokens (drop w.at l))) ≡ name_behind (word_in ts)
extra_of l w ts m e q = ap (λ (k : ℕ). only (drop k (tokens (drop w.at l)))) q ∙ sym (ap name_behind e)

-- ---- a part of a part

drop_take : (a m : ℕ) (x : List ℕ) → drop a (take m x) ≡ take (m - a) (drop a x)
drop_take zero m x = let q : m ≡ m - 0 = omega arith in ap (λ (k : ℕ). take k x) q
drop_take (suc a) zero x = let q : 0 ≡ 0 - suc a = omega arith in ap (λ (k : ℕ). take k (drop (suc a) x)) q
drop_take (suc a) (suc m) [] = sym (take-nil (suc m - suc a))
drop_take (suc a) (suc m) (y ∷ x) = let q : m - a ≡ suc m - suc a = omega arith in drop_take a m x ∙ ap (λ (k : ℕ). take k (drop a x)) q

-- the part from a to b of the line from i to z
pub part_of : (s : List ℕ) (i z a b : ℕ) → i ≤ z → z ≤ length s → b ≤ length (take (z - i) (drop i s)) → take (i + b - (i + a)) (drop (i + a) s) ≡ take (b - a) (drop a (take (z - i) (drop i s)))
part_of s i z a b h l k =
    let q : i + b - (i + a) ≡ b - a = omega arith in
    let m : b - a ≤ z - i - a = omega (arith, length-take (z - i) (drop i s), length-drop i s) in
    ap (λ (n : ℕ). take n (drop (i + a) s)) q
    ∙ (ap (λ (x : List ℕ). take (b - a) x) (sym (drop-drop a i s))
    ∙ (sym (take-take (b - a) (z - i - a) (drop a (drop i s)) m) ∙ ap (λ (x : List ℕ). take (b - a) x) (sym (drop_take a (z - i) (drop i s)))))

-- ---- the lines

module _ (n i : ℕ) (x : List ℕ) (xs : List (List ℕ)) where
  line_here : leads n (line_tokens x) ≡ true → line_from n i (x ∷ xs) ≡ located i x
  unfolding line_from
  line_here h = rw (h, line_from) refl

  line_later : leads n (line_tokens x) ≡ false → line_from n i (x ∷ xs) ≡ line_from n (i + length x + 1) xs
  unfolding line_from
  line_later h = rw (h, line_from) refl

line_end : (n i : ℕ) → line_from n i (split 10 []) ≡ located 0 []
unfolding line_from split up_to tokens
line_end n i = refl

line_none : (n i : ℕ) → line_from n i [] ≡ located 0 []
unfolding line_from
line_none n i = refl

-- no line starts at the text's end
pub line_past : (n : ℕ) (s : List ℕ) (i : ℕ) → length s ≤ i → line_from n i (split 10 (drop i s)) ≡ located 0 []
line_past n s i h = ap (λ (y : List ℕ). line_from n i (split 10 y)) (drop_of_length-le s h) ∙ line_end n i

tail_lines : (n : ℕ) (s : List ℕ) (z i : ℕ) → z ≤ length s → i ≡ min (z + 1) (length s) → line_from n (z + 1) (tail 10 (drop z s)) ≡ line_from n i (split 10 (drop i s))
tail_lines n s z i h q = go (ltb z (length s)) refl
  where
    go : (p : Bool) → ltb z (length s) ≡ p → line_from n (z + 1) (tail 10 (drop z s)) ≡ line_from n i (split 10 (drop i s))
    go true x =
        let k : z < length s = ltb-true z (length s) x in
        let j : suc z ≡ i = omega arith in
        let m : z + 1 ≡ suc z = omega arith in
        ap₂ (λ (a : ℕ) (y : List ℕ). line_from n a (tail 10 y)) m (drop-cons s z 0 k) ∙ ap (λ (y : ℕ). line_from n y (split 10 (drop y s))) j
    go false x =
        let k : length s ≤ z = ltb-false z (length s) x in
        let j : length s ≤ i = omega arith in
        ap (λ (y : List ℕ). line_from n (z + 1) (tail 10 y)) (drop_of_length-le s k) ∙ (line_none n (z + 1) ∙ sym (line_past n s i j))

-- the line from i to f, without its comment from i to z
module _ (n : ℕ) (s : List ℕ) (i f z : ℕ) (hf : f ≡ i + length (up_to 10 (drop i s))) (hz : take (z - i) (drop i s) ≡ up_to 59 (take (f - i) (drop i s))) where
  pub line_found : leads n (tokens (take (z - i) (drop i s))) ≡ true → line_from n i (split 10 (drop i s)) ≡ located i (take (f - i) (drop i s))
  line_found h =
      ap (line_from n i) (line_first s i f hf)
      ∙ line_here n i (take (f - i) (drop i s)) (tail 10 (drop f s)) (ap (λ (x : List ℕ). leads n (tokens x)) (sym hz) ∙ h)

  pub line_next : (i' : ℕ) → f ≤ length s → i' ≡ min (f + 1) (length s) → leads n (tokens (take (z - i) (drop i s))) ≡ false
      → line_from n i (split 10 (drop i s)) ≡ line_from n i' (split 10 (drop i' s))
  line_next i' l q h =
      let e : i + length (take (f - i) (drop i s)) + 1 ≡ f + 1 = omega (arith, length-take (f - i) (drop i s), length-drop i s) in
      ap (line_from n i) (line_first s i f hf)
      ∙ (line_later n i (take (f - i) (drop i s)) (tail 10 (drop f s)) (ap (λ (x : List ℕ). leads n (tokens x)) (sym hz) ∙ h)
      ∙ (ap (λ (k : ℕ). line_from n k (tail 10 (drop f s))) e ∙ tail_lines n s f i' l q))

-- ---- the name of the line found

pub name_missing : (s : List ℕ) (n : ℕ) → line_with s n ≡ located 0 [] → name_of s n ≡ []
unfolding name_of word_in tokens split up_to
name_missing s n h = ap (λ (l : Located). line_name (line_tokens l.content)) h

pub name_found : (s : List ℕ) (n i : ℕ) (x y : List ℕ) → line_with s n ≡ located i x → y ≡ up_to 59 x → name_of s n ≡ line_name (tokens y)
unfolding name_of
name_found s n i x y h e = ap (λ (l : Located). line_name (line_tokens l.content)) h ∙ ap (λ (u : List ℕ). line_name (tokens u)) (sym e)
