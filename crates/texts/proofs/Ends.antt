-- A part of a line that is its name and ends where the last token does starts at the name's place. Assumes nothing.
use Prim.Native.Nat.{ℕ, zero, suc, ◌+◌, ◌-◌, ◌≤◌, ◌<◌}
use mathlib.Core.Path.{◌≡◌, refl, sym, ap, ◌∙◌}
use mathlib.Core.Bool.{Bool, true, false}
use mathlib.Core.List.{List, [], ◌∷◌}
use native.Mathlib.Omega.{arith}
use lib.Dec.{eqb}
use lib.ListN.{length, take, drop, get_or, length-take, length-drop}
use lib.Seq.{drop-drop}
use Rattle.texts.specs.Split.{glue, split, up_to, non_empty, tokens}
use Rattle.texts.specs.Reading.{word_in, last_of, line_name}
use Rattle.texts.specs.Naming.{Located, located, line_with, name_of, located_from, last_place, name_place}
use Rattle.texts.specs.Model.Ends.{end_of, tokens_end}
use Rattle.texts.proofs.Places.{tail, split_first, tail_tokens, take_up_to, next_token}
use Rattle.texts.proofs.Scan.{up_to_miss}
use Rattle.texts.proofs.Named.{name_found}
use Rattle.texts.proofs.Located.{name_content}

-- ---- from any place of a line on, its last token ends at the same place

last_end : Located → ℕ → List (List ℕ) → ℕ
last_end t i ls = end_of (last_of t (located_from i ls))

same_end : (t u : Located) (i : ℕ) (ls : List (List ℕ)) → end_of t ≡ end_of u → last_end t i ls ≡ last_end u i ls
unfolding last_end
same_end t u i [] h = h
same_end t u i ([] ∷ ls) h = same_end t u (i + 1) ls h
same_end t u i ((c ∷ l) ∷ ls) h = refl

-- where there is a token, no other counts
any_last : (t u : Located) (i : ℕ) (ls : List (List ℕ)) → 0 < length (non_empty ls) → last_of t (located_from i ls) ≡ last_of u (located_from i ls)
any_last t u i [] h = absurd (omega arith)
any_last t u i ([] ∷ ls) h = any_last t u (i + 1) ls h
any_last t u i ((c ∷ l) ∷ ls) h = refl

module _ (t : Located) where
  glue_end : (i c : ℕ) (ls : List (List ℕ)) → 0 < length (non_empty ls) → (0 < length (non_empty (glue c ls))) × (last_end t i (glue c ls) ≡ last_end t (i + 1) ls)
  unfolding last_end
  glue_end i c [] h = absurd (omega arith)
  glue_end i c ([] ∷ ls) h = (omega arith, ap end_of (any_last (located i (c ∷ [])) t (i + 1 + 1) ls h))
  glue_end i c ((d ∷ l) ∷ ls) h =
      let q : i + length (c ∷ d ∷ l) + 1 ≡ i + 1 + length (d ∷ l) + 1 = omega arith in
      (omega arith, same_end (located i (c ∷ d ∷ l)) (located (i + 1) (d ∷ l)) (i + length (c ∷ d ∷ l) + 1) ls (omega arith) ∙ ap (λ (j : ℕ). last_end (located (i + 1) (d ∷ l)) j ls) q)

  byte_end : (i c : ℕ) (x : List ℕ) → 0 < length (non_empty (split 32 x)) → (0 < length (non_empty (split 32 (c ∷ x)))) × (last_end t i (split 32 (c ∷ x)) ≡ last_end t (i + 1) (split 32 x))
  unfolding last_end split
  byte_end i c x h = go (eqb c 32) refl
    where
      go : (q : Bool) → eqb c 32 ≡ q → (0 < length (non_empty (split 32 (c ∷ x)))) × (last_end t i (split 32 (c ∷ x)) ≡ last_end t (i + 1) (split 32 x))
      go true e = rw (e, split) (h, refl)
      go false e = rw (e, split) (glue_end i c (split 32 x) h)

  drop_end : (k i : ℕ) (x : List ℕ) → 0 < length (non_empty (split 32 (drop k x)))
      → (0 < length (non_empty (split 32 x))) × (last_end t i (split 32 x) ≡ last_end t (i + k) (split 32 (drop k x)))
  unfolding split
  drop_end zero i x h = (h, let q : i ≡ i + 0 = omega arith in ap (λ (j : ℕ). last_end t j (split 32 x)) q)
  drop_end (suc k) i [] h = absurd (omega arith)
  drop_end (suc k) i (c ∷ x) h =
      let r = drop_end k (i + 1) x h in
      let b = byte_end i c x r.0 in
      let q : i + 1 + k ≡ i + suc k = omega arith in
      (b.0, b.1 ∙ (r.1 ∙ ap (λ (j : ℕ). last_end t j (split 32 (drop k x))) q))

-- ---- a token with none behind it is the last

none_end : (t : Located) (i : ℕ) (ls : List (List ℕ)) → non_empty ls ≡ [] → last_end t i ls ≡ end_of t
unfolding last_end
none_end t i [] h = refl
none_end t i ([] ∷ ls) h = none_end t (i + 1) ls h
none_end t i ((c ∷ l) ∷ ls) h = absurd (omega (arith, ap length h))

lone_end : (t : Located) (i : ℕ) (y : List ℕ) (ls : List (List ℕ)) → 0 < length y → non_empty ls ≡ [] → last_end t i (y ∷ ls) ≡ i + length y
unfolding last_end
lone_end t i [] ls l h = absurd (omega arith)
lone_end t i (c ∷ y) ls l h = none_end (located i (c ∷ y)) (i + length (c ∷ y) + 1) ls h

module _ (l : List ℕ) (a z : ℕ) (in-line : a < length l) (no-space : get_or l a 0 ≡ 32 → ⊥) (ends : z ≡ a + length (up_to 32 (drop a l))) where
  some_bytes : 0 < length (up_to 32 (drop a l))
  some_bytes = omega (arith, ap length (up_to_miss 32 l a in-line no-space))

  pub token_end : tokens (drop z l) ≡ [] → z ≡ tokens_end l
  unfolding last_end tokens
  token_end h =
      let k : ℕ = length (up_to 32 (drop a l)) in
      let e : drop k (drop a l) ≡ drop z l = drop-drop k a l ∙ ap (λ (m : ℕ). drop m l) (sym ends) in
      let n : length (take k (drop a l)) ≡ k = omega (arith, ap length (take_up_to 32 (drop a l))) in
      let r : non_empty (tail 32 (drop k (drop a l))) ≡ [] = tail_tokens (drop a l) ∙ (ap tokens e ∙ h) in
      let d = drop_end (located 0 []) a 0 l (omega (arith, ap length (next_token l a z in-line no-space ends))) in
      sym (d.1 ∙ (ap (last_end (located 0 []) (0 + a)) (split_first 32 (drop a l)) ∙ (lone_end (located 0 []) (0 + a) (take k (drop a l)) (tail 32 (drop k (drop a l))) (omega (arith, some_bytes)) r ∙ omega arith)))

-- ---- the place in the text of a line's last token

module _ (i : ℕ) where
  shifted_from : (t u : Located) (j : ℕ) (ls : List (List ℕ)) → t.place ≡ i + u.place → (last_of t (located_from (i + j) ls)).place ≡ i + (last_of u (located_from j ls)).place
  shifted_from t u j [] h = h
  shifted_from t u j ([] ∷ ls) h = let q : i + j + 1 ≡ i + (j + 1) = omega arith in
      ap (λ (m : ℕ). (last_of t (located_from m ls)).place) q ∙ shifted_from t u (j + 1) ls h
  shifted_from t u j ((c ∷ l) ∷ ls) h = let q : i + j + length (c ∷ l) + 1 ≡ i + (j + length (c ∷ l) + 1) = omega arith in
      ap (λ (m : ℕ). (last_of (located (i + j) (c ∷ l)) (located_from m ls)).place) q ∙ shifted_from (located (i + j) (c ∷ l)) (located j (c ∷ l)) (j + length (c ∷ l) + 1) ls refl

  shifted : (ls : List (List ℕ)) → 0 < length (non_empty ls) → (last_of (located 0 []) (located_from i ls)).place ≡ i + (last_of (located 0 []) (located_from 0 ls)).place
  shifted ls h = let q : i ≡ i + 0 = omega arith in
      ap (λ (t : Located). t.place) (any_last (located 0 []) (located i []) i ls h)
      ∙ (ap (λ (m : ℕ). (last_of (located i []) (located_from m ls)).place) q ∙ shifted_from (located i []) (located 0 []) 0 ls q)

name_some : (ts : List (List ℕ)) → 0 < length (line_name ts) → 0 < length ts
unfolding word_in
name_some [] h = h
name_some (t ∷ ts) h = omega arith

-- the part from a to b of a line that is found at the place i: y is the line without its comment
pub place_found : (s : List ℕ) (n i : ℕ) (x y : List ℕ) (a b : ℕ) → line_with s n ≡ located i x → y ≡ up_to 59 x → b ≤ length y
    → take (b - a) (drop a y) ≡ line_name (tokens y) → (a < b → b ≡ tokens_end y) → 0 < length (name_of s n) → i + a ≡ name_place s n
unfolding name_place tokens
place_found s n i x y a b e c l p q h =
    let m : 0 < length (line_name (tokens y)) = omega (arith, ap length (name_found s n i x y e c)) in
    let k : b - a ≡ length (line_name (tokens y)) = omega (arith, ap length p, length-take (b - a) (drop a y), length-drop a y) in
    let z : b ≡ tokens_end y = q (omega arith) in
    let o : i + a ≡ i + (last_of (located 0 []) (located_from 0 (split 32 y))).place = omega (arith, ap length (name_content 0 y m)) in
    o ∙ (sym (shifted i (split 32 y) (name_some (tokens y) m))
    ∙ (ap (λ (u : List ℕ). (last_of (located 0 []) (located_from i (split 32 u))).place) c ∙ sym (ap last_place e)))
