-- Names chained by hash: along a chain no name is missed, and a name more keeps the chains. Assumes nothing.
use Prim.Native.Nat.{ℕ, zero, suc, ◌+◌, ◌-◌, ◌*◌, ◌≤◌, ◌<◌, zero-le}
use mathlib.Core.Path.{◌≡◌, refl, sym, ap, subst, ◌∙◌}
use mathlib.Core.Logic.{⊎_elim}
use mathlib.Core.Bool.{Bool, true, false}
use mathlib.Core.List.{List, [], ◌∷◌}
use native.Mathlib.Nat.{eq-or-lt_of_le}
use native.Mathlib.Omega.{arith}
use lib.Dec.{eqb}
use lib.ListN.{length, take, drop, get_or, replicate, get_or-replicate}
use borrow.Author.Tests.{eqb-true, eqb-false}
use Rattle.tables.specs.Pick.{pick}
use Rattle.tables.proofs.Laws.{by_pick, within}
use Rattle.texts.specs.Split.{same_bytes}
use Rattle.texts.specs.Names.{among}
use Rattle.texts.specs.Model.Chains.{hashes, hash_of, head_in, count_in, link_of, link_in, first_byte, last_byte, name_at, names_up_to, names_in, last_with, Chained, HasRoom}

-- ---- the same bytes have the same hash

pub same_equal : (t u : List ℕ) → same_bytes t u ≡ true → t ≡ u
same_equal [] [] h = refl
same_equal [] (y ∷ u) h = let z : ◌≡◌ {A = ℕ} 0 1 = cc in absurd (omega arith)
same_equal (x ∷ t) [] h = let z : ◌≡◌ {A = ℕ} 0 1 = cc in absurd (omega arith)
same_equal (x ∷ t) (y ∷ u) h = go (eqb x y) refl (same_equal t u)
  where
    go : (b : Bool) → eqb x y ≡ b → (same_bytes t u ≡ true → t ≡ u) → x ∷ t ≡ y ∷ u
    go true e f = let p = eqb-true x y e in let q = f (rw e at h) in cc
    go false e f = let g : false ≡ true = (rw e at h) in let z : ◌≡◌ {A = ℕ} 0 1 = cc in absurd (omega arith)

pub other_hash : (t n : List ℕ) (h : ℕ) → hash_of t ≡ h → eqb (hash_of n) h ≡ false → same_bytes t n ≡ false
other_hash t n h e d = go (same_bytes t n) refl
  where
    go : (b : Bool) → same_bytes t n ≡ b → same_bytes t n ≡ false
    go true s = absurd (eqb-false (hash_of n) h d (ap hash_of (sym (same_equal t n s)) ∙ e))
    go false s = s

-- ---- the last name with a hash

module _ (s w : List ℕ) where
  pub last_most : (n h : ℕ) → last_with s w n h ≤ n
  last_most zero h = zero-le
  last_most (suc n) h = by_pick (λ (i : ℕ). i ≤ suc n) (eqb (hash_of (name_at s w (suc n))) h) (λ e. omega arith) (λ e. omega (arith, last_most n h))

  pub last_hash : (n h j : ℕ) → last_with s w n h ≡ suc j → hash_of (name_at s w (suc j)) ≡ h
  last_hash zero h j e = absurd (omega arith)
  last_hash (suc n) h j e = go (eqb (hash_of (name_at s w (suc n))) h) refl (last_hash n h j)
    where
      go : (b : Bool) → eqb (hash_of (name_at s w (suc n))) h ≡ b → (last_with s w n h ≡ suc j → hash_of (name_at s w (suc j)) ≡ h) → hash_of (name_at s w (suc j)) ≡ h
      go true d f = let q : n ≡ j = omega (arith, rw d at e) in ap (λ (i : ℕ). hash_of (name_at s w (suc i))) (sym q) ∙ eqb-true (hash_of (name_at s w (suc n))) h d
      go false d f = f (rw d at e)

  pub last_among : (t : List ℕ) (n h : ℕ) → hash_of t ≡ h → among t (names_up_to s w n) ≡ among t (names_up_to s w (last_with s w n h))
  last_among t zero h e = refl
  last_among t (suc n) h e = go (eqb (hash_of (name_at s w (suc n))) h) refl (last_among t n h e)
    where
      go : (b : Bool) → eqb (hash_of (name_at s w (suc n))) h ≡ b → among t (names_up_to s w n) ≡ among t (names_up_to s w (last_with s w n h))
          → among t (names_up_to s w (suc n)) ≡ among t (names_up_to s w (last_with s w (suc n) h))
      go true d f = rw d refl
      go false d f = rw (other_hash t (name_at s w (suc n)) h e d, d) f

-- ---- a walk along a chain: the bytes t, whose hash is h, are one of the names just where they are one of the first i, and the name i has that hash

pub record Walk (s w t : List ℕ) (h i : ℕ) : Type 0 where
  pub most : i ≤ count_in w
  pub left : among t (names_in s w) ≡ among t (names_up_to s w i)
  pub like : (j : ℕ) → i ≡ suc j → hash_of (name_at s w (suc j)) ≡ h

module _ {s w : List ℕ} (k : Chained s w) (t : List ℕ) (h : ℕ) (e : hash_of t ≡ h) where
  pub walk_start : (i : ℕ) → h < hashes → i ≡ head_in w h → Walk s w t h i
  walk_start i l p =
      let q : i ≡ last_with s w (count_in w) h = p ∙ k.heads h l in
      record {
        most = rw q (last_most s w (count_in w) h);
        left = rw q (last_among s w t (count_in w) h e);
        like = λ j r. last_hash s w (count_in w) h j (sym q ∙ r);
      }

  walk_next : (n i : ℕ) → i ≡ link_in w (suc n) → Walk s w t h (suc n) → same_bytes t (name_at s w (suc n)) ≡ false → Walk s w t h i
  walk_next n i p v d =
      let q : i ≡ last_with s w n h = p ∙ (k.links n (omega (arith, v.most)) ∙ ap (last_with s w n) (v.like n refl)) in
      record {
        most = rw q (omega (arith, last_most s w n h, v.most));
        left = rw q (v.left ∙ rw d (last_among s w t n h e));
        like = λ j r. last_hash s w n h j (sym q ∙ r);
      }

  pub walk_on : (i j : ℕ) → (i ≡ 0 → ⊥) → j ≡ link_in w i → Walk s w t h i → same_bytes t (name_at s w i) ≡ false → Walk s w t h j
  walk_on zero j z p v d = absurd (z refl)
  walk_on (suc n) j z p v d = walk_next n j p v d

  -- a chain goes back
  pub link_less : (i : ℕ) → (i ≡ 0 → ⊥) → Walk s w t h i → link_in w i < i
  link_less zero z v = absurd (z refl)
  link_less (suc n) z v = rw (k.links n (omega (arith, v.most))) (omega (arith, last_most s w n (hash_of (name_at s w (suc n)))))

pub walk_found : {s w : List ℕ} (t : List ℕ) (h i : ℕ) → (i ≡ 0 → ⊥) → Walk s w t h i → same_bytes t (name_at s w i) ≡ true → among t (names_in s w) ≡ true
walk_found t h zero z v d = absurd (z refl)
walk_found t h (suc n) z v d = v.left ∙ rw d refl

pub walk_end : {s w : List ℕ} (t : List ℕ) (h i : ℕ) → i ≡ 0 → Walk s w t h i → among t (names_in s w) ≡ false
walk_end t h i z v = v.left ∙ rw z refl

-- ---- where a name stands in the text

module _ {s w : List ℕ} (k : Chained s w) where
  pub name_ordered : (i : ℕ) → (i ≡ 0 → ⊥) → i ≤ count_in w → first_byte w i ≤ last_byte w i
  name_ordered zero z l = absurd (z refl)
  name_ordered (suc n) z l = k.ordered n (omega arith)

  pub name_within : (i : ℕ) → (i ≡ 0 → ⊥) → i ≤ count_in w → last_byte w i < length s
  name_within zero z l = absurd (z refl)
  name_within (suc n) z l = k.within n (omega arith)

-- ---- a name more

-- v has the words of the first n names from w
abbrev SameWords : (w v : List ℕ) (n : ℕ) → Type 0
SameWords w v n = (x : ℕ) → hashes < x → x < link_of (suc n) → get_or v x 0 ≡ get_or w x 0

module _ (s w v : List ℕ) where
  name_kept : (n : ℕ) → SameWords w v n → (j : ℕ) → j < n → name_at s v (suc j) ≡ name_at s w (suc j)
  name_kept n k j l =
      let a = k (link_of (suc j) + 1) (omega arith) (omega arith) in
      let b = k (link_of (suc j) + 2) (omega arith) (omega arith) in
      rw (a, b) refl

  fewer : (n : ℕ) → SameWords w v (suc n) → SameWords w v n
  fewer n k x a b = k x a (omega arith)

  names_kept : (n : ℕ) → SameWords w v n → names_up_to s v n ≡ names_up_to s w n
  names_kept zero k = refl
  names_kept (suc n) k = rw (name_kept (suc n) k n (omega arith), names_kept n (fewer n k)) refl

  last_kept : (n h : ℕ) → SameWords w v n → last_with s v n h ≡ last_with s w n h
  last_kept zero h k = refl
  last_kept (suc n) h k = rw (name_kept (suc n) k n (omega arith), last_kept n h (fewer n k)) refl

-- v is w with a name more, whose hash is h and whose bytes stand in the text from a to z
pub record Grown (w v : List ℕ) (h a z : ℕ) : Type 0 where
  pub long : length v ≡ length w
  pub count : count_in v ≡ suc (count_in w)
  pub head : head_in v h ≡ suc (count_in w)
  pub heads : (g : ℕ) → g < hashes → (g ≡ h → ⊥) → head_in v g ≡ head_in w g
  pub link : link_in v (suc (count_in w)) ≡ head_in w h
  pub first : first_byte v (suc (count_in w)) ≡ a
  pub last : last_byte v (suc (count_in w)) ≡ z
  pub kept : (x : ℕ) → hashes < x → x < link_of (suc (count_in w)) → get_or v x 0 ≡ get_or w x 0

module _ (s w v : List ℕ) (h a z : ℕ) (g : Grown w v h a z) where
  new_name : name_at s v (suc (count_in w)) ≡ take (z + 1 - a) (drop a s)
  new_name = rw (g.first, g.last) refl

  pub grown_names : names_in s v ≡ take (z + 1 - a) (drop a s) ∷ names_in s w
  grown_names = rw (g.count, new_name, names_kept s w v (count_in w) g.kept) refl

  module _ (k : Chained s w) (e : hash_of (take (z + 1 - a) (drop a s)) ≡ h) (l : h < hashes) where
    -- what holds of each name of w and of the new one holds of each name of v
    each : (P : ℕ → Type 0) → ((n : ℕ) → n < count_in w → P n) → P (count_in w) → (n : ℕ) → n < count_in v → P n
    each P f p n b = ⊎_elim (λ q. subst P (sym q) p) (λ q. f n q) (eq-or-lt_of_le (within (rw g.count at b)))

    new_hash : hash_of (name_at s v (suc (count_in w))) ≡ h
    new_hash = ap hash_of new_name ∙ e

    head_grown : (i : ℕ) → i < hashes → head_in v i ≡ last_with s v (count_in v) i
    head_grown i b = rw (g.count, new_hash) (go (eqb h i) refl)
      where
        go : (q : Bool) → eqb h i ≡ q → head_in v i ≡ pick (eqb h i) (suc (count_in w)) (last_with s v (count_in w) i)
        go true d = rw (d, ← eqb-true h i d) g.head
        go false d = rw d (g.heads i b (λ q. eqb-false h i d (sym q)) ∙ (k.heads i b ∙ sym (last_kept s w v (count_in w) i g.kept)))

    link_new : link_in v (suc (count_in w)) ≡ last_with s v (count_in w) (hash_of (name_at s v (suc (count_in w))))
    link_new = rw new_hash (g.link ∙ (k.heads h l ∙ sym (last_kept s w v (count_in w) h g.kept)))

    link_kept : (n : ℕ) → n < count_in w → link_in v (suc n) ≡ last_with s v n (hash_of (name_at s v (suc n)))
    link_kept n b =
        let p = g.kept (link_of (suc n)) (omega arith) (omega arith) in
        let q = last_kept s w v n (hash_of (name_at s w (suc n))) (λ x c d. g.kept x c (omega arith)) in
        rw (name_kept s w v (count_in w) g.kept n b) (p ∙ (k.links n b ∙ sym q))

    ordered_kept : (n : ℕ) → n < count_in w → first_byte v (suc n) ≤ last_byte v (suc n)
    ordered_kept n b =
        let p = g.kept (link_of (suc n) + 1) (omega arith) (omega arith) in
        let q = g.kept (link_of (suc n) + 2) (omega arith) (omega arith) in
        rw (p, q) (k.ordered n b)

    within_kept : (n : ℕ) → n < count_in w → last_byte v (suc n) < length s
    within_kept n b = let q = g.kept (link_of (suc n) + 2) (omega arith) (omega arith) in rw q (k.within n b)

    pub grown_chained : hashes + 4 + 3 * count_in w ≤ length w → a ≤ z → z < length s → Chained s v
    grown_chained r b c =
        record {
          size = omega (arith, g.long, g.count);
          heads = head_grown;
          links = each (λ (n : ℕ). link_in v (suc n) ≡ last_with s v n (hash_of (name_at s v (suc n)))) link_kept link_new;
          ordered = each (λ (n : ℕ). first_byte v (suc n) ≤ last_byte v (suc n)) ordered_kept (rw (g.first, g.last) b);
          within = each (λ (n : ℕ). last_byte v (suc n) < length s) within_kept (rw g.last c);
        }

-- ---- no names yet

module _ (s w : List ℕ) (e : w ≡ replicate (length w) 0) (l : hashes + 1 ≤ length w) where
  zero_at : (i : ℕ) → i < length w → get_or w i 0 ≡ 0
  zero_at i h = ap (λ (u : List ℕ). get_or u i 0) e ∙ get_or-replicate (length w) i 0 0 h

  pub count_none : count_in w ≡ 0
  count_none = zero_at hashes (omega arith)

  pub names_none : names_in s w ≡ []
  names_none = rw count_none refl

  pub chained_none : Chained s w
  chained_none =
      record {
        size = omega (arith, count_none);
        heads = λ h b. rw count_none (zero_at h (omega arith));
        links = λ n b. absurd (omega (arith, count_none));
        ordered = λ n b. absurd (omega (arith, count_none));
        within = λ n b. absurd (omega (arith, count_none));
      }

pub more_room : (w : List ℕ) (n : ℕ) → count_in w ≤ n → n < 8192 → hashes + 4 + 3 * n ≤ length w → HasRoom w
more_room w n a b c = (omega arith, omega arith)
