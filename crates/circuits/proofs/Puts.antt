-- Runs of words: what a put leaves of each part. Assumes nothing.
use mathlib.Core.Path.{◌≡◌, refl, sym, ap, ap₂, ◌∙◌, subst}
use mathlib.Core.Bool.{Bool, true, false, ◌&&◌}
use mathlib.Core.List.{List, [], ◌∷◌, ◌++◌, append_assoc, append-nil}
use mathlib.Core.Logic.{◌⊎◌, inl, inr, ⊎_elim}
use Prim.Native.Nat.{ℕ, zero, suc, ◌+◌, ◌-◌, ◌%◌, ◌^◌, ◌≤◌, ◌<◌}
use native.Mathlib.Omega.{arith}
use native.Mathlib.Nat.{add-zero}
use native.Mathlib.Numerals.{add-one}
use lib.Dec.{ltb}
use borrow.Author.Tests.{eq-eqb, ne_eqb, ltb-true, ltb-false}
use lib.ListN.{length, take, drop, get_or, set, length-set, length-append, length-drop, get_or-append, drop_of_length-le, take-append-drop}
use lib.Seq.{drop_at, length-take-le, take-suc, drop-cons, get_or-take, get_or-drop, ext_get_or, set_at, get_or_at, set_split, get_or-append-add, drop-drop, take-add, take_at, take_all, drop-append-add}
use Rattle.words.specs.Word.{Width}
use Rattle.circuits.specs.Cells.{if_nonzero, part, put, mask_words, same_cells}
use Rattle.tables.specs.Pick.{pick}
use Rattle.circuits.specs.Model.Work.{Apart, off_in, num_in, cells_kept}

lt_or_ge_by : (a b : ℕ) (t : Bool) → ltb a b ≡ t → (a < b) ⊎ (b ≤ a)
lt_or_ge_by a b true e = inl (ltb-true a b e)
lt_or_ge_by a b false e = inr (ltb-false a b e)

pub lt_or_ge : (a b : ℕ) → (a < b) ⊎ (b ≤ a)
lt_or_ge a b = lt_or_ge_by a b (ltb a b) refl

pub length_part : (w : List ℕ) (a n : ℕ) → a + n ≤ length w → length (part w a n) ≡ n
length_part w a n h = length-take-le n (drop a w) (omega (arith, length-drop a w))

pub part_get_or : (w : List ℕ) (a n i : ℕ) → i < n → get_or (part w a n) i 0 ≡ get_or w (a + i) 0
part_get_or w a n i h = get_or-take n (drop a w) i 0 h ∙ get_or-drop a w i 0

pub part_ext : (w v : List ℕ) (a b n : ℕ) → a + n ≤ length w → b + n ≤ length v → ((i : ℕ) → i < n → get_or w (a + i) 0 ≡ get_or v (b + i) 0) → part w a n ≡ part v b n
part_ext w v a b n h k f =
    ext_get_or 0 (part w a n) (part v b n) (length_part w a n h ∙ sym (length_part v b n k))
    (λ i q. let s : i < n = subst (λ (m : ℕ). i < m) (length_part w a n h) q in part_get_or w a n i s ∙ f i s ∙ sym (part_get_or v b n i s))

module _ (w : List ℕ) (o : ℕ) (vs : List ℕ) (h : o + length vs ≤ length w) where
  front : length (take o w) ≡ o
  front = length-take-le o w (omega arith)

  pub length_put : length (put w o vs) ≡ length w
  unfolding put
  length_put = simp (length-append, length-drop) (omega (arith, front))

  pub put_lo : (i : ℕ) → i < o → get_or (put w o vs) i 0 ≡ get_or w i 0
  unfolding put
  put_lo i q =
      get_or-append (take o w) (vs ++ drop (o + length vs) w) 0 i (omega (arith, front)) ∙ get_or-take o w i 0 q

  pub put_in : (j : ℕ) → j < length vs → get_or (put w o vs) (o + j) 0 ≡ get_or vs j 0
  unfolding put
  put_in j q =
      ap (λ (n : ℕ). get_or (take o w ++ (vs ++ drop (o + length vs) w)) (n + j) 0) (sym front)
      ∙ get_or-append-add (take o w) (vs ++ drop (o + length vs) w) j 0
      ∙ get_or-append vs (drop (o + length vs) w) 0 j q

  pub put_hi : (i : ℕ) → o + length vs ≤ i → get_or (put w o vs) i 0 ≡ get_or w i 0
  unfolding put
  put_hi i q =
      let d : ℕ = i - (o + length vs) in
      let e : i ≡ length (take o w) + (length vs + d) = omega (arith, front) in
      let e₂ : o + length vs + d ≡ i = omega arith in
      ap (λ (n : ℕ). get_or (take o w ++ (vs ++ drop (o + length vs) w)) n 0) e
      ∙ get_or-append-add (take o w) (vs ++ drop (o + length vs) w) (length vs + d) 0
      ∙ get_or-append-add vs (drop (o + length vs) w) d 0
      ∙ get_or-drop (o + length vs) w d 0
      ∙ ap (λ (n : ℕ). get_or w n 0) e₂

  -- a part that lies apart from what was put stays
  pub put_apart : (a n : ℕ) → a + n ≤ length w → (a + n ≤ o) ⊎ (o + length vs ≤ a) → part (put w o vs) a n ≡ part w a n
  put_apart a n q s =
      part_ext (put w o vs) w a a n (omega (arith, length_put)) q
      (λ i t. ⊎_elim (λ l. put_lo (a + i) (omega arith)) (λ l. put_hi (a + i) (omega arith)) s)

  pub put_self : part (put w o vs) o (length vs) ≡ vs
  put_self =
      ext_get_or 0 (part (put w o vs) o (length vs)) vs (length_part (put w o vs) o (length vs) (omega (arith, length_put)))
      (λ i q. let s : i < length vs = subst (λ (m : ℕ). i < m) (length_part (put w o vs) o (length vs) (omega (arith, length_put))) q in
      part_get_or (put w o vs) o (length vs) i s ∙ put_in i s)

  -- what lies past it stays
  pub put_past : (m : ℕ) → o + length vs ≤ m → drop m (put w o vs) ≡ drop m w
  put_past m q =
      ext_get_or 0 (drop m (put w o vs)) (drop m w) (simp length-drop (ap (λ (n : ℕ). n - m) length_put))
      (λ i t. get_or-drop m (put w o vs) i 0 ∙ put_hi (m + i) (omega arith) ∙ sym (get_or-drop m w i 0))

pub put_none : (w : List ℕ) (o : ℕ) → put w o [] ≡ w
unfolding put
put_none w o = ap (λ (n : ℕ). take o w ++ drop n w) (add-zero o) ∙ take-append-drop o w

pub put_one : (w : List ℕ) (o v : ℕ) → o < length w → set w o v ≡ put w o (v ∷ [])
unfolding put
put_one w o v h = set_split w o v h ∙ ap (λ (n : ℕ). take o w ++ (v ∷ drop n w)) (sym (add-one o))

-- ---- masked words

pub length_lows : (w : ℕ) (xs : List ℕ) → length (mask_words w xs) ≡ length xs
length_lows w [] = refl
length_lows w (x ∷ xs) = ap suc (length_lows w xs)

pub lows_append : (w : ℕ) (xs ys : List ℕ) → mask_words w (xs ++ ys) ≡ mask_words w xs ++ mask_words w ys
lows_append w [] ys = refl
lows_append w (x ∷ xs) ys = ap (λ (l : List ℕ). x % 2 ^ w ∷ l) (lows_append w xs ys)

pub lows_more : (w : ℕ) (c : List ℕ) (i : ℕ) → i < length c → set (mask_words w (take i c) ++ drop i c) i (get_or c i 0 % 2 ^ w) ≡ mask_words w (take (i + 1) c) ++ drop (i + 1) c
lows_more w c i h =
    ap (λ (l : List ℕ). set (mask_words w (take i c) ++ l) i (get_or c i 0 % 2 ^ w)) (drop-cons c i 0 h)
    ∙ set_at (mask_words w (take i c)) (get_or c i 0) (drop (suc i) c) (get_or c i 0 % 2 ^ w) i (length_lows w (take i c) ∙ length-take-le i c (omega arith))
    ∙ sym (append_assoc (mask_words w (take i c)) (get_or c i 0 % 2 ^ w ∷ []) (drop (suc i) c))
    ∙ ap (λ (l : List ℕ). l ++ drop (suc i) c) (sym (lows_append w (take i c) (get_or c i 0 ∷ [])) ∙ ap (mask_words w) (sym (take-suc c i 0 h)))
    ∙ ap (λ (n : ℕ). mask_words w (take n c) ++ drop n c) (sym (add-one i))

-- ---- the same cells, one word on

pub same_more : (xs ys : List ℕ) (i : ℕ) → i < length xs → i < length ys → get_or xs i 0 ≡ get_or ys i 0 → same_cells (drop i xs) (drop i ys) ≡ same_cells (drop (i + 1) xs) (drop (i + 1) ys)
same_more xs ys i h k e =
    ap₂ same_cells (drop-cons xs i 0 h) (drop-cons ys i 0 k)
    ∙ ap (λ (b : Bool). b && same_cells (drop (suc i) xs) (drop (suc i) ys)) (eq-eqb (get_or xs i 0) (get_or ys i 0) e)
    ∙ ap (λ (n : ℕ). same_cells (drop n xs) (drop n ys)) (sym (add-one i))

pub same_not : (xs ys : List ℕ) (i : ℕ) → i < length xs → i < length ys → (get_or xs i 0 ≡ get_or ys i 0 → ⊥) → same_cells (drop i xs) (drop i ys) ≡ false
same_not xs ys i h k e =
    ap₂ same_cells (drop-cons xs i 0 h) (drop-cons ys i 0 k)
    ∙ ap (λ (b : Bool). b && same_cells (drop (suc i) xs) (drop (suc i) ys)) (ne_eqb (get_or xs i 0) (get_or ys i 0) e)

pub lows_rest : (w : ℕ) (c : List ℕ) (i : ℕ) → i < length c → get_or (mask_words w (take i c) ++ drop i c) i 0 ≡ get_or c i 0
lows_rest w c i h =
    ap (λ (l : List ℕ). get_or (mask_words w (take i c) ++ l) i 0) (drop-cons c i 0 h)
    ∙ get_or_at (mask_words w (take i c)) (get_or c i 0) (drop (suc i) c) 0 i (length_lows w (take i c) ∙ length-take-le i c (omega arith))

-- ---- what comes back of a part that was lent

pub mid_put : (w : List ℕ) (a d : ℕ) (vs : List ℕ) → length vs ≡ d → take a w ++ (vs ++ drop d (drop a w)) ≡ put w a vs
unfolding put
mid_put w a d vs e = ap (λ (l : List ℕ). take a w ++ (vs ++ l)) (drop-drop d a w ∙ ap (λ (n : ℕ). drop (a + n) w) (sym e))

pub stored : (w : List ℕ) {o o' v v' : ℕ} → o ≡ o' → v ≡ v' → o < length w → set w o v ≡ put w o' (v' ∷ [])
stored w {o} {o'} {v} {v'} p q h = put_one w o v h ∙ ap₂ (λ (i x : ℕ). put w i (x ∷ [])) p q

pub get_or_all : (u v : List ℕ) → length u ≡ length v → ((i : ℕ) → get_or u i 0 ≡ get_or v i 0) → u ≡ v
get_or_all u v e f = ext_get_or 0 u v e (λ i h. f i)

pub put_inner : (w : List ℕ) (x d j : ℕ) (vs : List ℕ) → x + d ≤ length w → j + length vs ≤ d → put w x (put (part w x d) j vs) ≡ put w (x + j) vs
put_inner w x d j vs h k =
    let p : List ℕ = part w x d in
    let lp : length p ≡ d = length_part w x d h in
    let hp : j + length vs ≤ length p = omega arith in
    let us : List ℕ = put p j vs in
    let lu : length us ≡ d = length_put p j vs hp ∙ lp in
    let hu : x + length us ≤ length w = omega arith in
    let hv : x + j + length vs ≤ length w = omega arith in
    get_or_all (put w x us) (put w (x + j) vs) (length_put w x us hu ∙ sym (length_put w (x + j) vs hv))
    (λ i.
    ⊎_elim (λ lo. put_lo w x us hu i lo ∙ sym (put_lo w (x + j) vs hv i (omega arith)))
    (λ ge.
    let t : ℕ = i - x in
    let et : x + t ≡ i = omega arith in
    ⊎_elim (λ mid.
    let back : get_or (put w x us) i 0 ≡ get_or us t 0 = ap (λ (n : ℕ). get_or (put w x us) n 0) (sym et) ∙ put_in w x us hu t (omega arith) in
    ⊎_elim (λ a. back ∙ put_lo p j vs hp t a ∙ part_get_or w x d t (omega arith) ∙ ap (λ (n : ℕ). get_or w n 0) et ∙ sym (put_lo w (x + j) vs hv i (omega arith)))
    (λ b. ⊎_elim (λ q.
    let s : ℕ = t - j in
    let es : j + s ≡ t = omega arith in
    let ei : x + j + s ≡ i = omega arith in
    back ∙ ap (λ (n : ℕ). get_or us n 0) (sym es) ∙ put_in p j vs hp s (omega arith)
    ∙ sym (ap (λ (n : ℕ). get_or (put w (x + j) vs) n 0) (sym ei) ∙ put_in w (x + j) vs hv s (omega arith)))
    (λ q. back ∙ put_hi p j vs hp t q ∙ part_get_or w x d t (omega arith) ∙ ap (λ (n : ℕ). get_or w n 0) et ∙ sym (put_hi w (x + j) vs hv i (omega arith)))
    (lt_or_ge t (j + length vs)))
    (lt_or_ge t j))
    (λ hi. put_hi w x us hu i (omega arith) ∙ sym (put_hi w (x + j) vs hv i (omega arith)))
    (lt_or_ge t d))
    (lt_or_ge i x))

pub put_again : (w : List ℕ) (o : ℕ) (vs us : List ℕ) → length us ≡ length vs → o + length vs ≤ length w → put (put w o vs) o us ≡ put w o us
put_again w o vs us e h =
    let hu : o + length us ≤ length w = omega arith in
    let l : length (put w o vs) ≡ length w = length_put w o vs h in
    let hp : o + length us ≤ length (put w o vs) = omega arith in
    get_or_all (put (put w o vs) o us) (put w o us) (length_put (put w o vs) o us hp ∙ l ∙ sym (length_put w o us hu))
    (λ i. ⊎_elim (λ lo. put_lo (put w o vs) o us hp i lo ∙ put_lo w o vs h i lo ∙ sym (put_lo w o us hu i lo))
    (λ ge. ⊎_elim (λ q.
    let s : ℕ = i - o in
    let es : o + s ≡ i = omega arith in
    ap (λ (n : ℕ). get_or (put (put w o vs) o us) n 0) (sym es) ∙ put_in (put w o vs) o us hp s (omega arith)
    ∙ sym (ap (λ (n : ℕ). get_or (put w o us) n 0) (sym es) ∙ put_in w o us hu s (omega arith)))
    (λ q. put_hi (put w o vs) o us hp i q ∙ put_hi w o vs h i (omega arith) ∙ sym (put_hi w o us hu i q))
    (lt_or_ge i (o + length us)))
    (lt_or_ge i o))

-- a part was lent, and came back with vs put at i
pub lent-put :
    (w : List ℕ) (a m i : ℕ) (vs r : List ℕ) → a + m ≤ length w → i + length vs ≤ m → r ≡ put (part w a (a + m - a)) i vs
    → take a w ++ (r ++ drop (a + m - a) (drop a w)) ≡ put w (a + i) vs
lent-put w a m i vs r h k e =
    let d : a + m - a ≡ m = omega arith in
    let l : length (part w a (a + m - a)) ≡ m = length_part w a (a + m - a) (omega arith) ∙ d in
    mid_put w a (a + m - a) r (ap length e ∙ length_put (part w a (a + m - a)) i vs (omega arith) ∙ l ∙ sym d)
    ∙ ap (put w a) e ∙ put_inner w a (a + m - a) i vs (omega arith) (omega arith)

-- ---- copy

-- vs is put right behind us
pub put_behind : (w : List ℕ) (o : ℕ) (us vs : List ℕ) → o + length us + length vs ≤ length w → put (put w o us) (o + length us) vs ≡ put w o (us ++ vs)
unfolding put
put_behind w o us vs h =
    let front : List ℕ = take o w ++ us in
    let rest : List ℕ = drop (o + length us) w in
    let lf : length front ≡ o + length us = length-append (take o w) us ∙ ap (λ (n : ℕ). n + length us) (length-take-le o w (omega arith)) in
    let parted : take o w ++ (us ++ rest) ≡ front ++ rest = sym (append_assoc (take o w) us rest) in
    let below : take (o + length us) (take o w ++ (us ++ rest)) ≡ front = ap (take (o + length us)) parted ∙ take_at front rest (o + length us) lf in
    let above : drop (o + length us + length vs) (take o w ++ (us ++ rest)) ≡ drop (o + length us + length vs) w =
    ap (drop (o + length us + length vs)) parted ∙ ap (λ (n : ℕ). drop (n + length vs) (front ++ rest)) (sym lf)
    ∙ drop-append-add front rest (length vs) ∙ drop-drop (length vs) (o + length us) w in
    let e : o + length us + length vs ≡ o + length (us ++ vs) = omega (arith, length-append us vs) in
    ap₂ (λ (x y : List ℕ). x ++ (vs ++ y)) below above
    ∙ append_assoc (take o w) us (vs ++ drop (o + length us + length vs) w)
    ∙ ap (λ (l : List ℕ). take o w ++ l) (sym (append_assoc us vs (drop (o + length us + length vs) w)) ∙ ap (λ (n : ℕ). (us ++ vs) ++ drop n w) e)

put_more : (w : List ℕ) (o : ℕ) (us : List ℕ) (v : ℕ) → o + length us < length w → set (put w o us) (o + length us) v ≡ put w o (us ++ (v ∷ []))
put_more w o us v h =
    let l : length (put w o us) ≡ length w = length_put w o us (omega arith) in
    put_one (put w o us) (o + length us) v (omega arith) ∙ put_behind w o us (v ∷ []) (omega arith)

-- a part by its first word
part_cons : (w : List ℕ) (x y n : ℕ) → x < length w → y ≡ suc x → get_or w x 0 ∷ part w y n ≡ part w x (suc n)
part_cons w x y n h e = ap (λ (a : ℕ). get_or w x 0 ∷ take n (drop a w)) e ∙ ap (take (suc n)) (sym (drop-cons w x 0 h))

-- four words are read, and set
pub four_read : (w : List ℕ) (x : ℕ) → x + 4 ≤ length w → get_or w x 0 ∷ get_or w (x + 1) 0 ∷ get_or w (x + 2) 0 ∷ get_or w (x + 3) 0 ∷ [] ≡ part w x 4
four_read w x h =
    ap (λ (l : List ℕ). get_or w x 0 ∷ l)
    (ap (λ (l : List ℕ). get_or w (x + 1) 0 ∷ l)
    (ap (λ (l : List ℕ). get_or w (x + 2) 0 ∷ l) (part_cons w (x + 3) (x + 4) 0 (omega arith) (omega arith)) ∙ part_cons w (x + 2) (x + 3) 1 (omega arith) (omega arith))
    ∙ part_cons w (x + 1) (x + 2) 2 (omega arith) (omega arith))
    ∙ part_cons w x (x + 1) 3 (omega arith) (omega arith)

pub four-set :
    (w : List ℕ) (i : ℕ) (v : List ℕ) → i + 4 ≤ length w → length v ≡ 4
    → set (set (set (set w i (get_or v 0 0)) (i + 1) (get_or v 1 0)) (i + 2) (get_or v 2 0)) (i + 3) (get_or v 3 0) ≡ put w i v
four-set w i v h l =
    let a : ℕ = get_or v 0 0 in
    let b : ℕ = get_or v 1 0 in
    let c : ℕ = get_or v 2 0 in
    let d : ℕ = get_or v 3 0 in
    ap (λ (u : List ℕ). set (set (set u (i + 1) b) (i + 2) c) (i + 3) d) (put_one w i a (omega arith))
    ∙ ap (λ (u : List ℕ). set (set u (i + 2) c) (i + 3) d) (put_more w i (a ∷ []) b (omega arith))
    ∙ ap (λ (u : List ℕ). set u (i + 3) d) (put_more w i (a ∷ b ∷ []) c (omega arith))
    ∙ put_more w i (a ∷ b ∷ c ∷ []) d (omega arith)
    ∙ ap (put w i) (four_read v 0 (omega arith) ∙ take_all 4 v (omega arith))

-- the words from x on are put at o, n more
pub copy_more :
    (w w₀ : List ℕ) (x o m i n : ℕ) → Apart x o m → x + m ≤ length w₀ → o + m ≤ length w₀ → i + n ≤ m → w ≡ put w₀ o (part w₀ x i)
    → put w (o + i) (part w (x + i) n) ≡ put w₀ o (part w₀ x (i + n))
copy_more w w₀ x o m i n q hx ho k e =
    let us : List ℕ = part w₀ x i in
    let vs : List ℕ = part w₀ (x + i) n in
    let lu : length us ≡ i = length_part w₀ x i (omega arith) in
    let lv : length vs ≡ n = length_part w₀ (x + i) n (omega arith) in
    let same : part w (x + i) n ≡ vs =
    ap (λ (l : List ℕ). part l (x + i) n) e
    ∙ put_apart w₀ o us (omega arith) (x + i) n (omega arith) (⊎_elim (λ h. inl (omega arith)) (λ h. inr (omega arith)) q) in
    ap₂ (λ (l ws : List ℕ). put l (o + i) ws) e same
    ∙ ap (λ (j : ℕ). put (put w₀ o us) (o + j) vs) (sym lu)
    ∙ put_behind w₀ o us vs (omega arith)
    ∙ ap (put w₀ o) (sym (take-add i n (drop x w₀) ∙ ap (λ (l : List ℕ). us ++ take n l) (drop-drop i x w₀)))

-- one cell of a run that was lent is set
store_at : (w : List ℕ) (o m i v : ℕ) → o + m ≤ length w → i < m → put w o (set (part w o m) i v) ≡ put w (o + i) (v ∷ [])
store_at w o m i v h k =
    let l : length (part w o m) ≡ m = length_part w o m h in
    ap (put w o) (put_one (part w o m) i v (omega arith)) ∙ put_inner w o m i (v ∷ []) h (omega arith)

-- the words from x + f on are put at o + f, one more
pub rest_more :
    (w w₀ : List ℕ) (x o m f i : ℕ) → Apart x o m → x + m ≤ length w₀ → o + m ≤ length w₀ → f ≤ i → i < m → length w ≡ length w₀
    → w ≡ put w₀ (o + f) (part w₀ (x + f) (i - f)) → put w o (set (part w o m) i (get_or w (x + i) 0)) ≡ put w₀ (o + f) (part w₀ (x + f) (i + 1 - f))
rest_more w w₀ x o m f i q hx ho kf ki l e =
    let eo : o + i ≡ o + f + (i - f) = omega arith in
    let ex : x + i ≡ x + f + (i - f) = omega arith in
    let en : i - f + 1 ≡ i + 1 - f = omega arith in
    store_at w o m i (get_or w (x + i) 0) (omega arith) ki
    ∙ ap (put w (o + i)) (part_cons w (x + i) (suc (x + i)) 0 (omega arith) refl)
    ∙ ap₂ (λ (a b : ℕ). put w a (part w b 1)) eo ex
    ∙ copy_more w w₀ (x + f) (o + f) (m - f) (i - f) 1 (⊎_elim (λ h. inl (omega arith)) (λ h. inr (omega arith)) q) (omega arith) (omega arith) (omega arith) e
    ∙ ap (λ (n : ℕ). put w₀ (o + f) (part w₀ (x + f) n)) en

-- ---- laws that the lines cite

pub self : (w : List ℕ) (s m : ℕ) (vs : List ℕ) → length vs ≡ m → s + m ≤ length w → part (put w s vs) s m ≡ vs
self w s m vs e h = ap (part (put w s vs) s) (sym e) ∙ put_self w s vs (omega arith)

pub written :
    (w : List ℕ) (x o m j v : ℕ) → x + m ≤ length w → o + m ≤ length w
    → put (put w o (part w x m)) o (set (part (put w o (part w x m)) o m) j v) ≡ put w o (set (part w x m) j v)
written w x o m j v h k =
    let l : length (part w x m) ≡ m = length_part w x m h in
    ap (λ (u : List ℕ). put (put w o (part w x m)) o (set u j v)) (self w o m (part w x m) l k)
    ∙ put_again w o (part w x m) (set (part w x m) j v) (length-set (part w x m) j v) (omega arith)

pub loaded :
    (w : List ℕ) (s o m d : ℕ) → s + m ≤ length w
    → put (put w s (mask_words d (part w s m))) o (part (put w s (mask_words d (part w s m))) s m) ≡ put (put w s (mask_words d (part w s m))) o (mask_words d (part w s m))
loaded w s o m d h = ap (put (put w s (mask_words d (part w s m))) o) (self w s m (mask_words d (part w s m)) (length_lows d (part w s m) ∙ length_part w s m h) h)

choose_yes : {A : Type 0} (c : ℕ) (x y : A) → (c ≡ 0 → ⊥) → if_nonzero c x y ≡ x
choose_yes zero x y n = absurd (n refl)
choose_yes (suc c) x y n = refl

choose_no : {A : Type 0} (c : ℕ) (x y : A) → c ≡ 0 → if_nonzero c x y ≡ y
choose_no c x y e = ap (λ (n : ℕ). if_nonzero n x y) e

pub picked_yes : {A : Type 0} (w : List ℕ) {p q : ℕ} (x y : A) → p ≡ q → (get_or w p 0 ≡ 0 → ⊥) → if_nonzero (get_or w q 0) x y ≡ x
picked_yes w {p} {q} x y e n = choose_yes (get_or w q 0) x y (λ z. n (ap (λ (i : ℕ). get_or w i 0) e ∙ z))

pub picked_no : {A : Type 0} (w : List ℕ) {p q : ℕ} (x y : A) → p ≡ q → get_or w p 0 ≡ 0 → if_nonzero (get_or w q 0) x y ≡ y
picked_no w {p} {q} x y e z = choose_no (get_or w q 0) x y (ap (λ (i : ℕ). get_or w i 0) (sym e) ∙ z)

-- what an ite chose: a property of both operands, and its cells
pub chosen_has : {A : Type 0} (F : A → Type 0) (c : ℕ) {a b : A} → F a → F b → F (if_nonzero c a b)
chosen_has F zero x y = y
chosen_has F (suc c) x y = x

pub chosen-below :
    (P : List (List ℕ)) (c a b k : ℕ) {x z m m' : ℕ} → x ≡ off_in P z → z ≡ if_nonzero c a b → m ≡ m' → num_in P a ≡ m' → num_in P b ≡ m'
    → off_in P a + num_in P a ≤ k → off_in P b + num_in P b ≤ k → x + m ≤ k
chosen-below P c a b k {x} {z} {m} {m'} ex ez em ea eb ha hb =
    let h : off_in P (if_nonzero c a b) + m ≤ k = chosen_has (λ (i : ℕ). off_in P i + m ≤ k) c (omega arith) (omega arith) in
    subst (λ (i : ℕ). i + m ≤ k) (sym (ex ∙ ap (off_in P) ez)) h

chosen-part :
    (P : List (List ℕ)) (w : List ℕ) (c a b m : ℕ) → m ≡ num_in P a → m ≡ num_in P b
    → part w (off_in P (if_nonzero c a b)) m ≡ if_nonzero c (cells_kept P w a) (cells_kept P w b)
chosen-part P w zero a b m x y = ap (part w (off_in P b)) y
chosen-part P w (suc c) a b m x y = ap (part w (off_in P a)) x

pub chosen-as :
    (P : List (List ℕ)) (w : List ℕ) {r : List ℕ} (c a b : ℕ) {o o' x z m m' : ℕ} → r ≡ put w o (part w x m) → o ≡ o' → x ≡ off_in P z → z ≡ if_nonzero c a b
    → m ≡ m' → num_in P a ≡ m' → num_in P b ≡ m' → r ≡ put w o' (if_nonzero c (cells_kept P w a) (cells_kept P w b))
chosen-as P w c a b {o} {o'} {x} {z} {m} {m'} er eo ex ez em ea eb =
    er ∙ ap₂ (put w) eo (ap (λ (p : ℕ). part w p m) (ex ∙ ap (off_in P) ez) ∙ chosen-part P w c a b m (em ∙ sym ea) (em ∙ sym eb))

-- a run of one word
pub copied_word : (w : List ℕ) (o x m : ℕ) → m ≡ 1 → o < length w → x < length w → set w o (get_or w x 0) ≡ put w o (part w x m)
copied_word w o x m e h k = put_one w o (get_or w x 0) h ∙ ap (put w o) (part_cons w x (suc x) 0 k refl ∙ ap (part w x) (sym e))

pub wide_as : {d w : ℕ} → d ≡ w → Width w → Width d
wide_as e h = subst (λ (n : ℕ). Width n) (sym e) h

pub small_as : (w : List ℕ) {p q u v : ℕ} → p ≡ q → u ≡ v → get_or w q 0 < 2 ^ v → get_or w p 0 < 2 ^ u
small_as w {p} {q} {u} {v} e f h = subst (λ (n : ℕ). get_or w p 0 < 2 ^ n) (sym f) (subst (λ (i : ℕ). get_or w i 0 < 2 ^ v) (sym e) h)

-- a part was lent, and came back as f of what it was
pub lent :
    (f : List ℕ → List ℕ) → ((xs : List ℕ) → length (f xs) ≡ length xs) → (w : List ℕ) (a m : ℕ) (r : List ℕ) → a + m ≤ length w
    → r ≡ f (part w a (a + m - a)) → take a w ++ (r ++ drop (a + m - a) (drop a w)) ≡ put w a (f (part w a m))
lent f l w a m r h e =
    let d : a + m - a ≡ m = omega arith in
    let e' : r ≡ f (part w a m) = e ∙ ap (λ (n : ℕ). f (part w a n)) d in
    mid_put w a (a + m - a) r (ap length e' ∙ l (part w a m) ∙ length_part w a m h ∙ sym d) ∙ ap (put w a) e'

pub read_at :
    (w : List ℕ) {q q' p p' : ℕ} (m : ℕ) → q ≡ q' → p ≡ p' → get_or w p' 0 < m → get_or w (q + get_or w p 0) 0 ≡ get_or (part w q' m) (get_or w p' 0) 0
read_at w {q} {q'} {p} {p'} m e f h = ap₂ (λ (i j : ℕ). get_or w (i + get_or w j 0) 0) e f ∙ sym (part_get_or w q' m (get_or w p' 0) h)

pub written_as :
    (w : List ℕ) {u r : List ℕ} {x x' o o' m m' j j' v v' : ℕ} → u ≡ put w o (part w x m) → r ≡ put u o (set (part u o m) j v)
    → x ≡ x' → o ≡ o' → m ≡ m' → j ≡ j' → v ≡ v' → x + m ≤ length w → o + m ≤ length w → r ≡ put w o' (set (part w x' m') j' v')
written_as w {u} {r} {x} {x'} {o} {o'} {m} {m'} {j} {j'} {v} {v'} eu er ex eo em ej ev h k =
    let e : put u o (set (part u o m) j v) ≡ put w o (set (part w x m) j v) = ap (λ (l : List ℕ). put l o (set (part l o m) j v)) eu ∙ written w x o m j v h k in
    er ∙ e ∙ (cc)

pub word_as : (w : List ℕ) {p q : ℕ} → p ≡ q → get_or w p 0 ≡ get_or w q 0
word_as w e = ap (λ (i : ℕ). get_or w i 0) e

pub mid_length : (w q : List ℕ) (g d : ℕ) → length q ≡ d → g + d ≤ length w → length (take g w ++ (q ++ drop d (drop g w))) ≡ length w
mid_length w q g d e h =
    length-append (take g w) (q ++ drop d (drop g w)) ∙ ap₂ (λ (x y : ℕ). x + y) (length-take-le g w (omega arith)) (length-append q (drop d (drop g w)) ∙ ap₂ (λ (x y : ℕ). x + y) e (length-drop d (drop g w) ∙ ap (λ (n : ℕ). n - d) (length-drop g w)))
    ∙ omega arith

pub loaded_at : (w q f : List ℕ) (a : ℕ) → length w ≡ a + length f → q ≡ f → drop a (take a w ++ (q ++ drop (length w - a) (drop a w))) ≡ f
loaded_at w q f a h e =
    drop_at (take a w) (q ++ drop (length w - a) (drop a w)) a (length-take-le a w (omega arith))
    ∙ ap₂ (λ (x y : List ℕ). x ++ y) e (drop_of_length-le (drop a w) {i = length w - a} (omega (arith, length-drop a w))) ∙ append-nil f

-- a part that is put back where it was
pub put_same : (w : List ℕ) (a m : ℕ) → a + m ≤ length w → put w a (part w a m) ≡ w
put_same w a m h =
    let l : length (part w a m) ≡ m = length_part w a m h in
    let hp : a + length (part w a m) ≤ length w = omega arith in
    get_or_all (put w a (part w a m)) w (length_put w a (part w a m) hp)
    (λ i.
    ⊎_elim (λ lo. put_lo w a (part w a m) hp i lo)
    (λ ge. ⊎_elim (λ q.
    let t : ℕ = i - a in
    let e : a + t ≡ i = omega arith in
    ap (λ (n : ℕ). get_or (put w a (part w a m)) n 0) (sym e) ∙ put_in w a (part w a m) hp t (omega arith) ∙ part_get_or w a m t (omega arith) ∙ ap (λ (n : ℕ). get_or w n 0) e)
    (λ q. put_hi w a (part w a m) hp i (omega arith))
    (lt_or_ge i (a + m)))
    (lt_or_ge i a))

-- state words, masked or not, and copied to the state's cells
settled_length : (b : Bool) (d : ℕ) (xs : List ℕ) → length (pick b (mask_words d xs) xs) ≡ length xs
settled_length true d xs = length_lows d xs
settled_length false d xs = refl

pub loaded-as :
    (w : List ℕ) {u r : List ℕ} {s s' o o' m m' d d' : ℕ} {b b' : Bool} → u ≡ put w s (pick b (mask_words d (part w s m)) (part w s m)) → r ≡ put u o (part u s m)
    → s ≡ s' → o ≡ o' → m ≡ m' → d ≡ d' → b ≡ b' → s + m ≤ length w
    → r ≡ put (put w s' (pick b' (mask_words d' (part w s' m')) (part w s' m'))) o' (pick b' (mask_words d' (part w s' m')) (part w s' m'))
loaded-as w {u} {r} {s} {s'} {o} {o'} {m} {m'} {d} {d'} {b} {b'} eu er es eo em ed eb h =
    let vs : List ℕ = pick b (mask_words d (part w s m)) (part w s m) in
    let e : put u o (part u s m) ≡ put (put w s vs) o vs =
    ap (λ (l : List ℕ). put l o (part l s m)) eu ∙ ap (put (put w s vs) o) (self w s m vs (settled_length b d (part w s m) ∙ length_part w s m h) h) in
    er ∙ e ∙ (cc)

pub below_as : {p q m : ℕ} → p ≡ q → q < m → p < m
below_as {p} {q} {m} e h = subst (λ (x : ℕ). x < m) (sym e) h
