-- The work area holds the values of the lines so far, and the state words: a line's cells stand at its offset. Assumes nothing.
use Prim.Native.Nat.{ℕ, ◌+◌, ◌-◌, ◌^◌, ◌≤◌, ◌<◌}
use mathlib.Core.Path.{◌≡◌, refl, sym, ap, ap₂, ◌∙◌, subst}
use mathlib.Core.Logic.{⊎_elim}
use mathlib.Core.Bool.{Bool, true, false}
use mathlib.Core.List.{List, [], ◌∷◌, ◌++◌, append_assoc}
use native.Mathlib.Omega.{arith}
use lib.ListN.{length, take, drop, get_or, length-append, length-drop}
use lib.Seq.{get_or_at, get_or-drop, drop-drop, take-append-le, drop-append-le, take_at, drop_at, drop-append-add}
use borrow.Author.Tests.{le-leb, lt-leb, leb-true}
use Rattle.tables.specs.declared.Ty.{Ty}
use Rattle.tables.specs.Pick.{pick}
use Rattle.tables.specs.Lines.{Line}
use Rattle.tables.specs.Types.{rank, is_value}
use Rattle.tables.proofs.Showing.{snoc_other, by_place}
use Rattle.tables.proofs.Facts.{IsWord}
use Rattle.circuits.specs.Cells.{part, put}
use Rattle.circuits.specs.Layout.{Layout, type_at, size, line_type_in, lay}
use Rattle.circuits.specs.Meaning.{Frame}
use Rattle.circuits.specs.Model.Places.{off_at}
use Rattle.circuits.proofs.Puts as laws
use Rattle.circuits.proofs.Offsets.{off_old, off_value}
use Rattle.circuits.proofs.Laid.{Sound, low, type_new, type_old, more_types}

-- the cells of a line of the type t in the work area, from the word o on
abbrev pub seen : List ℕ → Ty → (o : ℕ) → List ℕ
seen w t o = pick (is_value t) (part w o (size t)) []

-- ---- the lines' cells

pub record Holds (p : Bool) (w : List ℕ) (Y : Layout) (env : List (List ℕ)) : Type 0 where
  pub lines : length env ≡ length Y.ctx.tys
  pub cells : (a : ℕ) → get_or env a [] ≡ seen w (type_at Y a) (off_at Y a)
  -- a circuit's words are below 2 to their width
  pub small : p ≡ false → (a : ℕ) → 2 ≤ rank (type_at Y a).role → (j : ℕ) → j < size (type_at Y a) → get_or w (off_at Y a + j) 0 < 2 ^ (type_at Y a).w

seen_value : (w : List ℕ) (t : Ty) (o : ℕ) → 2 ≤ rank t.role → seen w t o ≡ part w o (size t)
seen_value w t o h = rw (le-leb 2 (rank t.role) h)

seen_none : (w : List ℕ) (t : Ty) (o : ℕ) → rank t.role < 2 → seen w t o ≡ []
seen_none w t o h = rw (lt-leb 2 (rank t.role) h)

seen_same : (b : Bool) (xs ys : List ℕ) → (b ≡ true → xs ≡ ys) → pick b xs [] ≡ pick b ys []
seen_same true xs ys f = f refl
seen_same false xs ys f = refl

module _ {p : Bool} {w : List ℕ} {Y : Layout} {env : List (List ℕ)} (S : Sound Y) (H : Holds p w Y env) where
  -- a work area that agrees with this one below all cells so far
  module _ (v : List ℕ) (n : ℕ) (below : Y.counts.cells ≤ n) (l : length v ≡ length w) (h : n ≤ length w) (same : (i : ℕ) → i < n → get_or v i 0 ≡ get_or w i 0) where
    pub seen_alike : (a : ℕ) → seen v (type_at Y a) (off_at Y a) ≡ seen w (type_at Y a) (off_at Y a)
    seen_alike a =
        seen_same (is_value (type_at Y a)) (part v (off_at Y a) (size (type_at Y a))) (part w (off_at Y a) (size (type_at Y a)))
        (λ e.
        let b : off_at Y a + size (type_at Y a) ≤ Y.counts.cells = low S a (leb-true 2 (rank (type_at Y a).role) e) in
        laws.part_ext v w (off_at Y a) (off_at Y a) (size (type_at Y a)) (omega arith) (omega arith) (λ i k. same (off_at Y a + i) (omega arith)))

    pub small_alike : p ≡ false → (a : ℕ) → 2 ≤ rank (type_at Y a).role → (j : ℕ) → j < size (type_at Y a) → get_or v (off_at Y a + j) 0 < 2 ^ (type_at Y a).w
    small_alike e a q j k =
        let b : off_at Y a + size (type_at Y a) ≤ Y.counts.cells = low S a q in
        subst (λ (x : ℕ). x < 2 ^ (type_at Y a).w) (sym (same (off_at Y a + j) (omega arith))) (H.small e a q j k)

    pub holds_alike : Holds p v Y env
    holds_alike = record { lines = H.lines; cells = λ a. H.cells a ∙ sym (seen_alike a); small = small_alike }

  pub cells_at_lem : (a : ℕ) → 2 ≤ rank (type_at Y a).role → part w (off_at Y a) (size (type_at Y a)) ≡ get_or env a []
  cells_at_lem a q = sym (H.cells a ∙ seen_value w (type_at Y a) (off_at Y a) q)

  pub word_at_lem : (a : ℕ) → IsWord (type_at Y a) → get_or w (off_at Y a) 0 ≡ get_or (get_or env a []) 0 0
  word_at_lem a q =
      let one : 1 ≡ size (type_at Y a) = ap (λ (n : ℕ). 2 ^ n) (sym q.flat) in
      let z : off_at Y a + 0 ≡ off_at Y a = omega arith in
      sym (ap (λ (x : List ℕ). get_or x 0 0) (sym (cells_at_lem a q.is)) ∙ laws.part_get_or w (off_at Y a) (size (type_at Y a)) 0 (omega arith) ∙ ap (λ (n : ℕ). get_or w n 0) z)

  module _ (l : Line) where
    env_new : (vs : List ℕ) → get_or (env ++ (vs ∷ [])) (length Y.ctx.tys) [] ≡ vs
    env_new vs = get_or_at env vs [] [] (length Y.ctx.tys) H.lines

    env_old : (vs : List ℕ) (a : ℕ) → (a ≡ length Y.ctx.tys → ⊥) → get_or (env ++ (vs ∷ [])) a [] ≡ get_or env a []
    env_old vs a n = snoc_other env vs [] a (λ e. n (e ∙ H.lines))

    lines_more : (vs : List ℕ) → length (env ++ (vs ∷ [])) ≡ length (lay p Y l).ctx.tys
    lines_more vs = length-append env (vs ∷ []) ∙ ap (λ (n : ℕ). n + 1) H.lines ∙ sym (more_types p Y l)

    -- a line of no value
    pub holds_quiet : rank (line_type_in p Y l).role < 2 → Holds p w (lay p Y l) (env ++ ([] ∷ []))
    holds_quiet q =
        record {
          lines = lines_more [];
          cells = λ a.
              by_place a (length Y.ctx.tys)
              (λ e. subst (λ (n : ℕ). get_or (env ++ ([] ∷ [])) n [] ≡ seen w (type_at (lay p Y l) n) (off_at (lay p Y l) n)) (sym e)
              (env_new [] ∙ sym (ap (λ (t : Ty). seen w t (off_at (lay p Y l) (length Y.ctx.tys))) (type_new p Y l S.long) ∙ seen_none w (line_type_in p Y l) (off_at (lay p Y l) (length Y.ctx.tys)) q)))
              (λ n. env_old [] a n ∙ H.cells a ∙ sym (ap₂ (seen w) (type_old p Y l S.long a n) (off_old p Y l a n)));
          small = λ f a.
              by_place a (length Y.ctx.tys)
              (λ e c. let t = ap (λ (n : ℕ). rank (type_at (lay p Y l) n).role) e ∙ ap (λ (t : Ty). rank t.role) (type_new p Y l S.long) in absurd (omega arith))
              (λ n. rw (type_old p Y l S.long a n, off_old p Y l a n) (H.small f a));
        }

    -- a line whose cells are vs, put at the end of the cells so far
    module _ (vs : List ℕ) (q : 2 ≤ rank (line_type_in p Y l).role) (len : length vs ≡ size (line_type_in p Y l))
        (below : p ≡ false → (j : ℕ) → get_or vs j 0 < 2 ^ (line_type_in p Y l).w) (room : Y.counts.cells + size (line_type_in p Y l) ≤ length w) where
      here : off_at (lay p Y l) (length Y.ctx.tys) ≡ Y.counts.cells
      here = off_value p Y l S.counted q

      fits : Y.counts.cells + length vs ≤ length w
      fits = omega arith

      kept : (i : ℕ) → i < Y.counts.cells → get_or (put w Y.counts.cells vs) i 0 ≡ get_or w i 0
      kept i k = laws.put_lo w Y.counts.cells vs fits i k

      lput : length (put w Y.counts.cells vs) ≡ length w
      lput = laws.length_put w Y.counts.cells vs fits

      mine : seen (put w Y.counts.cells vs) (line_type_in p Y l) Y.counts.cells ≡ vs
      mine =
          seen_value (put w Y.counts.cells vs) (line_type_in p Y l) Y.counts.cells q ∙ laws.self w Y.counts.cells (size (line_type_in p Y l)) vs len room

      pub holds_value : Holds p (put w Y.counts.cells vs) (lay p Y l) (env ++ (vs ∷ []))
      holds_value =
          record {
            lines = lines_more vs;
            cells = λ a.
                by_place a (length Y.ctx.tys)
                (λ e. subst (λ (n : ℕ). get_or (env ++ (vs ∷ [])) n [] ≡ seen (put w Y.counts.cells vs) (type_at (lay p Y l) n) (off_at (lay p Y l) n)) (sym e)
                (env_new vs ∙ sym (ap₂ (seen (put w Y.counts.cells vs)) (type_new p Y l S.long) (here) ∙ mine)))
                (λ n. env_old vs a n ∙ H.cells a ∙ sym (seen_alike (put w Y.counts.cells vs) Y.counts.cells (omega arith) lput (omega arith) kept a)
                ∙ sym (ap₂ (seen (put w Y.counts.cells vs)) (type_old p Y l S.long a n) (off_old p Y l a n)));
            small = λ f a.
                by_place a (length Y.ctx.tys)
                (λ e. subst (λ (n : ℕ). 2 ≤ rank (type_at (lay p Y l) n).role → (j : ℕ) → j < size (type_at (lay p Y l) n) → get_or (put w Y.counts.cells vs) (off_at (lay p Y l) n + j) 0 < 2 ^ (type_at (lay p Y l) n).w) (sym e)
                (rw (type_new p Y l S.long, here)
                (λ c j k. subst (λ (x : ℕ). x < 2 ^ (line_type_in p Y l).w) (sym (laws.put_in w Y.counts.cells vs fits j (omega arith))) (below f j))))
                (λ n. rw (type_old p Y l S.long a n, off_old p Y l a n) (small_alike (put w Y.counts.cells vs) Y.counts.cells (omega arith) lput (omega arith) kept f a));
          }

-- ---- the state words, from `all` on: the first n as the lines so far leave them

pub record Kept (all : ℕ) (σ w sts : List ℕ) (n : ℕ) : Type 0 where
  pub words : drop all w ≡ sts ++ drop n σ
  pub many : length sts ≡ n
  pub len : length w ≡ all + length σ

pub kept_below : {all : ℕ} {σ w sts : List ℕ} {n : ℕ} (o : ℕ) (vs : List ℕ) → o + length vs ≤ all → Kept all σ w sts n → Kept all σ (put w o vs) sts n
kept_below {all} {σ} {w} {sts} {n} o vs h k =
    let l = k.len in
    record {
      words = laws.put_past w o vs (omega arith) all h ∙ k.words;
      many = k.many;
      len = laws.length_put w o vs (omega arith) ∙ l;
    }

put_drop : (w : List ℕ) (m p : ℕ) (vs : List ℕ) → m + p + length vs ≤ length w → drop m (put w (m + p) vs) ≡ put (drop m w) p vs
put_drop w m p vs h =
    let ld : length (drop m w) ≡ length w - m = length-drop m w in
    let hd : p + length vs ≤ length (drop m w) = omega arith in
    laws.get_or_all (drop m (put w (m + p) vs)) (put (drop m w) p vs)
    (length-drop m (put w (m + p) vs) ∙ ap (λ (n : ℕ). n - m) (laws.length_put w (m + p) vs h) ∙ sym ld ∙ sym (laws.length_put (drop m w) p vs hd))
    (λ i.
    get_or-drop m (put w (m + p) vs) i 0
    ∙ ⊎_elim (λ lo. laws.put_lo w (m + p) vs h (m + i) (omega arith) ∙ sym (get_or-drop m w i 0) ∙ sym (laws.put_lo (drop m w) p vs hd i lo))
    (λ ge. ⊎_elim (λ q.
    let s : ℕ = i - p in
    let e₁ : m + i ≡ m + p + s = omega arith in
    let e₂ : p + s ≡ i = omega arith in
    ap (λ (n : ℕ). get_or (put w (m + p) vs) n 0) e₁ ∙ laws.put_in w (m + p) vs h s (omega arith)
    ∙ sym (ap (λ (n : ℕ). get_or (put (drop m w) p vs) n 0) (sym e₂) ∙ laws.put_in (drop m w) p vs hd s (omega arith)))
    (λ q. laws.put_hi w (m + p) vs h (m + i) (omega arith) ∙ sym (get_or-drop m w i 0) ∙ sym (laws.put_hi (drop m w) p vs hd i q))
    (laws.lt_or_ge i (p + length vs)))
    (laws.lt_or_ge i p))

pub put_front : (xs ys : List ℕ) (p : ℕ) (vs : List ℕ) → p + length vs ≤ length xs → put (xs ++ ys) p vs ≡ put xs p vs ++ ys
unfolding put
put_front xs ys p vs h =
    ap₂ (λ (a b : List ℕ). a ++ (vs ++ b)) (take-append-le p xs ys (omega arith)) (drop-append-le (p + length vs) xs ys h)
    ∙ ap (λ (l : List ℕ). take p xs ++ l) (sym (append_assoc vs (drop (p + length vs) xs) ys)) ∙ sym (append_assoc (take p xs) (vs ++ drop (p + length vs) xs) ys)

pub put_end : (xs σ vs : List ℕ) (n : ℕ) → length xs ≡ n → put (xs ++ drop n σ) n vs ≡ (xs ++ vs) ++ drop (n + length vs) σ
unfolding put
put_end xs σ vs n e =
    ap₂ (λ (a b : List ℕ). a ++ (vs ++ b)) (take_at xs (drop n σ) n e)
    (ap (λ (k : ℕ). drop (k + length vs) (xs ++ drop n σ)) (sym e) ∙ drop-append-add xs (drop n σ) (length vs) ∙ drop-drop (length vs) n σ)
    ∙ sym (append_assoc xs vs (drop (n + length vs) σ))

module _ {all : ℕ} {σ w sts : List ℕ} {n : ℕ} (k : Kept all σ w sts n) where
  stored : (p : ℕ) (vs s : List ℕ) (m : ℕ) → p + length vs ≤ length σ → put (sts ++ drop n σ) p vs ≡ s ++ drop m σ → length s ≡ m → Kept all σ (put w (all + p) vs) s m
  stored p vs s m h e l =
      let lw = k.len in
      let hw : all + p + length vs ≤ length w = omega arith in
      record {
        words = put_drop w all p vs hw ∙ ap (λ (x : List ℕ). put x p vs) k.words ∙ e;
        many = l;
        len = laws.length_put w (all + p) vs hw ∙ lw;
      }

  -- the words of one state more
  pub kept_state : (vs : List ℕ) (m : ℕ) → length vs ≡ m → n + m ≤ length σ → Kept all σ (put w (all + n) vs) (sts ++ vs) (n + m)
  kept_state vs m l h =
      stored n vs (sts ++ vs) (n + m) (omega arith) (put_end sts σ vs n k.many ∙ ap (λ (x : ℕ). (sts ++ vs) ++ drop (n + x) σ) l)
      (length-append sts vs ∙ ap₂ (λ (x y : ℕ). x + y) k.many l)

  -- words that an init or a next line gives a state
  pub kept_init_next : (p : ℕ) (vs : List ℕ) → p + length vs ≤ n → n ≤ length σ → Kept all σ (put w (all + p) vs) (put sts p vs) n
  kept_init_next p vs h g =
      let m = k.many in
      stored p vs (put sts p vs) n (omega arith) (put_front sts (drop n σ) p vs (omega arith)) (laws.length_put sts p vs (omega arith) ∙ m)

  -- the words that a state line finds
  pub state_words_lem : (m : ℕ) → part w (all + n) m ≡ part σ n m
  state_words_lem m = ap (take m) (sym (drop-drop n all w) ∙ ap (drop n) k.words ∙ drop_at sts (drop n σ) n k.many)

-- ---- both

pub record Held (p : Bool) (all : ℕ) (σ w : List ℕ) (A : Frame) : Type 0 where
  pub sound : Sound A.lay
  pub holds : Holds p w A.lay A.env
  pub kept : Kept all σ w A.sts A.lay.counts.states
