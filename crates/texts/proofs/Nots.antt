-- The records of a line keep the rules, one after the other: a not record of an operand's own sort, and after it the line's own record, in which the not record stands for the
-- operand. Assumes nothing.
use Prim.Native.Nat.{ℕ, zero, suc, ◌+◌, ◌≤◌}
use mathlib.Core.Path.{◌≡◌, refl, sym, ap, ◌∙◌, subst}
use mathlib.Core.Bool.{Bool, true, false}
use mathlib.Core.List.{List, [], ◌∷◌, ◌++◌}
use native.Mathlib.Omega.{arith}
use lib.Dec.{eqb, ltb}
use lib.ListN.{length, get_or, set, replicate, length-set}
use lib.Seq.{get_or-set_same, get_or-set_other}
use borrow.Author.Tests.{eqb-true, eqb-false, eq-eqb, ne_eqb, leb-true, le-leb, not-true}
use Rattle.tables.specs.declared.Ty.{Ty}
use Rattle.tables.specs.Pick.{pick, inside, all}
use Rattle.tables.specs.Kinds.{row_of, first_class, second_class, third_class, class_at, names_line}
use Rattle.tables.specs.Lines.{line_of, kind_in, first_in, second_in, third_in}
use Rattle.tables.specs.Layout.{record_words}
use Rattle.tables.specs.Ids.{zeros_on_nots}
use Rattle.tables.specs.Types.{rank, is_value, is_word, marked, value_role, Ctx, ty_at, given, grow}
use Rattle.tables.specs.Rules.{suits}
use Rattle.tables.specs.Tables.{formed, keeps, lawful}
use Rattle.tables.proofs.Laws.{by_pick}
use Rattle.tables.proofs.Kept.{both, all_at, kept_fault, no_yes}
use Rattle.tables.proofs.Answers.{Passed, passed, all_passed}
use Rattle.tables.proofs.Shapes.{range}
use Rattle.tables.proofs.Values.{role_least}
use Rattle.tables.proofs.Showing.{by_place, earlier}
use Rattle.tables.proofs.Places.{Sized}
use Rattle.tables.proofs.Facts.{Same}
use Rattle.tables.proofs.OwnSorts.{OwnSorts, own_sort, sorts_more, type_stays, type_new}
use Rattle.tables.proofs.Replaced.{Replaces, kept_replaced, suits_role, suits_plain, class_at_lem}
use Rattle.texts.specs.Minus.{minus_at, may_take_minus, minus_fits, minuses_fit, minuses_from, not_of, spread, line_records}
use Rattle.texts.specs.Reading.{Sofar}
use Rattle.texts.proofs.Kept.{GivesAfter}

-- ---- where a minus may stand

-- each minus from the place j on stands where it may
abbrev pub MinusesFit : (ℕ → Ty) → List Bool → (rec : List ℕ) (j : ℕ) → Type 0
MinusesFit L s rec j = (i : ℕ) → j ≤ i → i ≤ 4 → minus_at s i ≡ true → may_take_minus (kind_in rec) (class_at (row_of (kind_in rec)) i) (L (get_or rec i 0)) ≡ true

pub fits_there : (k q : ℕ) (a : Ty) (b : Bool) → minus_fits k q a b ≡ true → b ≡ true → may_take_minus k q a ≡ true
fits_there k q a true h e = h
fits_there k q a false h e = absurd (no_yes e)

pub minuses_fit_lem : (L : ℕ → Ty) (s : List Bool) (rec : List ℕ) → all (minuses_fit L s rec) ≡ true → MinusesFit L s rec 2
minuses_fit_lem L s rec h = at
  where
    k : ℕ
    k = kind_in rec

    at : MinusesFit L s rec 2
    at zero a b e = absurd (omega arith)
    at (suc zero) a b e = absurd (omega arith)
    at (suc (suc zero)) a b e = fits_there k (first_class (row_of k)) (L (first_in rec)) (minus_at s 2) (all_at (minuses_fit L s rec) h 1) e
    at (suc (suc (suc zero))) a b e = fits_there k (second_class (row_of k)) (L (second_in rec)) (minus_at s 3) (all_at (minuses_fit L s rec) h 2) e
    at (suc (suc (suc (suc zero)))) a b e = fits_there k (third_class (row_of k)) (L (third_in rec)) (minus_at s 4) (all_at (minuses_fit L s rec) h 3) e
    at (suc (suc (suc (suc (suc i))))) a b e = absurd (omega arith)

-- what may take a minus is a word, in a place of such a class, of a line that is no init
pub record TakesMinus (kind k : ℕ) (a : Ty) : Type 0 where
  pub class : inside 1 3 k ≡ true
  pub word : is_word a ≡ true
  pub other : kind ≡ 6 → ⊥

pub takes_minus : (kind k : ℕ) (a : Ty) → may_take_minus kind k a ≡ true → TakesMinus kind k a
takes_minus kind k a h =
    let p = both (inside 1 3 k) _ h in
    let q = both (is_word a) _ p.1 in
    record { class = p.0; word = q.0; other = eqb-false kind 6 (not-true (eqb kind 6) q.1) }

-- a word may stand where another does
suits_word : (k : ℕ) (y t : Ty) → inside 1 3 k ≡ true → is_word y ≡ true → suits k y ≡ true → is_word t ≡ true → suits k t ≡ true
unfolding suits
suits_word zero y t i h g w = absurd (no_yes i)
suits_word (suc zero) y t i h g w = w
suits_word (suc (suc zero)) y t i h g w =
    let e = eqb-true y.iw 0 (both (is_value y) _ h).1 in
    absurd (no_yes (sym (ap (λ (n : ℕ). ltb 0 n) e) ∙ (both (is_value y) _ g).1))
suits_word (suc (suc (suc zero))) y t i h g w = (both (is_value t) _ w).0
suits_word (suc (suc (suc (suc k)))) y t i h g w = let z = range 1 3 (suc (suc (suc (suc k)))) i in absurd (omega arith)

-- ---- one not record

module _ (c : Ctx) (rs : List (List ℕ)) (S : OwnSorts c rs) (a : ℕ) (word : is_word (ty_at c a) ≡ true) where
  pub is_value_lem : 2 ≤ rank (ty_at c a).role
  is_value_lem = leb-true 2 (rank (ty_at c a).role) (both (is_value (ty_at c a)) _ word).0

  flat : (ty_at c a).iw ≡ 0
  flat = eqb-true (ty_at c a).iw 0 (both (is_value (ty_at c a)) _ word).1

  abbrev own : ℕ
  own = own_sort rs a

  abbrev c₁ : Ctx
  c₁ = grow false c (line_of (not_of rs a))

  not_passes : Passed false (ty_at c) (given c) (not_of rs a)
  unfolding row_of suits
  not_passes =
      let o = S.sorts a is_value_lem in
      record {
        class = rw (eq-eqb (rank (ty_at c own).role) 1 o.is, eq-eqb (ty_at c own).iw 0 (sym o.same.iw ∙ flat), word) refl;
        width = rw (eq-eqb (ty_at c own).w (ty_at c a).w (sym o.same.w)) refl;
        once = refl;
      }

  not_formed : formed false (not_of rs a) ≡ true
  unfolding row_of
  not_formed = refl

  pub not_keeps : keeps false (ty_at c) (given c) (not_of rs a) ≡ true
  not_keeps = rw (not_formed, all_passed false (ty_at c) (given c) (not_of rs a) not_passes) refl

  -- its type: a word of the operand's widths
  not_type : ty_at c₁ (suc (length rs)) ≡ record { role = value_role (marked (ty_at c a)); iw = (ty_at c own).iw; w = (ty_at c own).w }
  not_type = type_new c (line_of (not_of rs a)) (suc (length rs)) S.counted.size

  not_same : Same (ty_at c₁ (suc (length rs))) (ty_at c a)
  not_same = let o = S.sorts a is_value_lem in record { iw = ap (λ (t : Ty). t.iw) not_type ∙ sym o.same.iw; w = ap (λ (t : Ty). t.w) not_type ∙ sym o.same.w }

  not_word : is_word (ty_at c₁ (suc (length rs))) ≡ true
  not_word =
      let r : 2 ≤ rank (ty_at c₁ (suc (length rs))).role = subst (λ (t : Ty). 2 ≤ rank t.role) (sym not_type) (role_least (marked (ty_at c a))) in
      rw (le-leb 2 (rank (ty_at c₁ (suc (length rs))).role) r, eq-eqb (ty_at c₁ (suc (length rs))).iw 0 (not_same.iw ∙ flat)) refl

  -- it is no init and no next
  same_given : given c₁ ≡ given c
  same_given = λ i m q. each m q i
    where
      each : (m : Bool) (q : ℕ) → given c₁ m q ≡ given c m q
      each true q = refl
      each false q = refl

-- ---- the line's own record behind it

-- a next has its state first
seven : inside 1 3 (class_at (row_of 7) 2) ≡ false
unfolding row_of
seven = refl

module _ (c : Ctx) (rs : List (List ℕ)) (S : OwnSorts c rs) (rec : List ℕ) (sized : length rec ≡ record_words) (kp : keeps false (ty_at c) (given c) rec ≡ true) (j : ℕ) (low : 2 ≤ j) (high : j ≤ 4)
    (may : may_take_minus (kind_in rec) (class_at (row_of (kind_in rec)) j) (ty_at c (get_or rec j 0)) ≡ true) where
  abbrev operand : ℕ
  operand = get_or rec j 0

  abbrev new : ℕ
  new = suc (length rs)

  abbrev rec₁ : List ℕ
  rec₁ = set rec j (suc (length rs))

  abbrev after : Ctx
  after = grow false c (line_of (not_of rs (get_or rec j 0)))

  pub ok : TakesMinus (kind_in rec) (class_at (row_of (kind_in rec)) j) (ty_at c (get_or rec j 0))
  ok = takes_minus (kind_in rec) (class_at (row_of (kind_in rec)) j) (ty_at c (get_or rec j 0)) may

  pub here : get_or rec₁ j 0 ≡ suc (length rs)
  here = get_or-set_same rec j (suc (length rs)) 0 (omega (arith, sized))

  pub there : (i : ℕ) → (i ≡ j → ⊥) → get_or rec₁ i 0 ≡ get_or rec i 0
  there i n = get_or-set_other rec j i (suc (length rs)) 0 n

  pub same_kind : kind_in rec₁ ≡ kind_in rec
  same_kind = there 0 (λ e. omega arith)

  pub same_size : length rec₁ ≡ record_words
  same_size = length-set rec j (suc (length rs)) ∙ sized

  class : (i : ℕ) → 1 ≤ i → i ≤ 4 → suits (class_at (row_of (kind_in rec)) i) (ty_at c (get_or rec i 0)) ≡ true
  class = class_at_lem (ty_at c) (given c) rec (passed false (ty_at c) (given c) rec (kept_fault false (ty_at c) (given c) rec kp))

  -- a place that stays
  stays : (k x : ℕ) → suits k (ty_at c x) ≡ true → Replaces k (ty_at c) (ty_at after) x x
  stays k x h = go (names_line k) refl
    where
      go : (b : Bool) → names_line k ≡ b → Replaces k (ty_at c) (ty_at after) x x
      go true e =
          let t = type_stays c (line_of (not_of rs (get_or rec j 0))) x (suits_role k (ty_at c x) e h) in
          record {
            suit = ap (suits k) t ∙ h;
            plain = λ z. refl;
            widths = λ z. record { iw = ap (λ (y : Ty). y.iw) t; w = ap (λ (y : Ty). y.w) t };
          }
      go false e = record { suit = suits_plain k (ty_at after x) e; plain = λ z. refl; widths = λ z. absurd (no_yes (sym e ∙ z)) }

  -- the operand's place
  replaced : Replaces (class_at (row_of (kind_in rec)) j) (ty_at c) (ty_at after) (get_or rec j 0) (suc (length rs))
  replaced =
      let k : ℕ = class_at (row_of (kind_in rec)) j in
      let r = range 1 3 k ok.class in
      record {
        suit = suits_word k (ty_at c (get_or rec j 0)) (ty_at after (suc (length rs))) ok.class ok.word (class j (omega arith) high) (not_word c rs S (get_or rec j 0) ok.word);
        plain = λ z. absurd (no_yes (sym z ∙ rw (le-leb 1 k r.0, le-leb k 7 (omega (arith, r.1))) refl));
        widths = λ z. not_same c rs S (get_or rec j 0) ok.word;
      }

  pub own_keeps : keeps false (ty_at after) (given after) rec₁ ≡ true
  own_keeps =
      subst (λ (G : Bool → ℕ → Bool). keeps false (ty_at after) G rec₁ ≡ true) (sym (same_given c rs S (get_or rec j 0) ok.word))
      (kept_replaced (ty_at c) (ty_at after) (given c) rec rec₁ sized same_size same_kind places ok.other state kp)
    where
      places : (i : ℕ) → 1 ≤ i → i ≤ 4 → Replaces (class_at (row_of (kind_in rec)) i) (ty_at c) (ty_at after) (get_or rec i 0) (get_or rec₁ i 0)
      places i l h =
          by_place i j
          (λ e. subst (λ (n : ℕ). Replaces (class_at (row_of (kind_in rec)) n) (ty_at c) (ty_at after) (get_or rec n 0) (get_or rec₁ n 0)) (sym e)
          (subst (λ (x : ℕ). Replaces (class_at (row_of (kind_in rec)) j) (ty_at c) (ty_at after) (get_or rec j 0) x) (sym here) replaced))
          (λ n. subst (λ (x : ℕ). Replaces (class_at (row_of (kind_in rec)) i) (ty_at c) (ty_at after) (get_or rec i 0) x) (sym (there i n))
          (stays (class_at (row_of (kind_in rec)) i) (get_or rec i 0) (class i l h)))

      state : kind_in rec ≡ 7 → first_in rec₁ ≡ first_in rec
      state k =
          by_place 2 j
          (λ e. absurd (no_yes (sym seven ∙ (ap (λ (n : ℕ). inside 1 3 (class_at (row_of n) 2)) (sym k) ∙ (ap (λ (n : ℕ). inside 1 3 (class_at (row_of (kind_in rec)) n)) e ∙ ok.class)))))
          (there 2)

  pub sorts_after : OwnSorts after (rs ++ (not_of rs (get_or rec j 0) ∷ []))
  sorts_after = sorts_more c rs (not_of rs (get_or rec j 0)) S refl (not_keeps c rs S (get_or rec j 0) ok.word)

  pub not_kept : keeps false (ty_at c) (given c) (not_of rs (get_or rec j 0)) ≡ true
  not_kept = not_keeps c rs S (get_or rec j 0) ok.word

  -- the operand is an earlier line
  pub named : (1 ≤ get_or rec j 0) × (get_or rec j 0 ≤ length rs)
  named =
      let v = is_value_lem c rs S (get_or rec j 0) ok.word in (
        by_place (get_or rec j 0) 0 (λ e. absurd (omega (arith, ap (λ (x : ℕ). rank (ty_at c x).role) e, ap (λ (y : Ty). rank y.role) S.counted.first))) (λ n. omega arith),
        omega (arith, earlier c.tys (get_or rec j 0) (omega arith), S.counted.size),
      )

  pub fit_after : (s : List Bool) → MinusesFit (ty_at c) s rec j → MinusesFit (ty_at after) s rec₁ (suc j)
  fit_after s f i l h e =
      let m = f i (omega arith) h e in
      let t = takes_minus (kind_in rec) (class_at (row_of (kind_in rec)) i) (ty_at c (get_or rec i 0)) m in
      let v = leb-true 2 (rank (ty_at c (get_or rec i 0)).role) (both (is_value (ty_at c (get_or rec i 0))) _ t.word).0 in
      let x : get_or rec₁ i 0 ≡ get_or rec i 0 = there i (λ z. omega arith) in
      let y : ty_at after (get_or rec₁ i 0) ≡ ty_at c (get_or rec i 0) = ap (ty_at after) x ∙ type_stays c (line_of (not_of rs (get_or rec j 0))) (get_or rec i 0) (omega (arith, v)) in
      (λ z. may_take_minus (same_kind z) (class_at (row_of (same_kind z)) i) (y z)) ∙ m

-- ---- all records of a line

pub spread_kept : (s : List Bool) (m j : ℕ) → 2 ≤ j → j + m ≡ 5 → (c : Ctx) (rs : List (List ℕ)) (rec : List ℕ) → OwnSorts c rs → length rec ≡ record_words
    → keeps false (ty_at c) (given c) rec ≡ true → MinusesFit (ty_at c) s rec j → (lawful false c (spread s m j rs rec) ≡ true) × Sized (spread s m j rs rec)
spread_kept s zero j l e c rs rec S z k f = (rw k refl, (z, tt))
spread_kept s (suc m) j l e c rs rec S z k f =
    let high : j ≤ 4 = omega arith in
    let N : List ℕ = not_of rs (get_or rec j 0) in
    by_pick (λ (ls : List (List ℕ)). (lawful false c ls ≡ true) × Sized ls) (minus_at s j)
    (λ q.
    let may = f j (omega arith) high q in
    let h =
    spread_kept s m (suc j) (omega arith) (omega arith) (grow false c (line_of N)) (rs ++ (N ∷ [])) (set rec j (suc (length rs))) (sorts_after c rs S rec z k j l high may)
    (same_size c rs S rec z k j l high may) (own_keeps c rs S rec z k j l high may) (fit_after c rs S rec z k j l high may s f)
    in
    (rw (not_kept c rs S rec z k j l high may) h.0, (refl, h.1)))
    (λ q. spread_kept s m (suc j) (omega arith) (omega arith) c rs rec S z k (λ i g. f i (omega arith)))

-- so of a line that gives a record
pub line_kept : {m : ℕ} (b : Sofar) {ts : List (List ℕ)} {rec : List ℕ} {s : List Bool} → OwnSorts b.ctx b.records → GivesAfter m b ts rec s
    → (lawful false b.ctx (line_records s b.records rec) ≡ true) × Sized (line_records s b.records rec)
line_kept b {rec = rec} {s = s} S g = spread_kept s 3 2 (omega arith) refl b.ctx b.records rec S g.sized g.rules (minuses_fit_lem (ty_at b.ctx) s rec g.minus)

-- how many there are, and their ids: only the not records have 0
pub spread_length : (s : List Bool) (m j : ℕ) (rs : List (List ℕ)) (rec : List ℕ) → length (spread s m j rs rec) ≡ suc (minuses_from s m j)
spread_length s zero j rs rec = refl
spread_length s (suc m) j rs rec =
    go (minus_at s j) _ _ (minuses_from s m (suc j)) (spread_length s m (suc j) (rs ++ (not_of rs (get_or rec j 0) ∷ [])) (set rec j (suc (length rs)))) (spread_length s m (suc j) rs rec)
  where
    go : (b : Bool) (xs ys : List (List ℕ)) (n : ℕ) → length xs ≡ suc n → length ys ≡ suc n → length (pick b (not_of rs (get_or rec j 0) ∷ xs) ys) ≡ suc (pick b 1 0 + n)
    go true xs ys n p q = omega arith
    go false xs ys n p q = omega arith

pub spread_zeros : (s : List Bool) (m j : ℕ) (rs : List (List ℕ)) (rec : List ℕ) (d : ℕ) → (d ≡ 0 → ⊥) → zeros_on_nots (spread s m j rs rec) (replicate (minuses_from s m j) 0 ++ (d ∷ [])) ≡ true
spread_zeros s zero j rs rec d n = rw (ne_eqb d 0 n) refl
spread_zeros s (suc m) j rs rec d n =
    go (minus_at s j) (minuses_from s m (suc j)) _ _ (spread_zeros s m (suc j) (rs ++ (not_of rs (get_or rec j 0) ∷ [])) (set rec j (suc (length rs))) d n) (spread_zeros s m (suc j) rs rec d n)
  where
    go : (b : Bool) (k : ℕ) (xs ys : List (List ℕ)) → zeros_on_nots xs (replicate k 0 ++ (d ∷ [])) ≡ true → zeros_on_nots ys (replicate k 0 ++ (d ∷ [])) ≡ true
        → zeros_on_nots (pick b (not_of rs (get_or rec j 0) ∷ xs) ys) (replicate (pick b 1 0 + k) 0 ++ (d ∷ [])) ≡ true
    go true k xs ys p q = let e : suc k ≡ 1 + k = omega arith in subst (λ (i : ℕ). zeros_on_nots (not_of rs (get_or rec j 0) ∷ xs) (replicate i 0 ++ (d ∷ [])) ≡ true) e p
    go false k xs ys p q = let e : k ≡ 0 + k = omega arith in subst (λ (i : ℕ). zeros_on_nots ys (replicate i 0 ++ (d ∷ [])) ≡ true) e q
