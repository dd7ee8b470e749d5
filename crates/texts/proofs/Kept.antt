-- A record that reading gives keeps the rules: its kind is known, the words that its line does not use are 0, and 8, 9 and 10 do not hold of it. Assumes nothing.
use Prim.Native.Nat.{ℕ, zero, suc, ◌+◌, ◌-◌, ◌^◌, ◌≤◌, ◌<◌}
use mathlib.Core.Path.{◌≡◌, refl, sym, ap, ap₂, ◌∙◌, subst}
use mathlib.Core.Bool.{Bool, true, false, not, ◌&&◌, ◌||◌}
use mathlib.Core.List.{List, [], ◌∷◌}
use native.Mathlib.Omega.{arith}
use lib.Dec.{T, eqb, leb, ltb}
use lib.ListN.{length, drop, get_or, set, length-set, length-take}
use lib.Seq.{get_or-set_other}
use mir.Facts.{and_yes}
use borrow.Author.Tests.{eqb-true, eqb-false, eq-eqb, ne_eqb, ltb-true, leb-true, not-false}
use Rattle.tables.specs.declared.Ty.{Ty}
use Rattle.tables.specs.Pick.{pick, all}
use Rattle.tables.specs.Kinds.{row_of, sort_class, first_class, second_class, third_class}
use Rattle.tables.specs.Lines.{fields, kind_in, sort_in, first_in, second_in, third_in}
use Rattle.tables.specs.Layout.{record_words}
use Rattle.tables.specs.Rules.{fault}
use Rattle.tables.specs.Tables.{known, unused, tidy, formed, keeps}
use Rattle.tables.specs.Ids.{follows}
use Rattle.tables.specs.Types.{ty_at, given}
use Rattle.tables.proofs.Laws.{true_of}
use Rattle.tables.proofs.Every.{every, at_each}
use Rattle.tables.proofs.Kept.{neither}
use Rattle.tables.proofs.Places.{fields_of}
use Rattle.texts.specs.Decimal.{Num}
use Rattle.std.specs.Prelude.{Ok, Err}
use Rattle.texts.specs.declared.NumberError.TheVariants.{Malformed, TooLarge}
use Rattle.texts.specs.Forms.{form_row, kind_of, first_of, numbers_of}
use Rattle.texts.specs.Decimal.{decimal}
use Rattle.texts.specs.Operands.{meant, resolved}
use Rattle.texts.specs.Names.{used}
use Rattle.texts.specs.Minus.{minuses_fit, minuses}
use Rattle.texts.specs.Reading.{Word, word, unknown, word_in, form_of, behind, numbers_from, placed, number_tokens, numbers_in, last_of, signs_in, fresh, written_record, settled, record_in, is_next, value_of, line_id, name_behind, line_name, refusals, got, lowest, reply_in, read_line, Sofar, reply_after}
use Rattle.texts.proofs.Words.{IsForm, InForms, word_forms}
use Rattle.texts.proofs.Steps.{settled_one, settled_ones, settled_other, settled_kind}
use Rattle.texts.proofs.LineNames.{name_behind_lem}
use Rattle.texts.proofs.Lowest.{NoneHolds, got_none}
use Rattle.texts.proofs.Staged.{last_rule}

-- ---- the places that a line's numbers do not fill

abbrev pub Outside : ℕ → ℕ → ℕ → Type 0
Outside j m p = (i : ℕ) → i < m → p ≡ j + i → ⊥

-- what taking numbers leaves of a record
pub record Left (j m : ℕ) (rec out : List ℕ) : Type 0 where
  pub same_length : length out ≡ length rec
  pub same_place : (p : ℕ) → Outside j m p → get_or out p 0 ≡ get_or rec p 0

left_more : (j m : ℕ) (rec out : List ℕ) → Left (suc j) m rec out → Left j (suc m) rec out
left_more j m rec out l = record { same_length = l.same_length; same_place = λ p o. l.same_place p (λ i h e. o (suc i) (omega arith) (omega arith)) }

left_set : (j m : ℕ) (rec : List ℕ) (v : ℕ) (out : List ℕ) → Left (suc j) m (set rec j v) out → Left j (suc m) rec out
left_set j m rec v out l =
    record {
      same_length = l.same_length ∙ length-set rec j v;
      same_place = λ p o. l.same_place p (λ i h e. o (suc i) (omega arith) (omega arith)) ∙ get_or-set_other rec j p v 0 (λ e. o 0 (omega arith) (omega arith));
    }

left_placed : (j : ℕ) (ns : List Num) (rec : List ℕ) → Left j (length ns) rec (placed j ns rec)
left_placed j [] rec = record { same_length = refl; same_place = λ p o. refl }
left_placed j (Err Malformed ∷ ns) rec = left_more j (length ns) rec (placed (suc j) ns rec) (left_placed (suc j) ns rec)
left_placed j (Err TooLarge ∷ ns) rec = left_more j (length ns) rec (placed (suc j) ns rec) (left_placed (suc j) ns rec)
left_placed j (Ok v ∷ ns) rec = left_set j (length ns) rec v (placed (suc j) ns (set rec j v)) (left_placed (suc j) ns (set rec j v))

length_numbers : (f j : ℕ) (ts : List (List ℕ)) → length (numbers_from f j ts) ≡ length ts
length_numbers f j [] = refl
length_numbers f j (t ∷ ts) = ap suc (length_numbers f (suc j) ts)

left_written : (f : ℕ) (ts : List (List ℕ)) → Left (first_of (form_row f)) (numbers_of (form_row f)) (fresh (kind_of f)) (written_record f ts)
left_written f ts =
    let j : ℕ = first_of (form_row f) in
    let m : ℕ = numbers_of (form_row f) in
    let l = left_placed j (numbers_in f ts) (fresh (kind_of f)) in
    let q : length (numbers_in f ts) ≤ m = omega (arith, length_numbers f j (number_tokens f ts), length-take m ts) in
    record { same_length = l.same_length; same_place = λ p o. l.same_place p (λ i h e. o i (omega arith) e) }

-- ---- the rows but a mask's leave the unused places alone: one computed test

abbrev beyond : ℕ → ℕ → ℕ → Bool
beyond j m p = ltb p j || leb (j + m) p

abbrev spare : ℕ → ℕ → ℕ → ℕ → Bool
spare c j m p = not (eqb c 0) || beyond j m p

abbrev spares : ℕ → List ℕ → List ℕ → Bool
spares f row own =
    (known false (kind_of f) && (not (eqb (first_class own) 0) || leb f 66))
    && (spare (sort_class own) (first_of row) (numbers_of row) 1 && (spare (first_class own) (first_of row) (numbers_of row) 2
    && (spare (second_class own) (first_of row) (numbers_of row) 3 && spare (third_class own) (first_of row) (numbers_of row) 4)))

test : ℕ → Bool
test i = eqb (suc i) 56 || spares (suc i) (form_row (suc i)) (row_of (kind_of (suc i)))

all_pass : T (every test 68)
unfolding test form_row row_of
all_pass = tt

at_form : (f : ℕ) → 1 ≤ f → IsForm f → T (spares f (form_row f) (row_of (kind_of f)))
unfolding test
at_form zero a b = absurd (omega arith)
at_form (suc i) a b =
    subst (λ (q : Bool). T (q || spares (suc i) (form_row (suc i)) (row_of (kind_of (suc i))))) (ne_eqb (suc i) 56 b.1) (at_each test 68 all_pass i (omega (arith, b.0)))

outside_of : (j m p : ℕ) → T (beyond j m p) → Outside j m p
outside_of j m p h = go (ltb p j) (leb (j + m) p) refl refl h
  where
    go : (a b : Bool) → ltb p j ≡ a → leb (j + m) p ≡ b → T (a || b) → Outside j m p
    go true b x y t = λ i l e. omega (arith, ltb-true p j x)
    go false true x y t = λ i l e. omega (arith, leb-true (j + m) p y)
    go false false x y t = absurd t

unused_of : (c x : ℕ) (b : Bool) → T (not (eqb c 0) || b) → (T b → x ≡ 0) → unused c x ≡ true
unused_of c x b h z = go (eqb c 0) h
  where
    go : (q : Bool) → T (not q || b) → (not q || eqb x 0) ≡ true
    go true t = eq-eqb x 0 (z t)
    go false t = refl

both_true : (a b : Bool) → a ≡ true → b ≡ true → (a && b) ≡ true
both_true a b x y = rw (x, y) refl

-- ---- a record that was taken is formed

module _ (w f : ℕ) (one_up : 1 ≤ f) (form : IsForm f) (rec : List ℕ) (l : Left (first_of (form_row f)) (numbers_of (form_row f)) (fresh (kind_of f)) rec)
    (low : 1 ≤ first_of (form_row f)) where
  abbrev j : ℕ
  j = first_of (form_row f)

  abbrev m : ℕ
  m = numbers_of (form_row f)

  kind : kind_in rec ≡ kind_of f
  kind = l.same_place 0 (λ i h e. omega (arith, low))

  settled_place : (p : ℕ) → (p ≡ 2 → ⊥) → get_or (settled w f rec) p 0 ≡ get_or rec p 0
  settled_place p n = go (eqb f 67) (eqb f 68) refl refl
    where
      go : (a b : Bool) → eqb f 67 ≡ a → eqb f 68 ≡ b → get_or (settled w f rec) p 0 ≡ get_or rec p 0
      go true b x y = ap (λ (r : List ℕ). get_or r p 0) (settled_one w f rec (eqb-true f 67 x)) ∙ get_or-set_other rec 2 p _ 0 n
      go false true x y = ap (λ (r : List ℕ). get_or r p 0) (settled_ones w f rec (eqb-true f 68 y)) ∙ get_or-set_other rec 2 p _ 0 n
      go false false x y = ap (λ (r : List ℕ). get_or r p 0) (settled_other w f rec (eqb-false f 67 x) (eqb-false f 68 y))

  -- a place that is not the value's
  zero_place : (p : ℕ) → (p ≡ 2 → ⊥) → get_or (fresh (kind_of f)) p 0 ≡ 0 → T (beyond (first_of (form_row f)) (numbers_of (form_row f)) p) → get_or (settled w f rec) p 0 ≡ 0
  zero_place p n z h = settled_place p n ∙ (l.same_place p (outside_of j m p h) ∙ z)

  -- the value's place
  zero_value : f ≤ 66 → T (beyond (first_of (form_row f)) (numbers_of (form_row f)) 2) → get_or (settled w f rec) 2 0 ≡ 0
  zero_value h o =
      ap (λ (r : List ℕ). get_or r 2 0) (settled_other w f rec (λ e. omega arith) (λ e. omega arith)) ∙ l.same_place 2 (outside_of j m 2 o)

  pub taken_formed : formed false (settled w f rec) ≡ true
  taken_formed =
      let own : List ℕ = row_of (kind_of f) in
      let s : List ℕ = settled w f rec in
      let k : kind_in s ≡ kind_of f = settled_kind w f rec ∙ kind in
      let h = at_form f one_up form in
      let h₀ = and_yes (known false (kind_of f) && (not (eqb (first_class own) 0) || leb f 66)) _ h in
      let h₁ = and_yes (known false (kind_of f)) _ h₀.0 in
      let h₂ = and_yes (spare (sort_class own) j m 1) _ h₀.1 in
      let h₃ = and_yes (spare (first_class own) j m 2) _ h₂.1 in
      let h₄ = and_yes (spare (second_class own) j m 3) _ h₃.1 in
      let g₁ : unused (sort_class own) (sort_in s) ≡ true = unused_of (sort_class own) (sort_in s) (beyond j m 1) h₂.0 (λ o. zero_place 1 (λ e. omega arith) refl o) in
      let g₂ : unused (first_class own) (first_in s) ≡ true = value_place own h₁.1 h₃.0 in
      let g₃ : unused (second_class own) (second_in s) ≡ true = unused_of (second_class own) (second_in s) (beyond j m 3) h₄.0 (λ o. zero_place 3 (λ e. omega arith) refl o) in
      let g₄ : unused (third_class own) (third_in s) ≡ true = unused_of (third_class own) (third_in s) (beyond j m 4) h₄.1 (λ o. zero_place 4 (λ e. omega arith) refl o) in
      let g : all (tidy own s) ≡ true = both_true _ _ g₁ (both_true _ _ g₂ (both_true _ _ g₃ (both_true _ _ g₄ refl))) in
      both_true (known false (kind_in s)) _ (subst (λ (x : ℕ). known false x ≡ true) (sym k) (true_of (known false (kind_of f)) h₁.0)) (subst (λ (x : ℕ). all (tidy (row_of x) s) ≡ true) (sym k) g)
    where
      value_place : (own : List ℕ) → T (not (eqb (first_class own) 0) || leb f 66) → T (spare (first_class own) (first_of (form_row f)) (numbers_of (form_row f)) 2)
          → unused (first_class own) (first_in (settled w f rec)) ≡ true
      value_place own a b = go (eqb (first_class own) 0) a b
        where
          go : (q : Bool) → T (not q || leb f 66) → T (not q || beyond (first_of (form_row f)) (numbers_of (form_row f)) 2) → (not q || eqb (first_in (settled w f rec)) 0) ≡ true
          go true t o = eq-eqb (first_in (settled w f rec)) 0 (zero_value (leb-true f 66 (true_of (leb f 66) t)) o)
          go false t o = refl

-- ---- places for ids: a word that the line does not use stays

unused_meant : (k : ℕ) (ds : List ℕ) (v : ℕ) → unused k (meant k ds v) ≡ unused k v
unused_meant k ds v = go (eqb k 0) refl
  where
    go : (q : Bool) → eqb k 0 ≡ q → unused k (meant k ds v) ≡ unused k v
    go true e = rw e refl
    go false e = rw e refl

formed_resolved : (ds : List ℕ) (k s a b c : ℕ) → formed false (fields k s a b c) ≡ true → formed false (resolved ds (fields k s a b c)) ≡ true
unfolding resolved
formed_resolved ds k s a b c h =
    rw (unused_meant (sort_class (row_of k)) ds s, unused_meant (first_class (row_of k)) ds a, unused_meant (second_class (row_of k)) ds b, unused_meant (third_class (row_of k)) ds c) h

-- and where a value is put
formed_value : (ds : List ℕ) (k s a b c v : ℕ) → formed false (fields k s v b c) ≡ true → formed false (set (resolved ds (fields k s a b c)) 2 v) ≡ true
unfolding resolved
formed_value ds k s a b c v h = rw (unused_meant (sort_class (row_of k)) ds s, unused_meant (second_class (row_of k)) ds b, unused_meant (third_class (row_of k)) ds c) h

module _ (w f : ℕ) (ds : List ℕ) (k s a b c : ℕ) where
  abbrev Formed : List ℕ → Type 0
  Formed y = formed false y ≡ true

  abbrev words : List ℕ
  words = fields k s a b c

  with_value_lem : (v : ℕ) → settled w f words ≡ set words 2 v → settled w f (resolved ds words) ≡ set (resolved ds words) 2 v → Formed (settled w f words) → Formed (settled w f (resolved ds words))
  with_value_lem v p q g = subst Formed (sym q) (formed_value ds k s a b c v (subst Formed p g))

  settled_fields : Formed (settled w f words) → Formed (settled w f (resolved ds words))
  settled_fields g = go (eqb f 67) (eqb f 68) refl refl
    where
      go : (p q : Bool) → eqb f 67 ≡ p → eqb f 68 ≡ q → Formed (settled w f (resolved ds words))
      go true q ep eq = let n = eqb-true f 67 ep in with_value_lem 1 (settled_one w f words n) (settled_one w f (resolved ds words) n) g
      go false true ep eq = let n = eqb-true f 68 eq in with_value_lem (2 ^ w - 1) (settled_ones w f words n) (settled_ones w f (resolved ds words) n) g
      go false false ep eq =
          let x = eqb-false f 67 ep in
          let y = eqb-false f 68 eq in
          subst Formed (sym (settled_other w f (resolved ds words) x y)) (formed_resolved ds k s a b c (subst Formed (settled_other w f words x y) g))

settled_formed : (w f : ℕ) (ds r : List ℕ) → length r ≡ record_words → formed false (settled w f r) ≡ true → formed false (settled w f (resolved ds r)) ≡ true
settled_formed w f ds r l h =
    let e = fields_of r l in
    subst (λ (x : List ℕ). formed false (settled w f (resolved ds x)) ≡ true) (sym e)
    (settled_fields w f ds (kind_in r) (sort_in r) (first_in r) (second_in r) (third_in r) (subst (λ (x : List ℕ). formed false (settled w f x) ≡ true) e h))

resolved_length : (ds r : List ℕ) → length (resolved ds r) ≡ record_words
unfolding resolved
resolved_length ds r = refl

value_length : (w f : ℕ) (r : List ℕ) → length (settled w f r) ≡ length r
unfolding settled
value_length w f r = go (eqb f 67) (eqb f 68) refl refl
  where
    go : (p q : Bool) → eqb f 67 ≡ p → eqb f 68 ≡ q → length (settled w f r) ≡ length r
    go true q ep eq = rw (ep, settled) (length-set r 2 1)
    go false true ep eq = rw (ep, eq, settled) (length-set r 2 (2 ^ w - 1))
    go false false ep eq = rw (ep, eq, settled) refl

first_low : (r : List ℕ) → 1 ≤ first_of r
first_low r = go (eqb (sort_class r) 0)
  where
    go : (b : Bool) → 1 ≤ 2 - pick b 0 1
    go true = omega arith
    go false = omega arith

-- ---- a line that gives a record has none of the refusals

module _ (L : ℕ → Ty) (G : Bool → ℕ → Bool) where
  no_fault : (rec : List ℕ) → eqb (fault false L G rec) 8 ≡ false → eqb (fault false L G rec) 9 ≡ false → eqb (fault false L G rec) 10 ≡ false → eqb (fault false L G rec) 0 ≡ true
  no_fault rec x y z = go (eqb (fault false L G rec) 0) refl
    where
      go : (b : Bool) → eqb (fault false L G rec) 0 ≡ b → b ≡ true
      go true e = refl
      go false e = absurd (eqb-false _ 10 z (last_rule L G rec (eqb-false _ 0 e) (eqb-false _ 8 x) (eqb-false _ 9 y)))

  module _ (m : ℕ) (ds : List ℕ) (ns : List (List ℕ)) where
    -- of a word that is known
    module _ (t : List ℕ) (w : Word) (forms : InForms w) (r : List ℕ) (s : List Bool)
        (e : lowest (refusals L G m ds ns t (form_of w) (behind w)) (reply_in L ds (form_of w) (behind w)) ≡ got r s) where
      gives_all : NoneHolds (refusals L G m ds ns t (form_of w) (behind w)) × (reply_in L ds (form_of w) (behind w) ≡ got r s)
      gives_all = got_none (refusals L G m ds ns t (form_of w) (behind w)) (reply_in L ds (form_of w) (behind w)) r s e

      pub none : NoneHolds (refusals L G m ds ns t (form_of w) (behind w))
      none = gives_all.0

      pub is_record : record_in L ds (form_of w) (behind w) ≡ r
      is_record = let q = gives_all.1 in cc

      pub are_signs : signs_in (form_of w) (behind w) ≡ s
      are_signs = let q = gives_all.1 in cc

      line_id_lem : is_next (decimal t) (last_of 0 ds) ≡ true
      line_id_lem = not-false (is_next (decimal t) (last_of 0 ds)) none.0

      -- the refusals from 8 on
      from_eight : NoneHolds (drop 5 (refusals L G m ds ns t (form_of w) (behind w)))
      from_eight = none.1.1.1.1.1

      line_room : length ds + minuses s < m
      line_room =
          let n : ℕ = length ds + minuses (signs_in (form_of w) (behind w)) in
          subst (λ (x : List Bool). length ds + minuses x < m) are_signs (ltb-true n m (not-false (ltb n m) from_eight.1.1.1.1.0))

      line_unused : used (name_behind w) ns ≡ false
      line_unused = ap (λ (name : List ℕ). used name ns) (name_behind_lem w) ∙ from_eight.1.1.1.0

      line_minus : all (minuses_fit L s r) ≡ true
      line_minus =
          let f : ℕ = form_of w in
          let x = record_in L ds f (behind w) in
          let h = (neither (eqb (fault false L G x) 8) _ from_eight.0).1 in
          ap₂ (λ (y : List Bool) (z : List ℕ). all (minuses_fit L y z)) (sym are_signs) (sym is_record) ∙ not-false (all (minuses_fit L (signs_in f (behind w)) x)) h

      pub in_forms : (v : Word) → InForms v → eqb (form_of v) 0 ≡ false → (1 ≤ form_of v) × IsForm (form_of v)
      in_forms unknown h k = let z : ◌≡◌ {A = ℕ} 0 1 = cc in absurd (omega arith)
      in_forms (word f ts) h k = h

      line_keeps : (keeps false L G r ≡ true) × (length r ≡ record_words)
      line_keeps =
          let f : ℕ = form_of w in
          let x : List ℕ = written_record f (behind w) in
          let b = in_forms w forms none.1.1.0 in
          let l = left_written f (behind w) in
          let h = from_eight in
          let k = no_fault (record_in L ds f (behind w)) (neither _ _ h.0).0 (neither _ _ h.1.0).0 h.1.1.0 in
          let v = (L (sort_in (resolved ds x))).w in
          let g = settled_formed v f ds x l.same_length (taken_formed v f b.0 b.1 x l (first_low (form_row f))) in
          subst (λ (y : List ℕ). (keeps false L G y ≡ true) × (length y ≡ record_words)) is_record
          (both_true (formed false (record_in L ds f (behind w))) _ g k, value_length v f (resolved ds x) ∙ resolved_length ds x)

    -- A line that gives a record has an id and a word: its record keeps the rules, and its minuses stand where they may; its name, if it has one, is new; there is room for it
    -- with its not records; its id follows.
    pub record Gives (ts : List (List ℕ)) (rec : List ℕ) (s : List Bool) : Type 0 where
      pub rules : keeps false L G rec ≡ true
      pub sized : length rec ≡ record_words
      pub minus : all (minuses_fit L s rec) ≡ true
      pub unused : used (line_name ts) ns ≡ false
      pub left : length ds + minuses s < m
      pub next : follows (last_of 0 ds) (line_id ts) ≡ true

    next_value : (x : Num) (l : ℕ) → is_next x l ≡ true → follows l (value_of x) ≡ true
    next_value (Err e) l h = let z : ◌≡◌ {A = ℕ} 0 1 = cc in absurd (omega arith)
    next_value (Ok v) l h = h

    pub got_gives : (ts : List (List ℕ)) (rec : List ℕ) (s : List Bool) → read_line L G m ds ns ts ≡ got rec s → Gives ts rec s
    unfolding read_line
    got_gives [] rec s e = let z : ◌≡◌ {A = ℕ} 0 1 = cc in absurd (omega arith)
    got_gives (t ∷ ts) rec s e =
        let k = line_keeps t (word_in ts) (word_forms ts) rec s e in
        record {
          rules = k.0;
          sized = k.1;
          minus = line_minus t (word_in ts) (word_forms ts) rec s e;
          unused = line_unused t (word_in ts) (word_forms ts) rec s e;
          left = line_room t (word_in ts) (word_forms ts) rec s e;
          next = next_value (decimal t) (last_of 0 ds) (line_id_lem t (word_in ts) (word_forms ts) rec s e);
        }

-- so of a line after those so far
abbrev pub GivesAfter : (m : ℕ) (b : Sofar) → (ts : List (List ℕ)) (rec : List ℕ) (s : List Bool) → Type 0
GivesAfter m b ts rec s = Gives (ty_at b.ctx) (given b.ctx) m b.ids b.names ts rec s

pub gives_after : (m : ℕ) (b : Sofar) (ts : List (List ℕ)) (rec : List ℕ) (s : List Bool) → reply_after m b ts ≡ got rec s → GivesAfter m b ts rec s
gives_after m b ts rec s e = got_gives (ty_at b.ctx) (given b.ctx) m b.ids b.names ts rec s e
