-- The own line of a line whose minus operands are written out: it is read as the line's own record, in which the not lines stand for the operands. Assumes nothing.
use Prim.Native.Nat.{ℕ, zero, suc, ◌+◌, ◌-◌, ◌^◌, ◌≤◌, ◌<◌}
use mathlib.Core.Path.{◌≡◌, refl, sym, ap, ap₂, ◌∙◌, subst}
use mathlib.Core.Bool.{Bool, true, false}
use mathlib.Core.List.{List, [], ◌∷◌, ◌++◌}
use native.Mathlib.Omega.{arith}
use lib.Dec.{eqb, ltb}
use lib.ListN.{length, take, get_or, length-take}
use lib.Seq.{take-append_seam}
use borrow.Author.Tests.{eqb-true, eqb-false, ltb-false}
use Rattle.tables.specs.declared.Ty.{Ty}
use Rattle.tables.specs.Pick.{pick, inside}
use Rattle.tables.specs.Kinds.{row_of, sort_class, class_at, names_line}
use Rattle.tables.specs.Lines.{fields, kind_in, sort_in}
use Rattle.tables.specs.Layout.{from}
use Rattle.tables.specs.Types.{rank, Ctx, ty_at, given}
use Rattle.tables.specs.Tables.{keeps}
use Rattle.tables.proofs.Answers.{passed}
use Rattle.tables.proofs.Kept.{all_at, no_yes, neither, kept_fault}
use Rattle.tables.proofs.Replaced.{suits_role, class_at_lem}
use Rattle.texts.specs.Forms.{form_row, kind_of, first_of, numbers_of, sort_word}
use Rattle.texts.specs.Split.{same_bytes}
use Rattle.texts.specs.Operands.{place_by_id, meant, resolved}
use Rattle.texts.specs.Minus.{no_signs, minus_at, minuses_fit}
use Rattle.texts.specs.Reading.{Word, word, find_in, find_word, form_word, sort_words, word_in, form_of, behind, sign_at, numbers_from, any_bad, any_big, placed, signs_from, fresh, settled, number_tokens, extra_tokens, numbers_in, signs_in, written_record, record_in, refusals, got, read_line}
use Rattle.texts.specs.WrittenOut.{out_tokens, not_sorts, word_tokens, nots_of, sort_place, number_tokens_in}
use Rattle.texts.proofs.Words.{word_sort_lem, word_other, word_forms, kind_high}
use Rattle.texts.proofs.Steps.{settled_other, settled_one, settled_ones, settled_kind}
use Rattle.texts.proofs.Lowest.{NoneHolds}
use Rattle.texts.proofs.Kept.{none, Gives, in_forms, is_record, are_signs, got_gives}
use Rattle.texts.proofs.Nots.{MinusesFit, minuses_fit_lem, fits_there, takes_minus}
use Rattle.texts.proofs.InOrder.{Numbered, resolved_same}
use Rattle.texts.proofs.OutTokens.{out_number, out_nots, out_not_sorts}
use Rattle.texts.proofs.OwnNumbers.{meant_form, minus_named, out_number_lem, sort_plain, own_record, MinusesNamed, minus_settled, read_fields, out_fields, own_settled, LineParts, line_parts}

-- ---- the word

-- of the tokens ts, those before what stands behind the word w are read as that word
abbrev Kept : (ts zs : List (List ℕ)) → Word → Type 0
Kept ts zs w = eqb (form_of w) 0 ≡ false → word_in (take (length ts - length (behind w)) ts ++ zs) ≡ word (form_of w) zs

-- a known word stays with its tokens, whatever stands behind it
word_kept_lem : (ts zs : List (List ℕ)) → eqb (form_of (word_in ts)) 0 ≡ false → word_in (word_tokens ts ++ zs) ≡ word (form_of (word_in ts)) zs
unfolding word_in
word_kept_lem [] zs h = absurd (no_yes (sym h))
word_kept_lem (t ∷ ts) zs h = go (same_bytes t sort_word) refl
  where
    -- a word of one token, and of two
    one : (f : ℕ) → same_bytes t sort_word ≡ false → find_word t ≡ f → Kept (t ∷ ts) zs (form_word f ts)
    one zero e q k = absurd (no_yes (sym k))
    one (suc f) e q k =
        let z : suc (length ts) - length ts ≡ 1 = omega arith in
        ap (λ (n : ℕ). word_in (take n (t ∷ ts) ++ zs)) z ∙ (word_other t zs e ∙ ap (λ (g : ℕ). form_word g zs) q)

    two : (us : List (List ℕ)) → ts ≡ us → same_bytes t sort_word ≡ true → Kept (t ∷ ts) zs (sort_words us)
    two [] p e k = absurd (no_yes (sym k))
    two (u ∷ us) p e k = known (find_in 1 2 u) refl k
      where
        known : (f : ℕ) → find_in 1 2 u ≡ f → Kept (t ∷ ts) zs (form_word f us)
        known zero q k = absurd (no_yes (sym k))
        known (suc f) q k =
            let z : suc (suc (length us)) - length us ≡ 2 = omega arith in
            ap (λ (xs : List (List ℕ)). word_in (take (suc (length xs) - length us) (t ∷ xs) ++ zs)) p
            ∙ (ap (λ (n : ℕ). word_in (take n (t ∷ u ∷ us) ++ zs)) z ∙ (word_sort_lem t (u ∷ zs) e ∙ ap (λ (g : ℕ). form_word g zs) q))

    go : (b : Bool) → same_bytes t sort_word ≡ b → word_in (word_tokens (t ∷ ts) ++ zs) ≡ word (form_of (word_in (t ∷ ts))) zs
    go true e = let q = word_sort_lem t ts e in subst (Kept (t ∷ ts) zs) (sym q) (two ts refl e) h
    go false e = let q = word_other t ts e in subst (Kept (t ∷ ts) zs) (sym q) (one (find_word t) e refl) h

-- ---- the own line is read: its lines' numbers are places already

settled_width : (w w₁ f : ℕ) (r : List ℕ) → (f ≡ 68 → w₁ ≡ w) → settled w₁ f r ≡ settled w f r
settled_width w w₁ f r h = go (eqb f 67) (eqb f 68) refl refl
  where
    go : (p q : Bool) → eqb f 67 ≡ p → eqb f 68 ≡ q → settled w₁ f r ≡ settled w f r
    go true q x y = let e = eqb-true f 67 x in settled_one w₁ f r e ∙ sym (settled_one w f r e)
    go false true x y = ap (λ (v : ℕ). settled v f r) (h (eqb-true f 68 y))
    go false false x y = settled_other w₁ f r (eqb-false f 67 x) (eqb-false f 68 y) ∙ sym (settled_other w f r (eqb-false f 67 x) (eqb-false f 68 y))

settled_sort : (w f k σ a b c : ℕ) → sort_in (settled w f (fields k σ a b c)) ≡ σ
settled_sort w f k σ a b c = go (eqb f 67) (eqb f 68) refl refl
  where
    go : (p q : Bool) → eqb f 67 ≡ p → eqb f 68 ≡ q → sort_in (settled w f (fields k σ a b c)) ≡ σ
    go true q x y = ap sort_in (settled_one w f (fields k σ a b c) (eqb-true f 67 x))
    go false true x y = ap sort_in (settled_ones w f (fields k σ a b c) (eqb-true f 68 y))
    go false false x y = ap sort_in (settled_other w f (fields k σ a b c) (eqb-false f 67 x) (eqb-false f 68 y))

module _ (L : ℕ → Ty) (G : Bool → ℕ → Bool) (n : ℕ) (N : Numbered L n) (σ a b c : ℕ) where
  -- a constant, whatever its value
  valued : (v : ℕ) → keeps false L G (fields 3 σ v b c) ≡ true → resolved (from 1 n) (fields 3 σ a b c) ≡ fields 3 σ a b c
  unfolding resolved row_of
  valued v kp = let e : meant 5 (from 1 n) σ ≡ σ = ap sort_in (resolved_same L G n (fields 3 σ v b c) N refl kp) in λ i. fields 3 (e i) a b c

  resolved_out : (w f : ℕ) → keeps false L G (settled w f (fields (kind_of f) σ a b c)) ≡ true → resolved (from 1 n) (fields (kind_of f) σ a b c) ≡ fields (kind_of f) σ a b c
  resolved_out w f kp = go (eqb f 67) (eqb f 68) refl refl
    where
      value : (v : ℕ) → 63 < f → settled w f (fields (kind_of f) σ a b c) ≡ fields (kind_of f) σ v b c → resolved (from 1 n) (fields (kind_of f) σ a b c) ≡ fields (kind_of f) σ a b c
      value v l e =
          let k = kind_high f l in
          subst (λ (x : ℕ). resolved (from 1 n) (fields x σ a b c) ≡ fields x σ a b c) (sym k)
          (valued v (subst (λ (x : ℕ). keeps false L G (fields x σ v b c) ≡ true) k (subst (λ (x : List ℕ). keeps false L G x ≡ true) e kp)))

      go : (p q : Bool) → eqb f 67 ≡ p → eqb f 68 ≡ q → resolved (from 1 n) (fields (kind_of f) σ a b c) ≡ fields (kind_of f) σ a b c
      go true q x y = let z = eqb-true f 67 x in value 1 (omega arith) (settled_one w f _ z)
      go false true x y = let z = eqb-true f 68 y in value (2 ^ w - 1) (omega arith) (settled_ones w f _ z)
      go false false x y =
          resolved_same L G n (fields (kind_of f) σ a b c) N refl
          (subst (λ (x : List ℕ). keeps false L G x ≡ true) (settled_other w f _ (eqb-false f 67 x) (eqb-false f 68 y)) kp)

length_out : (f j n : ℕ) (ds : List ℕ) (us : List (List ℕ)) → length (out_tokens f j n ds us) ≡ length us
length_out f j n ds [] = refl
length_out f j n ds (t ∷ us) = ap suc (length_out f (suc j) (n + pick (sign_at f j t) 1 0) ds us)

const_sort : names_line (class_at (row_of 3) 1) ≡ true
unfolding row_of
const_sort = refl

-- ---- a line that gives the record r with the signs s, after lines with the ids ds and the names ns

module _ (c : Ctx) (m : ℕ) (ds : List ℕ) (ns : List (List ℕ)) (t : List ℕ) (ts : List (List ℕ)) (r : List ℕ) (s : List Bool) (most : m ≤ 16384)
    (h : read_line (ty_at c) (given c) m ds ns (t ∷ ts) ≡ got r s) where
  abbrev f : ℕ
  f = form_of (word_in ts)

  abbrev rest : List (List ℕ)
  rest = behind (word_in ts)

  abbrev us : List (List ℕ)
  us = number_tokens_in ts

  abbrev j : ℕ
  j = first_of (form_row f)

  abbrev n : ℕ
  n = length ds

  gives : Gives (ty_at c) (given c) m ds ns (t ∷ ts) r s
  gives = got_gives (ty_at c) (given c) m ds ns (t ∷ ts) r s h

  free : NoneHolds (refusals (ty_at c) (given c) m ds ns t f rest)
  unfolding read_line
  free = none (ty_at c) (given c) m ds ns t (word_in ts) (word_forms ts) r s h

  bounds : (1 ≤ f) × (f ≤ 68)
  unfolding read_line
  bounds = let b = in_forms (ty_at c) (given c) m ds ns t (word_in ts) (word_forms ts) r s h (word_in ts) (word_forms ts) free.1.1.0 in (b.0, b.1.0)

  is_row : record_in (ty_at c) ds f rest ≡ r
  unfolding read_line
  is_row = is_record (ty_at c) (given c) m ds ns t (word_in ts) (word_forms ts) r s h

  signs_read : signs_in f rest ≡ s
  unfolding read_line
  signs_read = are_signs (ty_at c) (given c) m ds ns t (word_in ts) (word_forms ts) r s h

  all_there : length us ≡ numbers_of (form_row f)
  all_there = let g = ltb-false (length rest) (numbers_of (form_row f)) (neither _ _ free.1.1.1.0).0 in length-take (numbers_of (form_row f)) rest ∙ omega arith

  parts : LineParts f n ds j us
  parts =
      let l : length ds < 16384 = omega (arith, gives.left) in
      let bad = neither (ltb (length rest) (numbers_of (form_row f))) _ free.1.1.1.0 in
      line_parts f bounds.0 bounds.1 n ds (omega arith) (omega arith) us all_there (neither (any_bad (numbers_in f rest)) _ bad.1).0 (neither (any_big (numbers_in f rest)) _ free.1.1.1.1.0).0

  abbrev P : LineParts f n ds j us
  P = parts

  abbrev signs : List Bool
  signs = false ∷ P.s₁ ∷ P.s₂ ∷ P.s₃ ∷ P.s₄ ∷ []

  abbrev as_read : List ℕ
  as_read = read_fields f ds P.σ P.a P.b P.c

  abbrev as_out : List ℕ
  as_out = out_fields f n ds P.σ P.a P.b P.c P.s₂ P.s₃ P.s₄ (kind_of f)

  -- the width of its sort
  abbrev width : ℕ
  width = (ty_at c (sort_in as_read)).w

  are_fields : resolved ds (written_record f rest) ≡ as_read
  unfolding resolved
  are_fields = ap (resolved ds) (P.written (kind_of f))

  is_settled : r ≡ settled width f as_read
  is_settled = sym is_row ∙ ap (λ (x : List ℕ). settled (ty_at c (sort_in x)).w f x) are_fields

  same_signs : s ≡ signs
  same_signs = sym signs_read ∙ P.signs

  own_kind : kind_in r ≡ kind_of f
  own_kind = ap kind_in is_settled ∙ settled_kind width f as_read

  pub fit : MinusesFit (ty_at c) s r 2
  fit = minuses_fit_lem (ty_at c) s r gives.minus

  named_all : MinusesNamed f s
  named_all i l u e =
      minus_named f bounds.0 bounds.1 i (omega arith) u
      (ap (λ (k : ℕ). inside 1 3 (class_at (row_of k) i)) (sym own_kind) ∙ (takes_minus (kind_in r) (class_at (row_of (kind_in r)) i) (ty_at c (get_or r i 0)) (fit i l u e)).class)

  named_signs : MinusesNamed f signs
  named_signs = subst (MinusesNamed f) same_signs named_all

  -- a sort takes no minus
  no_first : P.s₁ ≡ false
  no_first = go P.s₁ (ap (λ (x : List Bool). minus_at x 1) same_signs)
    where
      go : (b : Bool) → minus_at s 1 ≡ b → b ≡ false
      go true e =
          let q = fits_there (kind_in r) (sort_class (row_of (kind_in r))) (ty_at c (sort_in r)) (minus_at s 1) (all_at (minuses_fit (ty_at c) s r) gives.minus 0) e in
          let k = (takes_minus (kind_in r) (sort_class (row_of (kind_in r))) (ty_at c (sort_in r)) q).class in
          absurd (no_yes (sym (sort_plain f bounds.0 bounds.1) ∙ (ap (λ (x : ℕ). inside 1 3 (sort_class (row_of x))) (sym own_kind) ∙ k)))
      go false e = refl

  own_record_lem : own_record s 3 2 n r ≡ settled width f as_out
  own_record_lem =
      ap₂ (λ (x : List Bool) (y : List ℕ). own_record x 3 2 n y) same_signs is_settled
      ∙ own_settled f bounds.0 bounds.1 n ds P.σ P.a P.b P.c P.s₁ P.s₂ P.s₃ P.s₄ named_signs width

  -- an operand with a minus is the line that its token names
  operand : (i : ℕ) → 2 ≤ i → i ≤ 4 → minus_at signs i ≡ true → (v : ℕ) → get_or as_read i 0 ≡ meant (class_at (row_of (kind_of f)) i) ds v → get_or r i 0 ≡ place_by_id ds v
  operand i l u e v g =
      ap (λ (x : List ℕ). get_or x i 0) (is_settled ∙ minus_settled f signs named_signs i l u e width as_read)
      ∙ (g ∙ (meant_form f bounds.0 bounds.1 i (omega arith) u ds v ∙ ap (λ (b : Bool). pick b (place_by_id ds v) v) (named_signs i l u e)))

  pub are_nots : (ss : List ℕ) → nots_of ds ss ts f us ≡ out_nots s 3 2 n ss (λ i. get_or r i 0)
  are_nots ss =
      P.nots no_first ss (λ i. get_or r i 0) (λ e. operand 2 (omega arith) (omega arith) e P.a refl) (λ e. operand 3 (omega arith) (omega arith) e P.b refl) (λ e. operand 4 (omega arith) (omega arith) e P.c refl)
      ∙ ap (λ (x : List Bool). out_nots x 3 2 n ss (λ i. get_or r i 0)) (sym same_signs)

  pub are_sorts : (ss : List ℕ) → not_sorts f j ds ss us ≡ out_not_sorts s 3 2 ss (λ i. get_or r i 0)
  are_sorts ss =
      P.sorts no_first ss (λ i. get_or r i 0) (λ e. operand 2 (omega arith) (omega arith) e P.a refl) (λ e. operand 3 (omega arith) (omega arith) e P.b refl) (λ e. operand 4 (omega arith) (omega arith) e P.c refl)
      ∙ ap (λ (x : List Bool). out_not_sorts x 3 2 ss (λ i. get_or r i 0)) (sym same_signs)

  pub is_sort_lem : (ss : List ℕ) → sort_place ds ss ts f us ≡ sort_in (own_record s 3 2 n r)
  is_sort_lem ss = P.place ∙ (sym (settled_sort width f (kind_of f) _ _ _ _) ∙ ap sort_in (sym own_record_lem))

  -- ---- its own line, in a text whose lines are numbered 1, 2, 3

  abbrev outs : List (List ℕ)
  outs = out_tokens f j n ds us

  abbrev zs : List (List ℕ)
  zs = outs ++ extra_tokens f rest

  numbers_out : number_tokens f zs ≡ outs
  numbers_out =
      let e : numbers_of (form_row f) ≡ length outs = sym all_there ∙ sym (length_out f j n ds us) in
      ap (λ (k : ℕ). take k zs) e ∙ take-append_seam outs (extra_tokens f rest)

  written_out : written_record f zs ≡ as_out
  written_out = ap (λ (x : List (List ℕ)). placed j (numbers_from f j x) (fresh (kind_of f))) numbers_out ∙ P.out no_first (kind_of f)

  plain_out : signs_in f zs ≡ no_signs
  plain_out = ap (λ (x : List (List ℕ)). signs_from f j x no_signs) numbers_out ∙ P.plain no_first

  module _ (c₁ : Ctx) (n₁ : ℕ) (N : Numbered (ty_at c₁) n₁) (stays : (a : ℕ) → 1 ≤ rank (ty_at c a).role → ty_at c₁ a ≡ ty_at c a)
      (kp : keeps false (ty_at c₁) (given c₁) (own_record s 3 2 n r) ≡ true) where
    same_sort_lem : out_number f 1 ds false 0 P.σ ≡ sort_in as_read
    same_sort_lem = sym (out_number_lem f bounds.0 bounds.1 1 (omega arith) (omega arith) ds false 0 P.σ (λ e. absurd (no_yes e)))

    -- the sort of ones has a role
    sort_role_lem : f ≡ 68 → 1 ≤ rank (ty_at c (sort_in as_read)).role
    sort_role_lem e =
        let k : kind_in r ≡ 3 = own_kind ∙ ap kind_of e in
        let q : sort_in r ≡ sort_in as_read = ap sort_in is_settled ∙ settled_sort width f (kind_of f) _ _ _ _ in
        let g = class_at_lem (ty_at c) (given c) r (passed false (ty_at c) (given c) r (kept_fault false (ty_at c) (given c) r gives.rules)) 1 (omega arith) (omega arith) in
        subst (λ (x : ℕ). 1 ≤ rank (ty_at c x).role) q (suits_role (class_at (row_of (kind_in r)) 1) (ty_at c (sort_in r)) (ap (λ (x : ℕ). names_line (class_at (row_of x) 1)) k ∙ const_sort) g)

    record_out : record_in (ty_at c₁) (from 1 n₁) f zs ≡ own_record s 3 2 n r
    record_out =
        let kq = subst (λ (x : List ℕ). keeps false (ty_at c₁) (given c₁) x ≡ true) own_record_lem kp in
        let e : resolved (from 1 n₁) (written_record f zs) ≡ as_out = ap (resolved (from 1 n₁)) written_out ∙ resolved_out (ty_at c₁) (given c₁) n₁ N _ _ _ _ width f kq in
        ap (λ (x : List ℕ). settled (ty_at c₁ (sort_in x)).w f x) e
        ∙ (settled_width width (ty_at c₁ (sort_in as_out)).w f as_out (λ z. ap (λ (x : ℕ). (ty_at c₁ x).w) same_sort_lem ∙ ap (λ (y : Ty). y.w) (stays (sort_in as_read) (sort_role_lem z))) ∙ sym own_record_lem)

    pub own_read : (p : List ℕ) (m₁ : ℕ) (ns₁ : List (List ℕ)) (r' : List ℕ) (s' : List Bool) → read_line (ty_at c₁) (given c₁) m₁ (from 1 n₁) ns₁ (p ∷ (word_tokens ts ++ zs)) ≡ got r' s'
        → (r' ≡ own_record s 3 2 n r) × (s' ≡ no_signs)
    unfolding read_line
    own_read p m₁ ns₁ r' s' e =
        let ws : List (List ℕ) = word_tokens ts ++ zs in
        let w = word_kept_lem ts zs free.1.1.0 in (
          sym (is_record (ty_at c₁) (given c₁) m₁ (from 1 n₁) ns₁ p (word_in ws) (word_forms ws) r' s' e) ∙ (ap (λ (v : Word). record_in (ty_at c₁) (from 1 n₁) (form_of v) (behind v)) w ∙ record_out),
          sym (are_signs (ty_at c₁) (given c₁) m₁ (from 1 n₁) ns₁ p (word_in ws) (word_forms ws) r' s' e) ∙ (ap (λ (v : Word). signs_in (form_of v) (behind v)) w ∙ plain_out),
        )
