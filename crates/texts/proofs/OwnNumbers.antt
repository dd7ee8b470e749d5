-- The numbers of a line whose minus operands are written out, and its own record, in which the not lines stand for the operands. Assumes nothing.
use Prim.Native.Nat.{ℕ, zero, suc, ◌+◌, ◌-◌, ◌^◌, ◌≤◌, ◌<◌}
use mathlib.Core.Path.{◌≡◌, refl, sym, ap, ap₂, ◌∙◌, subst}
use mathlib.Core.Bool.{Bool, true, false, not, ◌||◌}
use mathlib.Core.List.{List, [], ◌∷◌}
use native.Mathlib.Omega.{arith}
use lib.Dec.{T, eqb, leb}
use lib.ListN.{length, get_or, set}
use borrow.Author.Tests.{eqb-true, eqb-false, ne_eqb, leb-true, not-true}
use Rattle.tables.specs.Pick.{pick, inside, all, alike}
use Rattle.tables.specs.Kinds.{row_of, sort_class, operand_count, first_class, second_class, third_class, class_at, names_line}
use Rattle.tables.specs.Lines.{fields}
use Rattle.tables.proofs.Laws.{true_of}
use Rattle.tables.proofs.Every.{every, at_each}
use Rattle.tables.proofs.Shapes.{range}
use Rattle.tables.proofs.Kept.{all_at, no_yes}
use Rattle.tables.proofs.Places.{fields_eq}
use Rattle.texts.specs.Decimal.{Num}
use Rattle.std.specs.Prelude.{Ok}
use Rattle.texts.specs.Forms.{form_row, kind_of, first_of, numbers_of}
use Rattle.texts.specs.Operands.{place_by_id, meant}
use Rattle.texts.specs.Minus.{no_signs, minus_at}
use Rattle.texts.specs.Reading.{number_at, sign_at, numbers_from, any_bad, any_big, placed, signs_from, fresh, settled}
use Rattle.texts.specs.WrittenOut.{named_place, out_tokens, not_lines, not_sorts}
use Rattle.texts.proofs.Steps.{settled_other}
use Rattle.texts.proofs.OutTokens.{out_number, number_out, sign_out, named_is, out_nots, out_not_sorts, aligned_nots, aligned_sorts, operands_of, value_of_lem, none_out}

-- ---- a form's row and its kind's: the same places name lines, one computed test

-- a place of the class q of a form, where its kind has the class k
abbrev agrees : (q k : ℕ) → Bool
agrees q k = alike (names_line q) (not (eqb k 0 || eqb k 8))

-- own is the form's row, row its kind's; besides, a sort is a line that takes no minus, and there are at most three operands
abbrev rows_agree : (own row : List ℕ) → List Bool
rows_agree own row =
    agrees (sort_class own) (sort_class row)
    ∷ agrees (first_class own) (first_class row)
    ∷ agrees (second_class own) (second_class row)
    ∷ agrees (third_class own) (third_class row)
    ∷ (eqb (sort_class own) 0 || names_line (sort_class own))
    ∷ not (inside 1 3 (sort_class row))
    ∷ leb (operand_count own) 3
    ∷ []

test : ℕ → Bool
test i = all (rows_agree (form_row (suc i)) (row_of (kind_of (suc i))))

all_agree : T (every test 68)
unfolding test form_row row_of
all_agree = tt

at_form : (f : ℕ) → 1 ≤ f → f ≤ 68 → (j : ℕ) → get_or (rows_agree (form_row f) (row_of (kind_of f))) j true ≡ true
unfolding test
at_form zero a b = absurd (omega arith)
at_form (suc i) a b = all_at (rows_agree (form_row (suc i)) (row_of (kind_of (suc i)))) (true_of _ (at_each test 68 all_agree i (omega arith)))

alike_same : (a b : Bool) → alike a (not b) ≡ true → a ≡ not b
alike_same true true t = absurd (no_yes t)
alike_same true false t = refl
alike_same false true t = refl
alike_same false false t = absurd (no_yes t)

module _ (f : ℕ) (low : 1 ≤ f) (high : f ≤ 68) where
  abbrev row : List ℕ
  row = row_of (kind_of f)

  agree : (j : ℕ) → 1 ≤ j → j ≤ 4 → names_line (class_at (form_row f) j) ≡ not (eqb (class_at (row_of (kind_of f)) j) 0 || eqb (class_at (row_of (kind_of f)) j) 8)
  agree zero a b = absurd (omega arith)
  agree (suc zero) a b = alike_same _ (eqb (sort_class row) 0 || eqb (sort_class row) 8) (at_form f low high 0)
  agree (suc (suc zero)) a b = alike_same _ (eqb (first_class row) 0 || eqb (first_class row) 8) (at_form f low high 1)
  agree (suc (suc (suc zero))) a b = alike_same _ (eqb (second_class row) 0 || eqb (second_class row) 8) (at_form f low high 2)
  agree (suc (suc (suc (suc zero)))) a b = alike_same _ (eqb (third_class row) 0 || eqb (third_class row) 8) (at_form f low high 3)
  agree (suc (suc (suc (suc (suc j))))) a b = absurd (omega arith)

  -- a sort names a line, and takes no minus
  sort_named : eqb (sort_class (form_row f)) 0 ≡ false → names_line (class_at (form_row f) 1) ≡ true
  sort_named e = subst (λ (b : Bool). (b || names_line (sort_class (form_row f))) ≡ true) e (at_form f low high 4)

  pub sort_plain : inside 1 3 (sort_class (row_of (kind_of f))) ≡ false
  sort_plain = not-true (inside 1 3 (sort_class row)) (at_form f low high 5)

  few : operand_count (form_row f) ≤ 3
  few = leb-true (operand_count (form_row f)) 3 (at_form f low high 6)

  -- what a number means in a place, by the form
  pub meant_form : (j : ℕ) → 1 ≤ j → j ≤ 4 → (ds : List ℕ) (v : ℕ) → meant (class_at (row_of (kind_of f)) j) ds v ≡ pick (names_line (class_at (form_row f) j)) (place_by_id ds v) v
  meant_form j a b ds v = go (eqb (class_at row j) 0 || eqb (class_at row j) 8) (names_line (class_at (form_row f) j)) (agree j a b)
    where
      go : (p q : Bool) → q ≡ not p → pick p v (place_by_id ds v) ≡ pick q (place_by_id ds v) v
      go true true e = absurd (no_yes (sym e))
      go true false e = refl
      go false true e = refl
      go false false e = absurd (no_yes e)

  -- a place that may take a minus names a line
  pub minus_named : (j : ℕ) → 1 ≤ j → j ≤ 4 → inside 1 3 (class_at (row_of (kind_of f)) j) ≡ true → names_line (class_at (form_row f) j) ≡ true
  minus_named j a b h =
      let r = range 1 3 (class_at row j) h in
      agree j a b ∙ rw (ne_eqb (class_at row j) 0 (λ e. omega (arith, r.0)), ne_eqb (class_at row j) 8 (λ e. omega (arith, r.1))) refl

  -- a number of the record, with a not line in an operand's stead or not, is that of the own line
  pub out_number_lem : (j : ℕ) → 1 ≤ j → j ≤ 4 → (ds : List ℕ) (s : Bool) (p v : ℕ) → (s ≡ true → names_line (class_at (form_row f) j) ≡ true)
      → pick s p (meant (class_at (row_of (kind_of f)) j) ds v) ≡ out_number f j ds s p v
  out_number_lem j a b ds s p v h = ap (pick s p) (meant_form j a b ds v) ∙ go s (names_line (class_at (form_row f) j)) h
    where
      go : (s q : Bool) → (s ≡ true → q ≡ true) → pick s p (pick q (place_by_id ds v) v) ≡ pick q (pick s p (place_by_id ds v)) v
      go true true h = refl
      go true false h = absurd (no_yes (h refl))
      go false true h = refl
      go false false h = refl

-- ---- a line's own record: after n records, the not records of m operands from the place j on stand for them

abbrev pub own_record : List Bool → (m j n : ℕ) → List ℕ → List ℕ
own_record s zero j n rec = rec
own_record s (suc m) j n rec = own_record s m (suc j) (n + pick (minus_at s j) 1 0) (pick (minus_at s j) (set rec j (suc n)) rec)

own_fields : (x y s₂ s₃ s₄ : Bool) (n k σ a b c : ℕ)
    → own_record (x ∷ y ∷ s₂ ∷ s₃ ∷ s₄ ∷ []) 3 2 n (fields k σ a b c) ≡ fields k σ (pick s₂ (suc n) a) (pick s₃ (suc (n + pick s₂ 1 0)) b) (pick s₄ (suc (n + pick s₂ 1 0 + pick s₃ 1 0)) c)
own_fields x y true true true n k σ a b c = refl
own_fields x y true true false n k σ a b c = refl
own_fields x y true false true n k σ a b c = refl
own_fields x y true false false n k σ a b c = refl
own_fields x y false true true n k σ a b c = refl
own_fields x y false true false n k σ a b c = refl
own_fields x y false false true n k σ a b c = refl
own_fields x y false false false n k σ a b c = refl

-- one and ones have no operands
no_operands : (j : ℕ) → 2 ≤ j → j ≤ 4 → (names_line (class_at (form_row 67) j) ≡ false) × (names_line (class_at (form_row 68) j) ≡ false)
unfolding form_row
no_operands zero a b = absurd (omega arith)
no_operands (suc zero) a b = absurd (omega arith)
no_operands (suc (suc zero)) a b = (refl, refl)
no_operands (suc (suc (suc zero))) a b = (refl, refl)
no_operands (suc (suc (suc (suc zero)))) a b = (refl, refl)
no_operands (suc (suc (suc (suc (suc j))))) a b = absurd (omega arith)

-- each minus stands at a place that names a line
abbrev pub MinusesNamed : (f : ℕ) → List Bool → Type 0
MinusesNamed f s = (j : ℕ) → 2 ≤ j → j ≤ 4 → minus_at s j ≡ true → names_line (class_at (form_row f) j) ≡ true

-- a record with a minus has no value from its word
pub minus_settled : (f : ℕ) (s : List Bool) → MinusesNamed f s → (j : ℕ) → 2 ≤ j → j ≤ 4 → minus_at s j ≡ true → (w : ℕ) (r : List ℕ) → settled w f r ≡ r
minus_settled f s N j a b e w r = settled_other w f r (λ z. other 67 z (no_operands j a b).0) (λ z. other 68 z (no_operands j a b).1)
  where
    other : (g : ℕ) → f ≡ g → names_line (class_at (form_row g) j) ≡ false → ⊥
    other g z n = no_yes (sym n ∙ (ap (λ (x : ℕ). names_line (class_at (form_row x) j)) (sym z) ∙ N j a b e))

-- a record as it is read, and with the not lines
abbrev pub read_fields : (f : ℕ) (ds : List ℕ) (σ a b c : ℕ) → List ℕ
read_fields f ds σ a b c =
    fields (kind_of f) (meant (sort_class (row_of (kind_of f))) ds σ) (meant (first_class (row_of (kind_of f))) ds a) (meant (second_class (row_of (kind_of f))) ds b)
    (meant (third_class (row_of (kind_of f))) ds c)

abbrev pub out_fields : (f n : ℕ) (ds : List ℕ) (σ a b c : ℕ) (s₂ s₃ s₄ : Bool) → (k : ℕ) → List ℕ
out_fields f n ds σ a b c s₂ s₃ s₄ k =
    fields k (out_number f 1 ds false 0 σ) (out_number f 2 ds s₂ (suc n) a) (out_number f 3 ds s₃ (suc (n + pick s₂ 1 0)) b)
    (out_number f 4 ds s₄ (suc (n + pick s₂ 1 0 + pick s₃ 1 0)) c)

module _ (f : ℕ) (low : 1 ≤ f) (high : f ≤ 68) (n : ℕ) (ds : List ℕ) (σ a b c : ℕ) (s₁ s₂ s₃ s₄ : Bool) (N : MinusesNamed f (false ∷ s₁ ∷ s₂ ∷ s₃ ∷ s₄ ∷ [])) where
  abbrev signs : List Bool
  signs = false ∷ s₁ ∷ s₂ ∷ s₃ ∷ s₄ ∷ []

  abbrev before : List ℕ
  before = read_fields f ds σ a b c

  abbrev after : List ℕ
  after = out_fields f n ds σ a b c s₂ s₃ s₄ (kind_of f)

  own_out : own_record signs 3 2 n before ≡ after
  own_out =
      own_fields false s₁ s₂ s₃ s₄ n (kind_of f) _ _ _ _
      ∙ fields_eq refl (out_number_lem f low high 1 (omega arith) (omega arith) ds false 0 σ (λ e. absurd (no_yes e)))
      (out_number_lem f low high 2 (omega arith) (omega arith) ds s₂ (suc n) a (N 2 (omega arith) (omega arith)))
      (out_number_lem f low high 3 (omega arith) (omega arith) ds s₃ (suc (n + pick s₂ 1 0)) b (N 3 (omega arith) (omega arith)))
      (out_number_lem f low high 4 (omega arith) (omega arith) ds s₄ (suc (n + pick s₂ 1 0 + pick s₃ 1 0)) c (N 4 (omega arith) (omega arith)))

  pub own_settled : (w : ℕ) → own_record signs 3 2 n (settled w f before) ≡ settled w f after
  own_settled w = go (eqb f 67) (eqb f 68) refl refl
    where
      none : (g : ℕ) → f ≡ g → ((j : ℕ) → 2 ≤ j → j ≤ 4 → names_line (class_at (form_row g) j) ≡ false) → (j : ℕ) → 2 ≤ j → j ≤ 4 → (b : Bool) → minus_at signs j ≡ b → minus_at signs j ≡ false
      none g z h j l u true e = absurd (no_yes (sym (h j l u) ∙ (ap (λ (x : ℕ). names_line (class_at (form_row x) j)) (sym z) ∙ N j l u e)))
      none g z h j l u false e = e

      -- no minus, nothing changes
      still : (g : ℕ) → f ≡ g → ((j : ℕ) → 2 ≤ j → j ≤ 4 → names_line (class_at (form_row g) j) ≡ false) → (r : List ℕ) → own_record signs 3 2 n r ≡ r
      still g z h r = λ i. own_record (false ∷ s₁ ∷ none g z h 2 (omega arith) (omega arith) s₂ refl i ∷ none g z h 3 (omega arith) (omega arith) s₃ refl i ∷ none g z h 4 (omega arith) (omega arith) s₄ refl i ∷ []) 3 2 n r

      by_still : ((r : List ℕ) → own_record signs 3 2 n r ≡ r) → own_record signs 3 2 n (settled w f before) ≡ settled w f after
      by_still h = h (settled w f before) ∙ ap (settled w f) (sym (h before) ∙ own_out)

      go : (p q : Bool) → eqb f 67 ≡ p → eqb f 68 ≡ q → own_record signs 3 2 n (settled w f before) ≡ settled w f after
      go true q x y = by_still (still 67 (eqb-true f 67 x) (λ j l u. (no_operands j l u).0))
      go false true x y = by_still (still 68 (eqb-true f 68 y) (λ j l u. (no_operands j l u).1))
      go false false x y =
          let h = eqb-false f 67 x in
          let k = eqb-false f 68 y in
          ap (own_record signs 3 2 n) (settled_other w f before h k) ∙ (own_out ∙ sym (settled_other w f after h k))

-- ---- the numbers of a line: its sort, where it has one, and its operands

-- the tokens us are those for the places j and up of a line of the form f, after n lines: its numbers and its signs, as they are written and as its own line has them; its not
-- lines and their sorts, where A has the operands' places; and the place of its sort
pub record LineParts (f n : ℕ) (ds : List ℕ) (j : ℕ) (us : List (List ℕ)) : Type 0 where
  pub σ : ℕ
  pub a : ℕ
  pub b : ℕ
  pub c : ℕ
  pub s₁ : Bool
  pub s₂ : Bool
  pub s₃ : Bool
  pub s₄ : Bool
  pub written : (k : ℕ) → placed j (numbers_from f j us) (fresh k) ≡ fields k σ a b c
  pub signs : signs_from f j us no_signs ≡ false ∷ s₁ ∷ s₂ ∷ s₃ ∷ s₄ ∷ []
  pub out : s₁ ≡ false → (k : ℕ) → placed j (numbers_from f j (out_tokens f j n ds us)) (fresh k) ≡ out_fields f n ds σ a b c s₂ s₃ s₄ k
  pub plain : s₁ ≡ false → signs_from f j (out_tokens f j n ds us) no_signs ≡ no_signs
  pub nots : s₁ ≡ false → (ss : List ℕ) (A : ℕ → ℕ) → (s₂ ≡ true → A 2 ≡ place_by_id ds a) → (s₃ ≡ true → A 3 ≡ place_by_id ds b) → (s₄ ≡ true → A 4 ≡ place_by_id ds c)
      → not_lines f j n ds ss us ≡ out_nots (false ∷ s₁ ∷ s₂ ∷ s₃ ∷ s₄ ∷ []) 3 2 n ss A
  pub sorts : s₁ ≡ false → (ss : List ℕ) (A : ℕ → ℕ) → (s₂ ≡ true → A 2 ≡ place_by_id ds a) → (s₃ ≡ true → A 3 ≡ place_by_id ds b) → (s₄ ≡ true → A 4 ≡ place_by_id ds c)
      → not_sorts f j ds ss us ≡ out_not_sorts (false ∷ s₁ ∷ s₂ ∷ s₃ ∷ s₄ ∷ []) 3 2 ss A
  pub place : pick (names_line (class_at (form_row f) 1)) (named_place f 1 ds (get_or us 0 [])) 0 ≡ out_number f 1 ds false 0 σ

module _ (f n : ℕ) (ds : List ℕ) (ln : n < 2 ^ 32) (ld : length ds < 2 ^ 32) where
  -- no sort
  parts_two : (us : List (List ℕ)) → length us ≤ 3 → names_line (class_at (form_row f) 1) ≡ false → any_bad (numbers_from f 2 us) ≡ false → any_big (numbers_from f 2 us) ≡ false → LineParts f n ds 2 us
  parts_two us l z h k =
      let o = operands_of f n ds us l h k ln ld in
      record {
        σ = 0;
        a = o.a;
        b = o.b;
        c = o.c;
        s₁ = false;
        s₂ = o.s₂;
        s₃ = o.s₃;
        s₄ = o.s₄;
        written = λ q. o.written q 0;
        signs = o.signs false false;
        out = λ e q. o.out q 0 ∙ fields_eq refl (none_out f 1 ds 0) refl refl refl;
        plain = λ e. o.plain false false;
        nots = λ e ss A x y w. aligned_nots f ds (false ∷ false ∷ o.s₂ ∷ o.s₃ ∷ o.s₄ ∷ []) A 3 2 n ss us (o.aligned false false A x y w);
        sorts = λ e ss A x y w. aligned_sorts f ds (false ∷ false ∷ o.s₂ ∷ o.s₃ ∷ o.s₄ ∷ []) A 3 2 ss us (o.aligned false false A x y w);
        place = rw z refl;
      }

  -- a sort
  parts_one : (t : List ℕ) (us : List (List ℕ)) → length us ≤ 3 → names_line (class_at (form_row f) 1) ≡ true → any_bad (numbers_from f 1 (t ∷ us)) ≡ false → any_big (numbers_from f 1 (t ∷ us)) ≡ false → LineParts f n ds 1 (t ∷ us)
  parts_one t us l z h k =
      let v = value_of_lem (number_at f 1 t) (numbers_from f 2 us) h k in
      let o = operands_of f n ds us l v.bad v.big ln ld in
      let p : ℕ = out_number f 1 ds false 0 v.v in
      record {
        σ = v.v;
        a = o.a;
        b = o.b;
        c = o.c;
        s₁ = sign_at f 1 t;
        s₂ = o.s₂;
        s₃ = o.s₃;
        s₄ = o.s₄;
        written = λ q. ap (λ (x : Num). placed 1 (x ∷ numbers_from f 2 us) (fresh q)) v.is ∙ o.written q v.v;
        signs = o.signs false (sign_at f 1 t);
        out = λ e q.
            let g = number_out f 1 (suc n) ds t v.v v.is (omega arith) ld ∙ ap (λ (x : Bool). Ok (out_number f 1 ds x (suc n) v.v)) e in
            ap₂ (λ (x : Num) (i : ℕ). placed 1 (x ∷ numbers_from f 2 (out_tokens f 2 i ds us)) (fresh q)) g (step e) ∙ o.out q p;
        plain = λ e.
            ap₂ (λ (x : Bool) (i : ℕ). signs_from f 2 (out_tokens f 2 i ds us) (false ∷ x ∷ false ∷ false ∷ false ∷ [])) (sign_out f 1 (suc n) ds t v.v v.is (omega arith) ld) (step e)
            ∙ o.plain false false;
        nots = λ e ss A x y w. rw e (aligned_nots f ds (false ∷ false ∷ o.s₂ ∷ o.s₃ ∷ o.s₄ ∷ []) A 3 2 n ss us (o.aligned false false A x y w));
        sorts = λ e ss A x y w. rw e (aligned_sorts f ds (false ∷ false ∷ o.s₂ ∷ o.s₃ ∷ o.s₄ ∷ []) A 3 2 ss us (o.aligned false false A x y w));
        place = rw z (named_is f 1 (suc n) ds t v.v v.is (omega arith) ld);
      }
    where
      step : sign_at f 1 t ≡ false → n + pick (sign_at f 1 t) 1 0 ≡ n
      step e = ap (λ (x : Bool). n + pick x 1 0) e ∙ omega arith

pub line_parts : (f : ℕ) → 1 ≤ f → f ≤ 68 → (n : ℕ) (ds : List ℕ) → n < 2 ^ 32 → length ds < 2 ^ 32 → (us : List (List ℕ)) → length us ≡ numbers_of (form_row f)
    → any_bad (numbers_from f (first_of (form_row f)) us) ≡ false → any_big (numbers_from f (first_of (form_row f)) us) ≡ false → LineParts f n ds (first_of (form_row f)) us
line_parts f low high n ds ln ld us l h k = go (eqb (sort_class (form_row f)) 0) refl us l h k
  where
    go : (b : Bool) → eqb (sort_class (form_row f)) 0 ≡ b → (us : List (List ℕ)) → length us ≡ pick b 0 1 + operand_count (form_row f) → any_bad (numbers_from f (2 - pick b 0 1) us) ≡ false
        → any_big (numbers_from f (2 - pick b 0 1) us) ≡ false → LineParts f n ds (2 - pick b 0 1) us
    go true e us l h k = parts_two f n ds ln ld us (omega (arith, few f low high)) (ap names_line (eqb-true (sort_class (form_row f)) 0 e)) h k
    go false e [] l h k = absurd (omega arith)
    go false e (t ∷ us) l h k = parts_one f n ds ln ld t us (omega (arith, few f low high)) (sort_named f low high e) h k
