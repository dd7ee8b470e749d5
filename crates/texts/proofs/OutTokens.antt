-- The tokens of a line whose minus operands are written out, as numbers: a line's place, that of a not line in the stead of a minus operand, or the plain number. Assumes nothing.
use Prim.Native.Nat.{ℕ, zero, suc, ◌+◌, ◌-◌, ◌^◌, ◌≤◌, ◌<◌}
use mathlib.Core.Path.{◌≡◌, refl, sym, ap, ap₂, ◌∙◌}
use mathlib.Core.Bool.{Bool, true, false, ◌&&◌}
use mathlib.Core.List.{List, [], ◌∷◌}
use native.Mathlib.Omega.{arith}
use lib.Dec.{eqb}
use lib.ListN.{length, get_or}
use borrow.Author.Tests.{eqb-true}
use Rattle.tables.specs.Pick.{pick}
use Rattle.tables.specs.Kinds.{class_at, names_line}
use Rattle.tables.specs.Lines.{fields}
use Rattle.tables.proofs.Kept.{both, no_yes}
use Rattle.texts.specs.Decimal.{Num}
use Rattle.std.specs.Prelude.{Ok, Err}
use Rattle.texts.specs.declared.NumberError.TheVariants.{Malformed, TooLarge}
use Rattle.texts.specs.Forms.{form_row}
use Rattle.texts.specs.Decimal.{decimal, digits}
use Rattle.texts.specs.Operands.{place_by_id_from, place_by_id}
use Rattle.texts.specs.Minus.{minus_at}
use Rattle.texts.specs.Reading.{plain_at, number_at, sign_at, numbers_from, any_bad, any_big, placed, signs_from, value_of}
use Rattle.texts.specs.WrittenOut.{named_place, out_token, out_tokens, not_line, not_lines, not_sorts}
use Rattle.texts.proofs.Decimals.{decimal_digits}
use Rattle.texts.proofs.Scan.{without_sign, number_plain, sign_none}

-- ---- one token

no_binary : names_line (class_at (form_row 64) 2) ≡ false
unfolding form_row
no_binary = refl

no_hex : names_line (class_at (form_row 65) 2) ≡ false
unfolding form_row
no_hex = refl

-- a token that names a line is in decimal
plain_line : (f j : ℕ) (t : List ℕ) → names_line (class_at (form_row f) j) ≡ true → plain_at f j t ≡ decimal t
plain_line f j t h = go (eqb f 64 && eqb j 2) (eqb f 65 && eqb j 2) refl refl
  where
    other : (g : ℕ) → names_line (class_at (form_row g) 2) ≡ false → (eqb f g && eqb j 2) ≡ true → ⊥
    other g n e =
        let p = both (eqb f g) (eqb j 2) e in
        no_yes (sym n ∙ (ap (λ (x : ℕ). names_line (class_at (form_row x) 2)) (sym (eqb-true f g p.0)) ∙ (ap (λ (x : ℕ). names_line (class_at (form_row f) x)) (sym (eqb-true j 2 p.1)) ∙ h)))

    go : (a b : Bool) → (eqb f 64 && eqb j 2) ≡ a → (eqb f 65 && eqb j 2) ≡ b → plain_at f j t ≡ decimal t
    go true b p q = absurd (other 64 no_binary p)
    go false true p q = absurd (other 65 no_hex q)
    go false false p q = rw (p, q, plain_at) refl

place_from_most : (b : ℕ) (ds : List ℕ) (d : ℕ) → place_by_id_from b ds d ≤ b + length ds
place_from_most b [] d = omega arith
place_from_most b (e ∷ ds) d = go (eqb e d) (place_from_most (suc b) ds d)
  where
    go : (q : Bool) → place_by_id_from (suc b) ds d ≤ suc b + length ds → pick q b (place_by_id_from (suc b) ds d) ≤ b + length (e ∷ ds)
    go true h = omega arith
    go false h = omega (arith, h)

place_most : (ds : List ℕ) (d : ℕ) → place_by_id ds d ≤ 1 + length ds
place_most ds d = go (eqb d 0)
  where
    go : (q : Bool) → pick q 0 (place_by_id_from 1 ds d) ≤ 1 + length ds
    go true = omega arith
    go false = place_from_most 1 ds d

-- the place or the number that takes the stead of v
abbrev pub out_number : (f j : ℕ) (ds : List ℕ) (minus : Bool) (p v : ℕ) → ℕ
out_number f j ds minus p v = pick (names_line (class_at (form_row f) j)) (pick minus p (place_by_id ds v)) v

module _ (f j p : ℕ) (ds t : List ℕ) (v : ℕ) (e : number_at f j t ≡ Ok v) (lp : p < 2 ^ 64) (ld : length ds < 2 ^ 32) where
  abbrev place : ℕ
  place = pick (sign_at f j t) p (named_place f j ds t)

  place_small : pick (sign_at f j t) p (named_place f j ds t) < 2 ^ 64
  place_small = go (sign_at f j t)
    where
      go : (b : Bool) → pick b p (named_place f j ds t) < 2 ^ 64
      go true = lp
      go false = omega (arith, place_most ds (value_of (number_at f j t)))

  pub named_is : named_place f j ds t ≡ place_by_id ds v
  named_is = ap (λ (x : Num). place_by_id ds (value_of x)) e

  pub number_out : number_at f j (out_token f j p ds t) ≡ Ok (out_number f j ds (sign_at f j t) p v)
  number_out = go (names_line (class_at (form_row f) j)) refl
    where
      go : (b : Bool) → names_line (class_at (form_row f) j) ≡ b
          → number_at f j (pick b (digits (pick (sign_at f j t) p (named_place f j ds t))) t) ≡ Ok (pick b (pick (sign_at f j t) p (place_by_id ds v)) v)
      go true h =
          let q : ℕ = pick (sign_at f j t) p (named_place f j ds t) in
          let d = decimal_digits q place_small in
          without_sign f j (digits q) (sign_none f j (digits q) (number_plain (digits q) q d))
          ∙ (plain_line f j (digits q) h ∙ (d ∙ ap (λ (x : ℕ). Ok (pick (sign_at f j t) p x)) named_is))
      go false h = e

  pub sign_out : sign_at f j (out_token f j p ds t) ≡ false
  sign_out = go (names_line (class_at (form_row f) j)) refl
    where
      go : (b : Bool) → names_line (class_at (form_row f) j) ≡ b → sign_at f j (pick b (digits (pick (sign_at f j t) p (named_place f j ds t))) t) ≡ false
      go true h = let q : ℕ = pick (sign_at f j t) p (named_place f j ds t) in sign_none f j (digits q) (number_plain (digits q) q (decimal_digits q place_small))
      go false h = rw h refl

-- ---- the operands of a line

-- the not lines, and their sorts, by the signs s of m places from j on; A has the operands' places
abbrev pub out_nots : List Bool → (m j n : ℕ) (ss : List ℕ) → (ℕ → ℕ) → List (List (List ℕ))
out_nots s zero j n ss A = []
out_nots s (suc m) j n ss A = pick (minus_at s j) (not_line (suc n) ss (A j) ∷ out_nots s m (suc j) (suc n) ss A) (out_nots s m (suc j) n ss A)

abbrev pub out_not_sorts : List Bool → (m j : ℕ) (ss : List ℕ) → (ℕ → ℕ) → List ℕ
out_not_sorts s zero j ss A = []
out_not_sorts s (suc m) j ss A = pick (minus_at s j) (get_or ss (A j - 1) 0 ∷ out_not_sorts s m (suc j) ss A) (out_not_sorts s m (suc j) ss A)

-- the signs s and the places A of operands are those of the tokens us, in the places j and up, m of them
abbrev pub Aligned : (f : ℕ) (ds : List ℕ) → List Bool → (ℕ → ℕ) → (m j : ℕ) → List (List ℕ) → Type 0
Aligned f ds s A zero j [] = Unit {0}
Aligned f ds s A zero j (t ∷ us) = ⊥
Aligned f ds s A (suc m) j [] = (minus_at s j ≡ false) × Aligned f ds s A m (suc j) []
Aligned f ds s A (suc m) j (t ∷ us) = (minus_at s j ≡ sign_at f j t) × ((minus_at s j ≡ true → A j ≡ named_place f j ds t) × Aligned f ds s A m (suc j) us)

same_pick : {X : Type 0} (b c : Bool) {x x' y y' : X} → c ≡ b → (c ≡ true → x ≡ x') → y ≡ y' → pick b x y ≡ pick c x' y'
same_pick true true e f g = f refl
same_pick true false e f g = absurd (no_yes e)
same_pick false true e f g = absurd (no_yes (sym e))
same_pick false false e f g = g

pub aligned_nots : (f : ℕ) (ds : List ℕ) (s : List Bool) (A : ℕ → ℕ) (m j n : ℕ) (ss : List ℕ) (us : List (List ℕ)) → Aligned f ds s A m j us → not_lines f j n ds ss us ≡ out_nots s m j n ss A
aligned_nots f ds s A zero j n ss [] a = refl
aligned_nots f ds s A zero j n ss (t ∷ us) a = absurd a
aligned_nots f ds s A (suc m) j n ss [] a = rw a.0 (aligned_nots f ds s A m (suc j) n ss [] a.1)
aligned_nots f ds s A (suc m) j n ss (t ∷ us) a =
    same_pick (sign_at f j t) (minus_at s j) a.0
    (λ e. ap₂ (λ (x : ℕ) (xs : List (List (List ℕ))). not_line (suc n) ss x ∷ xs) (sym (a.1.0 e)) (aligned_nots f ds s A m (suc j) (suc n) ss us a.1.1))
    (aligned_nots f ds s A m (suc j) n ss us a.1.1)

pub aligned_sorts : (f : ℕ) (ds : List ℕ) (s : List Bool) (A : ℕ → ℕ) (m j : ℕ) (ss : List ℕ) (us : List (List ℕ)) → Aligned f ds s A m j us → not_sorts f j ds ss us ≡ out_not_sorts s m j ss A
aligned_sorts f ds s A zero j ss [] a = refl
aligned_sorts f ds s A zero j ss (t ∷ us) a = absurd a
aligned_sorts f ds s A (suc m) j ss [] a = rw a.0 (aligned_sorts f ds s A m (suc j) ss [] a.1)
aligned_sorts f ds s A (suc m) j ss (t ∷ us) a =
    same_pick (sign_at f j t) (minus_at s j) a.0
    (λ e. ap₂ (λ (x : ℕ) (xs : List ℕ). get_or ss (x - 1) 0 ∷ xs) (sym (a.1.0 e)) (aligned_sorts f ds s A m (suc j) ss us a.1.1))
    (aligned_sorts f ds s A m (suc j) ss us a.1.1)

-- at most three operands: their numbers, their signs, and what takes their stead after n lines
pub record Operands (f n : ℕ) (ds : List ℕ) (us : List (List ℕ)) : Type 0 where
  pub a : ℕ
  pub b : ℕ
  pub c : ℕ
  pub s₂ : Bool
  pub s₃ : Bool
  pub s₄ : Bool
  pub written : (k σ : ℕ) → placed 2 (numbers_from f 2 us) (fields k σ 0 0 0) ≡ fields k σ a b c
  pub signs : (x y : Bool) → signs_from f 2 us (x ∷ y ∷ false ∷ false ∷ false ∷ []) ≡ x ∷ y ∷ s₂ ∷ s₃ ∷ s₄ ∷ []
  pub out : (k σ : ℕ) → placed 2 (numbers_from f 2 (out_tokens f 2 n ds us)) (fields k σ 0 0 0)
      ≡ fields k σ (out_number f 2 ds s₂ (suc n) a) (out_number f 3 ds s₃ (suc (n + pick s₂ 1 0)) b) (out_number f 4 ds s₄ (suc (n + pick s₂ 1 0 + pick s₃ 1 0)) c)
  pub plain : (x y : Bool) → signs_from f 2 (out_tokens f 2 n ds us) (x ∷ y ∷ false ∷ false ∷ false ∷ []) ≡ x ∷ y ∷ false ∷ false ∷ false ∷ []
  pub aligned : (x y : Bool) (A : ℕ → ℕ) → (s₂ ≡ true → A 2 ≡ place_by_id ds a) → (s₃ ≡ true → A 3 ≡ place_by_id ds b) → (s₄ ≡ true → A 4 ≡ place_by_id ds c)
      → Aligned f ds (x ∷ y ∷ s₂ ∷ s₃ ∷ s₄ ∷ []) A 3 2 us

-- a number that is neither malformed nor too large has a value
pub record Value (x : Num) (ns : List Num) : Type 0 where
  pub v : ℕ
  pub is : x ≡ Ok v
  pub bad : any_bad ns ≡ false
  pub big : any_big ns ≡ false

pub value_of_lem : (x : Num) (ns : List Num) → any_bad (x ∷ ns) ≡ false → any_big (x ∷ ns) ≡ false → Value x ns
value_of_lem (Err Malformed) ns h k = absurd (no_yes (sym h))
value_of_lem (Err TooLarge) ns h k = absurd (no_yes (sym k))
value_of_lem (Ok v) ns h k = record { v = v; is = refl; bad = h; big = k }

step : (b : Bool) → pick b 1 0 ≤ 1
step true = omega arith
step false = omega arith

-- nothing takes the stead of nothing
pub none_out : (f j : ℕ) (ds : List ℕ) (p : ℕ) → 0 ≡ out_number f j ds false p 0
none_out f j ds p = go (names_line (class_at (form_row f) j))
  where
    go : (b : Bool) → 0 ≡ pick b (place_by_id ds 0) 0
    go true = refl
    go false = refl

pub operands_of : (f n : ℕ) (ds : List ℕ) (us : List (List ℕ)) → length us ≤ 3 → any_bad (numbers_from f 2 us) ≡ false → any_big (numbers_from f 2 us) ≡ false → n < 2 ^ 32 → length ds < 2 ^ 32
    → Operands f n ds us
operands_of f n ds [] l h k ln ld =
    record {
      a = 0;
      b = 0;
      c = 0;
      s₂ = false;
      s₃ = false;
      s₄ = false;
      written = λ k σ. refl;
      signs = λ x y. refl;
      out = λ k σ. (λ i. fields k σ (none_out f 2 ds (suc n) i) (none_out f 3 ds (suc (n + 0)) i) (none_out f 4 ds (suc (n + 0 + 0)) i));
      plain = λ x y. refl;
      aligned = λ x y A p q r. (refl, (refl, (refl, tt)));
    }
operands_of f n ds (t ∷ []) l h k ln ld =
    let v = value_of_lem (number_at f 2 t) [] h k in
    let o = number_out f 2 (suc n) ds t v.v v.is (omega arith) ld in
    record {
      a = v.v;
      b = 0;
      c = 0;
      s₂ = sign_at f 2 t;
      s₃ = false;
      s₄ = false;
      written = λ k σ. (λ i. placed 2 (v.is i ∷ []) (fields k σ 0 0 0));
      signs = λ x y. refl;
      out = λ k σ. (λ i. placed 2 (o i ∷ []) (fields k σ 0 0 0)) ∙ (λ i. fields k σ (out_number f 2 ds (sign_at f 2 t) (suc n) v.v) (none_out f 3 ds (suc (n + pick (sign_at f 2 t) 1 0)) i) (none_out f 4 ds (suc (n + pick (sign_at f 2 t) 1 0 + 0)) i));
      plain = λ x y. ap (λ (b : Bool). x ∷ y ∷ b ∷ false ∷ false ∷ []) (sign_out f 2 (suc n) ds t v.v v.is (omega arith) ld);
      aligned = λ x y A p q r. (refl, (λ e. p e ∙ sym (named_is f 2 (suc n) ds t v.v v.is (omega arith) ld), (refl, (refl, tt))));
    }
operands_of f n ds (t ∷ u ∷ []) l h k ln ld =
    let v = value_of_lem (number_at f 2 t) (numbers_from f 3 (u ∷ [])) h k in
    let w = value_of_lem (number_at f 3 u) [] v.bad v.big in
    let one = step (sign_at f 2 t) in
    let o = number_out f 2 (suc n) ds t v.v v.is (omega arith) ld in
    let o₁ = number_out f 3 (suc (n + pick (sign_at f 2 t) 1 0)) ds u w.v w.is (omega (arith, one)) ld in
    record {
      a = v.v;
      b = w.v;
      c = 0;
      s₂ = sign_at f 2 t;
      s₃ = sign_at f 3 u;
      s₄ = false;
      written = λ k σ. (λ i. placed 2 (v.is i ∷ w.is i ∷ []) (fields k σ 0 0 0));
      signs = λ x y. refl;
      out = λ k σ. (λ i. placed 2 (o i ∷ o₁ i ∷ []) (fields k σ 0 0 0)) ∙ (λ i. fields k σ (out_number f 2 ds (sign_at f 2 t) (suc n) v.v) (out_number f 3 ds (sign_at f 3 u) (suc (n + pick (sign_at f 2 t) 1 0)) w.v) (none_out f 4 ds (suc (n + pick (sign_at f 2 t) 1 0 + pick (sign_at f 3 u) 1 0)) i));
      plain = λ x y. ap₂ (λ (b c : Bool). x ∷ y ∷ b ∷ c ∷ false ∷ []) (sign_out f 2 (suc n) ds t v.v v.is (omega arith) ld) (sign_out f 3 (suc (n + pick (sign_at f 2 t) 1 0)) ds u w.v w.is (omega (arith, one)) ld);
      aligned = λ x y A p q r. (
        refl,
        (
          λ e. p e ∙ sym (named_is f 2 (suc n) ds t v.v v.is (omega arith) ld),
          (refl, (λ e. q e ∙ sym (named_is f 3 (suc n) ds u w.v w.is (omega arith) ld), (refl, tt))),
        ),
      );
    }
operands_of f n ds (t ∷ u ∷ z ∷ []) l h k ln ld =
    let v = value_of_lem (number_at f 2 t) (numbers_from f 3 (u ∷ z ∷ [])) h k in
    let w = value_of_lem (number_at f 3 u) (numbers_from f 4 (z ∷ [])) v.bad v.big in
    let x₃ = value_of_lem (number_at f 4 z) [] w.bad w.big in
    let one = step (sign_at f 2 t) in
    let two = step (sign_at f 3 u) in
    let o = number_out f 2 (suc n) ds t v.v v.is (omega arith) ld in
    let o₁ = number_out f 3 (suc (n + pick (sign_at f 2 t) 1 0)) ds u w.v w.is (omega (arith, one)) ld in
    let o₂ = number_out f 4 (suc (n + pick (sign_at f 2 t) 1 0 + pick (sign_at f 3 u) 1 0)) ds z x₃.v x₃.is (omega (arith, one, two)) ld in
    record {
      a = v.v;
      b = w.v;
      c = x₃.v;
      s₂ = sign_at f 2 t;
      s₃ = sign_at f 3 u;
      s₄ = sign_at f 4 z;
      written = λ k σ. (λ i. placed 2 (v.is i ∷ w.is i ∷ x₃.is i ∷ []) (fields k σ 0 0 0));
      signs = λ x y. refl;
      out = λ k σ. (λ i. placed 2 (o i ∷ o₁ i ∷ o₂ i ∷ []) (fields k σ 0 0 0));
      plain = λ x y. (λ i.
          x ∷ y ∷ sign_out f 2 (suc n) ds t v.v v.is (omega arith) ld i ∷ sign_out f 3 (suc (n + pick (sign_at f 2 t) 1 0)) ds u w.v w.is (omega (arith, one)) ld i
          ∷ sign_out f 4 (suc (n + pick (sign_at f 2 t) 1 0 + pick (sign_at f 3 u) 1 0)) ds z x₃.v x₃.is (omega (arith, one, two)) ld i ∷ []);
      aligned = λ x y A p q r. (
        refl,
        (
          λ e. p e ∙ sym (named_is f 2 (suc n) ds t v.v v.is (omega arith) ld),
          (
            refl,
            (
              λ e. q e ∙ sym (named_is f 3 (suc n) ds u w.v w.is (omega arith) ld),
              (refl, (λ e. r e ∙ sym (named_is f 4 (suc n) ds z x₃.v x₃.is (omega arith) ld), tt)),
            ),
          ),
        ),
      );
    }
operands_of f n ds (t ∷ u ∷ z ∷ y ∷ us) l h k ln ld = absurd (omega arith)
