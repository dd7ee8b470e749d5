-- The rules for the widths of a word operator's line give what the operator asks: `Widths` of its class, and that the line's width is its result's. For every kind at
-- once: by ranges of kinds, each with a computed test of their classes. Assumes nothing.
use Prim.Native.Nat.{ℕ, suc, ◌+◌, ◌-◌, ◌^◌, ◌≤◌, ◌<◌}
use mathlib.Core.Path.{◌≡◌, refl, sym, ap, ◌∙◌, subst}
use mathlib.Core.Logic.{◌⊎◌, inl, inr, ⊎_elim}
use mathlib.Core.Bool.{Bool, true, false, ◌&&◌, ◌||◌}
use native.Mathlib.Omega.{arith}
use lib.Dec.{T, eqb, leb, ltb}
use borrow.Author.Tests.{eqb-true, leb-true, leb-false, ltb-true, le-leb, lt-leb, ne_eqb}
use Rattle.words.specs.Op.{op_of}
use Rattle.words.specs.Model.Classes.{Class, turn, wrap, meet, merge, test, plain, copy, compare, low, extend, cut, left, join, pick, clear, class_of}
use Rattle.words.specs.Model.Widths.{Widths, width_of}
use Rattle.tables.specs.declared.Ty.{Ty}
use Rattle.tables.specs.Kinds.{row_of, second_class, third_class}
use Rattle.tables.specs.Rules.{fits_unary, fits_binary}
use Rattle.tables.specs.Tables.{unused}
use Rattle.tables.proofs.Laws.{true_of, or_true}
use Rattle.tables.proofs.Every.{at_each}
use Rattle.tables.proofs.Kept.{both}
use Rattle.tables.proofs.Shapes.{BinaryKind}
use Rattle.tables.proofs.Facts.{OneKind, OkUnary, OkBinary}
use Rattle.circuits.specs.Meaning.{op_word}
use Rattle.circuits.specs.Model.Fits.{FitWord}

-- ---- classes that ask alike

-- of the operand's width whatever the second one is
abbrev alone : Class → Bool
alone turn = true
alone clear = true
alone wrap = false
alone meet = false
alone merge = false
alone test = false
alone plain = false
alone copy = false
alone compare = false
alone low = false
alone extend = false
alone cut = false
alone left = false
alone join = false
alone pick = false

-- a test of one word
abbrev tests : Class → Bool
tests test = true
tests turn = false
tests clear = false
tests wrap = false
tests meet = false
tests merge = false
tests plain = false
tests copy = false
tests compare = false
tests low = false
tests extend = false
tests cut = false
tests left = false
tests join = false
tests pick = false

-- a test of two words of one width
abbrev compares : Class → Bool
compares test = true
compares compare = true
compares turn = false
compares clear = false
compares wrap = false
compares meet = false
compares merge = false
compares plain = false
compares copy = false
compares low = false
compares extend = false
compares cut = false
compares left = false
compares join = false
compares pick = false

-- of the width of both
abbrev paired : Class → Bool
paired wrap = true
paired meet = true
paired merge = true
paired plain = true
paired low = true
paired left = true
paired turn = false
paired clear = false
paired test = false
paired copy = false
paired compare = false
paired extend = false
paired cut = false
paired join = false
paired pick = false

-- what the operator asks of the widths, and the result's
pub record Suits (c : Class) (w u v x y : ℕ) : Type 0 where
  pub widths : Widths c u v x y
  pub width : w ≡ width_of c u v x y

module _ (w u v x y : ℕ) where
  suits_alone : (c : Class) → T (alone c) → w ≡ u → Suits c w u v x y
  suits_alone turn t e = record { widths = tt; width = e }
  suits_alone clear t e = record { widths = tt; width = e }
  suits_alone wrap t e = absurd t
  suits_alone meet t e = absurd t
  suits_alone merge t e = absurd t
  suits_alone test t e = absurd t
  suits_alone plain t e = absurd t
  suits_alone copy t e = absurd t
  suits_alone compare t e = absurd t
  suits_alone low t e = absurd t
  suits_alone extend t e = absurd t
  suits_alone cut t e = absurd t
  suits_alone left t e = absurd t
  suits_alone join t e = absurd t
  suits_alone pick t e = absurd t

  suits_test : (c : Class) → T (tests c) → w ≡ 1 → Suits c w u v x y
  suits_test test t e = record { widths = tt; width = e }
  suits_test turn t e = absurd t
  suits_test clear t e = absurd t
  suits_test wrap t e = absurd t
  suits_test meet t e = absurd t
  suits_test merge t e = absurd t
  suits_test plain t e = absurd t
  suits_test copy t e = absurd t
  suits_test compare t e = absurd t
  suits_test low t e = absurd t
  suits_test extend t e = absurd t
  suits_test cut t e = absurd t
  suits_test left t e = absurd t
  suits_test join t e = absurd t
  suits_test pick t e = absurd t

  suits_compare : (c : Class) → T (compares c) → w ≡ 1 → u ≡ v → Suits c w u v x y
  suits_compare test t e q = record { widths = tt; width = e }
  suits_compare compare t e q = record { widths = q; width = e }
  suits_compare turn t e q = absurd t
  suits_compare clear t e q = absurd t
  suits_compare wrap t e q = absurd t
  suits_compare meet t e q = absurd t
  suits_compare merge t e q = absurd t
  suits_compare plain t e q = absurd t
  suits_compare copy t e q = absurd t
  suits_compare low t e q = absurd t
  suits_compare extend t e q = absurd t
  suits_compare cut t e q = absurd t
  suits_compare left t e q = absurd t
  suits_compare join t e q = absurd t
  suits_compare pick t e q = absurd t

  suits_paired : (c : Class) → T (paired c) → w ≡ u → u ≡ v → Suits c w u v x y
  suits_paired wrap t e q = record { widths = q; width = e }
  suits_paired meet t e q = record { widths = q; width = e }
  suits_paired merge t e q = record { widths = q; width = e }
  suits_paired plain t e q = record { widths = tt; width = e }
  suits_paired low t e q = record { widths = q; width = e }
  suits_paired left t e q = record { widths = tt; width = e }
  suits_paired turn t e q = absurd t
  suits_paired clear t e q = absurd t
  suits_paired test t e q = absurd t
  suits_paired copy t e q = absurd t
  suits_paired compare t e q = absurd t
  suits_paired extend t e q = absurd t
  suits_paired cut t e q = absurd t
  suits_paired join t e q = absurd t
  suits_paired pick t e q = absurd t

-- a test computed for the n kinds from i on holds at each
at_kind : (f : ℕ → Bool) (i n k : ℕ) → ((m : ℕ) → m < n → T (f (m + i))) → i ≤ k → k < n + i → T (f k)
at_kind f i n k g h l =
    let m : ℕ = k - i in
    let q : m + i ≡ k = omega arith in
    subst (λ (x : ℕ). T (f x)) q (g m (omega arith))

lt_or_ge : (a b : ℕ) → (a < b) ⊎ (b ≤ a)
lt_or_ge a b = go (leb b a) refl
  where
    go : (t : Bool) → leb b a ≡ t → (a < b) ⊎ (b ≤ a)
    go true e = inr (leb-true b a e)
    go false e = inl (leb-false b a e)

-- ---- operators of one word

module _ (k w u x y : ℕ) where
  one_low : 11 ≤ k → k ≤ 14 → fits_unary k w u x y ≡ true → Suits (class_of (op_of k)) w u 64 x y
  one_low h l r =
      suits_alone w u 64 x y (class_of (op_of k)) (at_kind (λ (n : ℕ). alone (class_of (op_of n))) 11 4 k (at_each (λ (m : ℕ). alone (class_of (op_of (m + 11)))) 4 tt) h (omega arith))
      (eqb-true w u (rw (le-leb k 14 l) at r))

  one_mask : k ≡ 56 → fits_unary k w u x y ≡ true → Suits (class_of (op_of k)) w u 64 x y
  one_mask e r = subst (λ (n : ℕ). Suits (class_of (op_of n)) w u 64 x y) (sym e) (record { widths = tt; width = eqb-true w u (subst (λ (n : ℕ). fits_unary n w u x y ≡ true) e r) })

  one_test : 15 ≤ k → k ≤ 17 → fits_unary k w u x y ≡ true → Suits (class_of (op_of k)) w u 64 x y
  one_test h l r =
      suits_test w u 64 x y (class_of (op_of k)) (at_kind (λ (n : ℕ). tests (class_of (op_of n))) 15 3 k (at_each (λ (m : ℕ). tests (class_of (op_of (m + 15)))) 3 tt) h (omega arith))
      (eqb-true w 1 (rw (lt-leb k 14 (omega arith), ne_eqb k 56 (λ e. omega arith), le-leb k 17 l) at r))

  one_cut : k ≡ 18 → fits_unary k w u x y ≡ true → Suits (class_of (op_of k)) w u 64 x y
  one_cut e r =
      let q : fits_unary 18 w u x y ≡ true = subst (λ (n : ℕ). fits_unary n w u x y ≡ true) e r in
      let h₁ = both (leb y x) _ q in
      let h₂ = both (ltb x u) _ h₁.1 in
      let a : y ≤ x = leb-true y x h₁.0 in
      let b : x < u = ltb-true x u h₂.0 in
      let c : w + y ≡ suc x = eqb-true (w + y) (suc x) h₂.1 in
      subst (λ (n : ℕ). Suits (class_of (op_of n)) w u 64 x y) (sym e) (record { widths = (a, b); width = omega arith })

  one_copy : k ≡ 19 → w ≤ 64 → fits_unary k w u x y ≡ true → Suits (class_of (op_of k)) w u 64 x y
  one_copy e h r =
      let q : w ≡ u + x = eqb-true w (u + x) (subst (λ (n : ℕ). fits_unary n w u x y ≡ true) e r) in
      subst (λ (n : ℕ). Suits (class_of (op_of n)) w u 64 x y) (sym e) (record { widths = omega arith; width = q })

  one_extend : k ≡ 20 → w ≤ 64 → fits_unary k w u x y ≡ true → Suits (class_of (op_of k)) w u 64 x y
  one_extend e h r =
      let q : w ≡ u + x = eqb-true w (u + x) (subst (λ (n : ℕ). fits_unary n w u x y ≡ true) e r) in
      subst (λ (n : ℕ). Suits (class_of (op_of n)) w u 64 x y) (sym e) (record { widths = omega arith; width = q })

  one_range : 11 ≤ k → k ≤ 20 → w ≤ 64 → fits_unary k w u x y ≡ true → Suits (class_of (op_of k)) w u 64 x y
  one_range h l m r =
      ⊎_elim (λ a. one_low h (omega arith) r)
      (λ a. ⊎_elim (λ b. one_test a (omega arith) r)
      (λ b. ⊎_elim (λ c. one_cut (omega arith) r) (λ c. ⊎_elim (λ d. one_copy (omega arith) m r) (λ d. one_extend (omega arith) m r) (lt_or_ge k 20)) (lt_or_ge k 19)) (lt_or_ge k 18)) (lt_or_ge k 15)

  pub suits_one : (p : Bool) → OneKind p k → w ≤ 64 → fits_unary k w u x y ≡ true → Suits (class_of (op_of k)) w u 64 x y
  suits_one false h m r = one_range h.0 h.1 m r
  suits_one true (inl h) m r = one_range h.0 h.1 m r
  suits_one true (inr h) m r = one_mask h r

-- ---- operators of two words

module _ (k w u v x y : ℕ) where
  two_compare : T (compares (class_of (op_of k))) → (leb k 30 || leb 57 k) ≡ true → fits_binary k w u v ≡ true → Suits (class_of (op_of k)) w u v x y
  two_compare t e r =
      let q = both (eqb w 1) (eqb v u) (rw e at r) in
      suits_compare w u v x y (class_of (op_of k)) t (eqb-true w 1 q.0) (sym (eqb-true v u q.1))

  two_bits : 31 ≤ k → k ≤ 32 → fits_binary k w u v ≡ true → Suits (class_of (op_of k)) w u v x y
  two_bits h l r =
      let q = both (eqb w 1) (eqb u 1 && eqb v 1) (rw (lt-leb k 30 (omega arith), lt-leb 57 k (omega arith), le-leb k 32 l) at r) in
      let q₂ = both (eqb u 1) (eqb v 1) q.1 in
      let eu = eqb-true u 1 q₂.0 in
      suits_paired w u v x y (class_of (op_of k)) (at_kind (λ (n : ℕ). paired (class_of (op_of n))) 31 2 k (at_each (λ (m : ℕ). paired (class_of (op_of (m + 31)))) 2 tt) h (omega arith))
      (eqb-true w 1 q.0 ∙ sym eu) (eu ∙ sym (eqb-true v 1 q₂.1))

  two_paired : 33 ≤ k → k ≤ 51 → fits_binary k w u v ≡ true → Suits (class_of (op_of k)) w u v x y
  two_paired h l r =
      let q = both (eqb u w) (eqb v w) (rw (lt-leb k 30 (omega arith), lt-leb 57 k (omega arith), lt-leb k 32 (omega arith), le-leb k 51 l) at r) in
      let eu = eqb-true u w q.0 in
      suits_paired w u v x y (class_of (op_of k)) (at_kind (λ (n : ℕ). paired (class_of (op_of n))) 33 19 k (at_each (λ (m : ℕ). paired (class_of (op_of (m + 33)))) 19 tt) h (omega arith))
      (sym eu) (eu ∙ sym (eqb-true v w q.1))

  two_join : k ≡ 52 → w ≤ 64 → fits_binary k w u v ≡ true → Suits (class_of (op_of k)) w u v x y
  two_join e h r =
      let q : w ≡ u + v = eqb-true w (u + v) (subst (λ (n : ℕ). fits_binary n w u v ≡ true) e r) in
      subst (λ (n : ℕ). Suits (class_of (op_of n)) w u v x y) (sym e) (record { widths = omega arith; width = q })

  pub suits_two : BinaryKind k → w ≤ 64 → fits_binary k w u v ≡ true → Suits (class_of (op_of k)) w u v x y
  suits_two (inl h) m r =
      ⊎_elim (λ a. two_compare (at_kind (λ (n : ℕ). compares (class_of (op_of n))) 23 8 k (at_each (λ (m : ℕ). compares (class_of (op_of (m + 23)))) 8 tt) h.0 (omega arith)) (rw (le-leb k 30 (omega arith))) r)
      (λ a. ⊎_elim (λ b. two_bits a (omega arith) r) (λ b. ⊎_elim (λ c. two_paired b (omega arith) r) (λ c. two_join (omega arith) m r) (lt_or_ge k 52)) (lt_or_ge k 33)) (lt_or_ge k 31)
  suits_two (inr h) m r =
      two_compare (at_kind (λ (n : ℕ). compares (class_of (op_of n))) 57 7 k (at_each (λ (m : ℕ). compares (class_of (op_of (m + 57)))) 7 tt) h.0 (omega arith)) (rw (le-leb 57 k h.0, or_true)) r

-- ---- lines that keep the rules

pub fit_unary : (p : Bool) (t a : Ty) (k x y : ℕ) → t.w ≤ 64 → OkUnary p t k a x y → Suits (class_of (op_of k)) t.w a.w 64 x y
fit_unary p t a k x y h ok = suits_one k t.w a.w x y p ok.kind h ok.rule

pub fit_binary : (t a b : Ty) (k x y : ℕ) → t.w ≤ 64 → OkBinary t k a b → Suits (class_of (op_of k)) t.w a.w b.w x y
fit_binary t a b k x y h ok = suits_two k t.w a.w b.w x y ok.kind h ok.rule

pub least_one : (p : Bool) (k : ℕ) → OneKind p k → 11 ≤ k
least_one false k h = h.0
least_one true k (inl h) = h.0
least_one true k (inr h) = omega arith

-- the plain numbers of an operator of one word are at most 64
zero_at : (k x : ℕ) → unused k x ≡ true → k ≡ 0 → x ≡ 0
zero_at k x e z = eqb-true x 0 (subst (λ (n : ℕ). unused n x ≡ true) z e)

abbrev bare? : ℕ → Bool
bare? k = eqb (second_class (row_of k)) 0 && eqb (third_class (row_of k)) 0

module _ (k w u x y : ℕ) (s₂ : unused (second_class (row_of k)) x ≡ true) (s₃ : unused (third_class (row_of k)) y ≡ true) where
  bare : bare? k ≡ true → (x ≤ 64) × (y ≤ 64)
  bare e =
      let q = both (eqb (second_class (row_of k)) 0) _ e in
      let a = zero_at (second_class (row_of k)) x s₂ (eqb-true (second_class (row_of k)) 0 q.0) in
      let b = zero_at (third_class (row_of k)) y s₃ (eqb-true (third_class (row_of k)) 0 q.1) in
      (omega arith, omega arith)

  extra : eqb (third_class (row_of k)) 0 ≡ true → u + x ≤ 64 → (x ≤ 64) × (y ≤ 64)
  extra e h = let b = zero_at (third_class (row_of k)) y s₃ (eqb-true (third_class (row_of k)) 0 e) in (omega arith, omega arith)

  plain_range : 11 ≤ k → k ≤ 20 → u ≤ 64 → w ≤ 64 → fits_unary k w u x y ≡ true → (x ≤ 64) × (y ≤ 64)
  unfolding row_of
  plain_range h l hu m r =
      ⊎_elim (λ a. bare (true_of (bare? k) (at_kind bare? 11 7 k (at_each (λ (n : ℕ). bare? (n + 11)) 7 tt) h (omega arith))))
      (λ a. ⊎_elim (λ b. let e : k ≡ 18 = omega arith in let s = (subst (λ (n : ℕ). Suits (class_of (op_of n)) w u 64 x y) e (one_cut k w u x y e r)).widths in (omega (arith, s.0, s.1), omega (arith, s.0, s.1)))
      (λ b. ⊎_elim (λ c. let e : k ≡ 19 = omega arith in extra (ap (λ (n : ℕ). eqb (third_class (row_of n)) 0) e) (subst (λ (n : ℕ). Suits (class_of (op_of n)) w u 64 x y) e (one_copy k w u x y e m r)).widths)
      (λ c. let e : k ≡ 20 = omega arith in extra (ap (λ (n : ℕ). eqb (third_class (row_of n)) 0) e) (subst (λ (n : ℕ). Suits (class_of (op_of n)) w u 64 x y) e (one_extend k w u x y e m r)).widths)
      (lt_or_ge k 20)) (lt_or_ge k 19)) (lt_or_ge k 18)

  plain_mask : k ≡ 56 → (x ≤ 64) × (y ≤ 64)
  unfolding row_of
  plain_mask e = bare (ap bare? e)

pub plain_one : (p : Bool) (t a : Ty) (k x y : ℕ) → t.w ≤ 64 → a.w ≤ 64 → OkUnary p t k a x y → (x < 2 ^ 64) × (y < 2 ^ 64)
plain_one p t a k x y m hu ok = let h = go p ok.kind in (omega (arith, h.0), omega (arith, h.1))
  where
    go : (p : Bool) → OneKind p k → (x ≤ 64) × (y ≤ 64)
    go false h = plain_range k t.w a.w x y ok.spare₂ ok.spare₃ h.0 h.1 hu m ok.rule
    go true (inl h) = plain_range k t.w a.w x y ok.spare₂ ok.spare₃ h.0 h.1 hu m ok.rule
    go true (inr h) = plain_mask k t.w a.w x y ok.spare₂ ok.spare₃ h

-- ---- what an operator asks, along equations

pub fit_as : {p : Bool} {k w u v a b c w' u' v' a' b' : ℕ} → w ≡ w' → u ≡ u' → v ≡ v' → a ≡ a' → b ≡ b' → FitWord p k w' u' v' a' b' c → FitWord p k w u v a b c
fit_as ew eu ev ea eb h = rw (ew, eu, ev, ea, eb) h

pub op_as : (p : Bool) (k c : ℕ) {u v a b r u' v' a' b' : ℕ} → r ≡ op_word p k u v a b c → u ≡ u' → v ≡ v' → a ≡ a' → b ≡ b' → r ≡ op_word p k u' v' a' b' c
op_as p k c e eu ev ea eb = e ∙ (λ i. op_word p k (eu i) (ev i) (ea i) (eb i) c)
