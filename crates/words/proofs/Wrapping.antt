-- What an operator gives is the word of its whole result: arithmetic is modulo 2 ^ w, signed or not. Assumes nothing.
use mathlib.Core.Path.{◌≡◌, refl, sym, ap, ap₂, ◌∙◌, subst}
use mathlib.Core.Bool.{Bool, true, false, cond}
use Prim.Native.Nat.{ℕ, zero, suc, ◌+◌, ◌-◌, ◌*◌, ◌/◌, ◌%◌, ◌^◌, ◌≤◌, ◌<◌}
use native.Mathlib.Nat.{mod-lt, mod-eq_of_lt, mod_self, add-mod, add-mod_right, mod-eq-sub-mod, mul-mod_left, mul_comm, mul-add, div-add-mod', zero-mod, sub-zero}
use native.Mathlib.Omega.{arith}
use borrow.Author.Tests.{ltb-true, ltb-false, leb-true, leb-false}
use lib.Dec.{ltb, leb}
use lib.Pow.{pow_pos}
use lib.IntN.{ℤ, pos, negsuc, neg_ℤ, sub_ℕ, ◌+ℤ◌, ◌-ℤ◌, ◌*ℤ◌}
use Rattle.words.specs.Word.{Width, flip, signed_value, twos_complement}
use Rattle.words.specs.Op.{Op, add, sub, mul, sdiv, Detector, uaddo, saddo, usubo, ssubo, umulo, smulo, sdivo}
use Rattle.words.specs.Overflow.{whole_result}
use Rattle.words.specs.Circuit.{circ}
use Rattle.words.proofs.Signed.{half, signed_low, signed_high}
use Rattle.words.proofs.Divide.{div_else}
use Rattle.words.proofs.Division.{not_zero}

-- ---- modulo M

module _ (M : ℕ) (hM : 0 < M) where
  once : (n : ℕ) → M ≤ n → n < M + M → n % M ≡ n - M
  once n h l = mod-eq-sub-mod h ∙ mod-eq_of_lt (omega arith)

  -- k and n make a multiple of M: n is the opposite of k
  opposite : (k n : ℕ) → (k + n) % M ≡ 0 → n % M ≡ (M - k % M) % M
  opposite k n e = go (leb M (k % M + n % M)) refl
    where
      hk : k % M < M
      hk = mod-lt k hM

      hn : n % M < M
      hn = mod-lt n hM

      sum : (k % M + n % M) % M ≡ 0
      sum = sym (add-mod k n M) ∙ e

      go : (t : Bool) → leb M (k % M + n % M) ≡ t → n % M ≡ (M - k % M) % M
      go true q =
          let h = leb-true M (k % M + n % M) q in
          let z : k % M + n % M - M ≡ 0 = sym (once (k % M + n % M) h (omega (arith, hk, hn))) ∙ sum in
          let f : n % M ≡ M - k % M = omega (arith, hk, hn) in
          f ∙ sym (mod-eq_of_lt (subst (λ (x : ℕ). x < M) f hn))
      go false q =
          let h = leb-false M (k % M + n % M) q in
          let z : k % M + n % M ≡ 0 = sym (mod-eq_of_lt h) ∙ sum in
          let zn : n % M ≡ 0 = omega arith in
          let zk : k % M ≡ 0 = omega arith in
          zn ∙ sym (ap (λ (x : ℕ). (M - x) % M) zk ∙ ap (λ (x : ℕ). x % M) (sub-zero M) ∙ mod_self M)

-- ---- the words of a difference, of an opposite

module _ (w : ℕ) where
  -- a less s, which is at most 2 ^ w
  less_word : (a s : ℕ) → s ≤ 2 ^ w → twos_complement w (sub_ℕ a s) ≡ (a + (2 ^ w - s)) % 2 ^ w
  less_word a s h = go (ltb a s) refl
    where
      go : (t : Bool) → ltb a s ≡ t → twos_complement w (cond t (negsuc (s - suc a)) (pos (a - s))) ≡ (a + (2 ^ w - s)) % 2 ^ w
      go true e =
          let l = ltb-true a s e in
          ap (flip w) (mod-eq_of_lt (omega arith)) ∙ omega arith ∙ sym (mod-eq_of_lt (omega arith))
      go false e =
          let l = ltb-false a s e in
          let q : a - s + 2 ^ w ≡ a + (2 ^ w - s) = omega arith in
          sym (add-mod_right (a - s) (2 ^ w)) ∙ ap (λ (n : ℕ). n % 2 ^ w) q

  minus_word : (a b : ℕ) → b ≤ 2 ^ w → twos_complement w (pos a -ℤ pos b) ≡ (a + (2 ^ w - b)) % 2 ^ w
  minus_word a zero h = let q : a + 0 + 2 ^ w ≡ a + (2 ^ w - 0) = omega arith in sym (add-mod_right (a + 0) (2 ^ w)) ∙ ap (λ (n : ℕ). n % 2 ^ w) q
  minus_word a (suc b) h = less_word a (suc b) h

  opposite_word : (k : ℕ) → twos_complement w (neg_ℤ (pos k)) ≡ (2 ^ w - k % 2 ^ w) % 2 ^ w
  opposite_word zero = zero-mod (2 ^ w) ∙ sym (ap (λ (x : ℕ). (2 ^ w - x) % 2 ^ w) (zero-mod (2 ^ w)) ∙ ap (λ (x : ℕ). x % 2 ^ w) (sub-zero (2 ^ w)) ∙ mod_self (2 ^ w))
  opposite_word (suc n) =
      let l : n % 2 ^ w < 2 ^ w = mod-lt n (pow_pos w) in
      let d : n / 2 ^ w * 2 ^ w + n % 2 ^ w ≡ n = div-add-mod' n (2 ^ w) in
      let q : suc n + (2 ^ w - 1 - n % 2 ^ w) ≡ n / 2 ^ w * 2 ^ w + 2 ^ w = omega arith in
      sym (mod-eq_of_lt (omega arith))
      ∙ opposite (2 ^ w) (pow_pos w) (suc n) (2 ^ w - 1 - n % 2 ^ w) (ap (λ (x : ℕ). x % 2 ^ w) q ∙ add-mod_right (n / 2 ^ w * 2 ^ w) (2 ^ w) ∙ mul-mod_left (n / 2 ^ w) (2 ^ w))

-- ---- signed words

-- a word is itself, or less than 0 by 2 ^ w - x
data Sign (w x : ℕ) : Type 0 where
  plus : signed_value w x ≡ pos x → x < 2 ^ (w - 1) → Sign w x
  minus : signed_value w x ≡ negsuc (2 ^ w - suc x) → 2 ^ (w - 1) ≤ x → Sign w x

sign : (w x : ℕ) → Sign w x
sign w x = go (ltb x (2 ^ (w - 1))) refl
  where
    go : (t : Bool) → ltb x (2 ^ (w - 1)) ≡ t → Sign w x
    go true e = let l = ltb-true x (2 ^ (w - 1)) e in plus (signed_low w x l) l
    go false e = let l = ltb-false x (2 ^ (w - 1)) e in minus (signed_high w x l) l

module _ (w a b : ℕ) (k : Width w) (ha : a < 2 ^ w) (hb : b < 2 ^ w) where
  two : 2 ^ w ≡ 2 ^ (w - 1) * 2
  two = half w k.least

  -- the opposite of a word below 0
  back : {x : ℕ} → x < 2 ^ w → suc (2 ^ w - suc x) ≡ 2 ^ w - x
  back h = omega arith

  sum_word : Sign w a → Sign w b → twos_complement w (signed_value w a +ℤ signed_value w b) ≡ (a + b) % 2 ^ w
  sum_word (plus ea la) (plus eb lb) = ap₂ (λ (n d : ℤ). twos_complement w (n +ℤ d)) ea eb
  sum_word (plus ea la) (minus eb lb) =
      let q : a + (2 ^ w - suc (2 ^ w - suc b)) ≡ a + b = omega arith in
      ap₂ (λ (n d : ℤ). twos_complement w (n +ℤ d)) ea eb ∙ less_word w a (suc (2 ^ w - suc b)) (omega arith) ∙ ap (λ (n : ℕ). n % 2 ^ w) q
  sum_word (minus ea la) (plus eb lb) =
      let q : b + (2 ^ w - suc (2 ^ w - suc a)) ≡ a + b = omega arith in
      ap₂ (λ (n d : ℤ). twos_complement w (n +ℤ d)) ea eb ∙ less_word w b (suc (2 ^ w - suc a)) (omega arith) ∙ ap (λ (n : ℕ). n % 2 ^ w) q
  sum_word (minus ea la) (minus eb lb) =
      ap₂ (λ (n d : ℤ). twos_complement w (n +ℤ d)) ea eb ∙ ap (flip w) (mod-eq_of_lt (omega (arith, two)))
      ∙ omega (arith, two) ∙ sym (once (2 ^ w) (pow_pos w) (a + b) (omega (arith, two)) (omega arith))

  difference_word : Sign w a → Sign w b → twos_complement w (signed_value w a -ℤ signed_value w b) ≡ (a + (2 ^ w - b)) % 2 ^ w
  difference_word (plus ea la) (plus eb lb) = ap₂ (λ (n d : ℤ). twos_complement w (n -ℤ d)) ea eb ∙ minus_word w a b (omega arith)
  difference_word (plus ea la) (minus eb lb) = ap₂ (λ (n d : ℤ). twos_complement w (n -ℤ d)) ea eb ∙ ap (λ (n : ℕ). (a + n) % 2 ^ w) (back hb)
  difference_word (minus ea la) (plus eb lb) = ap₂ (λ (n d : ℤ). twos_complement w (n -ℤ d)) ea eb ∙ go b lb
    where
      go : (y : ℕ) → y < 2 ^ (w - 1) → twos_complement w (negsuc (2 ^ w - suc a) -ℤ pos y) ≡ (a + (2 ^ w - y)) % 2 ^ w
      go zero l =
          let q : 0 + (2 ^ w - suc (2 ^ w - suc a)) + 2 ^ w ≡ a + (2 ^ w - 0) = omega arith in
          less_word w 0 (suc (2 ^ w - suc a)) (omega arith) ∙ sym (add-mod_right (0 + (2 ^ w - suc (2 ^ w - suc a))) (2 ^ w)) ∙ ap (λ (n : ℕ). n % 2 ^ w) q
      go (suc y) l =
          ap (flip w) (mod-eq_of_lt (omega (arith, two))) ∙ omega (arith, two) ∙ sym (once (2 ^ w) (pow_pos w) (a + (2 ^ w - suc y)) (omega (arith, two)) (omega arith))
  difference_word (minus ea la) (minus eb lb) =
      let q : suc (2 ^ w - suc b) + (2 ^ w - suc (2 ^ w - suc a)) ≡ a + (2 ^ w - b) = omega arith in
      ap₂ (λ (n d : ℤ). twos_complement w (n -ℤ d)) ea eb ∙ less_word w (suc (2 ^ w - suc b)) (suc (2 ^ w - suc a)) (omega arith) ∙ ap (λ (n : ℕ). n % 2 ^ w) q

  -- a product with an opposite
  turned : (x y : ℕ) → y < 2 ^ w → x * y % 2 ^ w ≡ (2 ^ w - x * (2 ^ w - y) % 2 ^ w) % 2 ^ w
  turned x y h =
      let e : 2 ^ w - y + y ≡ 2 ^ w = omega arith in
      opposite (2 ^ w) (pow_pos w) (x * (2 ^ w - y)) (x * y) (ap (λ (n : ℕ). n % 2 ^ w) (sym (mul-add x (2 ^ w - y) y) ∙ ap (λ (n : ℕ). x * n) e) ∙ mul-mod_left x (2 ^ w))

  product_word : Sign w a → Sign w b → twos_complement w (signed_value w a *ℤ signed_value w b) ≡ a * b % 2 ^ w
  product_word (plus ea la) (plus eb lb) = ap₂ (λ (n d : ℤ). twos_complement w (n *ℤ d)) ea eb
  product_word (plus ea la) (minus eb lb) =
      ap₂ (λ (n d : ℤ). twos_complement w (n *ℤ d)) ea eb ∙ opposite_word w (a * suc (2 ^ w - suc b)) ∙ ap (λ (n : ℕ). (2 ^ w - a * n % 2 ^ w) % 2 ^ w) (back hb) ∙ sym (turned a b hb)
  product_word (minus ea la) (plus eb lb) =
      ap₂ (λ (n d : ℤ). twos_complement w (n *ℤ d)) ea eb ∙ opposite_word w (suc (2 ^ w - suc a) * b)
      ∙ ap (λ (n : ℕ). (2 ^ w - n % 2 ^ w) % 2 ^ w) (mul_comm (suc (2 ^ w - suc a)) b ∙ ap (λ (n : ℕ). b * n) (back ha)) ∙ sym (turned b a ha) ∙ ap (λ (n : ℕ). n % 2 ^ w) (mul_comm b a)
  product_word (minus ea la) (minus eb lb) =
      ap₂ (λ (n d : ℤ). twos_complement w (n *ℤ d)) ea eb ∙ ap₂ (λ (n d : ℕ). n * d % 2 ^ w) (back ha) (back hb)
      ∙ turned (2 ^ w - a) (2 ^ w - b) (omega (arith, pow_pos (w - 1)))
      ∙ ap (λ (n : ℕ). (2 ^ w - n % 2 ^ w) % 2 ^ w) (ap (λ (n : ℕ). (2 ^ w - a) * n) twice ∙ mul_comm (2 ^ w - a) b) ∙ sym (turned b a ha) ∙ ap (λ (n : ℕ). n % 2 ^ w) (mul_comm b a)
    where
      twice : 2 ^ w - (2 ^ w - b) ≡ b
      twice = omega arith

-- ---- the operators that detectors watch

abbrev pub watched : Detector → Op
watched uaddo = add
watched saddo = add
watched usubo = sub
watched ssubo = sub
watched umulo = mul
watched smulo = mul
watched sdivo = sdiv

-- by 0 there is no quotient, though sdiv gives a word
abbrev pub HasResult : Detector → (b : ℕ) → Type 0
HasResult uaddo b = Unit {0}
HasResult saddo b = Unit {0}
HasResult usubo b = Unit {0}
HasResult ssubo b = Unit {0}
HasResult umulo b = Unit {0}
HasResult smulo b = Unit {0}
HasResult sdivo b = b ≡ 0 → ⊥

pub watched_word : (o : Detector) (w v a b c : ℕ) → Width w → a < 2 ^ w → b < 2 ^ w → HasResult o b → circ (watched o) w v a b c ≡ twos_complement w (whole_result o w a b)
watched_word uaddo w v a b c k ha hb f = refl
watched_word saddo w v a b c k ha hb f = sym (sum_word w a b k ha hb (sign w a) (sign w b))
watched_word usubo w v a b c k ha hb f = sym (minus_word w a b (omega arith))
watched_word ssubo w v a b c k ha hb f = sym (difference_word w a b k ha hb (sign w a) (sign w b))
watched_word umulo w v a b c k ha hb f = refl
watched_word smulo w v a b c k ha hb f = sym (product_word w a b k ha hb (sign w a) (sign w b))
watched_word sdivo w v a b c k ha hb f = ap (twos_complement w) (div_else (signed_value w a) (signed_value w b) (not_zero w v c k hb f))
