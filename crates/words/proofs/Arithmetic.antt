-- "Words are 0 to 2^w - 1; arithmetic is modulo 2^w.": that each operator gives such a word is `circ_lt` of `Bounds`. add, mul and inc are remainders by their clauses; what sub, neg
-- and dec take off, a sum brings back. The second width and the third operand are of no matter. Assumes nothing.
use mathlib.Core.Path.{◌≡◌, ap, ◌∙◌}
use Prim.Native.Nat.{ℕ, ◌+◌, ◌-◌, ◌%◌, ◌^◌, ◌<◌}
use native.Mathlib.Nat.{mod-add-mod, add-mod_right, mod-eq_of_lt, mod_self}
use native.Mathlib.Omega.{arith}
use lib.Pow.{pow_pos}
use Rattle.words.specs.Op.{add, sub, neg, inc, dec}
use Rattle.words.specs.Circuit.{circ}

module _ (w v a b c : ℕ) (ha : a < 2 ^ w) where
  pub sub_add : b < 2 ^ w → circ add w v (circ sub w v a b c) b c ≡ a
  sub_add hb =
      let e : a + (2 ^ w - b) + b ≡ a + 2 ^ w = omega arith in
      mod-add-mod (a + (2 ^ w - b)) (2 ^ w) b ∙ ap (λ (n : ℕ). n % 2 ^ w) e ∙ add-mod_right a (2 ^ w) ∙ mod-eq_of_lt ha

  pub neg_add : circ add w v (circ neg w v a b c) a c ≡ 0
  neg_add =
      let e : 2 ^ w - a + a ≡ 2 ^ w = omega arith in
      mod-add-mod (2 ^ w - a) (2 ^ w) a ∙ ap (λ (n : ℕ). n % 2 ^ w) e ∙ mod_self (2 ^ w)

  pub dec_inc : circ inc w v (circ dec w v a b c) b c ≡ a
  dec_inc =
      let e : a + (2 ^ w - 1) + 1 ≡ a + 2 ^ w = omega (arith, pow_pos w) in
      mod-add-mod (a + (2 ^ w - 1)) (2 ^ w) 1 ∙ ap (λ (n : ℕ). n % 2 ^ w) e ∙ add-mod_right a (2 ^ w) ∙ mod-eq_of_lt ha
