-- The operators that a program computes on all 64 bits: at a wide width W, and then cut to k bits, each gives what it gives at width k on
-- operands cut to k bits. Assumes nothing.
use mathlib.Core.Path.{◌≡◌, refl, sym, ap, ◌∙◌}
use Prim.Native.Nat.{ℕ, ◌+◌, ◌-◌, ◌*◌, ◌%◌, ◌^◌, ◌≤◌, ◌<◌}
use native.Mathlib.Nat.{add-mod, le_of_lt, mod-mod, add-mod-mod, mod-eq_of_lt}
use lib.Pow.{ones_lt}
use lib.Bits.{bit_and, bit_or, bit_xor, and_mod, or_mod, xor_mod, and_lt, or_lt, xor_lt}
use Rattle.words.specs.Word.{flip}
use Rattle.words.specs.Op.{Op, not, neg, inc, dec, iff, implies, and, or, xor, nand, nor, xnor, add, sub, mul}
use Rattle.words.specs.Circuit.{circ}
use Rattle.words.proofs.Mod.{mul_mod, mod_narrow, ones_mod, neg_mod, flip_mod}

abbrev pub Narrows : ℕ → ℕ → Op → Type 0
Narrows W k op = (x y : ℕ) → x < 2 ^ W → y < 2 ^ W → circ op W W x y 0 % 2 ^ k ≡ circ op k k (x % 2 ^ k) (y % 2 ^ k) 0

module _ (W k : ℕ) (h : k ≤ W) where
  -- a sum, cut: what is added may be replaced by anything with the same remainder
  sum_mod : (x y y' : ℕ) → y % 2 ^ k ≡ y' % 2 ^ k → (x + y) % 2 ^ W % 2 ^ k ≡ (x % 2 ^ k + y') % 2 ^ k
  sum_mod x y y' e =
      mod_narrow W k h (x + y) ∙ add-mod x y (2 ^ k) ∙ ap (λ (n : ℕ). (x % 2 ^ k + n) % 2 ^ k) e ∙ add-mod-mod (x % 2 ^ k) y' (2 ^ k)

  pub not_narrows : Narrows W k not
  not_narrows x y hx hy = flip_mod W k h x hx

  pub neg_narrows : Narrows W k neg
  neg_narrows x y hx hy = mod_narrow W k h (2 ^ W - x) ∙ neg_mod W k h x (le_of_lt hx)

  pub inc_narrows : Narrows W k inc
  inc_narrows x y hx hy = sum_mod x 1 1 refl

  pub dec_narrows : Narrows W k dec
  dec_narrows x y hx hy = sum_mod x (2 ^ W - 1) (2 ^ k - 1) (ones_mod W k h ∙ sym (mod-eq_of_lt (ones_lt k)))

  pub iff_narrows : Narrows W k iff
  iff_narrows x y hx hy = flip_mod W k h (bit_xor x y) (xor_lt W x y hx hy) ∙ ap (flip k) (xor_mod x y k)

  pub implies_narrows : Narrows W k implies
  implies_narrows x y hx hy = or_mod (flip W x) y k ∙ ap (λ (n : ℕ). bit_or n (y % 2 ^ k)) (flip_mod W k h x hx)

  pub and_narrows : Narrows W k and
  and_narrows x y hx hy = and_mod x y k

  pub or_narrows : Narrows W k or
  or_narrows x y hx hy = or_mod x y k

  pub xor_narrows : Narrows W k xor
  xor_narrows x y hx hy = xor_mod x y k

  pub nand_narrows : Narrows W k nand
  nand_narrows x y hx hy = flip_mod W k h (bit_and x y) (and_lt W x y hx hy) ∙ ap (flip k) (and_mod x y k)

  pub nor_narrows : Narrows W k nor
  nor_narrows x y hx hy = flip_mod W k h (bit_or x y) (or_lt W x y hx hy) ∙ ap (flip k) (or_mod x y k)

  pub xnor_narrows : Narrows W k xnor
  xnor_narrows = iff_narrows

  pub add_narrows : Narrows W k add
  add_narrows x y hx hy = sum_mod x y (y % 2 ^ k) (sym (mod-mod y (2 ^ k)))

  pub sub_narrows : Narrows W k sub
  sub_narrows x y hx hy = sum_mod x (2 ^ W - y) (2 ^ k - y % 2 ^ k) (neg_mod W k h y (le_of_lt hy))

  pub mul_narrows : Narrows W k mul
  mul_narrows x y hx hy = mod_narrow W k h (x * y) ∙ mul_mod x y (2 ^ k)
