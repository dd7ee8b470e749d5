-- Remainders by a power of two, on which the operators' laws rest: m is any positive modulus, W a wide width and k ≤ W a narrow one.
-- Assumes nothing.
use mathlib.Core.Path.{◌≡◌, sym, ap, ap₂, ◌∙◌}
use Prim.Native.Nat.{ℕ, zero, ◌+◌, ◌-◌, ◌*◌, ◌/◌, ◌%◌, ◌^◌, ◌≤◌, ◌<◌}
use native.Mathlib.Nat.{mod-lt, mod-add-mod, add_assoc, add_comm, add-zero, sub-add_cancel, div-add-mod', add-mul, mul_assoc, mul_comm, mul-div_cancel, mul-add-mod_self_right, mul-mod_left, mod-eq_of_lt}
use lib.Arith.{mod-mul}
use native.Mathlib.Omega.{arith}
use lib.Pow.{pow_pos, pow-add, mod-mod-pow, ones_split, low, ones_lt, le_ones, ones_sub-lt}
use Rattle.words.specs.Word.{flip}

-- ---- products

pub mul_mod_l : (a b m : ℕ) → a * b % m ≡ (a % m) * b % m
mul_mod_l a b m =
    ap (λ (x : ℕ). x * b % m) (sym (div-add-mod' a m))
    ∙ ap (λ (x : ℕ). x % m) (add-mul (a / m * m) (a % m) b ∙ ap (λ (x : ℕ). x + a % m * b) (mul_assoc (a / m) m b ∙ ap (λ (x : ℕ). a / m * x) (mul_comm m b) ∙ sym (mul_assoc (a / m) b m)))
    ∙ mul-add-mod_self_right (a / m * b) m (a % m * b)

pub mul_mod : (a b m : ℕ) → a * b % m ≡ (a % m) * (b % m) % m
mul_mod a b m =
    mul_mod_l a b m ∙ ap (λ (x : ℕ). x % m) (mul_comm (a % m) b) ∙ mul_mod_l b (a % m) m ∙ ap (λ (x : ℕ). x % m) (mul_comm (b % m) (a % m))

-- ---- what is added to both sides may be taken off

-- x and what it lacks to the next multiple of m
round_up : (x m : ℕ) → zero < m → x + (m - x % m) ≡ (x / m + 1) * m
round_up x m h =
    let e : x / m * m + x % m ≡ x = div-add-mod' x m in
    let l : x % m < m = mod-lt x h in
    let s : (x / m + 1) * m ≡ x / m * m + 1 * m = add-mul (x / m) 1 m in
    omega arith

off : (p x m : ℕ) → zero < m → ((p + x) % m + (m - x % m)) % m ≡ p % m
off p x m h =
    mod-add-mod (p + x) m (m - x % m)
    ∙ ap (λ (n : ℕ). n % m) (add_assoc p x (m - x % m) ∙ ap (λ (n : ℕ). p + n) (round_up x m h) ∙ add_comm p ((x / m + 1) * m))
    ∙ mul-add-mod_self_right (x / m + 1) m p

pub add_cancel_mod : (p q x m : ℕ) → zero < m → (p + x) % m ≡ (q + x) % m → p % m ≡ q % m
add_cancel_mod p q x m h e = sym (off p x m h) ∙ ap (λ (n : ℕ). (n + (m - x % m)) % m) e ∙ off q x m h

-- ---- a narrow width k inside a wide one W

module _ (W k : ℕ) (h : k ≤ W) where
  pub pow_split : 2 ^ W ≡ 2 ^ (W - k) * 2 ^ k
  pow_split = ap (λ (n : ℕ). 2 ^ n) (sym (sub-add_cancel h)) ∙ pow-add 2 (W - k) k

  pub mod_narrow : (n : ℕ) → n % 2 ^ W % 2 ^ k ≡ n % 2 ^ k
  mod_narrow n = ap (λ (i : ℕ). n % 2 ^ i % 2 ^ k) (sym (sub-add_cancel h)) ∙ mod-mod-pow n (W - k) k

  pub pow_mod : 2 ^ W % 2 ^ k ≡ 0
  pow_mod = ap (λ (n : ℕ). n % 2 ^ k) pow_split ∙ mul-mod_left (2 ^ (W - k)) (2 ^ k)

  pub ones_mod : (2 ^ W - 1) % 2 ^ k ≡ 2 ^ k - 1
  ones_mod = ap (λ (i : ℕ). (2 ^ i - 1) % 2 ^ k) (sym (sub-add_cancel h)) ∙ ap (λ (n : ℕ). n % 2 ^ k) (ones_split (W - k) k) ∙ low (2 ^ (W - k) - 1) k (ones_lt k)

  -- minus x
  pub neg_mod : (x : ℕ) → x ≤ 2 ^ W → (2 ^ W - x) % 2 ^ k ≡ (2 ^ k - x % 2 ^ k) % 2 ^ k
  neg_mod x hx =
      add_cancel_mod (2 ^ W - x) (2 ^ k - x % 2 ^ k) x (2 ^ k) (pow_pos k)
      (ap (λ (n : ℕ). n % 2 ^ k) (sub-add_cancel hx) ∙ pow_mod
      ∙ sym (ap (λ (n : ℕ). n % 2 ^ k) (add_comm (2 ^ k - x % 2 ^ k) x ∙ round_up x (2 ^ k) (pow_pos k)) ∙ mul-mod_left (x / 2 ^ k + 1) (2 ^ k)))

  -- every bit turned over
  pub flip_mod : (x : ℕ) → x < 2 ^ W → flip W x % 2 ^ k ≡ flip k (x % 2 ^ k)
  flip_mod x hx =
      add_cancel_mod (flip W x) (flip k (x % 2 ^ k)) x (2 ^ k) (pow_pos k)
      (ap (λ (n : ℕ). n % 2 ^ k) (sub-add_cancel (le_ones W hx)) ∙ ones_mod ∙ sym (ap (λ (n : ℕ). n % 2 ^ k) back ∙ mul-add-mod_self_right (x / 2 ^ k) (2 ^ k) (2 ^ k - 1) ∙ mod-eq_of_lt (ones_lt k)))
      ∙ mod-eq_of_lt (ones_sub-lt k (x % 2 ^ k))
    where
      back : flip k (x % 2 ^ k) + x ≡ x / 2 ^ k * 2 ^ k + (2 ^ k - 1)
      back = omega (arith, div-add-mod' x (2 ^ k), mod-lt x (pow_pos k))

-- what is left of x shifted by v within W bits
pub shl_mod : (W v x : ℕ) → v ≤ W → x * 2 ^ v % 2 ^ W ≡ x % 2 ^ (W - v) * 2 ^ v
shl_mod W v x h =
    ap (λ (n : ℕ). x * 2 ^ v % n) (pow_split W v h) ∙ mod-mul (x * 2 ^ v) (pow_pos (W - v)) (pow_pos v)
    ∙ ap₂ (λ (p q : ℕ). p % 2 ^ (W - v) * 2 ^ v + q) (mul-div_cancel x (pow_pos v)) (mul-mod_left x (2 ^ v))
    ∙ add-zero (x % 2 ^ (W - v) * 2 ^ v)
