-- Masks. Assumes nothing.
use mathlib.Core.Path.{◌≡◌, sym, ap, ◌∙◌}
use Prim.Native.Nat.{ℕ, ◌-◌, ◌/◌, ◌%◌, ◌^◌, ◌≤◌}
use native.Mathlib.Nat.{add-sub_of_le}
use lib.Pow.{ones_split, high, ones_lt}
use lib.Bits.{bit_and, and_mask}

-- `u64::MAX >> (64 - w)`
pub mask_law : (w : ℕ) → w ≤ 64 → (2 ^ 64 - 1) / 2 ^ (64 - w) ≡ 2 ^ w - 1
mask_law w h =
    ap (λ (n : ℕ). (2 ^ n - 1) / 2 ^ (64 - w)) (sym (add-sub_of_le h)) ∙ ap (λ (n : ℕ). n / 2 ^ (64 - w)) (ones_split w (64 - w))
    ∙ high (2 ^ w - 1) (64 - w) (ones_lt (64 - w))

-- `x & m` at a mask m
pub and_ones : (w x m : ℕ) → m ≡ 2 ^ w - 1 → bit_and x m ≡ x % 2 ^ w
and_ones w x m e = ap (bit_and x) e ∙ and_mask x w
