-- Rotations and the count of set bits. Assumes nothing.
use mathlib.Core.Path.{◌≡◌, sym, ap, ap₂, ◌∙◌, subst}
use Prim.Native.Nat.{ℕ, zero, suc, ◌+◌, ◌-◌, ◌*◌, ◌/◌, ◌%◌, ◌^◌, ◌<◌}
use native.Mathlib.Nat.{mod-lt, mod-eq_of_lt, div-eq_of_lt, le_of_lt, add-zero, mul-one, add-sub_of_le, sub-zero, sub-le, sub-add_cancel, add_comm, div-one, mod-one, zero-mul}
use native.Mathlib.Numerals.{add-one}
use lib.Arith.{lt-one, sub-sub_self}
use lib.Pow.{shr_lt}
use lib.Bits.{bit_or, or_shifted, or_shifted_r}
use lib.Count.{ones, ones_in, ones_step}
use Rattle.words.specs.Word.{Width, rotl, rotr}
use Rattle.words.proofs.Mod.{mod_narrow, shl_mod}

-- the amount is below the width
pub amount : (w b : ℕ) → Width w → b % w < w
amount w b k = mod-lt b k.least

pub rotl_zero : (w a r : ℕ) → a < 2 ^ w → r ≡ 0 → a ≡ rotl w a r
rotl_zero w a r h e =
    sym (ap (rotl w a) e ∙ ap₂ (λ (p q : ℕ). p + a / 2 ^ q) (ap (λ (n : ℕ). n % 2 ^ w) (mul-one a) ∙ mod-eq_of_lt h) (sub-zero w)
    ∙ ap (λ (n : ℕ). a + n) (div-eq_of_lt h) ∙ add-zero a)

-- `low(w, a << r) | (a >> (w - r))`, where l is the left operand
pub rotl_law : (w a r l : ℕ) → Width w → a < 2 ^ w → r < w → l ≡ a * 2 ^ r % 2 ^ 64 % 2 ^ w → bit_or l (a / 2 ^ (w - r)) ≡ rotl w a r
rotl_law w a r l k h lt e =
    ap (λ (n : ℕ). bit_or n (a / 2 ^ (w - r))) (e ∙ mod_narrow 64 w k.most (a * 2 ^ r) ∙ shl_mod w r a (le_of_lt lt))
    ∙ or_shifted (a % 2 ^ (w - r)) r (a / 2 ^ (w - r)) (shr_lt r (w - r) (subst (λ (n : ℕ). a < 2 ^ n) (sym (add-sub_of_le (le_of_lt lt))) h))
    ∙ ap (λ (n : ℕ). n + a / 2 ^ (w - r)) (sym (shl_mod w r a (le_of_lt lt)))

pub rotr_zero : (w a r : ℕ) → r ≡ 0 → a ≡ rotr w a r
rotr_zero w a r e =
    sym (ap (rotr w a) e ∙ ap₂ (λ (p q : ℕ). p + q * 2 ^ (w - 0)) (div-one a) (mod-one a) ∙ ap (λ (n : ℕ). a + n) (zero-mul (2 ^ (w - 0))) ∙ add-zero a)

-- `(a >> r) | low(w, a << (w - r))`, where l is the right operand
pub rotr_law : (w a r l : ℕ) → Width w → a < 2 ^ w → r < w → l ≡ a * 2 ^ (w - r) % 2 ^ 64 % 2 ^ w → bit_or (a / 2 ^ r) l ≡ rotr w a r
rotr_law w a r l k h lt e =
    ap (bit_or (a / 2 ^ r)) (e ∙ mod_narrow 64 w k.most (a * 2 ^ (w - r)) ∙ shl_mod w (w - r) a (sub-le w r) ∙ ap (λ (n : ℕ). a % 2 ^ n * 2 ^ (w - r)) (sub-sub_self (le_of_lt lt)))
    ∙ or_shifted_r (a % 2 ^ r) (w - r) (a / 2 ^ r) (shr_lt (w - r) r (subst (λ (n : ℕ). a < 2 ^ n) (sym (sub-add_cancel (le_of_lt lt))) h))
    ∙ add_comm (a % 2 ^ r * 2 ^ (w - r)) (a / 2 ^ r)

-- a number below 2 ^ d has no set bits past the first d
pub ones_in_lem : (d n : ℕ) → n < 2 ^ d → ones_in d n ≡ ones n
unfolding ones_in ones
ones_in_lem zero n h = ap ones (sym (lt-one h))
ones_in_lem (suc d) n h = ap (λ (x : ℕ). n % 2 + x) (ones_in_lem d (n / 2) (shr_lt d 1 (subst (λ (x : ℕ). n < 2 ^ x) (sym (add-one d)) h))) ∙ sym (ones_step n)
