-- What the operators are made of. A word of width w is a number from 0 to 2 ^ w - 1, and arithmetic is modulo 2 ^ w.
-- Assumes nothing.
use Rattle.std.specs.Prelude.{ℕ, zero, suc, ◌+◌, ◌-◌, ◌*◌, ◌/◌, ◌%◌, ◌^◌, ◌≤◌, Bool, true, false, cond, ltb, ℤ, pos, negsuc, ◌+ℤ◌}
use Rattle.std.specs.Int.Signed.{quot_z, rem_z, shr_z}

-- the widths of words
pub record Width (w : ℕ) : Type 0 where
  pub least : 1 ≤ w
  pub most : w ≤ 64

-- a test as a word of width 1
abbrev pub bit : Bool → ℕ
bit true = 1
bit false = 0

-- a word with every bit turned over
abbrev pub flip : (w a : ℕ) → ℕ
flip w a = (2 ^ w - 1) - a

-- ---- signed words. `pos n` is n, and `negsuc n` is -1 - n

-- a word's signed value: a itself where its sign bit, bit w - 1, is clear, and a - 2 ^ w where it is set
abbrev pub signed_value : (w a : ℕ) → ℤ
signed_value w a = cond (ltb a (2 ^ (w - 1))) (pos a) (negsuc (2 ^ w - suc a))

-- the word of a signed number, in two's complement: the number modulo 2 ^ w
abbrev pub twos_complement : (w : ℕ) → ℤ → ℕ
twos_complement w (pos n) = n % 2 ^ w
twos_complement w (negsuc n) = flip w (n % 2 ^ w)

-- ---- division

-- udiv: by 0 it gives 2 ^ w - 1
abbrev pub quotient : (w a b : ℕ) → ℕ
quotient w a zero = 2 ^ w - 1
quotient w a (suc b) = a / suc b

-- urem: by 0 it gives the dividend, as `n % 0` does
abbrev pub remainder : (a b : ℕ) → ℕ
remainder a b = a % b

-- sdiv truncates; by 0 it gives -1 for a dividend of 0 or more, else 1
abbrev pub sdiv_z : (n d : ℤ) → ℤ
sdiv_z (pos a) (pos zero) = negsuc 0
sdiv_z (negsuc a) (pos zero) = pos 1
sdiv_z (pos a) (pos (suc b)) = quot_z (pos a) (pos (suc b))
sdiv_z (negsuc a) (pos (suc b)) = quot_z (negsuc a) (pos (suc b))
sdiv_z (pos a) (negsuc b) = quot_z (pos a) (negsuc b)
sdiv_z (negsuc a) (negsuc b) = quot_z (negsuc a) (negsuc b)

-- a remainder r moved to the divisor d's sign: r + d where r is not 0 and the signs differ
abbrev pub toward_divisor : (r d : ℤ) → ℤ
toward_divisor (pos zero) d = pos zero
toward_divisor (pos (suc r)) (pos d) = pos (suc r)
toward_divisor (pos (suc r)) (negsuc d) = pos (suc r) +ℤ negsuc d
toward_divisor (negsuc r) (pos d) = negsuc r +ℤ pos d
toward_divisor (negsuc r) (negsuc d) = negsuc r

-- srem takes the dividend's sign, smod the divisor's; by 0 both give the dividend
abbrev pub srem_z : (n d : ℤ) → ℤ
srem_z n d = rem_z n d

abbrev pub smod_z : (n d : ℤ) → ℤ
smod_z n d = toward_divisor (rem_z n d) d

-- ---- shifts of a by b, in words of width w. The test says whether b is below the shift's limit: past it the power is not asked for

abbrev pub shl : Bool → (w a b : ℕ) → ℕ
shl true w a b = a * 2 ^ b % 2 ^ w
shl false w a b = 0

abbrev pub shr : Bool → (a b : ℕ) → ℕ
shr true a b = a / 2 ^ b
shr false a b = 0

-- copies of the sign come in; by w there is nothing else left
abbrev pub sar : Bool → (w a b : ℕ) → ℕ
sar true w a b = twos_complement w (shr_z (signed_value w a) (2 ^ b))
sar false w a b = twos_complement w (shr_z (signed_value w a) (2 ^ w))

-- ---- rotations by r, which is below the width: what leaves at one end is added at the other

abbrev pub rotl : (w a r : ℕ) → ℕ
rotl w a r = a * 2 ^ r % 2 ^ w + a / 2 ^ (w - r)

abbrev pub rotr : (w a r : ℕ) → ℕ
rotr w a r = a / 2 ^ r + a % 2 ^ r * 2 ^ (w - r)

-- ---- ite: a condition holds where it is not 0

abbrev pub choose : (a b c : ℕ) → ℕ
choose zero b c = c
choose (suc a) b c = b
