-- The operators in a circuit. In `circ op u v a b c`, a, b and c are the operands in the order of the line, and u and v are the
-- widths of the first and the second; where these have to be the same, u is the width of both. An operand that is a plain number (a
-- slice's bounds, a count of extra bits) stands as it is written, and one that the operator does not have is 0. Assumes nothing.
use Rattle.std.specs.Prelude.{ℕ, suc, ◌+◌, ◌-◌, ◌*◌, ◌/◌, ◌%◌, ◌^◌, not as is_not, ltb, leb, eqb}
use Rattle.std.specs.Int.Bits.{bit_and, bit_or, bit_xor}
use Rattle.std.specs.Int.Count.{ones_in}
use Rattle.std.specs.Int.Signed.{lt_z, le_z}
use Rattle.words.specs.Word.{bit, flip, signed_value, twos_complement, quotient, remainder, sdiv_z, srem_z, smod_z, shl, shr, sar, rotl, rotr, choose}
use Rattle.words.specs.Op.{Op, not, neg, inc, dec, redand, redor, redxor, slice, uext, sext, eq, neq, ult, ulte, ugt, ugte, slt, slte, sgt, sgte, iff, implies, and, or, xor, nand, nor, xnor, add, sub, mul, udiv, urem, sdiv, srem, smod, sll, srl, sra, rol, ror, concat, ite, mask, overflow}
use Rattle.words.specs.Overflow.{overflows}

-- redxor counts the set bits of all 64 places: past its width a word has none
abbrev pub circ : Op → (u v a b c : ℕ) → ℕ
circ not u v a b c = flip u a
circ neg u v a b c = (2 ^ u - a) % 2 ^ u
circ inc u v a b c = (a + 1) % 2 ^ u
circ dec u v a b c = (a + (2 ^ u - 1)) % 2 ^ u
circ redand u v a b c = bit (eqb a (2 ^ u - 1))
circ redor u v a b c = bit (is_not (eqb a 0))
circ redxor u v a b c = ones_in 64 a % 2
circ slice u v a upper lower = a / 2 ^ lower % 2 ^ (suc upper - lower)
circ uext u v a extra c = a
circ sext u v a extra c = twos_complement (u + extra) (signed_value u a)
circ eq u v a b c = bit (eqb a b)
circ neq u v a b c = bit (is_not (eqb a b))
circ ult u v a b c = bit (ltb a b)
circ ulte u v a b c = bit (leb a b)
circ ugt u v a b c = bit (ltb b a)
circ ugte u v a b c = bit (leb b a)
circ slt u v a b c = bit (lt_z (signed_value u a) (signed_value u b))
circ slte u v a b c = bit (le_z (signed_value u a) (signed_value u b))
circ sgt u v a b c = bit (lt_z (signed_value u b) (signed_value u a))
circ sgte u v a b c = bit (le_z (signed_value u b) (signed_value u a))
circ iff u v a b c = flip u (bit_xor a b)
circ implies u v a b c = bit_or (flip u a) b
circ and u v a b c = bit_and a b
circ or u v a b c = bit_or a b
circ xor u v a b c = bit_xor a b
circ nand u v a b c = flip u (bit_and a b)
circ nor u v a b c = flip u (bit_or a b)
circ xnor u v a b c = flip u (bit_xor a b)
circ add u v a b c = (a + b) % 2 ^ u
circ sub u v a b c = (a + (2 ^ u - b)) % 2 ^ u
circ mul u v a b c = a * b % 2 ^ u
circ udiv u v a b c = quotient u a b
circ urem u v a b c = remainder a b
circ sdiv u v a b c = twos_complement u (sdiv_z (signed_value u a) (signed_value u b))
circ srem u v a b c = twos_complement u (srem_z (signed_value u a) (signed_value u b))
circ smod u v a b c = twos_complement u (smod_z (signed_value u a) (signed_value u b))
circ sll u v a b c = shl (ltb b u) u a b
circ srl u v a b c = shr (ltb b u) a b
circ sra u v a b c = sar (ltb b u) u a b
circ rol u v a b c = rotl u a (b % u)
circ ror u v a b c = rotr u a (b % u)
circ concat u v a b c = a * 2 ^ v + b
circ ite u v a b c = choose a b c
circ mask u v a b c = a % 2 ^ u
circ (overflow o) u v a b c = bit (overflows o u a b)
