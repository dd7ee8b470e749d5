-- The operators in a program, on words of 64 bits: `prog op u v a b c`, with operands and widths as in a circuit. A word may have
-- bits past its width. One clause an operator, under the request's sentences in their order; where these say w, the width is u, the
-- first operand's. Assumes nothing.
use Rattle.std.specs.Prelude.{ℕ, ◌+◌, ◌-◌, ◌*◌, ◌/◌, ◌%◌, ◌^◌, not as is_not, ltb, eqb}
use Rattle.std.specs.Int.Bits.{bit_and, bit_or, bit_xor}
use Rattle.words.specs.Word.{bit, flip, shl, choose}
use Rattle.words.specs.Op.{Op, not, neg, inc, dec, redand, redor, redxor, slice, uext, sext, eq, neq, ult, ulte, ugt, ugte, slt, slte, sgt, sgte, iff, implies, and, or, xor, nand, nor, xnor, add, sub, mul, udiv, urem, sdiv, srem, smod, sll, srl, sra, rol, ror, concat, ite, mask, overflow}
use Rattle.words.specs.Circuit.{circ}

abbrev pub prog : Op → (u v a b c : ℕ) → ℕ
-- "All arithmetic is on 64-bit words: add, sub, mul, neg, inc and dec work on whole words modulo 2^64;"
prog add u v a b c = (a + b) % 2 ^ 64
prog sub u v a b c = (a + (2 ^ 64 - b)) % 2 ^ 64
prog mul u v a b c = a * b % 2 ^ 64
prog neg u v a b c = (2 ^ 64 - a) % 2 ^ 64
prog inc u v a b c = (a + 1) % 2 ^ 64
prog dec u v a b c = (a + (2 ^ 64 - 1)) % 2 ^ 64
-- "not, nand, nor, xnor, iff and implies flip all 64 bits;"
prog not u v a b c = flip 64 a
prog nand u v a b c = flip 64 (bit_and a b)
prog nor u v a b c = flip 64 (bit_or a b)
prog xnor u v a b c = flip 64 (bit_xor a b)
prog iff u v a b c = flip 64 (bit_xor a b)
prog implies u v a b c = bit_or (flip 64 a) b
-- "slice only shifts;"
prog slice u v a upper lower = a / 2 ^ lower
-- "sll and concat drop what passes bit 63;", with "Shift limits stay at w; concat ors its low operand in."
prog sll u v a b c = shl (ltb b u) 64 a b
prog concat u v a b c = bit_or (a * 2 ^ v % 2 ^ 64) b
-- "uext copies."
prog uext u v a extra c = a
-- "sext, signed operations (sra too) and rotations read each operand's low bits, to its width, and give a result modulo 2^w;": what
-- they give in a circuit on these low bits. The count of extra bits is a plain number; the result of sext has u + extra bits
prog sext u v a extra c = circ sext u v (a % 2 ^ u) extra c
prog slt u v a b c = circ slt u v (a % 2 ^ u) (b % 2 ^ v) c
prog slte u v a b c = circ slte u v (a % 2 ^ u) (b % 2 ^ v) c
prog sgt u v a b c = circ sgt u v (a % 2 ^ u) (b % 2 ^ v) c
prog sgte u v a b c = circ sgte u v (a % 2 ^ u) (b % 2 ^ v) c
prog sdiv u v a b c = circ sdiv u v (a % 2 ^ u) (b % 2 ^ v) c
prog srem u v a b c = circ srem u v (a % 2 ^ u) (b % 2 ^ v) c
prog smod u v a b c = circ smod u v (a % 2 ^ u) (b % 2 ^ v) c
prog sra u v a b c = circ sra u v (a % 2 ^ u) (b % 2 ^ v) c
prog rol u v a b c = circ rol u v (a % 2 ^ u) (b % 2 ^ v) c
prog ror u v a b c = circ ror u v (a % 2 ^ u) (b % 2 ^ v) c
-- "the rest read whole words.": what they give in a circuit on the whole words
prog redxor u v a b c = circ redxor u v a b c
prog eq u v a b c = circ eq u v a b c
prog neq u v a b c = circ neq u v a b c
prog ult u v a b c = circ ult u v a b c
prog ulte u v a b c = circ ulte u v a b c
prog ugt u v a b c = circ ugt u v a b c
prog ugte u v a b c = circ ugte u v a b c
prog and u v a b c = circ and u v a b c
prog or u v a b c = circ or u v a b c
prog xor u v a b c = circ xor u v a b c
prog udiv u v a b c = circ udiv u v a b c
prog urem u v a b c = circ urem u v a b c
prog srl u v a b c = circ srl u v a b c
-- "A signal byte, redor and an ite condition count as 1 when the whole word is not 0; redand is 1 when it is 2^w - 1."
prog redor u v a b c = bit (is_not (eqb a 0))
prog ite u v a b c = choose a b c
prog redand u v a b c = bit (eqb a (2 ^ u - 1))
-- "kind 56 masks its operand to its width"
prog mask u v a b c = a % 2 ^ u
-- "a program reads the low w bits of each operand", of overflow detectors
prog (overflow o) u v a b c = circ (overflow o) u v (a % 2 ^ u) (b % 2 ^ v) c
