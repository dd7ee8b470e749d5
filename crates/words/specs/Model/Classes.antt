-- The operators by class: operators of one class read their operands alike in a program, ask the same of the widths, and are loose by
-- the same rule. That a program's operators are what `prog_by` says of their classes is `prog_by_class` of `proofs/Classes.antt`.
-- Assumes nothing.
use Rattle.std.specs.Prelude.{ℕ, ◌*◌, ◌/◌, ◌%◌, ◌^◌, ltb}
use Rattle.std.specs.Int.Bits.{bit_or}
use Rattle.words.specs.Word.{shl}
use Rattle.words.specs.Op.{Op, not, neg, inc, dec, redand, redor, redxor, slice, uext, sext, eq, neq, ult, ulte, ugt, ugte, slt, slte, sgt, sgte, iff, implies, and, or, xor, nand, nor, xnor, add, sub, mul, udiv, urem, sdiv, srem, smod, sll, srl, sra, rol, ror, concat, ite, mask, overflow}
use Rattle.words.specs.Circuit.{circ}

pub data Class : Type 0 where
  turn : Class  -- not, neg, inc, dec: one operand, on all 64 bits; always loose
  wrap : Class  -- iff, implies, nand, nor, xnor, add, sub, mul: two operands, on all 64 bits; always loose
  meet : Class  -- and: on all 64 bits; loose if both operands are
  merge : Class  -- or, xor: on all 64 bits; loose if an operand is
  test : Class  -- redand, redor, redxor, eq, neq and the unsigned comparisons: whole words; the result is one bit
  plain : Class  -- udiv, urem, srl: whole words; the result is of the operands' width
  copy : Class  -- uext: the whole word, as it is
  compare : Class  -- the signed comparisons and the overflow detectors: the operands' low bits; the result is one bit
  low : Class  -- sdiv, srem, smod, sra, rol, ror: the operands' low bits; the result is of their width
  extend : Class  -- sext: the operand's low bits; the result is wider
  cut : Class  -- slice: the whole word, shifted and not cut off above; always loose
  left : Class  -- sll: the whole word, shifted within 64 bits; always loose
  join : Class  -- concat: the whole words, within 64 bits; loose if the high operand is
  pick : Class  -- ite: one of two whole words; loose if one of these is
  clear : Class  -- mask: the operand's low bits

abbrev pub class_of : Op → Class
class_of not = turn
class_of neg = turn
class_of inc = turn
class_of dec = turn
class_of redand = test
class_of redor = test
class_of redxor = test
class_of slice = cut
class_of uext = copy
class_of sext = extend
class_of eq = test
class_of neq = test
class_of ult = test
class_of ulte = test
class_of ugt = test
class_of ugte = test
class_of slt = compare
class_of slte = compare
class_of sgt = compare
class_of sgte = compare
class_of iff = wrap
class_of implies = wrap
class_of and = meet
class_of or = merge
class_of xor = merge
class_of nand = wrap
class_of nor = wrap
class_of xnor = wrap
class_of add = wrap
class_of sub = wrap
class_of mul = wrap
class_of udiv = plain
class_of urem = plain
class_of sdiv = low
class_of srem = low
class_of smod = low
class_of sll = left
class_of srl = plain
class_of sra = low
class_of rol = low
class_of ror = low
class_of concat = join
class_of ite = pick
class_of mask = clear
class_of (overflow o) = compare

-- an operator in a program, from its class and what it is in a circuit: at width 64, as it is, or on low bits
abbrev pub prog_by : Class → Op → (u v a b c : ℕ) → ℕ
prog_by turn op u v a b c = circ op 64 64 a b c
prog_by wrap op u v a b c = circ op 64 64 a b c
prog_by meet op u v a b c = circ op 64 64 a b c
prog_by merge op u v a b c = circ op 64 64 a b c
prog_by test op u v a b c = circ op u v a b c
prog_by plain op u v a b c = circ op u v a b c
prog_by copy op u v a extra c = circ op u v a extra c
prog_by compare op u v a b c = circ op u v (a % 2 ^ u) (b % 2 ^ v) c
prog_by low op u v a b c = circ op u v (a % 2 ^ u) (b % 2 ^ v) c
prog_by extend op u v a extra c = circ op u v (a % 2 ^ u) extra c
prog_by cut op u v a upper lower = a / 2 ^ lower
prog_by left op u v a b c = shl (ltb b u) 64 a b
prog_by join op u v a b c = bit_or (a * 2 ^ v % 2 ^ 64) b
prog_by pick op u v a b c = circ op u v a b c
prog_by clear op u v a b c = circ op u v a b c
