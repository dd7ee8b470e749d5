-- Bounds. In a circuit an operator's result is a word of its width, `circ_lt`; in a program it is a word of 64 bits, `prog_lt`; and on the
-- same operands the circuit's word is the low bits of the program's, `masked`. Assumes nothing.
use mathlib.Core.Path.{◌≡◌, refl, sym, ap, ◌∙◌, subst}
use mathlib.Core.Bool.{Bool, true, false, not as is_not}
use Prim.Native.Nat.{ℕ, zero, suc, ◌+◌, ◌-◌, ◌*◌, ◌/◌, ◌%◌, ◌^◌, ◌≤◌, ◌<◌}
use native.Mathlib.Nat.{mod-lt, mod-le, div-le_self, lt_of_le_of_lt, lt_of_lt_of_le, le-add_right, le_of_lt, le_refl, zero-lt-suc, add_comm, sub-add_cancel, add-sub_of_le}
use native.Mathlib.Omega.{arith}
use lib.Dec.{lit<, lit≤, eqb, ltb, leb}
use lib.Count.{ones_in}
use lib.Arith.{digits_lt}
use lib.Pow.{pow_pos, pow_mono, pow-add, ones_lt, ones_sub-lt, shr_lt}
use lib.Bits.{bit_and, bit_or, bit_xor, and_lt, or_lt, xor_lt}
use lib.IntN.{ℤ, pos, negsuc}
use lib.Signed.{shr_z, lt_z, le_z}
use Rattle.words.specs.Word.{Width, bit, flip, twos_complement, signed_value, sdiv_z, srem_z, smod_z, quotient, shl, shr, sar, rotl, rotr, choose}
use Rattle.words.specs.Op.{Op, not, neg, inc, dec, redand, redor, redxor, slice, uext, sext, eq, neq, ult, ulte, ugt, ugte, slt, slte, sgt, sgte, iff, implies, and, or, xor, nand, nor, xnor, add, sub, mul, udiv, urem, sdiv, srem, smod, sll, srl, sra, rol, ror, concat, ite, mask, overflow}
use Rattle.words.specs.Overflow.{overflows}
use Rattle.words.specs.Circuit.{circ}
use Rattle.words.specs.Program.{prog}
use Rattle.words.specs.Model.Classes.{Class, turn, wrap, meet, merge, test, plain, copy, compare, low, extend, cut, left, join, pick, clear, class_of}
use Rattle.words.specs.Model.Widths.{Widths, width_of}
use Rattle.words.specs.Model.Loose.{loose, need₁, need₂, need₃}
use Rattle.words.proofs.Stands.{low_bits, itself}
use Rattle.words.proofs.Mod.{shl_mod}
use Rattle.words.proofs.Agree.{agree_lines}

-- ---- the parts

bit_lt : (t : Bool) → bit t < 2
bit_lt true = lit< tt
bit_lt false = lit< tt

pub complement_lt : (w : ℕ) (z : ℤ) → twos_complement w z < 2 ^ w
complement_lt w (pos n) = mod-lt n (pow_pos w)
complement_lt w (negsuc n) = ones_sub-lt w (n % 2 ^ w)

quotient_lt : (w a b : ℕ) → a < 2 ^ w → quotient w a b < 2 ^ w
quotient_lt w a zero h = ones_lt w
quotient_lt w a (suc b) h = lt_of_le_of_lt (div-le_self a (suc b)) h

shl_lt : (t : Bool) (w a b : ℕ) → shl t w a b < 2 ^ w
shl_lt true w a b = mod-lt (a * 2 ^ b) (pow_pos w)
shl_lt false w a b = pow_pos w

shifted_lt : (t : Bool) (w a b : ℕ) → a < 2 ^ w → shr t a b < 2 ^ w
shifted_lt true w a b h = lt_of_le_of_lt (div-le_self a (2 ^ b)) h
shifted_lt false w a b h = pow_pos w

sar_lt : (t : Bool) (w a b : ℕ) → sar t w a b < 2 ^ w
sar_lt true w a b = complement_lt w (shr_z (signed_value w a) (2 ^ b))
sar_lt false w a b = complement_lt w (shr_z (signed_value w a) (2 ^ w))

-- two runs of bits, side by side
cat_lt : (j k w x y : ℕ) → j + k ≡ w → x < 2 ^ j → y < 2 ^ k → x * 2 ^ k + y < 2 ^ w
cat_lt j k w x y e h l = subst (λ (n : ℕ). x * 2 ^ k + y < n) (sym (pow-add 2 j k) ∙ ap (λ (n : ℕ). 2 ^ n) e) (digits_lt h l)

rotl_lt : (w a r : ℕ) → a < 2 ^ w → r ≤ w → rotl w a r < 2 ^ w
rotl_lt w a r h l =
    subst (λ (n : ℕ). n + a / 2 ^ (w - r) < 2 ^ w) (sym (shl_mod w r a l))
    (cat_lt (w - r) r w (a % 2 ^ (w - r)) (a / 2 ^ (w - r)) (sub-add_cancel l) (mod-lt a (pow_pos (w - r))) (shr_lt r (w - r) (subst (λ (n : ℕ). a < 2 ^ n) (sym (add-sub_of_le l)) h)))

rotr_lt : (w a r : ℕ) → a < 2 ^ w → r ≤ w → rotr w a r < 2 ^ w
rotr_lt w a r h l =
    subst (λ (n : ℕ). n < 2 ^ w) (add_comm (a % 2 ^ r * 2 ^ (w - r)) (a / 2 ^ r))
    (cat_lt r (w - r) w (a % 2 ^ r) (a / 2 ^ r) (add-sub_of_le l) (mod-lt a (pow_pos r)) (shr_lt (w - r) r (subst (λ (n : ℕ). a < 2 ^ n) (sym (sub-add_cancel l)) h)))

choose_lt : (w a b c : ℕ) → b < 2 ^ w → c < 2 ^ w → choose a b c < 2 ^ w
choose_lt w zero b c hb hc = hc
choose_lt w (suc a) b c hb hc = hb

-- ---- the result's width is a width

one : Width 1
one = record { least = le_refl 1; most = zero-lt-suc 63 }

sum_width : (u n : ℕ) → Width u → u + n ≤ 64 → Width (u + n)
sum_width u n k h = record { least = let l : 1 ≤ u = k.least in omega arith; most = h }

pub result_width : (q : Class) (u v b c : ℕ) → Width u → Widths q u v b c → Width (width_of q u v b c)
result_width turn u v b c k g = k
result_width wrap u v b c k g = k
result_width meet u v b c k g = k
result_width merge u v b c k g = k
result_width test u v b c k g = one
result_width plain u v b c k g = k
result_width copy u v b c k g = sum_width u b k g
result_width compare u v b c k g = one
result_width low u v b c k g = k
result_width extend u v b c k g = sum_width u b k g
result_width cut u v b c k g = let m : u ≤ 64 = k.most in record { least = omega arith; most = omega arith }
result_width left u v b c k g = k
result_width join u v b c k g = sum_width u v k g
result_width pick u v b c k g = g
result_width clear u v b c k g = k

-- ---- a circuit's words

module _ (u v a b c : ℕ) (k : Width u) (ha : a < 2 ^ u) (hb : b < 2 ^ v) (hc : c < 2 ^ v) where
  same : u ≡ v → b < 2 ^ u
  same g = subst (λ (n : ℕ). b < 2 ^ n) (sym g) hb

  amount : b % u ≤ u
  amount = le_of_lt (mod-lt b k.least)

  pub circ_lt : (op : Op) → Widths (class_of op) u v b c → circ op u v a b c < 2 ^ width_of (class_of op) u v b c
  circ_lt not g = ones_sub-lt u a
  circ_lt neg g = mod-lt (2 ^ u - a) (pow_pos u)
  circ_lt inc g = mod-lt (a + 1) (pow_pos u)
  circ_lt dec g = mod-lt (a + (2 ^ u - 1)) (pow_pos u)
  circ_lt redand g = bit_lt (eqb a (2 ^ u - 1))
  circ_lt redor g = bit_lt (is_not (eqb a 0))
  circ_lt redxor g = mod-lt (ones_in 64 a) (zero-lt-suc 1)
  circ_lt slice g = mod-lt (a / 2 ^ c) (pow_pos (suc b - c))
  circ_lt uext g = lt_of_lt_of_le ha (pow_mono (le-add_right u b))
  circ_lt sext g = complement_lt (u + b) (signed_value u a)
  circ_lt eq g = bit_lt (eqb a b)
  circ_lt neq g = bit_lt (is_not (eqb a b))
  circ_lt ult g = bit_lt (ltb a b)
  circ_lt ulte g = bit_lt (leb a b)
  circ_lt ugt g = bit_lt (ltb b a)
  circ_lt ugte g = bit_lt (leb b a)
  circ_lt slt g = bit_lt (lt_z (signed_value u a) (signed_value u b))
  circ_lt slte g = bit_lt (le_z (signed_value u a) (signed_value u b))
  circ_lt sgt g = bit_lt (lt_z (signed_value u b) (signed_value u a))
  circ_lt sgte g = bit_lt (le_z (signed_value u b) (signed_value u a))
  circ_lt iff g = ones_sub-lt u (bit_xor a b)
  circ_lt implies g = or_lt u (flip u a) b (ones_sub-lt u a) (same g)
  circ_lt and g = and_lt u a b ha (same g)
  circ_lt or g = or_lt u a b ha (same g)
  circ_lt xor g = xor_lt u a b ha (same g)
  circ_lt nand g = ones_sub-lt u (bit_and a b)
  circ_lt nor g = ones_sub-lt u (bit_or a b)
  circ_lt xnor g = ones_sub-lt u (bit_xor a b)
  circ_lt add g = mod-lt (a + b) (pow_pos u)
  circ_lt sub g = mod-lt (a + (2 ^ u - b)) (pow_pos u)
  circ_lt mul g = mod-lt (a * b) (pow_pos u)
  circ_lt udiv g = quotient_lt u a b ha
  circ_lt urem g = lt_of_le_of_lt (mod-le a b) ha
  circ_lt sdiv g = complement_lt u (sdiv_z (signed_value u a) (signed_value u b))
  circ_lt srem g = complement_lt u (srem_z (signed_value u a) (signed_value u b))
  circ_lt smod g = complement_lt u (smod_z (signed_value u a) (signed_value u b))
  circ_lt sll g = shl_lt (ltb b u) u a b
  circ_lt srl g = shifted_lt (ltb b u) u a b ha
  circ_lt sra g = sar_lt (ltb b u) u a b
  circ_lt rol g = rotl_lt u a (b % u) ha amount
  circ_lt ror g = rotr_lt u a (b % u) ha amount
  circ_lt concat g = cat_lt u v (u + v) a b refl ha hb
  circ_lt ite g = choose_lt v a b c hb hc
  circ_lt mask g = mod-lt a (pow_pos u)
  circ_lt (overflow o) g = bit_lt (overflows o u a b)

  pub masked : b < 2 ^ 64 → (op : Op) → Widths (class_of op) u v b c → prog op u v a b c % 2 ^ width_of (class_of op) u v b c ≡ circ op u v a b c
  masked fb op g =
      low_bits (loose (class_of op) false false false) (width_of (class_of op) u v b c) (prog op u v a b c) (circ_lt op g)
      (agree_lines u v a b c a b c k.most ha hb hc (lt_of_lt_of_le ha (pow_mono k.most)) fb false false false op g
      (itself (need₁ (class_of op)) u a) (itself (need₂ (class_of op)) v b) (itself (need₃ (class_of op)) v c))

-- ---- a program's words have 64 bits

wide : {w x : ℕ} → w ≤ 64 → x < 2 ^ w → x < 2 ^ 64
wide h l = lt_of_lt_of_le l (pow_mono h)

sixty_four : Width 64
sixty_four = record { least = zero-lt-suc 63; most = le_refl 64 }

module _ (u v a b c : ℕ) (k : Width u) (ha : a < 2 ^ 64) (hb : b < 2 ^ 64) (hc : c < 2 ^ 64) where
  bit64 : (t : Bool) → bit t < 2 ^ 64
  bit64 t = lt_of_lt_of_le (bit_lt t) (lit≤ tt)

  wrapped : (op : Op) → Widths (class_of op) 64 64 b c → width_of (class_of op) 64 64 b c ≡ 64 → circ op 64 64 a b c < 2 ^ 64
  wrapped op g e = subst (λ (n : ℕ). circ op 64 64 a b c < 2 ^ n) e (circ_lt 64 64 a b c sixty_four ha hb hc op g)

  div64 : (n : ℕ) → quotient u a n < 2 ^ 64
  div64 zero = wide k.most (ones_lt u)
  div64 (suc n) = lt_of_le_of_lt (div-le_self a (suc n)) ha

  pub prog_lt : (op : Op) → Widths (class_of op) u v b c → prog op u v a b c < 2 ^ 64
  prog_lt not g = wrapped not tt refl
  prog_lt neg g = wrapped neg tt refl
  prog_lt inc g = wrapped inc tt refl
  prog_lt dec g = wrapped dec tt refl
  prog_lt redand g = bit64 (eqb a (2 ^ u - 1))
  prog_lt redor g = bit64 (is_not (eqb a 0))
  prog_lt redxor g = lt_of_lt_of_le (mod-lt (ones_in 64 a) (zero-lt-suc 1)) (lit≤ tt)
  prog_lt slice g = lt_of_le_of_lt (div-le_self a (2 ^ c)) ha
  prog_lt uext g = ha
  prog_lt sext g = wide g (complement_lt (u + b) (signed_value u (a % 2 ^ u)))
  prog_lt eq g = bit64 (eqb a b)
  prog_lt neq g = bit64 (is_not (eqb a b))
  prog_lt ult g = bit64 (ltb a b)
  prog_lt ulte g = bit64 (leb a b)
  prog_lt ugt g = bit64 (ltb b a)
  prog_lt ugte g = bit64 (leb b a)
  prog_lt slt g = bit64 (lt_z (signed_value u (a % 2 ^ u)) (signed_value u (b % 2 ^ v)))
  prog_lt slte g = bit64 (le_z (signed_value u (a % 2 ^ u)) (signed_value u (b % 2 ^ v)))
  prog_lt sgt g = bit64 (lt_z (signed_value u (b % 2 ^ v)) (signed_value u (a % 2 ^ u)))
  prog_lt sgte g = bit64 (le_z (signed_value u (b % 2 ^ v)) (signed_value u (a % 2 ^ u)))
  prog_lt iff g = wrapped iff refl refl
  prog_lt implies g = wrapped implies refl refl
  prog_lt and g = wrapped and refl refl
  prog_lt or g = wrapped or refl refl
  prog_lt xor g = wrapped xor refl refl
  prog_lt nand g = wrapped nand refl refl
  prog_lt nor g = wrapped nor refl refl
  prog_lt xnor g = wrapped xnor refl refl
  prog_lt add g = wrapped add refl refl
  prog_lt sub g = wrapped sub refl refl
  prog_lt mul g = wrapped mul refl refl
  prog_lt udiv g = div64 b
  prog_lt urem g = lt_of_le_of_lt (mod-le a b) ha
  prog_lt sdiv g = wide k.most (complement_lt u (sdiv_z (signed_value u (a % 2 ^ u)) (signed_value u (b % 2 ^ v))))
  prog_lt srem g = wide k.most (complement_lt u (srem_z (signed_value u (a % 2 ^ u)) (signed_value u (b % 2 ^ v))))
  prog_lt smod g = wide k.most (complement_lt u (smod_z (signed_value u (a % 2 ^ u)) (signed_value u (b % 2 ^ v))))
  prog_lt sll g = shl_lt (ltb b u) 64 a b
  prog_lt srl g = shifted_lt (ltb b u) 64 a b ha
  prog_lt sra g = wide k.most (sar_lt (ltb (b % 2 ^ v) u) u (a % 2 ^ u) (b % 2 ^ v))
  prog_lt rol g = wide k.most (rotl_lt u (a % 2 ^ u) (b % 2 ^ v % u) (mod-lt a (pow_pos u)) (le_of_lt (mod-lt (b % 2 ^ v) k.least)))
  prog_lt ror g = wide k.most (rotr_lt u (a % 2 ^ u) (b % 2 ^ v % u) (mod-lt a (pow_pos u)) (le_of_lt (mod-lt (b % 2 ^ v) k.least)))
  prog_lt concat g = or_lt 64 (a * 2 ^ v % 2 ^ 64) b (mod-lt (a * 2 ^ v) (pow_pos 64)) hb
  prog_lt ite g = choose_lt 64 a b c hb hc
  prog_lt mask g = wide k.most (mod-lt a (pow_pos u))
  prog_lt (overflow o) g = bit64 (overflows o u (a % 2 ^ u) (b % 2 ^ v))
