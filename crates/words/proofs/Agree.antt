-- The translator's step, for every operator: where each operand's word stands for the circuit's word, exactly if its use needs it clean and
-- else as its line's flag says, the result stands for the circuit's result as `loose` says. One law, `agree_lines`. Assumes nothing.
use mathlib.Core.Path.{◌≡◌, refl, sym, ap, ap₂, ◌∙◌, subst}
use mathlib.Core.Bool.{Bool, true, false, ◌&&◌, ◌||◌}
use Prim.Native.Nat.{ℕ, zero, suc, ◌+◌, ◌-◌, ◌*◌, ◌/◌, ◌%◌, ◌^◌, ◌≤◌, ◌<◌}
use native.Mathlib.Nat.{mod-eq_of_lt, zero-mod, lt_of_le_of_lt}
use native.Mathlib.Omega.{arith}
use lib.Dec.{ltb}
use lib.Pow.{pow_pos, shl_exact, field, mod-pow-add, high, low as low_digits}
use lib.Bits.{bit_and, bit_or, and_le_l, and_le_r, or_shifted}
use Rattle.words.specs.Word.{shl, choose}
use Rattle.words.specs.Op.{Op, not, neg, inc, dec, redand, redor, redxor, slice, uext, sext, eq, neq, ult, ulte, ugt, ugte, slt, slte, sgt, sgte, iff, implies, and, or, xor, nand, nor, xnor, add, sub, mul, udiv, urem, sdiv, srem, smod, sll, srl, sra, rol, ror, concat, ite, mask, overflow}
use Rattle.words.specs.Circuit.{circ}
use Rattle.words.specs.Program.{prog}
use Rattle.words.specs.Model.Classes.{class_of}
use Rattle.words.specs.Model.Widths.{Widths, width_of}
use Rattle.words.specs.Model.Loose.{loose, need₁, need₂, need₃, at_use}
use Rattle.words.proofs.Mod.{mul_mod_l, mod_narrow, shl_mod}
use Rattle.words.proofs.Whole.{Narrows, not_narrows, neg_narrows, inc_narrows, dec_narrows, iff_narrows, implies_narrows, and_narrows, or_narrows, xor_narrows, nand_narrows, nor_narrows, xnor_narrows, add_narrows, sub_narrows, mul_narrows}
use Rattle.words.proofs.Stands.{Stands, low_bits, exact}

-- ---- the laws of single classes

-- a slice: bits that stay below the operand's width
slice_law : (l : Bool) (u x a hi lo : ℕ) → lo ≤ hi → hi < u → a < 2 ^ u → Stands l u x a → x / 2 ^ lo % 2 ^ (suc hi - lo) ≡ a / 2 ^ lo % 2 ^ (suc hi - lo)
slice_law l u x a hi lo h k ha e =
    sym (field x (suc hi - lo) lo)
    ∙ ap (λ (n : ℕ). n / 2 ^ lo) (sym (mod_narrow u (suc hi - lo + lo) fits x) ∙ ap (λ (n : ℕ). n % 2 ^ (suc hi - lo + lo)) (low_bits l u x ha e))
    ∙ field a (suc hi - lo) lo
  where
    fits : suc hi - lo + lo ≤ u
    fits = omega arith

shl_law : (t l : Bool) (u x a b : ℕ) → u ≤ 64 → a < 2 ^ u → Stands l u x a → shl t 64 x b % 2 ^ u ≡ shl t u a b
shl_law true l u x a b h ha e =
    mod_narrow 64 u h (x * 2 ^ b) ∙ mul_mod_l x (2 ^ b) (2 ^ u) ∙ ap (λ (n : ℕ). n * 2 ^ b % 2 ^ u) (low_bits l u x ha e)
shl_law false l u x a b h ha e = zero-mod (2 ^ u)

join_law : (l : Bool) (u v x a b : ℕ) → u + v ≤ 64 → a < 2 ^ u → b < 2 ^ v → Stands l u x a → Stands l (u + v) (bit_or (x * 2 ^ v % 2 ^ 64) b) (a * 2 ^ v + b)
join_law true u v x a b h ha hb e =
    ap (λ (n : ℕ). bit_or n b % 2 ^ (u + v)) (shl_mod 64 v x (omega arith))
    ∙ ap (λ (n : ℕ). n % 2 ^ (u + v)) (or_shifted (x % 2 ^ (64 - v)) v b hb)
    ∙ mod-pow-add (x % 2 ^ (64 - v) * 2 ^ v + b) u v
    ∙ ap₂ (λ (p q : ℕ). p % 2 ^ u * 2 ^ v + q) (high (x % 2 ^ (64 - v)) v hb) (low_digits (x % 2 ^ (64 - v)) v hb)
    ∙ ap (λ (n : ℕ). n * 2 ^ v + b) (mod_narrow (64 - v) u (omega arith) x ∙ e)
join_law false u v x a b h ha hb e =
    ap (λ (n : ℕ). bit_or (n * 2 ^ v % 2 ^ 64) b) e ∙ ap (λ (n : ℕ). bit_or n b) (shl_exact u v 64 ha h) ∙ or_shifted a v b hb

pick_law : (l₂ l₃ : Bool) (v a b c y z : ℕ) → b < 2 ^ v → c < 2 ^ v → Stands l₂ v y b → Stands l₃ v z c → Stands (l₂ || l₃) v (choose a y z) (choose a b c)
pick_law true l₃ v zero b c y z hb hc e f = low_bits l₃ v z hc f
pick_law true l₃ v (suc a) b c y z hb hc e f = e
pick_law false true v zero b c y z hb hc e f = f
pick_law false true v (suc a) b c y z hb hc e f = low_bits false v y hb e
pick_law false false v zero b c y z hb hc e f = f
pick_law false false v (suc a) b c y z hb hc e f = e

-- ---- every operator, on words x, y and z that stand for a, b and c

module _ (u v a b c x y z : ℕ) (h : u ≤ 64) (ha : a < 2 ^ u) (hb : b < 2 ^ v) (hc : c < 2 ^ v) (hx : x < 2 ^ 64) (hy : y < 2 ^ 64) where
  low₁ : (l : Bool) → Stands l u x a → x % 2 ^ u ≡ a
  low₁ l e = low_bits l u x ha e

  low₂ : (l : Bool) → u ≡ v → Stands l v y b → y % 2 ^ u ≡ b
  low₂ l g e = ap (λ (n : ℕ). y % 2 ^ n) g ∙ low_bits l v y hb e

  -- all 64 bits of one operand, or of two: the low bits are right
  turned : (op : Op) → Narrows 64 u op → (l : Bool) → Stands l u x a → circ op 64 64 x 0 0 % 2 ^ u ≡ circ op u u a 0 0
  turned op n l e = n x 0 hx (pow_pos 64) ∙ ap₂ (λ (p q : ℕ). circ op u u p q 0) (low₁ l e) (zero-mod (2 ^ u))

  wrapped : (op : Op) → Narrows 64 u op → (l₁ l₂ : Bool) → u ≡ v → Stands l₁ u x a → Stands l₂ v y b → circ op 64 64 x y 0 % 2 ^ u ≡ circ op u u a b 0
  wrapped op n l₁ l₂ g e₁ e₂ = n x y hx hy ∙ ap₂ (λ (p q : ℕ). circ op u u p q 0) (low₁ l₁ e₁) (low₂ l₂ g e₂)

  -- an `and` with one clean operand has no more bits than it
  met : (l₁ l₂ : Bool) → u ≡ v → Stands l₁ u x a → Stands l₂ v y b → Stands (l₁ && l₂) u (bit_and x y) (bit_and a b)
  met true true g e₁ e₂ = wrapped and (and_narrows 64 u h) true true g e₁ e₂
  met true false g e₁ e₂ = exact u (lt_of_le_of_lt (and_le_r x y) (rw (e₂, g) hb)) (wrapped and (and_narrows 64 u h) true false g e₁ e₂)
  met false l₂ g e₁ e₂ = exact u (lt_of_le_of_lt (and_le_l x y) (rw e₁ ha)) (wrapped and (and_narrows 64 u h) false l₂ g e₁ e₂)

  -- an `or` or an `xor` of clean operands is clean
  merged : (op : Op) → Narrows 64 u op → circ op 64 64 a b 0 ≡ circ op u u a b 0 → (l₁ l₂ : Bool) → u ≡ v → Stands l₁ u x a → Stands l₂ v y b
      → Stands (l₁ || l₂) u (circ op 64 64 x y 0) (circ op u u a b 0)
  merged op n d true l₂ g e₁ e₂ = wrapped op n true l₂ g e₁ e₂
  merged op n d false true g e₁ e₂ = wrapped op n false true g e₁ e₂
  merged op n d false false g e₁ e₂ = ap₂ (λ (p q : ℕ). circ op 64 64 p q 0) e₁ e₂ ∙ d

  -- clean operands, as whole words or by their low bits: the same word
  plainly : (op : Op) → x ≡ a → y ≡ b → circ op u v x y 0 ≡ circ op u v a b 0
  plainly op e₁ e₂ = ap₂ (λ (p q : ℕ). circ op u v p q 0) e₁ e₂

  lowered : (op : Op) → x ≡ a → y ≡ b → circ op u v (x % 2 ^ u) (y % 2 ^ v) 0 ≡ circ op u v a b 0
  lowered op e₁ e₂ = ap₂ (λ (p q : ℕ). circ op u v p q 0) (low₁ false e₁) (low_bits false v y hb e₂)

  module _ (l₁ l₂ l₃ : Bool) where
    pub agree_lines : (op : Op) → Widths (class_of op) u v b c
        → Stands (at_use (need₁ (class_of op)) l₁) u x a → Stands (at_use (need₂ (class_of op)) l₂) v y b → Stands (at_use (need₃ (class_of op)) l₃) v z c
        → Stands (loose (class_of op) l₁ l₂ l₃) (width_of (class_of op) u v b c) (prog op u v x y z) (circ op u v a b c)
    agree_lines not g e₁ e₂ e₃ = turned not (not_narrows 64 u h) l₁ e₁
    agree_lines neg g e₁ e₂ e₃ = turned neg (neg_narrows 64 u h) l₁ e₁
    agree_lines inc g e₁ e₂ e₃ = turned inc (inc_narrows 64 u h) l₁ e₁
    agree_lines dec g e₁ e₂ e₃ = turned dec (dec_narrows 64 u h) l₁ e₁
    agree_lines redand g e₁ e₂ e₃ = plainly redand e₁ e₂
    agree_lines redor g e₁ e₂ e₃ = plainly redor e₁ e₂
    agree_lines redxor g e₁ e₂ e₃ = plainly redxor e₁ e₂
    agree_lines slice g e₁ e₂ e₃ = ap (λ (n : ℕ). x / 2 ^ n % 2 ^ (suc b - c)) e₃ ∙ slice_law l₁ u x a b c g.0 g.1 ha e₁
    agree_lines uext g e₁ e₂ e₃ = plainly uext e₁ e₂
    agree_lines sext g e₁ e₂ e₃ = ap₂ (λ (p q : ℕ). circ sext u v p q 0) (low₁ false e₁) e₂
    agree_lines eq g e₁ e₂ e₃ = plainly eq e₁ e₂
    agree_lines neq g e₁ e₂ e₃ = plainly neq e₁ e₂
    agree_lines ult g e₁ e₂ e₃ = plainly ult e₁ e₂
    agree_lines ulte g e₁ e₂ e₃ = plainly ulte e₁ e₂
    agree_lines ugt g e₁ e₂ e₃ = plainly ugt e₁ e₂
    agree_lines ugte g e₁ e₂ e₃ = plainly ugte e₁ e₂
    agree_lines slt g e₁ e₂ e₃ = lowered slt e₁ e₂
    agree_lines slte g e₁ e₂ e₃ = lowered slte e₁ e₂
    agree_lines sgt g e₁ e₂ e₃ = lowered sgt e₁ e₂
    agree_lines sgte g e₁ e₂ e₃ = lowered sgte e₁ e₂
    agree_lines iff g e₁ e₂ e₃ = wrapped iff (iff_narrows 64 u h) l₁ l₂ g e₁ e₂
    agree_lines implies g e₁ e₂ e₃ = wrapped implies (implies_narrows 64 u h) l₁ l₂ g e₁ e₂
    agree_lines and g e₁ e₂ e₃ = met l₁ l₂ g e₁ e₂
    agree_lines or g e₁ e₂ e₃ = merged or (or_narrows 64 u h) refl l₁ l₂ g e₁ e₂
    agree_lines xor g e₁ e₂ e₃ = merged xor (xor_narrows 64 u h) refl l₁ l₂ g e₁ e₂
    agree_lines nand g e₁ e₂ e₃ = wrapped nand (nand_narrows 64 u h) l₁ l₂ g e₁ e₂
    agree_lines nor g e₁ e₂ e₃ = wrapped nor (nor_narrows 64 u h) l₁ l₂ g e₁ e₂
    agree_lines xnor g e₁ e₂ e₃ = wrapped xnor (xnor_narrows 64 u h) l₁ l₂ g e₁ e₂
    agree_lines add g e₁ e₂ e₃ = wrapped add (add_narrows 64 u h) l₁ l₂ g e₁ e₂
    agree_lines sub g e₁ e₂ e₃ = wrapped sub (sub_narrows 64 u h) l₁ l₂ g e₁ e₂
    agree_lines mul g e₁ e₂ e₃ = wrapped mul (mul_narrows 64 u h) l₁ l₂ g e₁ e₂
    agree_lines udiv g e₁ e₂ e₃ = plainly udiv e₁ e₂
    agree_lines urem g e₁ e₂ e₃ = plainly urem e₁ e₂
    agree_lines sdiv g e₁ e₂ e₃ = lowered sdiv e₁ e₂
    agree_lines srem g e₁ e₂ e₃ = lowered srem e₁ e₂
    agree_lines smod g e₁ e₂ e₃ = lowered smod e₁ e₂
    agree_lines sll g e₁ e₂ e₃ = ap (λ (n : ℕ). shl (ltb n u) 64 x n % 2 ^ u) e₂ ∙ shl_law (ltb b u) l₁ u x a b h ha e₁
    agree_lines srl g e₁ e₂ e₃ = plainly srl e₁ e₂
    agree_lines sra g e₁ e₂ e₃ = lowered sra e₁ e₂
    agree_lines rol g e₁ e₂ e₃ = lowered rol e₁ e₂
    agree_lines ror g e₁ e₂ e₃ = lowered ror e₁ e₂
    agree_lines concat g e₁ e₂ e₃ =
        subst (λ (n : ℕ). Stands l₁ (u + v) (bit_or (x * 2 ^ v % 2 ^ 64) n) (a * 2 ^ v + b)) (sym e₂) (join_law l₁ u v x a b g ha hb e₁)
    agree_lines ite g e₁ e₂ e₃ = subst (λ (n : ℕ). Stands (l₂ || l₃) v (choose n y z) (choose a b c)) (sym e₁) (pick_law l₂ l₃ v a b c y z hb hc e₂ e₃)
    agree_lines mask g e₁ e₂ e₃ = low₁ l₁ e₁ ∙ sym (mod-eq_of_lt ha)
    agree_lines (overflow o) g e₁ e₂ e₃ = lowered (overflow o) e₁ e₂
