-- A program's operators by class: each is what `prog_by` says of its class. Assumes nothing.
use Prim.Native.Nat.{ℕ}
use mathlib.Core.Path.{◌≡◌, refl}
use Rattle.words.specs.Op.{Op, not, neg, inc, dec, redand, redor, redxor, slice, uext, sext, eq, neq, ult, ulte, ugt, ugte, slt, slte, sgt, sgte, iff, implies, and, or, xor, nand, nor, xnor, add, sub, mul, udiv, urem, sdiv, srem, smod, sll, srl, sra, rol, ror, concat, ite, mask, overflow}
use Rattle.words.specs.Program.{prog}
use Rattle.words.specs.Model.Classes.{class_of, prog_by}

pub prog_by_class : (op : Op) (u v a b c : ℕ) → prog op u v a b c ≡ prog_by (class_of op) op u v a b c
prog_by_class not u v a b c = refl
prog_by_class neg u v a b c = refl
prog_by_class inc u v a b c = refl
prog_by_class dec u v a b c = refl
prog_by_class redand u v a b c = refl
prog_by_class redor u v a b c = refl
prog_by_class redxor u v a b c = refl
prog_by_class slice u v a b c = refl
prog_by_class uext u v a b c = refl
prog_by_class sext u v a b c = refl
prog_by_class eq u v a b c = refl
prog_by_class neq u v a b c = refl
prog_by_class ult u v a b c = refl
prog_by_class ulte u v a b c = refl
prog_by_class ugt u v a b c = refl
prog_by_class ugte u v a b c = refl
prog_by_class slt u v a b c = refl
prog_by_class slte u v a b c = refl
prog_by_class sgt u v a b c = refl
prog_by_class sgte u v a b c = refl
prog_by_class iff u v a b c = refl
prog_by_class implies u v a b c = refl
prog_by_class and u v a b c = refl
prog_by_class or u v a b c = refl
prog_by_class xor u v a b c = refl
prog_by_class nand u v a b c = refl
prog_by_class nor u v a b c = refl
prog_by_class xnor u v a b c = refl
prog_by_class add u v a b c = refl
prog_by_class sub u v a b c = refl
prog_by_class mul u v a b c = refl
prog_by_class udiv u v a b c = refl
prog_by_class urem u v a b c = refl
prog_by_class sdiv u v a b c = refl
prog_by_class srem u v a b c = refl
prog_by_class smod u v a b c = refl
prog_by_class sll u v a b c = refl
prog_by_class srl u v a b c = refl
prog_by_class sra u v a b c = refl
prog_by_class rol u v a b c = refl
prog_by_class ror u v a b c = refl
prog_by_class concat u v a b c = refl
prog_by_class ite u v a b c = refl
prog_by_class mask u v a b c = refl
prog_by_class (overflow o) u v a b c = refl
