-- What an accepted table's context holds of each line: the type that the line had when it was read, of lines before it the types they had then. Assumes nothing.
use Prim.Native.Nat.{ℕ, zero, suc, ◌+◌, ◌<◌}
use mathlib.Core.Path.{◌≡◌, refl, sym, ap, ◌∙◌, subst}
use mathlib.Core.Bool.{Bool}
use mathlib.Core.List.{List, [], ◌∷◌, ◌++◌}
use native.Mathlib.Omega.{arith}
use lib.ListN.{length, get_or, length-append, get_or-append}
use lib.Seq.{get_or_at}
use Rattle.tables.specs.Lines.{Line}
use Rattle.tables.specs.Types.{no_ty, line_type, Ctx, ty_at, given, grow, grow_all}
use Rattle.tables.proofs.Facts.{OkLine, AllOk}

pub record Entry (p : Bool) (c : Ctx) (v : ℕ) (l : Line) : Type 0 where
  -- the context before the line
  pub before : Ctx
  pub count : length before.tys ≡ v
  pub ok : OkLine p (ty_at before) (given before) l
  pub is : ty_at c v ≡ line_type p (ty_at before) l
  pub old : (a : ℕ) → a < v → ty_at c a ≡ ty_at before a

pub grown : (p : Bool) (c : Ctx) (l : Line) → length (grow p c l).tys ≡ suc (length c.tys)
grown p c l = length-append c.tys (line_type p (ty_at c) l ∷ []) ∙ omega arith

-- lines keep their types
pub keeps_type : (p : Bool) (c : Ctx) (ls : List Line) (a : ℕ) → a < length c.tys → ty_at (grow_all p c ls) a ≡ ty_at c a
keeps_type p c [] a h = refl
keeps_type p c (l ∷ ls) a h =
    keeps_type p (grow p c l) ls a (omega (arith, grown p c l)) ∙ get_or-append c.tys (line_type p (ty_at c) l ∷ []) no_ty a h

pub length_all : (p : Bool) (c : Ctx) (ls : List Line) → length (grow_all p c ls).tys ≡ length c.tys + length ls
length_all p c [] = omega arith
length_all p c (l ∷ ls) = length_all p (grow p c l) ls ∙ omega (arith, grown p c l)

pub entry : (p : Bool) (c : Ctx) (ls : List Line) → AllOk p c ls → (i : ℕ) → i < length ls → Entry p (grow_all p c ls) (length c.tys + i) (get_or ls i Line.unknown)
entry p c [] k i h = absurd (omega arith)
entry p c (l ∷ ls) k zero h =
    let n = length c.tys in
    let z : n + 0 ≡ n = omega arith in
    record {
      before = c;
      count = sym z;
      ok = k.0;
      is = ap (ty_at (grow_all p (grow p c l) ls)) z ∙ keeps_type p (grow p c l) ls n (omega (arith, grown p c l)) ∙ get_or_at c.tys (line_type p (ty_at c) l) [] no_ty n refl;
      old = λ a q. keeps_type p c (l ∷ ls) a (omega arith);
    }
entry p c (l ∷ ls) k (suc i) h =
    let z : length (grow p c l).tys + i ≡ length c.tys + suc i = omega (arith, grown p c l) in
    subst (λ (n : ℕ). Entry p (grow_all p (grow p c l) ls) n (get_or ls i Line.unknown)) z (entry p (grow p c l) ls k.1 i (omega arith))

-- lines that keep the rules behind others that do
pub ok_append : (p : Bool) (c : Ctx) (xs ys : List Line) → AllOk p c xs → AllOk p (grow_all p c xs) ys → AllOk p c (xs ++ ys)
ok_append p c [] ys h k = k
ok_append p c (x ∷ xs) ys h k = (h.0, ok_append p (grow p c x) xs ys h.1 k)
