-- A value has the widths of the sort that its own record names, in the context of records that keep the rules. Assumes nothing.
use Prim.Native.Nat.{ℕ, suc, ◌-◌, ◌≤◌}
use mathlib.Core.Path.{◌≡◌, refl, sym, ap, ◌∙◌, subst}
use mathlib.Core.Bool.{Bool, true, false}
use mathlib.Core.List.{List, [], ◌∷◌, ◌++◌, map, append_assoc, append-nil}
use native.Mathlib.Omega.{arith}
use lib.ListN.{length, get_or, length-append, get_or-append}
use lib.Seq.{get_or_at}
use Rattle.tables.specs.declared.Ty.{Ty}
use Rattle.tables.specs.Lines.{Line, Expr, line_of, words_of, sort_in}
use Rattle.tables.specs.Layout.{record_words}
use Rattle.tables.specs.Types.{rank, no_ty, line_type, Ctx, no_ctx, ty_at, given, grow, grow_all}
use Rattle.tables.specs.Tables.{formed, keeps, lawful}
use Rattle.tables.proofs.Kept.{both}
use Rattle.tables.proofs.Places.{Sized}
use Rattle.tables.proofs.Formed.{words_back}
use Rattle.tables.proofs.Facts.{Same, OkLine}
use Rattle.tables.proofs.Sound.{sound}
use Rattle.tables.proofs.Showing.{by_place, earlier, snoc_other}

-- ---- the lines of a context are 1 to n

pub record Counted (c : Ctx) (n : ℕ) : Type 0 where
  pub first : ty_at c 0 ≡ no_ty
  pub size : length c.tys ≡ suc n

pub counted_none : Counted no_ctx 0
counted_none = record { first = refl; size = refl }

pub counted_more : (c : Ctx) (n : ℕ) (l : Line) → Counted c n → Counted (grow false c l) (suc n)
counted_more c n l C =
    record {
      first = get_or-append c.tys _ no_ty 0 (omega (arith, C.size)) ∙ C.first;
      size = length-append c.tys _ ∙ omega (arith, C.size);
    }

-- a line of some role goes on having its type
pub type_stays : (c : Ctx) (l : Line) (a : ℕ) → 1 ≤ rank (ty_at c a).role → ty_at (grow false c l) a ≡ ty_at c a
type_stays c l a h = get_or-append c.tys _ no_ty a (earlier c.tys a h)

pub type_new : (c : Ctx) (l : Line) (n : ℕ) → length c.tys ≡ n → ty_at (grow false c l) n ≡ line_type false (ty_at c) l
type_new c l n e = get_or_at c.tys (line_type false (ty_at c) l) [] no_ty n e

-- ---- values and their sorts

-- the type t is that of a sort, which has the widths of the value of type y
pub record SortOf (y t : Ty) : Type 0 where
  pub is : rank t.role ≡ 1
  pub same : Same y t

-- a value line has its sort's widths
expr_sort : (L : ℕ → Ty) (G : Bool → ℕ → Bool) (s : ℕ) (e : Expr) → OkLine false L G (Line.value s e) → rank (L s).role ≡ 1
expr_sort L G s (Expr.const v) k = k.sort.is
expr_sort L G s (Expr.unary o a x y) k = k.sort.is
expr_sort L G s (Expr.binary o a b) k = k.sort.is
expr_sort L G s (Expr.equality e a b) k = k.sort.is
expr_sort L G s (Expr.ite c a b) k = k.sort.is
expr_sort L G s (Expr.read a i) k = k.sort.is
expr_sort L G s (Expr.write a i v) k = k.sort.is

expr_named : (s : ℕ) (e : Expr) → sort_in (words_of (Line.value s e)) ≡ s
expr_named s (Expr.const v) = refl
expr_named s (Expr.unary o a x y) = refl
expr_named s (Expr.binary o a b) = refl
expr_named s (Expr.equality e a b) = refl
expr_named s (Expr.ite c a b) = refl
expr_named s (Expr.read a i) = refl
expr_named s (Expr.write a i v) = refl

line_sort : (L : ℕ → Ty) (G : Bool → ℕ → Bool) (l : Line) → OkLine false L G l → 2 ≤ rank (line_type false L l).role → SortOf (line_type false L l) (L (sort_in (words_of l)))
line_sort L G (Line.bitvec w) k h = absurd (omega arith)
line_sort L G (Line.array i e) k h = absurd (omega arith)
line_sort L G (Line.input s) k h = record { is = k.is; same = record { iw = refl; w = refl } }
line_sort L G (Line.state s) k h = record { is = k.is; same = record { iw = refl; w = refl } }
line_sort L G (Line.value s e) k h =
    let q = expr_named s e in
    record { is = ap (λ (x : ℕ). rank (L x).role) q ∙ expr_sort L G s e k; same = record { iw = refl; w = refl } }
line_sort L G (Line.init_or_next m s q v) k h = absurd (omega arith)
line_sort L G (Line.signal m a) k h = absurd (omega arith)
line_sort L G (Line.output a) k h = absurd (omega arith)
line_sort L G Line.unknown k h = absurd (omega arith)

-- the sort that the record of the line a names
abbrev pub own_sort : List (List ℕ) → (a : ℕ) → ℕ
own_sort rs a = sort_in (get_or rs (a - 1) [])

-- rs are records that keep the rules, and c is their context
pub record OwnSorts (c : Ctx) (rs : List (List ℕ)) : Type 0 where
  pub counted : Counted c (length rs)
  pub sorts : (a : ℕ) → 2 ≤ rank (ty_at c a).role → SortOf (ty_at c a) (ty_at c (own_sort rs a))

pub sorts_none : OwnSorts no_ctx []
sorts_none = record { counted = counted_none; sorts = none }
  where
    none : (a : ℕ) → 2 ≤ rank (ty_at no_ctx a).role → SortOf (ty_at no_ctx a) (ty_at no_ctx (own_sort [] a))
    none a h = by_place a 0 (λ e. absurd (omega (arith, ap (λ (x : ℕ). rank (ty_at no_ctx x).role) e))) (λ n. absurd (omega (arith, earlier (no_ty ∷ []) a (omega arith))))

pub sorts_more : (c : Ctx) (rs : List (List ℕ)) (r : List ℕ) → OwnSorts c rs → length r ≡ record_words → keeps false (ty_at c) (given c) r ≡ true
    → OwnSorts (grow false c (line_of r)) (rs ++ (r ∷ []))
sorts_more c rs r S lr kp =
    let q : suc (length rs) ≡ length (rs ++ (r ∷ [])) = omega (arith, length-append rs (r ∷ [])) in
    record { counted = subst (Counted c₁) q (counted_more c (length rs) (line_of r) S.counted); sorts = sorts }
  where
    c₁ : Ctx
    c₁ = grow false c (line_of r)

    n : ℕ
    n = length c.tys

    -- a sort that is there stays
    stays : {y : Ty} (s : ℕ) → SortOf y (ty_at c s) → SortOf y (ty_at c₁ s)
    stays {y} s o = subst (SortOf y) (sym (type_stays c (line_of r) s (omega (arith, o.is)))) o

    back : words_of (line_of r) ≡ r
    back = words_back false r lr (both (formed false r) _ kp).0

    own : 2 ≤ rank (line_type false (ty_at c) (line_of r)).role → SortOf (line_type false (ty_at c) (line_of r)) (ty_at c (sort_in r))
    own h =
        subst (λ (x : List ℕ). SortOf (line_type false (ty_at c) (line_of r)) (ty_at c (sort_in x))) back
        (line_sort (ty_at c) (given c) (line_of r) (sound false (ty_at c) (given c) r kp) h)

    sorts : (a : ℕ) → 2 ≤ rank (ty_at c₁ a).role → SortOf (ty_at c₁ a) (ty_at c₁ (own_sort (rs ++ (r ∷ [])) a))
    sorts a h =
        by_place a n
        (λ e.
        let t : ty_at c₁ a ≡ line_type false (ty_at c) (line_of r) = type_new c (line_of r) a (sym e) in
        let g : get_or (rs ++ (r ∷ [])) (a - 1) [] ≡ r = get_or_at rs r [] [] (a - 1) (omega (arith, S.counted.size)) in
        subst (λ (x : List ℕ). SortOf (ty_at c₁ a) (ty_at c₁ (sort_in x))) (sym g)
        (stays (sort_in r) (subst (λ (y : Ty). SortOf y (ty_at c (sort_in r))) (sym t) (own (subst (λ (y : Ty). 2 ≤ rank y.role) t h)))))
        (λ e.
        let t : ty_at c₁ a ≡ ty_at c a = snoc_other c.tys (line_type false (ty_at c) (line_of r)) no_ty a e in
        let k : 2 ≤ rank (ty_at c a).role = subst (λ (y : Ty). 2 ≤ rank y.role) t h in
        let l = earlier c.tys a (omega arith) in
        let p : 1 ≤ a = by_place a 0 (λ z. absurd (omega (arith, ap (λ (x : ℕ). rank (ty_at c x).role) z, ap (λ (y : Ty). rank y.role) S.counted.first))) (λ z. omega arith) in
        let g : get_or (rs ++ (r ∷ [])) (a - 1) [] ≡ get_or rs (a - 1) [] = get_or-append rs (r ∷ []) [] (a - 1) (omega (arith, S.counted.size)) in
        subst (λ (x : List ℕ). SortOf (ty_at c₁ a) (ty_at c₁ (sort_in x))) (sym g)
        (stays (own_sort rs a) (subst (λ (y : Ty). SortOf y (ty_at c (own_sort rs a))) (sym t) (S.sorts a k))))

pub sorts_all : (c : Ctx) (rs ls : List (List ℕ)) → OwnSorts c rs → Sized ls → lawful false c ls ≡ true → OwnSorts (grow_all false c (map line_of ls)) (rs ++ ls)
sorts_all c rs [] S z k = subst (OwnSorts c) (sym (append-nil rs)) S
sorts_all c rs (r ∷ ls) S z k =
    let h = both (keeps false (ty_at c) (given c) r) _ k in
    subst (OwnSorts (grow_all false (grow false c (line_of r)) (map line_of ls))) (append_assoc rs (r ∷ []) ls)
    (sorts_all (grow false c (line_of r)) (rs ++ (r ∷ [])) ls (sorts_more c rs r S z.0 h.0) z.1 h.1)
