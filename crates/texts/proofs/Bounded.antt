-- The words of records that keep the rules are below 2 ^ 64, and so are printed and read as numbers; but for values of constants they are below 65 or lines' numbers.
-- Assumes nothing.
use Prim.Native.Nat.{ℕ, zero, suc, ◌+◌, ◌-◌, ◌^◌, ◌≤◌, ◌<◌}
use mathlib.Core.Path.{◌≡◌, refl, sym, ap, ◌∙◌, subst}
use mathlib.Core.Bool.{Bool, true, false, ◌&&◌}
use mathlib.Core.List.{List, [], ◌∷◌}
use native.Mathlib.Omega.{arith}
use native.Mathlib.Nat.{pow-le-pow_right, le_trans}
use lib.Dec.{T, eqb, leb, ltb, eqb→eq, lit<, lit≤}
use lib.ListN.{length, get_or, length-append}
use borrow.Author.Tests.{eqb-true, eqb-false, leb-true, leb-false, ltb-true, lt-leb, ne_eqb}
use mir.Facts.{and_yes}
use Rattle.tables.specs.declared.Ty.{Ty}
use Rattle.tables.specs.Kinds.{row_of, second_class, third_class}
use Rattle.tables.specs.Lines.{Line, Expr, line_of, words_of, fields}
use Rattle.tables.specs.Layout.{record_words, records_of}
use Rattle.tables.specs.Types.{rank, Ctx, no_ctx, ty_at, given, grow}
use Rattle.tables.specs.Tables.{unused, formed, keeps, lawful}
use Rattle.tables.proofs.Every.{every, at_each}
use Rattle.tables.proofs.Kept.{both}
use Rattle.tables.proofs.Shapes.{binary_range}
use Rattle.tables.proofs.Formed.{words_back}
use Rattle.tables.proofs.Facts.{OkLine, OkExpr, OkUnary}
use Rattle.tables.proofs.Wide.{AllWide, grow_wide}
use Rattle.tables.proofs.Places.{Sized, length_records, records_sized}
use Rattle.tables.proofs.Sound.{sound}
use Rattle.tables.proofs.Showing.{earlier}

-- every word of a list is below b; every word is a u64
abbrev pub Below : ℕ → List ℕ → Type 0
Below b t = (j : ℕ) → get_or t j 0 < b

abbrev pub Words : List ℕ → Type 0
Words t = Below (2 ^ 64) t

-- the words of a record are below b, but for the value of a constant, which is a u64
pub data Short (b : ℕ) (r : List ℕ) : Type 0 where
  below : (h : Below b r) → Short b r
  constant : (s v : ℕ) (e : r ≡ fields 3 s v 0 0) (hs : s < b) (hv : v < 2 ^ 64) → Short b r

pub small : (w k s a b c : ℕ) → k < w → s < w → a < w → b < w → c < w → Below w (fields k s a b c)
small w k s a b c hk hs ha hb hc zero = hk
small w k s a b c hk hs ha hb hc (suc zero) = hs
small w k s a b c hk hs ha hb hc (suc (suc zero)) = ha
small w k s a b c hk hs ha hb hc (suc (suc (suc zero))) = hb
small w k s a b c hk hs ha hb hc (suc (suc (suc (suc zero)))) = hc
small w k s a b c hk hs ha hb hc (suc (suc (suc (suc (suc j))))) = omega arith

short_words : (b : ℕ) (r : List ℕ) → b ≤ 2 ^ 64 → Short b r → Words r
short_words b r l (below h) = λ j. le_trans (h j) l
short_words b r l (constant s v e hs hv) = subst Words (sym e) (small (2 ^ 64) 3 s v 0 0 (lit< tt) (le_trans hs l) hv (lit< tt) (lit< tt))

-- the numbers of an operator of one word: those that it does not have are 0
no_numbers : ℕ → Bool
no_numbers i = eqb (second_class (row_of (i + 11))) 0 && eqb (third_class (row_of (i + 11))) 0

no_third : ℕ → Bool
no_third i = eqb (third_class (row_of (i + 19))) 0

all_no_numbers : T (every no_numbers 7)
unfolding no_numbers row_of
all_no_numbers = tt

all_no_third : T (every no_third 2)
unfolding no_third row_of
all_no_third = tt

zero_by : (c x : ℕ) → c ≡ 0 → unused c x ≡ true → x ≡ 0
zero_by c x e u = eqb-true x 0 (subst (λ (d : ℕ). unused d x ≡ true) e u)

module _ (b : ℕ) (wide : 64 < b) (t a : Ty) (k x y : ℕ) (h : OkUnary false t k a x y) (wt : t.w ≤ 64) (wa : a.w ≤ 64) where
  -- not to redxor
  plain : k ≤ 17 → (x ≡ 0) × (y ≡ 0)
  unfolding no_numbers
  plain l =
      let n : ℕ = k - 11 in
      let q : n + 11 ≡ k = omega (arith, h.kind) in
      let z = and_yes (eqb (second_class (row_of (n + 11))) 0) _ (at_each no_numbers 7 all_no_numbers n (omega (arith, h.kind))) in (
        zero_by (second_class (row_of k)) x (ap (λ (m : ℕ). second_class (row_of m)) (sym q) ∙ eqb→eq _ 0 z.0) h.spare₂,
        zero_by (third_class (row_of k)) y (ap (λ (m : ℕ). third_class (row_of m)) (sym q) ∙ eqb→eq _ 0 z.1) h.spare₃,
      )

  -- uext and sext
  third : 18 < k → y ≡ 0
  unfolding no_third
  third l =
      let n : ℕ = k - 19 in
      let q : n + 19 ≡ k = omega (arith, h.kind) in
      zero_by (third_class (row_of k)) y (ap (λ (m : ℕ). third_class (row_of m)) (sym q) ∙ eqb→eq _ 0 (at_each no_third 2 all_no_third n (omega (arith, h.kind)))) h.spare₃

  one_numbers : (x < b) × (y < b)
  one_numbers = go (leb k 17) (eqb k 18) refl refl
    where
      go : (p q : Bool) → leb k 17 ≡ p → eqb k 18 ≡ q → (x < b) × (y < b)
      go true q e f = let z = plain (leb-true k 17 e) in (omega (arith, z.0), omega (arith, z.1))
      go false true e f =
          let g = leb-false k 17 e in
          let r = (rw (lt-leb k 14 (omega arith), ne_eqb k 56 (λ u. omega (arith, h.kind)), e, f) at h.rule) in
          let r₁ = both (leb y x) _ r in
          let r₂ = both (ltb x a.w) _ r₁.1 in
          (omega (arith, ltb-true x a.w r₂.0), omega (arith, leb-true y x r₁.0, ltb-true x a.w r₂.0))
      go false false e f =
          let g = leb-false k 17 e in
          let d : (k ≡ 18 → ⊥) = eqb-false k 18 f in
          let r = (rw (lt-leb k 14 (omega arith), ne_eqb k 56 (λ u. omega (arith, h.kind)), e, f) at h.rule) in
          (omega (arith, eqb-true t.w (a.w + x) r), omega (arith, third (omega arith)))

-- ---- a line, after fewer than b lines

module _ (b : ℕ) (wide : 64 < b) (c : Ctx) (w : AllWide (ty_at c)) (few : length c.tys ≤ b) where
  -- a small number; an earlier line
  low : {n : ℕ} → n ≤ 64 → n < b
  low h = omega arith

  line : (a : ℕ) → 1 ≤ rank (ty_at c a).role → a < b
  line a h = omega (arith, earlier c.tys a h)

  words : (k s x y z : ℕ) → k < b → s < b → x < b → y < b → z < b → Short b (fields k s x y z)
  words k s x y z hk hs hx hy hz = below (small b k s x y z hk hs hx hy hz)

  none : 0 < b
  none = omega arith

  expr_words_lem : (s : ℕ) (e : Expr) → OkExpr false (ty_at c) (ty_at c s) e → Short b (words_of (Line.value s e))
  expr_words_lem s (Expr.const v) k = constant s v refl (line s (omega (arith, k.sort.is))) (const_fits v (ty_at c s).w k.fits (w s (omega (arith, k.sort.is))).most)
    where
      const_fits : (v n : ℕ) → v < 2 ^ n → n ≤ 64 → v < 2 ^ 64
      const_fits v n h l = let g : 2 ^ n ≤ 2 ^ 64 = pow-le-pow_right (lit≤ tt) l in omega arith
  expr_words_lem s (Expr.unary n a x y) k =
      let z = one_numbers b wide (ty_at c s) (ty_at c a) n x y k (w s (omega (arith, k.sort.is))).most (w a (omega (arith, k.arg.is))).most in
      words n s a x y (low (omega (arith, k.kind))) (line s (omega (arith, k.sort.is))) (line a (omega (arith, k.arg.is))) z.0 z.1
  expr_words_lem s (Expr.binary n a d) k =
      words n s a d 0 (low (omega (arith, binary_range k.kind))) (line s (omega (arith, k.sort.is))) (line a (omega (arith, k.left.is))) (line d (omega (arith, k.right.is))) none
  expr_words_lem s (Expr.equality true a d) k = words 21 s a d 0 (low (lit≤ tt)) (line s (omega (arith, k.sort.is))) (line a (omega (arith, k.left.is))) (line d (omega (arith, k.right.is))) none
  expr_words_lem s (Expr.equality false a d) k = words 22 s a d 0 (low (lit≤ tt)) (line s (omega (arith, k.sort.is))) (line a (omega (arith, k.left.is))) (line d (omega (arith, k.right.is))) none
  expr_words_lem s (Expr.ite i a d) k =
      words 53 s i a d (low (lit≤ tt)) (line s (omega (arith, k.sort.is))) (line i (omega (arith, k.cond.is))) (line a (omega (arith, k.left.is))) (line d (omega (arith, k.right.is)))
  expr_words_lem s (Expr.read a i) k = words 54 s a i 0 (low (lit≤ tt)) (line s (omega (arith, k.sort.is))) (line a (omega (arith, k.arr.is))) (line i (omega (arith, k.index.is))) none
  expr_words_lem s (Expr.write a i v) k =
      words 55 s a i v (low (lit≤ tt)) (line s (omega (arith, k.sort.is))) (line a (omega (arith, k.arr.is))) (line i (omega (arith, k.index.is))) (line v (omega (arith, k.value.is)))

  line_words : (l : Line) → OkLine false (ty_at c) (given c) l → Short b (words_of l)
  line_words (Line.bitvec n) k = words 1 0 n 0 0 (low (lit≤ tt)) none (low k.most) none none
  line_words (Line.array i e) k = words 2 0 i e 0 (low (lit≤ tt)) none (line i (omega (arith, k.index.is))) (line e (omega (arith, k.element.is))) none
  line_words (Line.input s) k = words 4 s 0 0 0 (low (lit≤ tt)) (line s (omega (arith, k.is))) none none none
  line_words (Line.state s) k = words 5 s 0 0 0 (low (lit≤ tt)) (line s (omega (arith, k.is))) none none none
  line_words (Line.value s e) k = expr_words_lem s e k
  line_words (Line.init_or_next true s q v) k = words 6 s q v 0 (low (lit≤ tt)) (line s (omega (arith, k.sort.is))) (line q (omega (arith, k.state))) (line v (omega (arith, k.value.word.is))) none
  line_words (Line.init_or_next false s q v) k = words 7 s q v 0 (low (lit≤ tt)) (line s (omega (arith, k.sort.is))) (line q (omega (arith, k.state))) (line v (omega (arith, k.value.is))) none
  line_words (Line.signal true a) k = words 8 0 a 0 0 (low (lit≤ tt)) none (line a (omega (arith, k.word.is))) none none
  line_words (Line.signal false a) k = words 9 0 a 0 0 (low (lit≤ tt)) none (line a (omega (arith, k.word.is))) none none
  line_words (Line.output a) k = words 10 0 a 0 0 (low (lit≤ tt)) none (line a (omega (arith, k.is))) none none
  line_words Line.unknown k = absurd k

-- ---- the records of a table

abbrev pub AllShort : ℕ → List (List ℕ) → Type 0
AllShort b [] = Unit {0}
AllShort b (r ∷ rs) = Short b r × AllShort b rs

abbrev pub Good : List (List ℕ) → Type 0
Good [] = Unit {0}
Good (r ∷ rs) = ((length r ≡ record_words) × Words r) × Good rs

short_from : (b : ℕ) (c : Ctx) (rs : List (List ℕ)) → 64 < b → Sized rs → AllWide (ty_at c) → length c.tys + length rs ≤ b → lawful false c rs ≡ true → AllShort b rs
short_from b c [] l z w h e = tt
short_from b c (r ∷ rs) l z w h e =
    let f = both (keeps false (ty_at c) (given c) r) _ e in
    let o = sound false (ty_at c) (given c) r f.0 in
    let x = words_back false r z.0 (both (formed false r) _ f.0).0 in
    let g : length (grow false c (line_of r)).tys ≡ length c.tys + 1 = length-append c.tys _ in
    (subst (Short b) x (line_words b l c w (omega arith) (line_of r) o), short_from b (grow false c (line_of r)) rs l z.1 (grow_wide false c (line_of r) w o) (omega arith) f.1)

-- fewer than b records that keep the rules: every number but a constant's value is below b
pub short_lawful : (b : ℕ) (t : List ℕ) (n : ℕ) → 64 < b → n < b → lawful false no_ctx (records_of false t n) ≡ true → AllShort b (records_of false t n)
short_lawful b t n l h e = short_from b no_ctx (records_of false t n) l (records_sized false t n) none_wide (omega (arith, length_records false t n)) e
  where
    none_wide : AllWide (ty_at no_ctx)
    none_wide zero q = absurd (omega arith)
    none_wide (suc a) q = absurd (omega arith)

pub good_lawful : (t : List ℕ) (n : ℕ) → n ≤ 16384 → lawful false no_ctx (records_of false t n) ≡ true → Good (records_of false t n)
good_lawful t n h e = go (records_of false t n) (records_sized false t n) (short_lawful 16385 t n (lit< tt) (omega arith) e)
  where
    go : (rs : List (List ℕ)) → Sized rs → AllShort 16385 rs → Good rs
    go [] z g = tt
    go (r ∷ rs) z g = ((z.0, short_words 16385 r (lit≤ tt) g.0), go rs z.1 g.1)
