-- A line of which the named facts hold has a record that keeps the rules, and is read back from it. Assumes nothing.
use Prim.Native.Nat.{ℕ, ◌+◌, ◌^◌, ◌≤◌}
use mathlib.Core.Path.{◌≡◌, refl, sym, ap, ap₂, subst}
use mathlib.Core.Logic.{◌⊎◌, inl, inr}
use mathlib.Core.Bool.{Bool, true, false, not, ◌&&◌, ◌||◌}
use mathlib.Core.List.{List, [], ◌∷◌, map}
use native.Mathlib.Omega.{arith}
use lib.Dec.{eqb}
use lib.ListN.{length}
use borrow.Author.Tests.{eq-eqb, lt-ltb, le-leb, eqb-true}
use Rattle.tables.specs.declared.Ty.{Ty}
use Rattle.tables.specs.Pick.{all}
use Rattle.tables.specs.Kinds.{row_of, sort_class, first_class, second_class, third_class}
use Rattle.tables.specs.Lines.{Line, Expr, is_unary, is_binary, shape_of, fields, line_of, words_of, kind_in}
use Rattle.tables.specs.Layout.{record_words}
use Rattle.tables.specs.Types.{rank, is_sort, is_value, is_word, is_array, is_word_sort, is_array_sort, sort_at, Ctx, ty_at, given, grow}
use Rattle.tables.specs.Rules.{suits, same_sort}
use Rattle.tables.specs.Tables.{known, unused, tidy, keeps, lawful}
use Rattle.tables.proofs.Every.{at_each, from_to}
use Rattle.tables.proofs.Shapes.{BinaryKind, each_binary, line_as, shape_unary, shape_binary, fits_as, once_as}
use Rattle.tables.proofs.Answers.{Passed, all_passed}
use Rattle.tables.proofs.Kept.{both, either}
use Rattle.tables.proofs.Facts.{IsValue, IsWord, IsArray, IsSort, IsWordSort, IsArraySort, Same, OneKind, OkExpr, OkLine, AllOk}
use Rattle.tables.proofs.Laws.{or_true}
use Rattle.tables.proofs.Places.{Sized}
use Rattle.tables.proofs.Sound.{one_row, two_row}

-- ---- classes

of_word : {t : Ty} → IsWord t → is_word t ≡ true
of_word {t} k = rw (le-leb 2 (rank t.role) k.is, eq-eqb t.iw 0 k.flat)

of_array : {t : Ty} → IsArray t → is_array t ≡ true
of_array {t} k = rw (le-leb 2 (rank t.role) k.is, lt-ltb 0 t.iw k.deep)

of_word_sort : {t : Ty} → IsWordSort t → is_word_sort t ≡ true
of_word_sort {t} k = rw (eq-eqb (rank t.role) 1 k.is, eq-eqb t.iw 0 k.flat)

of_array_sort : {t : Ty} → IsArraySort t → is_array_sort t ≡ true
of_array_sort {t} k = rw (eq-eqb (rank t.role) 1 k.is, lt-ltb 0 t.iw k.deep)

of_value : {t : Ty} → IsValue t → is_value t ≡ true
of_value {t} k = le-leb 2 (rank t.role) k.is

of_sort : {t : Ty} → IsSort t → is_sort t ≡ true
of_sort {t} k = eq-eqb (rank t.role) 1 k.is

of_same : {a t : Ty} → Same a t → same_sort a t ≡ true
of_same {a} {t} k = rw (eq-eqb a.iw t.iw k.iw, eq-eqb a.w t.w k.w)

and₂ : {a b : Bool} → a ≡ true → b ≡ true → (a && b) ≡ true
and₂ e f = rw (e, f)

and₄ : {a b c d : Bool} → a ≡ true → b ≡ true → c ≡ true → d ≡ true → (a && (b && (c && (d && true)))) ≡ true
and₄ e f g h = rw (e, f, g, h)

-- ---- the line read back

unary_shape : (p : Bool) (k : ℕ) → OneKind p k → shape_of k ≡ is_unary
unary_shape false k h = shape_unary k h.0 h.1
unary_shape true k (inl h) = shape_unary k h.0 h.1
unary_shape true k (inr e) = ap shape_of e

pub again : (p : Bool) (L : ℕ → Ty) (G : Bool → ℕ → Bool) (l : Line) → OkLine p L G l → line_of (words_of l) ≡ l
again p L G (Line.bitvec w) k = refl
again p L G (Line.array i e) k = refl
again p L G (Line.input s) k = refl
again p L G (Line.state s) k = refl
again p L G (Line.value s (Expr.const v)) k = refl
again p L G (Line.value s (Expr.unary n a x y)) k = line_as (fields n s a x y) is_unary (unary_shape p n k.kind)
again p L G (Line.value s (Expr.binary n a b)) k = line_as (fields n s a b 0) is_binary (shape_binary n k.kind)
again p L G (Line.value s (Expr.equality true a b)) k = refl
again p L G (Line.value s (Expr.equality false a b)) k = refl
again p L G (Line.value s (Expr.ite c a b)) k = refl
again p L G (Line.value s (Expr.read a i)) k = refl
again p L G (Line.value s (Expr.write a i v)) k = refl
again p L G (Line.init_or_next true s q v) k = refl
again p L G (Line.init_or_next false s q v) k = refl
again p L G (Line.signal true a) k = refl
again p L G (Line.signal false a) k = refl
again p L G (Line.output a) k = refl
again p L G Line.unknown k = absurd k

-- ---- the record keeps the rules

kept : (p : Bool) (L : ℕ → Ty) (G : Bool → ℕ → Bool) (r : List ℕ) → known p (kind_in r) ≡ true → all (tidy (row_of (kind_in r)) r) ≡ true → Passed p L G r → keeps p L G r ≡ true
kept p L G r a b c = rw (a, b, all_passed p L G r c)

-- a kind of circuits and of programs, and one of circuits alone
shared : (p : Bool) (k : ℕ) → known false k ≡ true → known true k ≡ true → known p k ≡ true
shared false k e f = e
shared true k e f = f

circuits : (p : Bool) (k : ℕ) → p ≡ false → known false k ≡ true → known p k ≡ true
circuits p k e f = subst (λ (q : Bool). known q k ≡ true) (sym e) f

one_known : (p : Bool) (k : ℕ) → OneKind p k → known p k ≡ true
one_known false k h = rw (le-leb 1 k (omega arith), le-leb k 55 (omega arith))
one_known true k (inl h) = rw (le-leb 3 k (omega arith), le-leb k 53 (omega arith))
one_known true k (inr e) = ap (known true) e

two_known : (p : Bool) (k : ℕ) → BinaryKind k → known p k ≡ true
two_known false = each_binary (known false) tt tt
two_known true = each_binary (known true) tt tt

kind_any : (p : Bool) (k : ℕ) → OneKind p k → ((11 ≤ k) × (k ≤ 20)) ⊎ (k ≡ 56)
kind_any false k h = inl h
kind_any true k h = h

-- a place that the row has may hold anything, 0 stands anywhere, and a number suits whatever line it names
used : (c n x : ℕ) → c ≡ n → eqb n 0 ≡ false → unused c x ≡ true
used c n x e f = rw (e, f)

unused_zero : (c : ℕ) → unused c 0 ≡ true
unused_zero c = or_true (not (eqb c 0))

number_suits : (c : ℕ) (t : Ty) → (eqb c 0 || eqb c 8) ≡ true → suits c t ≡ true
unfolding suits
number_suits c t e =
    either (eqb c 0) (eqb c 8) e (λ q. subst (λ (n : ℕ). suits n t ≡ true) (sym (eqb-true c 0 q)) refl) (λ q. subst (λ (n : ℕ). suits n t ≡ true) (sym (eqb-true c 8 q)) refl)

-- no place, or a number
abbrev plain : ℕ → Bool
plain c = eqb c 0 || eqb c 8

one_second : (k : ℕ) → ((11 ≤ k) × (k ≤ 20)) ⊎ (k ≡ 56) → plain (second_class (row_of k)) ≡ true
unfolding row_of
one_second k (inl h) = from_to (λ (n : ℕ). plain (second_class (row_of n))) 11 10 k (at_each (λ (m : ℕ). plain (second_class (row_of (m + 11)))) 10 tt) h.0 (omega arith)
one_second k (inr e) = ap (λ (n : ℕ). plain (second_class (row_of n))) e

one_third : (k : ℕ) → ((11 ≤ k) × (k ≤ 20)) ⊎ (k ≡ 56) → plain (third_class (row_of k)) ≡ true
unfolding row_of
one_third k (inl h) = from_to (λ (n : ℕ). plain (third_class (row_of n))) 11 10 k (at_each (λ (m : ℕ). plain (third_class (row_of (m + 11)))) 10 tt) h.0 (omega arith)
one_third k (inr e) = ap (λ (n : ℕ). plain (third_class (row_of n))) e

two_third : (k : ℕ) → BinaryKind k → plain (third_class (row_of k)) ≡ true
unfolding row_of
two_third = each_binary (λ (n : ℕ). plain (third_class (row_of n))) tt tt

module _ (p : Bool) (L : ℕ → Ty) (G : Bool → ℕ → Bool) where
  val_kept : (s : ℕ) (e : Expr) → OkExpr p L (sort_at p L s) e → keeps p L G (words_of (Line.value s e)) ≡ true
  unfolding row_of suits
  val_kept s (Expr.const v) k =
      kept p L G (fields 3 s v 0 0) (shared p 3 refl refl) refl
      (record { class = and₄ (of_word_sort k.sort) refl refl refl; width = and₂ (lt-ltb v (2 ^ (sort_at p L s).w) k.fits) refl; once = refl })
  val_kept s (Expr.unary n a x y) k =
      let h = both (eqb (sort_class (row_of n)) 5) _ (one_row n (kind_any p n k.kind)) in
      kept p L G (fields n s a x y) (one_known p n k.kind)
      (and₄ (used (sort_class (row_of n)) 5 s (eqb-true (sort_class (row_of n)) 5 h.0) refl) (used (first_class (row_of n)) 1 a (eqb-true (first_class (row_of n)) 1 h.1) refl) k.spare₂ k.spare₃)
      (record {
        class = and₄ (subst (λ (m : ℕ). suits m (sort_at p L s) ≡ true) (sym (eqb-true (sort_class (row_of n)) 5 h.0)) (of_word_sort k.sort))
            (subst (λ (m : ℕ). suits m (L a) ≡ true) (sym (eqb-true (first_class (row_of n)) 1 h.1)) (of_word k.arg)) (number_suits (second_class (row_of n)) (L x) (one_second n (kind_any p n k.kind))) (number_suits (third_class (row_of n)) (L y) (one_third n (kind_any p n k.kind)));
        width = sym (fits_as (fields n s a x y) is_unary (unary_shape p n k.kind) (sort_at p L s) (L a) (L x) (L y) (sym (and₂ k.rule refl)));
        once = sym (once_as (fields n s a x y) is_unary (unary_shape p n k.kind) G (L x) refl);
      })
  val_kept s (Expr.binary n a b) k =
      let h = both (eqb (sort_class (row_of n)) 5) _ (two_row n k.kind) in
      let h₂ = both (eqb (first_class (row_of n)) 1) _ h.1 in
      let e₀ = eqb-true (sort_class (row_of n)) 5 h.0 in
      let e₁ = eqb-true (first_class (row_of n)) 1 h₂.0 in
      let e₂ = eqb-true (second_class (row_of n)) 1 h₂.1 in
      kept p L G (fields n s a b 0) (two_known p n k.kind)
      (and₄ (used (sort_class (row_of n)) 5 s e₀ refl) (used (first_class (row_of n)) 1 a e₁ refl) (used (second_class (row_of n)) 1 b e₂ refl) (unused_zero (third_class (row_of n))))
      (record {
        class = and₄ (subst (λ (m : ℕ). suits m (sort_at p L s) ≡ true) (sym e₀) (of_word_sort k.sort)) (subst (λ (m : ℕ). suits m (L a) ≡ true) (sym e₁) (of_word k.left))
            (subst (λ (m : ℕ). suits m (L b) ≡ true) (sym e₂) (of_word k.right)) (number_suits (third_class (row_of n)) (L 0) (two_third n k.kind));
        width = sym (fits_as (fields n s a b 0) is_binary (shape_binary n k.kind) (sort_at p L s) (L a) (L b) (L 0) (sym (and₂ k.rule refl)));
        once = sym (once_as (fields n s a b 0) is_binary (shape_binary n k.kind) G (L b) refl);
      })
  val_kept s (Expr.equality true a b) k =
      kept p L G (fields 21 s a b 0) (shared p 21 refl refl) refl
      (record {
        class = and₄ (of_word_sort k.sort) (of_value k.left) (of_value k.right) refl;
        width = and₂ (eq-eqb (sort_at p L s).w 1 k.bit) (and₂ (of_same k.same) refl);
        once = refl;
      })
  val_kept s (Expr.equality false a b) k =
      kept p L G (fields 22 s a b 0) (shared p 22 refl refl) refl
      (record {
        class = and₄ (of_word_sort k.sort) (of_value k.left) (of_value k.right) refl;
        width = and₂ (eq-eqb (sort_at p L s).w 1 k.bit) (and₂ (of_same k.same) refl);
        once = refl;
      })
  val_kept s (Expr.ite c a b) k =
      kept p L G (fields 53 s c a b) (shared p 53 refl refl) refl
      (record {
        class = and₄ (of_sort k.sort) (of_word k.cond) (of_value k.left) (of_value k.right);
        width = and₂ (eq-eqb (L c).w 1 k.bit) (and₂ (of_same k.same_a) (and₂ (of_same k.same_b) refl));
        once = refl;
      })
  val_kept s (Expr.read a i) k =
      kept p L G (fields 54 s a i 0) (circuits p 54 k.form refl) refl
      (record {
        class = and₄ (of_word_sort k.sort) (of_array k.arr) (of_word k.index) refl;
        width = and₂ (eq-eqb (L a).w (sort_at p L s).w k.wide) (and₂ (eq-eqb (L i).w (L a).iw k.iw) refl);
        once = refl;
      })
  val_kept s (Expr.write a i v) k =
      kept p L G (fields 55 s a i v) (circuits p 55 k.form refl) refl
      (record {
        class = and₄ (of_array_sort k.sort) (of_array k.arr) (of_word k.index) (of_word k.value);
        width = and₂ (of_same k.same) (and₂ (eq-eqb (L i).w (sort_at p L s).iw k.iw) (and₂ (eq-eqb (L v).w (sort_at p L s).w k.vw) refl));
        once = refl;
      })

  pub complete : (l : Line) → OkLine p L G l → keeps p L G (words_of l) ≡ true
  unfolding row_of suits
  complete (Line.bitvec w) k =
      kept p L G (fields 1 0 w 0 0) (circuits p 1 k.form refl) refl (record { class = refl; width = and₂ (and₂ (le-leb 1 w k.least) (le-leb w 64 k.most)) refl; once = refl })
  complete (Line.array i e) k =
      kept p L G (fields 2 0 i e 0) (circuits p 2 k.form refl) refl
      (record { class = and₄ refl (of_word_sort k.index) (of_word_sort k.element) refl; width = and₂ (le-leb (L i).w 8 k.most) refl; once = refl })
  complete (Line.input s) k = kept p L G (fields 4 s 0 0 0) (shared p 4 refl refl) refl (record { class = and₄ (of_word_sort k) refl refl refl; width = refl; once = refl })
  complete (Line.state s) k = kept p L G (fields 5 s 0 0 0) (shared p 5 refl refl) refl (record { class = and₄ (of_sort k) refl refl refl; width = refl; once = refl })
  complete (Line.value s e) k = val_kept s e k
  complete (Line.init_or_next true s q v) k =
      kept p L G (fields 6 s q v 0) (shared p 6 refl refl) refl
      (record {
        class = and₄ (of_sort k.sort) (eq-eqb (rank (L q).role) 4 k.state) (of_word k.value.word) refl;
        width = and₂ (of_same k.same) (and₂ (eq-eqb (L v).w (sort_at p L s).w k.w) (and₂ (eq-eqb (L v).iw 0 k.iw) refl));
        once = and₂ (ap not k.once) (and₂ (lt-ltb v q k.value.below) (and₂ (ap not k.value.unmarked) refl));
      })
  complete (Line.init_or_next false s q v) k =
      kept p L G (fields 7 s q v 0) (shared p 7 refl refl) refl
      (record {
        class = and₄ (of_sort k.sort) (eq-eqb (rank (L q).role) 4 k.state) (of_value k.value) refl;
        width = and₂ (of_same k.same) (and₂ (eq-eqb (L v).w (sort_at p L s).w k.w) (and₂ (eq-eqb (L v).iw (sort_at p L s).iw k.iw) refl));
        once = and₂ (ap not k.once) refl;
      })
  complete (Line.signal true a) k =
      kept p L G (fields 8 0 a 0 0) (shared p 8 refl refl) refl (record { class = and₄ refl (of_word k.word) refl refl; width = and₂ (eq-eqb (L a).w 1 k.bit) refl; once = refl })
  complete (Line.signal false a) k =
      kept p L G (fields 9 0 a 0 0) (shared p 9 refl refl) refl (record { class = and₄ refl (of_word k.word) refl refl; width = and₂ (eq-eqb (L a).w 1 k.bit) refl; once = refl })
  complete (Line.output a) k = kept p L G (fields 10 0 a 0 0) (shared p 10 refl refl) refl (record { class = and₄ refl (of_word k) refl refl; width = refl; once = refl })
  complete Line.unknown k = absurd k

-- ---- all lines

-- a line's record has the words of a record
pub line_size : (l : Line) → length (words_of l) ≡ record_words
line_size (Line.bitvec w) = refl
line_size (Line.array i e) = refl
line_size (Line.input s) = refl
line_size (Line.state s) = refl
line_size (Line.value s (Expr.const v)) = refl
line_size (Line.value s (Expr.unary k a x y)) = refl
line_size (Line.value s (Expr.binary k a b)) = refl
line_size (Line.value s (Expr.equality e a b)) = refl
line_size (Line.value s (Expr.ite c a b)) = refl
line_size (Line.value s (Expr.read a i)) = refl
line_size (Line.value s (Expr.write a i v)) = refl
line_size (Line.init_or_next m s q v) = refl
line_size (Line.signal m a) = refl
line_size (Line.output a) = refl
line_size Line.unknown = refl

pub lines_sized : (ls : List Line) → Sized (map words_of ls)
lines_sized [] = tt
lines_sized (l ∷ ls) = (line_size l, lines_sized ls)

-- lines that break no rule are read back from their records
pub all_again : (p : Bool) (c : Ctx) (ls : List Line) → AllOk p c ls → map line_of (map words_of ls) ≡ ls
all_again p c [] k = refl
all_again p c (l ∷ ls) k = ap₂ (λ (x : Line) (xs : List Line). x ∷ xs) (again p (ty_at c) (given c) l k.0) (all_again p (grow p c l) ls k.1)

-- which break no rule
pub all_kept : (p : Bool) (c : Ctx) (ls : List Line) → AllOk p c ls → lawful p c (map words_of ls) ≡ true
all_kept p c [] k = refl
all_kept p c (l ∷ ls) k =
    and₂ (complete p (ty_at c) (given c) l k.0)
    (subst (λ (x : Line). lawful p (grow p c x) (map words_of ls) ≡ true) (sym (again p (ty_at c) (given c) l k.0)) (all_kept p (grow p c l) ls k.1))
