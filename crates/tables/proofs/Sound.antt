-- A record that keeps the rules has a line of which the named facts hold. Assumes nothing.
use Rattle.std.specs.Prelude.{Result, Ok, Err}
use Prim.Native.Nat.{ℕ, ◌+◌, ◌^◌, ◌≤◌}
use mathlib.Core.Path.{◌≡◌, refl, sym, ap, ◌∙◌, subst}
use mathlib.Core.Logic.{◌⊎◌, inl, inr}
use mathlib.Core.Bool.{Bool, true, false, not, ◌&&◌}
use mathlib.Core.List.{List, [], ◌∷◌, map}
use native.Mathlib.Omega.{arith}
use lib.Dec.{eqb, leb, ltb}
use lib.ListN.{length}
use borrow.Author.Tests.{eqb-true, ltb-true, leb-true, not-true}
use Rattle.tables.specs.declared.Ty.{Ty}
use Rattle.tables.specs.declared.Refusal.{Refusal}
use Rattle.tables.specs.declared.Refusal.TheVariants.{NotATable}
use Rattle.tables.specs.Pick.{pick, all, inside}
use Rattle.tables.specs.Kinds.{row_of, sort_class, first_class, second_class, third_class}
use Rattle.tables.specs.Lines.{Line, Shape, is_bitvec, is_array as array_shape, is_const, is_input, is_state as state_shape, is_output, is_unary, is_binary, is_ite, is_read, is_write, is_unknown, is_init_or_next, is_signal, is_equality, init_or_next_kind, shape_of, build, line_of, kind_in, sort_in, first_in, second_in, third_in}
use Rattle.tables.specs.Types.{rank, is_sort, is_value, marked, is_word, is_array, is_word_sort, is_array_sort, sort_at, Ctx, ty_at, given, grow, no_ctx}
use Rattle.tables.specs.Rules.{suits, classes, fits, same_sort, once_rules, fault}
use Rattle.tables.specs.Layout.{whole, room as room_of, records_of, lines_of}
use Rattle.tables.specs.Ids.{ids_right}
use Rattle.tables.specs.Tables.{known, unused, tidy, formed, keeps, lawful, broken, checked}
use Rattle.tables.proofs.Every.{at_each, from_to}
use Rattle.tables.proofs.Shapes.{BinaryKind, each_binary, KindOf, kind_of_lem, range}
use Rattle.tables.proofs.Answers.{passed}
use Rattle.tables.proofs.Kept.{both, no_yes, no_mask}
use Rattle.tables.proofs.Checking.{not_accepted}
use Rattle.tables.proofs.Facts.{IsValue, IsWord, IsArray, IsSort, IsWordSort, IsArraySort, Same, OneKind, OkEquality, OkSignal, OkLine, AllOk}

-- ---- classes

word_of : (t : Ty) → is_word t ≡ true → IsWord t
word_of t e = let h = both (is_value t) _ e in record { is = leb-true 2 (rank t.role) h.0; flat = eqb-true t.iw 0 h.1 }

array_of : (t : Ty) → is_array t ≡ true → IsArray t
array_of t e = let h = both (is_value t) _ e in record { is = leb-true 2 (rank t.role) h.0; deep = ltb-true 0 t.iw h.1 }

word_sort_of : (t : Ty) → is_word_sort t ≡ true → IsWordSort t
word_sort_of t e = let h = both (is_sort t) _ e in record { is = eqb-true (rank t.role) 1 h.0; flat = eqb-true t.iw 0 h.1 }

array_sort_of : (t : Ty) → is_array_sort t ≡ true → IsArraySort t
array_sort_of t e = let h = both (is_sort t) _ e in record { is = eqb-true (rank t.role) 1 h.0; deep = ltb-true 0 t.iw h.1 }

value_of_lem : (t : Ty) → is_value t ≡ true → IsValue t
value_of_lem t e = record { is = leb-true 2 (rank t.role) e }

sort_of : (t : Ty) → is_sort t ≡ true → IsSort t
sort_of t e = record { is = eqb-true (rank t.role) 1 e }

same_of : (a t : Ty) → same_sort a t ≡ true → Same a t
same_of a t e = let h = both (eqb a.iw t.iw) _ e in record { iw = eqb-true a.iw t.iw h.0; w = eqb-true a.w t.w h.1 }

-- the four places of a row
record Places (row : List ℕ) (t a b c : Ty) : Type 0 where
  sort : suits (sort_class row) t ≡ true
  first : suits (first_class row) a ≡ true
  second : suits (second_class row) b ≡ true
  third : suits (third_class row) c ≡ true

places : (row : List ℕ) (t a b c : Ty) → all (classes row t a b c) ≡ true → Places row t a b c
places row t a b c e =
    let h₁ = both (suits (sort_class row) t) _ e in
    let h₂ = both (suits (first_class row) a) _ h₁.1 in
    let h₃ = both (suits (second_class row) b) _ h₂.1 in
    let h₄ = both (suits (third_class row) c) _ h₃.1 in
    record { sort = h₁.0; first = h₂.0; second = h₃.0; third = h₄.0 }

-- ---- the rows of the operators: computed tests

abbrev pub one_row? : ℕ → Bool
one_row? k = eqb (sort_class (row_of k)) 5 && eqb (first_class (row_of k)) 1

abbrev pub two_row? : ℕ → Bool
two_row? k = eqb (sort_class (row_of k)) 5 && (eqb (first_class (row_of k)) 1 && eqb (second_class (row_of k)) 1)

pub one_row : (k : ℕ) → ((11 ≤ k) × (k ≤ 20)) ⊎ (k ≡ 56) → one_row? k ≡ true
unfolding row_of
one_row k (inl h) = from_to one_row? 11 10 k (at_each (λ (m : ℕ). one_row? (m + 11)) 10 tt) h.0 (omega arith)
one_row k (inr e) = ap one_row? e

pub two_row : (k : ℕ) → BinaryKind k → two_row? k ≡ true
unfolding row_of
two_row = each_binary two_row? tt tt

-- ---- a record that keeps the rules

in_circuit : (p : Bool) (k n : ℕ) → k ≡ n → known true n ≡ false → known p k ≡ true → p ≡ false
in_circuit false k n e f h = refl
in_circuit true k n e f h = absurd (no_yes (sym f ∙ subst (λ (m : ℕ). known true m ≡ true) e h))

one_kind : (p : Bool) (k : ℕ) → known p k ≡ true → ((11 ≤ k) × (k ≤ 20)) ⊎ (k ≡ 56) → OneKind p k
one_kind true k h q = q
one_kind false k h (inl q) = q
one_kind false k h (inr e) = absurd (no_mask k h e)

module _ (p : Bool) (L : ℕ → Ty) (G : Bool → ℕ → Bool) (k s x y z : ℕ) (kn : known p k ≡ true) (ti : all (tidy (row_of k) (k ∷ s ∷ x ∷ y ∷ z ∷ [])) ≡ true)
    (cl : all (classes (row_of k) (sort_at p L s) (L x) (L y) (L z)) ≡ true) where
  abbrev t : Ty
  t = sort_at p L s

  row_at : (n : ℕ) → k ≡ n → Places (row_of n) (sort_at p L s) (L x) (L y) (L z)
  row_at n e = subst (λ (m : ℕ). Places (row_of m) (sort_at p L s) (L x) (L y) (L z)) e (places (row_of k) (sort_at p L s) (L x) (L y) (L z) cl)

  spare : (unused (second_class (row_of k)) y ≡ true) × (unused (third_class (row_of k)) z ≡ true)
  spare =
      let h₁ = both (unused (sort_class (row_of k)) s) _ ti in
      let h₂ = both (unused (first_class (row_of k)) x) _ h₁.1 in
      let h₃ = both (unused (second_class (row_of k)) y) _ h₂.1 in
      let h₄ = both (unused (third_class (row_of k)) z) _ h₃.1 in
      (h₃.0, h₄.0)

  init_next_ok : (m : Bool) → k ≡ init_or_next_kind m → all (fits (Line.init_or_next m s x y) (sort_at p L s) (L x) (L y) (L z)) ≡ true → all (once_rules (Line.init_or_next m s x y) G (L y)) ≡ true
      → OkLine p L G (Line.init_or_next m s x y)
  unfolding row_of suits
  init_next_ok true q f o =
      let c = row_at 6 q in
      let f₁ = both (same_sort (L x) t) _ f in
      let f₂ = both (eqb (L y).w t.w) _ f₁.1 in
      let f₃ = both (eqb (L y).iw 0) _ f₂.1 in
      let o₁ = both (not (G true x)) _ o in
      let o₂ = both (ltb y x) _ o₁.1 in
      let o₃ = both (not (marked (L y))) _ o₂.1 in
      record {
        sort = sort_of t c.sort;
        state = eqb-true (rank (L x).role) 4 c.first;
        same = same_of (L x) t f₁.0;
        value = record { word = word_of (L y) c.second; below = ltb-true y x o₂.0; unmarked = not-true (marked (L y)) o₃.0 };
        iw = eqb-true (L y).iw 0 f₃.0;
        w = eqb-true (L y).w t.w f₂.0;
        once = not-true (G true x) o₁.0;
      }
  init_next_ok false q f o =
      let c = row_at 7 q in
      let f₁ = both (same_sort (L x) t) _ f in
      let f₂ = both (eqb (L y).w t.w) _ f₁.1 in
      let f₃ = both (eqb (L y).iw t.iw) _ f₂.1 in
      let o₁ = both (not (G false x)) _ o in
      record {
        sort = sort_of t c.sort;
        state = eqb-true (rank (L x).role) 4 c.first;
        same = same_of (L x) t f₁.0;
        value = value_of_lem (L y) c.second;
        iw = eqb-true (L y).iw t.iw f₃.0;
        w = eqb-true (L y).w t.w f₂.0;
        once = not-true (G false x) o₁.0;
      }

  signal_ok : (n : ℕ) → k ≡ n → first_class (row_of n) ≡ 1 → all (eqb (L x).w 1 ∷ []) ≡ true → OkSignal (L x)
  unfolding suits
  signal_ok n q e f = record { word = word_of (L x) (subst (λ (m : ℕ). suits m (L x) ≡ true) e (row_at n q).first); bit = eqb-true (L x).w 1 (both (eqb (L x).w 1) _ f).0 }

  equality_ok : (n : ℕ) → k ≡ n → sort_class (row_of n) ≡ 5 → first_class (row_of n) ≡ 3 → second_class (row_of n) ≡ 3 → all (eqb t.w 1 ∷ same_sort (L y) (L x) ∷ []) ≡ true → OkEquality t (L x) (L y)
  unfolding suits
  equality_ok n q e₀ e₁ e₂ f =
      let c = row_at n q in
      let f₁ = both (eqb t.w 1) _ f in
      record {
        sort = word_sort_of t (subst (λ (m : ℕ). suits m t ≡ true) e₀ c.sort);
        bit = eqb-true t.w 1 f₁.0;
        left = value_of_lem (L x) (subst (λ (m : ℕ). suits m (L x) ≡ true) e₁ c.first);
        right = value_of_lem (L y) (subst (λ (m : ℕ). suits m (L y) ≡ true) e₂ c.second);
        same = same_of (L y) (L x) (both (same_sort (L y) (L x)) _ f₁.1).0;
      }

  shape_ok : (S : Shape) → shape_of k ≡ S → KindOf S k → all (fits (build S k s x y z) (sort_at p L s) (L x) (L y) (L z)) ≡ true → all (once_rules (build S k s x y z) G (L y)) ≡ true
      → OkLine p L G (build S k s x y z)
  unfolding row_of suits
  shape_ok is_bitvec e q f o =
      let h = range 1 64 x (both (inside 1 64 x) _ f).0 in
      record { form = in_circuit p k 1 q refl kn; least = h.0; most = h.1 }
  shape_ok array_shape e q f o =
      let c = row_at 2 q in
      record {
        form = in_circuit p k 2 q refl kn;
        index = word_sort_of (L x) c.first;
        element = word_sort_of (L y) c.second;
        most = leb-true (L x).w 8 (both (leb (L x).w 8) _ f).0;
      }
  shape_ok is_const e q f o = record { sort = word_sort_of t (row_at 3 q).sort; fits = ltb-true x (2 ^ t.w) (both (ltb x (2 ^ t.w)) _ f).0 }
  shape_ok is_input e q f o = word_sort_of t (row_at 4 q).sort
  shape_ok state_shape e q f o = sort_of t (row_at 5 q).sort
  shape_ok is_output e q f o = word_of (L x) (row_at 10 q).first
  shape_ok is_unary e q f o =
      let c = row_at k refl in
      let r = both (eqb (sort_class (row_of k)) 5) _ (one_row k q) in
      record {
        kind = one_kind p k kn q;
        sort = word_sort_of t (subst (λ (m : ℕ). suits m t ≡ true) (eqb-true (sort_class (row_of k)) 5 r.0) c.sort);
        arg = word_of (L x) (subst (λ (m : ℕ). suits m (L x) ≡ true) (eqb-true (first_class (row_of k)) 1 r.1) c.first);
        rule = (both _ _ f).0;
        spare₂ = spare.0;
        spare₃ = spare.1;
      }
  shape_ok is_binary e q f o =
      let c = row_at k refl in
      let r = both (eqb (sort_class (row_of k)) 5) _ (two_row k q) in
      let r₂ = both (eqb (first_class (row_of k)) 1) _ r.1 in
      record {
        kind = q;
        sort = word_sort_of t (subst (λ (m : ℕ). suits m t ≡ true) (eqb-true (sort_class (row_of k)) 5 r.0) c.sort);
        left = word_of (L x) (subst (λ (m : ℕ). suits m (L x) ≡ true) (eqb-true (first_class (row_of k)) 1 r₂.0) c.first);
        right = word_of (L y) (subst (λ (m : ℕ). suits m (L y) ≡ true) (eqb-true (second_class (row_of k)) 1 r₂.1) c.second);
        rule = (both _ _ f).0;
      }
  shape_ok is_ite e q f o =
      let c = row_at 53 q in
      let f₁ = both (eqb (L x).w 1) _ f in
      let f₂ = both (same_sort (L y) t) _ f₁.1 in
      record {
        sort = sort_of t c.sort;
        cond = word_of (L x) c.first;
        bit = eqb-true (L x).w 1 f₁.0;
        left = value_of_lem (L y) c.second;
        right = value_of_lem (L z) c.third;
        same_a = same_of (L y) t f₂.0;
        same_b = same_of (L z) t (both (same_sort (L z) t) _ f₂.1).0;
      }
  shape_ok is_read e q f o =
      let c = row_at 54 q in
      let f₁ = both (eqb (L x).w t.w) _ f in
      record {
        form = in_circuit p k 54 q refl kn;
        sort = word_sort_of t c.sort;
        arr = array_of (L x) c.first;
        index = word_of (L y) c.second;
        wide = eqb-true (L x).w t.w f₁.0;
        iw = eqb-true (L y).w (L x).iw (both (eqb (L y).w (L x).iw) _ f₁.1).0;
      }
  shape_ok is_write e q f o =
      let c = row_at 55 q in
      let f₁ = both (same_sort (L x) t) _ f in
      let f₂ = both (eqb (L y).w t.iw) _ f₁.1 in
      record {
        form = in_circuit p k 55 q refl kn;
        sort = array_sort_of t c.sort;
        arr = array_of (L x) c.first;
        index = word_of (L y) c.second;
        value = word_of (L z) c.third;
        same = same_of (L x) t f₁.0;
        iw = eqb-true (L y).w t.iw f₂.0;
        vw = eqb-true (L z).w t.w (both (eqb (L z).w t.w) _ f₂.1).0;
      }
  shape_ok is_unknown e q f o = no_yes f
  shape_ok (is_init_or_next m) e q f o = init_next_ok m q f o
  shape_ok (is_signal true) e q f o = signal_ok 8 q refl f
  shape_ok (is_signal false) e q f o = signal_ok 9 q refl f
  shape_ok (is_equality true) e q f o = equality_ok 21 q refl refl refl f
  shape_ok (is_equality false) e q f o = equality_ok 22 q refl refl refl f

-- a record that keeps the rules
pub sound : (p : Bool) (L : ℕ → Ty) (G : Bool → ℕ → Bool) (r : List ℕ) → keeps p L G r ≡ true → OkLine p L G (line_of r)
sound p L G r h =
    let k : ℕ = kind_in r in
    let h₁ = both (formed p r) _ h in
    let h₂ = both (known p k) _ h₁.0 in
    let g = passed p L G r (eqb-true (fault p L G r) 0 h₁.1) in
    shape_ok p L G k (sort_in r) (first_in r) (second_in r) (third_in r) h₂.0 h₂.1 g.class (shape_of k) refl (kind_of_lem k) g.width g.once

-- ---- all records, and the lines of an accepted table

pub all_sound : (p : Bool) (c : Ctx) (rs : List (List ℕ)) → lawful p c rs ≡ true → AllOk p c (map line_of rs)
all_sound p c [] h = tt
all_sound p c (r ∷ rs) h = let e = both (keeps p (ty_at c) (given c) r) _ h in (sound p (ty_at c) (given c) r e.0, all_sound p (grow p c (line_of r)) rs e.1)

-- what an accepted table keeps
pub record Admitted (p : Bool) (t : List ℕ) (n : ℕ) : Type 0 where
  pub table : whole p (length t) ≡ true
  pub room : n ≤ room_of p (length t)
  pub law : lawful p no_ctx (records_of p t n) ≡ true
  pub ids : ids_right p t n ≡ true

pub accepted_table : (p : Bool) (t : List ℕ) (n : ℕ) → checked p t n ≡ Ok tt → Admitted p t n
unfolding checked
accepted_table p t n e = go (whole p (length t)) (leb n (room_of p (length t)) && (lawful p no_ctx (records_of p t n) && ids_right p t n)) refl refl e
  where
    go : (a b : Bool) → whole p (length t) ≡ a → (leb n (room_of p (length t)) && (lawful p no_ctx (records_of p t n) && ids_right p t n)) ≡ b
        → ◌≡◌ {A = Result (Unit {0}) Refusal} (pick a (pick b (Ok tt) (Err (broken p))) (Err NotATable)) (Ok tt) → Admitted p t n
    go true true q r z =
        let x = both (leb n (room_of p (length t))) _ r in
        let y = both (lawful p no_ctx (records_of p t n)) _ x.1 in
        record { table = q; room = leb-true n (room_of p (length t)) x.0; law = y.0; ids = y.1 }
    go true false q r z = absurd (not_accepted (broken p) z)
    go false b q r z = absurd (not_accepted NotATable z)

pub accepted_lawful : (p : Bool) (t : List ℕ) (n : ℕ) → checked p t n ≡ Ok tt → lawful p no_ctx (records_of p t n) ≡ true
accepted_lawful p t n e = (accepted_table p t n e).law

pub accepted_room : (p : Bool) (t : List ℕ) (n : ℕ) → checked p t n ≡ Ok tt → (whole p (length t) ≡ true) × (n ≤ room_of p (length t))
accepted_room p t n e = let k = accepted_table p t n e in (k.table, k.room)

pub accepted_ok : (p : Bool) (t : List ℕ) (n : ℕ) → checked p t n ≡ Ok tt → AllOk p no_ctx (lines_of p t n)
accepted_ok p t n e = all_sound p no_ctx (records_of p t n) (accepted_lawful p t n e)
