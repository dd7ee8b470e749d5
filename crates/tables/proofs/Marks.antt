-- What the mark marks. Of accepted lines a value line is marked exactly if a line of its cone, itself included, is an input or a state; and a search of the cone finds as
-- much. Assumes nothing.
use Rattle.std.specs.Prelude.{Ok}
use Prim.Native.Nat.{ℕ, zero, suc, ◌≤◌}
use mathlib.Core.Path.{◌≡◌, refl, sym, ap, ap₂, ◌∙◌, subst}
use mathlib.Core.Logic.{◌↔◌}
use mathlib.Core.Bool.{Bool, true, false, ◌||◌}
use mathlib.Core.List.{List, [], ◌∷◌}
use native.Mathlib.Omega.{arith}
use lib.Dec.{leb, eqb}
use borrow.Author.Tests.{eqb-true, eq-eqb, leb-true}
use Rattle.tables.specs.declared.Note.{Note}
use Rattle.tables.specs.declared.Ty.{Ty}
use Rattle.tables.specs.Pick.{pick, inside, among}
use Rattle.tables.specs.Lines.{Line, Expr}
use Rattle.tables.specs.Layout.{lines_of}
use Rattle.tables.specs.Types.{rank, ty, is_value, marked, value_role, line_type, ty_at, no_ctx, grow_all, context}
use Rattle.tables.specs.Cone.{line_numbered, uses_expr, uses, Cone, itself, under, is_source, SourceInCone}
use Rattle.tables.specs.Tables.{checked}
use Rattle.tables.specs.Model.Notes.{look_in, Shows}
use Rattle.tables.specs.Search.{any_of, source_within, search_cone, searched}
use Rattle.tables.proofs.Laws.{or_true, or_false}
use Rattle.tables.proofs.Kept.{either, no_yes}
use Rattle.tables.proofs.Shapes.{range}
use Rattle.tables.proofs.Facts.{AllOk}
use Rattle.tables.proofs.Sound.{accepted_ok}
use Rattle.tables.proofs.Values.{role_mark, role_back}
use Rattle.tables.proofs.Cones.{some_line, line_entry, used}

-- ---- a test of the numbers of a list

any_at : (f : ℕ → Bool) (r : List ℕ) (a : ℕ) → among a r ≡ true → f a ≡ true → any_of f r ≡ true
any_at f [] a m e = absurd (no_yes m)
any_at f (x ∷ r) a m e =
    either (eqb a x) (among a r) m (λ q. let h : f x ≡ true = subst (λ (n : ℕ). f n ≡ true) (eqb-true a x q) e in rw h) (λ q. rw (any_at f r a q e, or_true))

record Found (f : ℕ → Bool) (r : List ℕ) : Type 0 where
  number : ℕ
  in_list : among number r ≡ true
  holds : f number ≡ true

any_found : (f : ℕ → Bool) (r : List ℕ) → any_of f r ≡ true → Found f r
any_found f [] e = absurd (no_yes e)
any_found f (x ∷ r) e =
    either (f x) (any_of f r) e (λ q. record { number = x; in_list = rw (eq-eqb x x refl); holds = q })
    (λ q. let k = any_found f r q in record { number = k.number; in_list = rw (k.in_list, or_true); holds = k.holds })

any_same : (f g : ℕ → Bool) (r : List ℕ) → ((a : ℕ) → among a r ≡ true → f a ≡ g a) → any_of f r ≡ any_of g r
any_same f g [] h = refl
any_same f g (x ∷ r) h = ap₂ (λ (a b : Bool). a || b) (h x (rw (eq-eqb x x refl))) (any_same f g r (λ a m. h a (rw (m, or_true))))

-- ---- "marking exactly those that are, or have beneath them, an input or a state": the mark of a line, by those of the lines that it uses

module _ (p : Bool) (L : ℕ → Ty) where
  two : (a b : ℕ) → leb 3 (rank (value_role (marked (L a) || marked (L b)))) ≡ any_of (λ x. marked (L x)) (a ∷ b ∷ [])
  two a b = role_mark (marked (L a) || marked (L b)) ∙ rw (or_false (marked (L b))) refl

  three : (a b c : ℕ) → leb 3 (rank (value_role (marked (L a) || (marked (L b) || marked (L c))))) ≡ any_of (λ x. marked (L x)) (a ∷ b ∷ c ∷ [])
  three a b c = role_mark (marked (L a) || (marked (L b) || marked (L c))) ∙ rw (or_false (marked (L c))) refl

  value_mark : (s : ℕ) (e : Expr) → marked (line_type p L (Line.value s e)) ≡ any_of (λ a. marked (L a)) (uses_expr e)
  value_mark s (Expr.const v) = refl
  value_mark s (Expr.unary k a x y) = role_mark (marked (L a)) ∙ sym (or_false (marked (L a)))
  value_mark s (Expr.binary k a b) = two a b
  value_mark s (Expr.equality e a b) = two a b
  value_mark s (Expr.ite c a b) = three c a b
  value_mark s (Expr.read a i) = two a i
  value_mark s (Expr.write a i v) = three a i v

  pub line_mark : (l : Line) → marked (line_type p L l) ≡ (is_source l || any_of (λ a. marked (L a)) (uses l))
  line_mark (Line.bitvec w) = refl
  line_mark (Line.array i e) = refl
  line_mark (Line.input s) = refl
  line_mark (Line.state s) = refl
  line_mark (Line.value s e) = value_mark s e
  line_mark (Line.init_or_next m s q v) = refl
  line_mark (Line.signal m a) = refl
  line_mark (Line.output a) = refl
  line_mark Line.unknown = refl

-- ---- the mark is the cone's

module _ (p : Bool) (C : List Line) (ok : AllOk p no_ctx C) where
  mark_of : (v : ℕ) → 1 ≤ rank (ty_at (grow_all p no_ctx C) v).role
      → marked (ty_at (grow_all p no_ctx C) v) ≡ (is_source (line_numbered C v) || any_of (λ a. marked (ty_at (grow_all p no_ctx C) a)) (uses (line_numbered C v)))
  mark_of v h =
      let E = line_entry p C ok v h in
      ap marked E.is ∙ line_mark p (ty_at E.before) (line_numbered C v)
      ∙ ap (λ (b : Bool). is_source (line_numbered C v) || b) (any_same _ _ (uses (line_numbered C v)) (λ a m. ap marked (sym (used p C ok v E a m).same)))

  -- an input or a state in the cone marks the line
  source_marks : (v w : ℕ) → 2 ≤ rank (ty_at (grow_all p no_ctx C) v).role → Cone C v w → is_source (line_numbered C w) ≡ true → marked (ty_at (grow_all p no_ctx C) v) ≡ true
  source_marks v w h itself e = mark_of v (omega arith) ∙ rw e
  source_marks v w h (under a m k) e =
      let u = used p C ok v (line_entry p C ok v (omega arith)) a m in
      mark_of v (omega arith) ∙ rw (any_at (λ x. marked (ty_at (grow_all p no_ctx C) x)) (uses (line_numbered C v)) a m (source_marks a w u.is k e), or_true)

  -- what a search finds is in the cone; of a line's whole cone it finds the mark
  found : (n v : ℕ) → source_within n C v ≡ true → SourceInCone C v
  found zero v e = record { line = v; in_cone = itself; is = e }
  found (suc n) v e =
      either (is_source (line_numbered C v)) _ e (λ q. record { line = v; in_cone = itself; is = q })
      (λ q. let k = any_found (source_within n C) (uses (line_numbered C v)) q in
      let S = found n k.number k.holds in
      record { line = S.line; in_cone = under k.number k.in_list S.in_cone; is = S.is })

  finds : (n v : ℕ) → v ≤ n → 2 ≤ rank (ty_at (grow_all p no_ctx C) v).role → source_within n C v ≡ marked (ty_at (grow_all p no_ctx C) v)
  finds zero v l h = absurd (omega (arith, some_line p C ok v (omega arith)))
  finds (suc n) v l h =
      let E = line_entry p C ok v (omega arith) in
      sym
      (mark_of v (omega arith)
      ∙ ap (λ (b : Bool). is_source (line_numbered C v) || b)
      (any_same _ (source_within n C) (uses (line_numbered C v)) (λ a m. let u = used p C ok v E a m in sym (finds n a (omega (arith, u.below)) u.is))))

  pub search_marks : (v : ℕ) → 2 ≤ rank (ty_at (context p C) v).role → search_cone C v ≡ marked (ty_at (context p C) v)
  unfolding context
  search_marks v h = finds v v (omega arith) h

  -- a value line is marked exactly if some line of its cone, itself included, is an input or a state
  pub marks_exactly : (v : ℕ) → 2 ≤ rank (ty_at (context p C) v).role → (marked (ty_at (context p C) v) ≡ true) ↔ SourceInCone C v
  unfolding context
  marks_exactly v h = (λ e. found v v (finds v v (omega arith) h ∙ e), λ S. source_marks v S.line h S.in_cone S.is)

  -- so it is of the marks in the notes that a check keeps
  pub noted_marks : {notes : List Note} → Shows notes (context p C) → (v : ℕ) → 2 ≤ rank (look_in notes v).role → (marked (look_in notes v) ≡ true) ↔ SourceInCone C v
  noted_marks S v = subst (λ (t : Ty). 2 ≤ rank t.role → (marked t ≡ true) ↔ SourceInCone C v) (sym (S.types v)) (marks_exactly v)

  -- a search of the cones leaves the types that are kept
  searched_type : (v : ℕ) → searched C (ty_at (context p C)) v ≡ ty_at (context p C) v
  searched_type v = go (inside 2 3 (rank (ty_at (context p C) v).role)) refl
    where
      t : Ty
      t = ty_at (context p C) v

      go : (b : Bool) → inside 2 3 (rank t.role) ≡ b → pick b (ty (value_role (search_cone C v)) t.iw t.w) t ≡ t
      go false e = refl
      go true e =
          let k = range 2 3 (rank t.role) e in
          let m : value_role (search_cone C v) ≡ t.role = ap value_role (search_marks v k.0) ∙ role_back t.role k.0 k.1 in
          λ j. ty (m j) t.iw t.w

  -- a value that is judged by a search has the mark that the search finds
  pub searched_mark : (v : ℕ) → 2 ≤ rank (ty_at (context p C) v).role → marked (searched C (ty_at (context p C)) v) ≡ search_cone C v
  searched_mark v h = ap marked (searched_type v) ∙ sym (search_marks v h)

  pub searched_types_lem : searched C (ty_at (context p C)) ≡ ty_at (context p C)
  searched_types_lem = λ i v. searched_type v i

-- the same of an accepted table, or of a program
pub table_marks : (p : Bool) (t : List ℕ) (n : ℕ) → checked p t n ≡ Ok tt → (v : ℕ) → is_value (ty_at (context p (lines_of p t n)) v) ≡ true
    → (marked (ty_at (context p (lines_of p t n)) v) ≡ true) ↔ SourceInCone (lines_of p t n) v
table_marks p t n e v h = marks_exactly p (lines_of p t n) (accepted_ok p t n e) v (leb-true 2 _ h)
