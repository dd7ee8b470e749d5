-- The notes that a check keeps go on holding the context, line after line. Assumes nothing.
use Prim.Native.Nat.{ℕ, zero, suc, ◌≤◌, ◌<◌}
use mathlib.Core.Path.{◌≡◌, refl, sym, ap, ap₂, ◌∙◌, subst}
use mathlib.Core.Logic.{inl, inr}
use mathlib.Core.Bool.{Bool, true, false, not, ◌||◌}
use mathlib.Core.List.{List, [], ◌∷◌, ◌++◌}
use native.Mathlib.Omega.{arith}
use lib.Dec.{eqb, leb}
use lib.ListN.{length, get_or, set, length-set, length-append, get_or-eq_default}
use lib.Seq.{get_or-set_same, get_or-set_other, get_or_at, set_out}
use borrow.Author.Tests.{eqb-true, eqb-false, eq-eqb, ne_eqb, leb-true, leb-false}
use Rattle.tables.specs.declared.Ty.{Ty}
use Rattle.tables.specs.declared.Note.{Note}
use Rattle.tables.specs.Pick.{pick, all, among, alike}
use Rattle.tables.specs.Kinds.{row_of, sort_class, first_class}
use Rattle.tables.specs.Lines.{Shape, is_bitvec, is_array, is_const, is_input, is_state as state_shape, is_output, is_unary, is_binary, is_ite, is_read, is_write, is_unknown, is_init_or_next, is_signal, is_equality, init_or_next_kind, shape_of, build, line_of, kind_in, sort_in, first_in, second_in, third_in}
use Rattle.tables.specs.Layout.{record_words}
use Rattle.tables.specs.Types.{rank, no_ty, is_state, sort_at, record_type, line_type, Ctx, ty_at, given_by, given, given_after, grow}
use Rattle.tables.specs.Rules.{suits, classes, fault}
use Rattle.tables.specs.Tables.{formed, keeps}
use Rattle.tables.specs.Model.Notes.{blank, note_at, look_in, flag_in, given_in, Shows, typed, with_flag, flagged_by, noted}
use Rattle.tables.proofs.Laws.{or_true, or_false, or_assoc}
use Rattle.tables.proofs.Shapes.{binary_range, KindOf, kind_of_lem, line_as, no_unknown}
use Rattle.tables.proofs.Answers.{passed}
use Rattle.tables.proofs.Kept.{both}
use Rattle.tables.proofs.Formed.{words_back}

-- ---- lists that grow at the end

pub snoc_other : {A : Type 0} (xs : List A) (x d : A) (a : ℕ) → (a ≡ length xs → ⊥) → get_or (xs ++ (x ∷ [])) a d ≡ get_or xs a d
snoc_other [] x d zero n = absurd (n refl)
snoc_other [] x d (suc a) n = refl
snoc_other (y ∷ xs) x d zero n = refl
snoc_other (y ∷ xs) x d (suc a) n = snoc_other xs x d a (λ e. n (ap suc e))

pub by_place : {P : Type 0} (a n : ℕ) → (a ≡ n → P) → ((a ≡ n → ⊥) → P) → P
by_place {P} a n f g = go (eqb a n) refl
  where
    go : (b : Bool) → eqb a n ≡ b → P
    go true e = f (eqb-true a n e)
    go false e = g (eqb-false a n e)

pub among_join : (n : ℕ) (xs ys : List ℕ) → among n (xs ++ ys) ≡ (among n xs || among n ys)
among_join n [] ys = refl
among_join n (x ∷ xs) ys = ap (λ (b : Bool). eqb n x || b) (among_join n xs ys) ∙ or_assoc (eqb n x) (among n xs) (among n ys)

pub among_snoc : (n : ℕ) (xs : List ℕ) (q : ℕ) → among n (xs ++ (q ∷ [])) ≡ (among n xs || eqb n q)
among_snoc n xs q = among_join n xs (q ∷ []) ∙ ap (λ (b : Bool). among n xs || b) (or_false (eqb n q))

-- ---- the states that have an init or a next line

-- an init or a next adds its state, any other line none
pub given_as : (m : Bool) (c : Ctx) (r : List ℕ) → given_after m c (line_of r) ≡ pick (eqb (kind_in r) (init_or_next_kind m)) (given_by m c ++ (first_in r ∷ [])) (given_by m c)
given_as m c r = go (shape_of (kind_in r)) refl (kind_of_lem (kind_in r))
  where
    k : ℕ
    k = kind_in r

    six : (n : ℕ) → (kind_in r ≡ n) → (eqb n (init_or_next_kind m) ≡ false) → eqb (kind_in r) (init_or_next_kind m) ≡ false
    six n e f = subst (λ (x : ℕ). eqb x (init_or_next_kind m) ≡ false) (sym e) f

    far : (m : Bool) → 11 ≤ kind_in r → eqb (kind_in r) (init_or_next_kind m) ≡ false
    far true h = ne_eqb (kind_in r) 6 (λ e. omega arith)
    far false h = ne_eqb (kind_in r) 7 (λ e. omega arith)

    junk : (m : Bool) → shape_of (kind_in r) ≡ is_unknown → eqb (kind_in r) (init_or_next_kind m) ≡ false
    junk true e = ne_eqb (kind_in r) 6 (λ q. no_unknown (kind_in r) (omega arith) (omega arith) e)
    junk false e = ne_eqb (kind_in r) 7 (λ q. no_unknown (kind_in r) (omega arith) (omega arith) e)

    other : (m : Bool) (n : ℕ) → (n ≡ 6 → ⊥) → (n ≡ 7 → ⊥) → eqb n (init_or_next_kind m) ≡ false
    other true n f g = ne_eqb n 6 f
    other false n f g = ne_eqb n 7 g

    rest : (S : Shape) → shape_of (kind_in r) ≡ S → given_after m c (build S (kind_in r) (sort_in r) (first_in r) (second_in r) (third_in r)) ≡ given_by m c → eqb (kind_in r) (init_or_next_kind m) ≡ false
        → given_after m c (line_of r) ≡ pick (eqb (kind_in r) (init_or_next_kind m)) (given_by m c ++ (first_in r ∷ [])) (given_by m c)
    rest S e q f = ap (given_after m c) (line_as r S e) ∙ q ∙ ap (λ (b : Bool). pick b (given_by m c ++ (first_in r ∷ [])) (given_by m c)) (sym f)

    gives : (n m : Bool) → kind_in r ≡ init_or_next_kind n
        → pick (alike m n) (given_by m c ++ (first_in r ∷ [])) (given_by m c) ≡ pick (eqb (kind_in r) (init_or_next_kind m)) (given_by m c ++ (first_in r ∷ [])) (given_by m c)
    gives true true q = rw q refl
    gives true false q = rw q refl
    gives false true q = rw q refl
    gives false false q = rw q refl

    go : (S : Shape) → shape_of (kind_in r) ≡ S → KindOf S (kind_in r)
        → given_after m c (line_of r) ≡ pick (eqb (kind_in r) (init_or_next_kind m)) (given_by m c ++ (first_in r ∷ [])) (given_by m c)
    go is_bitvec e q = rest is_bitvec e refl (other m (kind_in r) (λ z. omega arith) (λ z. omega arith))
    go is_array e q = rest is_array e refl (other m (kind_in r) (λ z. omega arith) (λ z. omega arith))
    go is_const e q = rest is_const e refl (other m (kind_in r) (λ z. omega arith) (λ z. omega arith))
    go is_input e q = rest is_input e refl (other m (kind_in r) (λ z. omega arith) (λ z. omega arith))
    go state_shape e q = rest state_shape e refl (other m (kind_in r) (λ z. omega arith) (λ z. omega arith))
    go is_output e q = rest is_output e refl (other m (kind_in r) (λ z. omega arith) (λ z. omega arith))
    go is_unary e (inl q) = rest is_unary e refl (other m (kind_in r) (λ z. omega arith) (λ z. omega arith))
    go is_unary e (inr q) = rest is_unary e refl (other m (kind_in r) (λ z. omega arith) (λ z. omega arith))
    go is_binary e q = let h = binary_range q in rest is_binary e refl (other m (kind_in r) (λ z. omega arith) (λ z. omega arith))
    go is_ite e q = rest is_ite e refl (other m (kind_in r) (λ z. omega arith) (λ z. omega arith))
    go is_read e q = rest is_read e refl (other m (kind_in r) (λ z. omega arith) (λ z. omega arith))
    go is_write e q = rest is_write e refl (other m (kind_in r) (λ z. omega arith) (λ z. omega arith))
    go is_unknown e q = rest is_unknown e refl (junk m e)
    go (is_init_or_next n) e q = ap (given_after m c) (line_as r (is_init_or_next n) e) ∙ gives n m q
    go (is_signal true) e q = rest (is_signal true) e refl (other m (kind_in r) (λ z. omega arith) (λ z. omega arith))
    go (is_signal false) e q = rest (is_signal false) e refl (other m (kind_in r) (λ z. omega arith) (λ z. omega arith))
    go (is_equality true) e q = rest (is_equality true) e refl (other m (kind_in r) (λ z. omega arith) (λ z. omega arith))
    go (is_equality false) e q = rest (is_equality false) e refl (other m (kind_in r) (λ z. omega arith) (λ z. omega arith))

-- a flag at the state q
flagged_at : (m : Bool) (notes : List Note) (xs : List ℕ) (q : ℕ) → q < length notes → ((n : ℕ) → given_in notes m n ≡ among n xs)
    → (n : ℕ) → given_in (set notes q (with_flag m (note_at notes q))) m n ≡ among n (xs ++ (q ∷ []))
flagged_at m notes xs q h f n =
    by_place n q
    (λ e. subst (λ (j : ℕ). given_in (set notes q (with_flag m (note_at notes q))) m j ≡ among j (xs ++ (q ∷ []))) (sym e)
    (ap (λ (r : Note). flag_in m r) (get_or-set_same notes q (with_flag m (note_at notes q)) blank h) ∙ own m ∙ sym (among_snoc q xs q ∙ rw (eq-eqb q q refl, or_true))))
    (λ e. ap (λ (r : Note). flag_in m r) (get_or-set_other notes q n (with_flag m (note_at notes q)) blank e) ∙ f n ∙ sym (among_snoc n xs q ∙ rw (ne_eqb n q e, or_false)))
  where
    own : (m : Bool) → flag_in m (with_flag m (note_at notes q)) ≡ true
    own true = refl
    own false = refl

state_first : (k : ℕ) (t a b c : Ty) → first_class (row_of k) ≡ 4 → all (classes (row_of k) t a b c) ≡ true → is_state a ≡ true
unfolding suits
state_first k t a b c e h = subst (λ (n : ℕ). suits n a ≡ true) e (both (suits (first_class (row_of k)) a) _ (both (suits (sort_class (row_of k)) t) _ h).1).0

six_state : first_class (row_of 6) ≡ 4
unfolding row_of
six_state = refl

seven_state : first_class (row_of 7) ≡ 4
unfolding row_of
seven_state = refl

-- the state that an init or a next line names is one
pub named : (p m : Bool) (L : ℕ → Ty) (G : Bool → ℕ → Bool) (r : List ℕ) → fault p L G r ≡ 0 → kind_in r ≡ init_or_next_kind m → is_state (L (first_in r)) ≡ true
named p m L G r e k = at m (subst (λ (n : ℕ). all (classes (row_of n) t (L (first_in r)) (L (second_in r)) (L (third_in r))) ≡ true) k (passed p L G r e).class)
  where
    t : Ty
    t = sort_at p L (sort_in r)

    at : (m : Bool) → all (classes (row_of (init_or_next_kind m)) t (L (first_in r)) (L (second_in r)) (L (third_in r))) ≡ true → is_state (L (first_in r)) ≡ true
    at true h = state_first 6 t (L (first_in r)) (L (second_in r)) (L (third_in r)) six_state h
    at false h = state_first 7 t (L (first_in r)) (L (second_in r)) (L (third_in r)) seven_state h

-- a line of some role is an earlier line
pub earlier : (ts : List Ty) (a : ℕ) → 1 ≤ rank (get_or ts a no_ty).role → a < length ts
earlier ts a h = by_length (leb (length ts) a) refl
  where
    by_length : (b : Bool) → leb (length ts) a ≡ b → a < length ts
    by_length true e = absurd (omega (arith, subst (λ (t : Ty). 1 ≤ rank t.role) (get_or-eq_default ts no_ty {n = a} (leb-true (length ts) a e)) h))
    by_length false e = leb-false (length ts) a e

-- ---- the parts of a note

-- a property of notes that the new note at q shares with the old one
same_at : {B : Type 0} (g : Note → B) (notes : List Note) (q : ℕ) (r : Note) → g r ≡ g (note_at notes q) → (a : ℕ) → g (note_at (set notes q r) a) ≡ g (note_at notes a)
same_at g notes q r e a = go (leb (length notes) q) refl
  where
    go : (b : Bool) → leb (length notes) q ≡ b → g (note_at (set notes q r) a) ≡ g (note_at notes a)
    go true h = ap (λ (l : List Note). g (note_at l a)) (set_out notes q r (leb-true (length notes) q h))
    go false h =
        by_place a q
        (λ z. subst (λ (j : ℕ). g (note_at (set notes q r) j) ≡ g (note_at notes j)) (sym z) (ap g (get_or-set_same notes q r blank (leb-false (length notes) q h)) ∙ e))
        (λ z. ap g (get_or-set_other notes q a r blank z))

-- a flag leaves the types and the other flags
flag_types : (m : Bool) (r : List ℕ) (notes : List Note) (a : ℕ) → look_in (flagged_by m r notes) a ≡ look_in notes a
flag_types m r notes a = go (eqb (kind_in r) (init_or_next_kind m)) m
  where
    go : (b m : Bool) → look_in (pick b (set notes (first_in r) (with_flag m (note_at notes (first_in r)))) notes) a ≡ look_in notes a
    go true true = same_at (λ (x : Note). x.ty) notes (first_in r) (with_flag true (note_at notes (first_in r))) refl a
    go true false = same_at (λ (x : Note). x.ty) notes (first_in r) (with_flag false (note_at notes (first_in r))) refl a
    go false m = refl

other_flag : (m : Bool) (r : List ℕ) (notes : List Note) (q : ℕ) → given_in (flagged_by (not m) r notes) m q ≡ given_in notes m q
other_flag m r notes q = go (eqb (kind_in r) (init_or_next_kind (not m))) m
  where
    go : (b m : Bool) → given_in (pick b (set notes (first_in r) (with_flag (not m) (note_at notes (first_in r)))) notes) m q ≡ given_in notes m q
    go true true = same_at (λ (x : Note). flag_in true x) notes (first_in r) (with_flag false (note_at notes (first_in r))) refl q
    go true false = same_at (λ (x : Note). flag_in false x) notes (first_in r) (with_flag true (note_at notes (first_in r))) refl q
    go false m = refl

-- a type leaves the flags
type_flags : (m : Bool) (n : ℕ) (y : Ty) (notes : List Note) (q : ℕ) → given_in (set notes n (typed y (note_at notes n))) m q ≡ given_in notes m q
type_flags true n y notes q = same_at (λ (x : Note). flag_in true x) notes n (typed y (note_at notes n)) refl q
type_flags false n y notes q = same_at (λ (x : Note). flag_in false x) notes n (typed y (note_at notes n)) refl q

same_flags : (m : Bool) (r : List ℕ) (notes : List Note) → length (flagged_by m r notes) ≡ length notes
same_flags m r notes = go (eqb (kind_in r) (init_or_next_kind m))
  where
    go : (b : Bool) → length (pick b (set notes (first_in r) (with_flag m (note_at notes (first_in r)))) notes) ≡ length notes
    go true = length-set notes (first_in r) (with_flag m (note_at notes (first_in r)))
    go false = refl

pub length_noted : (p : Bool) (r : List ℕ) (n : ℕ) (notes : List Note) → length (noted p r n notes) ≡ length notes
unfolding noted
length_noted p r n notes =
    let y = typed (record_type p (look_in notes) r (line_of r)) (note_at notes n) in
    same_flags false r (flagged_by true r (set notes n y)) ∙ same_flags true r (set notes n y) ∙ length-set notes n y

-- ---- one line more

module _ {notes : List Note} {c : Ctx} (p : Bool) (r : List ℕ) {n : ℕ} (sh : Shows notes c) (ln : length c.tys ≡ n) (hn : n < length notes) (lr : length r ≡ record_words)
    (kp : keeps p (ty_at c) (given c) r ≡ true) where
  lookups : look_in notes ≡ ty_at c
  lookups = λ i a. sh.types a i

  well : formed p r ≡ true
  well = (both (formed p r) _ kp).0

  fine : fault p (ty_at c) (given c) r ≡ 0
  fine = eqb-true (fault p (ty_at c) (given c) r) 0 (both (formed p r) _ kp).1

  abbrev new : Ty
  new = record_type p (look_in notes) r (line_of r)

  abbrev put : List Note
  put = set notes n (typed (record_type p (look_in notes) r (line_of r)) (note_at notes n))

  is_new : record_type p (look_in notes) r (line_of r) ≡ line_type p (ty_at c) (line_of r)
  is_new = ap₂ (λ (L : ℕ → Ty) (x : List ℕ). record_type p L x (line_of r)) lookups (sym (words_back p r lr well))

  types_put : (a : ℕ) → look_in put a ≡ ty_at (grow p c (line_of r)) a
  types_put a =
      by_place a n
      (λ e. subst (λ (j : ℕ). look_in put j ≡ ty_at (grow p c (line_of r)) j) (sym e)
      (ap (λ (x : Note). x.ty) (get_or-set_same notes n (typed new (note_at notes n)) blank hn) ∙ is_new
      ∙ sym (get_or_at c.tys (line_type p (ty_at c) (line_of r)) [] no_ty n ln)))
      (λ e. ap (λ (x : Note). x.ty) (get_or-set_other notes n a (typed new (note_at notes n)) blank e) ∙ sh.types a
      ∙ sym (snoc_other c.tys (line_type p (ty_at c) (line_of r)) no_ty a (λ q. e (q ∙ ln))))

  -- the flags of one kind of line
  flags_of : (m : Bool) (xs : List Note) → length xs ≡ length notes → ((q : ℕ) → given_in xs m q ≡ given c m q)
      → (q : ℕ) → given_in (flagged_by m r xs) m q ≡ among q (given_after m c (line_of r))
  flags_of m xs l f q = go (eqb (kind_in r) (init_or_next_kind m)) refl
    where
      go : (b : Bool) → eqb (kind_in r) (init_or_next_kind m) ≡ b → given_in (flagged_by m r xs) m q ≡ among q (given_after m c (line_of r))
      go true e =
          let st = named p m (ty_at c) (given c) r fine (eqb-true (kind_in r) (init_or_next_kind m) e) in
          let at = earlier c.tys (first_in r) (omega (arith, eqb-true (rank (ty_at c (first_in r)).role) 4 st)) in
          ap (λ (b : Bool). given_in (pick b (set xs (first_in r) (with_flag m (note_at xs (first_in r)))) xs) m q) e
          ∙ flagged_at m xs (given_by m c) (first_in r) (omega arith) f q ∙ sym (ap (among q) (given_as m c r ∙ ap (λ (b : Bool). pick b (given_by m c ++ (first_in r ∷ [])) (given_by m c)) e))
      go false e =
          ap (λ (b : Bool). given_in (pick b (set xs (first_in r) (with_flag m (note_at xs (first_in r)))) xs) m q) e
          ∙ f q ∙ sym (ap (among q) (given_as m c r ∙ ap (λ (b : Bool). pick b (given_by m c ++ (first_in r ∷ [])) (given_by m c)) e))

  flags_put : (m : Bool) (q : ℕ) → given_in put m q ≡ given c m q
  flags_put m q = type_flags m n new notes q ∙ sh.flags m q

  long_put : length put ≡ length notes
  long_put = length-set notes n (typed new (note_at notes n))

  flags_more : (m : Bool) (q : ℕ) → given_in (flagged_by false r (flagged_by true r put)) m q ≡ given (grow p c (line_of r)) m q
  flags_more true q = other_flag true r (flagged_by true r put) q ∙ flags_of true put long_put (flags_put true) q
  flags_more false q =
      flags_of false (flagged_by true r put) (same_flags true r put ∙ long_put) (λ x. other_flag false r put x ∙ flags_put false x) q

  pub shows_more : Shows (noted p r n notes) (grow p c (line_of r))
  unfolding noted
  shows_more =
      record { types = λ a. flag_types false r (flagged_by true r put) a ∙ flag_types true r put a ∙ types_put a; flags = flags_more }

  pub length_more : length (grow p c (line_of r)).tys ≡ suc n
  length_more = length-append c.tys _ ∙ omega arith
