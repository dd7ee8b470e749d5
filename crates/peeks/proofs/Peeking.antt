-- What peek's two functions ask of the lines that they look at, and what they find. Assumes nothing.
use Prim.Native.Nat.{ℕ, zero, suc, ◌-◌, ◌^◌, ◌≤◌, ◌<◌}
use mathlib.Core.Path.{◌≡◌, refl, sym, ap, ◌∙◌, subst}
use mathlib.Core.Logic.{◌⊎◌, inl, inr, ⊎_elim}
use mathlib.Core.Bool.{true, false}
use mathlib.Core.List.{List}
use native.Mathlib.Omega.{arith}
use lib.Dec.{eqb}
use lib.Pow.{pow_pos}
use lib.ListN.{length, get_or, set, length-set}
use lib.Seq.{get_or-set_same, get_or-set_other}
use Rattle.std.specs.Prelude.{Option, Some, None, is_some, unwrap_or, Ok}
use Rattle.tables.specs.Types.{rank}
use Rattle.tables.specs.Lines.{Shape, is_bitvec, is_array, is_const, is_input, is_state, is_output, is_unary, is_binary, is_ite, is_read, is_write, is_unknown, is_init_or_next, is_signal, is_equality, shape_of, build, line_of, kind_in, sort_in, first_in, second_in, third_in}
use Rattle.tables.specs.Layout.{held}
use Rattle.tables.specs.Layout.{record_at, lines_of}
use Rattle.tables.specs.Tables.{checked}
use Rattle.tables.proofs.Shapes.{binary_range, binary_apart, KindOf, kind_of_lem, line_as, shape_equality}
use Rattle.tables.proofs.Showing.{by_place}
use Rattle.tables.proofs.Encoding.{fits_table}
use Rattle.circuits.specs.Cells.{if_nonzero}
use Rattle.circuits.specs.Layout.{Layout, type_at, size, layout}
use Rattle.circuits.specs.Meaning.{Frame, cells_at, word_at}
use Rattle.circuits.specs.Model.Work.{num_in}
use Rattle.peeks.specs.Peek.{step_zero}
use Rattle.peeks.specs.Model.Looks.{Looks, KeptWords, kept_at, WordLine, CellLine, WordFound, CellFound, FirstLine, SecondLine, StartAsked, start_in}
use Rattle.peeks.proofs.Looked.{Arg, FactEquality, FactIte, FactWrite, FactStart, Fact, one_cell, shown, number_of, none_flat, facts}

-- ---- the words found so far

-- one word more
kept : {A : Frame} {K K' : List (Option ℕ)} {n v : ℕ} → n ≤ 64 → KeptWords A K → v ≡ word_at A n → K' ≡ set K n (Some v) → KeptWords A K'
kept {A} {K} {K'} {n} {v} h f ev e =
    let here : kept_at K' n ≡ Some v = ap (λ (x : List (Option ℕ)). kept_at x n) e ∙ get_or-set_same K n (Some v) None (omega (arith, f.long)) in
    let there : (a : ℕ) → (a ≡ n → ⊥) → kept_at K' a ≡ kept_at K a = λ a ne. ap (λ (x : List (Option ℕ)). kept_at x a) e ∙ get_or-set_other K n a (Some v) None ne in
    record {
      long = ap length e ∙ length-set K n (Some v) ∙ f.long;
      none = by_place 0 n (λ z. ap (λ (a : ℕ). is_some (kept_at K' a)) z ∙ ap is_some here) (λ ne. ap is_some (there 0 ne) ∙ f.none);
      are = λ a u k.
          by_place a n (λ z. ap (λ (o : Option ℕ). unwrap_or o 0) (sym k ∙ ap (kept_at K') z ∙ here) ∙ ev ∙ ap (word_at A) (sym z))
          (λ ne. f.are a u (sym (there a ne) ∙ k));
    }

pub word_kept_lem : {t : List ℕ} {n : ℕ} {S R : List ℕ} {K K' : List (Option ℕ)} {a v r : ℕ} → a ≤ 64 → KeptWords (step_zero (lines_of false t n) S R) K → v ≡ word_at (step_zero (lines_of false t n) S R) a
    → (r ≡ v) × (K' ≡ set K a (Some v)) → WordFound t n S R K' a r
word_kept_lem h f ev e = record { is = e.0 ∙ ev; kept = kept h f ev e.1 }

-- a line whose word is not kept is not line 0
pub not_none : {A : Frame} {K : List (Option ℕ)} (a : ℕ) → KeptWords A K → ((v : ℕ) → kept_at K a ≡ Some v → ⊥) → 1 ≤ a
not_none {K = K} zero f z = absurd (found (kept_at K 0) refl f.none)
  where
    found : (o : Option ℕ) → kept_at K 0 ≡ o → is_some o ≡ true → ⊥
    found (Some v) e h = z v e
    found None e h = cc h
not_none (suc a) f z = omega arith

-- ---- lines of an accepted table

pub record Number (t : List ℕ) (n m : ℕ) : Type 0 where
  pub least : 1 ≤ m
  pub most : m ≤ 64
  pub here : m - 1 < held false (length t)

-- the line a, which the line m of the record r looks at first: a word's line or none, unless m compares two values
pub record First (t : List ℕ) (n : ℕ) (r : List ℕ) (m a : ℕ) : Type 0 where
  pub below : a < m
  pub sort : (1 ≤ a → WordLine t n a) ⊎ ((20 < kind_in r) × (kind_in r < 23))

-- the line b, which it looks at next: a word's line or none
pub record Second (t : List ℕ) (n m b : ℕ) : Type 0 where
  pub below : b < m
  pub line : 1 ≤ b → WordLine t n b

-- the line b, whose cell i is the cell c of the line m
pub record ThroughCell (A : Frame) (t : List ℕ) (n m c b i : ℕ) : Type 0 where
  pub below : b < m
  pub line : CellLine t n b i
  pub is : get_or (cells_at A b) i 0 ≡ get_or (cells_at A m) c 0

-- the line b, whose word is the cell c of the line m
pub record ThroughWord (A : Frame) (t : List ℕ) (n m c b : ℕ) : Type 0 where
  pub below : b < m
  pub line : WordLine t n b
  pub is : word_at A b ≡ get_or (cells_at A m) c 0

pub cell_through : {t : List ℕ} {n : ℕ} {S R : List ℕ} {K : List (Option ℕ)} {m c b i r : ℕ} → ThroughCell (step_zero (lines_of false t n) S R) t n m c b i → CellFound t n S R K b i r → CellFound t n S R K m c r
cell_through q f = record { is = f.is ∙ q.is; kept = f.kept }

pub cell_through_word : {t : List ℕ} {n : ℕ} {S R : List ℕ} {K : List (Option ℕ)} {m c b r : ℕ} → ThroughWord (step_zero (lines_of false t n) S R) t n m c b → WordFound t n S R K b r → CellFound t n S R K m c r
cell_through_word q f = record { is = f.is ∙ q.is; kept = f.kept }

-- a line that an ite on the line m takes for its own value
pub record Chosen (A : Frame) (Z : Layout) (m c e : ℕ) : Type 0 where
  pub below : e < m
  pub value : 2 ≤ rank (type_at Z e).role
  pub sort : (type_at Z e).iw ≡ (type_at Z m).iw
  pub is : get_or (cells_at A e) c 0 ≡ get_or (cells_at A m) c 0

module _ {t : List ℕ} {n : ℕ} {P : List (List ℕ)} {ini S R : List ℕ} (lk : Looks t n P ini S R) where
  abbrev A : Frame
  A = step_zero (lines_of false t n) S R

  abbrev Z : Layout
  Z = layout false (lines_of false t n)

  accepted : checked false t n ≡ Ok tt
  accepted = lk.laid.accepted

  pub number : (m : ℕ) → 2 ≤ rank (type_at Z m).role → Number t n m
  number m q =
      let b = number_of lk m (omega arith) in
      let f = fits_table false t n accepted in
      record { least = b.0; most = omega (arith, lk.laid.few); here = omega (arith, f.1) }

  pub word_most : (m : ℕ) → (1 ≤ m → WordLine t n m) → m ≤ 64
  word_most zero w = omega arith
  word_most (suc m) w = (number (suc m) (w (omega arith)).value).most

  pub first_cell : (m : ℕ) → 0 < size (type_at Z m)
  first_cell m = pow_pos (type_at Z m).iw

  -- a value of at most one cell is a word, and none has one
  pub flat_of : (a : ℕ) → 2 ≤ rank (type_at Z a).role → num_in P a ≤ 1 → (type_at Z a).iw ≡ 0
  flat_of a q h =
      let e = (shown lk.laid a (number_of lk a (omega arith)).1).is_num in
      one_cell (type_at Z a).iw (omega (arith, e, first_cell a))

  none_one : num_in P 0 ≡ 1
  none_one = (shown lk.laid 0 (omega arith)).is_num ∙ ap (λ (x : ℕ). 2 ^ x) (none_flat lk)

  word_one : (a : ℕ) → (1 ≤ a → WordLine t n a) → num_in P a ≡ 1
  word_one zero w = none_one
  word_one (suc a) w =
      let l = w (omega arith) in
      (shown lk.laid (suc a) (number_of lk (suc a) (omega (arith, l.value))).1).is_num ∙ ap (λ (x : ℕ). 2 ^ x) l.flat

  -- ---- operands

  pub word_arg : {m a : ℕ} → Arg Z m a → WordLine t n a
  word_arg k = record { value = k.word.is; flat = k.word.flat }

  cell_same : {m a c : ℕ} → CellLine t n m c → 2 ≤ rank (type_at Z a).role → (type_at Z a).iw ≡ (type_at Z m).iw → CellLine t n a c
  cell_same {m} {a} {c} w q e =
      record { array = record { value = q; deep = subst (λ (x : ℕ). 0 < x) (sym e) w.array.deep }; inside = subst (λ (x : ℕ). c < 2 ^ x) (sym e) w.inside }

  -- the line that an ite takes
  chosen : {m c d a b x e : ℕ} → FactIte A Z P ini S R m c d a b → x ≡ word_at A d → e ≡ if_nonzero x a b → Chosen A Z m c e
  chosen {m} {c} {d} {a} {b} {x} {e} f ex ee = go x refl
    where
      go : (y : ℕ) → x ≡ y → Chosen A Z m c e
      go zero z = subst (Chosen A Z m c) (sym (ee ∙ ap (λ (k : ℕ). if_nonzero k a b) z)) (record { below = f.right.below; value = f.right.value; sort = f.sort_b; is = f.no (sym ex ∙ z) })
      go (suc y) z =
          subst (Chosen A Z m c) (sym (ee ∙ ap (λ (k : ℕ). if_nonzero k a b) z)) (record { below = f.left.below; value = f.left.value; sort = f.sort_a; is = f.yes (λ w. omega (arith, ex)) })

  -- ---- what a record says of its line, by its shape

  module _ {r : List ℕ} {a : ℕ} (m c : ℕ) (q : 2 ≤ rank (type_at Z m).role) (hc : c < size (type_at Z m)) (er : r ≡ record_at false t (m - 1)) (F : FirstLine r (get_or ini m 0) a) where
    pub fact : (X : Shape) → shape_of (kind_in r) ≡ X → Fact A Z P ini S R m c (build X (kind_in r) (sort_in r) (first_in r) (second_in r) (third_in r))
    fact X e = subst (Fact A Z P ini S R m c) (ap line_of (sym er) ∙ line_as r X e) (facts lk m c q hc)

    of_none : a ≡ 0 → First t n r m a
    of_none e = record { below = omega (arith, (number m q).least); sort = inl (λ h. absurd (omega arith)) }

    of_arg : {x : ℕ} → a ≡ x → Arg Z m x → First t n r m a
    of_arg e k = subst (First t n r m) (sym e) (record { below = k.below; sort = inl (λ h. word_arg k) })

    of_state : (d : ℕ) → get_or ini m 0 ≡ d → a ≡ get_or ini m 0 → shape_of (kind_in r) ≡ is_state → First t n r m a
    of_state zero z e s = of_none (e ∙ z)
    of_state (suc d) z e s = of_arg e ((fact is_state s).init (λ w. omega arith)).arg

    pub first : First t n r m a
    first = go (shape_of (kind_in r)) refl (kind_of_lem (kind_in r))
      where
        go : (X : Shape) → shape_of (kind_in r) ≡ X → KindOf X (kind_in r) → First t n r m a
        go is_bitvec e k = absurd (fact is_bitvec e)
        go is_array e k = absurd (fact is_array e)
        go is_const e k = of_none (F.none (omega arith))
        go is_input e k = of_none (F.none (omega arith))
        go is_state e k = of_state (get_or ini m 0) refl (F.init k) e
        go is_output e k = absurd (fact is_output e)
        go is_unary e (inl k) = of_arg (F.operand (omega arith) (λ p q. omega arith)) (fact is_unary e).arg
        go is_unary e (inr k) = absurd (omega (arith, (fact is_unary e).most))
        go is_binary e k = of_arg (F.operand (omega (arith, binary_range k)) (λ h l. binary_apart k (omega arith) l)) (fact is_binary e).left
        go is_ite e k = of_arg (F.operand (omega arith) (λ p q. omega arith)) (fact is_ite e).cond
        go is_read e k = of_arg (F.index (omega arith) (omega arith)) (fact is_read e).index
        go is_write e k = of_arg (F.index (omega arith) (omega arith)) (fact is_write e).index
        go is_unknown e k = absurd (fact is_unknown e)
        go (is_init_or_next b) e k = absurd (fact (is_init_or_next b) e)
        go (is_signal b) e k = absurd (fact (is_signal b) e)
        go (is_equality true) e k =
            subst (First t n r m) (sym (F.operand (omega arith) (λ p q. omega arith))) (record { below = (fact (is_equality true) e).left.below; sort = inr (omega arith, omega arith) })
        go (is_equality false) e k =
            subst (First t n r m) (sym (F.operand (omega arith) (λ p q. omega arith))) (record { below = (fact (is_equality false) e).left.below; sort = inr (omega arith, omega arith) })

    -- ---- a state's cell

    module _ (k : kind_in r ≡ 5) where
      starts : a ≡ 0 → FactStart A Z P ini S R m c
      starts e = (fact is_state (ap shape_of k)).none (sym (F.init k) ∙ e)

      pub start_asks : a ≡ 0 → StartAsked P S m c
      start_asks e = let G = starts e in record { known = omega (arith, (number m q).most); inside = G.inside; wide = G.wide }

      pub start_is : a ≡ 0 → start_in P S m c ≡ get_or (cells_at A m) c 0
      start_is e = (starts e).is

      pub init_is : (a ≡ 0 → ⊥) → word_at A a ≡ get_or (cells_at A m) c 0
      init_is z = ap (word_at A) (F.init k) ∙ ((fact is_state (ap shape_of k)).init (λ e. z (F.init k ∙ e))).is

  -- ---- a word's line

  module _ {r : List ℕ} {m a : ℕ} (w : WordLine t n m) (er : r ≡ record_at false t (m - 1)) (F : FirstLine r (get_or ini m 0) a) where
    abbrev word_fact : (X : Shape) → shape_of (kind_in r) ≡ X → Fact A Z P ini S R m 0 (build X (kind_in r) (sort_in r) (first_in r) (second_in r) (third_in r))
    word_fact = fact m 0 w.value (first_cell m) er F

    pub word_first : First t n r m a
    word_first = first m 0 w.value (first_cell m) er F

    -- values are compared where there is more than one cell, else the first line is a word's
    pub first_arrays : 1 < num_in P a → (20 < kind_in r) × (kind_in r < 23)
    first_arrays h = ⊎_elim (λ l. absurd (omega (arith, word_one a l))) (λ k. k) word_first.sort

    pub compared : 20 < kind_in r → kind_in r < 23 → FactEquality A Z P ini S R m 0 (eqb (kind_in r) 21) a (second_in r)
    compared h l =
        subst (λ (x : ℕ). FactEquality A Z P ini S R m 0 (eqb (kind_in r) 21) x (second_in r)) (sym (F.operand (omega arith) (λ p q. omega arith)))
        (word_fact (is_equality (eqb (kind_in r) 21)) (shape_equality (omega arith) l))

    pub first_equality : 1 < num_in P a → FactEquality A Z P ini S R m 0 (eqb (kind_in r) 21) a (second_in r)
    first_equality h = let k = first_arrays h in compared k.0 k.1

    module _ (one : num_in P a ≤ 1) where
      pub first_word : 1 ≤ a → WordLine t n a
      first_word =
          ⊎_elim (λ l. l) (λ k h. let G = compared k.0 k.1 in record { value = G.left.value; flat = flat_of a G.left.value one })
          word_first.sort

      module _ {x b : ℕ} (ex : x ≡ word_at A a) (G : SecondLine r x b) where
        none_second : b ≡ 0 → Second t n m b
        none_second e = record { below = omega (arith, (number m w.value).least); line = λ h. absurd (omega arith) }

        arg_second : {d : ℕ} → b ≡ d → Arg Z m d → Second t n m b
        arg_second e k = subst (Second t n m) (sym e) (record { below = k.below; line = λ h. word_arg k })

        equality_second : 20 < kind_in r → kind_in r < 23 → Second t n m b
        equality_second h l =
            let E = compared h l in
            subst (Second t n m) (sym (G.operand h (λ g m. omega arith)))
            (record { below = E.right.below; line = λ z. record { value = E.right.value; flat = E.sorts ∙ flat_of a E.left.value one } })

        pub ite_chosen : kind_in r ≡ 53 → Chosen A Z m 0 b
        ite_chosen k = chosen (word_fact is_ite (ap shape_of k)) (ex ∙ ap (word_at A) (F.operand (omega arith) (λ p q. omega arith))) (G.chosen k)

        ite_second : kind_in r ≡ 53 → Second t n m b
        ite_second k = let C = ite_chosen k in record { below = C.below; line = λ h. record { value = C.value; flat = C.sort ∙ w.flat } }

        pub second_word : (kind_in r ≡ 54 → ⊥) → Second t n m b
        second_word n₅₄ = go (shape_of (kind_in r)) refl (kind_of_lem (kind_in r))
          where
            go : (X : Shape) → shape_of (kind_in r) ≡ X → KindOf X (kind_in r) → Second t n m b
            go is_bitvec e k = absurd (word_fact is_bitvec e)
            go is_array e k = absurd (word_fact is_array e)
            go is_const e k = none_second (G.none (omega arith))
            go is_input e k = none_second (G.none (omega arith))
            go is_state e k = none_second (G.none (omega arith))
            go is_output e k = absurd (word_fact is_output e)
            go is_unary e (inl k) = none_second (G.none (omega arith))
            go is_unary e (inr k) = absurd (omega (arith, (word_fact is_unary e).most))
            go is_binary e k = arg_second (G.operand (omega (arith, binary_range k)) (λ h l. binary_apart k h l)) (word_fact is_binary e).right
            go is_ite e k = ite_second k
            go is_read e k = absurd (n₅₄ k)
            go is_write e k = absurd (omega (arith, (word_fact is_write e).arr.deep, (word_fact is_write e).sort_a, w.flat))
            go is_unknown e k = absurd (word_fact is_unknown e)
            go (is_init_or_next b) e k = absurd (word_fact (is_init_or_next b) e)
            go (is_signal b) e k = absurd (word_fact (is_signal b) e)
            go (is_equality true) e k = equality_second (omega arith) (omega arith)
            go (is_equality false) e k = equality_second (omega arith) (omega arith)

        -- a read finds the cell that its index x says
        pub read_through : kind_in r ≡ 54 → ThroughCell A t n m 0 b x
        read_through k =
            let E = word_fact is_read (ap shape_of k) in
            let ei : x ≡ word_at A (second_in r) = ex ∙ ap (word_at A) (F.index (omega arith) (omega arith)) in
            subst (λ (d : ℕ). ThroughCell A t n m 0 d x) (sym (G.array (omega arith) (omega arith)))
            (record {
              below = E.below_a;
              line = record { array = record { value = E.arr.is; deep = E.arr.deep }; inside = subst (λ (y : ℕ). y < size (type_at Z (first_in r))) (sym ei) E.inside };
              is = ap (λ (y : ℕ). get_or (cells_at A (first_in r)) y 0) ei ∙ E.is;
            })

  -- ---- a cell of an array's line

  module _ {r : List ℕ} {m a c : ℕ} (w : CellLine t n m c) (er : r ≡ record_at false t (m - 1)) (F : FirstLine r (get_or ini m 0) a) where
    abbrev cell_fact : (X : Shape) → shape_of (kind_in r) ≡ X → Fact A Z P ini S R m c (build X (kind_in r) (sort_in r) (first_in r) (second_in r) (third_in r))
    cell_fact = fact m c w.array.value w.inside er F

    pub cell_first : First t n r m a
    cell_first = first m c w.array.value w.inside er F

    pub cell_word_lem : 1 ≤ a → WordLine t n a
    cell_word_lem =
        ⊎_elim (λ l. l)
        (λ k h. absurd (omega (arith, w.array.deep, (cell_fact (is_equality (eqb (kind_in r) 21)) (shape_equality (omega arith) k.1)).flat)))
        cell_first.sort

    -- an array's line that is no state and no ite is a write
    is_write_lem : (kind_in r ≡ 5 → ⊥) → (kind_in r ≡ 53 → ⊥) → kind_in r ≡ 55
    is_write_lem n₅ n₅₃ = go (shape_of (kind_in r)) refl (kind_of_lem (kind_in r))
      where
        go : (X : Shape) → shape_of (kind_in r) ≡ X → KindOf X (kind_in r) → kind_in r ≡ 55
        go is_bitvec e k = absurd (cell_fact is_bitvec e)
        go is_array e k = absurd (cell_fact is_array e)
        go is_const e k = absurd (omega (arith, w.array.deep, (cell_fact is_const e).flat))
        go is_input e k = absurd (omega (arith, w.array.deep, (cell_fact is_input e).flat))
        go is_state e k = absurd (n₅ k)
        go is_output e k = absurd (cell_fact is_output e)
        go is_unary e k = absurd (omega (arith, w.array.deep, (cell_fact is_unary e).flat))
        go is_binary e k = absurd (omega (arith, w.array.deep, (cell_fact is_binary e).flat))
        go is_ite e k = absurd (n₅₃ k)
        go is_read e k = absurd (omega (arith, w.array.deep, (cell_fact is_read e).flat))
        go is_write e k = k
        go is_unknown e k = absurd (cell_fact is_unknown e)
        go (is_init_or_next b) e k = absurd (cell_fact (is_init_or_next b) e)
        go (is_signal b) e k = absurd (cell_fact (is_signal b) e)
        go (is_equality b) e k = absurd (omega (arith, w.array.deep, (cell_fact (is_equality b) e).flat))

    written : kind_in r ≡ 55 → FactWrite A Z P ini S R m c (first_in r) (second_in r) (third_in r)
    written k = cell_fact is_write (ap shape_of k)

    -- a line that looks at no other is a state
    pub cell_start : a ≡ 0 → kind_in r ≡ 5
    cell_start e = by_place (kind_in r) 5 (λ k. k) (λ n₅. absurd (by_place (kind_in r) 53 ite (λ n₅₃. write (is_write_lem n₅ n₅₃))))
      where
        none : (x : ℕ) → a ≡ x → Arg Z m x → ⊥
        none x z k = omega (arith, (number x k.word.is).least)

        ite : kind_in r ≡ 53 → ⊥
        ite k = none (first_in r) (F.operand (omega arith) (λ p q. omega arith)) (cell_fact is_ite (ap shape_of k)).cond

        write : kind_in r ≡ 55 → ⊥
        write k = none (second_in r) (F.index (omega arith) (omega arith)) (written k).index

    module _ {x b : ℕ} (ex : x ≡ word_at A a) (G : SecondLine r x b) where
      pub ite_through : kind_in r ≡ 53 → ThroughCell A t n m c b c
      ite_through k =
          let C = chosen (cell_fact is_ite (ap shape_of k)) (ex ∙ ap (word_at A) (F.operand (omega arith) (λ p q. omega arith))) (G.chosen k) in
          record { below = C.below; line = cell_same w C.value C.sort; is = C.is }

      module _ (n₅ : kind_in r ≡ 5 → ⊥) (n₅₃ : kind_in r ≡ 53 → ⊥) where
        index : x ≡ word_at A (second_in r)
        index = ex ∙ ap (word_at A) (F.index (omega (arith, is_write_lem n₅ n₅₃)) (omega (arith, is_write_lem n₅ n₅₃)))

        pub write_hit : x ≡ c → ThroughWord A t n m c (third_in r)
        write_hit e = let W = written (is_write_lem n₅ n₅₃) in record { below = W.value.below; line = word_arg W.value; is = W.hit (sym index ∙ e) }

        pub write_miss : (x ≡ c → ⊥) → ThroughCell A t n m c b c
        write_miss z =
            let W = written (is_write_lem n₅ n₅₃) in
            subst (λ (d : ℕ). ThroughCell A t n m c d c) (sym (G.array (omega (arith, is_write_lem n₅ n₅₃)) (omega (arith, is_write_lem n₅ n₅₃))))
            (record { below = W.below_a; line = cell_same w W.arr.is W.sort_a; is = W.miss (λ e. z (index ∙ e)) })
