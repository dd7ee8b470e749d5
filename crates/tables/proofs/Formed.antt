-- A record that is formed is the record of its line, so an accepted table holds the records of its lines. Assumes nothing.
use Prim.Native.Nat.{ℕ}
use mathlib.Core.Path.{◌≡◌, refl, sym, ap, ◌∙◌, subst}
use mathlib.Core.Bool.{Bool, true, false}
use mathlib.Core.List.{List}
use lib.Dec.{eqb}
use lib.ListN.{length}
use borrow.Author.Tests.{eqb-true}
use Rattle.tables.specs.Pick.{all}
use Rattle.tables.specs.Kinds.{row_of, sort_class, first_class, second_class, third_class}
use Rattle.tables.specs.Lines.{Shape, is_bitvec, is_array, is_const, is_input, is_state, is_output, is_unary, is_binary, is_ite, is_read, is_write, is_unknown, is_init_or_next, is_signal, is_equality, shape_of, build, line_of, fields, words_of, kind_in, sort_in, first_in, second_in, third_in}
use Rattle.tables.specs.Layout.{record_words}
use Rattle.tables.specs.Tables.{known, unused, tidy, formed}
use Rattle.tables.proofs.Shapes.{BinaryKind, each_binary, KindOf, kind_of_lem, line_as, no_unknown}
use Rattle.tables.proofs.Kept.{both, known_range}
use Rattle.tables.proofs.Places.{fields_of, fields_eq}

-- a place that the row lacks is 0
zero_at : (k x : ℕ) → unused k x ≡ true → k ≡ 0 → x ≡ 0
zero_at k x e z = eqb-true x 0 (subst (λ (n : ℕ). unused n x ≡ true) z e)

record Zeros (row r : List ℕ) : Type 0 where
  sort : sort_class row ≡ 0 → sort_in r ≡ 0
  first : first_class row ≡ 0 → first_in r ≡ 0
  second : second_class row ≡ 0 → second_in r ≡ 0
  third : third_class row ≡ 0 → third_in r ≡ 0

zeros : (row r : List ℕ) → all (tidy row r) ≡ true → Zeros row r
zeros row r e =
    let h₁ = both (unused (sort_class row) (sort_in r)) _ e in
    let h₂ = both (unused (first_class row) (first_in r)) _ h₁.1 in
    let h₃ = both (unused (second_class row) (second_in r)) _ h₂.1 in
    let h₄ = both (unused (third_class row) (third_in r)) _ h₃.1 in
    record {
      sort = zero_at (sort_class row) (sort_in r) h₁.0;
      first = zero_at (first_class row) (first_in r) h₂.0;
      second = zero_at (second_class row) (second_in r) h₃.0;
      third = zero_at (third_class row) (third_in r) h₄.0;
    }

-- an operator of two words has no third place: one computed test
two_third : (k : ℕ) → BinaryKind k → third_class (row_of k) ≡ 0
unfolding row_of
two_third k b = eqb-true (third_class (row_of k)) 0 (each_binary (λ (n : ℕ). eqb (third_class (row_of n)) 0) tt tt k b)

module _ (p : Bool) (k s a b c : ℕ) (h : formed p (fields k s a b c) ≡ true) where
  r : List ℕ
  r = fields k s a b c

  row_zeros : Zeros (row_of k) (fields k s a b c)
  row_zeros = zeros (row_of k) (fields k s a b c) (both (known p k) _ h).1

  -- by the kind's number
  row_at : (n : ℕ) → k ≡ n → Zeros (row_of n) (fields k s a b c)
  row_at n e = subst (λ (m : ℕ). Zeros (row_of m) (fields k s a b c)) e row_zeros

  back : (S : Shape) → shape_of k ≡ S → KindOf S k → words_of (build S k s a b c) ≡ fields k s a b c
  unfolding row_of
  back is_bitvec e q = let z = row_at 1 q in fields_eq (sym q) (sym (z.sort refl)) refl (sym (z.second refl)) (sym (z.third refl))
  back is_array e q = let z = row_at 2 q in fields_eq (sym q) (sym (z.sort refl)) refl refl (sym (z.third refl))
  back is_const e q = let z = row_at 3 q in fields_eq (sym q) refl refl (sym (z.second refl)) (sym (z.third refl))
  back is_input e q = let z = row_at 4 q in fields_eq (sym q) refl (sym (z.first refl)) (sym (z.second refl)) (sym (z.third refl))
  back is_state e q = let z = row_at 5 q in fields_eq (sym q) refl (sym (z.first refl)) (sym (z.second refl)) (sym (z.third refl))
  back is_output e q = let z = row_at 10 q in fields_eq (sym q) (sym (z.sort refl)) refl (sym (z.second refl)) (sym (z.third refl))
  back is_unary e q = refl
  back is_binary e q = fields_eq refl refl refl refl (sym (row_zeros.third (two_third k q)))
  back is_ite e q = fields_eq (sym q) refl refl refl refl
  back is_read e q = let z = row_at 54 q in fields_eq (sym q) refl refl refl (sym (z.third refl))
  back is_write e q = fields_eq (sym q) refl refl refl refl
  back is_unknown e q = let g = known_range p k (both (known p k) _ h).0 in absurd (no_unknown k g.0 g.1 e)
  back (is_init_or_next true) e q = let z = row_at 6 q in fields_eq (sym q) refl refl refl (sym (z.third refl))
  back (is_init_or_next false) e q = let z = row_at 7 q in fields_eq (sym q) refl refl refl (sym (z.third refl))
  back (is_signal true) e q = let z = row_at 8 q in fields_eq (sym q) (sym (z.sort refl)) refl (sym (z.second refl)) (sym (z.third refl))
  back (is_signal false) e q = let z = row_at 9 q in fields_eq (sym q) (sym (z.sort refl)) refl (sym (z.second refl)) (sym (z.third refl))
  back (is_equality true) e q = let z = row_at 21 q in fields_eq (sym q) refl refl refl (sym (z.third refl))
  back (is_equality false) e q = let z = row_at 22 q in fields_eq (sym q) refl refl refl (sym (z.third refl))

  fields_back : words_of (line_of (fields k s a b c)) ≡ fields k s a b c
  fields_back = ap words_of (line_as (fields k s a b c) (shape_of k) refl) ∙ back (shape_of k) refl (kind_of_lem k)

-- the record of a formed record's line is that record
pub words_back : (p : Bool) (r : List ℕ) → length r ≡ record_words → formed p r ≡ true → words_of (line_of r) ≡ r
words_back p r l h = fields_back p (kind_in r) (sort_in r) (first_in r) (second_in r) (third_in r) h ∙ sym (fields_of r l)
