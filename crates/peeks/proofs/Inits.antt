-- The pass over the records that notes the line of each state's init value. Assumes nothing.
use Rattle.std.specs.Prelude.{Ok}
use Prim.Native.Nat.{ℕ, ◌+◌, ◌≤◌, ◌<◌}
use mathlib.Core.Path.{◌≡◌, refl, sym, ap, ap₂, ◌∙◌}
use mathlib.Core.Bool.{Bool, true, false}
use mathlib.Core.List.{List}
use native.Mathlib.Omega.{arith}
use native.Mathlib.Numerals.{add-one}
use lib.Dec.{eqb}
use lib.ListN.{length, take, get_or, set, replicate, length-replicate, get_or-replicate}
use lib.Seq.{get_or-set_same, get_or-set_other, take-length}
use borrow.Author.Tests.{eq-eqb, ne_eqb}
use Rattle.tables.specs.Pick.{pick}
use Rattle.tables.specs.Lines.{Line, Shape, is_bitvec, is_array, is_const, is_input, is_state, is_output, is_unary, is_binary, is_ite, is_read, is_write, is_unknown, is_init_or_next, is_signal, is_equality, shape_of, build, line_of, kind_in, sort_in, first_in, second_in, third_in}
use Rattle.tables.specs.Layout.{record_at, lines_of}
use Rattle.tables.specs.Tables.{checked}
use Rattle.tables.proofs.Shapes.{KindOf, kind_of_lem, line_as}
use Rattle.tables.proofs.Showing.{by_place}
use Rattle.peeks.specs.Model.Looks.{note_init, init_of}
use Rattle.circuits.proofs.Walked.{lines_many, line_here}
use Rattle.peeks.proofs.Begun.{init_more}

module _ (r : List ℕ) where
  -- only an init notes a value
  pub note_other : (q d : ℕ) → (kind_in r ≡ 6 → ⊥) → d ≡ note_init q d (line_of r)
  note_other q d n = go (shape_of (kind_in r)) refl (kind_of_lem (kind_in r))
    where
      by : (S : Shape) → shape_of (kind_in r) ≡ S → d ≡ note_init q d (build S (kind_in r) (sort_in r) (first_in r) (second_in r) (third_in r)) → d ≡ note_init q d (line_of r)
      by S e h = h ∙ ap (note_init q d) (sym (line_as r S e))

      go : (S : Shape) → shape_of (kind_in r) ≡ S → KindOf S (kind_in r) → d ≡ note_init q d (line_of r)
      go is_bitvec e k = by is_bitvec e refl
      go is_array e k = by is_array e refl
      go is_const e k = by is_const e refl
      go is_input e k = by is_input e refl
      go is_state e k = by is_state e refl
      go is_output e k = by is_output e refl
      go is_unary e k = by is_unary e refl
      go is_binary e k = by is_binary e refl
      go is_ite e k = by is_ite e refl
      go is_read e k = by is_read e refl
      go is_write e k = by is_write e refl
      go is_unknown e k = by is_unknown e refl
      go (is_init_or_next true) e k = absurd (n k)
      go (is_init_or_next false) e k = by (is_init_or_next false) e refl
      go (is_signal b) e k = by (is_signal b) e refl
      go (is_equality b) e k = by (is_equality b) e refl

  note_init_lem : (q d : ℕ) → kind_in r ≡ 6 → note_init q d (line_of r) ≡ pick (eqb q (first_in r)) (second_in r) d
  note_init_lem q d e = ap (note_init q d) (line_as r (is_init_or_next true) (ap shape_of e))

  pub note_set : (ini : List ℕ) → kind_in r ≡ 6 → first_in r < length ini → (q : ℕ) → get_or (set ini (first_in r) (second_in r)) q 0 ≡ note_init q (get_or ini q 0) (line_of r)
  note_set ini k h q =
      by_place q (first_in r)
      (λ e.
      ap (λ (x : ℕ). get_or (set ini (first_in r) (second_in r)) x 0) e ∙ get_or-set_same ini (first_in r) (second_in r) 0 h
      ∙ sym (note_init_lem q (get_or ini q 0) k ∙ ap (λ (b : Bool). pick b (second_in r) (get_or ini q 0)) (eq-eqb q (first_in r) e)))
      (λ n.
      get_or-set_other ini (first_in r) q (second_in r) 0 n
      ∙ sym (note_init_lem q (get_or ini q 0) k ∙ ap (λ (b : Bool). pick b (second_in r) (get_or ini q 0)) (ne_eqb q (first_in r) n)))

  pub note_far : (ini : List ℕ) → kind_in r ≡ 6 → length ini ≤ first_in r → (q : ℕ) → q < length ini → get_or ini q 0 ≡ note_init q (get_or ini q 0) (line_of r)
  note_far ini k h q l = sym (note_init_lem q (get_or ini q 0) k ∙ ap (λ (b : Bool). pick b (second_in r) (get_or ini q 0)) (ne_eqb q (first_in r) (λ e. omega arith)))

-- after i records the list holds the inits of the first i lines
pub record Noting (C : List Line) (n i : ℕ) (ini : List ℕ) : Type 0 where
  pub most : i ≤ n
  pub long : length ini ≡ 65
  pub are : (q : ℕ) → q < 65 → get_or ini q 0 ≡ init_of q (take i C)

pub noting_none : (C : List Line) (n : ℕ) (ini : List ℕ) → ini ≡ replicate 65 0 → Noting C n 0 ini
noting_none C n ini e =
    record { most = omega arith; long = ap length e ∙ length-replicate {A = ℕ} 65 0; are = λ q h. ap (λ (x : List ℕ). get_or x q 0) e ∙ get_or-replicate {A = ℕ} 65 q 0 0 h }

module _ (t : List ℕ) (n : ℕ) (acc : checked false t n ≡ Ok tt) where
  pub noting_more : {r : List ℕ} (i : ℕ) (ini ini' : List ℕ) → i < n → Noting (lines_of false t n) n i ini → r ≡ record_at false t i → length ini' ≡ length ini
      → ((q : ℕ) → q < length ini → get_or ini' q 0 ≡ note_init q (get_or ini q 0) (line_of r)) → Noting (lines_of false t n) n (i + 1) ini'
  noting_more {r} i ini ini' h s er l e =
      let el : line_of r ≡ get_or (lines_of false t n) i Line.unknown = ap line_of er ∙ sym (line_here false t n acc i h) in
      record {
        most = omega arith;
        long = l ∙ s.long;
        are = λ q k.
            e q (omega (arith, s.long)) ∙ ap₂ (λ (d : ℕ) (x : Line). note_init q d x) (s.are q k) el ∙ sym (init_more q (lines_of false t n) i (omega (arith, lines_many false t n acc)))
            ∙ ap (λ (m : ℕ). init_of q (take m (lines_of false t n))) (sym (add-one i));
      }

  pub noting_ends : (i : ℕ) (ini : List ℕ) → n ≤ i → Noting (lines_of false t n) n i ini → (q : ℕ) → q < 65 → get_or ini q 0 ≡ init_of q (lines_of false t n)
  noting_ends i ini h s q k =
      let e : i ≡ length (lines_of false t n) = omega (arith, s.most, lines_many false t n acc) in
      s.are q k ∙ ap (init_of q) (ap (λ (m : ℕ). take m (lines_of false t n)) e ∙ take-length (lines_of false t n))
