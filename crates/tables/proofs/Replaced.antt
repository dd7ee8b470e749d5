-- A record in which operands give way to others of the same widths goes on keeping the rules: these read the widths of lines and the plain numbers, never a line's number.
-- Inits are left out, whose value has to stand before the state. Assumes nothing.
use Prim.Native.Nat.{ℕ, zero, suc, ◌≤◌}
use mathlib.Core.Path.{◌≡◌, refl, sym, ap, ◌∙◌, subst}
use mathlib.Core.Bool.{Bool, true, false, not, ◌&&◌}
use mathlib.Core.List.{List}
use native.Mathlib.Omega.{arith}
use lib.Dec.{T, eqb, leb}
use lib.ListN.{length, get_or}
use mir.Facts.{and_yes}
use borrow.Author.Tests.{eqb-true, ne_eqb, leb-true}
use Rattle.tables.specs.declared.Role.TheVariants.{Other}
use Rattle.tables.specs.declared.Ty.{Ty}
use Rattle.tables.specs.Pick.{all}
use Rattle.tables.specs.Kinds.{row_of, sort_class, first_class, second_class, third_class, class_at, names_line}
use Rattle.tables.specs.Lines.{Shape, is_bitvec, is_array, is_const, is_input, is_state, is_output, is_unary, is_binary, is_ite, is_read, is_write, is_unknown, is_init_or_next, is_signal, is_equality, shape_of, build, line_of, fields, kind_in, sort_in, first_in, second_in, third_in}
use Rattle.tables.specs.Layout.{record_words}
use Rattle.tables.specs.Types.{rank, ty, is_sort, is_value}
use Rattle.tables.specs.Rules.{suits, classes, fits_unary, fits_binary, fits_equality, fits_ite, fits_read, fits_write, fits_init_or_next, fits, once_rules}
use Rattle.tables.specs.Tables.{known, unused, formed, keeps}
use Rattle.tables.proofs.Every.{at_each}
use Rattle.tables.proofs.Laws.{true_of, not_of_lem}
use Rattle.tables.proofs.Shapes.{once_as, no_once, range}
use Rattle.tables.proofs.Answers.{Passed, passed, all_passed}
use Rattle.tables.proofs.Kept.{both, all_at, kept_fault, known_range, no_yes}
use Rattle.tables.proofs.Places.{fields_of}
use Rattle.tables.proofs.Facts.{Same}

-- in a place of the class k, after lines whose types were L and are L' now, x gives way to x': a plain number stays, a line has the same widths
pub record Replaces (k : ℕ) (L L' : ℕ → Ty) (x x' : ℕ) : Type 0 where
  pub suit : suits k (L' x') ≡ true
  pub plain : names_line k ≡ false → x' ≡ x
  pub widths : names_line k ≡ true → Same (L' x') (L x)

-- ---- the classes of a record's places

-- what may stand where a line is asked for has a role; where none is asked for, anything may
pub suits_role : (k : ℕ) (t : Ty) → names_line k ≡ true → suits k t ≡ true → 1 ≤ rank t.role
unfolding suits
suits_role zero t n h = absurd (no_yes n)
suits_role (suc zero) t n h = omega (arith, leb-true 2 (rank t.role) (both (is_value t) _ h).0)
suits_role (suc (suc zero)) t n h = omega (arith, leb-true 2 (rank t.role) (both (is_value t) _ h).0)
suits_role (suc (suc (suc zero))) t n h = omega (arith, leb-true 2 (rank t.role) h)
suits_role (suc (suc (suc (suc zero)))) t n h = omega (arith, eqb-true (rank t.role) 4 h)
suits_role (suc (suc (suc (suc (suc zero))))) t n h = omega (arith, eqb-true (rank t.role) 1 (both (is_sort t) _ h).0)
suits_role (suc (suc (suc (suc (suc (suc zero)))))) t n h = omega (arith, eqb-true (rank t.role) 1 (both (is_sort t) _ h).0)
suits_role (suc (suc (suc (suc (suc (suc (suc zero))))))) t n h = omega (arith, eqb-true (rank t.role) 1 h)
suits_role (suc (suc (suc (suc (suc (suc (suc (suc k)))))))) t n h = let r = range 1 7 (suc (suc (suc (suc (suc (suc (suc (suc k)))))))) n in absurd (omega arith)

pub suits_plain : (k : ℕ) (t : Ty) → names_line k ≡ false → suits k t ≡ true
unfolding suits
suits_plain zero t n = refl
suits_plain (suc zero) t n = absurd (no_yes (sym n))
suits_plain (suc (suc zero)) t n = absurd (no_yes (sym n))
suits_plain (suc (suc (suc zero))) t n = absurd (no_yes (sym n))
suits_plain (suc (suc (suc (suc zero)))) t n = absurd (no_yes (sym n))
suits_plain (suc (suc (suc (suc (suc zero))))) t n = absurd (no_yes (sym n))
suits_plain (suc (suc (suc (suc (suc (suc zero)))))) t n = absurd (no_yes (sym n))
suits_plain (suc (suc (suc (suc (suc (suc (suc zero))))))) t n = absurd (no_yes (sym n))
suits_plain (suc (suc (suc (suc (suc (suc (suc (suc k)))))))) t n =
    let m : ℕ = suc (suc (suc (suc (suc (suc (suc (suc k))))))) in
    rw (ne_eqb m 1 (λ e. omega arith), ne_eqb m 2 (λ e. omega arith), ne_eqb m 3 (λ e. omega arith), ne_eqb m 4 (λ e. omega arith), ne_eqb m 5 (λ e. omega arith), ne_eqb m 6 (λ e. omega arith), ne_eqb m 7 (λ e. omega arith)) refl

-- rule 8, place by place
pub class_at_lem : (L : ℕ → Ty) (G : Bool → ℕ → Bool) (r : List ℕ) → Passed false L G r → (j : ℕ) → 1 ≤ j → j ≤ 4 → suits (class_at (row_of (kind_in r)) j) (L (get_or r j 0)) ≡ true
class_at_lem L G r p j a b = at j a b
  where
    test : (j : ℕ) → get_or (classes (row_of (kind_in r)) (L (sort_in r)) (L (first_in r)) (L (second_in r)) (L (third_in r))) j true ≡ true
    test = all_at (classes (row_of (kind_in r)) (L (sort_in r)) (L (first_in r)) (L (second_in r)) (L (third_in r))) p.class

    at : (j : ℕ) → 1 ≤ j → j ≤ 4 → suits (class_at (row_of (kind_in r)) j) (L (get_or r j 0)) ≡ true
    at zero a b = absurd (omega arith)
    at (suc zero) a b = test 0
    at (suc (suc zero)) a b = test 1
    at (suc (suc (suc zero))) a b = test 2
    at (suc (suc (suc (suc zero)))) a b = test 3
    at (suc (suc (suc (suc (suc j))))) a b = absurd (omega arith)

-- ---- which places of a line the widths' rule reads as plain numbers, and which as lines: one computed test

abbrev reads : Shape → List ℕ → Bool
reads is_bitvec r = not (names_line (first_class r))
reads is_array r = names_line (first_class r)
reads is_const r = names_line (sort_class r) && not (names_line (first_class r))
reads is_input r = true
reads is_state r = true
reads is_output r = true
reads is_unary r = names_line (sort_class r) && (names_line (first_class r) && (not (names_line (second_class r)) && not (names_line (third_class r))))
reads is_binary r = names_line (sort_class r) && (names_line (first_class r) && names_line (second_class r))
reads is_ite r = names_line (sort_class r) && (names_line (first_class r) && (names_line (second_class r) && names_line (third_class r)))
reads is_read r = names_line (sort_class r) && (names_line (first_class r) && names_line (second_class r))
reads is_write r = names_line (sort_class r) && (names_line (first_class r) && (names_line (second_class r) && names_line (third_class r)))
reads is_unknown r = true
reads (is_init_or_next m) r = names_line (sort_class r) && (names_line (first_class r) && names_line (second_class r))
reads (is_signal m) r = names_line (first_class r)
reads (is_equality e) r = names_line (sort_class r) && (names_line (first_class r) && names_line (second_class r))

reads_at : (k : ℕ) → 1 ≤ k → k ≤ 63 → T (reads (shape_of k) (row_of k))
unfolding row_of
reads_at zero a b = absurd (omega arith)
reads_at (suc i) a b = at_each (λ n. reads (shape_of (suc n)) (row_of (suc n))) 63 tt i (omega arith)

-- ---- the three lists of tests

module _ (L L' : ℕ → Ty) (k s a b c s' a' b' c' : ℕ) (P₁ : Replaces (class_at (row_of k) 1) L L' s s') (P₂ : Replaces (class_at (row_of k) 2) L L' a a')
    (P₃ : Replaces (class_at (row_of k) 3) L L' b b') (P₄ : Replaces (class_at (row_of k) 4) L L' c c') where
  -- a line's widths, and a number, as they were
  line_path : {q x x' : ℕ} → Replaces q L L' x x' → T (names_line q) → ty Other (L' x').iw (L' x').w ≡ ty Other (L x).iw (L x).w
  line_path {q} P t = let h = P.widths (true_of (names_line q) t) in λ i. ty Other (h.iw i) (h.w i)

  number_path : {q x x' : ℕ} → Replaces q L L' x x' → T (not (names_line q)) → x' ≡ x
  number_path {q} P t = P.plain (not_of_lem (names_line q) t)

  same_fits : (S : Shape) → T (reads S (row_of k)) → all (fits (build S k s' a' b' c') (L' s') (L' a') (L' b') (L' c')) ≡ all (fits (build S k s a b c) (L s) (L a) (L b) (L c))
  same_fits is_bitvec t = ap (λ (x : ℕ). all (fits (build is_bitvec k s x b c) (L s) (L a) (L b) (L c))) (number_path P₂ t)
  same_fits is_array t = λ i. leb (line_path P₂ t i).w 8 && true
  same_fits is_const t =
      let h = and_yes (names_line (sort_class (row_of k))) _ t in
      λ i. all (fits (build is_const k s (number_path P₂ h.1 i) b c) (line_path P₁ h.0 i) (L a) (L b) (L c))
  same_fits is_input t = refl
  same_fits is_state t = refl
  same_fits is_output t = refl
  same_fits is_unary t =
      let h₁ = and_yes (names_line (sort_class (row_of k))) _ t in
      let h₂ = and_yes (names_line (first_class (row_of k))) _ h₁.1 in
      let h₃ = and_yes (not (names_line (second_class (row_of k)))) _ h₂.1 in
      λ i. fits_unary k (line_path P₁ h₁.0 i).w (line_path P₂ h₂.0 i).w (number_path P₃ h₃.0 i) (number_path P₄ h₃.1 i) && true
  same_fits is_binary t =
      let h₁ = and_yes (names_line (sort_class (row_of k))) _ t in
      let h₂ = and_yes (names_line (first_class (row_of k))) _ h₁.1 in
      λ i. fits_binary k (line_path P₁ h₁.0 i).w (line_path P₂ h₂.0 i).w (line_path P₃ h₂.1 i).w && true
  same_fits is_ite t =
      let h₁ = and_yes (names_line (sort_class (row_of k))) _ t in
      let h₂ = and_yes (names_line (first_class (row_of k))) _ h₁.1 in
      let h₃ = and_yes (names_line (second_class (row_of k))) _ h₂.1 in
      λ i. all (fits_ite (line_path P₁ h₁.0 i) (line_path P₂ h₂.0 i) (line_path P₃ h₃.0 i) (line_path P₄ h₃.1 i))
  same_fits is_read t =
      let h₁ = and_yes (names_line (sort_class (row_of k))) _ t in
      let h₂ = and_yes (names_line (first_class (row_of k))) _ h₁.1 in
      λ i. all (fits_read (line_path P₁ h₁.0 i) (line_path P₂ h₂.0 i) (line_path P₃ h₂.1 i))
  same_fits is_write t =
      let h₁ = and_yes (names_line (sort_class (row_of k))) _ t in
      let h₂ = and_yes (names_line (first_class (row_of k))) _ h₁.1 in
      let h₃ = and_yes (names_line (second_class (row_of k))) _ h₂.1 in
      λ i. all (fits_write (line_path P₁ h₁.0 i) (line_path P₂ h₂.0 i) (line_path P₃ h₃.0 i) (line_path P₄ h₃.1 i))
  same_fits is_unknown t = refl
  same_fits (is_init_or_next true) t =
      let h₁ = and_yes (names_line (sort_class (row_of k))) _ t in
      let h₂ = and_yes (names_line (first_class (row_of k))) _ h₁.1 in
      λ i. all (fits_init_or_next true (line_path P₁ h₁.0 i) (line_path P₂ h₂.0 i) (line_path P₃ h₂.1 i))
  same_fits (is_init_or_next false) t =
      let h₁ = and_yes (names_line (sort_class (row_of k))) _ t in
      let h₂ = and_yes (names_line (first_class (row_of k))) _ h₁.1 in
      λ i. all (fits_init_or_next false (line_path P₁ h₁.0 i) (line_path P₂ h₂.0 i) (line_path P₃ h₂.1 i))
  same_fits (is_signal m) t = λ i. eqb (line_path P₂ t i).w 1 && true
  same_fits (is_equality e) t =
      let h₁ = and_yes (names_line (sort_class (row_of k))) _ t in
      let h₂ = and_yes (names_line (first_class (row_of k))) _ h₁.1 in
      λ i. all (fits_equality (line_path P₁ h₁.0 i) (line_path P₂ h₂.0 i) (line_path P₃ h₂.1 i))

  -- a place that the line does not have holds 0 as before
  unused_still : {q x x' : ℕ} → Replaces q L L' x x' → unused q x ≡ true → unused q x' ≡ true
  unused_still {q} {x} {x'} P h = go (eqb q 0) refl
    where
      go : (z : Bool) → eqb q 0 ≡ z → unused q x' ≡ true
      go true e = let n : names_line q ≡ false = ap names_line (eqb-true q 0 e) in subst (λ (y : ℕ). unused q y ≡ true) (sym (P.plain n)) h
      go false e = rw e refl

  -- the new record
  module _ (G : Bool → ℕ → Bool) (init : k ≡ 6 → ⊥) (state : k ≡ 7 → a' ≡ a) (kp : keeps false L G (fields k s a b c) ≡ true) where
    tidy_still : formed false (fields k s' a' b' c') ≡ true
    tidy_still =
        let f = both (known false k) _ (both (formed false (fields k s a b c)) _ kp).0 in
        let u₁ = both (unused (sort_class (row_of k)) s) _ f.1 in
        let u₂ = both (unused (first_class (row_of k)) a) _ u₁.1 in
        let u₃ = both (unused (second_class (row_of k)) b) _ u₂.1 in
        let u₄ = both (unused (third_class (row_of k)) c) _ u₃.1 in
        rw (f.0, unused_still P₁ u₁.0, unused_still P₂ u₂.0, unused_still P₃ u₃.0, unused_still P₄ u₄.0) refl

    passes : Passed false L' G (fields k s' a' b' c')
    passes =
        let o = passed false L G (fields k s a b c) (kept_fault false L G (fields k s a b c) kp) in
        let q = known_range false k (both (known false k) _ (both (formed false (fields k s a b c)) _ kp).0).0 in
        record {
          class = rw (P₁.suit, P₂.suit, P₃.suit, P₄.suit) refl;
          width = same_fits (shape_of k) (reads_at k q.0 q.1) ∙ o.width;
          once = once_still (eqb k 7) refl o.once;
        }
      where
        once_still : (z : Bool) → eqb k 7 ≡ z → all (once_rules (line_of (fields k s a b c)) G (L b)) ≡ true → all (once_rules (line_of (fields k s' a' b' c')) G (L' b')) ≡ true
        once_still true e h =
            let n = eqb-true k 7 e in
            let u : shape_of k ≡ is_init_or_next false = ap shape_of n in
            sym (once_as (fields k s' a' b' c') (is_init_or_next false) u G (L' b') refl)
            ∙ (ap (λ (x : ℕ). not (G false x) && true) (state n) ∙ (once_as (fields k s a b c) (is_init_or_next false) u G (L b) refl ∙ h))
        once_still false e h = sym (no_once (fields k s' a' b' c') G (L' b') init (λ n. absurd (no_seven e n)))
          where
            no_seven : eqb k 7 ≡ false → k ≡ 7 → ⊥
            no_seven e n = let z : ◌≡◌ {A = Bool} false true = sym e ∙ ap (λ (x : ℕ). eqb x 7) n in let w : ◌≡◌ {A = ℕ} 0 1 = cc in omega arith

    fields_still : keeps false L' G (fields k s' a' b' c') ≡ true
    fields_still = rw (tidy_still, all_passed false L' G (fields k s' a' b' c') passes) refl

pub kept_replaced : (L L' : ℕ → Ty) (G : Bool → ℕ → Bool) (r r' : List ℕ) → length r ≡ record_words → length r' ≡ record_words → kind_in r' ≡ kind_in r
    → ((j : ℕ) → 1 ≤ j → j ≤ 4 → Replaces (class_at (row_of (kind_in r)) j) L L' (get_or r j 0) (get_or r' j 0)) → (kind_in r ≡ 6 → ⊥) → (kind_in r ≡ 7 → first_in r' ≡ first_in r)
    → keeps false L G r ≡ true → keeps false L' G r' ≡ true
kept_replaced L L' G r r' l l' e P init state kp =
    let o = fields_of r l in
    let n = fields_of r' l' ∙ ap (λ (k : ℕ). fields k (sort_in r') (first_in r') (second_in r') (third_in r')) e in
    subst (λ (x : List ℕ). keeps false L' G x ≡ true) (sym n)
    (fields_still L L' (kind_in r) (sort_in r) (first_in r) (second_in r) (third_in r) (sort_in r') (first_in r') (second_in r') (third_in r') (P 1 (omega arith) (omega arith))
    (P 2 (omega arith) (omega arith)) (P 3 (omega arith) (omega arith)) (P 4 (omega arith) (omega arith)) G init state (subst (λ (x : List ℕ). keeps false L G x ≡ true) o kp))
