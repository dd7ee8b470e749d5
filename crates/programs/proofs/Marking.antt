-- The first pass: after i records the marks and the lines ahead name the lines that have a needing use. And the search for an array sort. Assumes nothing.
use Rattle.std.specs.Prelude.{Ok}
use Prim.Native.Nat.{ℕ, ◌+◌, ◌≤◌, ◌<◌}
use mathlib.Core.Path.{◌≡◌, refl, sym, ap, ◌∙◌, subst}
use mathlib.Core.Bool.{Bool, true, false, ◌&&◌, ◌||◌}
use mathlib.Core.List.{List, [], ◌∷◌, ◌++◌}
use native.Mathlib.Omega.{arith}
use lib.Dec.{eqb}
use lib.ListN.{length, set, drop, replicate, length-set, length-replicate}
use lib.Seq.{get_or-set_same, get_or-set_other}
use borrow.Author.Tests.{eq-eqb, ne_eqb}
use Rattle.words.specs.Kinds.{need_kind₁, need_kind₂}
use Rattle.tables.specs.Pick.{among}
use Rattle.tables.specs.Lines.{Line, kind_in, first_in, second_in}
use Rattle.tables.specs.Layout.{record_at, lines_of}
use Rattle.tables.specs.Tables.{checked}
use Rattle.tables.proofs.Laws.{or_true, or_false}
use Rattle.tables.proofs.Showing.{by_place}
use Rattle.programs.specs.Uses.{when, needs, has_needing_use}
use Rattle.programs.specs.Translation.{array_sort_line, has_array}
use Rattle.programs.specs.Model.Kinds.{second_line, mark_if, uses_marked, mark_at}
use Rattle.programs.specs.Model.Passes.{Needing}
use Rattle.programs.proofs.Modelled.{needs_words, array_words}
use Rattle.programs.proofs.Keeping.{blank_at, line_at, no_line}

-- ---- one record

or_assoc : (a b c : Bool) → ((a || b) || c) ≡ (a || (b || c))
or_assoc true b c = refl
or_assoc false b c = refl

among_append : (j : ℕ) (xs ys : List ℕ) → among j (xs ++ ys) ≡ (among j xs || among j ys)
among_append j [] ys = refl
among_append j (x ∷ xs) ys = ap (λ (t : Bool). eqb j x || t) (among_append j xs ys) ∙ sym (or_assoc (eqb j x) (among j xs) (among j ys))

mark_law : (t : Bool) (a : ℕ) (ms : List Bool) (j : ℕ) → j < length ms → mark_at (mark_if t a ms) j ≡ (mark_at ms j || among j (when t a))
mark_law false a ms j h = sym (or_false (mark_at ms j))
mark_law true a ms j h =
    by_place j a
    (λ z. ap (λ (x : ℕ). mark_at (set ms a true) x) z ∙ get_or-set_same ms a true false (omega arith) ∙ sym (ap (λ (t : Bool). mark_at ms j || (t || false)) (eq-eqb j a z) ∙ or_true (mark_at ms j)))
    (λ z. get_or-set_other ms a j true false z ∙ sym (ap (λ (t : Bool). mark_at ms j || (t || false)) (ne_eqb j a z) ∙ or_false (mark_at ms j)))

mark_length : (t : Bool) (a : ℕ) (ms : List Bool) → length (mark_if t a ms) ≡ length ms
mark_length true a ms = length-set ms a true
mark_length false a ms = refl

-- the marks of a record are the lines that its line needs clean
needing_law : (l : Line) (r : List ℕ) (ms : List Bool) → needs l ≡ when (need_kind₁ (kind_in r)) (first_in r) ++ when (need_kind₂ (kind_in r) && second_line (kind_in r)) (second_in r)
    → (j : ℕ) → j < length ms → mark_at (uses_marked r ms) j ≡ (mark_at ms j || among j (needs l))
needing_law l r ms e j h =
    let n₁ = need_kind₁ (kind_in r) in
    let n₂ = need_kind₂ (kind_in r) && second_line (kind_in r) in
    let w₁ = when n₁ (first_in r) in
    let w₂ = when n₂ (second_in r) in
    mark_law n₂ (second_in r) (mark_if n₁ (first_in r) ms) j (omega (arith, mark_length n₁ (first_in r) ms))
    ∙ ap (λ (t : Bool). t || among j w₂) (mark_law n₁ (first_in r) ms j h)
    ∙ or_assoc (mark_at ms j) (among j w₁) (among j w₂)
    ∙ ap (λ (t : Bool). mark_at ms j || t) (sym (among_append j w₁ w₂) ∙ sym (ap (among j) e))

-- ---- all records

pub record Marking (t : List ℕ) (n i : ℕ) (ms : List Bool) : Type 0 where
  pub size : length ms ≡ 16385
  pub most : i ≤ n
  pub at : (j : ℕ) → j < 16385 → (mark_at ms j || has_needing_use (drop i (lines_of false t n)) j) ≡ has_needing_use (lines_of false t n) j

pub marking_start : (t : List ℕ) (n : ℕ) {ms : List Bool} → ms ≡ replicate 16385 false → Marking t n 0 ms
marking_start t n e =
    record {
      size = ap length e ∙ length-replicate {A = Bool} 16385 false;
      most = omega arith;
      at = λ j h. ap (λ (x : List Bool). mark_at x j || has_needing_use (lines_of false t n) j) e ∙ ap (λ (x : Bool). x || has_needing_use (lines_of false t n) j) (blank_at false 16385 j);
    }

module _ {t : List ℕ} {n i : ℕ} {ms : List Bool} (M : Marking t n i ms) (e : checked false t n ≡ Ok tt) where
  pub marking_more : {ms₁ : List Bool} (r : List ℕ) → i < n → r ≡ record_at false t i → ms₁ ≡ uses_marked r ms → Marking t n (i + 1) ms₁
  marking_more {ms₁} r l er q =
      let x = line_at t n i e l in
      let w : needs x.line ≡ when (need_kind₁ (kind_in (record_at false t i))) (first_in (record_at false t i)) ++ when (need_kind₂ (kind_in (record_at false t i)) && second_line (kind_in (record_at false t i))) (second_in (record_at false t i)) =
      subst (λ (y : List ℕ). needs x.line ≡ when (need_kind₁ (kind_in y)) (first_in y) ++ when (need_kind₂ (kind_in y) && second_line (kind_in y)) (second_in y)) x.words (needs_words x.line x.kinded) in
      let p : ms₁ ≡ uses_marked (record_at false t i) ms = q ∙ ap (λ (y : List ℕ). uses_marked y ms) er in
      let R = drop (i + 1) (lines_of false t n) in
      record {
        size =
            ap length p
            ∙ mark_length (need_kind₂ (kind_in (record_at false t i)) && second_line (kind_in (record_at false t i))) (second_in (record_at false t i)) (mark_if (need_kind₁ (kind_in (record_at false t i))) (first_in (record_at false t i)) ms)
            ∙ mark_length (need_kind₁ (kind_in (record_at false t i))) (first_in (record_at false t i)) ms ∙ M.size;
        most = omega arith;
        at = λ j h.
            ap (λ (y : List Bool). mark_at y j || has_needing_use R j) p
            ∙ ap (λ (b : Bool). b || has_needing_use R j) (needing_law x.line (record_at false t i) ms w j (omega (arith, M.size)))
            ∙ or_assoc (mark_at ms j) (among j (needs x.line)) (has_needing_use R j)
            ∙ sym (ap (λ (y : List Line). mark_at ms j || has_needing_use y j) x.rest)
            ∙ M.at j h;
      }

pub marking_end : {t : List ℕ} {n i : ℕ} {ms : List Bool} → Marking t n i ms → n ≤ i → Needing (lines_of false t n) ms
marking_end {t} {n} {i} {ms} M l = record { size = M.size; at = λ j h. sym (or_false (mark_at ms j)) ∙ sym (ap (λ (y : List Line). mark_at ms j || has_needing_use y j) (no_line t n i l)) ∙ M.at j h }

-- ---- an array sort among the lines

-- what the i kinds looked at say, or what the lines ahead say
pub record Looked (t : List ℕ) (n i : ℕ) (found : Bool) : Type 0 where
  pub most : i ≤ n
  pub at : has_array (lines_of false t n) ≡ (found || has_array (drop i (lines_of false t n)))

pub array_start : (t : List ℕ) (n : ℕ) → Looked t n 0 false
array_start t n = record { most = omega arith; at = refl }

module _ {t : List ℕ} {n i : ℕ} {found : Bool} (Y : Looked t n i found) (e : checked false t n ≡ Ok tt) where
  abbrev ahead : Bool
  ahead = has_array (drop (i + 1) (lines_of false t n))

  here : (l : i < n) → array_sort_line (line_at t n i e l).line ≡ eqb (kind_in (record_at false t i)) 2
  here l = array_words (line_at t n i e l).line (line_at t n i e l).kinded ∙ ap (λ (y : List ℕ). eqb (kind_in y) 2) (line_at t n i e l).words

  from_here : (l : i < n) (b : Bool) → eqb (kind_in (record_at false t i)) 2 ≡ b → has_array (lines_of false t n) ≡ (found || (b || ahead))
  from_here l b q = Y.at ∙ ap (λ (x : Bool). found || x) (ap has_array (line_at t n i e l).rest ∙ ap (λ (x : Bool). x || ahead) (here l ∙ q))

  pub array_found : (k : ℕ) → i < n → k ≡ kind_in (record_at false t i) → k ≡ 2 → Looked t n (i + 1) true
  array_found k l q two = record { most = omega arith; at = from_here l true (eq-eqb (kind_in (record_at false t i)) 2 (sym q ∙ two)) ∙ or_true found }

  pub array_further : (k : ℕ) → i < n → k ≡ kind_in (record_at false t i) → (k ≡ 2 → ⊥) → Looked t n (i + 1) found
  array_further k l q other = record { most = omega arith; at = from_here l false (ne_eqb (kind_in (record_at false t i)) 2 (λ z. other (q ∙ z))) }

pub array_end : {t : List ℕ} {n i : ℕ} {found : Bool} → Looked t n i found → n ≤ i → found ≡ has_array (lines_of false t n)
array_end {t} {n} {i} {found} Y l = sym (Y.at ∙ (ap (λ (x : List Line). found || has_array x) (no_line t n i l) ∙ or_false found))
