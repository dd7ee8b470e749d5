-- The search for an init line among the kinds of a table, and what a line is by its kind. Assumes nothing.
use Rattle.std.specs.Prelude.{Ok}
use Prim.Native.Nat.{ℕ, suc, ◌+◌, ◌≤◌, ◌<◌}
use mathlib.Core.Path.{◌≡◌, refl, sym, ap, ap₂, ◌∙◌}
use mathlib.Core.Bool.{Bool, true, false, ◌||◌}
use mathlib.Core.List.{List, []}
use native.Mathlib.Omega.{arith}
use lib.ListN.{length, get_or, drop, drop_of_length-le, get_or-map}
use lib.Seq.{drop-cons}
use Rattle.tables.specs.Lines.{Line, is_state, is_init_or_next, shape_of, words_of, kind_in, sort_in}
use Rattle.tables.specs.Layout.{held, record_at, records_of, lines_of}
use Rattle.tables.specs.Tables.{checked}
use Rattle.tables.proofs.Laws.{or_true, or_false, get_or_in}
use Rattle.tables.proofs.Shapes.{line_as}
use Rattle.tables.proofs.Places.{length_records, record_at_lem}
use Rattle.tables.proofs.Encoding.{fits_table, words_lines}
use Rattle.circuits.proofs.Walked.{lines_many, line_here}
use Rattle.starts.specs.Model.Starting.{init_line, has_init}

-- ---- the line at hand

no_init : (l : Line) → (kind_in (words_of l) ≡ 6 → ⊥) → init_line l ≡ false
no_init (Line.bitvec w) h = refl
no_init (Line.array i e) h = refl
no_init (Line.input s) h = refl
no_init (Line.state s) h = refl
no_init (Line.value s e) h = refl
no_init (Line.init_or_next true s q v) h = absurd (h refl)
no_init (Line.init_or_next false s q v) h = refl
no_init (Line.signal m a) h = refl
no_init (Line.output a) h = refl
no_init Line.unknown h = refl

module _ (p : Bool) (t : List ℕ) (n : ℕ) (acc : checked p t n ≡ Ok tt) (i : ℕ) (h : i < n) where
  -- its record is in the table
  pub record_there : i < held p (length t)
  record_there = omega (arith, (fits_table p t n acc).1)

  -- its kind
  pub kind_here : kind_in (words_of (get_or (lines_of p t n) i Line.unknown)) ≡ kind_in (record_at p t i)
  kind_here =
      let d : List ℕ = words_of Line.unknown in
      ap kind_in
      (sym (get_or-map words_of (lines_of p t n) i Line.unknown) ∙ ap (λ (rs : List (List ℕ)). get_or rs i d) (words_lines p t n acc)
      ∙ get_or_in (records_of p t n) i d [] (omega (arith, length_records p t n)) ∙ record_at_lem p t n i h)

  pub state_here : kind_in (record_at p t i) ≡ 5 → get_or (lines_of p t n) i Line.unknown ≡ Line.state (sort_in (record_at p t i))
  state_here e = line_here p t n acc i h ∙ line_as (record_at p t i) is_state (ap shape_of e)

  init_here : kind_in (record_at p t i) ≡ 6 → init_line (get_or (lines_of p t n) i Line.unknown) ≡ true
  init_here e = ap init_line (line_here p t n acc i h ∙ line_as (record_at p t i) (is_init_or_next true) (ap shape_of e))

-- ---- an init among the lines

-- what the i kinds looked at say, or what the lines ahead say
pub record Looked (p : Bool) (t : List ℕ) (n i : ℕ) (found : Bool) : Type 0 where
  pub most : i ≤ n
  pub at : has_init (lines_of p t n) ≡ (found || has_init (drop i (lines_of p t n)))

pub init_start : (p : Bool) (t : List ℕ) (n : ℕ) → Looked p t n 0 false
init_start p t n = record { most = omega arith; at = refl }

module _ {p : Bool} {t : List ℕ} {n i : ℕ} {found : Bool} (Y : Looked p t n i found) (acc : checked p t n ≡ Ok tt) where
  from_here : i < n → (b : Bool) → init_line (get_or (lines_of p t n) i Line.unknown) ≡ b → has_init (lines_of p t n) ≡ (found || (b || has_init (drop (i + 1) (lines_of p t n))))
  from_here h b q =
      let C = lines_of p t n in
      let s : suc i ≡ i + 1 = omega arith in
      Y.at ∙ ap (λ (x : Bool). found || x) (ap has_init (drop-cons C i Line.unknown (omega (arith, lines_many p t n acc))) ∙ ap₂ (λ (x : Bool) (k : ℕ). x || has_init (drop k C)) q s)

  pub init_found : (k : ℕ) → i < n → k ≡ kind_in (record_at p t i) → k ≡ 6 → Looked p t n (i + 1) true
  init_found k h q six = record { most = omega arith; at = from_here h true (init_here p t n acc i h (sym q ∙ six)) ∙ or_true found }

  pub init_further : (k : ℕ) → i < n → k ≡ kind_in (record_at p t i) → (k ≡ 6 → ⊥) → Looked p t n (i + 1) found
  init_further k h q other = record { most = omega arith; at = from_here h false (no_init (get_or (lines_of p t n) i Line.unknown) (λ e. other (q ∙ sym (kind_here p t n acc i h) ∙ e))) }

  pub init_end : n ≤ i → found ≡ has_init (lines_of p t n)
  init_end h = sym (Y.at ∙ ap (λ (x : List Line). found || has_init x) (drop_of_length-le (lines_of p t n) {i = i} (omega (arith, lines_many p t n acc))) ∙ or_false found)
