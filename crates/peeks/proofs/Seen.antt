-- The answers of a peek, test by test, and the value where none holds. Assumes nothing.
use Prim.Native.Nat.{ℕ, zero, suc, ◌+◌, ◌≤◌, ◌<◌}
use mathlib.Core.Path.{◌≡◌, refl, sym, ap, ap₂, ◌∙◌}
use mathlib.Core.Bool.{Bool, true, false}
use mathlib.Core.List.{List}
use native.Mathlib.Omega.{arith}
use lib.Dec.{leb, eqb}
use lib.ListN.{length, take, get_or, set, replicate, length-replicate}
use borrow.Author.Tests.{leb-true, ltb-true, eqb-true}
use Rattle.std.specs.Prelude.{Option, Some, None, is_some, unwrap_or, Result, Ok, Err}
use Rattle.tables.specs.declared.Note.{Note}
use Rattle.tables.specs.declared.Ty.{Ty}
use Rattle.tables.specs.declared.Refusal.{Refusal}
use Rattle.tables.specs.declared.Refusal.TheVariants.{StartWords, InputWords, NoSuchCell}
use Rattle.tables.specs.Pick.{pick}
use Rattle.tables.specs.Model.Notes.{look_in}
use Rattle.tables.specs.Types.{rank, is_value}
use Rattle.tables.specs.Tables.{checked}
use Rattle.tables.proofs.Checking.{not_accepted}
use Rattle.tables.proofs.Kept.{both}
use Rattle.tables.proofs.Showing.{earlier}
use Rattle.circuits.specs.declared.Totals.{Totals}
use Rattle.circuits.specs.Layout.{Counts, type_at, size, layout}
use Rattle.circuits.specs.Meaning.{cells_at, word_at}
use Rattle.tables.specs.Lines.{Line}
use Rattle.tables.specs.Layout.{lines_of}
use Rattle.circuits.specs.Free.{sources, free_count}
use Rattle.circuits.specs.Run.{input_count, row_length, start}
use Rattle.circuits.proofs.Earlier.{cells_first}
use Rattle.peeks.specs.Peek.{step_zero, peek_at, has_cell, may_peek, seen_as, peeked, told_peek, peeks}
use Rattle.circuits.specs.Model.Work.{num_in}
use Rattle.circuits.specs.Model.Places.{ShowsAll}
use Rattle.circuits.specs.Model.Passes.{counts_of, totals_of, Noted}
use Rattle.peeks.specs.Model.Looks.{init_of, Laid, Looks, KeptWords, kept_at, WordLine, CellLine, HasCell, lent_peek}
use Rattle.circuits.proofs.Placing.{all_sound, lines_here, noted_types}
use Rattle.peeks.proofs.Looked.{shown, one_cell, more_cells}

-- ---- 14, 15 and 18

pub record May (c : Counts) (row : ℕ) (y : Ty) (n k s i : ℕ) : Type 0 where
  pub starts : s ≡ c.states
  pub full : i ≡ row
  pub few : n ≤ 64
  pub value : 2 ≤ rank y.role
  pub inside : k < size y

pub may_facts : (c : Counts) (row : ℕ) (y : Ty) (n k s i : ℕ) → may_peek c row y n k s i ≡ Ok tt → May c row y n k s i
may_facts c row y n k s i = go (eqb s c.states) (eqb i row) (has_cell y n k) refl refl refl
  where
    go : (a b d : Bool) → eqb s c.states ≡ a → eqb i row ≡ b → has_cell y n k ≡ d
        → ◌≡◌ {A = Result (Unit {0}) Refusal} (pick a (pick b (pick d (Ok tt) (Err NoSuchCell)) (Err InputWords)) (Err StartWords)) (Ok tt) → May c row y n k s i
    go true true true a b d z =
        let h = both (leb n 64) _ d in
        let l = both (is_value y) _ h.1 in
        record { starts = eqb-true s c.states a; full = eqb-true i row b; few = leb-true n 64 h.0; value = leb-true 2 (rank y.role) l.0; inside = ltb-true k (size y) l.1 }
    go true true false a b d z = absurd (not_accepted NoSuchCell z)
    go true false w a b d z = absurd (not_accepted InputWords z)
    go false v w a b d z = absurd (not_accepted StartWords z)

-- ---- what a peek begins with

-- of no line a word is kept but of line 0, which is none
pub kept_none : (C : List Line) (S R : List ℕ) {K : List (Option ℕ)} → K ≡ set (replicate 65 None) 0 (Some 0) → KeptWords (step_zero C S R) K
unfolding step_zero start
kept_none C S R {K} e =
    record {
      long = ap length e;
      none = ap (λ (x : List (Option ℕ)). is_some (kept_at x 0)) e;
      are = λ a v k. go a v (ap (λ (x : List (Option ℕ)). kept_at x a) (sym e) ∙ k);
    }
  where
    nothing : (m a : ℕ) → kept_at (replicate m None) a ≡ None
    nothing zero a = refl
    nothing (suc m) zero = refl
    nothing (suc m) (suc a) = nothing m a

    go : (a v : ℕ) → kept_at (set (replicate 65 None) 0 (Some 0)) a ≡ Some v → v ≡ word_at (step_zero C S R) a
    go zero v k =
        ap (λ (o : Option ℕ). unwrap_or o 0) (sym k) ∙ sym (ap (λ (x : List ℕ). get_or x 0 0) (cells_first false false C (start false C S R) (take (input_count false C) R) 0 0 (omega arith) (omega arith)))
    go (suc a) v k = absurd (cc (sym (nothing 64 a) ∙ k))

pub looks_all : {t : List ℕ} {n : ℕ} {P : List (List ℕ)} {ini S R : List ℕ} → Laid t n P S R → length ini ≡ length {A = ℕ} (replicate 65 0)
    → ((q : ℕ) → q < 65 → get_or ini q 0 ≡ init_of q (lines_of false t n)) → Looks t n P ini S R
looks_all l e f = record { laid = l; many = e ∙ length-replicate {A = ℕ} 65 0; inits = λ q h. f q (omega (arith, l.few)) }

module _ {t : List ℕ} {n : ℕ} {P : List (List ℕ)} {S R : List ℕ} (l : Laid t n P S R) (m k : ℕ) (h : HasCell t n m k) where
  few_enough : m ≤ n
  few_enough = omega (arith, earlier (layout false (lines_of false t n)).ctx.tys m (omega (arith, h.value)), lines_here false t n l.accepted)

  cells : num_in P m ≡ size (type_at (layout false (lines_of false t n)) m)
  cells = (shown l m few_enough).is_num

  pub word_here : num_in P m ≡ 1 → WordLine t n m
  word_here e = record { value = h.value; flat = one_cell (type_at (layout false (lines_of false t n)) m).iw (sym cells ∙ e) }

  pub word_seen : {r : ℕ} → num_in P m ≡ 1 → r ≡ word_at (step_zero (lines_of false t n) S R) m → r ≡ peek_at (lines_of false t n) S R m k
  unfolding peek_at
  word_seen e er =
      let one : size (type_at (layout false (lines_of false t n)) m) ≡ 1 = sym cells ∙ e in
      let z : 0 ≡ k = omega (arith, h.inside) in
      er ∙ ap (λ (c : ℕ). get_or (cells_at (step_zero (lines_of false t n) S R) m) c 0) z

  pub cell_here : (num_in P m ≡ 1 → ⊥) → CellLine t n m k
  cell_here z =
      record { array = record { value = h.value; deep = more_cells (type_at (layout false (lines_of false t n)) m).iw (λ e. z (cells ∙ e)) }; inside = h.inside }

  pub cell_seen : {r : ℕ} → r ≡ get_or (cells_at (step_zero (lines_of false t n) S R) m) k 0 → r ≡ peek_at (lines_of false t n) S R m k
  unfolding peek_at
  cell_seen er = er

  pub line_few : m ≤ 16384
  line_few = omega (arith, few_enough, l.few)

-- ---- an accepted table

module _ {t : List ℕ} {n : ℕ} {xs : List Note} (z : Noted false t n xs) (m : ℕ) where
  -- the note of the line peeked at has its type
  type_is : {y : Ty} → y ≡ look_in xs m → y ≡ type_at (layout false (lines_of false t n)) m
  type_is e = e ∙ noted_types false t n z m

  pub type_deep : {y : Ty} → y ≡ look_in xs m → 2 ≤ rank y.role → y.iw ≤ 8
  type_deep e q = let f = type_is e in omega (arith, ap (λ (u : Ty). u.iw) f, ((all_sound false t n z.accepted).wide m (omega (arith, ap (λ (u : Ty). rank u.role) f))).deep)

  -- the tests on what the pass and the check have found
  pub may_on : (k : ℕ) (S R : List ℕ) {all : Totals} {y : Ty} {d x : Result (Unit {0}) Refusal} → all ≡ totals_of (layout false (lines_of false t n)).counts (free_count (sources false (lines_of false t n))) → y ≡ look_in xs m
      → d ≡ may_peek (counts_of all) (all.inputs + all.free) y n k (length S) (length R) → d ≡ x
      → may_peek (layout false (lines_of false t n)).counts (row_length false (lines_of false t n)) (type_at (layout false (lines_of false t n)) m) n k (length S) (length R) ≡ x
  may_on k S R ea ey ed ex = sym (ed ∙ ap₂ (λ (v : Totals) (u : Ty). may_peek (counts_of v) (v.inputs + v.free) u n k (length S) (length R)) ea (type_is ey)) ∙ ex

  pub peek_laid : {P : List (List ℕ)} {S R : List ℕ} (k : ℕ) → ShowsAll P (layout false (lines_of false t n))
      → may_peek (layout false (lines_of false t n)).counts (row_length false (lines_of false t n)) (type_at (layout false (lines_of false t n)) m) n k (length S) (length R) ≡ Ok tt → Laid t n P S R × HasCell t n m k
  peek_laid {P} {S} {R} k sh e =
      let f = may_facts (layout false (lines_of false t n)).counts (row_length false (lines_of false t n)) (type_at (layout false (lines_of false t n)) m) n k (length S) (length R) e in (
        record { accepted = z.accepted; few = f.few; shows = sh; starts = f.starts; row = omega (arith, f.full) },
        record { value = f.value; inside = f.inside },
      )

module _ (t : List ℕ) (n m k : ℕ) (S R : List ℕ) where
  pub lent_refused : (r : Refusal) → may_peek (layout false (lines_of false t n)).counts (row_length false (lines_of false t n)) (type_at (layout false (lines_of false t n)) m) n k (length S) (length R) ≡ Err r → Err r ≡ lent_peek t n m k S R
  lent_refused r e = sym (ap (λ (d : Result (Unit {0}) Refusal). seen_as d (peek_at (lines_of false t n) S R m k)) e)

  pub lent_value : {v : ℕ} → may_peek (layout false (lines_of false t n)).counts (row_length false (lines_of false t n)) (type_at (layout false (lines_of false t n)) m) n k (length S) (length R) ≡ Ok tt → v ≡ peek_at (lines_of false t n) S R m k
      → Ok v ≡ lent_peek t n m k S R
  lent_value e ev = ap Ok ev ∙ sym (ap (λ (d : Result (Unit {0}) Refusal). seen_as d (peek_at (lines_of false t n) S R m k)) e)

  pub peek_refused : {r : Refusal} → checked false t n ≡ Err r → told_peek (Err r) ≡ peeks t n m k S R
  unfolding peeks peeked
  peek_refused e = rw e refl

  pub peek_lent : {r : Result ℕ Refusal} → checked false t n ≡ Ok tt → r ≡ lent_peek t n m k S R → told_peek r ≡ peeks t n m k S R
  unfolding peeks peeked
  peek_lent e q = rw (e, q) refl
