-- What flattening leaves for an accepted table: the flat table with the count answered is accepted, its lines are numbered 1, 2, 3, none has kind 2, and it runs as the
-- circuit does. Assumes nothing.
use Rattle.std.specs.Prelude.{Result, Ok, Err}
use Rattle.tables.specs.declared.Refusal.{Refusal}
use Prim.Native.Nat.{ℕ, ◌≤◌, ◌<◌}
use mathlib.Core.Path.{◌≡◌, refl, sym, ap, ap₂, ◌∙◌, subst, subst⁻¹}
use mathlib.Core.Logic.{◌≢◌}
use mathlib.Core.Bool.{Bool, true, false, ◌&&◌}
use mathlib.Core.List.{List, [], map}
use native.Mathlib.Omega.{arith}
use lib.Dec.{leb}
use lib.ListN.{length, get_or}
use borrow.Author.Tests.{leb-true}
use Rattle.tables.specs.Answers.{if_accepted, left_by}
use Rattle.tables.specs.declared.Refusal.TheVariants.{NotATable, TargetTooSmall}
use Rattle.tables.specs.Pick.{pick}
use Rattle.tables.specs.Lines.{Line, words_of, kind_in}
use Rattle.tables.specs.Layout.{whole, held, room, record_at, records_of, lines_of, ids_of, from}
use Rattle.tables.specs.Types.{no_ctx}
use Rattle.tables.specs.Tables.{checked}
use Rattle.tables.proofs.Outcomes.{not_done, done_count}
use Rattle.tables.proofs.Kept.{both}
use Rattle.tables.proofs.Facts.{AllOk}
use Rattle.tables.proofs.Checking.{roomy}
use Rattle.tables.proofs.Places.{record_at_lem}
use Rattle.tables.proofs.Sound.{accepted_ok}
use Rattle.circuits.specs.Layout.{layout}
use Rattle.circuits.specs.Run.{row_length, run, bytes, first_bad}
use Rattle.flattening.specs.Flat.{flatten, flat_lines, flat_records}
use Rattle.flattening.specs.Placed.{flat_filled}
use Rattle.flattening.specs.Answers.{flattened, flat_left}
use Rattle.flattening.proofs.Alike.{flat_ok, SameCounts, counts_alike, rows_alike, runs_alike}
use Rattle.flattening.proofs.Arrayless.{flat_plain, no_kind_two}
use Rattle.flattening.proofs.Placing.{length_flat_filled, records_flat, accepted_flat, lines_flat, ids_flat}

-- what an answer other than a refusal says
pub record Answered (t : List ℕ) (n len m : ℕ) : Type 0 where
  pub accepted : checked false t n ≡ Ok tt
  pub even : whole false len ≡ true
  pub count : length (flat_lines t n) ≡ m
  pub fits : m ≤ room false len

pub answered : (t : List ℕ) (n len m : ℕ) → flattened t n len ≡ Ok m → Answered t n len m
unfolding flattened
answered t n len m e = go (whole false (length t) && whole false len) (checked false t n) (leb M (room false len)) refl refl refl e
  where
    M : ℕ
    M = length (flat_lines t n)

    go : (a : Bool) (c : Result (Unit {0}) Refusal) (b : Bool) → (whole false (length t) && whole false len) ≡ a → checked false t n ≡ c → leb M (room false len) ≡ b
        → pick a (if_accepted c (pick b (Ok M) (Err TargetTooSmall))) (Err NotATable) ≡ Ok m → Answered t n len m
    go true (Ok _) true p q r z =
        let d = done_count M m z in
        record { accepted = q; even = (both (whole false (length t)) (whole false len) p).1; count = d; fits = subst (λ (x : ℕ). x ≤ room false len) d (leb-true M (room false len) r) }
    go true (Ok _) false p q r z = absurd (not_done TargetTooSmall m z)
    go true (Err x) b p q r z = absurd (not_done x m z)
    go false c b p q r z = absurd (not_done NotATable m z)

module _ (t : List ℕ) (n len m : ℕ) (e : flattened t n len ≡ Ok m) where
  a : Answered t n len m
  a = answered t n len m e

  abbrev F : List Line
  F = flat_lines t n

  -- the circuit and its flat circuit keep the rules
  ok : AllOk false no_ctx (lines_of false t n)
  ok = accepted_ok false t n a.accepted

  ok_f : AllOk false no_ctx F
  ok_f = flat_ok (lines_of false t n) ok

  left : flat_left t n len ≡ flat_filled len (map words_of F)
  unfolding flat_left flat_records
  left = ap (λ (r : Result ℕ Refusal). left_by r len (flat_filled len (map words_of (flat_lines t n)))) e

  small : (m ≤ 16384) × (m ≤ held false len)
  small = roomy false len m a.fits

  fits : length F ≤ held false len
  fits = omega (arith, a.count, small.1)

  -- the target keeps its length
  pub target_length : length (flat_left t n len) ≡ len
  target_length = ap length left ∙ length_flat_filled len (map words_of F)

  -- the flat table with the count answered is accepted
  pub flat_accepted : checked false (flat_left t n len) m ≡ Ok tt
  flat_accepted =
      ap₂ (λ (x : List ℕ) (k : ℕ). checked false x k) left (sym a.count) ∙ accepted_flat F len fits ok_f (omega (arith, a.count, small.0)) a.even

  -- and its lines are the flat circuit's
  pub flat_lines_lem : lines_of false (flat_left t n len) m ≡ flatten (lines_of false t n)
  flat_lines_lem = ap₂ (λ (x : List ℕ) (k : ℕ). lines_of false x k) left (sym a.count) ∙ lines_flat F len fits ok_f

  -- numbered 1, 2, 3
  pub flat_ids : ids_of (flat_left t n len) m ≡ from 1 m
  flat_ids = ap₂ (λ (x : List ℕ) (k : ℕ). ids_of x k) left (sym a.count) ∙ (ids_flat F len fits ∙ ap (from 1) a.count)

  -- none of its records has kind 2
  pub flat_kinds : (i : ℕ) → i < m → kind_in (record_at false (flat_left t n len) i) ≢ 2
  flat_kinds i h z = no_kind_two no_ctx F (flat_plain (lines_of false t n)) ok_f i (ap kind_in (sym same) ∙ z)
    where
      same : record_at false (flat_left t n len) i ≡ get_or (map words_of F) i []
      same =
          sym (record_at_lem false (flat_left t n len) m i h)
          ∙ ap (λ (rs : List (List ℕ)). get_or rs i []) (ap₂ (λ (x : List ℕ) (k : ℕ). records_of false x k) left (sym a.count) ∙ records_flat F len fits)

  -- it has as many state words, inputs and signals
  pub flat_counts : SameCounts (lines_of false t n) (lines_of false (flat_left t n len) m)
  flat_counts = subst⁻¹ (λ (x : List Line). SameCounts (lines_of false t n) x) flat_lines_lem (counts_alike (lines_of false t n) ok)

  -- and rows as long: inputs, and words for free states
  pub flat_row : row_length false (lines_of false (flat_left t n len) m) ≡ row_length false (lines_of false t n)
  flat_row = ap (row_length false) flat_lines_lem ∙ rows_alike (lines_of false t n) ok

  -- and the same run: signals with their marks, hence bytes and the first counted bad
  pub flat_run : (k : ℕ) (S I : List ℕ) → (layout false (lines_of false t n)).counts.states ≤ length S → run false (lines_of false (flat_left t n len) m) k S I ≡ run false (lines_of false t n) k S I
  flat_run k S I h = ap (λ (C : List Line). run false C k S I) flat_lines_lem ∙ runs_alike (lines_of false t n) ok k S I h

  pub flat_bytes : (k : ℕ) (S I : List ℕ) → (layout false (lines_of false t n)).counts.states ≤ length S → bytes (run false (lines_of false (flat_left t n len) m) k S I) ≡ bytes (run false (lines_of false t n) k S I)
  flat_bytes k S I h = ap bytes (flat_run k S I h)

  pub flat_bad : (k : ℕ) (S I : List ℕ) → (layout false (lines_of false t n)).counts.states ≤ length S → first_bad 0 (run false (lines_of false (flat_left t n len) m) k S I) ≡ first_bad 0 (run false (lines_of false t n) k S I)
  flat_bad k S I h = ap (first_bad 0) (flat_run k S I h)
