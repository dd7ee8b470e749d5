-- The refusals of flattening before the pass over the lines, and what the pass starts from. Assumes nothing.
use Rattle.std.specs.Prelude.{Result, Ok, Err}
use Prim.Native.Nat.{ℕ, ◌≤◌, ◌<◌}
use mathlib.Core.Path.{◌≡◌, refl, sym, ap, ◌∙◌}
use mathlib.Core.Bool.{true, false}
use mathlib.Core.List.{List, [], ◌∷◌}
use lib.ListN.{length, replicate, length-replicate}
use Rattle.tables.specs.declared.Note.{Note}
use Rattle.tables.specs.declared.Ty.{Ty}
use Rattle.tables.specs.declared.Refusal.{Refusal}
use Rattle.tables.specs.declared.Refusal.TheVariants.{NotATable}
use Rattle.tables.specs.Layout.{whole, lines_of}
use Rattle.tables.specs.Types.{context}
use Rattle.tables.specs.Model.Notes.{blank, Shows}
use Rattle.tables.specs.Tables.{checked}
use Rattle.tables.specs.Answers.{told, left_by}
use Rattle.tables.proofs.Checking.{fresh}
use Rattle.tables.proofs.Encoding.{fits_table}
use Rattle.flattening.specs.Flat.{flat_records}
use Rattle.flattening.specs.Model.Cells.{nothing}
use Rattle.flattening.specs.Model.Start.{Begun, Clear, Blank}
use Rattle.flattening.specs.Placed.{flat_filled}
use Rattle.flattening.specs.Answers.{flattened, flat_left, flattens}
use Rattle.flattening.proofs.Outcomes.{flattens_as}

-- ---- refusals leave zeros

module _ (t : List ℕ) (n len : ℕ) {left : List ℕ} (zeros : left ≡ replicate len 0) where
  refused_as : (r : Refusal) → Err r ≡ flattened t n len → told (Err r) (left ∷ []) ≡ flattens t n len
  unfolding flat_left
  refused_as r e = flattens_as t n len e (zeros ∙ ap (λ (x : Result ℕ Refusal). left_by x len (flat_filled len (flat_records t n))) e)

  pub first_refused : whole false (length t) ≡ false → told (Err NotATable) (left ∷ []) ≡ flattens t n len
  unfolding flattened
  first_refused e = refused_as NotATable (rw e)

  pub second_refused : whole false (length t) ≡ true → whole false len ≡ false → told (Err NotATable) (left ∷ []) ≡ flattens t n len
  unfolding flattened
  second_refused e f = refused_as NotATable (rw (e, f))

  check_refused : whole false (length t) ≡ true → whole false len ≡ true → (r : Refusal) → checked false t n ≡ Err r → told (Err r) (left ∷ []) ≡ flattens t n len
  unfolding flattened
  check_refused e f r q = refused_as r (rw (e, f, q))

-- ---- two whole tables, and an empty target

module _ (t : List ℕ) (n : ℕ) {target : List ℕ} where
  pub refused : Clear t target → (r : Refusal) → Err r ≡ checked false t n → told (Err r) (target ∷ []) ≡ flattens t n (length target)
  refused k r q = check_refused t n (length target) k.empty k.first k.even r (sym q)

  pub begin : {types₀ types : List Note} {kept : List (List ℕ)} → Blank t n types₀ kept target → Ok tt ≡ checked false t n → Shows types (context false (lines_of false t n)) → Begun t n types kept target
  begin k a s =
      record {
        accepted = sym a;
        iw = λ x. ap (λ (y : Ty). y.iw) (s.types x);
        w = λ x. ap (λ (y : Ty). y.w) (s.types x);
        even = k.clear.even;
        empty = k.clear.empty;
        size = k.size;
        wide = k.wide (fits_table false t n (sym a)).0;
        most = k.most;
        no_kept = k.no_kept;
      }

-- lists of m entries
pub blank_lists : (t : List ℕ) (n m : ℕ) {target : List ℕ} → Clear t target → (n ≤ 16384 → n < m) → m ≤ 65536 → Blank t n (replicate m blank) (replicate m nothing) target
blank_lists t n m k h l = record { clear = k; fresh = fresh n m h; size = m; wide = h; most = l; no_kept = refl }

-- ---- a target that has been cleared keeps its length and is empty

module _ (t xs : List ℕ) {ys : List ℕ} (cleared : ys ≡ replicate (length xs) 0) where
  pub cleared_length : length ys ≡ length xs
  cleared_length = ap length cleared ∙ length-replicate {A = ℕ} (length xs) 0

  pub is_clear : whole false (length t) ≡ true → whole false (length ys) ≡ true → Clear t ys
  is_clear f e = record { first = f; even = e; empty = cleared ∙ ap (λ (m : ℕ). replicate {A = ℕ} m 0) (sym cleared_length) }

  -- the outcome is that of the target before
  pub as_cleared : (n : ℕ) → flattens t n (length ys) ≡ flattens t n (length xs)
  as_cleared n = ap (flattens t n) cleared_length
