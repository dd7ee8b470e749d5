-- What a translation that is not refused leaves: an accepted program, whose lines are the definition's. Assumes nothing.
use Rattle.std.specs.Prelude.{Result, Ok, Err}
use Rattle.tables.specs.declared.Refusal.{Refusal}
use Prim.Native.Nat.{ℕ, ◌≤◌}
use mathlib.Core.Path.{◌≡◌, refl, ap, ◌∙◌, subst⁻¹}
use mathlib.Core.Bool.{Bool, true, false, ◌&&◌}
use mathlib.Core.List.{List, map}
use native.Mathlib.Omega.{arith}
use lib.Dec.{leb}
use lib.ListN.{length}
use borrow.Author.Tests.{leb-true}
use Rattle.tables.specs.declared.Refusal.TheVariants.{NotATable, TargetTooSmall}
use Rattle.tables.specs.Pick.{pick}
use Rattle.tables.specs.Lines.{words_of}
use Rattle.tables.specs.Layout.{whole, held, room, lines_of, filled}
use Rattle.tables.specs.Types.{no_ctx}
use Rattle.tables.specs.Tables.{checked}
use Rattle.tables.specs.Answers.{fitting, if_accepted, left_by}
use Rattle.tables.proofs.Kept.{both}
use Rattle.tables.proofs.Checking.{roomy}
use Rattle.tables.proofs.Facts.{AllOk}
use Rattle.tables.proofs.Sound.{accepted_ok}
use Rattle.tables.proofs.Encoding.{lines_back}
use Rattle.programs.specs.Translation.{has_array}
use Rattle.programs.specs.Answers.{program_of, flat_only, translated, program_left}
use Rattle.programs.proofs.Accepted.{translated_ok, program_accepted}

-- what is known where m records are answered
pub record IsDone (t : List ℕ) (n len m : ℕ) : Type 0 where
  pub accepted : checked false t n ≡ Ok tt
  pub flat : has_array (lines_of false t n) ≡ false
  pub count : m ≡ length (program_of t n)
  pub fits : m ≤ room true len
  pub even : whole true len ≡ true

pub is_done : (t : List ℕ) (n len m : ℕ) → translated t n len ≡ Ok m → IsDone t n len m
unfolding translated
is_done t n len m e = by_whole (whole false (length t) && whole true len) refl e
  where
    by_room : (b : Bool) → leb (length (program_of t n)) (room true len) ≡ b → checked false t n ≡ Ok tt → has_array (lines_of false t n) ≡ false → whole true len ≡ true
        → pick b (Ok (length (program_of t n))) (Err TargetTooSmall) ≡ Ok m → IsDone t n len m
    by_room true q a f w e =
        let c : m ≡ length (program_of t n) = cc in
        record { accepted = a; flat = f; count = c; fits = subst⁻¹ (λ (x : ℕ). x ≤ room true len) c (leb-true (length (program_of t n)) (room true len) q); even = w }
    by_room false q a f w e = let z : ◌≡◌ {A = ℕ} 0 1 = cc in absurd (omega arith)

    by_array : (b : Bool) → has_array (lines_of false t n) ≡ b → checked false t n ≡ Ok tt → whole true len ≡ true → flat_only b (fitting true (length (program_of t n)) len) ≡ Ok m → IsDone t n len m
    by_array true q a w e = let z : ◌≡◌ {A = ℕ} 0 1 = cc in absurd (omega arith)
    by_array false q a w e = by_room (leb (length (program_of t n)) (room true len)) refl a q w e

    by_check : (c : Result (Unit {0}) Refusal) → checked false t n ≡ c → whole true len ≡ true → if_accepted c (flat_only (has_array (lines_of false t n)) (fitting true (length (program_of t n)) len)) ≡ Ok m → IsDone t n len m
    by_check (Ok tt) q w e = by_array (has_array (lines_of false t n)) refl q w e
    by_check (Err r) q w e = let z : ◌≡◌ {A = ℕ} 0 1 = cc in absurd (omega arith)

    by_whole : (b : Bool) → (whole false (length t) && whole true len) ≡ b
        → pick b (if_accepted (checked false t n) (flat_only (has_array (lines_of false t n)) (fitting true (length (program_of t n)) len))) (Err NotATable) ≡ Ok m → IsDone t n len m
    by_whole true q e = by_check (checked false t n) refl (both (whole false (length t)) (whole true len) q).1 e
    by_whole false q e = let z : ◌≡◌ {A = ℕ} 0 1 = cc in absurd (omega arith)

module _ (t : List ℕ) (n len m : ℕ) (e : translated t n len ≡ Ok m) where
  done : IsDone t n len m
  done = is_done t n len m e

  pub flat_ok : AllOk false no_ctx (lines_of false t n)
  flat_ok = accepted_ok false t n done.accepted

  -- there is room for the program's records
  roomy_here : (length (program_of t n) ≤ 16384) × (length (program_of t n) ≤ held true len)
  roomy_here = roomy true len (length (program_of t n)) (omega (arith, done.count, done.fits))

  -- the target holds them, and zeros
  target_is : program_left t n len ≡ filled true len (map words_of (program_of t n))
  unfolding program_left
  target_is = ap (λ (r : Result ℕ Refusal). left_by r len (filled true len (map words_of (program_of t n)))) e

  -- neither 1 nor 20 holds of it with the count answered
  pub target_accepted : checked true (program_left t n len) m ≡ Ok tt
  target_accepted =
      ap (λ (x : List ℕ). checked true x m) target_is
      ∙ ap (checked true (filled true len (map words_of (program_of t n)))) done.count
      ∙ program_accepted (lines_of false t n) len flat_ok done.flat roomy_here.1 roomy_here.0 done.even

  -- and its lines are the program of the flat circuit
  pub target_lines : lines_of true (program_left t n len) m ≡ program_of t n
  target_lines =
      ap (λ (x : List ℕ). lines_of true x m) target_is ∙ ap (lines_of true (filled true len (map words_of (program_of t n)))) done.count
      ∙ lines_back true (program_of t n) len roomy_here.1 (translated_ok (lines_of false t n) flat_ok done.flat)
