-- The outcome of translating, test by test. Assumes nothing.
use Rattle.std.specs.Prelude.{Result, Ok, Err}
use Prim.Native.Nat.{ℕ, ◌≤◌, ◌<◌}
use mathlib.Core.Path.{◌≡◌, sym, ap, ap₂, ◌∙◌}
use mathlib.Core.Bool.{Bool, true, false, ◌&&◌}
use mathlib.Core.List.{List, [], ◌∷◌}
use lib.ListN.{length, replicate}
use borrow.Author.Tests.{le-leb, lt-leb}
use Rattle.tables.specs.declared.Refusal.{Refusal}
use Rattle.tables.specs.declared.Refusal.TheVariants.{NotATable, TargetTooSmall, ArrayPresent}
use Rattle.tables.specs.Pick.{pick}
use Rattle.tables.specs.Layout.{whole, room, lines_of}
use Rattle.tables.specs.Tables.{checked}
use Rattle.tables.specs.Answers.{Outcome, told, fitting, if_accepted}
use Rattle.tables.proofs.Outcomes.{told_as}
use Rattle.programs.specs.Translation.{has_array}
use Rattle.programs.specs.Answers.{program_of, flat_only, translated, program_left, translates}
use Rattle.programs.specs.Model.Passes.{program_in, outcome_for, makes}
use Rattle.programs.proofs.Keeping.{zeros_count}

-- zeros, by their own number
pub zeros_self : {target : List ℕ} (len : ℕ) → target ≡ replicate len 0 → target ≡ replicate (length target) 0
zeros_self len e = e ∙ ap (λ (k : ℕ). replicate k 0) (sym (zeros_count len e))

-- a refusal leaves zeros
zeros_left : (r : Refusal) (t : List ℕ) (n len : ℕ) {target : List ℕ} → target ≡ replicate len 0 → told (Err r) (target ∷ []) ≡ outcome_for (Err r) t n len
zeros_left r t n len z = ap (λ (x : List ℕ). told (Err r) (x ∷ [])) z

-- ---- the tests in their order, where the target is zero

module _ (t : List ℕ) (n len : ℕ) {target : List ℕ} (z : target ≡ replicate len 0) where
  outcome_is : (a : Result ℕ Refusal) → translated t n len ≡ a → outcome_for a t n len ≡ translates t n len
  unfolding translates program_left
  outcome_is a e = ap (λ (y : Result ℕ Refusal). outcome_for y t n len) (sym e)

  refused : (r : Refusal) → translated t n len ≡ Err r → told (Err r) (target ∷ []) ≡ translates t n len
  refused r e = zeros_left r t n len z ∙ outcome_is (Err r) e

  abbrev rest : Result (Unit {0}) Refusal → Result ℕ Refusal
  rest c = if_accepted c (flat_only (has_array (lines_of false t n)) (fitting true (length (program_of t n)) len))

  abbrev both : Bool → Bool → Result ℕ Refusal
  both b d = pick (b && d) (rest (checked false t n)) (Err NotATable)

  pub no_table : whole false (length t) ≡ false → told (Err NotATable) (target ∷ []) ≡ translates t n len
  unfolding translated
  no_table e = refused NotATable (ap (λ (b : Bool). both b (whole true len)) e)

  target_whole : {d : Bool} → whole true (length target) ≡ d → whole true len ≡ d
  target_whole f = ap (whole true) (sym (zeros_count len z)) ∙ f

  pub no_target : whole false (length t) ≡ true → whole true (length target) ≡ false → told (Err NotATable) (target ∷ []) ≡ translates t n len
  unfolding translated
  no_target e f = refused NotATable (ap₂ both e (target_whole f))

  module _ (e : whole false (length t) ≡ true) (f : whole true (length target) ≡ true) where
    checked_is : (c : Result (Unit {0}) Refusal) → checked false t n ≡ c → translated t n len ≡ rest c
    unfolding translated
    checked_is c q = ap₂ both e (target_whole f) ∙ ap rest q

    pub not_accepted : (r : Refusal) → checked false t n ≡ Err r → told (Err r) (target ∷ []) ≡ translates t n len
    not_accepted r q = refused r (checked_is (Err r) q)

    module _ (q : checked false t n ≡ Ok tt) where
      array_is : (b : Bool) → has_array (lines_of false t n) ≡ b → translated t n len ≡ flat_only b (fitting true (length (program_of t n)) len)
      array_is b a = checked_is (Ok tt) q ∙ ap (λ (b : Bool). flat_only b (fitting true (length (program_of t n)) len)) a

      pub array_there : has_array (lines_of false t n) ≡ true → told (Err ArrayPresent) (target ∷ []) ≡ translates t n len
      array_there a = refused ArrayPresent (array_is true a)

      pub made_is : has_array (lines_of false t n) ≡ false → {o : Outcome} → o ≡ makes t n (length target) → o ≡ translates t n len
      made_is a eo = eo ∙ ap (makes t n) (zeros_count len z) ∙ outcome_is (fitting true (length (program_of t n)) len) (array_is false a)

-- ---- the room of the target

module _ (t : List ℕ) (n len : ℕ) where
  abbrev room_for : Bool → Outcome
  room_for b = outcome_for (pick b (Ok (length (program_of t n))) (Err TargetTooSmall)) t n len

  pub too_small : {target : List ℕ} → target ≡ replicate len 0 → room true len < length (program_of t n) → told (Err TargetTooSmall) (target ∷ []) ≡ makes t n len
  too_small z h = zeros_left TargetTooSmall t n len z ∙ sym (ap room_for (lt-leb (length (program_of t n)) (room true len) h))

  pub fits_target : {m : ℕ} {target : List ℕ} → m ≡ length (program_of t n) → length (program_of t n) ≤ room true len → target ≡ program_in t n len → told (Ok m) (target ∷ []) ≡ makes t n len
  fits_target em h et =
      told_as (ap Ok em) (ap (λ (x : List ℕ). x ∷ []) et) ∙ sym (ap room_for (le-leb (length (program_of t n)) (room true len) h))
