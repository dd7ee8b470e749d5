-- The number and the values tell the answer: what is told of two answers is the same only where the answers are. Assumes nothing.
use Rattle.std.specs.Prelude.{Result, Ok, Err}
use Prim.Native.Nat.{ℕ}
use mathlib.Core.Path.{◌≡◌, refl, sym, ap, ap₂, ◌∙◌}
use mathlib.Core.List.{List, [], ◌∷◌}
use native.Mathlib.Omega.{arith}
use lib.Dec.{eqb}
use lib.ListN.{get_or}
use Rattle.tables.specs.declared.Refusal.{Refusal}
use Rattle.tables.specs.declared.Refusal.TheVariants.{NotATable, TextTooLong, WrongId, NoRecordLeft, UnknownWord, BadOperand, NumberTooLarge, WrongClass, Misfit, InitOrNext, BadTable, TargetTooSmall, TooManySteps, StartWords, InputWords, SignalBytes, WorkArea, NoSuchCell, ArrayPresent, BadProgram, TextBuffer, NameUsed}
use Rattle.tables.specs.Pick.{pick}
use Rattle.tables.specs.Answers.{Outcome, told}

-- ---- what is told is built from the answer and what is left

pub told_as : {r a : Result ℕ Refusal} {x y : List (List ℕ)} → r ≡ a → x ≡ y → told r x ≡ told a y
told_as e f = ap₂ told e f

pub left_told : (r : Result ℕ Refusal) (x : List (List ℕ)) → (told r x).left ≡ x
left_told (Ok n) x = refl
left_told (Err r) x = refl

-- ---- and both are found in it

abbrev refusals : List Refusal
refusals =
    NotATable ∷ NotATable ∷ TextTooLong ∷ WrongId ∷ NoRecordLeft ∷ UnknownWord ∷ BadOperand ∷ NumberTooLarge ∷ WrongClass ∷ Misfit ∷ InitOrNext ∷ BadTable ∷ TargetTooSmall ∷ TooManySteps ∷ StartWords ∷ InputWords ∷ SignalBytes ∷ WorkArea ∷ NoSuchCell ∷ ArrayPresent ∷ BadProgram ∷ TextBuffer ∷ NameUsed ∷ []

abbrev answer_in : Outcome → Result ℕ Refusal
answer_in o = pick (eqb o.number 0) (Ok (get_or o.values 0 0)) (Err (get_or refusals o.number NotATable))

answer_again : (a : Result ℕ Refusal) (x : List (List ℕ)) → answer_in (told a x) ≡ a
answer_again (Ok n) x = refl
answer_again (Err NotATable) x = refl
answer_again (Err TextTooLong) x = refl
answer_again (Err WrongId) x = refl
answer_again (Err NoRecordLeft) x = refl
answer_again (Err UnknownWord) x = refl
answer_again (Err BadOperand) x = refl
answer_again (Err NumberTooLarge) x = refl
answer_again (Err WrongClass) x = refl
answer_again (Err Misfit) x = refl
answer_again (Err InitOrNext) x = refl
answer_again (Err BadTable) x = refl
answer_again (Err TargetTooSmall) x = refl
answer_again (Err TooManySteps) x = refl
answer_again (Err StartWords) x = refl
answer_again (Err InputWords) x = refl
answer_again (Err SignalBytes) x = refl
answer_again (Err WorkArea) x = refl
answer_again (Err NoSuchCell) x = refl
answer_again (Err ArrayPresent) x = refl
answer_again (Err BadProgram) x = refl
answer_again (Err TextBuffer) x = refl
answer_again (Err NameUsed) x = refl

pub told_answer : (r a : Result ℕ Refusal) (x y : List (List ℕ)) → told r x ≡ told a y → r ≡ a
told_answer r a x y e = sym (answer_again r x) ∙ (ap answer_in e ∙ answer_again a y)

pub told_left : (r a : Result ℕ Refusal) (x y : List (List ℕ)) → told r x ≡ told a y → x ≡ y
told_left r a x y e = sym (left_told r x) ∙ (ap (λ (o : Outcome). o.left) e ∙ left_told a y)

-- ---- a count is no refusal, and one count is not another

pub not_done : (r : Refusal) (m : ℕ) → ◌≡◌ {A = Result ℕ Refusal} (Err r) (Ok m) → ⊥
not_done r m e = let z : ◌≡◌ {A = ℕ} 0 1 = cc in omega arith

pub done_count : (m n : ℕ) → ◌≡◌ {A = Result ℕ Refusal} (Ok m) (Ok n) → m ≡ n
done_count m n e = cc
