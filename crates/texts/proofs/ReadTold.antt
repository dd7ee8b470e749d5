-- What is told of two answers of reading is the same only where the answers are. Assumes nothing.
use Rattle.std.specs.Prelude.{Result, Ok, Err}
use Prim.Native.Nat.{ℕ}
use mathlib.Core.Path.{◌≡◌, refl, sym, ap, ◌∙◌}
use mathlib.Core.List.{List, [], ◌∷◌}
use lib.ListN.{get_or}
use Rattle.tables.specs.declared.Refusal.{Refusal}
use Rattle.tables.specs.Refusals.{number_of}
use Rattle.tables.specs.Answers.{Outcome, outcome, told}
use Rattle.tables.proofs.Outcomes.{told_answer, not_done}
use Rattle.texts.specs.declared.TextRefusal.{TextRefusal}
use Rattle.texts.specs.Reading.{told_read}

-- no refusal has the number 0
number_some : (r : Refusal) → number_of r ≡ 0 → ⊥
number_some r e = not_done r 0 (told_answer (Err r) (Ok 0) [] [] (ap (λ (n : ℕ). outcome n 0 0 0 []) e))

same_refusal : (r q : Refusal) → number_of r ≡ number_of q → r ≡ q
same_refusal r q e = let p : ◌≡◌ {A = Result ℕ Refusal} (Err r) (Err q) = told_answer (Err r) (Err q) [] [] (ap (λ (n : ℕ). outcome n 0 0 0 []) e) in cc

pub read_answer : (r a : Result ℕ TextRefusal) (x y : List (List ℕ)) → told_read r x ≡ told_read a y → r ≡ a
read_answer (Ok n) (Ok m) x y e = ap Ok (ap (λ (o : Outcome). get_or o.values 0 0) e)
read_answer (Ok n) (Err q) x y e = absurd (number_some q.refusal (sym (ap (λ (o : Outcome). o.number) e)))
read_answer (Err q) (Ok m) x y e = absurd (number_some q.refusal (ap (λ (o : Outcome). o.number) e))
read_answer (Err q) (Err p) x y e =
    let f : q.refusal ≡ p.refusal = same_refusal q.refusal p.refusal (ap (λ (o : Outcome). o.number) e) in
    let g : q.line ≡ p.line = ap (λ (o : Outcome). get_or o.values 0 0) e in
    λ i. Err (record { refusal = f i; line = g i })

left_read : (r : Result ℕ TextRefusal) (x : List (List ℕ)) → (told_read r x).left ≡ x
left_read (Ok n) x = refl
left_read (Err q) x = refl

pub read_left : (r a : Result ℕ TextRefusal) (x y : List (List ℕ)) → told_read r x ≡ told_read a y → x ≡ y
read_left r a x y e = sym (left_read r x) ∙ ap (λ (o : Outcome). o.left) e ∙ left_read a y
