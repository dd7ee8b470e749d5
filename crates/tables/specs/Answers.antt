-- What an operation answers and leaves: the request's number and values for each answer, and the lists that were lent for writing. Assumes nothing.
use Rattle.tables.specs.declared.Refusal.{Refusal}
use Rattle.std.specs.Prelude.{ℕ, Bool, List, [], ◌∷◌, leb, replicate, Result, Ok, Err}
use Rattle.tables.specs.declared.Refusal.TheVariants.{TargetTooSmall}
use Rattle.tables.specs.Pick.{pick}
use Rattle.tables.specs.Layout.{room}
use Rattle.tables.specs.Refusals.{number_of}

-- the number is 0 where the operation is done, else the refusal's; there are three values
pub record Outcome : Type 0 where
  pub number : ℕ
  pub values : List ℕ
  pub left : List (List ℕ)

abbrev pub outcome : ℕ → (a b c : ℕ) → (left : List (List ℕ)) → Outcome
outcome n a b c left = record { number = n; values = a ∷ b ∷ c ∷ []; left = left }

-- of an answer that counts: the count
abbrev pub told : Result ℕ Refusal → (left : List (List ℕ)) → Outcome
told (Ok n) left = outcome 0 n 0 0 left
told (Err r) left = outcome (number_of r) 0 0 0 left

-- ---- operations that leave records in a target

-- where the table is accepted, the answer a
abbrev pub if_accepted : Result (Unit {0}) Refusal → (a : Result ℕ Refusal) → Result ℕ Refusal
if_accepted (Ok _) a = a
if_accepted (Err r) a = Err r

-- 12: more records than the target, of len words, or 16,384 holds; else their number m
abbrev pub fitting : Bool → (m len : ℕ) → Result ℕ Refusal
fitting p m len = pick (leb m (room p len)) (Ok m) (Err TargetTooSmall)

-- what a target of len words holds then: the list t, and zeros after a refusal
abbrev pub left_by : Result ℕ Refusal → (len : ℕ) → (t : List ℕ) → List ℕ
left_by (Ok m) len t = t
left_by (Err r) len t = replicate len 0
