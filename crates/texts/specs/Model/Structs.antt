-- What the structs that the reader's functions hand on stand for. Assumes nothing.
use Rattle.std.specs.Prelude.{ℕ, zero, suc, ◌+◌, ◌-◌, ◌≤◌, ◌<◌, ◌≡◌, Bool, true, false, ◌||◌, List, [], ◌∷◌, length, take, drop, Option, Some, None, Result, Ok, Err}
use Rattle.tables.specs.declared.Refusal.{Refusal}
use Rattle.texts.specs.Decimal.{Num}
use Rattle.texts.specs.declared.Form.{Form}
use Rattle.texts.specs.declared.Taken.{Taken}
use Rattle.texts.specs.declared.SignedRecord.{SignedRecord}
use Rattle.texts.specs.declared.LineRead.{LineRead}
use Rattle.texts.specs.declared.Part.{Part}
use Rattle.texts.specs.Split.{tokens}
use Rattle.texts.specs.Names.{with_name}
use Rattle.texts.specs.Minus.{minus_at}
use Rattle.texts.specs.Reading.{Word, word, unknown, is_next, value_of, line_id, line_name, Reply, skip, no, got}
use Rattle.texts.specs.Model.Chains.{names_in, Chained}
use Rattle.texts.specs.Model.Stages.{Took, took, malformed, named, fitted}

-- what a search gives; 0 where there is nothing
abbrev pub found : ℕ → Option ℕ
found zero = None
found (suc n) = Some (suc n)

-- a form and the place behind its word; none for an unknown word
abbrev pub as_word : List ℕ → Option Form → Word
as_word l None = unknown
as_word l (Some w) = word w.form (tokens (drop w.at l))

-- the numbers of a line; none where one is missing or malformed
abbrev pub as_took : List ℕ → Option Taken → Took
as_took l None = malformed
as_took l (Some t) = took t.rec t.minus t.big t.len (tokens (drop t.at l))

-- a record with its signs, or a refusal
abbrev pub signed_reply : Result SignedRecord Refusal → Reply
signed_reply (Ok x) = got x.rec x.minus
signed_reply (Err r) = no r

-- what a line gives: nothing where it is blank
abbrev pub line_reply : Result (Option LineRead) Refusal → Reply
line_reply (Ok None) = skip
line_reply (Ok (Some x)) = signed_reply x.own
line_reply (Err r) = no r

-- and after the last two tests, its record with its id
abbrev pub own_reply : Result (Option (SignedRecord × ℕ)) Refusal → Reply
own_reply (Ok None) = skip
own_reply (Ok (Some z)) = got z.0.rec z.0.minus
own_reply (Err r) = no r

-- the line r is x, and gives the record o
abbrev pub Gives : (r : Result (Option LineRead) Refusal) (x : LineRead) (o : SignedRecord) → Type 0
Gives r x o = (r ≡ Ok (Some x)) × (x.own ≡ Ok o)

-- the part of the line that is its name; empty where its word isn't known
abbrev pub name_part : Result (Option LineRead) Refusal → Part
name_part (Ok None) = record { from = 0; to = 0 }
name_part (Ok (Some x)) = x.name
name_part (Err r) = record { from = 0; to = 0 }

-- the id and the name of a line that gives a record are those of its bytes l
pub record Labelled (l : List ℕ) (x : LineRead) : Type 0 where
  pub number : x.id ≡ line_id (tokens l)
  pub ordered : x.name.from ≤ x.name.to
  pub within : x.name.to ≤ length l
  pub name : take (x.name.to - x.name.from) (drop x.name.from l) ≡ line_name (tokens l)

-- the id that a token gives a line, or none
abbrev pub NextId : Num → (last : ℕ) → Option ℕ → Type 0
NextId n last None = is_next n last ≡ false
NextId n last (Some v) = (is_next n last ≡ true) × (v ≡ value_of n)

-- some place of a record has a minus
abbrev pub any_sign : List Bool → Bool
any_sign s = minus_at s 1 || (minus_at s 2 || (minus_at s 3 || minus_at s 4))

-- two tokens or more
abbrev pub several : List (List ℕ) → Bool
several [] = false
several (x ∷ []) = false
several (x ∷ y ∷ r) = true

-- the first token from the place i of a line on stands from a to z; where there is none, both are the line's end
abbrev pub NextToken : (l : List ℕ) (i a z : ℕ) → Type 0
NextToken l i a z = (a < z → tokens (drop i l) ≡ take (z - a) (drop a l) ∷ tokens (drop z l)) × (a ≡ z → (z ≡ length l) × (tokens (drop i l) ≡ []))

-- The bytes of a name that is the part p of a line at the place i of the text s.
abbrev pub name_from : (s : List ℕ) (i : ℕ) (p : Part) → List ℕ
name_from s i p = take (p.to - p.from) (drop (i + p.from) s)

-- z is the record and the id of the line r, and w' has its name behind those that w chains
pub record Admitted (s w w' : List ℕ) (i : ℕ) (r : Result (Option LineRead) Refusal) (z : SignedRecord × ℕ) : Type 0 where
  pub line : LineRead
  pub own : Gives r line z.0
  pub number : z.1 ≡ line.id
  pub chained : Chained s w'
  pub names : names_in s w' ≡ with_name (name_from s i line.name) (names_in s w)

-- y is what the line r gives after the last two tests
pub record Admits (s w w' : List ℕ) (i n m : ℕ) (r : Result (Option LineRead) Refusal) (y : Result (Option (SignedRecord × ℕ)) Refusal) : Type 0 where
  pub gives : own_reply y ≡ fitted n m (named (name_from s i (name_part r)) (names_in s w) (line_reply r))
  pub kept : ((x : LineRead) (o : SignedRecord) → Gives r x o → ⊥) → w' ≡ w
  pub admitted : (z : SignedRecord × ℕ) → y ≡ Ok (Some z) → Admitted s w w' i r z
