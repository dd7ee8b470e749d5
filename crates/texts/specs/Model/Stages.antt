-- Reading a line stage by stage, as the code does: each stage answers its refusal or hands on to the next. `proofs/Staged` shows that this is `read_line`. Assumes nothing.
use Rattle.std.specs.Prelude.{ℕ, zero, suc, ◌+◌, Bool, true, false, ◌&&◌, not, List, [], ◌∷◌, eqb, ltb, length, set, Ok, Err}
use Rattle.tables.specs.declared.Ty.{Ty}
use Rattle.tables.specs.declared.Refusal.{Refusal}
use Rattle.tables.specs.declared.Refusal.TheVariants.{WrongId, NoRecordLeft, UnknownWord, BadOperand, NumberTooLarge, WrongClass, Misfit, InitOrNext, NameUsed}
use Rattle.tables.specs.Pick.{inside, all}
use Rattle.tables.specs.Lines.{sort_in, first_in}
use Rattle.tables.specs.Rules.{fault}
use Rattle.texts.specs.declared.NumberError.TheVariants.{Malformed, TooLarge}
use Rattle.texts.specs.Forms.{form_row, kind_of, first_of, numbers_of}
use Rattle.texts.specs.Decimal.{decimal}
use Rattle.texts.specs.Operands.{resolved}
use Rattle.texts.specs.Names.{used}
use Rattle.texts.specs.Minus.{no_signs, minuses_fit, minuses}
use Rattle.texts.specs.Reading.{Word, word, unknown, word_in, sign_at, number_at, fresh, settled, is_next, last_of, line_name, Reply, skip, no, got}

-- the record, its signs, whether a number was too large, how many bytes the last number has, and the tokens left
pub data Took : Type 0 where
  malformed : Took
  took : (rec : List ℕ) (s : List Bool) (big : Bool) (len : ℕ) (rest : List (List ℕ)) → Took

-- m numbers go to the places j and up of a record, and their signs beside it
unfoldable pub operands : (f m j : ℕ) (rec : List ℕ) (s : List Bool) (big : Bool) (len : ℕ) → List (List ℕ) → Took
operands f zero j rec s big len ts = took rec s big len ts
operands f (suc m) j rec s big len [] = malformed
operands f (suc m) j rec s big len (t ∷ ts) =
    elim (number_at f j t) [
      | Err Malformed ↦ malformed
      | Err TooLarge ↦ operands f m (suc j) rec (set s j (sign_at f j t)) true (length t) ts
      | Ok v ↦ operands f m (suc j) (set rec j v) (set s j (sign_at f j t)) big (length t) ts
    ]

abbrev pub taken_in : ℕ → List (List ℕ) → Took
taken_in f ts = operands f (numbers_of (form_row f)) (first_of (form_row f)) (fresh (kind_of f)) no_signs false 0 ts

-- 9, 10, or the record with its signs
unfoldable pub ruled : ℕ → List ℕ → List Bool → Reply
ruled a rec s = elim (eqb a 0) [ true ↦ got rec s | false ↦ elim (eqb a 9) [ true ↦ no Misfit | false ↦ no InitOrNext ] ]

-- refused by r where the line gives a record and the test of its signs holds
unfoldable pub stopped : (r : Refusal) (test : List Bool → Bool) → Reply → Reply
stopped r test skip = skip
stopped r test (no q) = no q
stopped r test (got rec s) = elim (test s) [ true ↦ no r | false ↦ got rec s ]

-- 22 after lines that have the names ns
abbrev pub named : (name : List ℕ) (ns : List (List ℕ)) → Reply → Reply
named name ns y = stopped NameUsed (λ s. used name ns) y

-- 4 where after n records there is room for the line's own and not for its not records as well; m is the room for all
abbrev pub fitted : (n m : ℕ) → Reply → Reply
fitted n m y = stopped NoRecordLeft (λ s. not (ltb (n + minuses s) m)) y

-- after lines whose types are L and of which G says which states have had an init or a next
module _ (L : ℕ → Ty) (G : Bool → ℕ → Bool) where
  -- 8, but for the minuses; 9, also where a const token has not as many digits as its width; 10
  unfoldable pub judged : (f len : ℕ) → List ℕ → List Bool → Reply
  judged f len rec s =
      elim (eqb (fault false L G rec) 8) [
        | true ↦ no WrongClass
        | false ↦
            elim (eqb f 64 && not (eqb len (L (sort_in rec)).w)) [
              | true ↦ no Misfit
              | false ↦ ruled (fault false L G rec) rec s
            ]
      ]

  -- 8 for a minus that stands where none may, and what follows
  unfoldable pub allowed : (f len : ℕ) → List ℕ → List Bool → Reply
  allowed f len rec s = elim (all (minuses_fit L s rec)) [ true ↦ judged f len rec s | false ↦ no WrongClass ]

  -- the value of one and ones, and what follows
  unfoldable pub concluded : (f len : ℕ) → List ℕ → List Bool → Reply
  concluded f len rec s = allowed f len (settled (L (sort_in rec)).w f rec) s

  -- after lines whose ids are ds
  module _ (ds : List ℕ) where
    -- 7, and then the places of the lines that the record names
    unfoldable pub large : (f : ℕ) → List ℕ → List Bool → Bool → ℕ → Reply
    large f rec s true len = no NumberTooLarge
    large f rec s false len = elim (eqb f 1 && not (inside 1 64 (first_in rec))) [ true ↦ no NumberTooLarge | false ↦ concluded f len (resolved ds rec) s ]

    -- 6
    abbrev pub ended : (f : ℕ) → Took → Reply
    ended f malformed = no BadOperand
    ended f (took rec s big len []) = large f rec s big len
    ended f (took rec s big len (x ∷ [])) = large f rec s big len
    ended f (took rec s big len (x ∷ y ∷ r)) = no BadOperand

    -- 5
    abbrev pub worded : Word → Reply
    worded unknown = no UnknownWord
    worded (word f ts) = ended f (taken_in f ts)

    -- 3 to 10, with room for m records
    unfoldable pub judged_line : (m : ℕ) → List (List ℕ) → Reply
    judged_line m [] = skip
    judged_line m (t ∷ ts) =
        elim (is_next (decimal t) (last_of 0 ds)) [
          | false ↦ no WrongId
          | true ↦ elim (ltb (length ds) m) [ true ↦ worded (word_in ts) | false ↦ no NoRecordLeft ]
        ]

    -- 22 and 4 again, where there is a record
    abbrev pub staged_line : (m : ℕ) (ns : List (List ℕ)) → List (List ℕ) → Reply
    staged_line m ns ts = fitted (length ds) m (named (line_name ts) ns (judged_line m ts))
