-- Operand tokens name ids; the operands of a record are places. Places count the records from 1. Assumes nothing.
use Rattle.std.specs.Prelude.{ℕ, suc, ◌||◌, List, [], ◌∷◌, eqb}
use Rattle.tables.specs.Pick.{pick}
use Rattle.tables.specs.Kinds.{none, number, row_of, sort_class, first_class, second_class, third_class}
use Rattle.tables.specs.Lines.{fields, kind_in, sort_in, first_in, second_in, third_in}

-- the place of the line that has the id d, among lines that have the ids ds and of which the first has the place n; 0, which is no line's place, where none has it
abbrev pub place_by_id_from : (n : ℕ) → List ℕ → (d : ℕ) → ℕ
place_by_id_from n [] d = 0
place_by_id_from n (e ∷ ds) d = pick (eqb e d) n (place_by_id_from (suc n) ds d)

-- no token names 0: that is the id of the not records that stand for minus operands
abbrev pub place_by_id : List ℕ → (d : ℕ) → ℕ
place_by_id ds d = pick (eqb d 0) 0 (place_by_id_from 1 ds d)

-- what the number v is in a place of the class k: the place of the line that it names; where the class is none or a plain number, v itself
abbrev pub meant : (k : ℕ) → List ℕ → (v : ℕ) → ℕ
meant k ds v = pick (eqb k none || eqb k number) v (place_by_id ds v)

-- a record as it is written, with the places of the lines that its numbers name: the sort and the operands, each by its class in the row of the kind
unfoldable pub resolved : List ℕ → (r : List ℕ) → List ℕ
resolved ds r =
    fields (kind_in r) (meant (sort_class (row_of (kind_in r))) ds (sort_in r)) (meant (first_class (row_of (kind_in r))) ds (first_in r))
    (meant (second_class (row_of (kind_in r))) ds (second_in r)) (meant (third_class (row_of (kind_in r))) ds (third_in r))
