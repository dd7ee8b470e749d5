-- The records of a line on their way into the table, as the code puts them, one behind the other. Assumes nothing.
use Rattle.std.specs.Prelude.{ℕ, zero, suc, ◌+◌, ◌-◌, ◌≤◌, ◌<◌, ◌≡◌, Bool, true, false, List, get_or, set}
use Rattle.tables.specs.declared.Note.{Note}
use Rattle.tables.specs.Pick.{pick}
use Rattle.tables.specs.Lines.{fields, kind_in, sort_in, first_in}
use Rattle.tables.specs.Layout.{record_at, with_id, recorded}
use Rattle.tables.specs.Ids.{not_kind}
use Rattle.tables.specs.Model.Notes.{noted}
use Rattle.texts.specs.Minus.{minus_at, minuses_from}

-- a table that holds so many records, and the notes of their lines
pub record Filling : Type 0 where
  pub table : List ℕ
  pub notes : List Note
  pub count : ℕ

abbrev pub filling : (table : List ℕ) (notes : List Note) (n : ℕ) → Filling
filling t ns n = record { table = t; notes = ns; count = n }

-- with one record more, whose id is d
abbrev pub added : Filling → (rec : List ℕ) (d : ℕ) → Filling
added F rec d = filling (recorded false F.table F.count (with_id rec d)) (noted false rec (F.count + 1) F.notes) (F.count + 1)

-- the not record of the line at the place a, by the sort word of the record that stands there
abbrev pub not_in : (table : List ℕ) (a : ℕ) → List ℕ
not_in t a = fields not_kind (sort_in (record_at false t (a - 1))) a 0 0

-- with the records of a line: not records for its minus operands, of m from the place j on, and its own, with the id d
abbrev pub added_from : List Bool → (m j : ℕ) → Filling → (rec : List ℕ) (d : ℕ) → Filling
added_from s zero j F rec d = added F rec d
added_from s (suc m) j F rec d =
    pick (minus_at s j) (added_from s m (suc j) (added F (not_in F.table (get_or rec j 0)) 0) (set rec j (F.count + 1)) d) (added_from s m (suc j) F rec d)

-- the places whose operands have a minus, from j on
abbrev pub Signed : List Bool → (j i : ℕ) → Type 0
Signed s j i = (j ≤ i) × ((i ≤ 4) × (minus_at s i ≡ true))

-- A line's record can be put behind n others: there is room for it with its not records, an operand that has a minus is one of the n, and a sort has a width and no minus.
pub record Ready (s : List Bool) (m j n room : ℕ) (rec : List ℕ) : Type 0 where
  pub left : n + minuses_from s m j < room
  pub named : (i : ℕ) → Signed s j i → (1 ≤ get_or rec i 0) × (get_or rec i 0 ≤ n)
  pub sort : kind_in rec ≡ 1 → (first_in rec ≤ 64) × ((i : ℕ) → Signed s j i → ⊥)
