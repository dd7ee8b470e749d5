-- Minus operands: where one may stand, and the not records that a line gives before its own. A line's signs are a list, true at the places of its record that have a minus.
-- Assumes nothing.
use Rattle.std.specs.Prelude.{ℕ, zero, suc, ◌+◌, ◌-◌, Bool, false, ◌&&◌, ◌||◌, not, List, [], ◌∷◌, ◌++◌, eqb, length, get_or, set, replicate}
use Rattle.tables.specs.declared.Ty.{Ty}
use Rattle.tables.specs.Pick.{pick, inside}
use Rattle.tables.specs.Kinds.{word, value, row_of, sort_class, first_class, second_class, third_class}
use Rattle.tables.specs.Lines.{fields, kind_in, sort_in, first_in, second_in, third_in}
use Rattle.tables.specs.Types.{is_word}
use Rattle.tables.specs.Layout.{record_words}
use Rattle.tables.specs.Ids.{not_kind}

-- ---- signs

abbrev pub no_signs : List Bool
no_signs = replicate record_words false

abbrev pub minus_at : List Bool → (j : ℕ) → Bool
minus_at s j = get_or s j false

-- ---- where a minus may stand

-- "The minus is refused by 8 before a sort, an array, an init value, or the state that an init or next sets": it may stand before a word, in a place of the class k of a line
-- that is no init; a is the type of the operand. The classes from word to value name values, the others states and sorts.
abbrev pub may_take_minus : (kind k : ℕ) → (a : Ty) → Bool
may_take_minus kind k a = inside word value k && (is_word a && not (eqb kind 6))

abbrev pub minus_fits : (kind k : ℕ) → (a : Ty) → (minus : Bool) → Bool
minus_fits kind k a minus = not minus || may_take_minus kind k a

-- each minus of a record stands where it may, after lines whose types are L: the sort's place and the operands', by the row of the record's kind
abbrev pub minuses_by : (row : List ℕ) → (ℕ → Ty) → List Bool → List ℕ → List Bool
minuses_by row L s r =
    minus_fits (kind_in r) (sort_class row) (L (sort_in r)) (minus_at s 1)
    ∷ minus_fits (kind_in r) (first_class row) (L (first_in r)) (minus_at s 2)
    ∷ minus_fits (kind_in r) (second_class row) (L (second_in r)) (minus_at s 3)
    ∷ minus_fits (kind_in r) (third_class row) (L (third_in r)) (minus_at s 4)
    ∷ []

abbrev pub minuses_fit : (ℕ → Ty) → List Bool → List ℕ → List Bool
minuses_fit L s r = minuses_by (row_of (kind_in r)) L s r

-- how many of m operands from the place j on have a minus, and of all three
abbrev pub minuses_from : List Bool → (m j : ℕ) → ℕ
minuses_from s zero j = 0
minuses_from s (suc m) j = pick (minus_at s j) 1 0 + minuses_from s m (suc j)

abbrev pub minuses : List Bool → ℕ
minuses s = minuses_from s 3 2

-- ---- the records of a line

-- "a not record of that operand's sort": for the line at the place a after the records rs, the sort that its own record names
abbrev pub not_of : List (List ℕ) → (a : ℕ) → List ℕ
not_of rs a = fields not_kind (sort_in (get_or rs (a - 1) [])) a 0 0

-- The records of a line after the records rs: for each minus operand, of m from the place j on, a not record; then the line's own, which has the not record's place in the
-- operand's stead.
abbrev pub spread : List Bool → (m j : ℕ) (rs : List (List ℕ)) → (rec : List ℕ) → List (List ℕ)
spread s zero j rs rec = rec ∷ []
spread s (suc m) j rs rec =
    pick (minus_at s j) (not_of rs (get_or rec j 0) ∷ spread s m (suc j) (rs ++ (not_of rs (get_or rec j 0) ∷ [])) (set rec j (suc (length rs)))) (spread s m (suc j) rs rec)

abbrev pub line_records : List Bool → (rs : List (List ℕ)) (rec : List ℕ) → List (List ℕ)
line_records s rs rec = spread s 3 2 rs rec

-- their ids: d is the line's, a not record has 0
abbrev pub line_ids : List Bool → (d : ℕ) → List ℕ
line_ids s d = replicate (minuses s) 0 ++ (d ∷ [])
