-- When a table with its count is accepted: circuits (1, 11) and programs (1, 20). Assumes nothing.
use Rattle.std.specs.Prelude.{ℕ, Bool, true, false, not, ◌&&◌, ◌||◌, List, [], ◌∷◌, leb, eqb, length, Result, Ok, Err}
use Rattle.tables.specs.declared.Ty.{Ty}
use Rattle.tables.specs.declared.Refusal.{Refusal}
use Rattle.tables.specs.declared.Refusal.TheVariants.{NotATable, BadTable, BadProgram}
use Rattle.tables.specs.Pick.{pick, inside, all}
use Rattle.tables.specs.Kinds.{row_of, sort_class, first_class, second_class, third_class}
use Rattle.tables.specs.Lines.{line_of, kind_in, sort_in, first_in, second_in, third_in}
use Rattle.tables.specs.Layout.{Placing, record_words, whole, room, placing, rows_from}
use Rattle.tables.specs.Ids.{ids_right_by}
use Rattle.tables.specs.Types.{Ctx, ty_at, given, grow, no_ctx}
use Rattle.tables.specs.Rules.{fault}

-- the kinds of a circuit, 1 to 55 and 57 to 63, and of a program, 3 to 53 and 56 to 63
abbrev pub known : Bool → ℕ → Bool
known false k = inside 1 55 k || inside 57 63 k
known true k = inside 3 53 k || inside 56 63 k

-- a place that the line does not have holds 0
abbrev pub unused : ℕ → ℕ → Bool
unused k x = not (eqb k 0) || eqb x 0

abbrev pub tidy : List ℕ → List ℕ → List Bool
tidy row r =
    unused (sort_class row) (sort_in r) ∷ unused (first_class row) (first_in r) ∷ unused (second_class row) (second_in r) ∷ unused (third_class row) (third_in r) ∷ []

-- a record that keeps the rules of its own words
abbrev pub formed : Bool → List ℕ → Bool
formed p r = known p (kind_in r) && all (tidy (row_of (kind_in r)) r)

-- a record breaks no rule, after lines whose types are L
abbrev pub keeps : Bool → (ℕ → Ty) → (Bool → ℕ → Bool) → List ℕ → Bool
keeps p L G r = formed p r && eqb (fault p L G r) 0

-- every record breaks no rule, after those before it
abbrev pub lawful : Bool → Ctx → List (List ℕ) → Bool
lawful p c [] = true
lawful p c (r ∷ rs) = keeps p (ty_at c) (given c) r && lawful p (grow p c (line_of r)) rs

-- what is answered where the count exceeds the table or 16,384, a record breaks a rule, or an id of a circuit does not rise: 11, for a program 20
abbrev pub broken : Bool → Refusal
broken false = BadTable
broken true = BadProgram

-- the answer for a count of records in a list of len words, where the records and their ids keep the rules or not
abbrev pub verdict : Bool → (len n : ℕ) → Bool → Result (Unit {0}) Refusal
verdict p len n kept = pick (whole p len) (pick (leb n (room p len) && kept) (Ok tt) (Err (broken p))) (Err NotATable)

-- the check of a list that holds records by a layout, and that of a table
abbrev pub checked_by : Placing → Bool → List ℕ → ℕ → Result (Unit {0}) Refusal
checked_by f p t n = verdict p (length t) n (lawful p no_ctx (rows_from f record_words t 0 n) && ids_right_by f p t n)

unfoldable pub checked : Bool → List ℕ → ℕ → Result (Unit {0}) Refusal
checked p t n = checked_by (placing p) p t n
