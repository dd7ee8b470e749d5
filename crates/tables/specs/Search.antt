-- The init rule by a search of the cone in place of the mark: reading and checking by the mark are held against it. Laws alone cite it. Assumes nothing.
use Rattle.tables.specs.declared.Refusal.{Refusal}
use Rattle.std.specs.Prelude.{ℕ, zero, suc, Bool, true, false, ◌&&◌, ◌||◌, List, [], ◌∷◌, ◌++◌, length, Result}
use Rattle.tables.specs.declared.Role.TheVariants.{Unmarked, Marked}
use Rattle.tables.specs.declared.Ty.{Ty}
use Rattle.tables.specs.Pick.{pick, inside}
use Rattle.tables.specs.Lines.{Line, line_of}
use Rattle.tables.specs.Layout.{records_of}
use Rattle.tables.specs.Ids.{ids_right}
use Rattle.tables.specs.Types.{rank, ty, value_role, ty_at, given, context}
use Rattle.tables.specs.Cone.{line_numbered, uses, is_source}
use Rattle.tables.specs.Tables.{keeps, verdict}

-- a test holds of a number of a list
abbrev pub any_of : (ℕ → Bool) → List ℕ → Bool
any_of f [] = false
any_of f (a ∷ r) = f a || any_of f r

-- the line v, or one of its cone up to n lines beneath it, is an input or a state
abbrev pub source_within : (n : ℕ) → List Line → ℕ → Bool
source_within zero C v = is_source (line_numbered C v)
source_within (suc n) C v = is_source (line_numbered C v) || any_of (source_within n C) (uses (line_numbered C v))

-- a search of the whole cone: operands stand before the lines that use them, so that no cone is deeper than its line's number
abbrev pub search_cone : List Line → ℕ → Bool
search_cone C v = source_within v C v

-- the type of a value with a mark in place of its own; that of a state is in its role
abbrev pub remarked : (mark : Bool) → Ty → Ty
remarked mark t = pick (inside (rank Unmarked) (rank Marked) (rank t.role)) (ty (value_role mark) t.iw t.w) t

-- the types of the lines C, each with the mark that a search of its cone finds
abbrev pub searched : List Line → (ℕ → Ty) → ℕ → Ty
searched C L v = remarked (search_cone C v) (L v)

-- every record breaks no rule after the lines before it, C and then its own: cones are searched
abbrev pub lawful_by_search : Bool → List Line → List (List ℕ) → Bool
lawful_by_search p C [] = true
lawful_by_search p C (r ∷ rs) = keeps p (searched C (ty_at (context p C))) (given (context p C)) r && lawful_by_search p (C ++ (line_of r ∷ [])) rs

-- the check of a table (11) or a program (20)
abbrev pub checked_by_search : Bool → List ℕ → ℕ → Result (Unit {0}) Refusal
checked_by_search p t n = verdict p (length t) n (lawful_by_search p [] (records_of p t n) && ids_right p t n)
