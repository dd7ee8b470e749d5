-- What is known of a line before anything is computed: its type. The types of the lines so far, with the states that have an init or a next line, are the
-- context in which the rules judge the next line. A list's index is the line's number: entry 0 stands for no line, and so does whatever lies past the end.
-- Assumes nothing.
use Rattle.std.specs.Prelude.{ℕ, Bool, true, false, ◌&&◌, ◌||◌, List, [], ◌∷◌, ◌++◌, leb, ltb, eqb, get_or}
use Rattle.tables.specs.declared.Role.{Role}
use Rattle.tables.specs.declared.Role.TheVariants.{Other, Sort, Unmarked, Marked, State}
use Rattle.tables.specs.declared.Ty.{Ty}
use Rattle.tables.specs.Pick.{pick, inside, among, alike}
use Rattle.tables.specs.Lines.{Line, Expr, words_of, sort_in, first_in, second_in, third_in}

-- The roles in their order, as numbers: no sort and no value, a sort, a value without the mark, a value with the mark but for a state, a state, which has the
-- mark too.
abbrev pub rank : Role → ℕ
rank Other = 0
rank Sort = 1
rank Unmarked = 2
rank Marked = 3
rank State = 4

-- A type is the line's role, an index width and a width. A word's index width is 0, so that a value of any sort has 2 ^ iw cells of w bits.
abbrev pub ty : Role → ℕ → ℕ → Ty
ty r i w = record { role = r; iw = i; w = w }

abbrev pub no_ty : Ty
no_ty = ty Other 0 0

abbrev pub is_sort : Ty → Bool
is_sort t = eqb (rank t.role) (rank Sort)

-- the last three
abbrev pub is_value : Ty → Bool
is_value t = leb (rank Unmarked) (rank t.role)

-- The mark of a line: it is, or has beneath it, an input or a state. Of lines without a value it is never looked at.
abbrev pub marked : Ty → Bool
marked t = leb (rank Marked) (rank t.role)

abbrev pub is_state : Ty → Bool
is_state t = eqb (rank t.role) (rank State)

abbrev pub is_word : Ty → Bool
is_word t = is_value t && eqb t.iw 0

abbrev pub is_array : Ty → Bool
is_array t = is_value t && ltb 0 t.iw

abbrev pub is_word_sort : Ty → Bool
is_word_sort t = is_sort t && eqb t.iw 0

abbrev pub is_array_sort : Ty → Bool
is_array_sort t = is_sort t && ltb 0 t.iw

-- the sort that a line's second word names: a circuit's line names a sort line, a program's (p) holds the width itself
abbrev pub sort_at : Bool → (ℕ → Ty) → ℕ → Ty
sort_at false L s = L s
sort_at true L s = pick (inside 1 64 s) (ty Sort 0 s) no_ty

-- A line that a value uses is marked, and so the value is. a, b and c are the types of the operands as they are written; numbers are no lines.
abbrev pub marked_expr : Expr → (a b c : Ty) → Bool
marked_expr (Expr.const v) a b c = false
marked_expr (Expr.unary k x m n) a b c = marked a
marked_expr (Expr.binary k x y) a b c = marked a || marked b
marked_expr (Expr.equality e x y) a b c = marked a || marked b
marked_expr (Expr.ite d x y) a b c = marked a || (marked b || marked c)
marked_expr (Expr.read x i) a b c = marked a || marked b
marked_expr (Expr.write x i v) a b c = marked a || (marked b || marked c)

abbrev pub value_role : (mark : Bool) → Role
value_role mark = pick mark Marked Unmarked

-- the type of a line, from the types of its sort, t, and of its operands
abbrev pub type_of : Line → (t a b c : Ty) → Ty
type_of (Line.bitvec w) t a b c = ty Sort 0 w
type_of (Line.array i e) t a b c = ty Sort a.w b.w
type_of (Line.input s) t a b c = ty Marked t.iw t.w
type_of (Line.state s) t a b c = ty State t.iw t.w
type_of (Line.value s e) t a b c = ty (value_role (marked_expr e a b c)) t.iw t.w
type_of (Line.init_or_next m s q v) t a b c = no_ty
type_of (Line.signal m x) t a b c = no_ty
type_of (Line.output x) t a b c = no_ty
type_of Line.unknown t a b c = no_ty

-- the type of a record's line after lines whose types are L, and of a line
abbrev pub record_type : Bool → (ℕ → Ty) → List ℕ → Line → Ty
record_type p L r l = type_of l (sort_at p L (sort_in r)) (L (first_in r)) (L (second_in r)) (L (third_in r))

abbrev pub line_type : Bool → (ℕ → Ty) → Line → Ty
line_type p L l = record_type p L (words_of l) l

-- ---- the context

pub record Ctx : Type 0 where
  pub tys : List Ty
  -- the states that have an init line, and those that have a next line
  pub inits : List ℕ
  pub nexts : List ℕ

abbrev pub ty_at : Ctx → ℕ → Ty
ty_at c a = get_or c.tys a no_ty

abbrev pub given_by : Bool → Ctx → List ℕ
given_by true c = c.inits
given_by false c = c.nexts

-- the state q has an init (true) or a next (false) line
abbrev pub given : Ctx → Bool → ℕ → Bool
given c m q = among q (given_by m c)

abbrev pub given_after : Bool → Ctx → Line → List ℕ
given_after m c (Line.bitvec w) = given_by m c
given_after m c (Line.array i e) = given_by m c
given_after m c (Line.input s) = given_by m c
given_after m c (Line.state s) = given_by m c
given_after m c (Line.value s e) = given_by m c
given_after m c (Line.init_or_next n s q v) = pick (alike m n) (given_by m c ++ (q ∷ [])) (given_by m c)
given_after m c (Line.signal n a) = given_by m c
given_after m c (Line.output a) = given_by m c
given_after m c Line.unknown = given_by m c

abbrev pub no_ctx : Ctx
no_ctx = record { tys = no_ty ∷ []; inits = []; nexts = [] }

-- the context after one line more
abbrev pub grow : Bool → Ctx → Line → Ctx
grow p c l = record { tys = c.tys ++ (line_type p (ty_at c) l ∷ []); inits = given_after true c l; nexts = given_after false c l }

abbrev pub grow_all : Bool → Ctx → List Line → Ctx
grow_all p c [] = c
grow_all p c (l ∷ ls) = grow_all p (grow p c l) ls

-- the context after all lines of a circuit (false) or of a program (true)
unfoldable pub context : Bool → List Line → Ctx
context p ls = grow_all p no_ctx ls
