-- The rules 8, 9 and 10 for one record, after earlier lines. They speak of the record and of the types of its sort, t, and of its three operands, a, b and c.
-- `fault` answers the lowest number that holds, 0 where none does; reading a text and checking a table both ask it. Assumes nothing.
use Rattle.std.specs.Prelude.{ℕ, suc, ◌+◌, ◌^◌, Bool, true, false, not, ◌&&◌, ◌||◌, List, [], ◌∷◌, leb, ltb, eqb, Result, Ok, Err}
use Rattle.tables.specs.declared.Refusal.{Refusal}
use Rattle.tables.specs.declared.Refusal.TheVariants.{WrongClass, Misfit, InitOrNext}
use Rattle.tables.specs.declared.Ty.{Ty}
use Rattle.tables.specs.Pick.{pick, inside, all}
use Rattle.tables.specs.Kinds.{word, array, value, state, word_sort, array_sort, any_sort, row_of, sort_class, first_class, second_class, third_class}
use Rattle.tables.specs.Lines.{Line, Expr, line_of, kind_in, sort_in, first_in, second_in, third_in}
use Rattle.tables.specs.Types.{is_sort, is_value, marked, is_state, is_word, is_array, is_word_sort, is_array_sort, sort_at}

-- ---- 8: an operand is not an earlier line of the right class

-- A line of the type t may stand in a place of the class k. Where the class is none or a number, nothing is asked.
unfoldable pub suits : ℕ → Ty → Bool
suits k t =
    pick (eqb k word) (is_word t) (
    pick (eqb k array) (is_array t) (
    pick (eqb k value) (is_value t) (
    pick (eqb k state) (is_state t) (
    pick (eqb k word_sort) (is_word_sort t) (
    pick (eqb k array_sort) (is_array_sort t) (
    pick (eqb k any_sort) (is_sort t) true))))))

-- the sort and the operands, each by its class in the row of the kind
abbrev pub classes : List ℕ → (t a b c : Ty) → List Bool
classes row t a b c = suits (sort_class row) t ∷ suits (first_class row) a ∷ suits (second_class row) b ∷ suits (third_class row) c ∷ []

-- ---- 9: sorts, widths, bounds or a constant do not fit

-- an operator of one word: w is the line's width, u its operand's, x and y its numbers
abbrev pub fits_unary : (k w u x y : ℕ) → Bool
fits_unary k w u x y =
    pick (leb k 14 || eqb k 56) (eqb w u) (
    pick (leb k 17) (eqb w 1) (
    pick (eqb k 18) (leb y x && (ltb x u && eqb (w + y) (suc x)))
    (eqb w (u + x))))

-- an operator of two words: comparisons and overflow detectors; iff and implies; those of one width; concat
abbrev pub fits_binary : (k w u v : ℕ) → Bool
fits_binary k w u v =
    pick (leb k 30 || leb 57 k) (eqb w 1 && eqb v u) (
    pick (leb k 32) (eqb w 1 && (eqb u 1 && eqb v 1)) (
    pick (leb k 51) (eqb u w && eqb v w)
    (eqb w (u + v))))

-- two sorts are the same if their widths are
abbrev pub same_sort : Ty → Ty → Bool
same_sort a t = eqb a.iw t.iw && eqb a.w t.w

abbrev pub fits_equality : (t a b : Ty) → List Bool
fits_equality t a b = eqb t.w 1 ∷ same_sort b a ∷ []

abbrev pub fits_ite : (t a b c : Ty) → List Bool
fits_ite t a b c = eqb a.w 1 ∷ same_sort b t ∷ same_sort c t ∷ []

abbrev pub fits_read : (t a b : Ty) → List Bool
fits_read t a b = eqb a.w t.w ∷ eqb b.w a.iw ∷ []

abbrev pub fits_write : (t a b c : Ty) → List Bool
fits_write t a b c = same_sort a t ∷ eqb b.w t.iw ∷ eqb c.w t.w ∷ []

abbrev pub fits_expr : Expr → (t a b c : Ty) → List Bool
fits_expr (Expr.const v) t a b c = ltb v (2 ^ t.w) ∷ []
fits_expr (Expr.unary k m x y) t a b c = fits_unary k t.w a.w x y ∷ []
fits_expr (Expr.binary k m n) t a b c = fits_binary k t.w a.w b.w ∷ []
fits_expr (Expr.equality e m n) t a b c = fits_equality t a b
fits_expr (Expr.ite m n o) t a b c = fits_ite t a b c
fits_expr (Expr.read m i) t a b c = fits_read t a b
fits_expr (Expr.write m i v) t a b c = fits_write t a b c

-- The state's sort, a, is the line's, and the value, b, has it too. An array state is initialised by one word for all cells.
abbrev pub value_index : Bool → Ty → ℕ
value_index true t = 0
value_index false t = t.iw

abbrev pub fits_init_or_next : Bool → (t a b : Ty) → List Bool
fits_init_or_next m t a b = same_sort a t ∷ eqb b.w t.w ∷ eqb b.iw (value_index m t) ∷ []

abbrev pub fits : Line → (t a b c : Ty) → List Bool
fits (Line.bitvec w) t a b c = inside 1 64 w ∷ []
fits (Line.array i e) t a b c = leb a.w 8 ∷ []
fits (Line.input s) t a b c = []
fits (Line.state s) t a b c = []
fits (Line.value s e) t a b c = fits_expr e t a b c
fits (Line.init_or_next m s q v) t a b c = fits_init_or_next m t a b
fits (Line.signal m x) t a b c = eqb a.w 1 ∷ []
fits (Line.output x) t a b c = []
fits Line.unknown t a b c = false ∷ []

-- ---- 10: a second init or next of a state, or the init rule

-- G says which states have had an init (true) or a next (false); an init's value, whose type is b, stands before its state, and is not marked
abbrev pub once_rules : Line → (Bool → ℕ → Bool) → Ty → List Bool
once_rules (Line.bitvec w) G b = []
once_rules (Line.array i e) G b = []
once_rules (Line.input s) G b = []
once_rules (Line.state s) G b = []
once_rules (Line.value s e) G b = []
once_rules (Line.init_or_next true s q v) G b = not (G true q) ∷ ltb v q ∷ not (marked b) ∷ []
once_rules (Line.init_or_next false s q v) G b = not (G false q) ∷ []
once_rules (Line.signal m x) G b = []
once_rules (Line.output x) G b = []
once_rules Line.unknown G b = []

-- ---- the first that holds

abbrev pub answer : Bool → Bool → Bool → ℕ
answer false f g = 8
answer true false g = 9
answer true true false = 10
answer true true true = 0

abbrev pub fault_by : List ℕ → (t a b c : Ty) → (Bool → ℕ → Bool) → ℕ
fault_by r t a b c G = answer (all (classes (row_of (kind_in r)) t a b c)) (all (fits (line_of r) t a b c)) (all (once_rules (line_of r) G b))

-- the record r after lines whose types are L; p says that it is a program's
unfoldable pub fault : Bool → (ℕ → Ty) → (Bool → ℕ → Bool) → List ℕ → ℕ
fault p L G r = fault_by r (sort_at p L (sort_in r)) (L (first_in r)) (L (second_in r)) (L (third_in r)) G

-- that number as an answer
abbrev pub refused_by : ℕ → Result (Unit {0}) Refusal
refused_by f = pick (eqb f 0) (Ok tt) (Err (pick (eqb f 8) WrongClass (pick (eqb f 9) Misfit InitOrNext)))
