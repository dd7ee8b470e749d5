-- The program of a flat circuit, by the request's section Program; what its instructions mean stands in `words` and `circuits`. A program's lines are those of `tables`: the sort
-- word is the width, operands are instruction numbers, and kind 56 is the mask. Assumes nothing.
use Rattle.std.specs.Prelude.{ℕ, suc, ◌+◌, Bool, true, false, ◌||◌, List, [], ◌∷◌, ◌++◌, length, get_or}
use Rattle.tables.specs.Lines.{Line, Expr, bitvec, array, input, state, value, init_or_next, signal, output, unknown, const, unary, binary, equality, ite, read, write}
use Rattle.programs.specs.declared.Known.{Known}
use Rattle.programs.specs.Uses.{loose_line, loose_expr, has_needing_use}

-- ---- a flat circuit has no array sort: no record of kind 2

abbrev pub array_sort_line : Line → Bool
array_sort_line (bitvec w) = false
array_sort_line (array i e) = true
array_sort_line (input s) = false
array_sort_line (state s) = false
array_sort_line (value s e) = false
array_sort_line (init_or_next m s q v) = false
array_sort_line (signal m a) = false
array_sort_line (output a) = false
array_sort_line unknown = false

abbrev pub has_array : List Line → Bool
has_array [] = false
has_array (l ∷ ls) = array_sort_line l || has_array ls

-- ---- what is known of an earlier line: its width, its number and whether it is loose, the struct `Known` of src/lib.rt

abbrev pub info : (width number : ℕ) → Bool → Known
info w n l = record { width = w; number = n; loose = l }

abbrev pub none_known : Known
none_known = info 0 0 false

-- of the line a; entry 0 stands for no line
abbrev pub known_at : List Known → ℕ → Known
known_at J a = get_or J a none_known

abbrev pub operand_width : List Known → ℕ → ℕ
operand_width J a = (known_at J a).width

abbrev pub operand_number : List Known → ℕ → ℕ
operand_number J a = (known_at J a).number

abbrev pub loose_of : List Known → ℕ → Bool
loose_of J a = (known_at J a).loose

-- ---- instructions

-- "three operands by instruction number", f of a line's number; "Slice bounds, extra bits and constants stay numbers."
abbrev pub renumbered : (ℕ → ℕ) → Expr → Expr
renumbered f (const v) = const v
renumbered f (unary k a x y) = unary k (f a) x y
renumbered f (binary k a b) = binary k (f a) (f b)
renumbered f (equality e a b) = equality e (f a) (f b)
renumbered f (ite c a b) = ite (f c) (f a) (f b)
renumbered f (read a i) = read (f a) (f i)
renumbered f (write a i v) = write (f a) (f i) (f v)

-- "kind 56 masks its operand to its width, which is the operand's"
abbrev pub mask_of : (w a : ℕ) → Line
mask_of w a = value w (unary 56 a 0 0)

-- ---- one line

-- the instructions of a line, and what is known of it
pub record Made : Type 0 where
  pub code : List Line
  pub info : Known

-- The value instruction l, of width w, gets the number b. "A loose line with a needing use gets one mask right after it, and all uses take the mask. Such a line
-- still counts as loose for the lines that use it."
abbrev pub with_mask : (b w : ℕ) → Line → (loose need : Bool) → Made
with_mask b w l false n = record { code = l ∷ []; info = info w b false }
with_mask b w l true false = record { code = l ∷ []; info = info w b true }
with_mask b w l true true = record { code = l ∷ mask_of w b ∷ []; info = info w (suc b) true }

-- an instruction that has no value: init and next, and bad, constraint and output ("width (0 for kinds 8 to 10)")
abbrev pub no_value : Line → Made
no_value l = record { code = l ∷ []; info = none_known }

-- The line l after lines known as J; N says which lines have a needing use, and b is the next instruction's number: "no sort records". An input is kind 4, a state
-- kind 5.
abbrev pub instructions_of : (ℕ → Bool) → List Known → (b : ℕ) → Line → Made
instructions_of N J b (bitvec w) = record { code = []; info = info w 0 false }
instructions_of N J b (array i e) = record { code = []; info = none_known }
instructions_of N J b (input s) = with_mask b (operand_width J s) (input (operand_width J s)) (loose_line (operand_width J s) 4 false false false) (N (length J))
instructions_of N J b (state s) = with_mask b (operand_width J s) (state (operand_width J s)) (loose_line (operand_width J s) 5 false false false) (N (length J))
instructions_of N J b (value s e) = with_mask b (operand_width J s) (value (operand_width J s) (renumbered (operand_number J) e)) (loose_expr (loose_of J) (operand_width J s) e) (N (length J))
instructions_of N J b (init_or_next m s q v) = no_value (init_or_next m (operand_width J s) (operand_number J q) (operand_number J v))
instructions_of N J b (signal m a) = no_value (signal m (operand_number J a))
instructions_of N J b (output a) = no_value (output (operand_number J a))
instructions_of N J b unknown = record { code = []; info = none_known }

-- ---- all lines

abbrev pub translate_from : (ℕ → Bool) → List Known → (b : ℕ) → List Line → List Line
translate_from N J b [] = []
translate_from N J b (l ∷ ls) = (instructions_of N J b l).code ++ translate_from N (J ++ ((instructions_of N J b l).info ∷ [])) (b + length (instructions_of N J b l).code) ls

unfoldable pub translate : List Line → List Line
translate F = translate_from (has_needing_use F) (none_known ∷ []) 1 F
