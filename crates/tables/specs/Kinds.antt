-- The one constant table of the kinds: for each of the kinds 1 to 63, in order, its word, the class of its sort and those of its operands. A mask, kind 56, stands in
-- programs alone and has no word. Five more words for a constant, kind 3, are known to the reader alone: texts/specs/Forms has them. Assumes nothing.
use Rattle.std.specs.Prelude.{ℕ, zero, suc, ◌+◌, ◌-◌, Bool, List, [], ◌∷◌, ◌++◌, eqb, length, get_or, take, drop}
use Prim.Native.Char.{code}
use Prim.Native.String.{String, [] as []ˢ, ◌∷◌ as ◌∷ˢ◌}
use Rattle.tables.specs.Pick.{pick, inside}

-- ---- the class of a place: what may stand as a line's sort, or as an operand of it

-- the line has no such place
abbrev pub none : ℕ
none = 0

-- a line that is a word
abbrev pub word : ℕ
word = 1

-- a line that is an array
abbrev pub array : ℕ
array = 2

-- a line that is a word or an array
abbrev pub value : ℕ
value = 3

-- a state line
abbrev pub state : ℕ
state = 4

-- a sort line of words
abbrev pub word_sort : ℕ
word_sort = 5

-- a sort line of arrays
abbrev pub array_sort : ℕ
array_sort = 6

-- any sort line
abbrev pub any_sort : ℕ
any_sort = 7

-- no line, but a number that stays as it is written: a width, a constant, a bound, a count of extra bits
abbrev pub number : ℕ
number = 8

-- ---- a row: sixteen numbers, as the code keeps it

-- the letters of a word, by their codes
abbrev pub letters : String → List ℕ
letters []ˢ = []
letters (c ∷ˢ s) = code c ∷ letters s

-- n numbers: those of a list, then zeros
abbrev padded : ℕ → List ℕ → List ℕ
padded zero xs = []
padded (suc n) [] = 0 ∷ padded n []
padded (suc n) (x ∷ xs) = x ∷ padded n xs

-- the word's length, its letters in ten places, the class of the sort, the number of operands, their classes in three places
abbrev pub row : String → ℕ → List ℕ → List ℕ
row w s os = length (letters w) ∷ padded 10 (letters w) ++ (s ∷ length os ∷ padded 3 os)

-- ---- the table

-- "Array sorts take word sorts; state, init, next and ite have any sort, write an array sort, other lines a word sort. read and write take an array first; eq,
-- neq, the last two of ite and a next's value may be arrays; init and next take a state first; all else are words." Sort lines, bad, constraint and output have
-- no sort.
abbrev pub rows : List (List ℕ)
rows =
    -- 1 to 5: sorts, constants, inputs, states
    row "bitvec" none (number ∷ [])
    ∷ row "array" none (word_sort ∷ word_sort ∷ [])
    ∷ row "constd" word_sort (number ∷ [])
    ∷ row "input" word_sort []
    ∷ row "state" any_sort []
    -- 6 to 10: what states start with and take next, signals, outputs
    ∷ row "init" any_sort (state ∷ word ∷ [])
    ∷ row "next" any_sort (state ∷ value ∷ [])
    ∷ row "bad" none (word ∷ [])
    ∷ row "constraint" none (word ∷ [])
    ∷ row "output" none (word ∷ [])
    -- 11 to 20: operators of one word
    ∷ row "not" word_sort (word ∷ [])
    ∷ row "neg" word_sort (word ∷ [])
    ∷ row "inc" word_sort (word ∷ [])
    ∷ row "dec" word_sort (word ∷ [])
    ∷ row "redand" word_sort (word ∷ [])
    ∷ row "redor" word_sort (word ∷ [])
    ∷ row "redxor" word_sort (word ∷ [])
    ∷ row "slice" word_sort (word ∷ number ∷ number ∷ [])
    ∷ row "uext" word_sort (word ∷ number ∷ [])
    ∷ row "sext" word_sort (word ∷ number ∷ [])
    -- 21 to 52: operators of two; eq and neq take arrays as well
    ∷ row "eq" word_sort (value ∷ value ∷ [])
    ∷ row "neq" word_sort (value ∷ value ∷ [])
    ∷ row "ult" word_sort (word ∷ word ∷ [])
    ∷ row "ulte" word_sort (word ∷ word ∷ [])
    ∷ row "ugt" word_sort (word ∷ word ∷ [])
    ∷ row "ugte" word_sort (word ∷ word ∷ [])
    ∷ row "slt" word_sort (word ∷ word ∷ [])
    ∷ row "slte" word_sort (word ∷ word ∷ [])
    ∷ row "sgt" word_sort (word ∷ word ∷ [])
    ∷ row "sgte" word_sort (word ∷ word ∷ [])
    ∷ row "iff" word_sort (word ∷ word ∷ [])
    ∷ row "implies" word_sort (word ∷ word ∷ [])
    ∷ row "and" word_sort (word ∷ word ∷ [])
    ∷ row "or" word_sort (word ∷ word ∷ [])
    ∷ row "xor" word_sort (word ∷ word ∷ [])
    ∷ row "nand" word_sort (word ∷ word ∷ [])
    ∷ row "nor" word_sort (word ∷ word ∷ [])
    ∷ row "xnor" word_sort (word ∷ word ∷ [])
    ∷ row "add" word_sort (word ∷ word ∷ [])
    ∷ row "sub" word_sort (word ∷ word ∷ [])
    ∷ row "mul" word_sort (word ∷ word ∷ [])
    ∷ row "udiv" word_sort (word ∷ word ∷ [])
    ∷ row "urem" word_sort (word ∷ word ∷ [])
    ∷ row "sdiv" word_sort (word ∷ word ∷ [])
    ∷ row "srem" word_sort (word ∷ word ∷ [])
    ∷ row "smod" word_sort (word ∷ word ∷ [])
    ∷ row "sll" word_sort (word ∷ word ∷ [])
    ∷ row "srl" word_sort (word ∷ word ∷ [])
    ∷ row "sra" word_sort (word ∷ word ∷ [])
    ∷ row "rol" word_sort (word ∷ word ∷ [])
    ∷ row "ror" word_sort (word ∷ word ∷ [])
    ∷ row "concat" word_sort (word ∷ word ∷ [])
    -- 53 to 55: choice, and the operators of arrays
    ∷ row "ite" any_sort (word ∷ value ∷ value ∷ [])
    ∷ row "read" word_sort (array ∷ word ∷ [])
    ∷ row "write" array_sort (array ∷ word ∷ word ∷ [])
    -- 56: a program's mask
    ∷ row "" word_sort (word ∷ [])
    -- 57 to 63: overflow detectors
    ∷ row "uaddo" word_sort (word ∷ word ∷ [])
    ∷ row "saddo" word_sort (word ∷ word ∷ [])
    ∷ row "usubo" word_sort (word ∷ word ∷ [])
    ∷ row "ssubo" word_sort (word ∷ word ∷ [])
    ∷ row "umulo" word_sort (word ∷ word ∷ [])
    ∷ row "smulo" word_sort (word ∷ word ∷ [])
    ∷ row "sdivo" word_sort (word ∷ word ∷ [])
    ∷ []

-- a kind's row
unfoldable pub row_of : ℕ → List ℕ
row_of k = get_or rows (k - 1) []

-- the parts of a row
abbrev pub word_of : List ℕ → List ℕ
word_of r = take (get_or r 0 0) (drop 1 r)

abbrev pub sort_class : List ℕ → ℕ
sort_class r = get_or r 11 0

abbrev pub operand_count : List ℕ → ℕ
operand_count r = get_or r 12 0

abbrev pub first_class : List ℕ → ℕ
first_class r = get_or r 13 0

abbrev pub second_class : List ℕ → ℕ
second_class r = get_or r 14 0

abbrev pub third_class : List ℕ → ℕ
third_class r = get_or r 15 0

-- the class of the place j of a record: the sort's where j is 1, an operand's from 2 on
abbrev pub class_at : List ℕ → (j : ℕ) → ℕ
class_at r j = get_or r (11 + pick (eqb j 1) 0 j) 0

-- a place of the class k names a line; else it holds a plain number, or the line has no such place
abbrev pub names_line : (k : ℕ) → Bool
names_line k = inside word any_sort k
