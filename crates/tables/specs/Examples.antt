-- The rules computed on small tables. Each has its lines as a comment. Assumes nothing.
use Rattle.std.specs.Prelude.{ℕ, ◌≡◌, refl, true, false, List, [], ◌∷◌, map, Ok, Err}
use Rattle.tables.specs.declared.Refusal.TheVariants.{NotATable, BadTable, BadProgram}
use Rattle.tables.specs.Kinds.{row_of}
use Rattle.tables.specs.Lines.{fields, line_of}
use Rattle.tables.specs.Layout.{held, filled_by, records_of, with_ids, filled, words_for, table_with}
use Rattle.tables.specs.Types.{ty_at, given, context}
use Rattle.tables.specs.Rules.{suits, fault}
use Rattle.tables.specs.Tables.{checked}

-- 1 sort bitvec 1, 2 sort bitvec 3, 3 sort array 1 2, 4 state 3, 5 input 1, 6 constd 2 5, 7 write 3 4 5 6, 8 next 3 4 7, 9 read 2 4 5, 10 eq 1 9 6, 11 bad 10
abbrev request : List (List ℕ)
request =
    fields 1 0 1 0 0 ∷ fields 1 0 3 0 0 ∷ fields 2 0 1 2 0 ∷ fields 5 3 0 0 0 ∷ fields 4 1 0 0 0 ∷ fields 3 2 5 0 0 ∷ fields 55 3 4 5 6 ∷ fields 7 3 4 7 0 ∷ fields 54 2 4 5 0 ∷ fields 21 1 9 6 0
    ∷ fields 8 0 10 0 0 ∷ []

abbrev judged : List (List ℕ) → List ℕ → ℕ
judged rs r = fault false (ty_at (context false (map line_of rs))) (given (context false (map line_of rs))) r

-- after the request's lines: a read of a word, an operand that is no line (8); an eq of two widths, an eq of an array and a word (9); a second next, an init
-- whose value stands behind its state (10); an output, which breaks no rule
judged_after : map (judged request)
    (fields 54 2 6 5 0 ∷ fields 11 2 12 0 0 ∷ fields 21 1 5 6 0 ∷ fields 21 1 4 6 0 ∷ fields 7 3 4 4 0 ∷ fields 6 3 4 6 0 ∷ fields 10 0 6 0 0 ∷ [])
    ≡ 8 ∷ 8 ∷ 9 ∷ 9 ∷ 10 ∷ 10 ∷ 0 ∷ []
unfolding fault suits row_of context
judged_after = refl

-- 1 sort bitvec 9, 2 sort bitvec 8, 3 input 2, 4 constd 2 7, 5 state 2: an array by 9 bits (9) and by 8 (0); an init by the input (10), by the constant (0), by 256 (8: no line)
abbrev small : List (List ℕ)
small = fields 1 0 9 0 0 ∷ fields 1 0 8 0 0 ∷ fields 4 2 0 0 0 ∷ fields 3 2 7 0 0 ∷ fields 5 2 0 0 0 ∷ []

judged_small : map (judged small) (fields 2 0 1 1 0 ∷ fields 2 0 2 1 0 ∷ fields 6 2 5 3 0 ∷ fields 6 2 5 4 0 ∷ fields 6 2 5 256 0 ∷ fields 3 2 256 0 0 ∷ fields 3 2 255 0 0 ∷ [])
    ≡ 9 ∷ 0 ∷ 10 ∷ 0 ∷ 8 ∷ 9 ∷ 0 ∷ []
unfolding fault suits row_of context
judged_small = refl

-- the request's table with its count; fewer records; too many; a sort that is no line; a word that is not used; a list that is no table
answers : checked false (table_with false request) 11 ∷ checked false (table_with false request) 4 ∷ checked false (table_with false request) 12
    ∷ checked false (table_with false (fields 4 1 0 0 0 ∷ [])) 1 ∷ checked false (table_with false (fields 1 0 8 0 1 ∷ [])) 1 ∷ checked false (1 ∷ []) 0 ∷ []
    ≡ Ok tt ∷ Ok tt ∷ Err BadTable ∷ Err BadTable ∷ Err BadTable ∷ Err NotATable ∷ []
unfolding checked fault suits row_of filled_by
answers = refl

-- 1 input, 2 its mask, both of width 3: a program; with a mask of another width, or with a sort record, it is none
programs : checked true (table_with true (fields 4 3 0 0 0 ∷ fields 56 3 1 0 0 ∷ [])) 2 ∷ checked true (table_with true (fields 4 3 0 0 0 ∷ fields 56 4 1 0 0 ∷ [])) 2
    ∷ checked true (table_with true (fields 1 0 3 0 0 ∷ [])) 1 ∷ []
    ≡ Ok tt ∷ Err BadProgram ∷ Err BadProgram ∷ []
unfolding checked fault suits row_of filled_by
programs = refl

-- six columns, each as long as the number of records that the list holds, and zeros past the records; a program has five
laid : filled false 24 (with_ids (fields 1 0 1 0 0 ∷ fields 4 1 0 0 0 ∷ []) (5 ∷ 9 ∷ []))
    ≡ 1 ∷ 4 ∷ 0 ∷ 0 ∷ 0 ∷ 1 ∷ 0 ∷ 0 ∷ 1 ∷ 0 ∷ 0 ∷ 0 ∷ 0 ∷ 0 ∷ 0 ∷ 0 ∷ 0 ∷ 0 ∷ 0 ∷ 0 ∷ 5 ∷ 9 ∷ 0 ∷ 0 ∷ []
unfolding filled_by
laid = refl

read_back : records_of true (4 ∷ 56 ∷ 3 ∷ 3 ∷ 0 ∷ 1 ∷ 0 ∷ 0 ∷ 0 ∷ 0 ∷ []) 2 ≡ fields 4 3 0 0 0 ∷ fields 56 3 1 0 0 ∷ []
read_back = refl

-- in a longer list the same records stand elsewhere: it is not the shorter one with zeros behind it
longer : records_of true (4 ∷ 56 ∷ 3 ∷ 3 ∷ 0 ∷ 1 ∷ 0 ∷ 0 ∷ 0 ∷ 0 ∷ 0 ∷ 0 ∷ 0 ∷ 0 ∷ 0 ∷ []) 2 ≡ fields 4 3 0 0 0 ∷ fields 56 0 0 0 0 ∷ []
longer = refl

-- 1 sort bitvec 1, 2 input 1 with these ids
abbrev of_ids : List ℕ → List ℕ
of_ids ds = filled false (words_for false 2) (with_ids (fields 1 0 1 0 0 ∷ fields 4 1 0 0 0 ∷ []) ds)

-- ids with a gap, up to the largest; equal ids; falling ones; 0; one too large; equal ids of which one counts
ids : checked false (of_ids (5 ∷ 4294967295 ∷ [])) 2 ∷ checked false (of_ids (5 ∷ 5 ∷ [])) 2 ∷ checked false (of_ids (5 ∷ 4 ∷ [])) 2
    ∷ checked false (of_ids (0 ∷ 1 ∷ [])) 2 ∷ checked false (of_ids (5 ∷ 4294967296 ∷ [])) 2 ∷ checked false (of_ids (5 ∷ 5 ∷ [])) 1 ∷ []
    ≡ Ok tt ∷ Err BadTable ∷ Err BadTable ∷ Err BadTable ∷ Err BadTable ∷ Ok tt ∷ []
unfolding checked fault suits row_of filled_by
ids = refl

-- 1 sort bitvec 1, 2 input 1, 3 not 1 2, 4 not 1 3 with these ids
abbrev with_nots : List ℕ → List ℕ
with_nots ds = filled false (words_for false 4) (with_ids (fields 1 0 1 0 0 ∷ fields 4 1 0 0 0 ∷ fields 11 1 2 0 0 ∷ fields 11 1 3 0 0 ∷ []) ds)

-- nots of id 0, one used by the other and the last by none; a not with an id of its own; an id that does not rise above the last that is not 0; id 0 on an input
zero_ids : checked false (with_nots (5 ∷ 6 ∷ 0 ∷ 0 ∷ [])) 4 ∷ checked false (with_nots (5 ∷ 6 ∷ 0 ∷ 7 ∷ [])) 4 ∷ checked false (with_nots (5 ∷ 6 ∷ 0 ∷ 6 ∷ [])) 4
    ∷ checked false (with_nots (5 ∷ 0 ∷ 6 ∷ 7 ∷ [])) 4 ∷ []
    ≡ Ok tt ∷ Ok tt ∷ Err BadTable ∷ Err BadTable ∷ []
unfolding checked fault suits row_of filled_by
zero_ids = refl

-- 30 words are five records of a circuit and six of a program
sizes : held false 30 ∷ held true 30 ∷ [] ≡ 5 ∷ 6 ∷ []
sizes = refl
