-- Marks computed on small circuits, which meet the premises of the theorems on marks. Assumes nothing.
use Rattle.std.specs.Prelude.{Ok, Err}
use Prim.Native.Nat.{ℕ}
use mathlib.Core.Path.{◌≡◌, refl}
use mathlib.Core.Bool.{Bool, true, false, false≢true}
use mathlib.Core.List.{List, [], ◌∷◌, ◌++◌, map}
use native.Mathlib.Omega.{arith}
use Rattle.tables.specs.declared.Refusal.TheVariants.{BadTable, BadProgram}
use Rattle.tables.specs.Kinds.{row_of}
use Rattle.tables.specs.Lines.{Line, fields, line_of}
use Rattle.tables.specs.Layout.{filled_by, table_with}
use Rattle.tables.specs.Types.{marked, ty_at, no_ctx, context}
use Rattle.tables.specs.Cone.{itself, under, SourceInCone}
use Rattle.tables.specs.Rules.{suits, fault}
use Rattle.tables.specs.Search.{search_cone, checked_by_search}
use Rattle.tables.proofs.Facts.{AllOk}
use Rattle.tables.proofs.Sound.{all_sound}
use Rattle.tables.proofs.Marks.{marks_exactly}

-- the marks of lines of a circuit, as they are kept
abbrev kept_marks : List (List ℕ) → List ℕ → List Bool
kept_marks rs vs = map (λ v. marked (ty_at (context false (map line_of rs)) v)) vs

-- ---- a register file: 1 sort bitvec 4, 2 input 1, 3 constd 1 5, 4 add 1 3 3, 5 add 1 2 3, 6 state 1, 7 init 1 6 4, 8 state 1

abbrev registers : List (List ℕ)
registers =
    fields 1 0 4 0 0 ∷ fields 4 1 0 0 0 ∷ fields 3 1 5 0 0 ∷ fields 39 1 3 3 0 ∷ fields 39 1 2 3 0 ∷ fields 5 1 0 0 0 ∷ fields 6 1 6 4 0 ∷ fields 5 1 0 0 0 ∷ []

abbrev lines : List Line
lines = map line_of registers

registers_ok : AllOk false no_ctx lines
unfolding fault suits row_of
registers_ok = all_sound false no_ctx registers refl

-- of its value lines 2, 5, 6 and 8 are marked, 3 and 4 are not; a search of their cones finds the same
registers_marks : kept_marks registers (2 ∷ 3 ∷ 4 ∷ 5 ∷ 6 ∷ 8 ∷ []) ≡ true ∷ false ∷ false ∷ true ∷ true ∷ true ∷ []
unfolding context
registers_marks = refl

registers_search : map (search_cone lines) (2 ∷ 3 ∷ 4 ∷ 5 ∷ 6 ∷ 8 ∷ []) ≡ true ∷ false ∷ false ∷ true ∷ true ∷ true ∷ []
registers_search = refl

-- the cone of 5 holds an input or a state, that of 4 does not
cone_of_5 : SourceInCone lines 5
unfolding context
cone_of_5 = (marks_exactly false lines registers_ok 5 (omega arith)).0 refl

cone_of_4 : SourceInCone lines 4 → ⊥
unfolding context
cone_of_4 S = let e : ◌≡◌ {A = Bool} false true = (marks_exactly false lines registers_ok 4 (omega arith)).1 S in false≢true e

-- ---- a state deep down: 1 sort bitvec 1, 2 state 1, 3 constd 1 1, 4 xor 1 3 2, 5 ite 1 3 3 4, 6 not 1 5, 7 and 1 3 3

abbrev deep : List (List ℕ)
deep = fields 1 0 1 0 0 ∷ fields 5 1 0 0 0 ∷ fields 3 1 1 0 0 ∷ fields 35 1 3 2 0 ∷ fields 53 1 3 3 4 ∷ fields 11 1 5 0 0 ∷ fields 33 1 3 3 0 ∷ []

-- 4 has it as its second operand: by the first alone it is not marked; 5 and 6 have it two and three lines beneath them: one line deep they are not; none of the three is a
-- state itself
deep_marks : kept_marks deep (2 ∷ 3 ∷ 4 ∷ 5 ∷ 6 ∷ 7 ∷ []) ≡ true ∷ false ∷ true ∷ true ∷ true ∷ false ∷ []
unfolding context
deep_marks = refl

deep_cone : SourceInCone (map line_of deep) 6
deep_cone = record { line = 2; in_cone = under 5 refl (under 4 refl (under 2 refl itself)); is = refl }

-- ---- by a search: the register file is accepted; with an init by 5, 9 init 1 8 5, it is not, as a circuit (11) and as a program (20)

abbrev program : List (List ℕ)
program = fields 4 4 0 0 0 ∷ fields 56 4 1 0 0 ∷ fields 5 4 0 0 0 ∷ fields 6 4 3 2 0 ∷ []

searches : checked_by_search false (table_with false registers) 8 ∷ checked_by_search false (table_with false (registers ++ (fields 6 1 8 5 0 ∷ []))) 9
    ∷ checked_by_search true (table_with true program) 3 ∷ checked_by_search true (table_with true program) 4 ∷ []
    ≡ Ok tt ∷ Err BadTable ∷ Ok tt ∷ Err BadProgram ∷ []
unfolding context fault suits row_of filled_by
searches = refl
