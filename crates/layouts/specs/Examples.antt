-- Conversions computed on small lists. Assumes nothing.
use Rattle.std.specs.Prelude.{ℕ, ◌≡◌, refl, true, false, List, [], ◌∷◌, Ok, Err}
use Rattle.tables.specs.declared.Refusal.TheVariants.{NotATable, BadTable, BadProgram, TargetTooSmall}
use Rattle.tables.specs.Layout.{filled_by}
use Rattle.layouts.specs.Conversion.{converted, converted_to}

-- three records of a circuit, one behind the other
abbrev records : List ℕ
records = 1 ∷ 0 ∷ 1 ∷ 0 ∷ 0 ∷ 5 ∷ 4 ∷ 1 ∷ 0 ∷ 0 ∷ 0 ∷ 9 ∷ 8 ∷ 0 ∷ 2 ∷ 0 ∷ 0 ∷ 11 ∷ []

-- two of them in columns of four, and in columns of two
abbrev fours : List ℕ
fours = 1 ∷ 4 ∷ 0 ∷ 0 ∷ 0 ∷ 1 ∷ 0 ∷ 0 ∷ 1 ∷ 0 ∷ 0 ∷ 0 ∷ 0 ∷ 0 ∷ 0 ∷ 0 ∷ 0 ∷ 0 ∷ 0 ∷ 0 ∷ 5 ∷ 9 ∷ 0 ∷ 0 ∷ []

to_fours : converted_to true false records 2 24 ≡ fours
unfolding converted_to converted filled_by
to_fours = refl

to_twos : converted_to true false records 2 12 ≡ 1 ∷ 4 ∷ 0 ∷ 1 ∷ 1 ∷ 0 ∷ 0 ∷ 0 ∷ 0 ∷ 0 ∷ 5 ∷ 9 ∷ []
unfolding converted_to converted filled_by
to_twos = refl

-- and back: the two records, and zeros
back : converted_to false false fours 2 18 ≡ 1 ∷ 0 ∷ 1 ∷ 0 ∷ 0 ∷ 5 ∷ 4 ∷ 1 ∷ 0 ∷ 0 ∷ 0 ∷ 9 ∷ 0 ∷ 0 ∷ 0 ∷ 0 ∷ 0 ∷ 0 ∷ []
unfolding converted_to converted filled_by
back = refl

-- two records into 24 words and into 12; three into 12 (12); four, of a list of three (11); into 13 words (1); none of an empty list into none
answers : converted false 18 2 24 ∷ converted false 18 2 12 ∷ converted false 18 3 12 ∷ converted false 18 4 24 ∷ converted false 18 2 13 ∷ converted false 0 0 0 ∷ []
    ≡ Ok 2 ∷ Ok 2 ∷ Err TargetTooSmall ∷ Err BadTable ∷ Err NotATable ∷ Ok 0 ∷ []
unfolding converted
answers = refl

-- of 16,400 places 16,384 count
many : converted false 98400 16384 98400 ∷ converted false 98400 16385 98400 ∷ converted true 82000 16385 82000 ∷ []
    ≡ Ok 16384 ∷ Err BadTable ∷ Err BadProgram ∷ []
unfolding converted
many = refl

-- a program, in columns of two
program : converted_to true true (4 ∷ 3 ∷ 0 ∷ 0 ∷ 0 ∷ 56 ∷ 3 ∷ 1 ∷ 0 ∷ 0 ∷ []) 2 10 ≡ 4 ∷ 56 ∷ 3 ∷ 3 ∷ 0 ∷ 1 ∷ 0 ∷ 0 ∷ 0 ∷ 0 ∷ []
unfolding converted_to converted filled_by
program = refl

program_answers : converted true 10 2 10 ∷ converted true 10 3 10 ∷ converted true 10 2 5 ∷ converted true 10 2 12 ∷ []
    ≡ Ok 2 ∷ Err BadProgram ∷ Err TargetTooSmall ∷ Err NotATable ∷ []
unfolding converted
program_answers = refl

-- after a refusal the target is zero
refused : converted_to true false records 3 12 ≡ 0 ∷ 0 ∷ 0 ∷ 0 ∷ 0 ∷ 0 ∷ 0 ∷ 0 ∷ 0 ∷ 0 ∷ 0 ∷ 0 ∷ []
unfolding converted_to converted filled_by
refused = refl
