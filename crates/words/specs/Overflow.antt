-- Overflow: the result of an operation as a whole number, and whether it lies outside the operands' width. Assumes nothing.
use Rattle.std.specs.Prelude.{ℕ, ◌-◌, ◌^◌, Bool, true, false, ◌||◌, ℤ, pos, neg_ℤ, ◌+ℤ◌, ◌-ℤ◌, ◌*ℤ◌}
use Rattle.std.specs.Int.Signed.{lt_z, le_z, quot_z}
use Rattle.words.specs.Word.{signed_value}
use Rattle.words.specs.Op.{Detector, uaddo, saddo, usubo, ssubo, umulo, smulo, sdivo}

-- the detector reads its operands as signed numbers
abbrev pub is_signed : Detector → Bool
is_signed uaddo = false
is_signed saddo = true
is_signed usubo = false
is_signed ssubo = true
is_signed umulo = false
is_signed smulo = true
is_signed sdivo = true

-- "the unsigned or signed result, taken as a whole number", of words a and b of width w. `quot_z` truncates, and by 0 it is 0
abbrev pub whole_result : Detector → (w a b : ℕ) → ℤ
whole_result uaddo w a b = pos a +ℤ pos b
whole_result saddo w a b = signed_value w a +ℤ signed_value w b
whole_result usubo w a b = pos a -ℤ pos b
whole_result ssubo w a b = signed_value w a -ℤ signed_value w b
whole_result umulo w a b = pos a *ℤ pos b
whole_result smulo w a b = signed_value w a *ℤ signed_value w b
whole_result sdivo w a b = quot_z (signed_value w a) (signed_value w b)

-- "lies outside the operand width": unsigned words are the numbers from 0 to 2 ^ w - 1, signed ones those from -2 ^ (w - 1) to 2 ^ (w - 1) - 1
abbrev pub outside : (signed : Bool) (w : ℕ) → ℤ → Bool
outside false w z = lt_z z (pos 0) || le_z (pos (2 ^ w)) z
outside true w z = lt_z z (neg_ℤ (pos (2 ^ (w - 1)))) || le_z (pos (2 ^ (w - 1))) z

-- "Each is 1 exactly when the unsigned or signed result, taken as a whole number, lies outside the operand width"
abbrev pub overflows : Detector → (w a b : ℕ) → Bool
overflows o w a b = outside (is_signed o) w (whole_result o w a b)
