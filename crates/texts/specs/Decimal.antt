-- Numbers in decimal, binary and hexadecimal digits, and the decimal digits of a number. Assumes nothing.
use Rattle.std.specs.Prelude.{ℕ, zero, suc, ◌+◌, ◌-◌, ◌*◌, ◌/◌, ◌%◌, ◌^◌, Bool, true, false, ◌&&◌, not, List, [], ◌∷◌, ◌++◌, eqb, leb, ltb, length, Result, Ok, Err}
use Rattle.texts.specs.declared.NumberError.{NumberError}
use Rattle.texts.specs.declared.NumberError.TheVariants.{Malformed, TooLarge}

-- a token as a number: its value, or why it has none
abbrev pub Num : Type 0
Num = Result ℕ NumberError

-- what a byte stands for as a digit; 99 where it is none
unfoldable pub digit : ℕ → ℕ
digit c =
    elim (leb 48 c && leb c 57) [
      | true ↦ c - 48
      | false ↦ elim (leb 65 c && leb c 70) [ true ↦ c - 55 | false ↦ elim (leb 97 c && leb c 102) [ true ↦ c - 87 | false ↦ 99 ] ]
    ]

unfoldable pub all_in : ℕ → List ℕ → Bool
all_in b [] = true
all_in b (c ∷ t) = ltb (digit c) b && all_in b t

-- the value of the digits t behind a number v
unfoldable pub value_from : ℕ → ℕ → List ℕ → ℕ
value_from b v [] = v
value_from b v (c ∷ t) = value_from b (v * b + digit c) t

-- no leading zero
abbrev pub plain : List ℕ → Bool
plain [] = false
plain (c ∷ []) = true
plain (c ∷ d ∷ t) = not (eqb c 48)

abbrev pub some : List ℕ → Bool
some [] = false
some (c ∷ t) = true

-- a number, where it is below 2 ^ 64
unfoldable pub valued : ℕ → List ℕ → Num
valued b t = elim (ltb (value_from b 0 t) (2 ^ 64)) [ true ↦ Ok (value_from b 0 t) | false ↦ Err TooLarge ]

-- the number that digits have, where there are no other bytes
unfoldable pub scanned : ℕ → List ℕ → Num
scanned b t = elim (all_in b t) [ true ↦ valued b t | false ↦ Err Malformed ]

-- a decimal number has no leading zero and is below 2 ^ 64; the others are at most `most` digits long
unfoldable pub decimal : List ℕ → Num
decimal t = elim (plain t) [ true ↦ scanned 10 t | false ↦ Err Malformed ]

unfoldable pub digits_in : ℕ → ℕ → List ℕ → Num
digits_in b most t =
    elim (some t && all_in b t) [
      | true ↦ elim (leb (length t) most) [ true ↦ Ok (value_from b 0 t) | false ↦ Err TooLarge ]
      | false ↦ Err Malformed
    ]

unfoldable pub digits_f : ℕ → ℕ → List ℕ
digits_f zero n = []
digits_f (suc f) n = elim (ltb n 10) [ true ↦ (48 + n) ∷ [] | false ↦ digits_f f (n / 10) ++ ((48 + n % 10) ∷ []) ]

-- the decimal digits of n
unfoldable pub digits : ℕ → List ℕ
digits n = digits_f (suc n) n
