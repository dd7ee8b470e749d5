-- Loose kinds, and kinds that need clean operands, by their numbers: the two lists of the request. That `Model/Loose.antt`, by class,
-- says the same is `loose_kind_lem`, `need_kind₁_lem` and `need_kind₂_lem` of `proofs/KindLaws.antt`. Assumes nothing.
use Rattle.std.specs.Prelude.{ℕ, Bool, ◌&&◌, ◌||◌, leb, eqb}

-- k from i to j
abbrev pub within : (i j k : ℕ) → Bool
within i j k = leb i k && leb k j

-- loose whatever its operands are: input, 11 to 14, 18, 31, 32, 36 to 41, 47
abbrev pub always_loose : ℕ → Bool
always_loose k = eqb k 4 || within 11 14 k || eqb k 18 || eqb k 31 || eqb k 32 || within 36 41 k || eqb k 47

-- or by them: and (33) if both are; or (34), xor (35) and ite (53) if a data operand is; concat (52) if its high operand is.
-- l₁, l₂ and l₃ say which operands are loose. Width 64 is never loose: that test is the translator's, which has the width
abbrev pub loose_kind : ℕ → Bool → Bool → Bool → Bool
loose_kind k l₁ l₂ l₃ =
    always_loose k
    || (eqb k 33 && l₁ && l₂) || (eqb k 34 && (l₁ || l₂)) || (eqb k 35 && (l₁ || l₂)) || (eqb k 53 && (l₂ || l₃)) || (eqb k 52 && l₁)

-- each operand that is a line has to be clean: 6 to 10, 15 to 17, 19 to 30, 42 to 46, 48 to 51, and the overflow detectors, 57 to 63
abbrev pub need_each : ℕ → Bool
need_each k = within 6 10 k || within 15 17 k || within 19 30 k || within 42 46 k || within 48 51 k || within 57 63 k

-- the first: those, and the condition of ite
abbrev pub need_kind₁ : ℕ → Bool
need_kind₁ k = need_each k || eqb k 53

-- the second: those, the amount of sll and the low operand of concat. No third operand that is a line has to be
abbrev pub need_kind₂ : ℕ → Bool
need_kind₂ k = need_each k || eqb k 47 || eqb k 52
