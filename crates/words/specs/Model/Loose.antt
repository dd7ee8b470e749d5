-- Loose words and clean operands, by class. A word of a program is loose where it may have bits past its width, and only its low
-- bits are the circuit's word; else it is the circuit's word. `specs/Kinds.antt` has the same by the kinds' numbers. Assumes nothing.
use Rattle.std.specs.Prelude.{Bool, true, false, ◌&&◌, ◌||◌}
use Rattle.words.specs.Model.Classes.{Class, turn, wrap, meet, merge, test, plain, copy, compare, low, extend, cut, left, join, pick, clear}

-- whether the result is loose, where l₁, l₂ and l₃ say which operands are. A word of width 64 has no bits past its width and is
-- never loose: whoever asks for an operator's result tests that first
abbrev pub loose : Class → (l₁ l₂ l₃ : Bool) → Bool
loose turn l₁ l₂ l₃ = true
loose wrap l₁ l₂ l₃ = true
loose meet l₁ l₂ l₃ = l₁ && l₂
loose merge l₁ l₂ l₃ = l₁ || l₂
loose test l₁ l₂ l₃ = false
loose plain l₁ l₂ l₃ = false
loose copy l₁ l₂ l₃ = false
loose compare l₁ l₂ l₃ = false
loose low l₁ l₂ l₃ = false
loose extend l₁ l₂ l₃ = false
loose cut l₁ l₂ l₃ = true
loose left l₁ l₂ l₃ = true
loose join l₁ l₂ l₃ = l₁
loose pick l₁ l₂ l₃ = l₂ || l₃
loose clear l₁ l₂ l₃ = false

-- which operands have to be clean; a plain number counts as one that has to, and it is

abbrev pub need₁ : Class → Bool
need₁ turn = false
need₁ wrap = false
need₁ meet = false
need₁ merge = false
need₁ test = true
need₁ plain = true
need₁ copy = true
need₁ compare = true
need₁ low = true
need₁ extend = true
need₁ cut = false
need₁ left = false
need₁ join = false
need₁ pick = true
need₁ clear = false

abbrev pub need₂ : Class → Bool
need₂ turn = false
need₂ wrap = false
need₂ meet = false
need₂ merge = false
need₂ test = true
need₂ plain = true
need₂ copy = true
need₂ compare = true
need₂ low = true
need₂ extend = true
need₂ cut = true
need₂ left = true
need₂ join = true
need₂ pick = false
need₂ clear = false

abbrev pub need₃ : Class → Bool
need₃ turn = false
need₃ wrap = false
need₃ meet = false
need₃ merge = false
need₃ test = false
need₃ plain = false
need₃ copy = false
need₃ compare = false
need₃ low = false
need₃ extend = false
need₃ cut = true
need₃ left = false
need₃ join = false
need₃ pick = false
need₃ clear = false

-- an operand where it is used: clean if the use needs it so (a loose line has a mask then), else as its line is
abbrev pub at_use : Bool → Bool → Bool
at_use true l = false
at_use false l = l
