-- A program's word stands for a circuit's word: exactly, or, where it is loose, in its low bits. Assumes nothing.
use mathlib.Core.Path.{◌≡◌, refl, sym, ap, ◌∙◌}
use mathlib.Core.Bool.{Bool, true, false, not, ◌||◌}
use Prim.Native.Nat.{ℕ, ◌%◌, ◌^◌, ◌<◌}
use native.Mathlib.Nat.{mod-eq_of_lt}
use lib.Dec.{T}
use Rattle.words.specs.Model.Loose.{at_use}

-- x stands for a, a word of width w; the flag says whether x is loose
abbrev pub Stands : Bool → ℕ → ℕ → ℕ → Type 0
Stands true w x a = x % 2 ^ w ≡ a
Stands false w x a = x ≡ a

-- in its low bits in any case
pub low_bits : (l : Bool) (w x : ℕ) {a : ℕ} → a < 2 ^ w → Stands l w x a → x % 2 ^ w ≡ a
low_bits true w x h e = e
low_bits false w x h e = ap (λ (n : ℕ). n % 2 ^ w) e ∙ mod-eq_of_lt h

-- exactly where x has no more than w bits, as at width 64
pub exact : (w : ℕ) {x a : ℕ} → x < 2 ^ w → x % 2 ^ w ≡ a → x ≡ a
exact w h e = sym (mod-eq_of_lt h) ∙ e

-- exactly where x is not loose
pub exactly : (l : Bool) (w x a : ℕ) → T (not l) → Stands l w x a → x ≡ a
exactly true w x a t e = absurd t
exactly false w x a t e = e

-- an exact word may be taken for a loose one
pub loosen : (l m : Bool) (w x : ℕ) {a : ℕ} → T (not l || m) → a < 2 ^ w → Stands l w x a → Stands m w x a
loosen l true w x t h e = low_bits l w x h e
loosen true false w x t h e = absurd t
loosen false false w x t h e = e

-- a clean word stands for itself at every use
pub itself : (need : Bool) (w x : ℕ) → Stands (at_use need false) w x x
itself true w x = refl
itself false w x = refl
