-- The words passed are others.
use Prim.Native.Nat.{◌+◌, ◌-◌}
use mathlib.Core.Path.{◌≡◌}
use Rattle.texts.specs.Forms.{extra}
use Rattle.texts.specs.Reading.{find_in}
use Rattle.forms.proofs.find_other.Given as goal

abbrev pub invariant-loop-j : goal.invariant-loop-j
invariant-loop-j l = (l.row-items ≡ extra) × (find_in 64 5 l.t ≡ find_in (l.j + 64) (69 - (l.j + 64)) l.t)
