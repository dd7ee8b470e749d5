-- The kinds passed have another word.
use Prim.Native.Nat.{◌+◌, ◌-◌}
use mathlib.Core.Path.{◌≡◌}
use Rattle.texts.specs.Reading.{find_in}
use Rattle.forms.proofs.find_kind.Given as goal

abbrev pub invariant-loop-j : goal.invariant-loop-j
invariant-loop-j l = find_in l.k l.n l.t ≡ find_in l.j (l.k + l.n - l.j) l.t
