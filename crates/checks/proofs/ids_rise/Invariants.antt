-- The answer from the start is the answer from here on, behind the last id that is not 0.
use Prim.Native.Nat.{◌-◌}
use mathlib.Core.Path.{◌≡◌}
use mathlib.Core.Bool.{false}
use Rattle.tables.specs.Ids.{ids_right}
use Rattle.tables.proofs.Ids.{right_from}
use Rattle.checks.proofs.ids_rise.Given as goal

abbrev pub invariant-loop-i : goal.invariant-loop-i
invariant-loop-i l = ids_right false l.table l.count ≡ right_from l.table l.last l.i (l.count - l.i)
