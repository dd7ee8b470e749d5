-- The words so far are there.
use mathlib.Core.Path.{◌≡◌}
use lib.ListN.{take}
use Rattle.area.proofs.load.Given as goal

abbrev pub invariant-loop-i : goal.invariant-loop-i
invariant-loop-i l = take l.i l.to ≡ take l.i l.from
