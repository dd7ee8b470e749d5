use lib.ListN.{length}
use mathlib.Core.Path.{◌≡◌}
use Rattle.tables.proofs.Sofar.{Sofar}
use Rattle.checks.proofs.lines.Given as goal

abbrev pub invariant-loop-i : goal.invariant-loop-i
invariant-loop-i l = Sofar l.program l.table l.count l.i l.notes × (length l.notes ≡ length l.initial.notes)
