-- The work area holds what the lines so far mean.
use mathlib.Core.Path.{◌≡◌}
use lib.ListN.{length, drop}
use Rattle.tables.specs.Layout.{lines_of}
use Rattle.circuits.proofs.Walked.{Walked}
use Rattle.walks.proofs.walk.Given as goal

abbrev pub invariant-loop-i : goal.invariant-loop-i
invariant-loop-i l = (length l.work ≡ length l.initial.work) × Walked l.program l.first (lines_of l.program l.table l.count) l.all l.row (drop l.all l.initial.work) (length l.initial.sig) l.work l.sig l.i
