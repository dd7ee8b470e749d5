use Rattle.tables.specs.Layout.{lines_of}
use Rattle.circuits.proofs.Placing.{MarksSoFar}
use Rattle.places.proofs.bad_marks.Given as goal

abbrev pub invariant-loop-i : goal.invariant-loop-i
invariant-loop-i l = MarksSoFar (lines_of l.program l.table l.count) l.count l.i l.g l.bad
