-- The marks so far and the lines ahead name the lines with a needing use.
use Rattle.programs.proofs.Marking.{Marking}
use Rattle.passes.proofs.needing.Given as goal

abbrev pub invariant-loop-i : goal.invariant-loop-i
invariant-loop-i l = Marking l.table l.count l.i l.marks
