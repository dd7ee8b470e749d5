-- The lines found so far, and those of the lines to come, are all.
use Rattle.circuits.proofs.Feeding.{Found}
use Rattle.free_states.proofs.find.Given as goal

abbrev pub invariant-loop-i : goal.invariant-loop-i
invariant-loop-i l = Found l.program l.table l.count l.i l.m l.lines
