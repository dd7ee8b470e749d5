-- Each turn takes one line: it is counted, and then laid.
use Rattle.flattening.proofs.Going.{Going}
use Rattle.flatten.proofs.whole.all_lines.Given as goal

abbrev pub invariant-loop-i : goal.invariant-loop-i
invariant-loop-i l = Going l.table l.count l.types l.initial.kept l.initial.target l.i l.p l.kept l.target l.used
