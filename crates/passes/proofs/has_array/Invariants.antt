-- What the kinds so far say, or what the lines ahead say, is the answer.
use Rattle.programs.proofs.Marking.{Looked}
use Rattle.passes.proofs.has_array.Given as goal

abbrev pub invariant-loop-i : goal.invariant-loop-i
invariant-loop-i l = Looked l.table l.count l.i l.found
