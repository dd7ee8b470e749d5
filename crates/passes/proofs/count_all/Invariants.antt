-- The instructions so far and those ahead are the program's.
use lib.ListN.{length}
use Rattle.programs.proofs.Counting.{Walk}
use Rattle.passes.proofs.count_all.Given as goal

abbrev pub invariant-loop-i : goal.invariant-loop-i
invariant-loop-i l = Walk (length l.initial.known) l.table l.count l.i l.b l.known
