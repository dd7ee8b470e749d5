-- The target holds the instructions so far, and zeros.
use lib.ListN.{length}
use Rattle.programs.proofs.Writing.{Writes}
use Rattle.passes.proofs.write_all.Given as goal

abbrev pub invariant-loop-i : goal.invariant-loop-i
invariant-loop-i l = Writes (length l.initial.known) l.table l.count l.i l.b (length l.initial.target) l.known l.target
