-- The list holds what is known of the lines so far.
use Rattle.circuits.proofs.Placing.{Sofar}
use Rattle.places.proofs.lay_out.Given as goal

abbrev pub invariant-loop-i : goal.invariant-loop-i
invariant-loop-i l = Sofar l.program l.table l.count l.i l.t l.laid
