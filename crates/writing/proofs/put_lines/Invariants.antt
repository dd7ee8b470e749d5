-- Line after line; what is left to store is from the next record on.
use Rattle.texts.proofs.Printed.{Before}
use Rattle.writing.proofs.put_lines.Given as goal

abbrev pub invariant-loop-p : goal.invariant-loop-p
invariant-loop-p l = Before l.table l.count l.initial.out l.out l.at l.p
