use mathlib.Core.Bool.{false}
use Rattle.tables.specs.Layout.{lines_of}
use Rattle.peeks.proofs.Inits.{Noting}
use Rattle.peek_values.proofs.find_inits.Given as goal

abbrev pub invariant-loop-i : goal.invariant-loop-i
invariant-loop-i l = Noting (lines_of false l.table l.count) l.count l.i l.ini
