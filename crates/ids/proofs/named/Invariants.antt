-- The ids from i up to o are 0.
use Rattle.tables.specs.Layout.{ids_of}
use Rattle.texts.specs.Model.Searching.{AllZero}
use Rattle.ids.proofs.named.Given as goal

abbrev pub invariant-loop-o : goal.invariant-loop-o
invariant-loop-o l = AllZero (ids_of l.table l.n) l.i l.o
