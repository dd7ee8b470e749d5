-- The words of the states so far are masked, whatever the row.
use lib.ListN.{drop}
use Rattle.tables.specs.Layout.{lines_of}
use Rattle.starts.proofs.Masking.{Masked}
use Rattle.starts.proofs.mask_starts.Given as goal

abbrev pub invariant-loop-i : goal.invariant-loop-i
invariant-loop-i l = Masked l.plan.program (lines_of l.plan.program l.plan.table.now l.plan.count) l.plan.totals.cells (drop l.plan.totals.cells l.initial.work) l.work l.i
