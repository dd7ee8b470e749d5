-- Before each step the state words are those of the definition, and the signal bytes hold those of the steps done.
use Prim.Native.Nat.{◌+◌}
use lib.ListN.{length, drop}
use Rattle.tables.specs.Layout.{lines_of}
use Rattle.circuits.proofs.Stepping.{Stepped}
use Rattle.steps.proofs.steps.Given as goal

abbrev pub invariant-loop-i : goal.invariant-loop-i
invariant-loop-i l =
    Stepped l.plan.program (lines_of l.plan.program l.plan.table.now l.plan.count) (l.plan.totals.inputs + l.plan.totals.free) l.plan.totals.signals l.k l.plan.totals.cells (length l.initial.work) (drop l.plan.totals.cells l.initial.work) l.inputs l.signals l.work l.i l.r l.g
