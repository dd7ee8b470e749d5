-- The words passed tell the first cells.
use Rattle.flattening.specs.Model.Cells.{Filled}
use Rattle.flat_cells.proofs.written.fill.Given as goal

abbrev pub invariant-loop-j : goal.invariant-loop-j
invariant-loop-j l = Filled l.initial.kept l.kept l.m l.u l.j
