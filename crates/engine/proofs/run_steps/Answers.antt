-- The lines that the steps are given are those of the free states.
use mathlib.Core.Path.{refl}
use Rattle.circuits.proofs.Stepping.{rows_none}
use Rattle.engine.proofs.run_steps.Goals as goal

pub run_laid-requires : goal.run_laid-requires
run_laid-requires c =
    let q = c.requires.1.1.1 in
    (c.requires.1.0, (c.requires.1.1.0, (rows_none c.args.plan.ready q _ c.if-plan-eq0.true refl, (q.inputs, (q.signals, q.some)))))
