use mathlib.Core.Path.{sym, ◌∙◌}
use lib.ListN.{length}
use Rattle.std.proofs.lemmas.Result.{err_from_is_err_and}
use Rattle.circuits.proofs.Answering.{runs_refused, runs_lent}
use Rattle.runs.proofs.run_with.Goals as goal

pub returns-in_err-check : goal.returns-in_err-check
returns-in_err-check g c =
    let a = c.args in
    let p = err_from_is_err_and c.from_residual.result c.from_residual.ensures.1 in
    rw (p.1, p.2)
    (runs_refused a.program a.table.now a.count a.k a.starts.now a.inputs.now (length a.signals.now) (length a.work.now) (sym c.check.ensures.0 ∙ c.in_err-check.was) c.requires.1.0 c.requires.1.1)

pub returns : goal.returns
returns g c =
    let a = c.args in
    c.run_checked.ensures
    ∙ runs_lent a.program a.table.now a.count a.k a.starts.now a.inputs.now (length a.signals.now) (length a.work.now) (sym c.check.ensures.0 ∙ c.in_ok-check.was)
