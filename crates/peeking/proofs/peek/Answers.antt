use mathlib.Core.Path.{sym, ◌∙◌}
use Rattle.std.proofs.lemmas.Result.{err_from_is_err_and}
use Rattle.peeks.proofs.Seen.{peek_refused, peek_lent}
use Rattle.peeking.proofs.peek.Goals as goal

pub returns-in_err-check : goal.returns-in_err-check
returns-in_err-check c =
    let a = c.args in
    let p = err_from_is_err_and c.from_residual.result c.from_residual.ensures.1 in
    rw (p.1, p.2) (peek_refused a.table.now a.count a.line a.cell a.starts.now a.row.now (sym c.check.ensures.0 ∙ c.in_err-check.was))

pub returns : goal.returns
returns c =
    let a = c.args in
    peek_lent a.table.now a.count a.line a.cell a.starts.now a.row.now (sym c.check.ensures.0 ∙ c.in_ok-check.was) c.peek_checked.ensures
