use mathlib.Core.Bool.{false}
use Rattle.std.proofs.lemmas.Result.{err_from_is_err_and}
use Rattle.circuits.proofs.Placing.{lent_small}
use Rattle.peeks.proofs.Seen.{type_deep, may_on, peek_laid, lent_refused, lent_value}
use Rattle.peeking.proofs.peek_checked.Goals as goal

pub may_peek-requires : goal.may_peek-requires
may_peek-requires c = let a = c.args in let p = c.requires in ((lent_small false a.table.now a.count p.accepted c.lay_out-t.ensures.1).1.0, type_deep p a.line c.look-y.ensures)

pub returns-in_err-may_peek : goal.returns-in_err-may_peek
returns-in_err-may_peek c =
    let a = c.args in
    let p = err_from_is_err_and c.from_residual.result c.from_residual.ensures.1 in
    rw (p.1, p.2)
    (lent_refused a.table.now a.count a.line a.k a.starts.now a.row.now _
    (may_on c.requires a.line a.k a.starts.now a.row.now c.lay_out-t.ensures.1 c.look-y.ensures c.may_peek.ensures c.in_err-may_peek.was))

pub find-requires : goal.find-requires
find-requires c =
    let a = c.args in
    peek_laid c.requires a.line a.k c.lay_out-t.ensures.0
    (may_on c.requires a.line a.k a.starts.now a.row.now c.lay_out-t.ensures.1 c.look-y.ensures c.may_peek.ensures c.in_ok-may_peek.was)

pub returns : goal.returns
returns c =
    let a = c.args in
    lent_value a.table.now a.count a.line a.k a.starts.now a.row.now
    (may_on c.requires a.line a.k a.starts.now a.row.now c.lay_out-t.ensures.1 c.look-y.ensures c.may_peek.ensures c.in_ok-may_peek.was)
    c.find.ensures
