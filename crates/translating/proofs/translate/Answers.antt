-- The tests in their order, on a target that is zero.
use mathlib.Core.Path.{sym, ◌∙◌}
use lib.ListN.{length}
use Rattle.std.proofs.lemmas.Result.{err_from_is_err_and}
use Rattle.programs.proofs.Answering.{no_table, no_target, not_accepted, array_there, made_is}
use Rattle.translating.proofs.translate.Goals as goal
use Rattle.translating.proofs.translate.Goals.{then-not-is_table-via-then-not-is_table, then-not-is_table-via-else-not-is_table+then-not-is_table-2}

pub returns-then-not-is_table : goal.returns-then-not-is_table
returns-then-not-is_table c =
    let a = c.args in
    elim c.then-not-is_table.branch [
      | then-not-is_table-via-then-not-is_table w ↦ no_table a.table.now a.count (length a.target.now) c.clear.ensures (sym c.is_table.ensures ∙ w.if-not-is_table.true)
      | then-not-is_table-via-else-not-is_table+then-not-is_table-2 w ↦
          no_target a.table.now a.count (length a.target.now) c.clear.ensures (sym c.is_table.ensures ∙ w.if-not-is_table.false) (sym w.is_table-else-not-is_table.ensures ∙ w.if-not-is_table-2.true)
    ]

pub returns-in_err-accept : goal.returns-in_err-accept
returns-in_err-accept c =
    let a = c.args in
    let p = err_from_is_err_and c.from_residual.result c.from_residual.ensures.1 in
    rw (p.1, p.2)
    (not_accepted a.table.now a.count (length a.target.now) c.clear.ensures (sym c.is_table.ensures ∙ c.if-not-is_table.false) (sym c.is_table-else-not-is_table.ensures ∙ c.if-not-is_table-2.false) _
    (sym c.accept.ensures ∙ c.in_err-accept.was))

pub returns-then-has_array : goal.returns-then-has_array
returns-then-has_array c =
    let a = c.args in
    array_there a.table.now a.count (length a.target.now) c.clear.ensures (sym c.is_table.ensures ∙ c.if-not-is_table.false) (sym c.is_table-else-not-is_table.ensures ∙ c.if-not-is_table-2.false)
    (sym c.accept.ensures ∙ c.in_ok-accept.was) (sym c.has_array.ensures ∙ c.if-has_array.true)

pub returns : goal.returns
returns c =
    let a = c.args in
    made_is a.table.now a.count (length a.target.now) c.clear.ensures (sym c.is_table.ensures ∙ c.if-not-is_table.false) (sym c.is_table-else-not-is_table.ensures ∙ c.if-not-is_table-2.false)
    (sym c.accept.ensures ∙ c.in_ok-accept.was) (sym c.has_array.ensures ∙ c.if-has_array.false) c.make.ensures
