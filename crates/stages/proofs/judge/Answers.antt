-- The rules 8, but for minuses, 9 and 10.
use mathlib.Core.Path.{refl, sym, ap, ◌∙◌}
use Rattle.std.proofs.lemmas.Result.{err_from_is_err_and}
use borrow.Author.Tests.{eqb-true, eqb-false}
use Rattle.tables.specs.declared.Ty.{Ty}
use Rattle.texts.proofs.Steps.{tells_8, by_none, by_other, judged_8, judged_9, judged_const, judged_other}
use Rattle.stages.proofs.judge.Goals as goal
use Rattle.stages.proofs.judge.Goals.{else-f-eq64-via-then-f-eq64+else-len-look, else-f-eq64-via-else-f-eq64}

pub returns-then-eq : goal.returns-then-eq
returns-then-eq c =
    let h = eqb-true _ 8 (sym (tells_8 _ _ _ c.fault-fault.ensures c.eq.ensures refl refl refl) ∙ c.if-eq.true) in
    sym (judged_8 _ _ _ _ _ _ h)

pub returns-then-len-look : goal.returns-then-len-look
returns-then-len-look c =
    let n = eqb-false _ 8 (sym (tells_8 _ _ _ c.fault-fault.ensures c.eq.ensures refl refl refl) ∙ c.if-eq.false) in
    sym (judged_9 _ _ _ _ _ _ n c.if-f-eq64.true (λ e. c.if-len-look.true (e ∙ sym (ap (λ (t : Ty). t.w) c.look.ensures))))

pub returns-in_err-fault : goal.returns-in_err-fault
returns-in_err-fault c =
    let n = eqb-false _ 8 (sym (tells_8 _ _ _ c.fault-fault.ensures c.eq.ensures refl refl refl) ∙ c.if-eq.false) in
    let p = err_from_is_err_and c.from_residual.result c.from_residual.ensures.1 in
    let r = by_other _ c.args.rec c.args.minus n (sym c.fault-fault.ensures ∙ c.in_err-fault.was) in
    rw (p.1, p.2)
    (sym
    (elim c.else-f-eq64.branch [
      | else-f-eq64-via-then-f-eq64+else-len-look w ↦ judged_const _ _ _ _ _ _ n w.if-f-eq64.true (w.if-len-look.false ∙ ap (λ (t : Ty). t.w) w.look.ensures)
      | else-f-eq64-via-else-f-eq64 w ↦ judged_other _ _ _ _ _ _ n w.if-f-eq64.false
    ]
    ∙ r))

pub returns : goal.returns
returns c =
    let n = eqb-false _ 8 (sym (tells_8 _ _ _ c.fault-fault.ensures c.eq.ensures refl refl refl) ∙ c.if-eq.false) in
    sym
    (elim c.else-f-eq64.branch [
      | else-f-eq64-via-then-f-eq64+else-len-look w ↦ judged_const _ _ _ _ _ _ n w.if-f-eq64.true (w.if-len-look.false ∙ ap (λ (t : Ty). t.w) w.look.ensures)
      | else-f-eq64-via-else-f-eq64 w ↦ judged_other _ _ _ _ _ _ n w.if-f-eq64.false
    ]
    ∙ by_none _ c.args.rec c.args.minus (sym c.fault-fault.ensures ∙ c.in_ok-fault.was))
