use mathlib.Core.Path.{ap, ◌∙◌}
use lib.ListN.{length}
use Rattle.texts.specs.Model.Filling.{filling}
use Rattle.texts.proofs.Filled.{with_not, without}
use Rattle.line_records.proofs.put_line.Goals as goal
use Rattle.line_records.proofs.put_line.Goals.{then-minus-j, else-minus-j}

pub loop-j-preserved : goal.loop-j-preserved
loop-j-preserved c =
    let l = c.loop-j in
    let t = c.loop-j-test.true in
    elim c.if-minus-j.branch [
      | then-minus-j w ↦ (
        with_not l.invariant.0 t w.if-minus-j.true ((λ i. filling (w.table-is i) (w.notes-is i) (w.k-is i)) ∙ w.put_not.ensures) w.own-is,
        ap length w.notes-is ∙ (w.put_not.auto.notes ∙ l.invariant.1),
      )
      | else-minus-j w ↦ (
        without l.invariant.0 t w.if-minus-j.false (λ i. filling (w.table-is i) (w.notes-is i) (w.k-is i)) w.own-is,
        ap length w.notes-is ∙ l.invariant.1,
      )
    ]
