use Rattle.texts.proofs.Printed.{before_all, after_all, this_kind, this_fits, next_record}
use Rattle.writing.proofs.put_lines.Goals as goal

pub loop-p-init : goal.loop-p-init
loop-p-init c = before_all _ _ _ c.requires.0 c.requires.1

pub put_line-at-requires : goal.put_line-at-requires
put_line-at-requires c =
    let law = c.requires.1 in
    let taken = c.loop-p-test.true in
    let k = this_kind c.loop-p.invariant law taken _ c.record-rec.ensures in
    (c.all-kinds.ensures, (k.0, (k.1, this_fits c.loop-p.invariant law taken _ c.record-rec.ensures)))

pub loop-p-preserved : goal.loop-p-preserved
loop-p-preserved c =
    let law = c.requires.1 in
    next_record c.loop-p.invariant law c.loop-p-test.true _ c.record-rec.ensures _ _ c.put_line-at.ensures

pub returns : goal.returns
returns c = after_all c.loop-p.invariant c.loop-p-test.false
