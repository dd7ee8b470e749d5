use Rattle.programs.proofs.Keeping.{held_here}
use Rattle.programs.proofs.Marking.{marking_start, marking_more, marking_end}
use Rattle.passes.proofs.needing.Goals as goal

pub loop-i-init : goal.loop-i-init
loop-i-init c = marking_start c.args.table.now c.args.count c.requires.1

pub record-rec-requires : goal.record-rec-requires
record-rec-requires c = (held_here c.args.table.now c.args.count c.loop-i.i c.requires.0 c.loop-i-test.true, c.step-h.ensures)

pub loop-i-preserved : goal.loop-i-preserved
loop-i-preserved c = marking_more c.loop-i.invariant c.requires.0 c.record-rec.result c.loop-i-test.true c.record-rec.ensures c.mark.ensures

pub returns : goal.returns
returns c = record { accepted = c.requires.0; needing = marking_end c.loop-i.invariant c.loop-i-test.false }
