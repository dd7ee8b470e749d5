use mathlib.Core.Path.{ap}
use lib.ListN.{length}
use Rattle.programs.specs.declared.Known.{Known}
use Rattle.tables.specs.Lines.{kind_in}
use Rattle.programs.proofs.Keeping.{held_here, few_emitted}
use Rattle.programs.proofs.Counting.{small_here, need_here}
use Rattle.programs.proofs.Writing.{writes_start, fits_here, writes_more, writes_end}
use Rattle.passes.proofs.write_all.Goals as goal

pub loop-i-init : goal.loop-i-init
loop-i-init c = writes_start c.args.table.now c.args.count (length c.args.target.now) c.requires.1 c.requires.0.blank

pub record-rec-requires : goal.record-rec-requires
record-rec-requires c = (held_here c.args.table.now c.args.count c.loop-i.i c.requires.0.prepared.accepted c.loop-i-test.true, c.step-h.ensures)

pub take-m-requires : goal.take-m-requires
take-m-requires c = small_here c.loop-i.invariant.walk c.requires.0.prepared.accepted c.loop-i-test.true

pub emit-requires : goal.emit-requires
emit-requires c =
    let R = c.requires.0 in
    let l = c.loop-i-test.true in
    let m = c.take-m in
    let P = R.prepared in
    let e = c.emitted-e.ensures in
    (c.loop-i.invariant.walk.least, (small_here c.loop-i.invariant.walk P.accepted l, (rw e (few_emitted (kind_in c.record-rec.result) m.result), fits_here c.loop-i.invariant P.accepted l c.at-need.result (need_here P c.loop-i.i l c.at-need.ensures) c.record-rec.ensures m.ensures e R.fits)))

pub loop-i-preserved : goal.loop-i-preserved
loop-i-preserved c =
    let P = c.requires.0.prepared in
    let l = c.loop-i-test.true in
    writes_more c.loop-i.invariant P.accepted l c.at-need.result (need_here P c.loop-i.i l c.at-need.ensures) c.record-rec.ensures c.take-m.ensures c.emitted-e.ensures c.instruction-ins.ensures (ap (λ (x : Known). x.width) c.of_line-w.ensures) c.emit.ensures

pub returns : goal.returns
returns c = writes_end c.loop-i.invariant c.loop-i-test.false
