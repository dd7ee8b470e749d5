use native.Mathlib.Omega.{arith}
use Rattle.programs.proofs.Keeping.{held_here}
use Rattle.programs.proofs.Counting.{walk_start, small_here, walk_more, walk_end, need_here}
use Rattle.passes.proofs.count_all.Goals as goal

pub loop-i-init : goal.loop-i-init
loop-i-init c = walk_start c.args.table.now c.args.count c.requires.1

pub record-rec-requires : goal.record-rec-requires
record-rec-requires c = (held_here c.args.table.now c.args.count c.loop-i.i c.requires.0.accepted c.loop-i-test.true, c.step-h.ensures)

pub take-m-requires : goal.take-m-requires
take-m-requires c = small_here c.loop-i.invariant c.requires.0.accepted c.loop-i-test.true

pub loop-i-preserved : goal.loop-i-preserved
loop-i-preserved c =
    let P = c.requires.0 in
    let l = c.loop-i-test.true in
    rw c.emitted-b.ensures (walk_more c.loop-i.invariant P.accepted l c.at-need.result (need_here P c.loop-i.i l c.at-need.ensures) c.record-rec.ensures c.take-m.ensures)

pub returns : goal.returns
returns c = omega (arith, walk_end c.loop-i.invariant c.loop-i-test.false)
