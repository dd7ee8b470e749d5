use native.Mathlib.Omega.{arith}
use Rattle.flattening.proofs.Going.{shallow, going, record_fits, line_fits, rec_known, rec_deep, rec_fit, rec_next, rec_low, rec_ready, rec_short, rec_stopped, rec_done}
use Rattle.flatten.proofs.whole.all_lines.Goals as goal

pub loop-i-init : goal.loop-i-init
loop-i-init c = going c.requires

pub record-rec-requires : goal.record-rec-requires
record-rec-requires c = (record_fits c.requires c.loop-i.i (omega arith), c.step-h.ensures)

pub count_line-c-requires : goal.count_line-c-requires
count_line-c-requires c = (rec_known c.requires c.loop-i.invariant (omega arith) _ c.record-rec.ensures, (shallow c.requires, rec_deep c.requires c.loop-i.invariant (omega arith) _ c.record-rec.ensures))

pub overflow_sub-room : goal.overflow_sub-room
overflow_sub-room c = let s = c.loop-i.invariant c.requires in omega (arith, s.fits, c.room_of-room.ensures)

pub returns-then-room-p : goal.returns-then-room-p
returns-then-room-p c = rec_stopped c.requires c.loop-i.invariant (omega arith) _ c.record-rec.ensures c.count_line-c.result c.room_of-room.result c.count_line-c.ensures c.room_of-room.ensures c.if-room-p.true c.clear.ensures

pub line-m-requires : goal.line-m-requires
line-m-requires c = (rec_known c.requires c.loop-i.invariant (omega arith) _ c.record-rec.ensures, rec_fit c.requires c.loop-i.invariant (omega arith) _ c.record-rec.ensures c.count_line-c.result c.room_of-room.result c.count_line-c.ensures c.room_of-room.ensures c.if-room-p.false)

pub keep_line-used-requires : goal.keep_line-used-requires
keep_line-used-requires c =
    let r = rec_ready c.requires (rec_next c.requires c.loop-i.invariant (omega arith) _ c.record-rec.ensures c.count_line-c.result c.room_of-room.result c.count_line-c.ensures c.room_of-room.ensures c.if-room-p.false c.line-m.result c.line-m.ensures) in
    let w = line_fits c.requires c.loop-i.i (omega arith) in
    let s = c.loop-i.invariant c.requires in
    (r.0, (r.1, (rec_low c.requires c.loop-i.invariant (omega arith) _ c.record-rec.ensures c.count_line-c.result c.room_of-room.result c.count_line-c.ensures c.room_of-room.ensures c.if-room-p.false c.line-m.result c.line-m.ensures, omega (arith, w.1, s.of_kept))))

pub loop-i-preserved : goal.loop-i-preserved
loop-i-preserved c =
    let made = c.line-m in
    let count = c.count_line-c in
    let room = c.room_of-room in
    rec_short c.requires
    (rec_next c.requires c.loop-i.invariant (omega arith) _ c.record-rec.ensures count.result room.result count.ensures room.ensures c.if-room-p.false made.result made.ensures)
    c.keep_line-used.ensures

pub returns : goal.returns
returns c = rec_done c.requires c.loop-i.invariant (omega arith)
