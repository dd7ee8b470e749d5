use mathlib.Core.Path.{refl}
use native.Mathlib.Omega.{arith}
use Rattle.tables.proofs.Encoding.{fits_table}
use Rattle.tables.specs.Layout.{record_at}
use Rattle.circuits.proofs.Placing.{marks_more, marks_end}
use Rattle.places.proofs.bad_marks.Goals as goal

pub kind-requires : goal.kind-requires
kind-requires c = omega (arith, (fits_table c.args.program c.args.table.now c.args.count c.requires.0).1, c.loop-i-test.true)

pub note_mark-g-requires : goal.note_mark-g-requires
note_mark-g-requires c =
    let l = c.loop-i in
    omega (arith, (fits_table c.args.program c.args.table.now c.args.count c.requires.0).0, l.invariant.few, l.invariant.long, c.loop-i-test.true)

pub loop-i-preserved : goal.loop-i-preserved
loop-i-preserved c =
    let l = c.loop-i in
    let k = c.kind in
    let v = c.note_mark-g in
    let r = record_at c.args.program c.args.table.now l.i in
    let e = v.ensures r k.ensures in
    marks_more c.args.program c.args.table.now c.args.count c.requires.0 l.i l.g _ l.bad _ c.loop-i-test.true l.invariant refl v.auto.bad e.0 e.1

pub returns : goal.returns
returns c =
    let l = c.loop-i in
    marks_end c.args.program c.args.table.now c.args.count c.requires.0 l.i l.g l.bad c.loop-i-test.false l.invariant
