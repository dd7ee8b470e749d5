use mathlib.Core.Path.{refl}
use native.Mathlib.Omega.{arith}
use Rattle.tables.proofs.Encoding.{fits_table}
use Rattle.tables.specs.Layout.{record_at}
use Rattle.circuits.proofs.Feeding.{found_none, found_more, found_all}
use Rattle.free_states.proofs.find.Goals as goal

pub loop-i-init : goal.loop-i-init
loop-i-init c = let a = c.args in found_none a.program a.table.now a.count a.notes.now c.requires.0 a.lines.now c.requires.1

pub kind-requires : goal.kind-requires
kind-requires c = let a = c.args in omega (arith, (fits_table a.program a.table.now a.count c.requires.0.accepted).1, c.loop-i-test.true)

pub note_line-m-requires : goal.note_line-m-requires
note_line-m-requires c =
    let a = c.args in
    let l = c.loop-i in
    let f = (fits_table a.program a.table.now a.count c.requires.0.accepted).0 in
    (omega (arith, f, l.invariant.few, l.invariant.long, c.loop-i-test.true), omega (arith, f, c.loop-i-test.true))

pub loop-i-preserved : goal.loop-i-preserved
loop-i-preserved c =
    let a = c.args in
    let l = c.loop-i in
    let v = c.note_line-m in
    let r = record_at a.program a.table.now l.i in
    found_more a.program a.table.now a.count a.notes.now c.requires.0 {r = r} l.i l.m _ l.lines _ c.loop-i-test.true l.invariant refl v.auto.lines
    (v.ensures.0 r c.kind.ensures) v.ensures.1

pub returns : goal.returns
returns c = let a = c.args in let l = c.loop-i in found_all a.program a.table.now a.count a.notes.now c.requires.0 l.i l.m l.lines c.loop-i-test.false l.invariant
