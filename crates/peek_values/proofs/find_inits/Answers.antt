use mathlib.Core.Bool.{false}
use native.Mathlib.Omega.{arith}
use Rattle.tables.proofs.Encoding.{fits_table}
use Rattle.peeks.proofs.Inits.{noting_none, noting_more, noting_ends}
use Rattle.peek_values.proofs.find_inits.Goals as goal

pub loop-i-init : goal.loop-i-init
loop-i-init c = noting_none _ _ _ c.requires.1

pub record-rec-requires : goal.record-rec-requires
record-rec-requires c = let s = c.args in omega (arith, (fits_table false s.table.now s.count c.requires.0).1, c.loop-i-test.true)

pub loop-i-preserved : goal.loop-i-preserved
loop-i-preserved c = let s = c.args in let l = c.loop-i in noting_more s.table.now s.count c.requires.0 l.i l.ini _ c.loop-i-test.true l.invariant c.record-rec.ensures c.note_init.auto.ini c.note_init.ensures

pub returns : goal.returns
returns c = let s = c.args in noting_ends s.table.now s.count c.requires.0 c.loop-i.i c.loop-i.ini c.loop-i-test.false c.loop-i.invariant
