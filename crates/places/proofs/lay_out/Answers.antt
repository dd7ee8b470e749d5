use mathlib.Core.Path.{refl, ap, ◌∙◌}
use native.Mathlib.Omega.{arith}
use Rattle.tables.specs.declared.Ty.{Ty}
use Rattle.tables.specs.Lines.{line_of}
use Rattle.tables.specs.Layout.{record_at}
use Rattle.tables.proofs.Encoding.{fits_table}
use Rattle.circuits.specs.declared.Spot.{Spot}
use Rattle.circuits.specs.declared.Totals.{Totals}
use Rattle.circuits.specs.Layout.{size}
use Rattle.circuits.specs.Model.Passes.{counts_of}
use Rattle.circuits.proofs.Placing.{begun, deep_here, small_here, free_small, further, laid, place_small}
use Rattle.places.proofs.lay_out.Goals as goal

pub loop-i-init : goal.loop-i-init
loop-i-init c =
    let a = c.args in
    begun a.program a.table.now a.count a.notes.now c.requires.0 a.laid.now c.requires.1 c.put_line.ensures

pub kind-k-requires : goal.kind-k-requires
kind-k-requires c =
    let a = c.args in
    omega (arith, (fits_table a.program a.table.now a.count c.requires.0.accepted).1, c.loop-i-test.true)

pub cells_of-m-requires : goal.cells_of-m-requires
cells_of-m-requires c =
    let a = c.args in
    omega (
      arith,
      ap (λ (y : Ty). y.iw) c.look-y.ensures,
      deep_here a.program a.table.now a.count a.notes.now c.requires.0 c.loop-i.i c.loop-i-test.true,
    )

pub put_line-requires-in-loop-i : goal.put_line-requires-in-loop-i
put_line-requires-in-loop-i c =
    let a = c.args in
    let l = c.loop-i in
    let t = c.loop-i-test.true in
    let r = record_at a.program a.table.now l.i in
    let e = c.find_spot-s.ensures r c.kind-k.ensures in
    let q = small_here a.program a.table.now a.count a.notes.now c.requires.0 l.i t l.invariant (c.cells_of-m.ensures ∙ ap size c.look-y.ensures) in
    let b = place_small (counts_of l.t) _ (line_of r) q.0 in
    let f = (fits_table a.program a.table.now a.count c.requires.0.accepted).0 in
    (omega (arith, l.invariant.long), (omega (arith, ap (λ (x : Spot). x.off) e, b.0), (omega (arith, ap (λ (x : Spot). x.at) e, b.1), omega (arith, q.1))))

pub count_line-t-requires : goal.count_line-t-requires
count_line-t-requires c =
    let a = c.args in
    let l = c.loop-i in
    (small_here a.program a.table.now a.count a.notes.now c.requires.0 l.i c.loop-i-test.true l.invariant
    (c.cells_of-m.ensures ∙ ap size c.look-y.ensures)).0

pub count_free-t-requires : goal.count_free-t-requires
count_free-t-requires c =
    let a = c.args in
    let l = c.loop-i in
    let h = c.loop-i-test.true in
    let r = record_at a.program a.table.now l.i in
    let e = ap (λ (x : Totals). x.free) (c.count_line-t.ensures r c.kind-k.ensures) in
    let m = (small_here a.program a.table.now a.count a.notes.now c.requires.0 l.i h l.invariant (c.cells_of-m.ensures ∙ ap size c.look-y.ensures)).1 in
    omega (arith, e, m, free_small a.program a.table.now a.count a.notes.now c.requires.0 l.i h l.invariant)

pub loop-i-preserved : goal.loop-i-preserved
loop-i-preserved c =
    let a = c.args in
    let l = c.loop-i in
    let r = record_at a.program a.table.now l.i in
    let k = c.kind-k.ensures in
    further a.program a.table.now a.count a.notes.now c.requires.0 l.i c.loop-i-test.true {r = r} l.laid l.invariant refl
    c.look-y.ensures c.cells_of-m.ensures (c.find_spot-s.ensures r k) (c.count_line-t.ensures r k) c.put_line-in-loop-i.ensures
    (c.count_free-t.ensures r k)

pub returns : goal.returns
returns c =
    let a = c.args in
    laid a.program a.table.now a.count a.notes.now c.requires.0 c.loop-i-test.false c.loop-i.invariant
