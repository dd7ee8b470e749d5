use mathlib.Core.Path.{refl, ◌∙◌, subst}
use Prim.Native.Nat.{ℕ}
use native.Mathlib.Omega.{arith}
use lib.ListN.{length, drop}
use Rattle.tables.proofs.Encoding.{fits_table}
use Rattle.tables.specs.Layout.{lines_of}
use Rattle.circuits.proofs.Walked.{Walked, walk_fit, walk_step, walk_ends}
use Rattle.walks.proofs.walk.Goals as goal

pub line-requires : goal.line-requires
line-requires c =
    let s = c.args in
    let l = c.loop-i in
    let f = fits_table s.program s.table.now s.count c.requires.1.accepted in
    let t = c.loop-i-test.true in
    ((omega (arith, f.1, t), c.step-h.ensures), (omega (arith, f.0, t), walk_fit s.program s.first s.table.now s.count s.laid.now s.all s.row.now (drop s.all s.work.now) (length s.row.now) (length s.sig.now) c.requires.1 l.i t l.work l.sig refl l.invariant.1))

pub loop-i-preserved : goal.loop-i-preserved
loop-i-preserved c =
    let s = c.args in
    let l = c.loop-i in
    let t = c.loop-i-test.true in
    let n = c.line in
    let k = n.auto in
    (k.work ∙ l.invariant.0, walk_step s.program s.first s.table.now s.count s.laid.now s.all s.row.now (drop s.all s.work.now) (length s.row.now) (length s.sig.now) c.requires.1 l.i t l.work l.sig _ _ refl l.invariant.1 k.sig n.ensures.0 n.ensures.1)

pub returns : goal.returns
returns c =
    let s = c.args in
    let l = c.loop-i in
    walk_ends s.program s.first s.table.now s.count s.laid.now s.all s.row.now (drop s.all s.work.now) (length s.row.now) (length s.sig.now) c.requires.1 l.work l.sig (subst (λ (n : ℕ). Walked s.program s.first (lines_of s.program s.table.now s.count) s.all s.row.now (drop s.all s.work.now) (length s.sig.now) l.work l.sig n) (omega arith) l.invariant.1)
