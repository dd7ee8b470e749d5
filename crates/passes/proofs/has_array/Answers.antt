use Prim.Native.Nat.{◌+◌}
use mathlib.Core.Path.{sym, subst}
use mathlib.Core.Bool.{Bool}
use Rattle.programs.proofs.Keeping.{held_here}
use Rattle.programs.proofs.Marking.{Looked, array_found, array_further, array_end}
use Rattle.passes.proofs.has_array.Goals as goal
use Rattle.passes.proofs.has_array.Goals.{then-kind-eq2, else-kind-eq2}

pub kind-requires : goal.kind-requires
kind-requires c = held_here c.args.table.now c.args.count c.loop-i.i c.requires c.loop-i-test.true

pub loop-i-preserved : goal.loop-i-preserved
loop-i-preserved c =
    let l = c.loop-i in
    let k = c.kind in
    let t = c.loop-i-test.true in
    let so : Bool → Type 0 = λ (b : Bool). Looked c.args.table.now c.args.count (l.i + 1) b in
    elim c.if-kind-eq2.branch [
      | then-kind-eq2 w ↦ subst so (sym w.found-is) (array_found l.invariant c.requires k.result t k.ensures w.if-kind-eq2.true)
      | else-kind-eq2 w ↦ subst so (sym w.found-is) (array_further l.invariant c.requires k.result t k.ensures w.if-kind-eq2.false)
    ]

pub returns : goal.returns
returns c = array_end c.loop-i.invariant c.loop-i-test.false
