use Prim.Native.Nat.{◌+◌}
use mathlib.Core.Path.{sym, subst}
use mathlib.Core.Bool.{Bool}
use Rattle.starts.proofs.Inits.{record_there, Looked, init_found, init_further, init_end}
use Rattle.starts.proofs.has_init.Goals as goal
use Rattle.starts.proofs.has_init.Goals.{then-kind-eq6, else-kind-eq6}

pub kind-requires : goal.kind-requires
kind-requires c = record_there c.args.program c.args.table.now c.args.count c.requires c.loop-i.i c.loop-i-test.true

pub loop-i-preserved : goal.loop-i-preserved
loop-i-preserved c =
    let l = c.loop-i in
    let k = c.kind in
    let t = c.loop-i-test.true in
    let so : Bool → Type 0 = λ (b : Bool). Looked c.args.program c.args.table.now c.args.count (l.i + 1) b in
    elim c.if-kind-eq6.branch [
      | then-kind-eq6 w ↦ subst so (sym w.found-is) (init_found l.invariant c.requires k.result t k.ensures w.if-kind-eq6.true)
      | else-kind-eq6 w ↦ subst so (sym w.found-is) (init_further l.invariant c.requires k.result t k.ensures w.if-kind-eq6.false)
    ]

pub returns : goal.returns
returns c = init_end c.loop-i.invariant c.requires c.loop-i-test.false
