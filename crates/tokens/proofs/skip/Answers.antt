use mathlib.Core.Path.{◌≡◌, ◌∙◌}
use native.Mathlib.Omega.{arith}
use lib.ListN.{length}
use Rattle.texts.proofs.Scan.{space_skipped}
use Rattle.tokens.proofs.skip.Goals as goal

pub loop-j-preserved : goal.loop-j-preserved
loop-j-preserved c = space_skipped c.args.s.now c.loop-j.j (omega arith) c.if-s-j-ne32.false ∙ c.loop-j.invariant

pub returns : goal.returns
returns c =
    let s = c.args.s.now in
    let e : c.loop-j.j ≡ length s = omega arith in
    (c.requires, (omega arith, (rw e at c.loop-j.invariant, λ h. absurd (omega arith))))
