use mathlib.Core.Path.{◌≡◌, ◌∙◌}
use mathlib.Core.Bool.{true}
use native.Mathlib.Omega.{arith}
use borrow.Author.Rules.{rules}
use Rattle.circuits.specs.Run.{met}
use Rattle.circuits.specs.Model.Signals.{zip_sig}
use Rattle.circuits.proofs.Rows.{step_met}
use Rattle.bad.proofs.first_bad.Goals as goal

pub loop-b-init : goal.loop-b-init
loop-b-init c =
    let s = c.steps in
    let bs = c.args.bad.now in
    let all : met (zip_sig bs s.row.now) ≡ true = search rules in
    (s.invariant.0, ((omega arith, omega arith), s.invariant.1.1 ∙ step_met bs s.row.now c.args.k s.i c.steps-test.true all))
