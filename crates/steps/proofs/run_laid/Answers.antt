use mathlib.Core.Path.{◌∙◌, sym, ap}
use Prim.Native.Nat.{ℕ}
use lib.ListN.{take, replicate}
use Rattle.tables.specs.Layout.{lines_of}
use Rattle.circuits.proofs.Repeated.{start_as, run_as}
use Rattle.steps.proofs.run_laid.Goals as goal

pub returns : goal.returns
returns c =
    let a = c.args in
    let C = lines_of a.plan.program a.plan.table.now a.plan.count in
    let g = c.begin in
    let t = c.steps in (
      t.ensures
          ∙ run_as a.plan.program C a.k a.starts.now a.inputs.now _
          (g.ensures ∙ start_as a.plan.program C a.starts.now a.inputs.now _ (ap (λ (n : ℕ). take n a.inputs.now) (sym a.plan.ready.inputs))),
      c.fill.ensures ∙ ap (λ (n : ℕ). replicate n 0) (t.auto.work ∙ g.auto.work),
    )
