use Prim.Native.Nat.{ℕ, ◌+◌, ◌*◌}
use mathlib.Core.Path.{ap, ◌∙◌}
use mathlib.Core.List.{List}
use lib.ListN.{get_or, set, length-set}
use Rattle.layouts.proofs.Copying.{copy_next}
use Rattle.layouts.proofs.copy.Goals as goal

pub loop-j-preserved : goal.loop-j-preserved
loop-j-preserved c =
    let a = c.args in
    let l = c.loop-j in
    let from : ℕ → ℕ = λ (k : ℕ). a.s * k + a.x in
    let to : ℕ → ℕ = λ (k : ℕ). a.z * k + a.y in (
      simp length-set l.invariant.0,
      ap (λ (t : List ℕ). set t (to l.j) (get_or a.list.now (from l.j) 0)) l.invariant.1 ∙ copy_next from to a.list.now a.target.now l.j,
    )
