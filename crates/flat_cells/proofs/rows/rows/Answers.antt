use Prim.Native.Nat.{ℕ, ◌+◌}
use mathlib.Core.Path.{ap₂, ◌∙◌}
use mathlib.Core.List.{List, [], ◌∷◌}
use Rattle.flattening.specs.Placed.{put_flat}
use Rattle.flattening.proofs.Placing.{flat_none, row_more}
use Rattle.flat_cells.proofs.rows.rows.Goals as goal

pub loop-j-init : goal.loop-j-init
loop-j-init c = flat_none c.args.target.now c.args.p

pub loop-j-preserved : goal.loop-j-preserved
loop-j-preserved c =
    let a = c.args in
    let H = a.kept.now in
    let j = c.loop-j.j in
    c.put.ensures
    ∙ ap₂ (λ (t r : List ℕ). put_flat t (a.p + j) (r ∷ [])) c.loop-j.invariant c.of-rec.ensures
    ∙ row_more a.target.now a.p j H a.k a.s a.x a.y a.z c.source.result c.source-in-loop-j.result c.source-in-loop-j-2.result c.source.ensures c.source-in-loop-j.ensures c.source-in-loop-j-2.ensures
