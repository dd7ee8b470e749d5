use Prim.Native.Nat.{ℕ, ◌+◌, ◌*◌}
use mathlib.Core.Path.{ap₂, ◌∙◌}
use mathlib.Core.List.{List, [], ◌∷◌}
use Rattle.flattening.specs.Placed.{put_flat}
use Rattle.flattening.proofs.Placing.{flat_none, pair_more}
use Rattle.flat_cells.proofs.rows.pairs.Goals as goal

pub loop-j-init : goal.loop-j-init
loop-j-init c = flat_none c.args.target.now c.args.p

pub loop-j-preserved : goal.loop-j-preserved
loop-j-preserved c =
    let a = c.args in
    let H = a.kept.now in
    let j = c.loop-j.j in
    let q = a.p + 2 * j in
    c.put-in-loop-j.ensures
    ∙ ap₂ (λ (t r : List ℕ). put_flat t (q + 1) (r ∷ [])) (c.put.ensures ∙ ap₂ (λ (t r : List ℕ). put_flat t q (r ∷ [])) c.loop-j.invariant c.of-eq.ensures) c.of-ite.ensures
    ∙ pair_more a.target.now a.p j H a.o a.i a.s a.c a.x a.y c.source.result c.source-in-loop-j.result c.source-in-loop-j-2.result c.source.ensures c.source-in-loop-j.ensures c.source-in-loop-j-2.ensures
