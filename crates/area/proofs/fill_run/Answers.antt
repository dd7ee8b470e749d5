use mathlib.Core.Path.{ap, ◌∙◌}
use mathlib.Core.List.{List}
use Prim.Native.Nat.{ℕ}
use lib.ListN.{length, replicate, length-replicate}
use Rattle.circuits.specs.Cells.{put}
use Rattle.circuits.proofs.Puts as laws
use Rattle.area.proofs.fill_run.Goals as goal

pub returns : goal.returns
returns c =
    let a = c.args in
    laws.lent (λ (xs : List ℕ). replicate (length xs) a.v) (λ xs. length-replicate (length xs) a.v) a.work.now a.a a.m c.fill.new.cells c.requires c.fill.ensures ∙ ap (λ (n : ℕ). put a.work.now a.a (replicate n a.v)) (laws.length_part a.work.now a.a a.m c.requires)
