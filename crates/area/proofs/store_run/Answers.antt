use mathlib.Core.List.{List}
use Prim.Native.Nat.{ℕ}
use lib.ListN.{set, length-set}
use Rattle.circuits.proofs.Puts as laws
use Rattle.area.proofs.store_run.Goals as goal

pub returns : goal.returns
returns c =
    let a = c.args in
    laws.lent (λ (xs : List ℕ). set xs a.i a.v) (λ xs. length-set xs a.i a.v) a.work.now a.a a.m c.store.new.cells c.requires.0 c.store.ensures
