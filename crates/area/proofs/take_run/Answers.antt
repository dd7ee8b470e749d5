use borrow.Author.Rules.{rules}
use mathlib.Core.Path.{◌≡◌}
use native.Mathlib.Omega.{arith}
use lib.ListN.{length}
use Rattle.circuits.proofs.Puts as laws
use Rattle.area.proofs.take_run.Goals as goal

pub returns : goal.returns
returns c =
    let a = c.args in
    let l : length a.v ≡ 4 = search rules in
    laws.lent-put a.work.now a.a a.m a.i a.v c.take_four.new.cells c.requires.0 (omega arith) c.take_four.ensures
