use borrow.Author.Rules.{rules}
use mathlib.Core.Path.{◌≡◌}
use lib.ListN.{length}
use Rattle.circuits.proofs.Puts as laws
use Rattle.area.proofs.take_four.Goals as goal

pub returns : goal.returns
returns c = let l : length c.args.v ≡ 4 = search rules in laws.four-set c.args.cells.now c.args.i c.args.v c.requires l
