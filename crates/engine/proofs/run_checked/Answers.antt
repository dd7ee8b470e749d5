use Rattle.circuits.proofs.Placing.{lent_small}
use Rattle.engine.proofs.run_checked.Goals as goal

pub lent-requires : goal.lent-requires
lent-requires c = let a = c.args in lent_small a.program a.table.now a.count c.requires.0.accepted c.lay_out-totals.ensures.1
