use borrow.Author.Rules.{rules}
use Rattle.circuits.specs.Model.Work.{num_in}
use Rattle.circuits.proofs.Puts as laws
use Rattle.evaluation.proofs.line_read.Goals as goal

pub returns : goal.returns
returns c = laws.stored c.args.work.now c.off-o.ensures (laws.read_at c.args.work.now (num_in c.args.laid.now c.args.a) c.off-q.ensures c.off-p.ensures c.requires.1.inside) (search rules)
