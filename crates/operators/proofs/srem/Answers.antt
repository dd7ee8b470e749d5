use Rattle.std.proofs.Common.{◌∙◌}
use Rattle.words.proofs.Divide.{srem_zero}
use Rattle.operators.proofs.srem.Goals as goal

pub returns-then-d-eq0 : goal.returns-then-d-eq0
returns-then-d-eq0 c = c.low.ensures.0 ∙ srem_zero c.args.w c.args.a c.args.b c.requires c.to_signed-n.ensures c.to_signed-d.ensures c.to_signed-n.type_inv c.to_signed-d.type_inv c.if-d-eq0.true
