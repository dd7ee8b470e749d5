use Rattle.std.proofs.Common.{false, ◌∙◌}
use Rattle.words.proofs.Divide.{sdiv_zero, sdiv_else}
use Rattle.operators.proofs.sdiv.Goals as goal

pub returns-else-n-ge0 : goal.returns-else-n-ge0
returns-else-n-ge0 c = sdiv_zero c.args.w c.args.a c.args.b c.requires c.to_signed-n.ensures c.to_signed-d.ensures c.to_signed-n.type_inv c.to_signed-d.type_inv false c.if-d-eq0.true c.if-n-ge0.false

pub returns-else-d-eq0 : goal.returns-else-d-eq0
returns-else-d-eq0 c = c.from_signed.ensures ∙ sdiv_else c.args.w c.args.a c.args.b c.requires c.to_signed-n.ensures c.to_signed-d.ensures c.to_signed-n.type_inv c.to_signed-d.type_inv c.if-d-eq0.false c.wrapping_div.type_inv c.wrapping_div.ensures
