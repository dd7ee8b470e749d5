use Rattle.std.proofs.Common.{◌∙◌}
use Rattle.words.proofs.Divide.{sra_law}
use Rattle.operators.proofs.sra.Goals as goal

pub returns : goal.returns
returns c = c.from_signed.ensures ∙ sra_law c.args.w c.args.a c.args.b c.requires c.to_signed.ensures c.to_signed.type_inv c.low-amount.ensures.0 c.min.ensures
