use Rattle.words.proofs.Signed.{signed_law}
use Rattle.operators.proofs.to_signed.Goals as goal

pub returns : goal.returns
returns c = signed_law c.args.w c.requires c.args.a c.cast_signed.type_inv c.cast_signed.ensures
