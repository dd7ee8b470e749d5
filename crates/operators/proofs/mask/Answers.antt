use Rattle.words.proofs.Words.{mask_law}
use Rattle.operators.proofs.mask.Goals as goal

pub returns : goal.returns
returns c = mask_law c.args.w c.requires.most
