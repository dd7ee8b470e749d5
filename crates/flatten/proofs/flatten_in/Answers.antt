-- Lists of zeros.
use Rattle.flattening.proofs.Refusing.{blank_lists}
use Rattle.flatten.proofs.flatten_in.Goals as goal

pub checked-requires : goal.checked-requires
checked-requires g c = blank_lists c.args.table.now c.args.count g.row.N c.requires.clear c.requires.more c.requires.few
