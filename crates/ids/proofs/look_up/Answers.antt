-- Each word by its class.
use Rattle.texts.proofs.Resolving.{is_resolved}
use Rattle.ids.proofs.look_up.Goals as goal

pub returns : goal.returns
returns c = is_resolved _ _ _ c.requires.0 c.meant-s.ensures c.meant-a.ensures c.meant-b.ensures c.meant-c.ensures
