use mathlib.Core.Path.{◌∙◌}
use Rattle.texts.proofs.Words.{same_pointwise}
use Rattle.names.proofs.same.Goals as goal

pub returns : goal.returns
returns c = c.eq.ensures ∙ same_pointwise c.args.t.now c.args.u.now
