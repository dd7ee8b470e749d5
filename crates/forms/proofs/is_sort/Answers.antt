use mathlib.Core.Path.{ap, ◌∙◌}
use lib.Dec.{eqb}
use lib.Pointwise.{pointwise}
use Rattle.texts.specs.Forms.{sort_word}
use Rattle.texts.proofs.Words.{same_pointwise}
use Rattle.forms.proofs.is_sort.Goals as goal

pub returns : goal.returns
returns c =
    let t = c.args.t.now in
    c.eq.ensures ∙ (ap (pointwise eqb t) c.as_slice.ensures ∙ same_pointwise t sort_word)
