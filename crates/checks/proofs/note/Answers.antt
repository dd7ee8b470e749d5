use mathlib.Core.Path.{ap, ◌∙◌}
use lib.ListN.{set}
use mathlib.Core.Bool.{true, false}
use Rattle.tables.specs.declared.Ty.{Ty}
use Rattle.tables.specs.Model.Notes.{note_at, typed, flagged_by, noted}
use Rattle.checks.proofs.note.Goals as goal

pub returns : goal.returns
unfolding noted
returns c =
    let s = c.args in
    c.flag-2.ensures ∙ ap (flagged_by false s.rec)
    (c.flag.ensures ∙ ap (flagged_by true s.rec) (c.put_type.ensures ∙ ap (λ (y : Ty). set s.notes.now s.n (typed y (note_at s.notes.now s.n))) c.type_in-y.ensures))
