use mathlib.Core.Path.{sym, ◌∙◌}
use borrow.Author.Tests.{not-false}
use Rattle.tables.specs.Model.Notes.{look_in, given_in}
use Rattle.tables.proofs.Answers.{sort_width}
use Rattle.tables.proofs.Kept.{kept_fault}
use Rattle.checks.proofs.take_record.Goals as goal

pub note-requires : goal.note-requires
note-requires c =
    let s = c.args in
    let L = look_in s.notes.now in
    let G = given_in s.notes.now in
    sort_width s.program L G s.rec (kept_fault s.program L G s.rec (sym c.keeps_rules.ensures ∙ not-false _ c.if-not-keeps_rules.false-raw))
