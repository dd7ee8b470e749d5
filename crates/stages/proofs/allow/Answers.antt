-- Rule 8 for minuses, and then the others.
use mathlib.Core.Path.{sym, ◌∙◌}
use borrow.Author.Tests.{not-true, not-false}
use Rattle.tables.specs.Model.Notes.{look_in, given_in}
use Rattle.texts.proofs.Steps.{minus_8, minus_fits_lem, no_minus, by_own_row}
use Rattle.stages.proofs.allow.Goals as goal
use Rattle.stages.proofs.allow.Goals.{else-has_signs-via-then-has_signs+else-not-signs_fit, else-has_signs-via-else-has_signs}

pub returns-then-not-signs_fit : goal.returns-then-not-signs_fit
returns-then-not-signs_fit c =
    let s = c.args in
    let L = look_in s.notes.now in
    let G = given_in s.notes.now in
    let e = by_own_row L G s.f s.rec s.minus s.len c.requires c.signs_fit.ensures in
    sym (minus_8 L G s.f s.rec s.minus s.len (sym e ∙ not-true _ c.if-not-signs_fit.true-raw))

pub returns : goal.returns
returns c =
    let s = c.args in
    let L = look_in s.notes.now in
    let G = given_in s.notes.now in
    c.judge.ensures
    ∙ sym (minus_fits_lem L G s.f s.rec s.minus s.len
    (elim c.else-has_signs.branch [
      | else-has_signs-via-then-has_signs+else-not-signs_fit w ↦ sym (by_own_row L G s.f s.rec s.minus s.len c.requires w.signs_fit.ensures) ∙ not-false _ w.if-not-signs_fit.false-raw
      | else-has_signs-via-else-has_signs w ↦ no_minus L G s.f s.rec s.minus s.len (sym c.has_signs.ensures ∙ w.if-has_signs.false)
    ]))
