use mathlib.Core.Path.{sym, ap, ◌∙◌}
use borrow.Author.Tests.{not-true, not-false}
use Rattle.tables.specs.Rules.{refused_by}
use Rattle.tables.specs.Model.Notes.{look_in, given_in}
use Rattle.tables.proofs.Answers.{is_eight, is_nine, is_ten, is_none}
use Rattle.rules.proofs.fault.Goals as goal

pub returns-then-not-classed : goal.returns-then-not-classed
returns-then-not-classed c = let s = c.args in ap refused_by (is_eight s.program (look_in s.notes.now) (given_in s.notes.now) s.rec s.row c.requires c.sort_at-t.ensures c.look-a.ensures c.look-b.ensures c.look-c.ensures (sym c.classed.ensures ∙ not-true _ c.if-not-classed.true-raw))

pub returns-then-not-fits : goal.returns-then-not-fits
returns-then-not-fits c = let s = c.args in ap refused_by (is_nine s.program (look_in s.notes.now) (given_in s.notes.now) s.rec s.row c.requires c.sort_at-t.ensures c.look-a.ensures c.look-b.ensures c.look-c.ensures (sym c.classed.ensures ∙ not-false _ c.if-not-classed.false-raw) (sym c.fits.ensures ∙ not-true _ c.if-not-fits.true-raw))

pub returns-then-not-once : goal.returns-then-not-once
returns-then-not-once c = let s = c.args in ap refused_by (is_ten s.program (look_in s.notes.now) (given_in s.notes.now) s.rec s.row c.requires c.sort_at-t.ensures c.look-a.ensures c.look-b.ensures c.look-c.ensures (sym c.classed.ensures ∙ not-false _ c.if-not-classed.false-raw) (sym c.fits.ensures ∙ not-false _ c.if-not-fits.false-raw) (sym c.once.ensures ∙ not-true _ c.if-not-once.true-raw))

pub returns : goal.returns
returns c = let s = c.args in ap refused_by (is_none s.program (look_in s.notes.now) (given_in s.notes.now) s.rec s.row c.requires c.sort_at-t.ensures c.look-a.ensures c.look-b.ensures c.look-c.ensures (sym c.classed.ensures ∙ not-false _ c.if-not-classed.false-raw) (sym c.fits.ensures ∙ not-false _ c.if-not-fits.false-raw) (sym c.once.ensures ∙ not-false _ c.if-not-once.false-raw))
