use Rattle.tables.proofs.Kept.{no_yes}
use mathlib.Core.Path.{sym, ◌∙◌}
use borrow.Author.Tests.{not-true, not-false}
use Rattle.tables.proofs.Sofar.{stopped, further, all_lawful, all_shown}
use Rattle.checks.proofs.lines.Goals as goal

pub returns-then-not-take_record : goal.returns-then-not-take_record
returns-then-not-take_record c = (stopped c.loop-i.invariant.0 c.loop-i-test.true c.record-rec.ensures (sym c.take_record.ensures.0 ∙ not-true _ c.if-not-take_record.true-raw), λ e. absurd (no_yes e))

pub loop-i-preserved : goal.loop-i-preserved
loop-i-preserved c =
    let yes = not-false _ c.if-not-take_record.false-raw in
    (further c.loop-i.invariant.0 c.loop-i-test.true c.record-rec.ensures (sym c.take_record.ensures.0 ∙ yes) (c.take_record.ensures.1 yes), c.take_record.auto.notes ∙ c.loop-i.invariant.1)

pub returns : goal.returns
returns c = (all_lawful c.loop-i.invariant.0 c.loop-i-test.false, λ e. all_shown c.loop-i.invariant.0 c.loop-i-test.false)
