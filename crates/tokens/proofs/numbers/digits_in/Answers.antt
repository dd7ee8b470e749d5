-- Digits of another base, at most so many.
use native.Mathlib.Omega.{arith}
use borrow.Author.Tests.{eqb-true, eqb-false}
use mathlib.Core.Path.{sym, ◌∙◌}
use lib.ListN.{length}
use Rattle.texts.proofs.Scan.{digits_none, digits_bad, digits_long, digits_ok}
use Rattle.tokens.proofs.numbers.digits_in.Goals as goal
use Rattle.tokens.proofs.numbers.digits_in.Goals.{then-is_empty-via-then-is_empty, then-is_empty-via-else-is_empty+then-not-all_in}

pub returns-then-is_empty : goal.returns-then-is_empty
returns-then-is_empty c =
    let s = c.args in
    elim c.then-is_empty.branch [
      | then-is_empty-via-then-is_empty w ↦ sym (digits_none s.base s.most s.t.now (eqb-true (length s.t.now) 0 (sym c.is_empty.ensures ∙ w.if-is_empty.true)))
      | then-is_empty-via-else-is_empty+then-not-all_in w ↦ sym (digits_bad s.base s.most s.t.now (sym w.all_in.ensures ∙ w.if-not-all_in.true))
    ]

pub returns-then-most-t : goal.returns-then-most-t
returns-then-most-t c = sym (digits_long c.args.base c.args.most c.args.t.now (sym c.all_in.ensures ∙ c.if-not-all_in.false) c.if-most-t.true)

pub returns : goal.returns
returns c =
    let s = c.args in
    let n = eqb-false (length s.t.now) 0 (sym c.is_empty.ensures ∙ c.if-is_empty.false) in
    c.value.ensures ∙ sym (digits_ok s.base s.most s.t.now (omega arith) c.requires.1.1 (omega (arith, n)) (sym c.all_in.ensures ∙ c.if-not-all_in.false) c.if-most-t.false)
