-- A decimal number, by its length and first digit.
use Prim.Native.Nat.{ℕ}
use native.Mathlib.Omega.{arith}
use borrow.Author.Tests.{eqb-true, eqb-false}
use mathlib.Core.Path.{sym, ◌∙◌}
use mathlib.Core.List.{List}
use lib.ListN.{length}
use Rattle.texts.proofs.Scan.{decimal_none, decimal_one, decimal_lead, decimal_more}
use Rattle.tokens.proofs.numbers.decimal.Goals as goal
use Rattle.tokens.proofs.numbers.decimal.Goals.{else-t-gt1-via-then-t-gt1+else-t-eq48, else-t-gt1-via-else-t-gt1}

pub returns-then-is_empty : goal.returns-then-is_empty
returns-then-is_empty c = sym (decimal_none c.args.t.now (eqb-true (length c.args.t.now) 0 (sym c.is_empty.ensures ∙ c.if-is_empty.true)))

pub returns-then-t-eq48 : goal.returns-then-t-eq48
returns-then-t-eq48 c = sym (decimal_lead c.args.t.now c.if-t-gt1.true c.if-t-eq48.true)

pub returns : goal.returns
returns c =
    let s : List ℕ = c.args.t.now in
    let n = eqb-false (length s) 0 (sym c.is_empty.ensures ∙ c.if-is_empty.false) in
    c.tens.ensures ∙ sym (elim c.else-t-gt1.branch [
      | else-t-gt1-via-then-t-gt1+else-t-eq48 w ↦ decimal_more s w.if-t-gt1.true w.if-t-eq48.false
      | else-t-gt1-via-else-t-gt1 w ↦ decimal_one s (omega (arith, n))
    ])
