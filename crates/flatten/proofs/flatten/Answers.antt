-- The target is cleared, then the tests come in their order, then the lines.
use mathlib.Core.Path.{sym, ap, ◌∙◌}
use mathlib.Core.Bool.{false}
use lib.ListN.{length}
use Rattle.tables.specs.Layout.{whole}
use Rattle.flattening.proofs.Refusing.{first_refused, second_refused, cleared_length}
use Rattle.flatten.proofs.flatten.Goals as goal
use Rattle.flatten.proofs.flatten.Goals.{then-not-is_table-via-then-not-is_table, then-not-is_table-via-else-not-is_table+then-not-is_table-2}

pub returns-then-not-is_table : goal.returns-then-not-is_table
returns-then-not-is_table c =
    let a = c.args in
    let k = c.clear.ensures in
    elim c.then-not-is_table.branch [
      | then-not-is_table-via-then-not-is_table w ↦ first_refused a.table.now a.count (length a.target.now) k (sym c.is_table.ensures ∙ w.if-not-is_table.true)
      | then-not-is_table-via-else-not-is_table+then-not-is_table-2 w ↦
          second_refused a.table.now a.count (length a.target.now) k (sym c.is_table.ensures ∙ w.if-not-is_table.false)
          (sym (ap (whole false) (cleared_length a.table.now a.target.now k)) ∙ sym w.is_table-else-not-is_table.ensures ∙ w.if-not-is_table-2.true)
    ]
