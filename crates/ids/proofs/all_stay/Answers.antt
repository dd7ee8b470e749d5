-- Each word by its class.
use mathlib.Core.Path.{sym, ◌∙◌}
use Rattle.tables.specs.Layout.{ids_of}
use Rattle.texts.proofs.Resolving.{all_same}
use borrow.Author.Rules.{rules}
use Rattle.ids.proofs.all_stay.Goals as goal
use Rattle.ids.proofs.all_stay.Goals.{then-stays, else-stays, then-stays-2, else-stays-2}

pub returns-then-stays-3 : goal.returns-then-stays-3
returns-then-stays-3 c =
    let s = c.args in
    λ z. elim c.if-stays-2.branch [
      | then-stays-2 w ↦
          elim c.if-stays.branch [
            | then-stays u ↦
                all_same (ids_of s.table.now s.n) s.rec s.row (search rules) c.requires.0 (c.stays.ensures u.if-stays.true) (u.stays-then-stays.ensures (sym u.value-is ∙ w.if-stays-2.true))
                (w.stays-then-stays-2.ensures (sym w.value-is ∙ c.if-stays-3.true)) (c.stays-then-stays-3.ensures z)
            | else-stays u ↦ absurd (cc)
          ]
      | else-stays-2 w ↦ absurd (cc)
    ]
