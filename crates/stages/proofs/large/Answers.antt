-- Rule 7, and then the others.
use mathlib.Core.Path.{sym, ◌∙◌}
use borrow.Author.Tests.{not-true, not-false, ne_eqb}
use Rattle.tables.proofs.Kept.{no_yes}
use Rattle.tables.specs.Model.Notes.{look_in, given_in}
use Rattle.tables.specs.Layout.{ids_of}
use Rattle.texts.proofs.Steps.{large_big, large_wide, large_fits, large_other}
use Rattle.stages.proofs.large.Goals as goal
use Rattle.stages.proofs.large.Goals.{then-big-via-then-big, then-big-via-else-big+then-not-is_width, then-f-eq1, else-f-eq1}

pub returns-then-big : goal.returns-then-big
returns-then-big c =
    elim c.then-big.branch [
      | then-big-via-then-big w ↦ sym (large_big _ _ _ _ _ _ _ _ w.if-big.true)
      | then-big-via-else-big+then-not-is_width w ↦
          elim w.if-f-eq1.branch [
            | then-f-eq1 v ↦ sym (large_wide _ _ _ _ _ _ _ _ w.if-big.false v.if-f-eq1.true (sym v.is_width.ensures ∙ not-true _ (sym v.value-is ∙ w.if-not-is_width.true)))
            | else-f-eq1 v ↦ absurd (no_yes (sym (ne_eqb c.args.f 1 v.if-f-eq1.false) ∙ (sym v.value-is ∙ w.if-not-is_width.true)))
          ]
    ]

pub returns : goal.returns
returns c =
    let s = c.args in
    let L = look_in s.notes.now in
    let G = given_in s.notes.now in
    let ds = ids_of s.table.now s.n in
    let h = c.if-big.false in
    c.conclude.ensures
    ∙ sym
    (elim c.if-f-eq1.branch [
      | then-f-eq1 w ↦ large_fits L G s.f s.rec s.minus s.len ds s.big h w.if-f-eq1.true (sym w.is_width.ensures ∙ not-false _ (sym w.value-is ∙ c.if-not-is_width.false))
      | else-f-eq1 w ↦ large_other L G s.f s.rec s.minus s.len ds s.big h w.if-f-eq1.false
    ])
