use Prim.Native.Nat.{ℕ}
use mathlib.Core.Path.{sym, ap, ◌∙◌}
use Rattle.flattening.specs.Model.Cells.{cell_in}
use Rattle.flattening.proofs.Holding.{cell_own, cell_new, cell_old}
use Rattle.flat_cells.proofs.cells.cell.Goals as goal

pub returns-then-entry-j : goal.returns-then-entry-j
returns-then-entry-j c =
    let s = c.args in
    let H = s.kept.now in
    let m = c.loop-a.m in
    c.entry-then-entry-j.ensures
    ∙ sym (cell_new H c.requires.0 m s.j (λ z. c.loop-a-test.true (c.entry.ensures ∙ z)) (sym c.entry-in-loop-a.ensures ∙ c.if-entry-j.true))
    ∙ c.loop-a.invariant

pub loop-a-preserved : goal.loop-a-preserved
loop-a-preserved c =
    let s = c.args in
    let H = s.kept.now in
    let m = c.loop-a.m in
    ap (λ (x : ℕ). cell_in H x s.j) c.entry-m.ensures
    ∙ sym (cell_old H c.requires.0 m s.j (λ z. c.loop-a-test.true (c.entry.ensures ∙ z)) (λ z. c.if-entry-j.false (c.entry-in-loop-a.ensures ∙ z)))
    ∙ c.loop-a.invariant

pub returns : goal.returns
returns c =
    let s = c.args in
    let H = s.kept.now in
    let m = c.loop-a.m in
    c.own.ensures ∙ sym (cell_own H m s.j (sym c.entry.ensures ∙ c.loop-a-test.false)) ∙ c.loop-a.invariant
