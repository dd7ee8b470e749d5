use mathlib.Core.Path.{sym, ap, ap₂, ◌∙◌}
use mathlib.Core.Bool.{Bool}
use Rattle.words.specs.Word.{bit}
use Rattle.circuits.specs.Cells.{eq_or_neq, same_cells, part}
use Rattle.circuits.proofs.Puts as laws
use Rattle.evaluation.proofs.line_equality.Goals as goal

pub returns : goal.returns
returns c =
    let a = c.args in let w = a.work.now in
    laws.stored w c.off-o.ensures
    (c.says.ensures ∙ ap (λ (s : Bool). bit (eq_or_neq a.e s)) (c.alike-r.ensures ∙ ap₂ same_cells (ap₂ (part w) c.off-x.ensures c.cells-m.ensures) (ap₂ (part w) c.off-y.ensures (c.cells-m.ensures ∙ sym c.requires.1.size))))
    (laws.below_as c.off-o.ensures c.requires.0.below)
