use mathlib.Core.Path.{sym, ◌∙◌}
use native.Mathlib.Omega.{arith}
use Rattle.circuits.proofs.Puts as laws
use Rattle.evaluation.proofs.line_write.Goals as goal

pub returns : goal.returns
returns c =
    let w = c.args.work.now in
    laws.written_as w c.copy.ensures c.store_run.ensures c.off.ensures c.off-o.ensures (c.cells-m.ensures ∙ sym c.requires.1.size) (laws.word_as w c.off-p.ensures) (laws.word_as w c.off-q.ensures) (omega arith) (omega arith)
