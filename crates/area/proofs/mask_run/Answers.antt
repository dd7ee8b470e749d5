use Rattle.circuits.specs.Cells.{mask_words}
use Rattle.circuits.proofs.Puts as laws
use Rattle.area.proofs.mask_run.Goals as goal

pub returns : goal.returns
returns c =
    let a = c.args in
    laws.lent (mask_words a.w) (laws.length_lows a.w) a.work.now a.a a.m c.mask_all.new.cells c.requires.0 c.mask_all.ensures
