-- Words that are put back where they were stay.
use mathlib.Core.Path.{sym}
use Rattle.circuits.proofs.Puts as laws
use Rattle.area.proofs.settle.Goals as goal

pub returns-else-mask : goal.returns-else-mask
returns-else-mask c = rw c.if-mask.false (sym (laws.put_same c.args.work.now c.args.a c.args.m c.requires.0))
