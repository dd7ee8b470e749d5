use native.Mathlib.Omega.{arith}
use Rattle.circuits.proofs.Puts as laws
use Rattle.area.proofs.copy.Goals as goal

pub returns-then-m-eq1 : goal.returns-then-m-eq1
returns-then-m-eq1 c = let a = c.args in laws.copied_word a.work.now a.o a.x a.m c.if-m-eq1.true (omega arith) (omega arith)
