use native.Mathlib.Omega.{arith}
use mathlib.Core.Path.{ap}
use lib.ListN.{length}
use Rattle.texts.proofs.Scan.{up_to_hit, up_to_miss, up_to_end}
use Rattle.tokens.proofs.find_byte.Goals as goal

pub returns-then-s-j : goal.returns-then-s-j
returns-then-s-j c = (omega arith, (omega arith, omega (arith, ap length (up_to_hit c.args.b c.args.s.now c.loop-j.j (omega arith) c.if-s-j.true))))

pub loop-j-preserved : goal.loop-j-preserved
loop-j-preserved c = omega (arith, ap length (up_to_miss c.args.b c.args.s.now c.loop-j.j (omega arith) c.if-s-j.false))

pub returns : goal.returns
returns c = (omega arith, (omega arith, omega (arith, ap length (up_to_end c.args.b c.args.s.now c.loop-j.j (omega arith)))))
