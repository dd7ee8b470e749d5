-- The names of the chain before i are other ones.
use Prim.Native.Nat.{◌-◌}
use lib.ListN.{take, drop}
use Rattle.texts.proofs.Chains.{Walk}
use Rattle.names.proofs.seen.Given as goal

abbrev pub invariant-loop-i : goal.invariant-loop-i
invariant-loop-i l = Walk l.text l.names (take (l.to - l.from) (drop l.from l.text)) l.h l.i

abbrev pub decreases-loop-i : goal.decreases-loop-i
decreases-loop-i l = l.i
