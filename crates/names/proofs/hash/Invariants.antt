-- Four bytes at a time, and then the others.
use Prim.Native.Nat.{◌≤◌, ◌<◌}
use lib.ListN.{length}
use Rattle.texts.specs.Model.Chains.{hashes}
use Rattle.texts.proofs.Hashing.{HashingFours}
use Rattle.names.proofs.hash.Given as goal

abbrev pub invariant-loop-p : goal.invariant-loop-p
invariant-loop-p l = (1 ≤ l.step) × (l.step ≤ 2049) × (l.h < hashes) × (l.p ≤ length l.t) × HashingFours l.t l.step l.h l.p

abbrev pub decreases-loop-p : goal.decreases-loop-p
decreases-loop-p l = l.p
