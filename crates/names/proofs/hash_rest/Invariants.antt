-- The hash of the bytes passed so far.
use Prim.Native.Nat.{◌≤◌, ◌<◌}
use lib.ListN.{length}
use Rattle.texts.specs.Model.Chains.{hashes, hash_from}
use Rattle.texts.proofs.Hashing.{Hashing}
use Rattle.names.proofs.hash_rest.Given as goal

abbrev pub invariant-loop-p : goal.invariant-loop-p
invariant-loop-p l = (l.h < hashes) × (l.p ≤ length l.t) × Hashing l.t l.step (hash_from l.from l.step l.t l.start l.from) l.h l.p

abbrev pub decreases-loop-p : goal.decreases-loop-p
decreases-loop-p l = l.p
