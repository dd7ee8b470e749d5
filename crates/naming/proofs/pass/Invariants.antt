-- The tokens passed are dropped.
use Prim.Native.Nat.{◌-◌, ◌≤◌}
use mathlib.Core.Path.{◌≡◌}
use lib.ListN.{length, drop}
use Rattle.texts.specs.Split.{tokens}
use Rattle.naming.proofs.pass.Given as goal

abbrev pub invariant-loop-passed : goal.invariant-loop-passed
invariant-loop-passed l = (l.at ≤ length l.l) × (drop l.m (tokens (drop l.i l.l)) ≡ drop (l.m - l._passed) (tokens (drop l.at l.l)))
