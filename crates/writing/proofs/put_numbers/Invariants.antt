-- The numbers passed are stored.
use Prim.Native.Nat.{◌+◌, ◌-◌}
use mathlib.Core.Path.{◌≡◌}
use lib.ListN.{length}
use lib.Seq.{sets}
use Rattle.texts.specs.Split.{spaced}
use Rattle.texts.specs.Writing.{numbers}
use Rattle.writing.proofs.put_numbers.Given as goal

abbrev pub invariant-loop-v : goal.invariant-loop-v
invariant-loop-v l =
    (length l.out ≡ length l.initial.out) × ((l.at + length (spaced (numbers l.m l.j l.fn.rec)) ≡ l.p + length (spaced (numbers (l.m - l.v-index) (l.j + l.v-index) l.fn.rec))) × (sets l.initial.out l.at (spaced (numbers l.m l.j l.fn.rec)) ≡ sets l.out l.p (spaced (numbers (l.m - l.v-index) (l.j + l.v-index) l.fn.rec))))
