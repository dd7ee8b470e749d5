-- The ids before lo are below d; those from hi on are not, but for zeros.
use Prim.Native.Nat.{◌-◌, ◌≤◌}
use Rattle.tables.specs.Layout.{ids_of}
use Rattle.texts.specs.Model.Searching.{AllBelow, NoneBelow}
use Rattle.ids.proofs.search.Given as goal

abbrev pub invariant-loop-lo : goal.invariant-loop-lo
invariant-loop-lo l = (l.lo ≤ l.n) × ((l.hi ≤ l.n) × (AllBelow (ids_of l.table l.n) l.lo l.d × NoneBelow (ids_of l.table l.n) l.hi l.d))

abbrev pub decreases-loop-lo : goal.decreases-loop-lo
decreases-loop-lo l = l.hi - l.lo
