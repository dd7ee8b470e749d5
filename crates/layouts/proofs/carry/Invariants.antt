-- The records passed are in the target.
use mathlib.Core.Path.{◌≡◌}
use mathlib.Core.Bool.{not}
use lib.ListN.{length}
use Rattle.tables.specs.Layout.{placing_in, filled_by}
use Rattle.layouts.specs.Conversion.{rows_in}
use Rattle.layouts.proofs.carry.Given as goal

abbrev pub invariant-loop-i : goal.invariant-loop-i
invariant-loop-i l =
    (length l.target ≡ length l.initial.target) × (l.target ≡ filled_by (placing_in l.columns l.program) (length l.initial.target) (rows_in (not l.columns) l.program l.list l.i))
