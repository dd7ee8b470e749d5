-- Line after line, reading stands where the definition does.
use Prim.Native.Nat.{◌-◌}
use mathlib.Core.Path.{◌≡◌}
use mathlib.Core.Bool.{false}
use lib.ListN.{length}
use Rattle.tables.specs.Layout.{room as roomOf}
use Rattle.texts.specs.Reading.{Sofar}
use Rattle.texts.proofs.Reached.{Reached}
use Rattle.reading.proofs.lines.read_lines.Given as goal

abbrev pub invariant-loop-i : goal.invariant-loop-i
invariant-loop-i l =
    (l.room ≡ roomOf false (length l.initial.table)) × ((length l.names ≡ length l.initial.names) × ((b : Sofar) × Reached l.text (length l.initial.table) l.i l.n l.line l.table l.notes l.names b))

abbrev pub decreases-loop-i : goal.decreases-loop-i
decreases-loop-i l = length l.text - l.i
