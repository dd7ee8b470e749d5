-- The lines to come, with the words that are left, give what all lines give.
use Prim.Native.Nat.{◌+◌, ◌≤◌}
use mathlib.Core.Path.{◌≡◌}
use lib.ListN.{length, drop}
use Rattle.circuits.specs.Model.Feeding.{cells_in, fed_lines, AllFed}
use Rattle.free_states.proofs.feed.Given as goal

abbrev pub invariant-loop-line : goal.invariant-loop-line
invariant-loop-line l =
    (length l.words ≡ length l.initial.words) × (AllFed l.laid (length l.initial.words) (drop l.line-index l.lines) × ((l.r + cells_in l.laid (drop l.line-index l.lines) ≤ length l.row)
    × (fed_lines l.laid (drop l.line-index l.lines) l.words (drop l.r l.row) ≡ fed_lines l.laid l.lines l.initial.words l.row)))
