-- The operands passed have their not records.
use mathlib.Core.Path.{◌≡◌}
use lib.ListN.{length}
use Rattle.texts.specs.Model.Filling.{filling, added_from}
use Rattle.texts.proofs.Filled.{Passed}
use Rattle.line_records.proofs.put_line.Given as goal

abbrev pub invariant-loop-j : goal.invariant-loop-j
invariant-loop-j l =
    Passed l.minus l.id (added_from l.minus 3 2 (filling l.initial.table l.initial.notes l.n) l.initial.own l.id) (length l.initial.table) l.j (filling l.table l.notes l.k) l.own × (length l.notes ≡ length l.initial.notes)
