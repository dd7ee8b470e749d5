use mathlib.Core.Path.{◌≡◌}
use mathlib.Core.List.{◌++◌}
use lib.ListN.{take, drop}
use Rattle.circuits.specs.Cells.{mask_words}
use Rattle.area.proofs.mask_all.Given as goal

abbrev pub invariant-loop-c : goal.invariant-loop-c
invariant-loop-c l = l.cells ≡ mask_words l.w (take l.c-index l.initial.cells) ++ drop l.c-index l.initial.cells
