-- So many words are there.
use mathlib.Core.Path.{◌≡◌}
use lib.ListN.{take}
use Rattle.circuits.specs.Cells.{mask_words}
use Rattle.free_states.proofs.load_masked.Given as goal

abbrev pub invariant-loop-i : goal.invariant-loop-i
invariant-loop-i l = take l.i l.to ≡ mask_words l.w (take l.i l.from)
