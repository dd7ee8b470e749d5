-- An accepted table has fewer lines than the large list has entries.
use native.Mathlib.Omega.{arith}
use Rattle.programs.proofs.Keeping.{few_lines}
use Rattle.translating.proofs.make.counting.Goals as goal

pub count_in-requires-else-count-lt-FEW-clause-room : goal.count_in-requires-else-count-lt-FEW-clause-room
count_in-requires-else-count-lt-FEW-clause-room c = (few_lines c.args.table.now c.args.count c.requires.accepted, omega arith)
