-- An accepted table has fewer lines than the large list has entries.
use native.Mathlib.Omega.{arith}
use Rattle.programs.proofs.Keeping.{few_lines}
use Rattle.translating.proofs.make.writing.Goals as goal

pub write_in-requires-else-count-lt-FEW-clause-room : goal.write_in-requires-else-count-lt-FEW-clause-room
write_in-requires-else-count-lt-FEW-clause-room c = (few_lines c.args.table.now c.args.count c.requires.prepared.accepted, omega arith)
