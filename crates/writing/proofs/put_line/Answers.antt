-- The parts of a line, one after the other.
use Prim.Native.Nat.{ℕ, ◌≤◌}
use native.Mathlib.Omega.{arith}
use mathlib.Core.Path.{sym, subst}
use mathlib.Core.List.{List}
use Rattle.tables.specs.Kinds.{operand_count}
use Rattle.tables.specs.Lines.{kind_in}
use Rattle.texts.proofs.Words.{sorted_most}
use Rattle.texts.proofs.Printed.{row_fit, line_length, line_put}
use Rattle.writing.proofs.put_line.Goals as goal

pub put_numbers-d-requires : goal.put_numbers-d-requires
put_numbers-d-requires c = (omega (arith, subst (λ (r : List ℕ). operand_count r ≤ 3) (sym c.row_of-row.ensures) (row_fit (kind_in c.args.rec) c.requires.1.0 c.requires.1.1.0).1, sorted_most c.row_of-row.result, c.sorted-s.ensures), omega (arith, c.requires.1.1.1, c.put_number-a.ensures.0, c.put_kind-b.ensures.0, line_length c.args.id c.args.rec c.row_of-row.result c.sorted-s.result c.row_of-row.ensures c.sorted-s.ensures))

pub returns : goal.returns
returns c = line_put c.args.id c.args.rec c.row_of-row.result c.sorted-s.result c.row_of-row.ensures c.sorted-s.ensures c.args.out.now c.args.at c.put_number-a.ensures c.put_kind-b.ensures c.put_numbers-d.ensures c.put.ensures
