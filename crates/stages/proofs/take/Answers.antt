-- The numbers of a line.
use Prim.Native.Nat.{ℕ, ◌≤◌}
use native.Mathlib.Omega.{arith}
use mathlib.Core.Path.{sym, subst}
use mathlib.Core.List.{List}
use Rattle.tables.specs.Kinds.{operand_count}
use Rattle.texts.proofs.Words.{row_shape, sorted_most}
use Rattle.stages.proofs.take.Goals as goal

pub operands-requires : goal.operands-requires
operands-requires c =
    let g = subst (λ (r : List ℕ). operand_count r ≤ 3) (sym c.row-row.ensures) (row_shape c.args.f (omega arith) (omega arith)).1 in
    let p = c.requires in
    let h = sorted_most c.row-row.result in
    (p.0, (p.1.1.0, (p.1.1.1, (p.1.0, (omega (arith, c.sorted-s.ensures), omega (arith, c.sorted-s.ensures))))))
