use Prim.Native.Nat.{ℕ, ◌+◌, ◌/◌, ◌%◌, ◌<◌}
use mathlib.Core.Path.{subst⁻¹}
use mathlib.Core.List.{List}
use native.Mathlib.Omega.{arith}
use lib.ListN.{length}
use Rattle.flattening.specs.Model.Cells.{Filled}
use Rattle.flattening.proofs.Holding.{cell_lt}
use Rattle.flattening.proofs.Written.{filling, filled}
use Rattle.flat_cells.proofs.written.fill.Goals as goal

pub put_word-requires : goal.put_word-requires
put_word-requires c =
    let l = c.loop-j in
    let h : l.j < 256 = omega arith in
    let f = l.invariant in
    let r : c.args.u + l.j < length c.args.kept.now = omega (arith, c.requires.1.1) in
    let z = f.from.len in
    (omega arith, (omega arith, subst⁻¹ (λ (x : ℕ). x < 131072) c.cell-w.ensures (cell_lt l.kept (filling c.requires.0 c.requires.1.0 h r f) c.args.m l.j h)))

pub loop-j-preserved : goal.loop-j-preserved
loop-j-preserved c =
    let l = c.loop-j in
    let h : l.j < 256 = omega arith in
    subst⁻¹ (λ (K : List (List ℕ)). Filled c.args.kept.now K c.args.m c.args.u (l.j + 1)) c.put_word.ensures
    (filled c.requires.0 c.requires.1.0 h (omega (arith, c.requires.1.1)) l.invariant (c.entry.result / 131072 % 512) c.cell-w.result c.cell-w.ensures)
