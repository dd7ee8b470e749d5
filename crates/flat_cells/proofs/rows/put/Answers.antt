-- One record is put, with its number.
use Prim.Native.Nat.{◌+◌}
use mathlib.Core.Path.{refl, ◌∙◌}
use Rattle.flattening.proofs.Placing.{flat_one}
use Rattle.flat_cells.proofs.rows.put.Goals as goal

pub returns : goal.returns
returns c =
    let a = c.args in
    c.put_line.ensures ∙ flat_one a.target.now a.i a.rec (a.i + 1) refl
