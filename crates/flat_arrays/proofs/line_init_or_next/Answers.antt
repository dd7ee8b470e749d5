-- One line for each cell.
use Prim.Native.Nat.{ℕ, ◌+◌, ◌≤◌}
use mathlib.Core.Path.{subst⁻¹}
use mathlib.Core.Bool.{false}
use native.Mathlib.Omega.{arith}
use lib.ListN.{length}
use Rattle.tables.specs.Layout.{held}
use Rattle.flattening.specs.Model.Rows.{Tame}
use Rattle.flattening.proofs.Holding.{tame_run, tame_of}
use Rattle.flattening.proofs.Laying.{size_le}
use Rattle.tables.specs.Model.Notes.{look_in}
use Rattle.flat_arrays.proofs.line_init_or_next.Goals as goal

pub rows-requires : goal.rows-requires
rows-requires c = let a = c.args in (c.requires.neat.sound, (subst⁻¹ Tame c.of.ensures (tame_of a.q), (c.given_from-given.ensures.tame, (subst⁻¹ Tame c.run.ensures (tame_run 0 0 (omega arith) (omega arith)), (subst⁻¹ (λ (x : ℕ). x ≤ 256) c.size-n.ensures (size_le (look_in a.lines.types.now a.q).iw (c.requires.neat.deep a.q)), subst⁻¹ (λ (x : ℕ). a.p + x ≤ held false (length a.target.now)) c.size-n.ensures c.requires.room)))))
