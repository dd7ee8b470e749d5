-- By a constant index nothing is put; else the pairs.
use Prim.Native.Nat.{ℕ, ◌+◌, ◌-◌, ◌*◌, ◌≤◌}
use mathlib.Core.Path.{◌≡◌, sym, ap, ◌∙◌, subst, subst⁻¹}
use mathlib.Core.Logic.{◌≢◌}
use mathlib.Core.Bool.{false}
use native.Mathlib.Omega.{arith}
use lib.ListN.{length}
use Rattle.std.specs.Prelude.{None}
use Rattle.tables.specs.Layout.{held}
use Rattle.flattening.specs.Placed.{put_flat}
use Rattle.flattening.specs.Model.Cells.{cell_in}
use Rattle.flattening.specs.Model.Lines.{notes, con_in, made_as}
use Rattle.flattening.proofs.Holding.{constant_is, constant_none}
use Rattle.flattening.proofs.Placing.{flat_none}
use Rattle.flattening.proofs.Laying.{size_le, size_two, read_con, read_con_records, read_any_count}
use Rattle.tables.specs.Model.Notes.{look_in}
use Rattle.flat_arrays.proofs.line_read.Goals as goal

pub returns-in-Some : goal.returns-in-Some
returns-in-Some c =
    let a = c.args in
    let H = a.lines.kept.now in
    let N = notes H a.lines.types.now in
    let k = constant_is (con_in N a.i) c.in-Some.c c.in-Some.ensures in
    let d : con_in N a.i ≢ 0 = (λ z. omega arith) in
    let e : c.in-Some.c ≡ con_in N a.i - 1 = omega arith in
    record {
      kept =
          c.value.ensures ∙ (λ n. made_as a.p ((c.cell.ensures ∙ ap (cell_in H a.a) e) n) (c.bit_line-b.ensures n) None 1 None) ∙ sym (read_con N a.p a.s a.a a.i d);
      records = flat_none a.target.now a.p ∙ ap (put_flat a.target.now a.p) (sym (read_con_records N a.p a.s a.a a.i d));
    }

pub read_lines-requires : goal.read_lines-requires
read_lines-requires c =
    let a = c.args in
    let N = notes a.lines.kept.now a.lines.types.now in
    let e = constant_none (con_in N a.i) c.in_default.ensures in
    let r = subst (λ (x : ℕ). a.p + x ≤ held false (length a.target.now)) (read_any_count N a.p a.s a.a a.i e) c.requires.room in
    (c.requires.neat.sound, (subst⁻¹ (λ (x : ℕ). 2 ≤ x) c.size-n.ensures (size_two (look_in a.lines.types.now a.a).iw c.requires.deep), (subst⁻¹ (λ (x : ℕ). x ≤ 256) c.size-n.ensures (size_le (look_in a.lines.types.now a.a).iw (c.requires.neat.deep a.a)), (c.requires.low, (subst⁻¹ (λ (x : ℕ). x ≤ 65536) c.bit_line.ensures (c.requires.neat.bit a.a), subst⁻¹ (λ (x : ℕ). a.p + 2 * (x - 1) ≤ held false (length a.target.now)) c.size-n.ensures r)))))
