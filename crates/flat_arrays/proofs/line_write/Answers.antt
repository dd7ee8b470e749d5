-- By a constant index nothing is put; else the pairs.
use Prim.Native.Nat.{ℕ, ◌+◌, ◌-◌, ◌*◌, ◌≤◌}
use mathlib.Core.Path.{◌≡◌, sym, ap, ◌∙◌, subst, subst⁻¹}
use mathlib.Core.Logic.{◌≢◌}
use mathlib.Core.Bool.{false}
use native.Mathlib.Omega.{arith}
use lib.ListN.{length}
use Rattle.std.specs.Prelude.{Some, None}
use Rattle.tables.specs.Layout.{held}
use Rattle.flattening.specs.Placed.{put_flat}
use Rattle.flattening.specs.declared.Made.{Made}
use Rattle.flattening.specs.Model.Rows.{Tame}
use Rattle.flattening.specs.Model.Lines.{notes, con_in, made_as}
use Rattle.flattening.proofs.Holding.{cell_bound, constant_is, constant_none, tame_run, tame_of}
use Rattle.flattening.proofs.Placing.{flat_none}
use Rattle.flattening.proofs.Laying.{size_le, write_con, write_con_records, write_any_count}
use Rattle.tables.specs.Model.Notes.{look_in}
use Rattle.flat_arrays.proofs.line_write.Goals as goal

pub returns-in-Some : goal.returns-in-Some
returns-in-Some c =
    let a = c.args in
    let N = notes a.lines.kept.now a.lines.types.now in
    let k = c.in-Some.c in
    let q = constant_is (con_in N a.i) k c.in-Some.ensures in
    let d : con_in N a.i ≢ 0 = (λ z. omega arith) in
    let e : k ≡ con_in N a.i - 1 = omega arith in
    record {
      kept =
          ap (λ (v : Made). made_as v.next v.at v.bit (Some a.a) k v.con) c.value.ensures
          ∙ (λ n. made_as a.p (c.word_line-x.ensures n) (c.bit_line-o.ensures n) (Some a.a) (e n) None) ∙ sym (write_con N a.p a.s a.a a.i a.v d);
      records = flat_none a.target.now a.p ∙ ap (put_flat a.target.now a.p) (sym (write_con_records N a.p a.s a.a a.i a.v d));
    }

pub pairs-requires : goal.pairs-requires
pairs-requires c =
    let a = c.args in
    let N = notes a.lines.kept.now a.lines.types.now in
    let e = constant_none (con_in N a.i) c.in_default.ensures in
    let r = subst (λ (x : ℕ). a.p + x ≤ held false (length a.target.now)) (write_any_count N a.p a.s a.a a.i a.v e) c.requires.room in
    (c.requires.neat.sound, (subst⁻¹ Tame c.run.ensures (tame_run (c.bit_line-o.result + 1) 1 (omega (arith, subst⁻¹ (λ (x : ℕ). x ≤ 65536) c.bit_line-o.ensures (c.requires.neat.bit a.s))) (omega arith)), (subst⁻¹ Tame c.run-2.ensures (tame_run c.word_line-x.result 0 (omega (arith, subst⁻¹ (λ (x : ℕ). x ≤ 131072) c.word_line-x.ensures (cell_bound a.lines.kept.now c.requires.neat.sound a.v 0 (omega arith)))) (omega arith)), (subst⁻¹ Tame c.of.ensures (tame_of a.a), (subst⁻¹ (λ (x : ℕ). x ≤ 256) c.size-n.ensures (size_le (look_in a.lines.types.now a.s).iw (c.requires.neat.deep a.s)), (omega (arith, c.requires.low), subst⁻¹ (λ (x : ℕ). a.p + 2 * x ≤ held false (length a.target.now)) c.size-n.ensures r))))))
