use Prim.Native.Nat.{ℕ, ◌*◌, ◌<◌}
use mathlib.Core.Path.{◌≡◌, refl, sym, ap, ◌∙◌, subst}
use mathlib.Core.Bool.{Bool, not}
use mathlib.Core.List.{List}
use native.Mathlib.Omega.{arith}
use lib.ListN.{length}
use Rattle.tables.specs.Layout.{record_size, held, placing_in, row_by, row_set}
use Rattle.tables.proofs.Layouts.{placed_in, words_in}
use Rattle.tables.proofs.Putting.{length_row}
use Rattle.layouts.proofs.Copying.{Strided, stride_inside, copy_record, carry_next, carry_none}
use Rattle.layouts.proofs.carry.Goals as goal

first_inside : (columns p : Bool) (len s r m i : ℕ) → Strided (placing_in columns p) len s r → m ≡ record_size p → i < held p len → r * i < len
first_inside columns p len s r m i q e h = omega (arith, stride_inside (placed_in columns p) len s r m i q e h 0 (omega (arith, e, words_in p)))

pub loop-i-init : goal.loop-i-init
loop-i-init c = (refl, carry_none (placing_in c.args.columns c.args.program) c.args.target.now c.requires.1.1)

pub overflow_mul-a : goal.overflow_mul-a
overflow_mul-a c =
    let l = c.loop-i in
    let z = c.size-size in
    let w = c.strides_of-a in
    let h : l.i < held c.args.program (length c.args.list.now) = omega (arith, c.loop-i-test.true, c.requires.0) in
    omega (arith, first_inside (not c.args.columns) c.args.program (length c.args.list.now) w.result.word w.result.row z.result l.i w.ensures z.ensures h)

pub overflow_mul-b : goal.overflow_mul-b
overflow_mul-b c =
    let l = c.loop-i in
    let z = c.size-size in
    let w = c.strides_of-b in
    let h : l.i < held c.args.program (length c.args.target.now) = omega (arith, c.loop-i-test.true, c.requires.1.0) in
    omega (arith, first_inside c.args.columns c.args.program (length c.args.target.now) w.result.word w.result.row z.result l.i w.ensures z.ensures h)

pub copy-requires : goal.copy-requires
copy-requires c =
    let l = c.loop-i in
    let z = c.size-size in
    let w = c.strides_of-a in
    let v = c.strides_of-b in
    let t = c.loop-i-test.true in
    let e = z.ensures in (
      stride_inside (placed_in (not c.args.columns) c.args.program) (length c.args.list.now) w.result.word w.result.row z.result l.i w.ensures e (omega (arith, t, c.requires.0)),
      λ j a.
          omega (
            arith,
            l.invariant.0,
            stride_inside (placed_in c.args.columns c.args.program) (length c.args.target.now) v.result.word v.result.row z.result l.i v.ensures e (omega (arith, t, c.requires.1.0)) j a,
          ),
    )

pub loop-i-preserved : goal.loop-i-preserved
loop-i-preserved c =
    let l = c.loop-i in
    let z = c.size-size in
    let w = c.strides_of-a in
    let v = c.strides_of-b in
    let q = c.copy.ensures in
    let f = placing_in (not c.args.columns) c.args.program in
    let g = placing_in c.args.columns c.args.program in
    let b : Strided g (length l.target) v.result.word v.result.row = subst (λ (n : ℕ). Strided g n v.result.word v.result.row) (sym l.invariant.0) v.ensures in
    let r = record_size c.args.program in
    let list = c.args.list.now in
    let e = q ∙ copy_record f g list l.target w.result.word w.result.row v.result.word v.result.row z.result r l.i w.ensures b z.ensures in (
      ap length e ∙ (length_row g l.target l.i (row_by f r list l.i) ∙ l.invariant.0),
      e ∙ (ap (λ (t : List ℕ). row_set g t l.i (row_by f r list l.i)) l.invariant.1 ∙ carry_next f g (length c.args.target.now) r list l.i),
    )
