use Prim.Native.Nat.{ℕ, ◌+◌}
use mathlib.Core.Path.{◌≡◌, sym, ◌∙◌, subst}
use mathlib.Core.Bool.{Bool, false}
use mathlib.Core.List.{List}
use native.Mathlib.Omega.{arith}
use lib.ListN.{length, drop, length-drop}
use Rattle.tables.specs.Layout.{lines_of}
use Rattle.circuits.specs.Model.Places.{Ready}
use Rattle.starts.specs.Model.Starting.{has_init, NoInit}
use Rattle.starts.proofs.Inits.{record_there}
use Rattle.starts.proofs.Masking.{Masked, no_inits, masked_fit, masked_state, masked_other, masked_all}
use Rattle.starts.proofs.mask_starts.Goals as goal
use Rattle.starts.proofs.mask_starts.Goals.{then-kind-eq5, else-kind-eq5}

quiet_start : {p : Bool} {t : List ℕ} {n : ℕ} {P : List (List ℕ)} {all words ins sigs : ℕ} (work : List ℕ) → Ready p t n P all words ins sigs → length work ≡ all + words → has_init (lines_of p t n) ≡ false → NoInit p t n P (length (drop all work))
quiet_start {all = all} work r e none = no_inits (omega (arith, length-drop all work, e)) r none

pub kind-requires : goal.kind-requires
kind-requires c = record_there c.args.plan.program c.args.plan.table.now c.args.plan.count c.args.plan.ready.accepted c.loop-i.i c.loop-i-test.true

pub mask_state-requires : goal.mask_state-requires
mask_state-requires c =
    let l = c.loop-i in
    let k = c.kind in
    masked_fit c.args.plan.totals.cells (drop c.args.plan.totals.cells c.args.work.now) (quiet_start c.args.work.now c.args.plan.ready c.requires.0 c.requires.1) l.i c.loop-i-test.true l.invariant k.result k.ensures c.if-kind-eq5.true

pub loop-i-preserved : goal.loop-i-preserved
loop-i-preserved c =
    let a = c.args in
    let l = c.loop-i in
    let k = c.kind in
    let t = c.loop-i-test.true in
    let σ = drop a.plan.totals.cells a.work.now in
    elim c.if-kind-eq5.branch [
      | then-kind-eq5 w ↦ masked_state a.plan.totals.cells σ (quiet_start c.args.work.now c.args.plan.ready c.requires.0 c.requires.1) l.i t l.invariant k.result k.ensures w.if-kind-eq5.true (w.work-is ∙ w.mask_state.ensures)
      | else-kind-eq5 w ↦
          subst (λ (x : List ℕ). Masked a.plan.program (lines_of a.plan.program a.plan.table.now a.plan.count) a.plan.totals.cells σ x (l.i + 1)) (sym w.work-is)
          (masked_other a.plan.totals.cells σ (quiet_start c.args.work.now c.args.plan.ready c.requires.0 c.requires.1) l.i t l.invariant k.result k.ensures w.if-kind-eq5.false)
    ]

pub returns : goal.returns
returns c =
    let a = c.args in
    let l = c.loop-i in
    let past : l.i ≡ a.plan.count = omega arith in
    masked_all a.plan.totals.cells (drop a.plan.totals.cells a.work.now) (quiet_start c.args.work.now c.args.plan.ready c.requires.0 c.requires.1)
    (subst (λ (m : ℕ). Masked a.plan.program (lines_of a.plan.program a.plan.table.now a.plan.count) a.plan.totals.cells (drop a.plan.totals.cells a.work.now) l.work m) past l.invariant)
