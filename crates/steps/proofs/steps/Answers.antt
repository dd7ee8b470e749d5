use Prim.Native.Nat.{ℕ, ◌+◌}
use mathlib.Core.Path.{◌≡◌, refl, subst}
use mathlib.Core.Bool.{Bool}
use mathlib.Core.List.{List}
use native.Mathlib.Omega.{arith}
use lib.ListN.{length, drop, length-drop}
use Rattle.tables.specs.Layout.{lines_of}
use Rattle.circuits.specs.Model.Places.{Ready}
use Rattle.circuits.proofs.Stepping.{stepped_none, running, enter_fits, stepped_more}
use Rattle.steps.proofs.steps.Goals as goal

ready_for : {p : Bool} {t : List ℕ} {n : ℕ} {P : List (List ℕ)} {all words ins sigs : ℕ} (work : List ℕ) → length work ≡ all + words → Ready p t n P all words ins sigs → Ready p t n P all (length (drop all work)) ins sigs
ready_for {p} {t} {n} {P} {all} {words} {ins} {sigs} work e r = subst (λ (x : ℕ). Ready p t n P all x ins sigs) (omega (arith, length-drop all work, e)) r

pub loop-i-init : goal.loop-i-init
loop-i-init c =
    let a = c.args in
    stepped_none a.plan.program (lines_of a.plan.program a.plan.table.now a.plan.count) (a.plan.totals.inputs + a.plan.totals.free) a.plan.totals.signals a.k a.plan.totals.cells a.inputs.now a.signals.now a.work.now c.requires.1.1.1

pub enter-requires : goal.enter-requires
enter-requires c =
    let l = c.loop-i in
    let u = running c.args.plan.totals.free c.args.k c.args.inputs.now c.args.work.now (ready_for c.args.work.now c.requires.0 c.args.plan.ready) c.requires.1.0 c.requires.1.1.0 in
    let h = c.loop-i-test.true in
    (omega (arith, c.requires.0, l.invariant.many), enter_fits u l.invariant h)

pub loop-i-preserved : goal.loop-i-preserved
loop-i-preserved c =
    let l = c.loop-i in
    let u = running c.args.plan.totals.free c.args.k c.args.inputs.now c.args.work.now (ready_for c.args.work.now c.requires.0 c.args.plan.ready) c.requires.1.0 c.requires.1.1.0 in
    let h = c.loop-i-test.true in
    let e = c.enter in
    let w = c.walk in
    stepped_more u l.invariant h e.new.work e.auto.work e.ensures w.new.sig w.auto.work w.auto.sig w.ensures.0 (w.ensures.1 refl)
