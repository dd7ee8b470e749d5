use Prim.Native.Nat.{ℕ, ◌+◌, ◌-◌}
use mathlib.Core.Path.{sym, ap, ◌∙◌}
use mathlib.Core.Bool.{Bool}
use native.Mathlib.Omega.{arith}
use borrow.Author.Tests.{not-true, not-false}
use Rattle.tables.proofs.Ids.{right_from, id_stops, id_follows, zero_follows}
use Rattle.checks.proofs.ids_rise.Goals as goal
use Rattle.checks.proofs.ids_rise.Goals.{then-d-ne0+else-not-follows, else-d-ne0+else-kind-ne-NOT}

pub returns-then-not-follows : goal.returns-then-not-follows
returns-then-not-follows c =
    let s = c.args in
    let l = c.loop-i in
    let d = c.id-d in
    sym (l.invariant ∙ id_stops s.table.now s.count l.i l.last d.result c.loop-i-test.true d.ensures c.if-d-ne0.true (sym (not-true _ c.if-not-follows.true-raw) ∙ c.follows.ensures))

pub loop-i-preserved : goal.loop-i-preserved
loop-i-preserved c =
    let s = c.args in
    let l = c.loop-i in
    let d = c.id-d in
    let t = c.loop-i-test.true in
    let later : ℕ → Bool = λ (last : ℕ). right_from s.table.now last (l.i + 1) (s.count - (l.i + 1)) in
    l.invariant
    ∙ elim c.if-d-ne0.branch [
      | then-d-ne0+else-not-follows w ↦
          id_follows s.table.now s.count l.i l.last d.result t d.ensures w.if-d-ne0.true (sym (not-false _ w.if-not-follows.false-raw) ∙ w.follows.ensures) ∙ ap later (sym w.last-is)
      | else-d-ne0+else-kind-ne-NOT w ↦
          zero_follows s.table.now s.count l.i l.last d.result t d.ensures w.if-d-ne0.false (omega (arith, w.kind.ensures, w.if-kind-ne-NOT.false)) ∙ ap later (sym w.last-is)
    ]
