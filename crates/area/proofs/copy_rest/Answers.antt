use mathlib.Core.Path.{◌≡◌, refl, sym, ap, ◌∙◌}
use Prim.Native.Nat.{ℕ, ◌+◌, ◌-◌}
use native.Mathlib.Omega.{arith}
use Rattle.circuits.specs.Cells.{part, put}
use Rattle.circuits.proofs.Puts as laws
use Rattle.area.proofs.copy_rest.Goals as goal

pub loop-i-init : goal.loop-i-init
loop-i-init c =
    let a = c.args in
    let none : a.from - a.from ≡ 0 = omega arith in
    (refl, sym (ap (λ (n : ℕ). put a.work.now (a.o + a.from) (part a.work.now (a.x + a.from) n)) none ∙ laws.put_none a.work.now (a.o + a.from)))

pub loop-i-preserved : goal.loop-i-preserved
loop-i-preserved c =
    let a = c.args in
    let l = c.loop-i in
    let given = c.store_run in (
      given.auto.work ∙ l.invariant.0,
      given.ensures ∙ laws.rest_more l.work a.work.now a.x a.o a.m a.from l.i c.requires.0 (omega arith) (omega arith) (omega arith) (omega arith) l.invariant.0 l.invariant.1,
    )
