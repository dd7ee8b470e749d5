use mathlib.Core.Path.{◌≡◌, refl, sym, ap, ◌∙◌}
use Prim.Native.Nat.{ℕ, ◌+◌, ◌-◌, ◌*◌, ◌/◌}
use native.Mathlib.Omega.{arith}
use Rattle.circuits.specs.Cells.{part, put}
use Rattle.circuits.proofs.Puts as laws
use Rattle.area.proofs.copy_cells.Goals as goal

pub loop-q-init : goal.loop-q-init
loop-q-init c = let a = c.args in (refl, sym (laws.put_none a.work.now a.o))

pub loop-q-preserved : goal.loop-q-preserved
loop-q-preserved c =
    let a = c.args in
    let l = c.loop-q in
    let i = 4 * l.q in
    let taken = c.take_run in
    let next : i + 4 ≡ 4 * (l.q + 1) = omega arith in (
      taken.auto.work ∙ l.invariant.0,
      taken.ensures ∙ ap (put l.work (a.o + i)) c.four-v.ensures
          ∙ laws.copy_more l.work a.work.now a.x a.o a.m i 4 c.requires.0 c.requires.1.0 c.requires.1.1 (omega arith) l.invariant.1
          ∙ ap (λ (n : ℕ). put a.work.now a.o (part a.work.now a.x n)) next,
    )

pub returns : goal.returns
returns c =
    let a = c.args in
    let l = c.loop-q in
    let i = a.m / 4 * 4 in
    let at : 4 * l.q ≡ i = omega arith in
    let past : i + (a.m - i) ≡ a.m = omega arith in
    let done : l.work ≡ put a.work.now a.o (part a.work.now a.x i) = l.invariant.1 ∙ ap (λ (n : ℕ). put a.work.now a.o (part a.work.now a.x n)) at in
    c.copy_rest.ensures
    ∙ laws.copy_more l.work a.work.now a.x a.o a.m i (a.m - i) c.requires.0 c.requires.1.0 c.requires.1.1 (omega arith) done
    ∙ ap (λ (n : ℕ). put a.work.now a.o (part a.work.now a.x n)) past
