use Prim.Native.Nat.{ℕ, ◌+◌, ◌-◌, ◌/◌}
use mathlib.Core.Path.{sym, ◌∙◌}
use mathlib.Core.List.{List}
use native.Mathlib.Omega.{arith}
use Rattle.tables.specs.Layout.{ids_of}
use Rattle.texts.proofs.Resolving.{ids_length, ids_at, below_on, not_below_on}
use Rattle.ids.proofs.search.Goals as goal

pub loop-lo-init : goal.loop-lo-init
loop-lo-init c = let s = c.args in (omega arith, (omega arith, (λ j k. absurd (omega arith), λ j k l. absurd (omega (arith, ids_length s.table.now s.n)))))

pub loop-lo-preserved-then-d-v : goal.loop-lo-preserved-then-d-v
loop-lo-preserved-then-d-v c =
    let s = c.args in
    let p = c.requires.1 in
    let o = c.loop-lo in
    let m : ℕ = o.lo + (o.hi - o.lo) / 2 in
    let t : List ℕ = s.table.now in
    (o.invariant.0, (omega arith, (o.invariant.1.1.0, not_below_on (ids_of t s.n) p.1.rise s.d p.0 m m (λ j k l. absurd (omega arith)) (λ h. omega (arith, ids_at t s.n m (omega arith), c.id-v.ensures)))))

pub loop-lo-preserved-then-v-ne0 : goal.loop-lo-preserved-then-v-ne0
loop-lo-preserved-then-v-ne0 c =
    let s = c.args in
    let p = c.requires.1 in
    let o = c.loop-lo in
    let m : ℕ = o.lo + (o.hi - o.lo) / 2 in
    let t : List ℕ = s.table.now in
    let v = ids_at t s.n m (omega arith) ∙ sym c.id-v.ensures in
    (omega arith, (o.invariant.1.0, (below_on (ids_of t s.n) p.1.rise s.d p.0 m (omega (arith, ids_length t s.n)) (λ z. c.if-v-ne0.true (sym v ∙ z)) (omega arith), o.invariant.1.1.1)))

pub loop-lo-preserved : goal.loop-lo-preserved
loop-lo-preserved c =
    let s = c.args in
    let o = c.loop-lo in
    let g = c.past-p.ensures in
    (omega (arith, g.most, ids_length s.table.now s.n), (o.invariant.1.0, (g.behind (omega (arith, g.least)), o.invariant.1.1.1)))
