use Prim.Native.Nat.{ℕ, ◌+◌, ◌-◌}
use mathlib.Core.Path.{◌≡◌, sym, ◌∙◌}
use mathlib.Core.Bool.{Bool}
use mathlib.Core.List.{List}
use native.Mathlib.Omega.{arith}
use lib.ListN.{take, drop}
use Rattle.texts.specs.Split.{same_bytes}
use Rattle.texts.specs.Model.Chains.{first_byte, last_byte, name_at}
use Rattle.texts.proofs.Chains.{walk_start, walk_on, walk_found, link_less, name_ordered, name_within}
use Rattle.names.proofs.seen.Goals as goal

compared : (s w t : List ℕ) (i a z : ℕ) (q : Bool) → a ≡ first_byte w i → z ≡ last_byte w i → q ≡ same_bytes t (take (z + 1 - a) (drop a s)) → same_bytes t (name_at s w i) ≡ q
compared s w t i a z q d e h = rw (← d, ← e) (sym h)

pub loop-i-init : goal.loop-i-init
loop-i-init c =
    let s = c.args in
    let p = c.requires in
    let t : List ℕ = take (s.to - s.from) (drop s.from s.text.now) in
    walk_start p.4 t s.h (sym p.2) c.from-i.result p.3 c.from-i.ensures

pub slice_bounds-same-count-in-loop-i : goal.slice_bounds-same-count-in-loop-i
slice_bounds-same-count-in-loop-i c =
    let k = c.requires.4 in
    let o = c.loop-i in
    let z = c.loop-i-test.true in
    omega (arith, name_ordered k o.i z o.invariant.most, name_within k o.i z o.invariant.most)

pub slice_bounds-same-start-in-loop-i : goal.slice_bounds-same-start-in-loop-i
slice_bounds-same-start-in-loop-i c =
    let k = c.requires.4 in
    let o = c.loop-i in
    let z = c.loop-i-test.true in
    omega (arith, name_ordered k o.i z o.invariant.most, name_within k o.i z o.invariant.most)

pub slice_bounds-same-end-in-loop-i : goal.slice_bounds-same-end-in-loop-i
slice_bounds-same-end-in-loop-i c =
    let k = c.requires.4 in
    let o = c.loop-i in
    let z = c.loop-i-test.true in
    omega (arith, name_ordered k o.i z o.invariant.most, name_within k o.i z o.invariant.most)

pub returns-then-same : goal.returns-then-same
returns-then-same c =
    let s = c.args in
    let o = c.loop-i in
    let t : List ℕ = take (s.to - s.from) (drop s.from s.text.now) in
    let d = compared s.text.now s.names.now t o.i c.from-a.result c.from-z.result c.same.result c.from-a.ensures c.from-z.ensures c.same.ensures in
    sym (walk_found t s.h o.i c.loop-i-test.true o.invariant (d ∙ c.if-same.true))

pub loop-i-smaller : goal.loop-i-smaller
loop-i-smaller c =
    let s = c.args in
    let p = c.requires in
    let o = c.loop-i in
    let t : List ℕ = take (s.to - s.from) (drop s.from s.text.now) in
    omega (arith, link_less p.4 t s.h (sym p.2) o.i c.loop-i-test.true o.invariant)

pub loop-i-preserved : goal.loop-i-preserved
loop-i-preserved c =
    let s = c.args in
    let p = c.requires in
    let o = c.loop-i in
    let t : List ℕ = take (s.to - s.from) (drop s.from s.text.now) in
    let d = compared s.text.now s.names.now t o.i c.from-a.result c.from-z.result c.same.result c.from-a.ensures c.from-z.ensures c.same.ensures in
    walk_on p.4 t s.h (sym p.2) o.i c.from-i-in-loop-i.result c.loop-i-test.true c.from-i-in-loop-i.ensures o.invariant (d ∙ c.if-same.false)
