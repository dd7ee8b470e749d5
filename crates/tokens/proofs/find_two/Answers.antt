use Prim.Native.Nat.{ℕ, ◌+◌}
use native.Mathlib.Omega.{arith}
use mathlib.Core.Path.{◌≡◌, ap}
use mathlib.Core.List.{List}
use lib.ListN.{length, drop}
use Rattle.texts.specs.Split.{up_to}
use Rattle.texts.proofs.Scan.{up_to_hit, up_to_miss, up_to_end}
use Rattle.tokens.proofs.find_two.Goals as goal

pub returns-then-s-eq0 : goal.returns-then-s-eq0
returns-then-s-eq0 c = (omega arith, (c.requires, omega (arith, ap length (up_to_end c.args.b c.args.s.now c.args.i (omega arith)))))

pub returns-then-s-j : goal.returns-then-s-j
returns-then-s-j c = (omega arith, (omega arith, omega (arith, c.loop-j.invariant.1.1, ap length (up_to_hit c.args.b c.args.s.now c.loop-j.j (omega arith) c.if-s-j.true))))

pub returns-then-s-j-2 : goal.returns-then-s-j-2
returns-then-s-j-2 c =
    let s : List ℕ = c.args.s.now in
    let b : ℕ = c.args.b in
    let j : ℕ = c.loop-j.j in
    let first = ap length (up_to_miss b s j (omega arith) c.if-s-j.false) in
    (omega arith, (omega arith, omega (arith, c.loop-j.invariant.1.1, first, ap length (up_to_hit b s (j + 1) (omega arith) c.if-s-j-2.true))))

pub loop-j-preserved : goal.loop-j-preserved
loop-j-preserved c =
    let s : List ℕ = c.args.s.now in
    let b : ℕ = c.args.b in
    let j : ℕ = c.loop-j.j in
    let first = ap length (up_to_miss b s j (omega arith) c.if-s-j.false) in
    let second = ap length (up_to_miss b s (j + 1) (omega arith) c.if-s-j-2.false) in
    let two : j + 1 + 1 ≡ j + 2 = omega arith in
    (omega arith, (omega arith, omega (arith, c.loop-j.invariant.1.1, first, second, ap (λ (k : ℕ). length (up_to b (drop k s))) two)))
