use Prim.Native.Nat.{ℕ, ◌+◌, ◌*◌, ◌^◌, ◌≤◌}
use native.Mathlib.Omega.{arith}
use mathlib.Core.Path.{◌≡◌, sym, ap, ◌∙◌}
use mathlib.Core.List.{List}
use lib.ListN.{drop, get_or}
use Rattle.texts.specs.Decimal.{digit, value_from}
use Rattle.texts.proofs.Scan.{value_more, value_end, value_least, value_big, value_small, room_of, over_of}
use Rattle.tokens.proofs.numbers.value.Goals as goal

pub returns-then-most-v : goal.returns-then-most-v
returns-then-most-v c =
    let s : List ℕ = c.args.t.now in
    let b : ℕ = c.args.base in
    let v : ℕ = c.loop-b.v in
    let i : ℕ = c.loop-b.b-index in
    let e : value_from b 0 s ≡ value_from b (v * b + digit (get_or s i 0)) (drop (i + 1) s) = c.loop-b.invariant.1 ∙ value_more b s i v c.loop-b-test.true in
    let o : 2 ^ 64 ≤ v * b + c.digit-d.result = over_of v c.digit-d.result b (omega arith) c.if-most-v.true in
    sym (value_big b s (omega (arith, value_least b (v * b + digit (get_or s i 0)) (drop (i + 1) s) (omega arith), c.digit-d.ensures)))

pub loop-b-preserved : goal.loop-b-preserved
loop-b-preserved c =
    let s : List ℕ = c.args.t.now in
    let b : ℕ = c.args.base in
    let v : ℕ = c.loop-b.v in
    let i : ℕ = c.loop-b.b-index in
    (omega (arith, room_of v c.digit-d.result b (omega arith) c.if-most-v.false), c.loop-b.invariant.1 ∙ (value_more b s i v c.loop-b-test.true ∙ ap (λ (d : ℕ). value_from b (v * b + d) (drop (i + 1) s)) (sym c.digit-d.ensures)))

pub returns : goal.returns
returns c = sym (value_small c.args.base c.args.t.now c.loop-b.v (c.loop-b.invariant.1 ∙ value_end c.args.base c.args.t.now c.loop-b.b-index c.loop-b.v c.loop-b-test.false) c.loop-b.invariant.0)
