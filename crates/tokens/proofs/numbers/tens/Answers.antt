use Prim.Native.Nat.{ℕ, ◌+◌, ◌*◌}
use native.Mathlib.Omega.{arith}
use mathlib.Core.Path.{sym, ap, ◌∙◌}
use mathlib.Core.List.{List}
use lib.ListN.{drop}
use Rattle.texts.specs.Decimal.{value_from}
use Rattle.texts.proofs.Scan.{in_more, in_not, in_end, value_more, value_end, value_small, scan_true, scan_false}
use Rattle.tokens.proofs.numbers.tens.Goals as goal

pub returns-then-d-ge10 : goal.returns-then-d-ge10
returns-then-d-ge10 c =
    let t : List ℕ = c.args.t.now in
    sym (scan_false 10 t (c.loop-b.invariant.1 ∙ in_not 10 t c.loop-b.b-index c.loop-b-test.true (omega (arith, c.digit-d.ensures))))

pub loop-b-preserved : goal.loop-b-preserved
loop-b-preserved c =
    let t : List ℕ = c.args.t.now in
    let v : ℕ = c.loop-b.v in
    let i : ℕ = c.loop-b.b-index in
    let l = c.loop-b-test.true in
    let d = c.digit-d in (
      omega arith,
      c.loop-b.invariant.1 ∙ in_more 10 t i l (omega (arith, d.ensures)),
      c.loop-b.invariant.2 ∙ (value_more 10 t i v l ∙ ap (λ (x : ℕ). value_from 10 (v * 10 + x) (drop (i + 1) t)) (sym d.ensures)),
    )

pub returns : goal.returns
returns c =
    let t : List ℕ = c.args.t.now in
    let l = c.loop-b in
    sym (scan_true 10 t (l.invariant.1 ∙ in_end 10 t l.b-index c.loop-b-test.false) ∙ value_small 10 t l.v (l.invariant.2 ∙ value_end 10 t l.b-index l.v c.loop-b-test.false) l.invariant.0)
