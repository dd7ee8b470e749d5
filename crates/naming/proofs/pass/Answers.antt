use borrow.Author.Rules.{rules}
use Prim.Native.Nat.{ℕ, ◌-◌}
use native.Mathlib.Omega.{arith}
use mathlib.Core.Path.{◌≡◌, sym, ap, ◌∙◌}
use mathlib.Core.List.{List, []}
use lib.ListN.{take, drop}
use lib.Seq.{drop-nil}
use Rattle.texts.specs.Split.{tokens}
use Rattle.texts.proofs.Places.{no_token, next_token}
use Rattle.texts.proofs.Named.{pass_more}
use Rattle.naming.proofs.pass.Goals as goal

pub returns-then-a-l : goal.returns-then-a-l
returns-then-a-l c =
    let n : tokens (drop c.skip-a.result c.args.l.now) ≡ [] = no_token c.args.l.now c.skip-a.result (omega arith) in
    let left : ℕ = c.args.m - c.loop-passed._passed in
    (search rules, n ∙ sym (c.loop-passed.invariant.1 ∙ (ap (λ (ts : List (List ℕ)). drop left ts) (sym c.skip-a.ensures.1.1.0 ∙ n) ∙ drop-nil left)))

pub loop-passed-preserved : goal.loop-passed-preserved
loop-passed-preserved c = (c.find_byte-at.ensures.1.0, c.loop-passed.invariant.1 ∙ (ap (λ (ts : List (List ℕ)). drop (c.args.m - c.loop-passed._passed) ts) (sym c.skip-a.ensures.1.1.0 ∙ next_token c.args.l.now c.skip-a.result c.find_byte-at.result (omega arith) (c.skip-a.ensures.1.1.1 (omega arith)) c.find_byte-at.ensures.1.1) ∙ pass_more c.args.m c.loop-passed._passed (take (c.find_byte-at.result - c.skip-a.result) (drop c.skip-a.result c.args.l.now)) (tokens (drop c.find_byte-at.result c.args.l.now)) c.loop-passed-test.true))
