-- One token, or another number of them.
use Prim.Native.Nat.{ℕ, ◌-◌}
use native.Mathlib.Omega.{arith}
use mathlib.Core.Path.{sym, ap, ◌∙◌}
use mathlib.Core.List.{List, ◌∷◌}
use lib.ListN.{take, drop}
use Rattle.texts.specs.Names.{only}
use Rattle.texts.proofs.Places.{no_token, next_token}
use Rattle.texts.proofs.Named.{only_more}
use Rattle.texts.proofs.Ends.{token_end}
use borrow.Author.Rules.{rules}
use Rattle.naming.proofs.only.Goals as goal

pub returns-then-a-l : goal.returns-then-a-l
returns-then-a-l c = (search rules, (search rules, (sym (ap only (sym c.skip-a.ensures.1.1.0 ∙ no_token c.args.l.now c.skip-a.result (omega arith))), λ h. absurd (omega arith))))

pub returns-then-b-l : goal.returns-then-b-l
returns-then-b-l c = (search rules, (search rules, (sym (ap only ((sym c.skip-a.ensures.1.1.0 ∙ next_token c.args.l.now c.skip-a.result c.find_byte-z.result (omega arith) (c.skip-a.ensures.1.1.1 (omega arith)) c.find_byte-z.ensures.1.1) ∙ ap (λ (ts : List (List ℕ)). take (c.find_byte-z.result - c.skip-a.result) (drop c.skip-a.result c.args.l.now) ∷ ts) (sym c.skip-b.ensures.1.1.0 ∙ no_token c.args.l.now c.skip-b.result (omega arith)))), λ h. token_end c.args.l.now c.skip-a.result c.find_byte-z.result (omega arith) (c.skip-a.ensures.1.1.1 (omega arith)) c.find_byte-z.ensures.1.1 (sym c.skip-b.ensures.1.1.0 ∙ no_token c.args.l.now c.skip-b.result (omega arith)))))

pub returns : goal.returns
returns c = (search rules, (search rules, (sym (ap only ((sym c.skip-a.ensures.1.1.0 ∙ next_token c.args.l.now c.skip-a.result c.find_byte-z.result (omega arith) (c.skip-a.ensures.1.1.1 (omega arith)) c.find_byte-z.ensures.1.1) ∙ ap (λ (ts : List (List ℕ)). take (c.find_byte-z.result - c.skip-a.result) (drop c.skip-a.result c.args.l.now) ∷ ts) (sym c.skip-b.ensures.1.1.0)) ∙ only_more c.args.l.now c.skip-b.result (take (c.find_byte-z.result - c.skip-a.result) (drop c.skip-a.result c.args.l.now)) (omega arith) (c.skip-b.ensures.1.1.1 (omega arith))), λ h. absurd (omega arith))))
