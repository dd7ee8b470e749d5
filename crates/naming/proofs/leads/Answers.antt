use native.Mathlib.Omega.{arith}
use mathlib.Core.Path.{sym, ap, ◌∙◌}
use lib.ListN.{length}
use borrow.Author.Tests.{le-ltb}
use Rattle.texts.specs.Naming.{leads}
use Rattle.texts.proofs.Places.{no_token, next_token}
use Rattle.naming.proofs.leads.Goals as goal

pub returns-then-a-l : goal.returns-then-a-l
returns-then-a-l c = c.is_id.ensures ∙ sym (ap (leads c.args.n) (sym c.skip-a.ensures.1.1.0 ∙ next_token c.args.l.now c.skip-a.result c.find_byte.result (omega arith) (c.skip-a.ensures.1.1.1 (omega arith)) c.find_byte.ensures.1.1))

pub returns-else-a-l : goal.returns-else-a-l
returns-else-a-l c = le-ltb c.skip-a.result (length c.args.l.now) c.if-a-l.false ∙ sym (ap (leads c.args.n) (sym c.skip-a.ensures.1.1.0 ∙ no_token c.args.l.now c.skip-a.result (omega arith)))
