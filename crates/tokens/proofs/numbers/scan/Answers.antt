-- Digits only, and their value.
use mathlib.Core.Path.{sym, ◌∙◌}
use Rattle.texts.proofs.Scan.{scan_true, scan_false}
use Rattle.tokens.proofs.numbers.scan.Goals as goal

pub returns-then-all_in : goal.returns-then-all_in
returns-then-all_in c = c.value.ensures ∙ sym (scan_true c.args.base c.args.t.now (sym c.all_in.ensures ∙ c.if-all_in.true))

pub returns-else-all_in : goal.returns-else-all_in
returns-else-all_in c = sym (scan_false c.args.base c.args.t.now (sym c.all_in.ensures ∙ c.if-all_in.false))
