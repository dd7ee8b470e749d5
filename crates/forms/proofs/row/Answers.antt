-- The row of a form.
use mathlib.Core.Path.{sym, ap, ◌∙◌}
use Prim.Native.Nat.{ℕ, ◌-◌}
use mathlib.Core.List.{List, []}
use lib.ListN.{get_or}
use Rattle.texts.proofs.Words.{row_kind, row_extra}
use Rattle.forms.proofs.row.Goals as goal

pub returns-then-f-gt63 : goal.returns-then-f-gt63
returns-then-f-gt63 c = ap (λ (t : List (List ℕ)). get_or t (c.args.f - 64) []) c.others-t.ensures ∙ sym (row_extra c.args.f c.if-f-gt63.true)

pub returns : goal.returns
returns c = c.row_of.ensures ∙ sym (row_kind c.args.f c.if-f-gt63.false)
