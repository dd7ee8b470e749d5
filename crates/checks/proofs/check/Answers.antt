use Rattle.std.specs.Prelude.{Err}
use mathlib.Core.Path.{sym, ap, ◌∙◌, subst}
use Prim.Native.Nat.{ℕ, ◌<◌, ◌≤◌}
use lib.ListN.{length}
use borrow.Author.Tests.{not-true, not-false}
use Rattle.tables.proofs.Checking.{no_table, too_many, ids_wrong, unlawful, is_lawful, not_accepted, roomy, shows_none}
use Rattle.checks.proofs.check.Goals as goal

pub returns-then-not-is_table : goal.returns-then-not-is_table
returns-then-not-is_table c =
    let s = c.args in
    (no_table s.program s.table.now s.count (sym c.is_table.ensures ∙ not-true _ c.if-not-is_table.true-raw), λ e. absurd (not_accepted _ e))

pub returns-then-room_of-count : goal.returns-then-room_of-count
returns-then-room_of-count c =
    let s = c.args in
    let whole = sym c.is_table.ensures ∙ not-false _ c.if-not-is_table.false-raw in
    let more = subst (λ (m : ℕ). m < s.count) c.room_of.ensures c.if-room_of-count.true in
    (ap Err c.broken.ensures ∙ too_many s.program s.table.now s.count whole more, λ e. absurd (not_accepted _ e))

pub returns-then-not-ids_right : goal.returns-then-not-ids_right
returns-then-not-ids_right c =
    let s = c.args in
    let whole = sym c.is_table.ensures ∙ not-false _ c.if-not-is_table.false-raw in
    let few = subst (λ (m : ℕ). s.count ≤ m) c.room_of.ensures c.if-room_of-count.false in
    let wrong = sym (not-true _ c.if-not-ids_right.true-raw) ∙ c.ids_right.ensures in
    (ap Err c.broken-then-not-ids_right.ensures ∙ ids_wrong s.program s.table.now s.count whole few wrong, λ e. absurd (not_accepted _ e))

pub lines-requires : goal.lines-requires
lines-requires c =
    let s = c.args in
    let few = subst (λ (m : ℕ). s.count ≤ m) c.room_of.ensures c.if-room_of-count.false in
    let h = roomy s.program (length s.table.now) s.count few in
    (c.all-kinds.ensures, (h.0, (h.1, (c.requires.enough h.0, shows_none c.requires))))

pub returns-then-not-lines : goal.returns-then-not-lines
returns-then-not-lines c =
    let s = c.args in
    let whole = sym c.is_table.ensures ∙ not-false _ c.if-not-is_table.false-raw in
    let few = subst (λ (m : ℕ). s.count ≤ m) c.room_of.ensures c.if-room_of-count.false in
    let wrong = sym (not-true _ c.if-not-lines.true-raw) ∙ c.lines.ensures.0 in
    (ap Err c.broken-then-not-lines.ensures ∙ unlawful s.program s.table.now s.count whole few wrong, λ e. absurd (not_accepted _ e))

pub returns : goal.returns
returns c =
    let s = c.args in
    let whole = sym c.is_table.ensures ∙ not-false _ c.if-not-is_table.false-raw in
    let few = subst (λ (m : ℕ). s.count ≤ m) c.room_of.ensures c.if-room_of-count.false in
    let ids = sym (not-false _ c.if-not-ids_right.false-raw) ∙ c.ids_right.ensures in
    let yes = not-false _ c.if-not-lines.false-raw in
    (is_lawful s.program s.table.now s.count whole few (sym yes ∙ c.lines.ensures.0) ids, λ e. c.lines.ensures.1 yes)
