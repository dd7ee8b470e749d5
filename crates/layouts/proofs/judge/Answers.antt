-- The answers one after the other.
use Rattle.std.specs.Prelude.{Err}
use Prim.Native.Nat.{ℕ, ◌<◌, ◌≤◌}
use mathlib.Core.Path.{sym, ap, ◌∙◌, subst}
use borrow.Author.Tests.{not-true, not-false}
use Rattle.layouts.proofs.Answers.{no_list, no_target, too_many, too_small, done}
use Rattle.layouts.proofs.judge.Goals as goal

pub returns-then-not-is_table : goal.returns-then-not-is_table
returns-then-not-is_table c = let s = c.args in no_list s.program s.words s.count s.len (sym c.is_table.ensures ∙ not-true _ c.if-not-is_table.true-raw)

pub returns-then-not-is_table-2 : goal.returns-then-not-is_table-2
returns-then-not-is_table-2 c =
    let s = c.args in
    let list = sym c.is_table.ensures ∙ not-false _ c.if-not-is_table.false-raw in
    no_target s.program s.words s.count s.len list (sym c.is_table-2.ensures ∙ not-true _ c.if-not-is_table-2.true-raw)

pub returns-then-room_of-count : goal.returns-then-room_of-count
returns-then-room_of-count c =
    let s = c.args in
    let list = sym c.is_table.ensures ∙ not-false _ c.if-not-is_table.false-raw in
    let target = sym c.is_table-2.ensures ∙ not-false _ c.if-not-is_table-2.false-raw in
    let more = subst (λ (m : ℕ). m < s.count) c.room_of.ensures c.if-room_of-count.true in
    ap Err c.broken.ensures ∙ too_many s.program s.words s.count s.len list target more

pub returns-then-room_of-count-2 : goal.returns-then-room_of-count-2
returns-then-room_of-count-2 c =
    let s = c.args in
    let list = sym c.is_table.ensures ∙ not-false _ c.if-not-is_table.false-raw in
    let target = sym c.is_table-2.ensures ∙ not-false _ c.if-not-is_table-2.false-raw in
    let few = subst (λ (m : ℕ). s.count ≤ m) c.room_of.ensures c.if-room_of-count.false in
    too_small s.program s.words s.count s.len list target few (subst (λ (m : ℕ). m < s.count) c.room_of-2.ensures c.if-room_of-count-2.true)

pub returns : goal.returns
returns c =
    let s = c.args in
    let list = sym c.is_table.ensures ∙ not-false _ c.if-not-is_table.false-raw in
    let target = sym c.is_table-2.ensures ∙ not-false _ c.if-not-is_table-2.false-raw in
    let few = subst (λ (m : ℕ). s.count ≤ m) c.room_of.ensures c.if-room_of-count.false in
    done s.program s.words s.count s.len list target few (subst (λ (m : ℕ). s.count ≤ m) c.room_of-2.ensures c.if-room_of-count-2.false)
