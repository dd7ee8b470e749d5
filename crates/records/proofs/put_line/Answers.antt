-- Beside the five words that are put, the id, which is a sixth word.
use borrow.Author.Rules.{rules}
use Prim.Native.Nat.{ℕ, ◌+◌, ◌*◌}
use mathlib.Core.Path.{◌≡◌, ap, ◌∙◌}
use mathlib.Core.Bool.{false}
use mathlib.Core.List.{List}
use native.Mathlib.Omega.{arith}
use lib.ListN.{length, set}
use Rattle.tables.specs.Layout.{held, step_of, with_id, recorded}
use Rattle.tables.proofs.Places.{length_recorded}
use Rattle.tables.proofs.Spread.{set_more}
use Rattle.records.proofs.put_line.Goals as goal

with_sixth : (t r : List ℕ) (h i d : ℕ) → h ≡ step_of false (length t) → length r ≡ 5 → set (recorded false t i r) (5 * h + i) d ≡ recorded false t i (with_id r d)
with_sixth t r h i d e l =
    let place : ℕ → ℕ = λ (k : ℕ). held false (length t) * k + i in
    let q : 5 * h + i ≡ place (0 + length r) = rw l (omega (arith, e)) in
    ap (λ (n : ℕ). set (recorded false t i r) n d) q ∙ set_more place t 0 r d

pub returns : goal.returns
returns c =
    let a = c.args in
    let q = c.put.ensures in
    let h = c.step-h.result in
    let e = c.step-h.ensures ∙ ap (λ (t : List ℕ). step_of false (length t)) q ∙ ap (step_of false) (length_recorded false a.table.now a.i a.rec) in
    ap (λ (t : List ℕ). set t (5 * h + a.i) a.id) q ∙ with_sixth a.table.now a.rec h a.i a.id e (search rules)
