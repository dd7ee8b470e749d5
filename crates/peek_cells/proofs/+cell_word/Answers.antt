-- The measure of both is the line's number, which falls at each call.
use Prim.Native.Nat.{ℕ, ◌≤◌, ◌<◌}
use mathlib.Core.Path.{subst, ◌∙◌}
use lib.Dec.{eqb}
use lib.ListN.{get_or}
use Rattle.tables.specs.Layout.{lines_of}
use Rattle.peeks.specs.Peek.{step_zero}
use mathlib.Core.Bool.{false}
use native.Mathlib.Omega.{arith}
use Rattle.peeks.proofs.Peeking.{word_kept_lem, cell_through, cell_through_word, not_none, number, word_most, start_asks, start_is, init_is, word_first, first_equality, first_word, second_word, read_through, cell_first, cell_word_lem, cell_start, ite_through, write_hit, write_miss}
use Rattle.peeks.proofs.Valued.{value_asks, value_is}
use Rattle.peeks.proofs.Compared.{Compared, left_cell, right_cell, alike_more, alike_broken, alike_all}
use Rattle.peek_cells.proofs.+cell_word.Goals as goal
use Rattle.peek_cells.proofs.+cell_word.Goals.{word-then-loop-k-test+then-x-cell, word-else-loop-k-test}

pub cell-overflow_sub-n : goal.cell-overflow_sub-n
cell-overflow_sub-n t c = let a = c.args in let p = c.requires in let lk = p.looks in let ln = p.line in omega (arith, (number lk a.n ln.array.value).least)

pub cell-record-rec-requires : goal.cell-record-rec-requires
cell-record-rec-requires t c = let a = c.args in let p = c.requires in let lk = p.looks in let ln = p.line in (number lk a.n ln.array.value).here

pub cell-offset_bounds-circuit-n : goal.cell-offset_bounds-circuit-n
cell-offset_bounds-circuit-n t c = let a = c.args in let p = c.requires in let lk = p.looks in let ln = p.line in omega (arith, (number lk a.n ln.array.value).most)

pub cell-bounds-circuit-n : goal.cell-bounds-circuit-n
cell-bounds-circuit-n t c = let a = c.args in let p = c.requires in let lk = p.looks in let ln = p.line in omega (arith, (number lk a.n ln.array.value).most, lk.many)

pub cell-start_word-requires : goal.cell-start_word-requires
cell-start_word-requires t c = let a = c.args in let p = c.requires in let lk = p.looks in let ln = p.line in let er = c.record-rec.ensures in let f = c.first-a.ensures in start_asks lk a.n a.k ln.array.value ln.inside er f (cell_start lk ln er f c.if-a-eq0.true) c.if-a-eq0.true

pub cell-returns-then-a-eq0 : goal.cell-returns-then-a-eq0
cell-returns-then-a-eq0 t c = let a = c.args in let p = c.requires in let lk = p.looks in let ln = p.line in let er = c.record-rec.ensures in let f = c.first-a.ensures in record { is = c.start_word.ensures ∙ start_is lk a.n a.k ln.array.value ln.inside er f (cell_start lk ln er f c.if-a-eq0.true) c.if-a-eq0.true; kept = p.kept }

pub cell-word-x-requires : goal.cell-word-x-requires
cell-word-x-requires t c = let a = c.args in let p = c.requires in let lk = p.looks in let ln = p.line in let er = c.record-rec.ensures in let f = c.first-a.ensures in (omega (arith, (cell_first lk ln er f).below), record { looks = lk; line = cell_word_lem lk ln er f; kept = p.kept })

pub cell-returns-then-rec-eq5 : goal.cell-returns-then-rec-eq5
cell-returns-then-rec-eq5 t c = let a = c.args in let p = c.requires in let lk = p.looks in let ln = p.line in let er = c.record-rec.ensures in let f = c.first-a.ensures in let ex = c.word-x.ensures.is in record { is = ex ∙ init_is lk a.n a.k ln.array.value ln.inside er f c.if-rec-eq5.true c.if-a-eq0.false; kept = c.word-x.ensures.kept }

pub cell-cell-requires : goal.cell-cell-requires
cell-cell-requires t c = let a = c.args in let p = c.requires in let lk = p.looks in let ln = p.line in let er = c.record-rec.ensures in let f = c.first-a.ensures in let ex = c.word-x.ensures.is in let g = c.second-b.ensures in let q = ite_through lk ln er f ex g c.if-rec-eq53.true in (omega (arith, q.below), record { looks = lk; line = q.line; kept = c.word-x.ensures.kept })

pub cell-returns-then-rec-eq53 : goal.cell-returns-then-rec-eq53
cell-returns-then-rec-eq53 t c = let a = c.args in let p = c.requires in let lk = p.looks in let ln = p.line in let er = c.record-rec.ensures in let f = c.first-a.ensures in let ex = c.word-x.ensures.is in let g = c.second-b.ensures in let q = ite_through lk ln er f ex g c.if-rec-eq53.true in cell_through q c.cell.ensures

pub cell-word-requires : goal.cell-word-requires
cell-word-requires t c = let a = c.args in let p = c.requires in let lk = p.looks in let ln = p.line in let er = c.record-rec.ensures in let f = c.first-a.ensures in let ex = c.word-x.ensures.is in let g = c.second-b.ensures in let q = write_hit lk ln er f ex g c.if-rec-eq5.false c.if-rec-eq53.false c.if-i-k.true in (omega (arith, q.below), record { looks = lk; line = λ h. q.line; kept = c.word-x.ensures.kept })

pub cell-returns-then-i-k : goal.cell-returns-then-i-k
cell-returns-then-i-k t c = let a = c.args in let p = c.requires in let lk = p.looks in let ln = p.line in let er = c.record-rec.ensures in let f = c.first-a.ensures in let ex = c.word-x.ensures.is in let g = c.second-b.ensures in let q = write_hit lk ln er f ex g c.if-rec-eq5.false c.if-rec-eq53.false c.if-i-k.true in cell_through_word q c.word.ensures

pub cell-cell-requires-2 : goal.cell-cell-requires-2
cell-cell-requires-2 t c = let a = c.args in let p = c.requires in let lk = p.looks in let ln = p.line in let er = c.record-rec.ensures in let f = c.first-a.ensures in let ex = c.word-x.ensures.is in let g = c.second-b.ensures in let q = write_miss lk ln er f ex g c.if-rec-eq5.false c.if-rec-eq53.false c.if-i-k.false in (omega (arith, q.below), record { looks = lk; line = q.line; kept = c.word-x.ensures.kept })

pub cell-returns : goal.cell-returns
cell-returns t c = let a = c.args in let p = c.requires in let lk = p.looks in let ln = p.line in let er = c.record-rec.ensures in let f = c.first-a.ensures in let ex = c.word-x.ensures.is in let g = c.second-b.ensures in let q = write_miss lk ln er f ex g c.if-rec-eq5.false c.if-rec-eq53.false c.if-i-k.false in cell_through q c.cell-2.ensures

pub word-offset_bounds-kept-n : goal.word-offset_bounds-kept-n
word-offset_bounds-kept-n t c = let a = c.args in let p = c.requires in let lk = p.looks in omega (arith, word_most lk a.n p.line)

pub word-bounds : goal.word-bounds
word-bounds t c = let a = c.args in let p = c.requires in let lk = p.looks in omega (arith, word_most lk a.n p.line)

pub word-record-rec-requires : goal.word-record-rec-requires
word-record-rec-requires t c = let a = c.args in let p = c.requires in let lk = p.looks in let ln = p.line (not_none a.n p.kept c.in_default.not-Some) in (number lk a.n ln.value).here

pub word-offset_bounds-circuit-n : goal.word-offset_bounds-circuit-n
word-offset_bounds-circuit-n t c = let a = c.args in let p = c.requires in let lk = p.looks in omega (arith, word_most lk a.n p.line)

pub word-bounds-circuit-n : goal.word-bounds-circuit-n
word-bounds-circuit-n t c = let a = c.args in let p = c.requires in let lk = p.looks in omega (arith, word_most lk a.n p.line, lk.many)

pub word-cells-m-requires : goal.word-cells-m-requires
word-cells-m-requires t c = let a = c.args in let p = c.requires in let lk = p.looks in let ln = p.line (not_none a.n p.kept c.in_default.not-Some) in let er = c.record-rec.ensures in let f = c.first-a.ensures in omega (arith, (word_first lk ln er f).below, (number lk a.n ln.value).most)

pub word-cell-x-requires : goal.word-cell-x-requires
word-cell-x-requires t c = let a = c.args in let p = c.requires in let lk = p.looks in let ln = p.line (not_none a.n p.kept c.in_default.not-Some) in let er = c.record-rec.ensures in let f = c.first-a.ensures in let em = c.cells-m.ensures in let o = c.if-m-gt1.true in let q = first_equality lk ln er f (subst (λ (x : ℕ). 1 < x) em o) in let h = c.loop-k-test.true in (omega (arith, q.left.below), record { looks = lk; line = left_cell lk q em o h; kept = c.loop-k.invariant.1.kept })

pub word-cell-requires : goal.word-cell-requires
word-cell-requires t c = let a = c.args in let p = c.requires in let lk = p.looks in let ln = p.line (not_none a.n p.kept c.in_default.not-Some) in let er = c.record-rec.ensures in let f = c.first-a.ensures in let em = c.cells-m.ensures in let o = c.if-m-gt1.true in let q = first_equality lk ln er f (subst (λ (x : ℕ). 1 < x) em o) in let h = c.loop-k-test.true in (omega (arith, q.right.below), record { looks = lk; line = right_cell lk q em o h; kept = c.cell-x.ensures.kept })

pub word-loop-k-preserved : goal.word-loop-k-preserved
word-loop-k-preserved t c = let a = c.args in let p = c.requires in let lk = p.looks in let ln = p.line (not_none a.n p.kept c.in_default.not-Some) in let er = c.record-rec.ensures in let f = c.first-a.ensures in let em = c.cells-m.ensures in let o = c.if-m-gt1.true in let q = first_equality lk ln er f (subst (λ (x : ℕ). 1 < x) em o) in let h = c.loop-k-test.true in (c.loop-k.invariant.0, alike_more lk q em h c.loop-k.invariant.1 c.cell.ensures.kept c.cell-x.ensures.is c.cell.ensures.is c.if-x-cell.false)

pub word-keep-requires : goal.word-keep-requires
word-keep-requires t c = let a = c.args in let p = c.requires in let lk = p.looks in word_most lk a.n p.line

pub word-returns-then-m-gt1 : goal.word-returns-then-m-gt1
word-returns-then-m-gt1 t c = let a = c.args in let p = c.requires in let lk = p.looks in let ln = p.line (not_none a.n p.kept c.in_default.not-Some) in let er = c.record-rec.ensures in let f = c.first-a.ensures in let em = c.cells-m.ensures in let o = c.if-m-gt1.true in let q = first_equality lk ln er f (subst (λ (x : ℕ). 1 < x) em o) in let v : Compared (step_zero (lines_of false a.circuit.now.table.now a.circuit.now.count) a.circuit.now.starts.now a.circuit.now.row.now) a.n (eqb (get_or c.record-rec.result 0 0) 21) c.loop-k-test.kept c.loop-k-test.same = elim c.loop-k-test.branch [ word-else-loop-k-test w ↦ alike_all lk q em w.kept-is (w.same-is ∙ c.loop-k.invariant.0) w.loop-k-test.false c.loop-k.invariant.1 | word-then-loop-k-test+then-x-cell w ↦ alike_broken lk q em w.kept-is w.same-is w.loop-k-test.true c.loop-k.invariant.1 w.cell.ensures.kept w.cell-x.ensures.is w.cell.ensures.is w.if-x-cell.true ] in word_kept_lem (word_most lk a.n p.line) v.kept (c.says-v.ensures ∙ v.is) c.keep.ensures

pub word-word-x-requires : goal.word-word-x-requires
word-word-x-requires t c = let a = c.args in let p = c.requires in let lk = p.looks in let ln = p.line (not_none a.n p.kept c.in_default.not-Some) in let er = c.record-rec.ensures in let f = c.first-a.ensures in let one = subst (λ (x : ℕ). x ≤ 1) c.cells-m.ensures c.if-m-gt1.false in (omega (arith, (word_first lk ln er f).below), record { looks = lk; line = first_word lk ln er f one; kept = p.kept })

pub word-cell-v-requires : goal.word-cell-v-requires
word-cell-v-requires t c = let a = c.args in let p = c.requires in let lk = p.looks in let ln = p.line (not_none a.n p.kept c.in_default.not-Some) in let er = c.record-rec.ensures in let f = c.first-a.ensures in let one = subst (λ (x : ℕ). x ≤ 1) c.cells-m.ensures c.if-m-gt1.false in let ex = c.word-x.ensures.is in let g = c.second-b.ensures in let q = read_through lk ln er f one ex g c.if-rec-eq54.true in (omega (arith, q.below), record { looks = lk; line = q.line; kept = c.word-x.ensures.kept })

pub word-keep-requires-then-rec-eq54 : goal.word-keep-requires-then-rec-eq54
word-keep-requires-then-rec-eq54 t c = let a = c.args in let p = c.requires in let lk = p.looks in word_most lk a.n p.line

pub word-returns-then-rec-eq54 : goal.word-returns-then-rec-eq54
word-returns-then-rec-eq54 t c = let a = c.args in let p = c.requires in let lk = p.looks in let ln = p.line (not_none a.n p.kept c.in_default.not-Some) in let er = c.record-rec.ensures in let f = c.first-a.ensures in let one = subst (λ (x : ℕ). x ≤ 1) c.cells-m.ensures c.if-m-gt1.false in let ex = c.word-x.ensures.is in let g = c.second-b.ensures in let q = read_through lk ln er f one ex g c.if-rec-eq54.true in let v = c.cell-v.ensures.is ∙ q.is in word_kept_lem (word_most lk a.n p.line) c.cell-v.ensures.kept v c.keep-then-rec-eq54.ensures

pub word-word-y-requires : goal.word-word-y-requires
word-word-y-requires t c = let a = c.args in let p = c.requires in let lk = p.looks in let ln = p.line (not_none a.n p.kept c.in_default.not-Some) in let er = c.record-rec.ensures in let f = c.first-a.ensures in let one = subst (λ (x : ℕ). x ≤ 1) c.cells-m.ensures c.if-m-gt1.false in let ex = c.word-x.ensures.is in let g = c.second-b.ensures in let q = second_word lk ln er f one ex g c.if-rec-eq54.false in (omega (arith, q.below), record { looks = lk; line = q.line; kept = c.word-x.ensures.kept })

pub word-value-v-requires : goal.word-value-v-requires
word-value-v-requires t c = let a = c.args in let p = c.requires in let lk = p.looks in let ln = p.line (not_none a.n p.kept c.in_default.not-Some) in let er = c.record-rec.ensures in let f = c.first-a.ensures in let one = subst (λ (x : ℕ). x ≤ 1) c.cells-m.ensures c.if-m-gt1.false in let ex = c.word-x.ensures.is in let g = c.second-b.ensures in value_asks lk ln er f one ex g c.word-y.ensures.is c.if-rec-eq54.false

pub word-keep-requires-2 : goal.word-keep-requires-2
word-keep-requires-2 t c = let a = c.args in let p = c.requires in let lk = p.looks in word_most lk a.n p.line

pub word-returns : goal.word-returns
word-returns t c = let a = c.args in let p = c.requires in let lk = p.looks in let ln = p.line (not_none a.n p.kept c.in_default.not-Some) in let er = c.record-rec.ensures in let f = c.first-a.ensures in let one = subst (λ (x : ℕ). x ≤ 1) c.cells-m.ensures c.if-m-gt1.false in let ex = c.word-x.ensures.is in let g = c.second-b.ensures in let v = value_is lk ln er f one ex g c.word-y.ensures.is c.if-rec-eq54.false c.value-v.ensures in word_kept_lem (word_most lk a.n p.line) c.word-y.ensures.kept v c.keep-2.ensures
