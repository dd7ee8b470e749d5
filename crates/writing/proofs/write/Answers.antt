-- Zero first, then the check, then the lines.
use Prim.Native.Nat.{ℕ}
use native.Mathlib.Omega.{arith}
use mathlib.Core.Path.{sym, ap, ◌∙◌}
use mathlib.Core.List.{List}
use lib.ListN.{length, replicate}
use lib.Seq.{sets}
use mathlib.Core.Bool.{false}
use Rattle.tables.specs.Layout.{records_of}
use Rattle.texts.specs.Writing.{write_text}
use Rattle.std.proofs.lemmas.Result.{err_from_is_err_and}
use Rattle.texts.proofs.Round.{held}
use Rattle.texts.proofs.Printed.{out_not, out_short, out_written}
use Rattle.writing.proofs.write.Goals as goal

pub put_lines-n-requires : goal.put_lines-n-requires
put_lines-n-requires c = let h = held c.args.table.now c.args.count (sym c.accept.ensures ∙ c.in_ok-accept.was) in (h.fits, h.law)

pub returns-then-text-n : goal.returns-then-text-n
returns-then-text-n c =
    let s = c.args in let k = c.put_lines-n.auto.out ∙ c.clear.auto.xs in
    out_short s.table.now s.count (length s.text.now) c.accept.ensures c.in_ok-accept.was (omega (arith, k, c.if-text-n.true, c.put_lines-n.ensures.0)) (c.clear-then-text-n.ensures ∙ ap (λ (n : ℕ). replicate {A = ℕ} n 0) k)

pub returns-in_err-accept : goal.returns-in_err-accept
returns-in_err-accept c =
    let s = c.args in
    let p = err_from_is_err_and c.from_residual.result c.from_residual.ensures.1 in
    rw (p.1, p.2) (out_not s.table.now s.count (length s.text.now) c.accept.ensures c.in_err-accept.was c.clear.ensures)

pub returns : goal.returns
returns c =
    let s = c.args in let k = c.put_lines-n.auto.out ∙ c.clear.auto.xs in
    out_written s.table.now s.count (length s.text.now) c.put_lines-n.result c.accept.ensures c.in_ok-accept.was c.put_lines-n.ensures.0 (omega (arith, k, c.if-text-n.false)) (c.put_lines-n.ensures.1 ∙ ap (λ (x : List ℕ). sets x 0 (write_text (records_of false s.table.now s.count))) c.clear.ensures)
