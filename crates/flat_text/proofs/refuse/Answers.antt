-- Zeros first, then the line; zeros again where it has no room.
use Prim.Native.Nat.{ℕ}
use native.Mathlib.Omega.{arith}
use mathlib.Core.Path.{ap, ap₂, ◌∙◌}
use mathlib.Core.List.{List}
use lib.ListN.{length}
use lib.Seq.{sets}
use Rattle.tables.specs.Refusals.{number_of}
use Rattle.flat_text.specs.Printing.{refusal_line}
use Rattle.flat_text.proofs.Outputs.{refusal_held}
use Rattle.flat_text.proofs.refuse.Goals as goal

pub returns : goal.returns
returns c =
    let s = c.args in
    let z = c.put_refusal-n in
    let k = z.auto.out ∙ c.clear.auto.xs in
    let q = c.from.ensures in
    let e = z.ensures.0 ∙ ap (λ (n : ℕ). length (refusal_line n s.line)) q in
    refusal_held (length s.out.now) (number_of s.r) s.line e (omega (arith, k, c.if-out-n.false)) (z.ensures.1 ∙ ap₂ (λ (x : List ℕ) (n : ℕ). sets x 0 (refusal_line n s.line)) c.clear.ensures q)
