use Rattle.std.proofs.Common.{ℕ, ◌%◌, ◌^◌, ap, ◌∙◌, arith, ℤ, of_z, w64}
use Rattle.std.proofs.Math.Facts.{to_z-of_z}
use Rattle.words.proofs.Signed.{word_law}
use Rattle.operators.proofs.from_signed.Goals as goal

pub returns : goal.returns
returns c =
    let f = c.ranges.z.sfits in
    c.low.ensures.0 ∙ ap (λ (n : ℕ). n % 2 ^ c.args.w) c.cast_unsigned.ensures ∙ ap (λ (z : ℤ). of_z w64 z % 2 ^ c.args.w) (to_z-of_z c.ranges.z)
    ∙ word_law c.args.w c.requires c.args.z (omega arith)
