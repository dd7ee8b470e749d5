use Rattle.std.proofs.Common.{ℕ, ◌%◌, sym, ap, ◌∙◌}
use lib.Bits.{and_mask}
use lib.Count.{ones}
use Rattle.words.proofs.Shift.{ones_in_lem}
use Rattle.operators.proofs.redxor.Goals as goal

pub returns : goal.returns
returns c = c.from.ensures ∙ and_mask (ones c.args.a) 1 ∙ ap (λ (n : ℕ). n % 2) (sym (ones_in_lem 64 c.args.a c.ranges.a.fits))
