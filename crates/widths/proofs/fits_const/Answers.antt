use native.Mathlib.Nat.{lt_of_lt_of_le}
use lib.Pow.{pow_pos, pow_mono}
use borrow.Author.Tests.{lt-ltb, le-leb}
use Rattle.tables.proofs.Laws.{shifted_out}
use mathlib.Core.Path.{sym, ◌∙◌}
use Rattle.widths.proofs.fits_const.Goals as goal

pub returns-then-w-ge64 : goal.returns-then-w-ge64
returns-then-w-ge64 c = le-leb _ _ c.if-w-ge64.true ∙ sym (lt-ltb c.args.v _ (lt_of_lt_of_le c.ranges.v.fits (pow_mono c.if-w-ge64.true)))

pub returns-else-w-ge64 : goal.returns-else-w-ge64
returns-else-w-ge64 c = shifted_out c.args.v _ (pow_pos c.args.w)
