-- The pass starts from what the check has noted.
use mathlib.Core.Path.{sym, ◌∙◌}
use Rattle.std.proofs.lemmas.Result.{err_from_is_err_and}
use Rattle.flattening.proofs.Refusing.{refused, begin}
use Rattle.flatten.proofs.checked.Goals as goal

pub all_lines-requires : goal.all_lines-requires
all_lines-requires c = begin c.args.table.now c.args.count c.requires (sym c.in_ok-check.was ∙ c.check.ensures.0) (c.check.ensures.1 c.in_ok-check.was)

pub returns-in_err-check : goal.returns-in_err-check
returns-in_err-check c =
    let p = err_from_is_err_and c.from_residual.result c.from_residual.ensures.1 in
    rw (p.1, p.2) (refused c.args.table.now c.args.count c.requires.clear _ (sym c.in_err-check.was ∙ c.check.ensures.0))
