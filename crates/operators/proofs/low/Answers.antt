use Rattle.std.proofs.Common.{ℕ, ◌^◌, ◌<◌, sym, subst, mod-lt, pow_pos}
use Rattle.words.proofs.Words.{and_ones}
use Rattle.operators.proofs.low.Goals as goal

pub returns : goal.returns
returns c =
    let e = and_ones c.args.w c.args.x c.mask.result c.mask.ensures in
    (e, subst (λ (n : ℕ). n < 2 ^ c.args.w) (sym e) (mod-lt c.args.x (pow_pos c.args.w)))
