use Rattle.std.proofs.Common.{ℕ, ◌%◌, ◌^◌, ◌∙◌, ap₂}
use Rattle.words.specs.Op.{op_of}
use Rattle.words.proofs.Bounds.{masked}
use Rattle.instructions.proofs.circ_word.Goals as goal

pub returns : goal.returns
returns c = c.low.ensures.0 ∙ ap₂ (λ (p n : ℕ). p % 2 ^ n) c.prog_word.ensures c.requires.6
    ∙ masked c.args.u c.args.v c.args.a c.args.b c.args.c c.requires.1 c.requires.3 c.requires.4 c.requires.5 c.ranges.b.fits (op_of c.args.kind) c.requires.2
