use Rattle.std.proofs.Common.{ℕ, ◌%◌, ◌∙◌, ap₂}
use Rattle.words.specs.Word.{rotl}
use Rattle.words.proofs.Shift.{amount, rotl_law}
use Rattle.operators.proofs.rol.Goals as goal

pub returns-else-r-eq0 : goal.returns-else-r-eq0
returns-else-r-eq0 c =
    let y = c.low in
    let w = c.args.w in
    rotl_law w c.low-x.result (y.result % w) c.low-else-r-eq0.result c.requires c.low-x.ensures.1 (amount w y.result c.requires) c.low-else-r-eq0.ensures.0
    ∙ ap₂ (λ (p q : ℕ). rotl w p (q % w)) c.low-x.ensures.0 y.ensures.0
