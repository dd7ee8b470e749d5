use Prim.Native.Nat.{ℕ, ◌+◌, ◌-◌}
use native.Mathlib.Omega.{arith}
use mathlib.Core.Path.{◌≡◌, ap, ◌∙◌}
use lib.Dec.{eqb}
use lib.ListN.{take, drop, get_or}
use lib.Pointwise.{pointwise}
use Rattle.tables.specs.Kinds.{word_of}
use Rattle.texts.proofs.Words.{same_pointwise}
use Rattle.forms.proofs.is_word.Goals as goal

pub returns : goal.returns
returns c =
    let s = c.args in
    let e : c.from.result + 1 - 1 ≡ get_or s.r 0 0 = omega (arith, c.from.ensures) in
    c.eq.ensures ∙ (ap (λ (n : ℕ). pointwise eqb s.t.now (take n (drop 1 s.r))) e ∙ same_pointwise s.t.now (word_of s.r))
