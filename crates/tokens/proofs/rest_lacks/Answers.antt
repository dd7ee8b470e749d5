-- The last 16 bytes, of which those from j on are some.
use Prim.Native.Nat.{◌-◌, ◌<◌}
use mathlib.Core.Path.{sym, ◌∙◌}
use borrow.Author.Tests.{ltb-true, lt-leb}
use lib.ListN.{length}
use native.Mathlib.Omega.{arith}
use Rattle.std.proofs.lemmas.Bool.{false≢true}
use Rattle.texts.proofs.Places.{last_block}
use Rattle.tokens.proofs.rest_lacks.Goals as goal
use Rattle.tokens.proofs.rest_lacks.Goals.{then-j-i-ge16, else-j-i-ge16}

pub returns-then-s-j-lt16 : goal.returns-then-s-j-lt16
returns-then-s-j-lt16 c =
    let s = c.args in
    let t = s.s.now in
    λ e. elim c.if-j-i-ge16.branch [
      | then-j-i-ge16 w ↦
          let l : length t - s.j < 16 = ltb-true (length t - s.j) 16 (sym w.value-is ∙ c.if-s-j-lt16.true) in
          last_block s.b t (length t - 16) s.j (omega (arith, w.if-j-i-ge16.true, c.requires.1)) (omega arith) c.requires.1 (c.lacks.ensures e)
      | else-j-i-ge16 w ↦ absurd (false≢true (sym (lt-leb 16 (s.j - s.i) w.if-j-i-ge16.false) ∙ sym w.value-is ∙ c.if-s-j-lt16.true))
    ]
