-- The first letter and the length of a kind's word.
use Prim.Native.Nat.{ℕ}
use mathlib.Core.Path.{sym, ap, ◌∙◌}
use mathlib.Core.List.{List}
use native.Mathlib.Omega.{arith}
use lib.ListN.{length, get_or}
use borrow.Author.Tests.{eqb-false, eqb-true}
use Rattle.texts.proofs.Words.{listed_kind, no_letter, other_length, other_first}
use Rattle.forms.proofs.begins.Goals as goal
use Rattle.forms.proofs.begins.Goals.{then-not-is_empty, else-not-is_empty}

pub returns-then-t-r : goal.returns-then-t-r
returns-then-t-r c =
    let s = c.args in
    let e = listed_kind s.kinds.now s.j c.requires.0 (omega arith) in
    λ z. other_length s.j (omega arith) (omega arith) s.t.now (λ q. eqb-false _ _ z (q ∙ (ap (λ (r : List ℕ). get_or r 0 0) (sym e) ∙ sym c.from.ensures)))

pub returns-else-t-r : goal.returns-else-t-r
returns-else-t-r c =
    let s = c.args in
    let t : List ℕ = s.t.now in
    let e = listed_kind s.kinds.now s.j c.requires.0 (omega arith) in
    λ z. elim c.if-not-is_empty.branch [
      | then-not-is_empty w ↦
          let n = eqb-false (length t) 0 (sym c.is_empty.ensures ∙ w.if-not-is_empty.true) in
          other_first s.j (omega arith) (omega arith) t c.requires.1.1.1 (omega (arith, n)) (λ q. eqb-false _ _ (sym w.value-is ∙ z) (q ∙ ap (λ (r : List ℕ). get_or r 1 0) (sym e)))
      | else-not-is_empty w ↦ no_letter s.j (omega arith) (omega arith) t c.requires.1.1.1 (eqb-true (length t) 0 (sym c.is_empty.ensures ∙ w.if-not-is_empty.false))
    ]
