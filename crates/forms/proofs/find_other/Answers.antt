use Prim.Native.Nat.{ℕ, ◌+◌, ◌-◌}
use native.Mathlib.Omega.{arith}
use mathlib.Core.Path.{◌≡◌, sym, ap, ◌∙◌}
use mathlib.Core.Bool.{true, false}
use mathlib.Core.List.{List}
use Rattle.tables.specs.Kinds.{word_of}
use Rattle.texts.specs.Split.{same_bytes}
use Rattle.texts.specs.Forms.{form_row}
use Rattle.texts.specs.Reading.{find_in}
use Rattle.texts.specs.Model.Structs.{found}
use Rattle.texts.proofs.Words.{found_at, find_hit, find_miss, find_done, listed_other}
use Rattle.forms.proofs.find_other.Goals as goal

pub returns-then-is_word : goal.returns-then-is_word
returns-then-is_word c =
    let t : List ℕ = c.args.t.now in
    let j : ℕ = c.loop-j.j + 64 in
    let h : same_bytes t (word_of (form_row j)) ≡ true = ap (λ (r : List ℕ). same_bytes t (word_of r)) (sym (listed_other _ c.loop-j.j c.loop-j.invariant.0)) ∙ (sym c.is_word.ensures ∙ c.if-is_word.true) in
    sym (found_at _ j (omega arith) (c.loop-j.invariant.1 ∙ find_hit j 69 t (omega arith) h))

pub loop-j-preserved : goal.loop-j-preserved
loop-j-preserved c =
    let t : List ℕ = c.args.t.now in
    let j : ℕ = c.loop-j.j + 64 in
    let h : same_bytes t (word_of (form_row j)) ≡ false = ap (λ (r : List ℕ). same_bytes t (word_of r)) (sym (listed_other _ c.loop-j.j c.loop-j.invariant.0)) ∙ (sym c.is_word.ensures ∙ c.if-is_word.false) in
    let q : j + 1 ≡ c.loop-j.j + 1 + 64 = omega arith in
    (c.loop-j.invariant.0, c.loop-j.invariant.1 ∙ (find_miss j 69 t (omega arith) h ∙ ap (λ (m : ℕ). find_in m (69 - m) t) q))

pub returns : goal.returns
returns c = ap found (sym (c.loop-j.invariant.1 ∙ find_done (c.loop-j.j + 64) 69 c.args.t.now (omega arith)))
