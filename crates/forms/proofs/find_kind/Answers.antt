use Prim.Native.Nat.{ℕ, ◌+◌, ◌≤◌}
use native.Mathlib.Omega.{arith}
use mathlib.Core.Path.{◌≡◌, sym, ap, ◌∙◌, subst}
use mathlib.Core.Bool.{true, false}
use mathlib.Core.List.{List}
use lib.ListN.{get_or}
use Rattle.tables.specs.Kinds.{word_of}
use Rattle.texts.specs.Split.{same_bytes}
use Rattle.texts.specs.Forms.{form_row}
use Rattle.texts.specs.Model.Structs.{found}
use Rattle.texts.proofs.Words.{found_at, find_hit, find_miss, find_done, listed_kind, row_shape}
use Rattle.forms.proofs.find_kind.Goals as goal
use Rattle.forms.proofs.find_kind.Goals.{else-begins-via-then-begins+else-is_word, else-begins-via-else-begins}

pub is_word-requires : goal.is_word-requires
is_word-requires c =
    let j = c.loop-j.j in
    subst (λ (r : List ℕ). get_or r 0 0 ≤ 10) (sym (listed_kind _ j c.requires.0 (omega arith))) (row_shape j (omega arith) (omega arith)).0

pub returns-then-is_word : goal.returns-then-is_word
returns-then-is_word c =
    let t : List ℕ = c.args.t.now in
    let j : ℕ = c.loop-j.j in
    let r = listed_kind _ j c.requires.0 (omega arith) in
    let h : same_bytes t (word_of (form_row j)) ≡ true = ap (λ (r : List ℕ). same_bytes t (word_of r)) (sym r) ∙ (sym c.is_word.ensures ∙ c.if-is_word.true) in
    sym (found_at _ j (omega arith) (c.loop-j.invariant ∙ find_hit j (c.args.k + c.args.n) t (omega arith) h))

pub loop-j-preserved : goal.loop-j-preserved
loop-j-preserved c =
    let t : List ℕ = c.args.t.now in
    let j : ℕ = c.loop-j.j in
    let r = listed_kind _ j c.requires.0 (omega arith) in
    let h : same_bytes t (word_of (form_row j)) ≡ false =
    elim c.else-begins.branch [
      | else-begins-via-then-begins+else-is_word w ↦ ap (λ (r : List ℕ). same_bytes t (word_of r)) (sym r) ∙ (sym w.is_word.ensures ∙ w.if-is_word.false)
      | else-begins-via-else-begins w ↦ c.begins.ensures w.if-begins.false
    ]
    in
    c.loop-j.invariant ∙ find_miss j (c.args.k + c.args.n) t (omega arith) h

pub returns : goal.returns
returns c = let s = c.args in ap found (sym (c.loop-j.invariant ∙ find_done c.loop-j.j (s.k + s.n) s.t.now (omega arith)))
