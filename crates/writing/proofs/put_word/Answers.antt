use Prim.Native.Nat.{ℕ, ◌+◌, ◌-◌, ◌<◌}
use native.Mathlib.Omega.{arith}
use mathlib.Core.Path.{◌≡◌, sym, ap, ◌∙◌, subst}
use mathlib.Core.List.{List}
use lib.ListN.{length, take, drop, get_or, set, length-set}
use lib.Seq.{sets}
use Rattle.tables.specs.Kinds.{word_of}
use Rattle.texts.proofs.Printed.{out_byte, out_less}
use Rattle.writing.proofs.put_word.Goals as goal

pub loop-letter-preserved : goal.loop-letter-preserved
loop-letter-preserved c =
    let v = c.loop-letter.invariant in
    let r : List ℕ = c.args.r in
    let w : List ℕ = word_of r in
    let i : ℕ = c.loop-letter.letter-index in
    let l : List ℕ = c.loop-letter.out in
    let p : ℕ = c.loop-letter.p in
    let letters : take (1 + c.from.result - 1) (drop 1 r) ≡ w = ap (λ (n : ℕ). take n (drop 1 r)) (omega (arith, c.from.ensures)) in
    let h : i < length w = subst (λ (x : List ℕ). i < length x) letters c.loop-letter-test.true in
    let at = c.put-p.ensures.0 in
    let o = c.put-p.ensures.1 ∙ ap (λ (x : List ℕ). set l p (get_or x i 0)) letters in (
      ap length o ∙ (simp length-set v.0),
      (
        omega (arith, v.1.0, out_less w i h l p, at),
        v.1.1 ∙ (out_byte w i h l p ∙ (ap (λ (x : List ℕ). sets x (p + 1) (drop (i + 1) w)) (sym o) ∙ ap (λ (k : ℕ). sets c.put-p.new.out k (drop (i + 1) w)) (sym at))),
      ),
    )
