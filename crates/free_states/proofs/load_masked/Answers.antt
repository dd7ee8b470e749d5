use mathlib.Core.Path.{◌≡◌, sym, ap, ap₂, ◌∙◌}
use mathlib.Core.List.{List, [], ◌∷◌, ◌++◌}
use Prim.Native.Nat.{ℕ, ◌%◌, ◌^◌, ◌<◌}
use native.Mathlib.Omega.{arith}
use native.Mathlib.Numerals.{add-one}
use lib.ListN.{length, take, get_or, set}
use lib.Seq.{take-suc-set, take-suc}
use Rattle.circuits.specs.Cells.{mask_words}
use Rattle.circuits.proofs.Puts.{lows_append}
use Rattle.free_states.proofs.load_masked.Goals as goal

pub loop-i-preserved : goal.loop-i-preserved
loop-i-preserved c =
    let l = c.loop-i in
    let a = c.args in
    let f = a.from.now in
    let v = c.low.result in
    let e : v ≡ get_or f l.i 0 % 2 ^ a.w = c.low.ensures.0 in
    let n : l.i < length l.to = omega arith in
    ap (λ (n : ℕ). take n (set l.to l.i v)) (add-one l.i) ∙ take-suc-set l.to l.i v n ∙ ap₂ (λ (x : List ℕ) (y : ℕ). x ++ (y ∷ [])) l.invariant e
    ∙ sym (lows_append a.w (take l.i f) (get_or f l.i 0 ∷ [])) ∙ ap (mask_words a.w) (sym (take-suc f l.i 0 (omega arith)) ∙ ap (λ (n : ℕ). take n f) (sym (add-one l.i)))
