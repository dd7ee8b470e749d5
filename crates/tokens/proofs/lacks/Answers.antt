use Prim.Native.Nat.{ℕ, ◌+◌, ◌-◌}
use mathlib.Core.Path.{◌≡◌, sym, ap, ◌∙◌}
use mathlib.Core.List.{List}
use native.Mathlib.Omega.{arith}
use lib.ListN.{length, take, drop, get_or, length-drop}
use lib.Seq.{get_or-take, get_or-drop, length-take-le}
use Rattle.texts.specs.Split.{up_to}
use Rattle.texts.proofs.Scan.{up_to_miss}
use Rattle.tokens.proofs.lacks.Goals as goal
use Rattle.tokens.proofs.lacks.Goals.{then-x-b, else-x-b}

pub loop-x-preserved : goal.loop-x-preserved
loop-x-preserved c =
    let l = c.loop-x in
    let b : ℕ = c.args.b in
    let s : List ℕ = c.args.s.now in
    let i : ℕ = c.args.i in
    let k : ℕ = l.x-index in
    elim c.if-x-b.branch [
      | then-x-b w ↦ λ e. absurd (cc)
      | else-x-b w ↦ λ e.
          let n : ℕ = i + 16 - i in
          let q : length (take n (drop i s)) ≡ n = length-take-le n (drop i s) (omega (arith, length-drop i s)) in
          let x : get_or (take n (drop i s)) k 0 ≡ get_or s (i + k) 0 = get_or-take n (drop i s) k 0 (omega arith) ∙ get_or-drop i s k 0 in
          let h = l.invariant (sym w.none-is ∙ e) in
          let m = ap length (up_to_miss b s (i + k) (omega arith) (λ z. w.if-x-b.false (x ∙ z))) in
          let z : i + k + 1 ≡ i + (k + 1) = omega arith in
          omega (arith, h, m, ap (λ (k : ℕ). length (up_to b (drop k s))) z)
    ]
