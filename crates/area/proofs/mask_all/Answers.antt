use mathlib.Core.Path.{◌≡◌, ap, ap₂, ◌∙◌}
use mathlib.Core.List.{List}
use Prim.Native.Nat.{ℕ, ◌%◌, ◌^◌}
use native.Mathlib.Omega.{arith}
use lib.ListN.{get_or, set}
use Rattle.circuits.proofs.Puts as laws
use Rattle.area.proofs.mask_all.Goals as goal

pub loop-c-preserved : goal.loop-c-preserved
loop-c-preserved c =
    let l = c.loop-c in
    let i = l.c-index in
    let w = c.args.w in
    let d₀ = c.args.cells.now in
    let e : c.low.result ≡ get_or d₀ i 0 % 2 ^ w = c.low.ensures.0 ∙ ap (λ (v : ℕ). v % 2 ^ w) (ap (λ (u : List ℕ). get_or u i 0) l.invariant ∙ laws.lows_rest w d₀ i (omega arith)) in
    ap₂ (λ (u : List ℕ) (v : ℕ). set u i v) l.invariant e ∙ laws.lows_more w d₀ i (omega arith)
