-- 2 ^ w - 1 is a shift of 64 ones.
use Prim.Native.Nat.{ℕ, ◌+◌, ◌-◌, ◌/◌, ◌^◌}
use native.Mathlib.Omega.{arith}
use mathlib.Core.Path.{◌≡◌, ap, ◌∙◌}
use lib.Pow.{ones_split, high, ones_lt}
use Rattle.stages.proofs.ones.Goals as goal

pub returns-else-w-eq0 : goal.returns-else-w-eq0
returns-else-w-eq0 c =
    let w : ℕ = c.args.w in
    let e : 64 ≡ w + (64 - w) = omega arith in
    ap (λ (n : ℕ). (2 ^ n - 1) / 2 ^ (64 - w)) e ∙ ap (λ (t : ℕ). t / 2 ^ (64 - w)) (ones_split w (64 - w)) ∙ high (2 ^ w - 1) (64 - w) (ones_lt (64 - w))
