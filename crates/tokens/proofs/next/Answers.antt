-- A token stands from the first place that holds no space up to the next space.
use Prim.Native.Nat.{ℕ, ◌<◌}
use mathlib.Core.Path.{◌≡◌, sym, ap, ◌∙◌}
use mathlib.Core.List.{List}
use native.Mathlib.Omega.{arith}
use lib.ListN.{length}
use Rattle.texts.proofs.Scan.{up_to_miss}
use Rattle.texts.proofs.Places.{no_token, next_token}
use Rattle.tokens.proofs.next.Goals as goal

pub returns-then-a-l : goal.returns-then-a-l
returns-then-a-l c =
    let l : List ℕ = c.args.l.now in
    let a : ℕ = c.skip-a.result in
    let k = c.skip-a.ensures in
    let end : a ≡ length l = c.if-a-l.true in
    (omega arith, (k.1.0, (λ h. absurd (omega arith), λ e. (end, sym k.1.1.0 ∙ no_token l a (omega (arith, end))))))

pub returns : goal.returns
returns c =
    let l : List ℕ = c.args.l.now in
    let a : ℕ = c.skip-a.result in
    let z : ℕ = c.find_rare-z.result in
    let k = c.skip-a.ensures in
    let f = c.find_rare-z.ensures in
    let on : a < length l = omega (arith, k.1.0, c.if-a-l.false) in (
      f.0,
      (
        f.1.0,
        (
          λ h. sym k.1.1.0 ∙ next_token l a z on (k.1.1.1 on) f.1.1,
          λ e. absurd (omega (arith, e, f.1.1, ap length (up_to_miss 32 l a on (k.1.1.1 on)))),
        ),
      ),
    )
