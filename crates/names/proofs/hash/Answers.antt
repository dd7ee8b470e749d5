use Prim.Native.Nat.{ℕ}
use mathlib.Core.List.{List}
use native.Mathlib.Nat.{mod-lt}
use native.Mathlib.Omega.{arith}
use lib.ListN.{length}
use Rattle.texts.proofs.Hashing.{fours_start}
use Rattle.names.proofs.hash.Goals as goal

pub loop-p-init : goal.loop-p-init
loop-p-init c =
    let t : List ℕ = c.args.t.now in
    (omega arith, omega (arith, c.requires), mod-lt (length t) (omega arith), omega arith, fours_start t)
