-- The ids from i up to o are 0. Where the id at o is below d, so are all before it; else those from i on are not, but for zeros.
use Prim.Native.Nat.{ℕ}
use mathlib.Core.List.{List}
use native.Mathlib.Omega.{arith}
use Rattle.tables.specs.Layout.{ids_of}
use Rattle.texts.proofs.Resolving.{ids_length, ids_at, below_on, not_below_on}
use Rattle.ids.proofs.past.Goals as goal
use Rattle.ids.proofs.past.Goals.{else-o-n-via-then-o-n+else-id-d, else-o-n-via-else-o-n}

pub returns-then-id-d : goal.returns-then-id-d
returns-then-id-d c =
    let s = c.args in
    let p = c.requires.1 in
    let f = c.named-o.ensures in
    let o : ℕ = c.named-o.result in
    let t : List ℕ = s.table.now in
    let e = ids_length t s.n in
    let g = f.least in
    let k = f.most in
    record {
      least = omega arith;
      most = omega arith;
      behind = λ h. below_on (ids_of t s.n) p.1.1.rise s.d p.0 o (omega arith) (f.named (omega arith)) (omega (arith, ids_at t s.n o (omega arith), c.id.ensures));
      before = λ q. absurd (omega arith);
    }

pub returns : goal.returns
returns c =
    let s = c.args in
    let p = c.requires.1 in
    let f = c.named-o.ensures in
    let o : ℕ = c.named-o.result in
    let t : List ℕ = s.table.now in
    let e = ids_length t s.n in
    record {
      least = omega arith;
      most = omega arith;
      behind = λ h. absurd (omega arith);
      before = λ q.
          elim c.else-o-n.branch [
            | else-o-n-via-then-o-n+else-id-d w ↦ not_below_on (ids_of t s.n) p.1.1.rise s.d p.0 s.i o f.zeros (λ h. omega (arith, ids_at t s.n o (omega arith), w.id.ensures))
            | else-o-n-via-else-o-n w ↦ not_below_on (ids_of t s.n) p.1.1.rise s.d p.0 s.i o f.zeros (λ h. absurd (omega arith))
          ];
    }
