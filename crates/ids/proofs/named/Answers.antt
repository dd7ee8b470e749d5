use Prim.Native.Nat.{ℕ, ◌≤◌}
use mathlib.Core.Path.{◌≡◌, sym, ◌∙◌}
use mathlib.Core.List.{List}
use native.Mathlib.Omega.{arith}
use lib.ListN.{get_or}
use borrow.Author.Count.{below_more}
use Rattle.tables.specs.Layout.{ids_of}
use Rattle.texts.proofs.Resolving.{ids_length, ids_at}
use Rattle.ids.proofs.named.Goals as goal

pub returns-then-id-ne0 : goal.returns-then-id-ne0
returns-then-id-ne0 c =
    let s = c.args in
    let l = c.loop-o in
    let t : List ℕ = s.table.now in
    record {
      least = omega arith;
      most = omega (arith, ids_length t s.n);
      zeros = l.invariant;
      named = λ h e. c.if-id-ne0.true (c.id.ensures ∙ sym (ids_at t s.n l.o (omega arith)) ∙ e);
    }

pub loop-o-preserved : goal.loop-o-preserved
loop-o-preserved c =
    let s = c.args in
    let l = c.loop-o in
    let t : List ℕ = s.table.now in
    let z : get_or (ids_of t s.n) l.o 0 ≡ 0 = ids_at t s.n l.o (omega arith) ∙ sym c.id.ensures ∙ c.if-id-ne0.false in
    λ j k h. below_more (λ (m : ℕ). s.i ≤ m → get_or (ids_of t s.n) m 0 ≡ 0) _ (λ m q p. l.invariant m p q) (λ p. z) j h k

pub returns : goal.returns
returns c =
    let s = c.args in
    let e = ids_length s.table.now s.n in
    record {
      least = omega arith;
      most = omega arith;
      zeros = λ j k h. c.loop-o.invariant j k (omega arith);
      named = λ h. absurd (omega arith);
    }
