use Prim.Native.Nat.{ℕ}
use mathlib.Core.Path.{sym, ◌∙◌}
use mathlib.Core.List.{List}
use native.Mathlib.Omega.{arith}
use Rattle.tables.specs.Layout.{ids_of}
use Rattle.texts.proofs.Resolving.{ids_length, ids_at, place_at_lem, place_none}
use Rattle.ids.proofs.found_past.Goals as goal
use Rattle.ids.proofs.found_past.Goals.{else-o-n-via-then-o-n+else-id-d, else-o-n-via-else-o-n}

pub returns-then-id-d : goal.returns-then-id-d
returns-then-id-d c =
    let s = c.args in
    let p = c.requires.1 in
    let f = c.named-o in
    let t : List ℕ = s.table.now in
    let e = ids_length t s.n in
    let k = f.ensures.most in
    omega (arith, place_at_lem (ids_of t s.n) p.1.1.0.rise s.d p.0 f.result (omega arith) (ids_at t s.n f.result (omega arith) ∙ sym c.id.ensures ∙ c.if-id-d.true))

pub returns : goal.returns
returns c =
    let s = c.args in
    let p = c.requires.1 in
    let f = c.named-o in
    let t : List ℕ = s.table.now in
    let e = ids_length t s.n in
    sym (place_none (ids_of t s.n) p.1.1.0.rise s.d p.0 s.i f.result p.1.1.1 f.ensures
    (elim c.else-o-n.branch [
      | else-o-n-via-then-o-n+else-id-d w ↦ λ h q. w.if-id-d.false (w.id.ensures ∙ sym (ids_at t s.n f.result (omega arith)) ∙ q)
      | else-o-n-via-else-o-n w ↦ λ h. absurd (omega arith)
    ]))
