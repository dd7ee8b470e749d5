-- The record at i, or what is found from there on.
use Prim.Native.Nat.{ℕ}
use mathlib.Core.Path.{sym, ◌∙◌}
use mathlib.Core.List.{List}
use native.Mathlib.Omega.{arith}
use Rattle.tables.specs.Layout.{ids_of}
use Rattle.texts.proofs.Resolving.{ids_length, ids_at, place_at_lem}
use Rattle.ids.proofs.found.Goals as goal

pub returns-then-id-d : goal.returns-then-id-d
returns-then-id-d c =
    let s = c.args in
    let p = c.requires.1 in
    let t : List ℕ = s.table.now in
    omega (arith, place_at_lem (ids_of t s.n) p.1.1.0.rise s.d p.0 s.i (omega (arith, ids_length t s.n)) (ids_at t s.n s.i (omega arith) ∙ sym c.id.ensures ∙ c.if-id-d.true))
