-- No record for 0; else the record at the place d, or the search.
use Prim.Native.Nat.{ℕ, ◌-◌}
use mathlib.Core.Path.{sym, ◌∙◌}
use mathlib.Core.List.{List}
use native.Mathlib.Omega.{arith}
use Rattle.tables.specs.Layout.{ids_of}
use Rattle.texts.proofs.Resolving.{ids_length, ids_at, place_at_lem}
use Rattle.ids.proofs.place_of.Goals as goal

pub returns-then-id-d : goal.returns-then-id-d
returns-then-id-d c =
    let s = c.args in
    let t : List ℕ = s.table.now in
    omega (arith, place_at_lem (ids_of t s.n) c.requires.1.rise s.d (omega arith) (s.d - 1) (omega (arith, ids_length t s.n)) (ids_at t s.n (s.d - 1) (omega arith) ∙ sym c.id.ensures ∙ c.if-id-d.true))
