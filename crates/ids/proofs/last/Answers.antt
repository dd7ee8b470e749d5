-- The id of the record before n.
use Prim.Native.Nat.{◌-◌}
use mathlib.Core.Path.{sym, ◌∙◌}
use native.Mathlib.Omega.{arith}
use Rattle.tables.specs.Layout.{ids_of}
use Rattle.texts.proofs.Resolving.{ids_length, ids_at, last_at}
use Rattle.ids.proofs.last.Goals as goal

pub returns : goal.returns
returns c =
    let s = c.args in
    c.id.ensures ∙ sym (last_at 0 (ids_of s.table.now s.n) (s.n - 1) (omega (arith, ids_length s.table.now s.n)) ∙ ids_at s.table.now s.n (s.n - 1) (omega arith))
