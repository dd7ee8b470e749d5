-- No line is named, or the one at its own place.
use Prim.Native.Nat.{ℕ, ◌-◌, ◌<◌}
use mathlib.Core.Path.{◌≡◌, ap, sym, ◌∙◌}
use mathlib.Core.List.{List}
use native.Mathlib.Omega.{arith}
use borrow.Author.Tests.{eqb-true, ltb-true}
use lib.Dec.{eqb}
use mathlib.Core.Bool.{not}
use lib.ListN.{get_or}
use Rattle.std.proofs.lemmas.Bool.{false≢true}
use Rattle.tables.specs.Layout.{ids_of}
use Rattle.texts.proofs.Resolving.{ids_length, ids_at, place_at_lem, meant_line}
use Rattle.ids.proofs.stays.Goals as goal
use Rattle.ids.proofs.stays.Goals.{then-v-ne0, else-v-ne0}

pub returns-then-v-n : goal.returns-then-v-n
returns-then-v-n c =
    let s = c.args in
    let t : List ℕ = s.table.now in
    λ z. elim c.if-v-ne0.branch [
      | then-v-ne0 w ↦
          let l : s.v - 1 < s.n = ltb-true (s.v - 1) s.n (sym w.value-is ∙ c.if-v-n.true) in
          let e : get_or (ids_of t s.n) (s.v - 1) 0 ≡ s.v = ids_at t s.n (s.v - 1) l ∙ (sym c.id.ensures ∙ eqb-true c.id.result s.v z) in
          let p = place_at_lem (ids_of t s.n) c.requires.1.rise s.v (omega arith) (s.v - 1) (omega (arith, ids_length t s.n)) e in
          omega (arith, p, meant_line s.class (ids_of t s.n) s.v c.if-class-eq-NONE.false c.if-class-eq-NUM.false)
      | else-v-ne0 w ↦ absurd (false≢true (sym (ap (λ (x : ℕ). not (eqb x 0)) w.if-v-ne0.false) ∙ sym w.value-is ∙ c.if-v-n.true))
    ]
