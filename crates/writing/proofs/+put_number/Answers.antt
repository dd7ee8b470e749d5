-- The digits of a tenth, and then the last digit.
use Prim.Native.Nat.{ℕ, ◌+◌, ◌/◌, ◌%◌, ◌<◌}
use native.Mathlib.Omega.{arith}
use mathlib.Core.Path.{◌≡◌, sym, ap, ◌∙◌}
use mathlib.Core.List.{List, [], ◌∷◌}
use lib.ListN.{length, set}
use lib.Seq.{sets}
use Rattle.texts.specs.Decimal.{digits}
use Rattle.texts.proofs.Printed.{digits_small, digits_more, more_length, sets_append}
use Rattle.writing.proofs.+put_number.Goals as goal

pub put_number-p-requires : goal.put_number-p-requires
put_number-p-requires t c = (omega arith, omega (arith, c.requires, more_length c.args.v c.if-v-gt9.true))

pub put-requires : goal.put-requires
put-requires t c = omega (arith, c.put_number-p.ensures.0, c.requires, more_length c.args.v c.if-v-gt9.true)

pub returns-then-v-gt9 : goal.returns-then-v-gt9
returns-then-v-gt9 t c =
    let v : ℕ = c.args.v in
    let at : ℕ = c.args.at in
    let l : List ℕ = c.args.out.now in
    let pn = c.put_number-p in
    let g : 9 < v = c.if-v-gt9.true in (
      omega (arith, pn.ensures.0, c.put.ensures.0, more_length v g),
      c.put.ensures.1
          ∙ (ap (λ (x : List ℕ). set x pn.result (48 + v % 10)) pn.ensures.1
          ∙ (ap (λ (n : ℕ). set (sets l at (digits (v / 10))) n (48 + v % 10)) pn.ensures.0
          ∙ sym (ap (λ (d : List ℕ). sets l at d) (digits_more v g) ∙ sets_append l at (digits (v / 10)) ((48 + v % 10) ∷ [])))),
    )

pub returns : goal.returns
returns t c =
    let v : ℕ = c.args.v in
    let e : digits v ≡ (48 + v) ∷ [] = digits_small v c.if-v-gt9.false in
    (omega (arith, c.put-2.ensures.0, ap length e), c.put-2.ensures.1 ∙ sym (ap (λ (d : List ℕ). sets c.args.out.now c.args.at d) e))
