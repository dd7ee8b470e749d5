use Prim.Native.Nat.{ℕ, ◌+◌, ◌-◌, ◌<◌}
use native.Mathlib.Omega.{arith}
use mathlib.Core.Path.{◌≡◌, sym, ap, ◌∙◌, subst}
use mathlib.Core.List.{List}
use lib.ListN.{length, take, drop, get_or, length-set, length-take}
use lib.Seq.{sets, length-sets, get_or-take, get_or-drop}
use Rattle.texts.specs.Split.{spaced}
use Rattle.texts.specs.Decimal.{digits}
use Rattle.texts.specs.Writing.{numbers}
use Rattle.texts.proofs.Printed.{number_less, number_out}
use Rattle.writing.proofs.put_numbers.Goals as goal

-- the number k of m from the place j on
this : (m j k : ℕ) (r : List ℕ) → k < length (take (j + m - j) (drop j r)) → (k < m) × (get_or (take (j + m - j) (drop j r)) k 0 ≡ get_or r (j + k) 0)
this m j k r h =
    let n : k < j + m - j = omega (arith, length-take (j + m - j) (drop j r)) in
    (omega arith, get_or-take (j + m - j) (drop j r) k 0 n ∙ get_or-drop j r k 0)

pub put_number-p-requires : goal.put_number-p-requires
put_number-p-requires c =
    let s = c.args in
    let v = c.loop-v in
    let t = this s.m s.j v.v-index s.rec c.loop-v-test.true in
    subst (λ (x : ℕ). c.put-p.result + length (digits x) < 9223372036854775808) (sym t.1)
    (omega (arith, c.requires.1, v.invariant.1.0, c.put-p.ensures.0, number_less s.m s.j v.v-index s.rec t.0 v.out v.p))

pub loop-v-preserved : goal.loop-v-preserved
loop-v-preserved c =
    let s = c.args in
    let v = c.loop-v.invariant in
    let k : ℕ = c.loop-v.v-index in
    let l : List ℕ = c.loop-v.out in
    let p : ℕ = c.loop-v.p in
    let t = this s.m s.j k s.rec c.loop-v-test.true in
    let D : List ℕ = digits (get_or s.rec (s.j + k) 0) in
    let R : List ℕ = spaced (numbers (s.m - (k + 1)) (s.j + (k + 1)) s.rec) in
    let o = c.put-p.ensures in
    let d = subst (λ (x : ℕ). (c.put_number-p.result ≡ c.put-p.result + length (digits x)) × (c.put_number-p.new.out ≡ sets c.put-p.new.out c.put-p.result (digits x))) t.1 c.put_number-p.ensures in (
      ap length d.1 ∙ (simp length-sets (ap length o.1 ∙ (simp length-set v.0))),
      (
        omega (arith, v.1.0, number_less s.m s.j k s.rec t.0 l p, o.0, d.0),
        v.1.1
            ∙ (number_out s.m s.j k s.rec t.0 l p
            ∙ (ap (λ (x : List ℕ). sets (sets x (p + 1) D) (p + 1 + length D) R) (sym o.1)
            ∙ (ap (λ (n : ℕ). sets (sets c.put-p.new.out n D) (n + length D) R) (sym o.0)
            ∙ (ap (λ (x : List ℕ). sets x (c.put-p.result + length D) R) (sym d.1) ∙ ap (λ (n : ℕ). sets c.put_number-p.new.out n R) (sym d.0))))),
      ),
    )
