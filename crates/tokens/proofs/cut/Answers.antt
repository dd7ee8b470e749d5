-- A line without its comment.
use Prim.Native.Nat.{ℕ, ◌+◌, ◌-◌, ◌≤◌}
use native.Mathlib.Omega.{arith}
use mathlib.Core.Path.{◌≡◌, refl, ap, ◌∙◌}
use mathlib.Core.List.{List}
use lib.ListN.{length, take, drop, length-drop}
use lib.Seq.{length-take-le, drop-drop}
use Rattle.texts.specs.Split.{up_to}
use Rattle.texts.proofs.Places.{up_to_take, cut_at}
use Rattle.tokens.proofs.cut.Goals as goal

from_there : (s : List ℕ) (i e j k : ℕ) → i ≤ k → k ≤ e → k ≤ j → i + length (up_to 59 (drop i s)) ≡ j + length (up_to 59 (drop j s))
    → length (up_to 59 (take (e - i) (drop i s))) ≡ k - i + length (up_to 59 (take (e - k) (drop k s)))
from_there s i e j k a b c h =
    let d : i + (k - i) ≡ k = omega arith in
    let m : e - i - (k - i) ≡ e - k = omega arith in
    up_to_take 59 (drop i s) (k - i) (e - i) (omega arith) (omega arith)
    ∙ (ap (λ (n : ℕ). k - i + length (up_to 59 (take n (drop (k - i) (drop i s))))) m
    ∙ ap (λ (x : List ℕ). k - i + length (up_to 59 (take (e - k) x))) (drop-drop (k - i) i s ∙ ap (λ (n : ℕ). drop n s) d))

none : (x : List ℕ) → length (up_to 59 (take 0 x)) ≡ 0
unfolding up_to
none x = refl

pub returns-then-e-j : goal.returns-then-e-j
returns-then-e-j c =
    let s : List ℕ = c.args.s.now in
    let i : ℕ = c.args.i in
    let e : ℕ = c.args.e in
    let p = c.pass_blocks-j in
    let h = from_there s i e p.result e (omega arith) (omega arith) c.if-e-j.true p.ensures.1.1 in
    let z : e - e ≡ 0 = omega arith in
    let n = ap (λ (k : ℕ). length (up_to 59 (take k (drop e s)))) z in
    (omega arith, (omega arith, cut_at (drop i s) (e - i) (e - i) (omega arith) (omega (arith, h, n, none (drop e s)))))

pub returns : goal.returns
returns c =
    let s : List ℕ = c.args.s.now in
    let i : ℕ = c.args.i in
    let e : ℕ = c.args.e in
    let p = c.pass_blocks-j in
    let j : ℕ = p.result in
    let f = c.find_two in
    let l : j ≤ e = omega (arith, c.if-e-j.false) in
    let m : length (take (e - j) (drop j s)) ≡ e - j = length-take-le (e - j) (drop j s) (omega (arith, length-drop j s)) in
    let h = from_there s i e j j p.ensures.0 l (omega arith) p.ensures.1.1 in
    let k : j + f.result - i ≤ e - i = omega (arith, m, f.ensures.1.0, p.ensures.0) in
    (omega (arith, p.ensures.0), (omega (arith, m, f.ensures.1.0), cut_at (drop i s) (e - i) (j + f.result - i) k (omega (arith, h, f.ensures.1.1, p.ensures.0))))
