-- State words put one by one are those put at once, and a store keeps the number of state words. Assumes nothing.
use Prim.Native.Nat.{ℕ, zero, suc, ◌+◌, ◌≤◌, ◌<◌}
use mathlib.Core.Path.{◌≡◌, refl, sym, ap, ◌∙◌}
use mathlib.Core.Bool.{Bool, true, false}
use mathlib.Core.List.{List, [], ◌∷◌, ◌++◌}
use native.Mathlib.Omega.{arith}
use lib.ListN.{length, take, drop}
use Rattle.tables.specs.Pick.{pick}
use Rattle.circuits.specs.Cells.{put}
use Rattle.circuits.proofs.Puts.{length_put, put_none}

put_zero : (w vs : List ℕ) → put w 0 vs ≡ vs ++ drop (length vs) w
unfolding put
put_zero w vs = let e : 0 + length vs ≡ length vs = omega arith in ap (λ (n : ℕ). vs ++ drop n w) e

put_suc : (x : ℕ) (w : List ℕ) (a : ℕ) (vs : List ℕ) → put (x ∷ w) (suc a) vs ≡ x ∷ put w a vs
unfolding put
put_suc x w a vs = let e : suc a + length vs ≡ suc (a + length vs) = omega arith in ap (λ (n : ℕ). x ∷ (take a w ++ (vs ++ drop n (x ∷ w)))) e

put_more : (w : List ℕ) (a c : ℕ) (cs : List ℕ) → a < length w → put (put w a (c ∷ [])) (suc a) cs ≡ put w a (c ∷ cs)
put_more [] a c cs h = absurd (omega arith)
put_more (x ∷ w) zero c cs h =
    ap (λ (l : List ℕ). put l 1 cs) (put_zero (x ∷ w) (c ∷ [])) ∙ put_suc c w 0 cs ∙ ap (λ (l : List ℕ). c ∷ l) (put_zero w cs) ∙ sym (put_zero (x ∷ w) (c ∷ cs))
put_more (x ∷ w) (suc a) c cs h =
    ap (λ (l : List ℕ). put l (suc (suc a)) cs) (put_suc x w a (c ∷ [])) ∙ put_suc x (put w a (c ∷ [])) (suc a) cs ∙ ap (λ (l : List ℕ). x ∷ l) (put_more w a c cs (omega arith))
    ∙ sym (put_suc x w a (c ∷ cs))

-- the same of a store that is made, or not
pub stored_none : (b : Bool) (w : List ℕ) (a : ℕ) → w ≡ pick b (put w a []) w
stored_none true w a = sym (put_none w a)
stored_none false w a = refl

pub stored_more : (b : Bool) (w : List ℕ) (a c : ℕ) (cs : List ℕ) → a < length w
    → pick b (put (pick b (put w a (c ∷ [])) w) (suc a) cs) (pick b (put w a (c ∷ [])) w) ≡ pick b (put w a (c ∷ cs)) w
stored_more true w a c cs h = put_more w a c cs h
stored_more false w a c cs h = refl

pub length_stored : (b : Bool) (w : List ℕ) (a : ℕ) (vs : List ℕ) → a + length vs ≤ length w → length (pick b (put w a vs) w) ≡ length w
length_stored true w a vs h = length_put w a vs h
length_stored false w a vs h = refl
