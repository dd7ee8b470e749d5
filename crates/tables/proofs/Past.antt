-- Of a list that holds rows every other word is 0. Assumes nothing.
use Prim.Native.Nat.{ℕ, suc, ◌+◌, ◌<◌}
use mathlib.Core.Path.{◌≡◌, refl, sym, ap, ◌∙◌}
use mathlib.Core.List.{List, [], ◌∷◌}
use native.Mathlib.Omega.{arith}
use lib.ListN.{length, get_or, replicate, length-replicate}
use Rattle.tables.specs.Layout.{Placing, row_set, put_rows, filled_by}
use Rattle.tables.proofs.Spread.{word_other}
use Rattle.tables.proofs.Putting.{SizedBy, length_row}
use Rattle.tables.proofs.Checking.{zeros_at}

module _ (f : Placing) (w q : ℕ) where
  -- q is no place of the rows from i on
  abbrev Elsewhere : (len i n : ℕ) → Type 0
  Elsewhere len i n = (k j : ℕ) → k < n → j < w → q ≡ f len (i + k) j → ⊥

  put_else : (t : List ℕ) (i : ℕ) (xs : List (List ℕ)) → SizedBy w xs → Elsewhere (length t) i (length xs) → get_or (put_rows f t i xs) q 0 ≡ get_or t q 0
  put_else t i [] z h = refl
  put_else t i (x ∷ xs) z h =
      let z₀ : i + 0 ≡ i = omega arith in
      let l = length_row f t i x in
      put_else (row_set f t i x) (suc i) xs z.1
      (λ k j a b e. let s : suc i + k ≡ i + suc k = omega arith in h (suc k) j (omega arith) b (e ∙ (ap (λ (len : ℕ). f len (suc i + k) j) l ∙ ap (λ (m : ℕ). f (length t) m j) s)))
      ∙ word_other (f (length t) i) t 0 x q (λ k a b e. h 0 k (omega arith) (omega (arith, z.0)) (e ∙ ap (λ (m : ℕ). f (length t) m k) (sym z₀)))

  pub zero_past : (len : ℕ) (xs : List (List ℕ)) → SizedBy w xs → ((i j : ℕ) → i < length xs → j < w → q ≡ f len i j → ⊥) → get_or (filled_by f len xs) q 0 ≡ 0
  unfolding filled_by
  zero_past len xs z h =
      let l = length-replicate {A = ℕ} len 0 in
      put_else (replicate len 0) 0 xs z (λ k j a b e. let s : 0 + k ≡ k = omega arith in h k j a b (e ∙ (ap (λ (m : ℕ). f m (0 + k) j) l ∙ ap (λ (m : ℕ). f len m j) s))) ∙ zeros_at len q
