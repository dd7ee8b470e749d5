-- What a conversion answers and leaves. The target u is zero when the answer a is given for it. Assumes nothing.
use Rattle.std.specs.Prelude.{Result, Ok, Err}
use Prim.Native.Nat.{ℕ, ◌≤◌}
use mathlib.Core.Path.{◌≡◌, sym, ap, ◌∙◌}
use mathlib.Core.Bool.{Bool, not}
use mathlib.Core.List.{List, [], ◌∷◌}
use lib.ListN.{length, replicate, length-replicate}
use Rattle.tables.specs.declared.Refusal.{Refusal}
use Rattle.tables.specs.Layout.{held, placing_in, filled_by}
use Rattle.tables.specs.Answers.{told, left_by}
use Rattle.tables.proofs.Checking.{roomy}
use Rattle.layouts.specs.Conversion.{rows_in, converted, converted_to, converts}
use Rattle.layouts.proofs.Answers.{done_fits}

converts_as : (columns p : Bool) (t : List ℕ) (n len : ℕ) (a : Result ℕ Refusal) → a ≡ converted p (length t) n len
    → (u : List ℕ) → u ≡ left_by a len (filled_by (placing_in columns p) len (rows_in (not columns) p t n)) → told a (u ∷ []) ≡ converts columns p t n len
unfolding converts converted_to
converts_as columns p t n len a e u q =
    ap (λ (l : List ℕ). told a (l ∷ [])) q ∙ ap (λ (b : Result ℕ Refusal). told b (left_by b len (filled_by (placing_in columns p) len (rows_in (not columns) p t n)) ∷ [])) e

module _ (columns p : Bool) (t : List ℕ) (n len : ℕ) (u : List ℕ) (z : u ≡ replicate len 0) (a : Result ℕ Refusal) (e : a ≡ converted p (length t) n (length u)) where
  lengths : length u ≡ len
  lengths = ap length z ∙ length-replicate len 0

  answer : a ≡ converted p (length t) n len
  answer = e ∙ ap (converted p (length t) n) lengths

  pub carry_ready : (m : ℕ) → a ≡ Ok m → (n ≤ held p (length t)) × ((n ≤ held p (length u)) × (u ≡ replicate (length u) 0))
  carry_ready m d =
      let f = (done_fits p (length t) n (length u) m (sym e ∙ d)).0 in
      ((roomy p (length t) n f.count).1, ((roomy p (length u) n f.few).1, z ∙ ap (λ (k : ℕ). replicate k 0) (sym lengths)))

  pub convert_done : (m : ℕ) → a ≡ Ok m → (v : List ℕ) → v ≡ filled_by (placing_in columns p) (length u) (rows_in (not columns) p t n) → told (Ok m) (v ∷ []) ≡ converts columns p t n len
  convert_done m d v q = converts_as columns p t n len (Ok m) (sym d ∙ answer) v (q ∙ ap (λ (k : ℕ). filled_by (placing_in columns p) k (rows_in (not columns) p t n)) lengths)

  pub convert_refused : (r : Refusal) → a ≡ Err r → told (Err r) (u ∷ []) ≡ converts columns p t n len
  convert_refused r d = converts_as columns p t n len (Err r) (sym d ∙ answer) u z
