-- Where the name of a line stands: it is the token behind the numbers, where there is one and no other. Assumes nothing.
use Rattle.std.specs.Prelude.{Some, Result, Ok}
use Rattle.tables.specs.declared.Refusal.{Refusal}
use Rattle.tables.specs.declared.Refusal.TheVariants.{BadOperand}
use Prim.Native.Nat.{ℕ, ◌-◌, ◌≤◌, ◌<◌}
use mathlib.Core.Path.{◌≡◌, refl, sym, ap, ◌∙◌}
use mathlib.Core.Bool.{Bool, true, false}
use mathlib.Core.List.{List, [], ◌∷◌}
use native.Mathlib.Omega.{arith}
use lib.Dec.{eqb, ltb}
use lib.ListN.{length, take, drop, get_or}
use borrow.Author.Tests.{ltb-true, ltb-false, le-ltb, eqb-true, eqb-false}
use Rattle.tables.specs.declared.Ty.{Ty}
use Rattle.tables.proofs.Kept.{no_yes}
use Rattle.texts.specs.declared.Taken.{Taken}
use Rattle.texts.specs.declared.SignedRecord.{SignedRecord}
use Rattle.texts.specs.Split.{tokens}
use Rattle.texts.specs.Names.{only}
use Rattle.texts.specs.Reading.{no, got, name_in}
use Rattle.texts.specs.Model.Stages.{taken_in, ended}
use Rattle.texts.specs.Model.Structs.{as_took, signed_reply, several, NextToken}
use Rattle.texts.proofs.Places.{no_token, several_more}
use Rattle.texts.proofs.Steps.{ended_many}
use Rattle.texts.proofs.Staged.{taken_rest}

-- ---- the token from a to z, the first from the place i on, and what stands behind it, from the place q on

module _ (l : List ℕ) (i a z q : ℕ) (ordered : a ≤ z) (first : NextToken l i a z) (same : tokens (drop q l) ≡ tokens (drop z l)) (least : z ≤ q) (most : q ≤ length l)
    (some : q < length l → get_or l q 0 ≡ 32 → ⊥) where
  pub is_several : ltb q (length l) ≡ several (tokens (drop i l))
  is_several = go (eqb a z) refl (ltb q (length l)) refl
    where
      one : a < z → several (tokens (drop i l)) ≡ several (take (z - a) (drop a l) ∷ tokens (drop q l))
      one h = ap several (first.0 h) ∙ ap (λ (x : List (List ℕ)). several (take (z - a) (drop a l) ∷ x)) (sym same)

      go : (p : Bool) → eqb a z ≡ p → (b : Bool) → ltb q (length l) ≡ b → ltb q (length l) ≡ several (tokens (drop i l))
      go true e b f = let h = first.1 (eqb-true a z e) in le-ltb q (length l) (omega (arith, h.0, least)) ∙ sym (ap several h.1)
      go false e true f =
          let k = ltb-true q (length l) f in
          let n : a ≡ z → ⊥ = eqb-false a z e in
          f ∙ sym (one (omega (arith, n, ordered)) ∙ several_more l q (take (z - a) (drop a l)) k (some k))
      go false e false f =
          let n : a ≡ z → ⊥ = eqb-false a z e in
          f ∙ sym (one (omega (arith, n, ordered)) ∙ ap (λ (x : List (List ℕ)). several (take (z - a) (drop a l) ∷ x)) (no_token l q (ltb-false q (length l) f)))

-- alone it is the only one
only_first : (t : List ℕ) (ts : List (List ℕ)) → several (t ∷ ts) ≡ false → only (t ∷ ts) ≡ t
only_first t [] h = refl
only_first t (u ∷ ts) h = absurd (no_yes (sym h))

pub is_only : (l : List ℕ) (i a z : ℕ) → a ≤ z → NextToken l i a z → several (tokens (drop i l)) ≡ false → take (z - a) (drop a l) ≡ only (tokens (drop i l))
is_only l i a z ordered first s = go (eqb a z) refl
  where
    go : (p : Bool) → eqb a z ≡ p → take (z - a) (drop a l) ≡ only (tokens (drop i l))
    go true e =
        let q = eqb-true a z e in
        let n : z - a ≡ 0 = omega arith in
        ap (λ (k : ℕ). take k (drop a l)) n ∙ sym (ap only (first.1 q).1)
    go false e =
        let n : a ≡ z → ⊥ = eqb-false a z e in
        let h = first.0 (omega (arith, n, ordered)) in
        sym (ap only h ∙ only_first (take (z - a) (drop a l)) (tokens (drop z l)) (sym (ap several h) ∙ s))

-- ---- a line that gives a record

module _ (L : ℕ → Ty) (G : Bool → ℕ → Bool) (ds : List ℕ) (f : ℕ) (l : List ℕ) (t : Taken) where
  -- has one token behind its numbers at most
  record_taken : {rec : List ℕ} {s : List Bool} → got rec s ≡ ended L G ds f (as_took l (Some t)) → several (tokens (drop t.at l)) ≡ false
  record_taken {rec} {s} e = go (several (tokens (drop t.at l))) refl
    where
      go : (q : Bool) → several (tokens (drop t.at l)) ≡ q → several (tokens (drop t.at l)) ≡ false
      go false b = b
      go true b = let q : got rec s ≡ no BadOperand = e ∙ ended_many L G f t.rec t.minus t.len ds t.big true (tokens (drop t.at l)) refl b in let z : ◌≡◌ {A = ℕ} 0 1 = cc in absurd (omega arith)

  pub is_name : {r : Result SignedRecord Refusal} (ts : List (List ℕ)) (a z : ℕ) → taken_in f ts ≡ as_took l (Some t) → a ≤ z → NextToken l t.at a z
      → signed_reply r ≡ ended L G ds f (as_took l (Some t)) → (o : SignedRecord) → r ≡ Ok o → take (z - a) (drop a l) ≡ name_in f ts
  is_name ts a z k ordered first e o h = is_only l t.at a z ordered first (record_taken (sym (ap signed_reply h) ∙ e)) ∙ ap only (sym (taken_rest f ts l t k))
