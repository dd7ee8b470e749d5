-- Lines that are read to the end, each with the record that it gives: blank lines and the numbers of lines are of no matter. Assumes nothing.
use Prim.Native.Nat.{ℕ, suc}
use mathlib.Core.Path.{◌≡◌, refl, sym, ◌∙◌, subst}
use mathlib.Core.Bool.{Bool, true, false}
use mathlib.Core.List.{List, [], ◌∷◌, map}
use native.Mathlib.Omega.{arith}
use Rattle.tables.specs.declared.Refusal.{Refusal}
use Rattle.texts.specs.Reading.{Reply, skip, no, got, lowest, line_tokens, read_line, done, refused, Sofar, with_line, read_lines_by, reply_after, read_lines}
use Rattle.texts.specs.WrittenOut.{some_lines}
use Rattle.texts.proofs.Lowest.{holds, passes}
use Rattle.texts.proofs.Reached.{step_got, step_skip, step_no}

-- after those so far the lines xs give the records out with the ids ids
abbrev pub Takes : (m : ℕ) (b : Sofar) → List (List (List ℕ)) → (out : List (List ℕ)) (ids : List ℕ) → Type 0
Takes m b [] out ids = (out ≡ b.records) × (ids ≡ b.ids)
Takes m b ([] ∷ xs) out ids = Takes m b xs out ids
Takes m b ((t ∷ ts) ∷ xs) out ids = (r : List ℕ) × ((s : List Bool) × ((reply_after m b (t ∷ ts) ≡ got r s) × Takes m (with_line b (t ∷ ts) r s) xs out ids))

lowest_some : (xs : List (Refusal × Bool)) (r : List ℕ) (s : List Bool) → lowest xs (got r s) ≡ skip → ⊥
unfolding lowest
lowest_some [] r s e = let w : ◌≡◌ {A = ℕ} 0 1 = cc in omega arith
lowest_some (x ∷ xs) r s e = go x.1 refl (lowest_some xs r s)
  where
    go : (b : Bool) → x.1 ≡ b → (lowest xs (got r s) ≡ skip → ⊥) → ⊥
    go true q f = let z : no x.0 ≡ skip = sym (holds x.0 x.1 xs (got r s) q) ∙ e in let w : ◌≡◌ {A = ℕ} 0 1 = cc in omega arith
    go false q f = f (sym (passes x.0 x.1 xs (got r s) q) ∙ e)

no_skip : (m : ℕ) (b : Sofar) (t : List ℕ) (ts : List (List ℕ)) → reply_after m b (t ∷ ts) ≡ skip → ⊥
unfolding read_line
no_skip m b t ts e = lowest_some _ _ _ e

-- a line that gives nothing has no tokens
pub blank : (m : ℕ) (b : Sofar) (ts : List (List ℕ)) → reply_after m b ts ≡ skip → ts ≡ []
blank m b [] e = refl
blank m b (t ∷ ts) e = absurd (no_skip m b t ts e)

pub takes_lines : (m l : ℕ) (b : Sofar) (xs out : List (List ℕ)) (ids : List ℕ) → read_lines m l b xs ≡ done out ids → Takes m b (map line_tokens xs) out ids
unfolding read_lines_by read_line
takes_lines m l b [] out ids q = let e : b.records ≡ out = cc in let d : b.ids ≡ ids = cc in (sym e, sym d)
takes_lines m l b (x ∷ xs) out ids q =
    by_tokens (line_tokens x) refl (takes_lines m (suc l) b xs out ids) (λ r s. takes_lines m (suc l) (with_line b (line_tokens x) r s) xs out ids)
  where
    -- a line that is not blank
    by_reply : (t : List ℕ) (ts : List (List ℕ)) → line_tokens x ≡ t ∷ ts → (y : Reply) → reply_after m b (line_tokens x) ≡ y
        → ((r : List ℕ) (s : List Bool) → read_lines m (suc l) (with_line b (line_tokens x) r s) xs ≡ done out ids → Takes m (with_line b (line_tokens x) r s) (map line_tokens xs) out ids)
        → Takes m b ((t ∷ ts) ∷ map line_tokens xs) out ids
    by_reply t ts e skip h g = absurd (no_skip m b t ts (subst (λ (u : List (List ℕ)). reply_after m b u ≡ skip) e h))
    by_reply t ts e (no r) h g = let z : refused r l ≡ done out ids = sym (step_no m l b x xs r h) ∙ q in let w : ◌≡◌ {A = ℕ} 0 1 = cc in absurd (omega arith)
    by_reply t ts e (got r s) h g = (
      r,
      (
        s,
        (
          subst (λ (u : List (List ℕ)). reply_after m b u ≡ got r s) e h,
          subst (λ (u : List (List ℕ)). Takes m (with_line b u r s) (map line_tokens xs) out ids) e (g r s (sym (step_got m l b x xs r s h) ∙ q)),
        ),
      ),
    )

    by_tokens : (u : List (List ℕ)) → line_tokens x ≡ u → (read_lines m (suc l) b xs ≡ done out ids → Takes m b (map line_tokens xs) out ids)
        → ((r : List ℕ) (s : List Bool) → read_lines m (suc l) (with_line b (line_tokens x) r s) xs ≡ done out ids → Takes m (with_line b (line_tokens x) r s) (map line_tokens xs) out ids)
        → Takes m b (line_tokens x ∷ map line_tokens xs) out ids
    by_tokens [] e f g = subst (λ (u : List (List ℕ)). Takes m b (u ∷ map line_tokens xs) out ids) (sym e) (f (sym (step_skip m l b x xs (gives_none e)) ∙ q))
      where
        gives_none : line_tokens x ≡ [] → reply_after m b (line_tokens x) ≡ skip
        gives_none h = rw h refl
    by_tokens (t ∷ ts) e f g = subst (λ (u : List (List ℕ)). Takes m b (u ∷ map line_tokens xs) out ids) (sym e) (by_reply t ts e (reply_after m b (line_tokens x)) refl g)

-- blank lines give nothing
pub takes_some : (m : ℕ) (b : Sofar) (xs : List (List (List ℕ))) (out : List (List ℕ)) (ids : List ℕ) → Takes m b xs out ids → Takes m b (some_lines xs) out ids
takes_some m b [] out ids h = h
takes_some m b ([] ∷ xs) out ids h = takes_some m b xs out ids h
takes_some m b ((t ∷ ts) ∷ xs) out ids h = let r = h.0 in let s = h.1.0 in (r, (s, (h.1.1.0, takes_some m (with_line b (t ∷ ts) r s) xs out ids h.1.1.1)))
