-- A line that is refused by 22 has a name that stands on an earlier line. Assumes nothing.
use Prim.Native.Nat.{ℕ, suc, ◌+◌, ◌<◌}
use mathlib.Core.Path.{◌≡◌, refl, sym, ap, ◌∙◌, subst}
use mathlib.Core.Bool.{Bool, true, false}
use mathlib.Core.List.{List, [], ◌∷◌}
use mathlib.Core.Logic.{◌⊎◌, inl, inr, ⊎_elim}
use native.Mathlib.Omega.{arith}
use lib.ListN.{length}
use Rattle.tables.specs.declared.Refusal.{Refusal}
use Rattle.tables.specs.declared.Refusal.TheVariants.{NameUsed}
use Rattle.tables.specs.Refusals.{number_of}
use Rattle.tables.specs.Types.{ty_at, given}
use Rattle.tables.proofs.Kept.{either, no_yes}
use Rattle.texts.specs.Split.{same_bytes}
use Rattle.texts.specs.Names.{among, used, with_name}
use Rattle.texts.specs.Reading.{word_in, form_of, behind, record_in, signs_in, line_name, refusals, Reply, skip, no, got, lowest, line_tokens, read_line, refused, Sofar, with_line, read_lines_by, reply_after, read_lines}
use Rattle.texts.proofs.Chains.{same_equal}
use Rattle.texts.proofs.LineNames.{name_behind_lem}
use Rattle.texts.proofs.Lowest.{holds, passes}
use Rattle.texts.proofs.Reached.{step_got, step_skip, step_no}
use Rattle.texts.proofs.NewNames.{name_on, blank_name}

-- ---- the test of a refusal that is given holds

abbrev SomeHolds : (q : Refusal) → List (Refusal × Bool) → Type 0
SomeHolds q [] = ⊥
SomeHolds q (x ∷ xs) = ((x.0 ≡ q) × (x.1 ≡ true)) ⊎ SomeHolds q xs

lowest_holds : (xs : List (Refusal × Bool)) (rec : List ℕ) (s : List Bool) (q : Refusal) → lowest xs (got rec s) ≡ no q → SomeHolds q xs
unfolding lowest
lowest_holds [] rec s q e = let w : ◌≡◌ {A = ℕ} 0 1 = cc in absurd (omega arith)
lowest_holds (x ∷ xs) rec s q e = go x.1 refl (lowest_holds xs rec s q)
  where
    go : (b : Bool) → x.1 ≡ b → (lowest xs (got rec s) ≡ no q → SomeHolds q xs) → SomeHolds q (x ∷ xs)
    go true h f = let z : no x.0 ≡ no q = sym (holds x.0 x.1 xs (got rec s) h) ∙ e in let w : x.0 ≡ q = cc in inl (w, h)
    go false h f = inr (f (sym (passes x.0 x.1 xs (got rec s) h) ∙ e))

-- another refusal has another number
other : {q r : Refusal} {X : Type 0} → (number_of q ≡ number_of r → ⊥) → (q ≡ r) × X → ⊥
other n p = n (ap number_of p.0)

line_used : (m : ℕ) (b : Sofar) (ts : List (List ℕ)) → reply_after m b ts ≡ no NameUsed → used (line_name ts) b.names ≡ true
unfolding read_line
line_used m b [] e = let w : ◌≡◌ {A = ℕ} 0 1 = cc in absurd (omega arith)
line_used m b (t ∷ ts) e =
    from
    (lowest_holds (refusals (ty_at b.ctx) (given b.ctx) m b.ids b.names t (form_of (word_in ts)) (behind (word_in ts))) (record_in (ty_at b.ctx) b.ids (form_of (word_in ts)) (behind (word_in ts)))
    (signs_in (form_of (word_in ts)) (behind (word_in ts))) NameUsed e)
  where
    from : SomeHolds NameUsed (refusals (ty_at b.ctx) (given b.ctx) m b.ids b.names t (form_of (word_in ts)) (behind (word_in ts))) → used (line_name (t ∷ ts)) b.names ≡ true
    from (inl p) = absurd (other (λ e. omega (arith, e)) p)
    from (inr (inl p)) = absurd (other (λ e. omega (arith, e)) p)
    from (inr (inr (inl p))) = absurd (other (λ e. omega (arith, e)) p)
    from (inr (inr (inr (inl p)))) = absurd (other (λ e. omega (arith, e)) p)
    from (inr (inr (inr (inr (inl p))))) = absurd (other (λ e. omega (arith, e)) p)
    from (inr (inr (inr (inr (inr (inl p)))))) = absurd (other (λ e. omega (arith, e)) p)
    from (inr (inr (inr (inr (inr (inr (inl p))))))) = absurd (other (λ e. omega (arith, e)) p)
    from (inr (inr (inr (inr (inr (inr (inr (inl p)))))))) = absurd (other (λ e. omega (arith, e)) p)
    from (inr (inr (inr (inr (inr (inr (inr (inr (inl p))))))))) = ap (λ (name : List ℕ). used name b.names) (name_behind_lem (word_in ts)) ∙ p.1
    from (inr (inr (inr (inr (inr (inr (inr (inr (inr (inl p)))))))))) = absurd (other (λ e. omega (arith, e)) p)
    from (inr (inr (inr (inr (inr (inr (inr (inr (inr (inr p)))))))))) = absurd p

-- ---- the lines

-- the line k is refused: its name is one of ns, or stands on an earlier one of the lines xs, of which the first is the line l
pub record Twice (ns xs : List (List ℕ)) (l k : ℕ) : Type 0 where
  pub line : ℕ
  pub is : k ≡ l + line
  pub some : 0 < length (name_on xs line)
  pub before : (among (name_on xs line) ns ≡ true) ⊎ ((i : ℕ) × ((i < line) × (name_on xs i ≡ name_on xs line)))

used_among : (t : List ℕ) (ns : List (List ℕ)) → used t ns ≡ true → (0 < length t) × (among t ns ≡ true)
used_among [] ns e = absurd (no_yes e)
used_among (c ∷ t) ns e = (omega arith, e)

-- a name that is among the names with one more is that one or was there
among_more : (t u : List ℕ) (ns : List (List ℕ)) → among t (with_name u ns) ≡ true → (u ≡ t) ⊎ (among t ns ≡ true)
among_more t [] ns e = inr e
among_more t (c ∷ u) ns e = either (same_bytes t (c ∷ u)) (among t ns) e (λ h. inl (sym (same_equal t (c ∷ u) h))) (λ h. inr h)

-- behind a line
twice_more : (x : List ℕ) (ns xs : List (List ℕ)) (l k : ℕ) → Twice (with_name (line_name (line_tokens x)) ns) xs (suc l) k → Twice ns (x ∷ xs) l k
twice_more x ns xs l k T =
    record {
      line = suc T.line;
      is = omega (arith, T.is);
      some = T.some;
      before =
          ⊎_elim (λ a. ⊎_elim (λ e. inr (0, (omega arith, e))) (λ h. inl h) (among_more (name_on xs T.line) (line_name (line_tokens x)) ns a))
          (λ h. inr (suc h.0, (omega (arith, h.1.0), h.1.1))) T.before;
    }

pub lines_twice : (m l : ℕ) (b : Sofar) (xs : List (List ℕ)) (k : ℕ) → read_lines m l b xs ≡ refused NameUsed k → Twice b.names xs l k
unfolding read_lines_by
lines_twice m l b [] k e = let w : ◌≡◌ {A = ℕ} 0 1 = cc in absurd (omega arith)
lines_twice m l b (x ∷ xs) k e = go (reply_after m b (line_tokens x)) refl (lines_twice m (suc l) b xs k) (λ r s. lines_twice m (suc l) (with_line b (line_tokens x) r s) xs k)
  where
    go : (y : Reply) → reply_after m b (line_tokens x) ≡ y → (read_lines m (suc l) b xs ≡ refused NameUsed k → Twice b.names xs (suc l) k)
        → ((r : List ℕ) (s : List Bool) → read_lines m (suc l) (with_line b (line_tokens x) r s) xs ≡ refused NameUsed k → Twice (with_name (line_name (line_tokens x)) b.names) xs (suc l) k)
        → Twice b.names (x ∷ xs) l k
    go skip h f g =
        twice_more x b.names xs l k
        (subst (λ (t : List ℕ). Twice (with_name t b.names) xs (suc l) k) (sym (blank_name m b (line_tokens x) h)) (f (sym (step_skip m l b x xs h) ∙ e)))
    go (got r s) h f g = twice_more x b.names xs l k (g r s (sym (step_got m l b x xs r s h) ∙ e))
    go (no r) h f g =
        let z : refused r l ≡ refused NameUsed k = sym (step_no m l b x xs r h) ∙ e in
        let w : r ≡ NameUsed = cc in
        let v : l ≡ k = cc in
        let u = used_among (line_name (line_tokens x)) b.names (line_used m b (line_tokens x) (h ∙ ap no w)) in
        record { line = 0; is = omega (arith, v); some = u.0; before = inl u.1 }
