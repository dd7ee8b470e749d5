-- In lines that are read to the end every name is new. Assumes nothing.
use Prim.Native.Nat.{ℕ, zero, suc, ◌<◌}
use mathlib.Core.Path.{◌≡◌, refl, sym, ap, ◌∙◌, subst}
use mathlib.Core.Bool.{Bool, true, false, ◌||◌}
use mathlib.Core.List.{List, [], ◌∷◌}
use mathlib.Core.Logic.{◌⊎◌, inl, inr, ⊎_elim}
use native.Mathlib.Omega.{arith}
use lib.ListN.{length, get_or}
use borrow.Author.Tests.{eq-eqb}
use Rattle.tables.proofs.Kept.{no_yes}
use Rattle.texts.specs.Split.{up_to, tokens, split, same_bytes}
use Rattle.texts.specs.Names.{among, used, with_name}
use Rattle.texts.specs.Reading.{word_in, line_name, Reply, skip, no, got, line_tokens, done, refused, Sofar, with_line, reply_after, read_lines}
use Rattle.texts.proofs.Kept.{gives_after}
use Rattle.texts.proofs.Reached.{step_got, step_skip, step_no}
use Rattle.texts.proofs.Taking.{blank}

-- the name of the line j, counted from 0
abbrev pub name_on : List (List ℕ) → (j : ℕ) → List ℕ
name_on xs j = line_name (line_tokens (get_or xs j []))

-- a line without tokens has none
no_tokens : line_name [] ≡ []
unfolding word_in
no_tokens = refl

pub blank_name : (m : ℕ) (b : Sofar) (ts : List (List ℕ)) → reply_after m b ts ≡ skip → line_name ts ≡ []
blank_name m b ts e = ap line_name (blank m b ts e) ∙ no_tokens

past_end : (j : ℕ) → name_on [] j ≡ []
unfolding tokens split up_to word_in
past_end j = refl

-- ---- every name is new

-- no name of the lines is one of ns, nor one of a line before
abbrev pub AllNew : (ns xs : List (List ℕ)) → Type 0
AllNew ns [] = Unit {0}
AllNew ns (x ∷ xs) = (used (line_name (line_tokens x)) ns ≡ false) × AllNew (with_name (line_name (line_tokens x)) ns) xs

pub all_new : (m l : ℕ) (b : Sofar) (xs out : List (List ℕ)) (ids : List ℕ) → read_lines m l b xs ≡ done out ids → AllNew b.names xs
all_new m l b [] out ids q = tt
all_new m l b (x ∷ xs) out ids q = go (reply_after m b (line_tokens x)) refl (all_new m (suc l) b xs out ids) (λ r s. all_new m (suc l) (with_line b (line_tokens x) r s) xs out ids)
  where
    go : (y : Reply) → reply_after m b (line_tokens x) ≡ y → (read_lines m (suc l) b xs ≡ done out ids → AllNew b.names xs)
        → ((r : List ℕ) (s : List Bool) → read_lines m (suc l) (with_line b (line_tokens x) r s) xs ≡ done out ids → AllNew (with_name (line_name (line_tokens x)) b.names) xs) → AllNew b.names (x ∷ xs)
    go skip h f g =
        let e = blank_name m b (line_tokens x) h in
        rw e (refl, f (sym (step_skip m l b x xs h) ∙ q))
    go (no r) h f g = let z : refused r l ≡ done out ids = sym (step_no m l b x xs r h) ∙ q in let w : ◌≡◌ {A = ℕ} 0 1 = cc in absurd (omega arith)
    go (got r s) h f g = ((gives_after m b (line_tokens x) r s h).unused, g r s (sym (step_got m l b x xs r s h) ∙ q))

-- ---- among names

same_self : (t : List ℕ) → same_bytes t t ≡ true
same_self [] = refl
same_self (c ∷ t) = rw (eq-eqb c c refl) (same_self t)

-- a name stays
still_among : (t u : List ℕ) (ns : List (List ℕ)) → among t ns ≡ true → among t (with_name u ns) ≡ true
still_among t [] ns h = h
still_among t (c ∷ u) ns h = go (same_bytes t (c ∷ u))
  where
    go : (b : Bool) → (b || among t ns) ≡ true
    go true = refl
    go false = h

-- and is there once it was put
put_among : (t : List ℕ) (ns : List (List ℕ)) → 0 < length t → among t (with_name t ns) ≡ true
put_among [] ns h = absurd (omega arith)
put_among (c ∷ t) ns h = rw (same_self (c ∷ t)) refl

used_some : (t : List ℕ) (ns : List (List ℕ)) → used t ns ≡ false → among t ns ≡ true → t ≡ []
used_some [] ns h k = refl
used_some (c ∷ t) ns h k = absurd (no_yes (sym h ∙ k))

-- a name that was there is on no line behind
none_behind : (ns xs : List (List ℕ)) → AllNew ns xs → (t : List ℕ) → among t ns ≡ true → (j : ℕ) → name_on xs j ≡ t → t ≡ []
none_behind ns [] N t a j e = sym e ∙ past_end j
none_behind ns (x ∷ xs) N t a zero e = used_some t ns (subst (λ (u : List ℕ). used u ns ≡ false) e N.0) a
none_behind ns (x ∷ xs) N t a (suc j) e = none_behind (with_name (line_name (line_tokens x)) ns) xs N.1 t (still_among t (line_name (line_tokens x)) ns a) j e

pub some_or : (t : List ℕ) → (t ≡ []) ⊎ (0 < length t)
some_or [] = inl refl
some_or (c ∷ t) = inr (omega arith)

pub names_differ : (ns xs : List (List ℕ)) → AllNew ns xs → (i j : ℕ) → i < j → name_on xs i ≡ name_on xs j → name_on xs i ≡ []
names_differ ns [] N i j l e = past_end i
names_differ ns (x ∷ xs) N zero zero l e = absurd (omega arith)
names_differ ns (x ∷ xs) N zero (suc j) l e =
    let t : List ℕ = line_name (line_tokens x) in
    ⊎_elim (λ q. q) (λ q. none_behind (with_name t ns) xs N.1 t (put_among t ns q) j (sym e)) (some_or t)
names_differ ns (x ∷ xs) N (suc i) zero l e = absurd (omega arith)
names_differ ns (x ∷ xs) N (suc i) (suc j) l e = names_differ (with_name (line_name (line_tokens x)) ns) xs N.1 i j (omega arith) e
