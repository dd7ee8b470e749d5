-- The line's word, token by token.
use Prim.Native.Nat.{ℕ, ◌-◌}
use native.Mathlib.Omega.{arith}
use mathlib.Core.Path.{◌≡◌, sym, ap, ◌∙◌}
use mathlib.Core.List.{List, [], ◌∷◌}
use lib.ListN.{take, drop}
use Rattle.texts.specs.Split.{tokens}
use Rattle.texts.specs.Reading.{word_in, sort_words}
use Rattle.texts.proofs.Places.{next_token, no_token}
use Rattle.texts.proofs.Words.{word_none, word_sort_lem, word_other, found_some, form_some, form_none, sort_form, word_form}
use Rattle.forms.proofs.heads.word.Goals as goal

pub returns-then-a-l : goal.returns-then-a-l
returns-then-a-l c =
    let l : List ℕ = c.args.l.now in
    let n : tokens (drop c.args.i l) ≡ [] = sym c.skip-a.ensures.1.1.0 ∙ no_token l c.skip-a.result (omega arith) in
    (ap (λ (x : List (List ℕ)). word_in x) n ∙ word_none, tt)

pub returns-in_err-f : goal.returns-in_err-f
returns-in_err-f c =
    let l : List ℕ = c.args.l.now in
    let a : ℕ = c.skip-a.result in
    let z : ℕ = c.find_byte-z.result in
    let t = take (z - a) (drop a l) in
    let n : tokens (drop c.args.i l) ≡ t ∷ tokens (drop z l) =
    sym c.skip-a.ensures.1.1.0 ∙ next_token l a z (omega arith) (c.skip-a.ensures.1.1.1 (omega arith)) c.find_byte-z.ensures.1.1 in
    let e = sym c.find.ensures ∙ c.in_err-f.was in
    rw c.from_residual.ensures
    (ap (λ (x : List (List ℕ)). word_in x) n ∙ (word_other t (tokens (drop z l)) (sym c.is_sort.ensures ∙ c.if-not-is_sort.true) ∙ form_none _ (tokens (drop z l)) e), tt)

pub returns-then-not-is_sort : goal.returns-then-not-is_sort
returns-then-not-is_sort c =
    let l : List ℕ = c.args.l.now in
    let a : ℕ = c.skip-a.result in
    let z : ℕ = c.find_byte-z.result in
    let t = take (z - a) (drop a l) in
    let n : tokens (drop c.args.i l) ≡ t ∷ tokens (drop z l) =
    sym c.skip-a.ensures.1.1.0 ∙ next_token l a z (omega arith) (c.skip-a.ensures.1.1.1 (omega arith)) c.find_byte-z.ensures.1.1 in
    let e = sym c.find.ensures ∙ c.in_ok-f.was in
    let k = found_some _ _ e in (
      ap (λ (x : List (List ℕ)). word_in x) n ∙ (word_other t (tokens (drop z l)) (sym c.is_sort.ensures ∙ c.if-not-is_sort.true) ∙ form_some _ _ (tokens (drop z l)) e),
      (omega arith, (k.0, omega (arith, k.1, (word_form t).0))),
    )

pub returns-then-b-l : goal.returns-then-b-l
returns-then-b-l c =
    let l : List ℕ = c.args.l.now in
    let a : ℕ = c.skip-a.result in
    let z : ℕ = c.find_byte-z.result in
    let n : tokens (drop c.args.i l) ≡ take (z - a) (drop a l) ∷ tokens (drop z l) =
    sym c.skip-a.ensures.1.1.0 ∙ next_token l a z (omega arith) (c.skip-a.ensures.1.1.1 (omega arith)) c.find_byte-z.ensures.1.1 in
    let k : tokens (drop z l) ≡ [] = sym c.skip-b.ensures.1.1.0 ∙ no_token l c.skip-b.result (omega arith) in
    (ap (λ (x : List (List ℕ)). word_in x) n ∙ (word_sort_lem (take (z - a) (drop a l)) (tokens (drop z l)) (sym c.is_sort.ensures ∙ c.if-not-is_sort.false) ∙ ap (λ (x : List (List ℕ)). sort_words x) k), tt)

pub returns-in_err-f-2 : goal.returns-in_err-f-2
returns-in_err-f-2 c =
    let l : List ℕ = c.args.l.now in
    let a : ℕ = c.skip-a.result in
    let z : ℕ = c.find_byte-z.result in
    let n : tokens (drop c.args.i l) ≡ take (z - a) (drop a l) ∷ tokens (drop z l) =
    sym c.skip-a.ensures.1.1.0 ∙ next_token l a z (omega arith) (c.skip-a.ensures.1.1.1 (omega arith)) c.find_byte-z.ensures.1.1 in
    let b : ℕ = c.skip-b.result in
    let y : ℕ = c.find_byte-y.result in
    let u = take (y - b) (drop b l) in
    let k : tokens (drop z l) ≡ u ∷ tokens (drop y l) =
    sym c.skip-b.ensures.1.1.0 ∙ next_token l b y (omega arith) (c.skip-b.ensures.1.1.1 (omega arith)) c.find_byte-y.ensures.1.1 in
    let e = sym c.find_kind.ensures ∙ c.in_err-f-2.was in
    rw c.from_residual-in_err-f-2.ensures (
      ap (λ (x : List (List ℕ)). word_in x) n ∙ (word_sort_lem (take (z - a) (drop a l)) (tokens (drop z l)) (sym c.is_sort.ensures ∙ c.if-not-is_sort.false)
          ∙ (ap (λ (x : List (List ℕ)). sort_words x) k ∙ form_none _ (tokens (drop y l)) e)),
      tt,
    )

pub returns : goal.returns
returns c =
    let l : List ℕ = c.args.l.now in
    let a : ℕ = c.skip-a.result in
    let z : ℕ = c.find_byte-z.result in
    let n : tokens (drop c.args.i l) ≡ take (z - a) (drop a l) ∷ tokens (drop z l) =
    sym c.skip-a.ensures.1.1.0 ∙ next_token l a z (omega arith) (c.skip-a.ensures.1.1.1 (omega arith)) c.find_byte-z.ensures.1.1 in
    let b : ℕ = c.skip-b.result in
    let y : ℕ = c.find_byte-y.result in
    let u = take (y - b) (drop b l) in
    let k : tokens (drop z l) ≡ u ∷ tokens (drop y l) =
    sym c.skip-b.ensures.1.1.0 ∙ next_token l b y (omega arith) (c.skip-b.ensures.1.1.1 (omega arith)) c.find_byte-y.ensures.1.1 in
    let e = sym c.find_kind.ensures ∙ c.in_ok-f-2.was in
    let f = found_some _ _ e in (
      ap (λ (x : List (List ℕ)). word_in x) n ∙ (word_sort_lem (take (z - a) (drop a l)) (tokens (drop z l)) (sym c.is_sort.ensures ∙ c.if-not-is_sort.false)
          ∙ (ap (λ (x : List (List ℕ)). sort_words x) k ∙ form_some _ _ (tokens (drop y l)) e)),
      (omega arith, (f.0, omega (arith, f.1, (sort_form u).0))),
    )
