-- The ids 1, 2, 3: each is the place of its line, so a record that keeps the rules stays as it is where its ids are replaced by places. Assumes nothing.
use Prim.Native.Nat.{ℕ, zero, suc, ◌+◌, ◌-◌, ◌≤◌, ◌<◌}
use mathlib.Core.Path.{◌≡◌, refl, sym, ap, ◌∙◌}
use mathlib.Core.Bool.{Bool, true, false, ◌&&◌, ◌||◌}
use mathlib.Core.List.{List}
use native.Mathlib.Omega.{arith}
use lib.Dec.{T, eqb, leb, leb→le}
use lib.ListN.{length, get_or}
use mir.Facts.{and_yes}
use borrow.Author.Tests.{eqb-true, leb-true}
use Rattle.tables.specs.declared.Ty.{Ty}
use Rattle.tables.specs.Pick.{pick}
use Rattle.tables.specs.Kinds.{row_of, sort_class, first_class, second_class, third_class}
use Rattle.tables.specs.Lines.{kind_in, sort_in, first_in, second_in, third_in}
use Rattle.tables.specs.Layout.{record_words, from}
use Rattle.tables.specs.Types.{rank, is_sort, is_value, Ctx, ty_at}
use Rattle.tables.specs.Rules.{suits}
use Rattle.tables.specs.Tables.{known, formed, keeps}
use Rattle.tables.proofs.Every.{every, at_each}
use Rattle.tables.proofs.Kept.{both, known_range, kept_fault}
use Rattle.tables.proofs.Answers.{passed}
use Rattle.tables.proofs.Places.{fields_of, fields_eq}
use Rattle.tables.proofs.Showing.{earlier}
use Rattle.tables.proofs.OwnSorts.{Counted}
use Rattle.tables.proofs.Ids.{length_from, from_at}
use Rattle.texts.specs.Operands.{place_by_id_from, place_by_id, meant, resolved}
use Rattle.texts.specs.Reading.{last_of}
use Rattle.texts.proofs.Resolving.{place_first, place_named}

-- ---- 1, 2, 3

pub last_from : (l n : ℕ) → last_of l (from (suc l) n) ≡ l + n
last_from l zero = omega arith
last_from l (suc n) = last_from (suc l) n ∙ omega arith

place_from : (b n v : ℕ) → b ≤ v → v < b + n → place_by_id_from b (from b n) v ≡ v
place_from b n v h l =
    let at : get_or (from b n) (v - b) 0 ≡ v = from_at b n (v - b) (omega arith) ∙ omega arith in
    place_first b (from b n) v (v - b) (λ j k e. omega (arith, from_at b n j (omega arith))) (omega (arith, length_from b n)) at ∙ omega arith

-- ---- a number in a place

-- a line of the type t has a role
abbrev HasRole : Ty → Type 0
HasRole t = 1 ≤ rank t.role

value_role_lem : (t : Ty) → is_value t ≡ true → HasRole t
value_role_lem t h = omega (arith, leb-true 2 (rank t.role) h)

sort_role_lem : (t : Ty) → is_sort t ≡ true → HasRole t
sort_role_lem t h = omega (arith, eqb-true (rank t.role) 1 h)

-- a line that may stand in a place of the class k, where that is a line's
suits_role : (k : ℕ) (t : Ty) → k ≤ 8 → (eqb k 0 || eqb k 8) ≡ false → suits k t ≡ true → HasRole t
unfolding suits
suits_role zero t l n h = let z : ◌≡◌ {A = ℕ} 0 1 = cc in absurd (omega arith)
suits_role (suc zero) t l n h = value_role_lem t (both (is_value t) _ h).0
suits_role (suc (suc zero)) t l n h = value_role_lem t (both (is_value t) _ h).0
suits_role (suc (suc (suc zero))) t l n h = value_role_lem t h
suits_role (suc (suc (suc (suc zero)))) t l n h = omega (arith, eqb-true (rank t.role) 4 h)
suits_role (suc (suc (suc (suc (suc zero))))) t l n h = sort_role_lem t (both (is_sort t) _ h).0
suits_role (suc (suc (suc (suc (suc (suc zero)))))) t l n h = sort_role_lem t (both (is_sort t) _ h).0
suits_role (suc (suc (suc (suc (suc (suc (suc zero))))))) t l n h = sort_role_lem t h
suits_role (suc (suc (suc (suc (suc (suc (suc (suc zero)))))))) t l n h = let z : ◌≡◌ {A = ℕ} 0 1 = cc in absurd (omega arith)
suits_role (suc (suc (suc (suc (suc (suc (suc (suc (suc k))))))))) t l n h = absurd (omega arith)

-- the lines so far are 1 to n
pub record Numbered (L : ℕ → Ty) (n : ℕ) : Type 0 where
  pub least : (a : ℕ) → HasRole (L a) → 1 ≤ a
  pub most : (a : ℕ) → HasRole (L a) → a ≤ n

meant_same : (L : ℕ → Ty) (n : ℕ) → Numbered L n → (k v : ℕ) → k ≤ 8 → suits k (L v) ≡ true → meant k (from 1 n) v ≡ v
meant_same L n N k v l h = go (eqb k 0 || eqb k 8) refl
  where
    go : (q : Bool) → (eqb k 0 || eqb k 8) ≡ q → pick (eqb k 0 || eqb k 8) v (place_by_id (from 1 n) v) ≡ v
    go true e = rw e refl
    go false e =
        let r = suits_role k (L v) l e h in
        let most = N.most v r in
        rw e (place_named (from 1 n) v (N.least v r) ∙ place_from 1 n v (N.least v r) (omega arith))

-- ---- a record: the classes of a row are at most 8, one computed test

abbrev low : List ℕ → Bool
low row = leb (sort_class row) 8 && (leb (first_class row) 8 && (leb (second_class row) 8 && leb (third_class row) 8))

low_row : ℕ → Bool
low_row i = low (row_of (suc i))

all_low : T (every low_row 63)
unfolding low_row row_of
all_low = tt

low_at : (k : ℕ) → 1 ≤ k → k ≤ 63 → T (low (row_of k))
unfolding low_row
low_at zero a b = absurd (omega arith)
low_at (suc i) a b = at_each low_row 63 all_low i (omega arith)

pub resolved_same : (L : ℕ → Ty) (G : Bool → ℕ → Bool) (n : ℕ) (r : List ℕ) → Numbered L n → length r ≡ record_words → keeps false L G r ≡ true → resolved (from 1 n) r ≡ r
unfolding resolved
resolved_same L G n r N l kp =
    let row = row_of (kind_in r) in
    let k = known_range false (kind_in r) (both (known false (kind_in r)) _ (both (formed false r) _ kp).0).0 in
    let t₁ = and_yes (leb (sort_class row) 8) _ (low_at (kind_in r) k.0 k.1) in
    let t₂ = and_yes (leb (first_class row) 8) _ t₁.1 in
    let t₃ = and_yes (leb (second_class row) 8) _ t₂.1 in
    let c₁ = both (suits (sort_class row) (L (sort_in r))) _ (passed false L G r (kept_fault false L G r kp)).class in
    let c₂ = both (suits (first_class row) (L (first_in r))) _ c₁.1 in
    let c₃ = both (suits (second_class row) (L (second_in r))) _ c₂.1 in
    let c₄ = both (suits (third_class row) (L (third_in r))) _ c₃.1 in
    fields_eq refl (meant_same L n N (sort_class row) (sort_in r) (leb→le (sort_class row) 8 t₁.0) c₁.0)
    (meant_same L n N (first_class row) (first_in r) (leb→le (first_class row) 8 t₂.0) c₂.0)
    (meant_same L n N (second_class row) (second_in r) (leb→le (second_class row) 8 t₃.0) c₃.0)
    (meant_same L n N (third_class row) (third_in r) (leb→le (third_class row) 8 t₃.1) c₄.0)
    ∙ sym (fields_of r l)

-- ---- the lines of a context

pub numbered_lines : (c : Ctx) (n : ℕ) → Counted c n → Numbered (ty_at c) n
numbered_lines c n C = record { least = least; most = λ a h. omega (arith, earlier c.tys a h, C.size) }
  where
    least : (a : ℕ) → HasRole (ty_at c a) → 1 ≤ a
    least zero h = absurd (omega (arith, ap (λ (t : Ty). rank t.role) C.first))
    least (suc a) h = omega arith
