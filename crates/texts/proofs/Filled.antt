-- The records of a line go into a table one behind the other: one law for an operand that has a minus, one for an operand that has none, and one for the end. Assumes nothing.
use Prim.Native.Nat.{ℕ, suc, ◌+◌, ◌-◌, ◌≤◌, ◌<◌}
use mathlib.Core.Path.{◌≡◌, refl, sym, ap, ◌∙◌, subst, subst₃}
use mathlib.Core.Bool.{Bool, true, false}
use mathlib.Core.List.{List}
use native.Mathlib.Omega.{arith}
use native.Mathlib.Numerals.{add-one}
use lib.ListN.{length, get_or, set, length-set}
use lib.Seq.{get_or-set_other}
use Rattle.tables.specs.declared.Note.{Note}
use Rattle.tables.specs.Pick.{pick}
use Rattle.tables.specs.Lines.{fields, kind_in, sort_in, first_in}
use Rattle.tables.specs.Layout.{room, record_at, with_id}
use Rattle.tables.specs.Ids.{not_kind}
use Rattle.tables.proofs.Places.{length_recorded}
use Rattle.texts.specs.Minus.{minus_at, minuses_from}
use Rattle.texts.specs.Model.Filling.{Filling, filling, added, not_in, added_from, Signed, Ready}

-- q is the record of the line at the place a, and r the not record of that line: it is put
pub not_put : (F : Filling) (a : ℕ) {G : Filling} {q r : List ℕ} → G ≡ added F r 0 → r ≡ fields not_kind (sort_in q) a 0 0 → q ≡ record_at false F.table (a - 1)
    → G ≡ added F (not_in F.table a) 0
not_put F a g e o = g ∙ ap (λ (r : List ℕ). added F r 0) (e ∙ ap (λ (q : List ℕ). fields not_kind (sort_in q) a 0 0) o)

-- The operands before the place j are passed: W, what the whole line leaves, is what the rest of it leaves, put to F, and the rest can be put. The table has len words, and own is
-- the line's record so far.
pub record Passed (s : List Bool) (d : ℕ) (W : Filling) (len j : ℕ) (F : Filling) (own : List ℕ) : Type 0 where
  pub low : 2 ≤ j
  pub high : j ≤ 5
  pub sized : length own ≡ 5
  pub same : length F.table ≡ len
  pub ready : Ready s (5 - j) j F.count (room false len) own
  pub rest : W ≡ added_from s (5 - j) j F own d

pub none_passed : {s : List Bool} {n : ℕ} {table rec : List ℕ} (notes : List Note) (d : ℕ) → length rec ≡ 5 → Ready s 3 2 n (room false (length table)) rec
    → Passed s d (added_from s 3 2 (filling table notes n) rec d) (length table) 2 (filling table notes n) rec
none_passed notes d z r = record { low = omega arith; high = omega arith; sized = z; same = refl; ready = r; rest = refl }

module _ {s : List Bool} {d len j : ℕ} {W F : Filling} {own : List ℕ} (P : Passed s d W len j F own) where
  -- ---- one operand

  module _ (on : j < 5) where
    one_less : 5 - j ≡ suc (5 - suc j)
    one_less = omega arith

    step : Ready s (suc (5 - suc j)) j F.count (room false len) own
    step = subst (λ (m : ℕ). Ready s m j F.count (room false len) own) one_less P.ready

    left : (b : Bool) → minus_at s j ≡ b → F.count + (pick b 1 0 + minuses_from s (5 - suc j) (suc j)) < room false len
    left b e = subst (λ (c : Bool). F.count + (pick c 1 0 + minuses_from s (5 - suc j) (suc j)) < room false len) e step.left

    turn : (b : Bool) → minus_at s j ≡ b
        → W
        ≡ pick b (added_from s (5 - suc j) (suc j) (added F (not_in F.table (get_or own j 0)) 0) (set own j (F.count + 1)) d) (added_from s (5 - suc j) (suc j) F own d)
    turn b e =
        P.rest
        ∙ ap (λ (m : ℕ). added_from s m j F own d) one_less
        ∙ ap
        (λ (c : Bool).
        pick c (added_from s (5 - suc j) (suc j) (added F (not_in F.table (get_or own j 0)) 0) (set own j (F.count + 1)) d) (added_from s (5 - suc j) (suc j) F own d))
        e

    -- there is room for a not record and for one more behind it, and its operand is one of the records so far
    pub can_put_not : minus_at s j ≡ true → (F.count + 1 < room false (length F.table)) × ((1 ≤ get_or own j 0) × (get_or own j 0 ≤ F.count))
    can_put_not e = (subst (λ (k : ℕ). F.count + 1 < room false k) (sym P.same) (omega (arith, left true e)), P.ready.named j (omega arith, (omega arith, e)))

    -- what is there then, and the line's record then, are handed over with their equations
    pub with_not : {G : Filling} {r : List ℕ} → minus_at s j ≡ true → G ≡ added F (not_in F.table (get_or own j 0)) 0 → r ≡ set own j (F.count + 1) → Passed s d W len (j + 1) G r
    with_not e g o =
        subst₃ (λ (i : ℕ) (G : Filling) (r : List ℕ). Passed s d W len i G r) (sym (add-one j)) (sym g) (sym o)
        (record {
          low = omega (arith, P.low);
          high = omega arith;
          sized = length-set own j (F.count + 1) ∙ P.sized;
          same = length_recorded false F.table F.count (with_id (not_in F.table (get_or own j 0)) 0) ∙ P.same;
          ready =
              record {
                left = omega (arith, left true e);
                named = named;
                sort = λ k. absurd ((P.ready.sort (sym (other 0 (omega (arith, P.low))) ∙ k)).1 j (omega arith, (omega arith, e)));
              };
          rest = turn true e;
        })
      where
        other : (i : ℕ) → (i ≡ j → ⊥) → get_or (set own j (F.count + 1)) i 0 ≡ get_or own i 0
        other i n = get_or-set_other own j i (F.count + 1) 0 n

        named : (i : ℕ) → Signed s (suc j) i → (1 ≤ get_or (set own j (F.count + 1)) i 0) × (get_or (set own j (F.count + 1)) i 0 ≤ F.count + 1)
        named i h = let p = P.ready.named i (omega arith, h.1) in let q = other i (λ z. omega arith) in (omega (arith, p.0, q), omega (arith, p.1, q))

    pub without : {G : Filling} {r : List ℕ} → minus_at s j ≡ false → G ≡ F → r ≡ own → Passed s d W len (j + 1) G r
    without e g o =
        subst₃ (λ (i : ℕ) (G : Filling) (r : List ℕ). Passed s d W len i G r) (sym (add-one j)) (sym g) (sym o)
        (record {
          low = omega (arith, P.low);
          high = omega arith;
          sized = P.sized;
          same = P.same;
          ready =
              record {
                left = omega (arith, left false e);
                named = λ i h. P.ready.named i (omega arith, h.1);
                sort = λ k. ((P.ready.sort k).0, λ i h. (P.ready.sort k).1 i (omega arith, h.1));
              };
          rest = turn false e;
        })

  -- ---- the end

  module _ (past : 5 ≤ j) where
    none_left : 5 - j ≡ 0
    none_left = omega arith

    pub can_put_own : (F.count < room false (length F.table)) × (kind_in own ≡ 1 → first_in own ≤ 64)
    can_put_own = (subst (λ (k : ℕ). F.count < room false k) (sym P.same) (omega (arith, P.ready.left)), λ k. (P.ready.sort k).0)

    pub all_passed : {G : Filling} → G ≡ added F own d → G ≡ W
    all_passed g = g ∙ sym (P.rest ∙ ap (λ (m : ℕ). added_from s m j F own d) none_left)
