-- The flat line of a cell along writes by constant indexes, and the words of a source. Assumes nothing.
use Prim.Native.Nat.{ℕ, zero, suc, ◌+◌, ◌-◌, ◌*◌, ◌≤◌, ◌<◌}
use mathlib.Core.Path.{◌≡◌, refl, sym, ap, ◌∙◌, subst, subst⁻¹}
use mathlib.Core.Logic.{◌≢◌}
use mathlib.Core.Bool.{Bool, true, false}
use mathlib.Core.List.{[], ◌∷◌}
use native.Mathlib.Nat.{mul-le-mul}
use native.Mathlib.Omega.{arith}
use lib.Dec.{eqb}
use lib.ListN.{length, get_or, replicate}
use borrow.Author.Tests.{eqb-true, eqb-false, eq-eqb, ne_eqb}
use Rattle.tables.specs.Pick.{pick}
use Rattle.std.specs.Prelude.{Option, Some, None, unwrap_or}
use Rattle.flattening.specs.declared.Words.TheVariants.{Cells, Numbers}
use Rattle.flattening.specs.declared.Source.{Source}
use Rattle.flattening.specs.Model.Cells.{Held, nothing, kept_of, at_of, old_of, key_of, written_at, constant_of, own_cell, cell_by, cell_in, Sound}
use Rattle.flattening.specs.Model.Rows.{Tame, TameWords, TameTop, down_from, turn_at, source_at, stepping, of, run_down, of_down}

-- a step of a row
pub product : (x j : ℕ) → x ≤ 256 → j < 256 → x * j ≤ 65280
product x j h l = mul-le-mul h (let k : j ≤ 255 = omega arith in k)

module _ (H : Held) where
  own_by : (k m j : ℕ) → old_of H m ≡ 0 → cell_by H k m j ≡ own_cell H m j
  own_by zero m j e = refl
  own_by (suc k) m j e = rw (eq-eqb (old_of H m) 0 e)

  link_by : (k m j : ℕ) → old_of H m ≢ 0 → cell_by H (suc k) m j ≡ pick (eqb (key_of H m) j) (at_of H m) (cell_by H k (old_of H m) j)
  link_by k m j e = rw (ne_eqb (old_of H m) 0 e)

  -- the number of writes allowed makes no difference
  fuel : Sound H → (k n m j : ℕ) → m ≤ k → m ≤ n → cell_by H k m j ≡ cell_by H n m j
  fuel s zero n m j h l = go (eqb (old_of H m) 0) refl
    where
      go : (b : Bool) → eqb (old_of H m) 0 ≡ b → cell_by H zero m j ≡ cell_by H n m j
      go true e = sym (own_by n m j (eqb-true (old_of H m) 0 e))
      go false e = absurd (let f = s.falls m (eqb-false (old_of H m) 0 e) in omega arith)
  fuel s (suc k) zero m j h l = go (eqb (old_of H m) 0) refl
    where
      go : (b : Bool) → eqb (old_of H m) 0 ≡ b → cell_by H (suc k) m j ≡ cell_by H zero m j
      go true e = own_by (suc k) m j (eqb-true (old_of H m) 0 e)
      go false e = absurd (let f = s.falls m (eqb-false (old_of H m) 0 e) in omega arith)
  fuel s (suc k) (suc n) m j h l = go (λ f. fuel s k n (old_of H m) j (omega arith) (omega arith)) (eqb (old_of H m) 0) refl
    where
      go : (old_of H m < m → cell_by H k (old_of H m) j ≡ cell_by H n (old_of H m) j) → (b : Bool) → eqb (old_of H m) 0 ≡ b → cell_by H (suc k) m j ≡ cell_by H (suc n) m j
      go r true e = own_by (suc k) m j (eqb-true (old_of H m) 0 e) ∙ sym (own_by (suc n) m j (eqb-true (old_of H m) 0 e))
      go r false e =
          let d = eqb-false (old_of H m) 0 e in
          link_by k m j d ∙ ap (λ (x : ℕ). pick (eqb (key_of H m) j) (at_of H m) x) (r (s.falls m d)) ∙ sym (link_by n m j d)

  pub cell_own : (m j : ℕ) → old_of H m ≡ 0 → cell_in H m j ≡ own_cell H m j
  unfolding cell_in
  cell_own m j e = own_by m m j e

  -- a row of numbers, or cells written out
  pub own_run : (m j : ℕ) → key_of H m ≢ 257 → own_cell H m j ≡ at_of H m + key_of H m * j
  own_run m j d = rw (ne_eqb (key_of H m) 257 d)

  pub own_row : (m j : ℕ) → key_of H m ≡ 257 → own_cell H m j ≡ written_at H (at_of H m + j)
  own_row m j e = rw (eq-eqb (key_of H m) 257 e)

  swapped : Sound H → (m j : ℕ) → old_of H m ≢ 0 → cell_in H m j ≡ pick (eqb (key_of H m) j) (at_of H m) (cell_in H (old_of H m) j)
  unfolding cell_in
  swapped s zero j d = absurd (let f = s.falls zero d in omega arith)
  swapped s (suc k) j d =
      let f = s.falls (suc k) d in
      link_by k (suc k) j d ∙ ap (λ (x : ℕ). pick (eqb (key_of H (suc k)) j) (at_of H (suc k)) x) (fuel s k (old_of H (suc k)) (old_of H (suc k)) j (omega arith) (omega arith))

  pub cell_new : Sound H → (m j : ℕ) → old_of H m ≢ 0 → key_of H m ≡ j → cell_in H m j ≡ at_of H m
  cell_new s m j d e = swapped s m j d ∙ rw (eq-eqb (key_of H m) j e)

  pub cell_old : Sound H → (m j : ℕ) → old_of H m ≢ 0 → key_of H m ≢ j → cell_in H m j ≡ cell_in H (old_of H m) j
  cell_old s m j d e = swapped s m j d ∙ rw (ne_eqb (key_of H m) j e)

  own_lt : Sound H → (m j : ℕ) → j < 256 → own_cell H m j < 131072
  own_lt s m j h = go (eqb (key_of H m) 257) refl
    where
      go : (b : Bool) → eqb (key_of H m) 257 ≡ b → own_cell H m j < 131072
      go true e = let r = own_row m j (eqb-true (key_of H m) 257 e) in omega arith
      go false e =
          let d = eqb-false (key_of H m) 257 e in
          let f = s.few m in
          let k : key_of H m ≤ 256 = omega arith in
          let a = s.low m in
          let p = product (key_of H m) j k h in
          let r = own_run m j d in
          omega arith

  lt_by : Sound H → (k m j : ℕ) → j < 256 → cell_by H k m j < 131072
  lt_by s zero m j h = own_lt s m j h
  lt_by s (suc k) m j h = go (eqb (old_of H m) 0) (eqb (key_of H m) j) (lt_by s k (old_of H m) j h)
    where
      go : (b c : Bool) → cell_by H k (old_of H m) j < 131072 → pick b (own_cell H m j) (pick c (at_of H m) (cell_by H k (old_of H m) j)) < 131072
      go true c r = own_lt s m j h
      go false true r = let a = s.low m in omega arith
      go false false r = r

  pub cell_lt : Sound H → (m j : ℕ) → j < 256 → cell_in H m j < 131072
  unfolding cell_in
  cell_lt s m j h = lt_by s m m j h

  pub cell_bound : Sound H → (m j : ℕ) → j < 256 → cell_in H m j ≤ 131072
  cell_bound s m j h = let l = cell_lt s m j h in omega arith

  -- what goes over from the line written over to each line holds of all lines
  pub along : Sound H → (Q : ℕ → Type 0) → ((a : ℕ) → (old_of H a ≢ 0 → Q (old_of H a)) → Q a) → (a : ℕ) → Q a
  along s Q f a = by a a (omega arith)
    where
      by : (k b : ℕ) → b ≤ k → Q b
      by zero b l = f b (λ d. absurd (let z = s.falls b d in omega arith))
      by (suc k) b l = f b (λ d. by k (old_of H b) (let z = s.falls b d in omega arith))

-- a line of which two lists keep the same has its cell j at one flat line, where the line that it writes over has
pub record SameLine (H K : Held) (j a : ℕ) : Type 0 where
  pub at : at_of K a ≡ at_of H a
  pub old : old_of K a ≡ old_of H a
  pub key : key_of K a ≡ key_of H a
  pub own : own_cell K a j ≡ own_cell H a j

pub same_cell : (H K : Held) → Sound H → Sound K → (j a : ℕ) → SameLine H K j a → (old_of H a ≢ 0 → cell_in K (old_of H a) j ≡ cell_in H (old_of H a) j) → cell_in K a j ≡ cell_in H a j
same_cell H K sH sK j a r f = go (eqb (old_of H a) 0) refl
  where
    go : (b : Bool) → eqb (old_of H a) 0 ≡ b → cell_in K a j ≡ cell_in H a j
    go true e =
        let z = eqb-true (old_of H a) 0 e in
        cell_own K a j (r.old ∙ z) ∙ r.own ∙ sym (cell_own H a j z)
    go false e =
        let d = eqb-false (old_of H a) 0 e in
        swapped K sK a j (λ z. d (sym r.old ∙ z)) ∙ (λ i. pick (eqb (r.key i) j) (r.at i) (cell_in K (r.old i) j))
        ∙ ap (λ (x : ℕ). pick (eqb (key_of H a) j) (at_of H a) x) (f d) ∙ sym (swapped H sH a j d)

-- ---- small constants

pub constant_some : (n v : ℕ) → n ≡ v + 1 → Some v ≡ constant_of n
constant_some zero v e = absurd (omega arith)
constant_some (suc u) v e = let q : v ≡ u = omega arith in ap Some q

pub constant_is : (n v : ℕ) → Some v ≡ constant_of n → n ≡ v + 1
constant_is zero v e = absurd (cc)
constant_is (suc u) v e = let q : v ≡ u = ap (λ (o : Option ℕ). unwrap_or o 0) e in omega arith

pub constant_none : (n : ℕ) → None ≡ constant_of n → n ≡ 0
constant_none zero e = refl
constant_none (suc u) e = absurd (cc)

-- ---- sources

pub turn_up : (s : Source) (j : ℕ) → s.top ≡ None → j ≡ turn_at s j
turn_up s j e = rw e

pub turn_down : (s : Source) (j t : ℕ) → s.top ≡ Some t → t - j ≡ turn_at s j
turn_down s j t e = rw e

pub turn_lt : (s : Source) (j : ℕ) → Tame s → j < 256 → turn_at s j < 256
turn_lt s j t h = go s.top t.top
  where
    go : (o : Option ℕ) → TameTop o → down_from o j < 256
    go None k = h
    go (Some p) k = omega arith

-- the numbers of a row are small
pub numbers_low : (s : Source) (j i b d : ℕ) → Tame s → j < 256 → i ≡ turn_at s j → s.words ≡ Numbers b d → (d * i ≤ 65280) × (b + d * i ≤ 1113856)
numbers_low s j i b d t h e q =
    let w = subst TameWords q t.words in
    let l : i < 256 = subst⁻¹ (λ (x : ℕ). x < 256) e (turn_lt s j t h) in
    let p = product d i w.1 l in
    (p, omega (arith, w.0))

pub source_own : (H : Held) (s : Source) (j i b d : ℕ) → i ≡ turn_at s j → s.words ≡ Numbers b d → b + d * i ≡ source_at H s j
source_own H s j i b d t e = ap (λ (x : ℕ). b + d * x) t ∙ rw e

pub source_cell : (H : Held) (s : Source) (j i r a : ℕ) → i ≡ turn_at s j → s.words ≡ Cells a → r ≡ cell_in H a i → r ≡ source_at H s j
source_cell H s j i r a t q e = e ∙ ap (λ (x : ℕ). cell_in H a x) t ∙ rw q

pub tame_run : (b s : ℕ) → b ≤ 1048576 → s ≤ 256 → Tame (stepping b s)
tame_run b s h l = record { words = (h, l); top = tt }

pub tame_of : (a : ℕ) → Tame (of a)
tame_of a = record { words = tt; top = tt }

pub tame_run_down : (b t : ℕ) → b ≤ 1048576 → t < 256 → Tame (run_down b t)
tame_run_down b t h l = record { words = (h, omega arith); top = l }

pub tame_of_down : (a t : ℕ) → t < 256 → Tame (of_down a t)
tame_of_down a t l = record { words = tt; top = l }

-- ---- nothing is kept yet

pub nothing_at : (k : ℕ) → get_or nothing k 0 ≡ 0
nothing_at zero = refl
nothing_at (suc zero) = refl
nothing_at (suc (suc zero)) = refl
nothing_at (suc (suc (suc zero))) = refl
nothing_at (suc (suc (suc (suc zero)))) = refl
nothing_at (suc (suc (suc (suc (suc zero))))) = refl
nothing_at (suc (suc (suc (suc (suc (suc k)))))) = refl

pub nothing_kept : (n k a : ℕ) → kept_of (replicate n nothing) k a ≡ 0
nothing_kept zero k a = nothing_at k
nothing_kept (suc n) k zero = nothing_at k
nothing_kept (suc n) k (suc a) = nothing_kept n k a

-- of a line that there is, whatever the default
pub read_kept : (H : Held) (k a : ℕ) → a < length H → get_or (get_or H a []) k 0 ≡ kept_of H k a
read_kept [] k a h = absurd (omega arith)
read_kept (r ∷ H) k zero h = refl
read_kept (r ∷ H) k (suc a) h = read_kept H k a (omega arith)
