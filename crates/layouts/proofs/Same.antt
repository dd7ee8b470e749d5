-- The two layouts hold the same circuit, and the same program: record for record, in all words. Assumes nothing.
use Rattle.std.specs.Prelude.{Result, Ok, Err}
use Rattle.tables.specs.declared.Refusal.{Refusal}
use Prim.Native.Nat.{ℕ, ◌≤◌, ◌<◌}
use mathlib.Core.Path.{◌≡◌, refl, sym, ap, ◌∙◌, subst}
use mathlib.Core.Bool.{Bool, true, false, not}
use mathlib.Core.List.{List}
use native.Mathlib.Omega.{arith}
use lib.Dec.{leb}
use lib.ListN.{length, get_or, length-replicate}
use borrow.Author.Tests.{le-leb, leb-true}
use Rattle.tables.specs.Layout.{record_size, whole, held, room, by_row, placing_in, filled_by}
use Rattle.tables.specs.Answers.{left_by}
use Rattle.tables.specs.Tables.{checked_by, checked}
use Rattle.tables.proofs.Checking.{roomy}
use Rattle.tables.proofs.Layouts.{placed_in}
use Rattle.tables.proofs.Past.{zero_past}
use Rattle.tables.proofs.Putting.{length_rows, length_filled, rows_sized, take_whole, rows_filled}
use Rattle.layouts.specs.Conversion.{rows_in, converted, converted_to}
use Rattle.layouts.proofs.Answers.{Fits, done_fits, done}
use Rattle.layouts.proofs.Alike.{check_alike}

-- ---- what a conversion leaves

length_left : (a : Result ℕ Refusal) (len : ℕ) (u : List ℕ) → length u ≡ len → length (left_by a len u) ≡ len
length_left (Ok m) len u e = e
length_left (Err r) len u e = length-replicate len 0

pub length_to : (columns p : Bool) (t : List ℕ) (n len : ℕ) → length (converted_to columns p t n len) ≡ len
unfolding converted_to
length_to columns p t n len = length_left (converted p (length t) n len) len _ (length_filled (placing_in columns p) len (rows_in (not columns) p t n))

left_done : (columns p : Bool) (t : List ℕ) (n len : ℕ) → converted p (length t) n len ≡ Ok n → converted_to columns p t n len ≡ filled_by (placing_in columns p) len (rows_in (not columns) p t n)
unfolding converted_to
left_done columns p t n len e = ap (λ (a : Result ℕ Refusal). left_by a len (filled_by (placing_in columns p) len (rows_in (not columns) p t n))) e

module _ (columns p : Bool) (t : List ℕ) (n len : ℕ) (e : converted p (length t) n len ≡ Ok n) where
  fits : Fits p (length t) n len
  fits = (done_fits p (length t) n len n e).0

  abbrev rows : List (List ℕ)
  rows = rows_in (not columns) p t n

  -- record i of the one list is record i of the other, in all words
  pub same_records : rows_in columns p (converted_to columns p t n len) n ≡ rows_in (not columns) p t n
  same_records =
      let w : ℕ = record_size p in
      let l = length_rows (placing_in (not columns) p) w t 0 n in
      let z = rows_sized (placing_in (not columns) p) w t 0 n in
      let h : length rows ≤ held p len = subst (λ (k : ℕ). k ≤ held p len) (sym l) (roomy p len n fits.few).1 in
      ap (λ (u : List ℕ). rows_in columns p u n) (left_done columns p t n len e)
      ∙ (ap (rows_in columns p (filled_by (placing_in columns p) len rows)) (sym l)
      ∙ (rows_filled (placed_in columns p) {m = w} {w = w} (omega arith) (omega arith) len rows h z ∙ take_whole w rows z))

  -- a place that is none of the counted records' holds 0
  pub zero_else : (q : ℕ) → ((i j : ℕ) → i < n → j < record_size p → q ≡ placing_in columns p len i j → ⊥) → get_or (converted_to columns p t n len) q 0 ≡ 0
  zero_else q h =
      let l = length_rows (placing_in (not columns) p) (record_size p) t 0 n in
      ap (λ (u : List ℕ). get_or u q 0) (left_done columns p t n len e)
      ∙ zero_past (placing_in columns p) (record_size p) q len rows (rows_sized (placing_in (not columns) p) (record_size p) t 0 n) (λ i j a b. h i j (subst (λ (k : ℕ). i < k) l a) b)

  -- and the list is accepted where the other is
  pub same_check : checked_by (placing_in columns p) p (converted_to columns p t n len) n ≡ checked_by (placing_in (not columns) p) p t n
  same_check =
      let u : List ℕ = converted_to columns p t n len in
      let l = length_to columns p t n len in
      check_alike (placing_in columns p) (placing_in (not columns) p) p u t n (ap (whole p) l ∙ (fits.target ∙ sym fits.list))
      (ap (λ (k : ℕ). leb n (room p k)) l ∙ (le-leb n (room p len) fits.few ∙ sym (le-leb n (room p (length t)) fits.count))) same_records

-- ---- there and back: the counted records again, and zeros

not_not : (b : Bool) → not (not b) ≡ b
not_not true = refl
not_not false = refl

pub there_and_back : (columns p : Bool) (t : List ℕ) (n len m : ℕ) → converted p (length t) n len ≡ Ok n → converted p len n m ≡ Ok n
    → converted_to (not columns) p (converted_to columns p t n len) n m ≡ filled_by (placing_in (not columns) p) m (rows_in (not columns) p t n)
there_and_back columns p t n len m e f =
    let u : List ℕ = converted_to columns p t n len in
    let l = length_to columns p t n len in
    left_done (not columns) p u n m (ap (λ (k : ℕ). converted p k n m) l ∙ f)
    ∙ ap (filled_by (placing_in (not columns) p) m) (ap (λ (b : Bool). rows_in b p u n) (not_not columns) ∙ same_records columns p t n len e)

-- a list that holds its counted records and zeros is there again
pub back_again : (columns p : Bool) (t : List ℕ) (n len : ℕ) → converted p (length t) n len ≡ Ok n → t ≡ filled_by (placing_in (not columns) p) (length t) (rows_in (not columns) p t n)
    → converted_to (not columns) p (converted_to columns p t n len) n (length t) ≡ t
back_again columns p t n len e z =
    let f = (done_fits p (length t) n len n e).0 in
    there_and_back columns p t n len (length t) e (sym (done p len n (length t) f.target f.list f.few f.count)) ∙ sym z

-- ---- into as many words, whatever is answered: the two lists are accepted alike

alike : (columns p : Bool) (t : List ℕ) (n : ℕ) → checked_by (placing_in columns p) p (converted_to columns p t n (length t)) n ≡ checked_by (placing_in (not columns) p) p t n
alike columns p t n = go (whole p (length t)) (leb n (room p (length t))) refl refl
  where
    u : List ℕ
    u = converted_to columns p t n (length t)

    l : length u ≡ length t
    l = length_to columns p t n (length t)

    go : (a b : Bool) → whole p (length t) ≡ a → leb n (room p (length t)) ≡ b → checked_by (placing_in columns p) p u n ≡ checked_by (placing_in (not columns) p) p t n
    go true true q r = let h = leb-true n (room p (length t)) r in same_check columns p t n (length t) (sym (done p (length t) n (length t) q q h h))
    go true false q r = rw (ap (whole p) l ∙ q, ap (λ (k : ℕ). leb n (room p k)) l ∙ r, q, r) refl
    go false b q r = rw (ap (whole p) l ∙ q, q) refl

-- a table is accepted in columns exactly where the same records are accepted one behind the other
pub accepted_in_columns : (p : Bool) (t : List ℕ) (n : ℕ) → checked p (converted_to true p t n (length t)) n ≡ checked_by (by_row p) p t n
unfolding checked
accepted_in_columns p t n = alike true p t n

pub accepted_in_rows : (p : Bool) (t : List ℕ) (n : ℕ) → checked_by (by_row p) p (converted_to false p t n (length t)) n ≡ checked p t n
unfolding checked
accepted_in_rows p t n = alike false p t n
