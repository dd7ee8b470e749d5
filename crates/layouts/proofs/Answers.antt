-- The answers of a conversion, and what holds where it is done. Assumes nothing.
use Rattle.std.specs.Prelude.{Ok, Err}
use Prim.Native.Nat.{ℕ, ◌<◌, ◌≤◌}
use mathlib.Core.Path.{◌≡◌, refl}
use mathlib.Core.Bool.{Bool, true, false, ◌&&◌}
use lib.Dec.{leb}
use borrow.Author.Tests.{le-leb, lt-leb, leb-true}
use Rattle.tables.specs.declared.Refusal.TheVariants.{NotATable, TargetTooSmall}
use Rattle.tables.specs.Pick.{pick}
use Rattle.tables.specs.Layout.{whole, room}
use Rattle.tables.specs.Tables.{broken}
use Rattle.tables.proofs.Outcomes.{not_done, done_count}
use Rattle.layouts.specs.Conversion.{converted}

module _ (p : Bool) (words n len : ℕ) where
  pub no_list : whole p words ≡ false → Err NotATable ≡ converted p words n len
  unfolding converted
  no_list a = rw a

  pub no_target : whole p words ≡ true → whole p len ≡ false → Err NotATable ≡ converted p words n len
  unfolding converted
  no_target a b = rw (a, b)

  pub too_many : whole p words ≡ true → whole p len ≡ true → room p words < n → Err (broken p) ≡ converted p words n len
  unfolding converted
  too_many a b h = rw (a, b, lt-leb n (room p words) h)

  pub too_small : whole p words ≡ true → whole p len ≡ true → n ≤ room p words → room p len < n → Err TargetTooSmall ≡ converted p words n len
  unfolding converted
  too_small a b h l = rw (a, b, le-leb n (room p words) h, lt-leb n (room p len) l)

  pub done : whole p words ≡ true → whole p len ≡ true → n ≤ room p words → n ≤ room p len → Ok n ≡ converted p words n len
  unfolding converted
  done a b h l = rw (a, b, le-leb n (room p words) h, le-leb n (room p len) l)

-- a conversion that is done
pub record Fits (p : Bool) (words n len : ℕ) : Type 0 where
  pub list : whole p words ≡ true
  pub target : whole p len ≡ true
  pub count : n ≤ room p words
  pub few : n ≤ room p len

pub done_fits : (p : Bool) (words n len m : ℕ) → converted p words n len ≡ Ok m → Fits p words n len × (n ≡ m)
unfolding converted
done_fits p words n len m e = go (whole p words) (whole p len) (leb n (room p words)) (leb n (room p len)) refl refl refl refl e
  where
    go : (a b c d : Bool) → whole p words ≡ a → whole p len ≡ b → leb n (room p words) ≡ c → leb n (room p len) ≡ d
        → pick (a && b) (pick c (pick d (Ok n) (Err TargetTooSmall)) (Err (broken p))) (Err NotATable) ≡ Ok m → Fits p words n len × (n ≡ m)
    go true true true true q r s t z = (record { list = q; target = r; count = leb-true n (room p words) s; few = leb-true n (room p len) t }, done_count n m z)
    go true true true false q r s t z = absurd (not_done TargetTooSmall m z)
    go true true false d q r s t z = absurd (not_done (broken p) m z)
    go true false c d q r s t z = absurd (not_done NotATable m z)
    go false b c d q r s t z = absurd (not_done NotATable m z)
