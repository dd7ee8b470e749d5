-- The hash of a name, four bytes at a time and byte by byte. Assumes nothing.
use Prim.Native.Nat.{ℕ, zero, suc, ◌+◌, ◌-◌, ◌*◌, ◌/◌, ◌%◌, ◌≤◌, ◌<◌}
use mathlib.Core.Path.{◌≡◌, refl}
use mathlib.Core.List.{List}
use native.Mathlib.Omega.{arith}
use lib.ListN.{length, get_or}
use borrow.Author.Tests.{le-leb, lt-leb}
use Rattle.texts.specs.Model.Chains.{hashes, mixed, mixed_four, hash_from, hash_fours, hash_of}

-- ---- byte by byte

-- before the place p the value is r where it is h so far
pub record Hashing (t : List ℕ) (step r h p : ℕ) : Type 0 where
  pub most : ℕ
  pub enough : p ≤ most
  pub left : r ≡ hash_from most step t h p

pub hash_start : (t : List ℕ) (step h p : ℕ) → Hashing t step (hash_from p step t h p) h p
hash_start t step h p = record { most = p; enough = omega arith; left = refl }

module _ (t : List ℕ) (step r h p : ℕ) where
  pub hash_on : 1 ≤ step → step ≤ p → Hashing t step r h p → Hashing t step r (mixed h (get_or t (p - 1) 0)) (p - step)
  hash_on a b k = go k.most k.enough k.left
    where
      go : (m : ℕ) → p ≤ m → r ≡ hash_from m step t h p → Hashing t step r (mixed h (get_or t (p - 1) 0)) (p - step)
      go zero c e = absurd (omega arith)
      go (suc m) c e = record { most = m; enough = omega arith; left = rw (le-leb step p b) at e }

  pub hash_end : p < step → Hashing t step r h p → h ≡ r
  hash_end b k = go k.most k.left
    where
      go : (m : ℕ) → r ≡ hash_from m step t h p → h ≡ r
      go zero e = cc
      go (suc m) e = let q : r ≡ h = (rw (lt-leb step p b) at e) in cc

-- ---- four at a time

pub record HashingFours (t : List ℕ) (step h p : ℕ) : Type 0 where
  pub most : ℕ
  pub enough : p ≤ most
  pub left : hash_of t ≡ hash_fours most step t h p

pub fours_start : (t : List ℕ) → HashingFours t (length t / 32 + 1) (length t % hashes) (length t)
unfolding hash_of
fours_start t = record { most = length t; enough = omega arith; left = refl }

module _ (t : List ℕ) (step h p : ℕ) where
  abbrev next : ℕ
  next = mixed_four h (get_or t (p - 1) 0) (get_or t (p - step - 1) 0) (get_or t (p - 2 * step - 1) 0) (get_or t (p - 3 * step - 1) 0)

  pub fours_on : 1 ≤ step → 4 * step ≤ p → HashingFours t step h p → HashingFours t step next (p - 4 * step)
  fours_on a b k = go k.most k.enough k.left
    where
      go : (m : ℕ) → p ≤ m → hash_of t ≡ hash_fours m step t h p → HashingFours t step next (p - 4 * step)
      go zero c e = absurd (omega arith)
      go (suc m) c e = record { most = m; enough = omega arith; left = rw (le-leb (4 * step) p b) at e }

  pub fours_end : p < 4 * step → HashingFours t step h p → hash_of t ≡ hash_from p step t h p
  fours_end b k = go k.most k.left
    where
      go : (m : ℕ) → hash_of t ≡ hash_fours m step t h p → hash_of t ≡ hash_from p step t h p
      go zero e = e
      go (suc m) e = rw (lt-leb (4 * step) p b) at e
