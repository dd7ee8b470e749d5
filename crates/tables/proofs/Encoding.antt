-- Tables and the lines they hold: an accepted table holds the records of its lines, and the records of lines that break no rule are an accepted table. Assumes nothing.
use Rattle.std.specs.Prelude.{Ok}
use Prim.Native.Nat.{ℕ, suc, ◌≤◌}
use mathlib.Core.Path.{◌≡◌, refl, sym, ap, ap₂, ◌∙◌}
use mathlib.Core.Bool.{Bool, true}
use mathlib.Core.List.{List, [], ◌∷◌, map}
use native.Mathlib.Omega.{arith}
use lib.ListN.{length}
use Rattle.tables.specs.Lines.{Line, line_of, words_of}
use Rattle.tables.specs.Layout.{whole, held, room, records_of, lines_of, numbered, filled}
use Rattle.tables.specs.Ids.{ids_right}
use Rattle.tables.specs.Types.{Ctx, ty_at, given, grow, no_ctx}
use Rattle.tables.specs.Tables.{formed, keeps, lawful, checked}
use Rattle.tables.proofs.Kept.{both}
use Rattle.tables.proofs.Formed.{words_back}
use Rattle.tables.proofs.Checking.{is_lawful, roomy}
use Rattle.tables.proofs.Places.{Sized, records_sized, length_filled}
use Rattle.tables.proofs.Ids.{records_filled, ids_filled}
use Rattle.tables.proofs.Facts.{AllOk}
use Rattle.tables.proofs.Sound.{accepted_lawful, accepted_room}
use Rattle.tables.proofs.Complete.{lines_sized, all_again, all_kept}

-- its records are there
pub fits_table : (p : Bool) (t : List ℕ) (n : ℕ) → checked p t n ≡ Ok tt → (n ≤ 16384) × (n ≤ held p (length t))
fits_table p t n e = roomy p (length t) n (accepted_room p t n e).1

lawful_back : (p : Bool) (c : Ctx) (rs : List (List ℕ)) → Sized rs → lawful p c rs ≡ true → map words_of (map line_of rs) ≡ rs
lawful_back p c [] m h = refl
lawful_back p c (r ∷ rs) m h =
    let e = both (keeps p (ty_at c) (given c) r) _ h in
    ap₂ (λ (x : List ℕ) (xs : List (List ℕ)). x ∷ xs) (words_back p r m.0 (both (formed p r) _ e.0).0) (lawful_back p (grow p c (line_of r)) rs m.1 e.1)

-- an accepted table holds the records of its lines
pub words_lines : (p : Bool) (t : List ℕ) (n : ℕ) → checked p t n ≡ Ok tt → map words_of (lines_of p t n) ≡ records_of p t n
words_lines p t n e = lawful_back p no_ctx (records_of p t n) (records_sized p t n) (accepted_lawful p t n e)

pub length_words : (ls : List Line) → length (map words_of ls) ≡ length ls
length_words [] = refl
length_words (l ∷ ls) = ap suc (length_words ls)

-- a list that holds the records of lines, a circuit's numbered 1, 2, 3
module _ (p : Bool) (ls : List Line) (len : ℕ) (fits : length ls ≤ held p len) where
  abbrev table : List ℕ
  table = filled p len (numbered p (map words_of ls))

  there : length (map words_of ls) ≤ held p len
  there = omega (arith, length_words ls)

  pub records_lines : records_of p (filled p len (numbered p (map words_of ls))) (length ls) ≡ map words_of ls
  records_lines = ap (records_of p table) (sym (length_words ls)) ∙ records_filled p len (map words_of ls) (lines_sized ls) there

  -- where they break no rule it is an accepted table
  pub lines_accepted : AllOk p no_ctx ls → length ls ≤ 16384 → whole p len ≡ true → checked p (filled p len (numbered p (map words_of ls))) (length ls) ≡ Ok tt
  lines_accepted k few w =
      let e : length table ≡ len = length_filled p len (numbered p (map words_of ls)) in
      let q = ids_filled p len (map words_of ls) (lines_sized ls) there (omega (arith, length_words ls)) in
      sym
      (is_lawful p table (length ls) (ap (whole p) e ∙ w) (omega (arith, ap (room p) e)) (sym (ap (lawful p no_ctx) records_lines ∙ all_kept p no_ctx ls k))
      (sym (ap (ids_right p table) (sym (length_words ls)) ∙ q)))

  -- and they are read back from it
  pub lines_back : AllOk p no_ctx ls → lines_of p (filled p len (numbered p (map words_of ls))) (length ls) ≡ ls
  lines_back k = ap (map line_of) records_lines ∙ all_again p no_ctx ls k
