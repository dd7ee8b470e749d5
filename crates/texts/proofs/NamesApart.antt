-- "A line whose name already stands on an earlier line is refused": an accepted text has no two equal names, and 22 is answered with the number of a line whose name stands on
-- an earlier one. Assumes nothing.
use Prim.Native.Nat.{ℕ, suc, ◌<◌}
use mathlib.Core.Path.{◌≡◌, refl, sym, ap, ◌∙◌}
use mathlib.Core.Bool.{Bool, true, false}
use mathlib.Core.List.{List, []}
use mathlib.Core.Logic.{⊎_elim}
use native.Mathlib.Omega.{arith}
use lib.Dec.{leb}
use lib.ListN.{length}
use borrow.Author.Tests.{leb-true, leb-false}
use Rattle.tables.specs.declared.Refusal.TheVariants.{NotATable, TextTooLong, NameUsed}
use Rattle.tables.specs.Refusals.{number_of}
use Rattle.tables.specs.Layout.{whole, room}
use Rattle.tables.proofs.Kept.{no_yes}
use Rattle.texts.specs.Split.{split}
use Rattle.texts.specs.Reading.{line_name, done, refused, no_lines, lines_read, read_text}
use Rattle.texts.specs.Naming.{text_line}
use Rattle.texts.proofs.Reached.{text_1, text_2, text_lines}
use Rattle.texts.proofs.SameRecords.{lines_done}
use Rattle.texts.proofs.NewNames.{all_new, names_differ}
use Rattle.texts.proofs.UsedNames.{lines_twice}

-- ---- no two equal names

pub names_apart : (len : ℕ) (s : List ℕ) (rs : List (List ℕ)) (ds : List ℕ) → read_text len s ≡ done rs ds → (i j : ℕ) → i < j → line_name (text_line s i) ≡ line_name (text_line s j)
    → line_name (text_line s i) ≡ []
names_apart len s rs ds h i j l e = names_differ [] (split 10 s) (all_new (room false len) 1 no_lines (split 10 s) rs ds (lines_done len s rs ds h)) i j l e

-- ---- 22

lines_refused : (len : ℕ) (s : List ℕ) (l : ℕ) → read_text len s ≡ refused NameUsed l → lines_read len s ≡ refused NameUsed l
lines_refused len s l h = go (whole false len) refl (leb (length s) 65536) refl
  where
    go : (p : Bool) → whole false len ≡ p → (q : Bool) → leb (length s) 65536 ≡ q → lines_read len s ≡ refused NameUsed l
    go true e true g = sym (text_lines len s e (leb-true (length s) 65536 g)) ∙ h
    go true e false g = let z : refused TextTooLong 0 ≡ refused NameUsed l = sym (text_2 len s e (leb-false (length s) 65536 g)) ∙ h in let w : TextTooLong ≡ NameUsed = cc in absurd (omega (arith, ap number_of w))
    go false e q g = let z : refused NotATable 0 ≡ refused NameUsed l = sym (text_1 len s e) ∙ h in let w : NotATable ≡ NameUsed = cc in absurd (omega (arith, ap number_of w))

-- the line j, counted from 0, is refused, and its name stands on the earlier line i
pub record UsedTwice (s : List ℕ) (l : ℕ) : Type 0 where
  pub i : ℕ
  pub j : ℕ
  pub is : l ≡ suc j
  pub earlier : i < j
  pub some : 0 < length (line_name (text_line s j))
  pub same : line_name (text_line s i) ≡ line_name (text_line s j)

pub used_twice : (len : ℕ) (s : List ℕ) (l : ℕ) → read_text len s ≡ refused NameUsed l → UsedTwice s l
used_twice len s l h =
    let T = lines_twice (room false len) 1 no_lines (split 10 s) l (lines_refused len s l h) in
    ⊎_elim (λ a. absurd (no_yes a)) (λ q. record { i = q.0; j = T.line; is = omega (arith, T.is); earlier = q.1.0; some = T.some; same = q.1.1 }) T.before
