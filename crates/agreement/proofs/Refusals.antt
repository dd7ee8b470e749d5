-- Translating what flattening left is refused by nothing but 1, of its own list, and 12: neither 11 nor 19 holds of a flat circuit with the count that flattening answered. So the
-- second premise of demand 3 is met by every target that is a table and has room for the program. Assumes nothing.
use Rattle.std.specs.Prelude.{Ok, Err}
use Prim.Native.Nat.{ℕ, ◌≤◌}
use mathlib.Core.Path.{◌≡◌, refl, sym, ap, ◌∙◌}
use mathlib.Core.Logic.{◌⊎◌, inl, inr}
use mathlib.Core.Bool.{Bool, true, false}
use mathlib.Core.List.{List, [], ◌∷◌}
use native.Mathlib.Omega.{arith}
use lib.Dec.{leb}
use lib.ListN.{length}
use borrow.Author.Tests.{le-leb}
use Rattle.tables.specs.declared.Refusal.{Refusal}
use Rattle.tables.specs.declared.Refusal.TheVariants.{NotATable, TargetTooSmall}
use Rattle.tables.specs.Pick.{pick}
use Rattle.tables.specs.Lines.{Line, bitvec, array, input, state, value, init_or_next, signal, output, unknown}
use Rattle.tables.specs.Layout.{whole, room, lines_of}
use Rattle.tables.specs.Answers.{fitting}
use Rattle.flattening.specs.Flat.{flatten}
use Rattle.flattening.specs.Answers.{flattened, flat_left}
use Rattle.flattening.proofs.Arrayless.{Plain, AllPlain, flat_plain}
use Rattle.flattening.proofs.Leaves.{answered, target_length, flat_accepted, flat_lines_lem}
use Rattle.programs.specs.Translation.{array_sort_line, has_array}
use Rattle.programs.specs.Answers.{program_of, translated}

-- ---- no array sort is among the lines of a flat circuit

plain_line : (l : Line) → Plain l → array_sort_line l ≡ false
plain_line (bitvec w) h = refl
plain_line (array i e) h = absurd h
plain_line (input s) h = refl
plain_line (state s) h = refl
plain_line (value s e) h = refl
plain_line (init_or_next m s q v) h = refl
plain_line (signal m a) h = refl
plain_line (output a) h = refl
plain_line unknown h = refl

plain_lines : (ls : List Line) → AllPlain ls → has_array ls ≡ false
plain_lines [] h = refl
plain_lines (l ∷ ls) h = rw (plain_line l h.0, plain_lines ls h.1) refl

-- ---- the answers

-- of an answer that is 1, 12 or a count, a refusal is 1 or 12
only : (a b : Bool) (k : ℕ) (r : Refusal) → pick a (pick b (Ok k) (Err TargetTooSmall)) (Err NotATable) ≡ Err r
    → (r ≡ NotATable) ⊎ (r ≡ TargetTooSmall)
only true true k r e = let z : ◌≡◌ {A = ℕ} 0 1 = cc in absurd (omega arith)
only true false k r e = inr cc
only false b k r e = inl cc

-- F is what flattening leaves for the table t with its count n, in a target of len words, and m the count that it answers
module _ (t : List ℕ) (n len m : ℕ) (e : flattened t n len ≡ Ok m) where
  -- 1 does not hold of F, nor 19
  even : whole false (length (flat_left t n len)) ≡ true
  even = ap (whole false) (target_length t n len m e) ∙ (answered t n len m e).even

  no_array : has_array (lines_of false (flat_left t n len) m) ≡ false
  no_array = ap has_array (flat_lines_lem t n len m e) ∙ plain_lines (flatten (lines_of false t n)) (flat_plain (lines_of false t n))

  -- F is translated into a target of so many words
  module _ (words : ℕ) where
    -- 1 where the target is no table; else 12 where it has no room for the program; else the number of the program's records
    pub flat_translated : translated (flat_left t n len) m words ≡ pick (whole true words) (fitting true (length (program_of (flat_left t n len) m)) words) (Err NotATable)
    unfolding translated
    flat_translated = rw (even, flat_accepted t n len m e, no_array) refl

    -- no other refusal is given
    pub flat_refused : (r : Refusal) → translated (flat_left t n len) m words ≡ Err r → (r ≡ NotATable) ⊎ (r ≡ TargetTooSmall)
    flat_refused r q =
        let k = length (program_of (flat_left t n len) m) in
        only (whole true words) (leb k (room true words)) k r (sym flat_translated ∙ q)

    -- and none where the target is a table with room for the program
    pub flat_done : whole true words ≡ true → length (program_of (flat_left t n len) m) ≤ room true words → translated (flat_left t n len) m words ≡ Ok (length (program_of (flat_left t n len) m))
    flat_done w h = flat_translated ∙ rw (w, le-leb (length (program_of (flat_left t n len) m)) (room true words) h) refl
