-- The translation record by record: what is made of a record after lines whose widths, instruction numbers and looseness are W, M and L, and what is kept of it for later ones.
-- Assumes nothing.
use Rattle.std.specs.Prelude.{ℕ, suc, ◌≡◌, Bool, ◌&&◌, List, leb, eqb, set}
use Rattle.tables.specs.Pick.{pick}
use Rattle.tables.specs.Lines.{fields, kind_in, sort_in, first_in, second_in, third_in}
use Rattle.programs.specs.declared.Known.{Known}
use Rattle.programs.specs.Uses.{loose_line}
use Rattle.programs.specs.Translation.{info, operand_width, loose_of}
use Rattle.programs.specs.Model.Kinds.{first_line, second_line, third_line, has_value}

-- its line is loose
abbrev pub loose_in : (W : ℕ → ℕ) (L : ℕ → Bool) → List ℕ → Bool
loose_in W L r = loose_line (W (sort_in r)) (kind_in r) (first_line (kind_in r) && L (first_in r)) (second_line (kind_in r) && L (second_in r)) (third_line (kind_in r) && L (third_in r))

-- its instruction
abbrev pub instruction : (W M : ℕ → ℕ) → List ℕ → List ℕ
instruction W M r =
    fields (kind_in r) (W (sort_in r)) (pick (first_line (kind_in r)) (M (first_in r)) (first_in r)) (pick (second_line (kind_in r)) (M (second_in r)) (second_in r))
    (pick (third_line (kind_in r)) (M (third_in r)) (third_in r))

abbrev pub mask_record : (w b : ℕ) → List ℕ
mask_record w b = fields 56 w b 0 0

-- what is kept of it: its width, and the instruction that uses of it take, where m says that it has a mask
abbrev pub width_in : (W : ℕ → ℕ) → List ℕ → ℕ
width_in W r = pick (eqb (kind_in r) 1) (first_in r) (pick (has_value (kind_in r)) (W (sort_in r)) 0)

abbrev pub number_in : (k b : ℕ) → Bool → ℕ
number_in k b m = pick (has_value k) (pick m (suc b) b) 0

-- how many instructions: a sort has none
abbrev pub emitted : ℕ → Bool → ℕ
emitted k m = pick (leb k 2) 0 (pick m 2 1)

-- The list K of what is known of each line becomes K₁ after the line n, of the record r, whose instruction would be number b; nd says whether it has a needing use
pub record Taken (r : List ℕ) (n : ℕ) (nd : Bool) (b : ℕ) (K K₁ : List Known) (m : Bool) : Type 0 where
  pub mask : m ≡ (loose_in (operand_width K) (loose_of K) r && nd)
  pub kept : K₁ ≡ set K n (info (width_in (operand_width K) r) (number_in (kind_in r) b m) (loose_in (operand_width K) (loose_of K) r))
