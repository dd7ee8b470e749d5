-- What the pass over the lines of an accepted table starts from: the types of its lines, nothing kept of a line, and an empty target. Assumes nothing.
use Rattle.std.specs.Prelude.{ℕ, ◌≤◌, ◌<◌, ◌≡◌, true, false, List, length, replicate, Ok}
use Rattle.tables.specs.declared.Note.{Note}
use Rattle.tables.specs.Types.{ty_at, context}
use Rattle.tables.specs.Model.Notes.{look_in, Fresh}
use Rattle.tables.specs.Layout.{whole, lines_of}
use Rattle.tables.specs.Tables.{checked}
use Rattle.flattening.specs.Model.Cells.{nothing}

pub record Begun (t : List ℕ) (n : ℕ) (types : List Note) (kept : List (List ℕ)) (target : List ℕ) : Type 0 where
  pub accepted : checked false t n ≡ Ok tt
  pub iw : (a : ℕ) → (look_in types a).iw ≡ (ty_at (context false (lines_of false t n)) a).iw
  pub w : (a : ℕ) → (look_in types a).w ≡ (ty_at (context false (lines_of false t n)) a).w
  pub even : whole false (length target) ≡ true
  pub empty : target ≡ replicate (length target) 0
  -- there are more entries than lines
  pub size : ℕ
  pub wide : n < size
  pub most : size ≤ 65536
  pub no_kept : kept ≡ replicate size nothing

-- both tables hold whole records, and the target is empty
pub record Clear (t target : List ℕ) : Type 0 where
  pub first : whole false (length t) ≡ true
  pub even : whole false (length target) ≡ true
  pub empty : target ≡ replicate (length target) 0

-- and nothing is noted or kept of a line yet, where each will have its place
pub record Blank (t : List ℕ) (n : ℕ) (types : List Note) (kept : List (List ℕ)) (target : List ℕ) : Type 0 where
  pub clear : Clear t target
  pub fresh : Fresh n types
  pub size : ℕ
  pub wide : n ≤ 16384 → n < size
  pub most : size ≤ 65536
  pub no_kept : kept ≡ replicate size nothing
