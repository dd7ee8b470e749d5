-- Where the cells of each line stand in the work area, and a list that holds what is known of all lines. Assumes nothing.
use Rattle.std.specs.Prelude.{ℕ, zero, suc, ◌+◌, ◌≤◌, ◌<◌, ◌≡◌, Bool, List, [], ◌∷◌, length, Ok}
use Rattle.tables.specs.declared.Ty.{Ty}
use Rattle.tables.specs.Pick.{pick}
use Rattle.tables.specs.Layout.{lines_of}
use Rattle.tables.specs.Types.{is_value}
use Rattle.tables.specs.Tables.{checked}
use Rattle.circuits.specs.Layout.{Layout, type_at, place_at, size, layout}
use Rattle.circuits.specs.Model.Work.{off_in, num_in, pos_in, wid_in}

-- the cells of the first a lines, by their types: a value has those of its type, any other line none
abbrev pub cells_before : List Ty → (a : ℕ) → ℕ
cells_before [] a = 0
cells_before (t ∷ ts) zero = 0
cells_before (t ∷ ts) (suc a) = pick (is_value t) (size t) 0 + cells_before ts a

-- the first word of the line a in the work area: its cells stand behind those of the value lines before it; 0 where it has no value
unfoldable pub off_at : Layout → (a : ℕ) → ℕ
off_at Y a = pick (is_value (type_at Y a)) (cells_before Y.ctx.tys a) 0

-- the list holds what is known of the line a, whose type is t, whose cells stand at o and whose place is q; and of all lines of a layout
pub record Shown (P : List (List ℕ)) (a : ℕ) (t : Ty) (o q : ℕ) : Type 0 where
  pub known : a ≤ 16384
  pub is_off : off_in P a ≡ o
  pub is_wid : wid_in P a ≡ t.w
  pub is_num : num_in P a ≡ size t
  pub is_pos : pos_in P a ≡ q

abbrev pub ShowsAll : (P : List (List ℕ)) → Layout → Type 0
ShowsAll P Y = (a : ℕ) → a < length Y.places → Shown P a (type_at Y a) (off_at Y a) (place_at Y a)

-- an accepted table, and a list that holds what is known of its lines
pub record Ready (p : Bool) (t : List ℕ) (n : ℕ) (P : List (List ℕ)) (all words ins sigs : ℕ) : Type 0 where
  pub accepted : checked p t n ≡ Ok tt
  pub shows : ShowsAll P (layout p (lines_of p t n))
  pub cells : (layout p (lines_of p t n)).counts.cells ≡ all
  pub states : (layout p (lines_of p t n)).counts.states ≡ words
  pub inputs : (layout p (lines_of p t n)).counts.inputs ≡ ins
  pub signals : (layout p (lines_of p t n)).counts.signals ≡ sigs
