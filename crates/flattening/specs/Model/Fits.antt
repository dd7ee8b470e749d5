-- What a line asks before it is made flat, and what is done then. Assumes nothing.
use Rattle.std.specs.Prelude.{ℕ, ◌+◌, ◌≤◌, ◌<◌, ◌≡◌, false, List}
use Rattle.tables.specs.declared.Note.{Note}
use Rattle.tables.specs.Lines.{Line, Expr}
use Rattle.tables.specs.Layout.{held}
use Rattle.tables.specs.Model.Notes.{look_in}
use Rattle.flattening.specs.declared.Made.{Made}
use Rattle.flattening.specs.Placed.{put_flat}
use Rattle.flattening.specs.Model.Cells.{Sound}
use Rattle.flattening.specs.Model.Lines.{Notes, bit_in, con_in, deep_in, wide_in, flat_count, line_records, flat_made}

-- the numbers kept are small
pub record Neat (N : Notes) : Type 0 where
  pub sound : Sound N.held
  pub bit : (a : ℕ) → bit_in N a ≤ 65536
  pub con : (a : ℕ) → con_in N a ≤ 256
  pub deep : (a : ℕ) → deep_in N a ≤ 8

-- the index width of an array sort is at most 8, and a read takes an array
abbrev pub DeepE : Notes → Expr → Type 0
DeepE N (Expr.const v) = Unit {0}
DeepE N (Expr.unary k a x y) = Unit {0}
DeepE N (Expr.binary k a b) = Unit {0}
DeepE N (Expr.equality e a b) = Unit {0}
DeepE N (Expr.ite c a b) = Unit {0}
DeepE N (Expr.read a i) = 0 < deep_in N a
DeepE N (Expr.write a i v) = Unit {0}

abbrev pub Deep : Notes → Line → Type 0
Deep N (Line.bitvec w) = Unit {0}
Deep N (Line.array i e) = wide_in N i ≤ 8
Deep N (Line.input s) = Unit {0}
Deep N (Line.state s) = Unit {0}
Deep N (Line.value s e) = DeepE N e
Deep N (Line.init_or_next m s q v) = Unit {0}
Deep N (Line.signal m a) = Unit {0}
Deep N (Line.output a) = Unit {0}
Deep N Line.unknown = Unit {0}

-- the line l can be made flat after p flat lines, into a target of len words
pub record Fit (N : Notes) (p : ℕ) (l : Line) (len : ℕ) : Type 0 where
  pub neat : Neat N
  pub low : p ≤ 60000
  pub room : p + flat_count N l ≤ held false len
  pub deep : Deep N l

-- it is made flat: r is what is kept of it, and its records go to the target
pub record MadeFlat (N : Notes) (p : ℕ) (l : Line) (target target₁ : List ℕ) (r : Made) : Type 0 where
  pub kept : r ≡ flat_made N p l
  pub records : target₁ ≡ put_flat target p (line_records N p l)

-- no line has more than 256 cells
pub record Shallow (types : List Note) : Type 0 where
  pub deep : (a : ℕ) → (look_in types a).iw ≤ 8
