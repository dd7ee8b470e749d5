-- The number of records that the code makes of a line. Assumes nothing.
use Prim.Native.Nat.{ℕ, zero, suc, ◌+◌, ◌-◌, ◌*◌, ◌^◌, ◌≤◌, ◌<◌}
use mathlib.Core.Path.{◌≡◌, refl, ap, ◌∙◌}
use mathlib.Core.Bool.{Bool, true, false}
use mathlib.Core.List.{List, []}
use native.Mathlib.Omega.{arith}
use lib.Dec.{eqb}
use lib.ListN.{length, length-append}
use lib.Pow.{pow_pos}
use Rattle.std.specs.Prelude.{Some, None}
use Rattle.tables.specs.Pick.{pick}
use Rattle.tables.specs.Lines.{Line, Expr, equality_kind, init_or_next_kind}
use Rattle.flattening.specs.Flat.{join_kind}
use Rattle.flattening.specs.Model.Cells.{Held, cell_in}
use Rattle.flattening.specs.Model.Rows.{rows_for, row_at, pair_at, stepping, still, of, run_down, of_down, join_records, read_records, write_records}
use Rattle.flattening.specs.Model.Lines.{deep_in, wide_in, Notes, sort_line, word_line, size_in, bit_in, con_in, given_from, made_as, flat_count, line_records, flat_made}
use Rattle.flattening.specs.Model.Fits.{Deep}
use Rattle.flattening.proofs.Placing.{length_row, length_pairs}
use Rattle.flattening.proofs.Laying.{size_two, join_some}

join_length : (H : Held) (p j s n : ℕ) → 0 < n → length (join_records H p j s n) ≡ n - 1
join_length H p j s zero h = absurd (omega arith)
join_length H p j s (suc zero) h = refl
join_length H p j s (suc (suc m)) h =
    let n = suc (suc m) in
    ap length (join_some H p j s n (omega arith)) ∙ omega (arith, length_row H j s (stepping (p + n + 1) 1) (stepping (p + 3) 1) (still 0) (n - 2))

pick_length : (b : Bool) (w : List (List ℕ)) (k : ℕ) → length w ≡ k → length (pick b w []) ≡ pick b k 0
pick_length true w k e = e
pick_length false w k e = refl

read_length : (H : Held) (p o i s a n : ℕ) → 2 ≤ n → length (read_records H p o i s a n) ≡ 2 * (n - 1)
read_length H p o i s a n h =
    let c₁ = run_down (o + 1) (n - 2) in
    let c₂ = run_down (o + 1) (n - 3) in
    length-append (rows_for 1 (pair_at H p o i s c₁ (of_down a (n - 2)) (still (cell_in H a (n - 1))))) (rows_for (n - 2) (pair_at H (p + 2) o i s c₂ (of_down a (n - 3)) (stepping (p + 2) 2)))
    ∙ omega (arith, length_pairs H p o i s c₁ (of_down a (n - 2)) (still (cell_in H a (n - 1))) 1, length_pairs H (p + 2) o i s c₂ (of_down a (n - 3)) (stepping (p + 2) 2) (n - 2))

pub records_length : (N : Notes) (p : ℕ) (l : Line) → Deep N l → length (line_records N p l) ≡ flat_count N l
records_length N p (Line.bitvec w) d = refl
records_length N p (Line.array i e) d =
    omega (arith, length_row N.held 3 (sort_line N i) (stepping 0 1) (still 0) (still 0) (2 ^ wide_in N i))
records_length N p (Line.input s) d = refl
records_length N p (Line.state s) d = length_row N.held 5 (sort_line N s) (still 0) (still 0) (still 0) (size_in N s)
records_length N p (Line.value s (Expr.const c)) d = refl
records_length N p (Line.value s (Expr.unary k a x y)) d = refl
records_length N p (Line.value s (Expr.binary k a b)) d = refl
records_length N p (Line.value s (Expr.equality e a b)) d =
    let n = size_in N a in
    length-append (rows_for n (row_at N.held (equality_kind e) (sort_line N s) (of a) (of b) (still 0))) (join_records N.held p (join_kind e) (sort_line N s) n)
    ∙ omega (arith, length_row N.held (equality_kind e) (sort_line N s) (of a) (of b) (still 0) n, join_length N.held p (join_kind e) (sort_line N s) n (pow_pos (deep_in N a)))
records_length N p (Line.value s (Expr.ite c a b)) d = length_row N.held 53 (sort_line N s) (still (word_line N c)) (of a) (of b) (size_in N a)
records_length N p (Line.value s (Expr.read a i)) d =
    pick_length (eqb (con_in N i) 0) (read_records N.held p (bit_in N a) (word_line N i) (sort_line N s) a (size_in N a)) (2 * (size_in N a - 1)) (read_length N.held p (bit_in N a) (word_line N i) (sort_line N s) a (size_in N a) (size_two (deep_in N a) d))
records_length N p (Line.value s (Expr.write a i x)) d =
    pick_length (eqb (con_in N i) 0) (write_records N.held p (bit_in N s) (word_line N i) (sort_line N s) (word_line N x) a (size_in N s)) (2 * size_in N s) (length_pairs N.held p (bit_in N s) (word_line N i) (sort_line N s) (stepping (bit_in N s + 1) 1) (still (word_line N x)) (of a) (size_in N s))
records_length N p (Line.init_or_next m s q a) d = length_row N.held (init_or_next_kind m) (sort_line N s) (of q) (given_from N m a) (still 0) (size_in N q)
records_length N p (Line.signal m a) d = refl
records_length N p (Line.output a) d = refl
records_length N p Line.unknown d = refl

pub next_of : (N : Notes) (p : ℕ) (l : Line) → (flat_made N p l).next ≡ p + flat_count N l
next_of N p (Line.bitvec w) = refl
next_of N p (Line.array i e) = refl
next_of N p (Line.input s) = refl
next_of N p (Line.state s) = refl
next_of N p (Line.value s (Expr.const c)) = refl
next_of N p (Line.value s (Expr.unary k a x y)) = refl
next_of N p (Line.value s (Expr.binary k a b)) = refl
next_of N p (Line.value s (Expr.equality e a b)) = refl
next_of N p (Line.value s (Expr.ite c a b)) = refl
next_of N p (Line.value s (Expr.read a i)) = refl
next_of N p (Line.value s (Expr.write a i x)) = go (eqb (con_in N i) 0)
  where
    q : ℕ
    q = p + flat_count N (Line.value s (Expr.write a i x))

    go : (b : Bool) → (pick b (made_as q (p + 2) (bit_in N s) None 2 None) (made_as q (word_line N x) (bit_in N s) (Some a) (con_in N i - 1) None)).next ≡ q
    go true = refl
    go false = refl
next_of N p (Line.init_or_next m s q a) = refl
next_of N p (Line.signal m a) = refl
next_of N p (Line.output a) = refl
next_of N p Line.unknown = refl
