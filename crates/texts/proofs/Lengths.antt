-- The text of fewer than ten thousand records that keep the rules has at most 40 bytes a record: a line's number and its numbers have at most four digits, but for a
-- constant's value, which has at most twenty. Assumes nothing.
use Rattle.std.specs.Prelude.{Ok}
use Prim.Native.Nat.{ℕ, suc, ◌+◌, ◌*◌, ◌^◌, ◌≤◌, ◌<◌}
use mathlib.Core.Path.{◌≡◌, sym, subst}
use mathlib.Core.Bool.{true, false}
use mathlib.Core.List.{List, [], ◌∷◌, ◌++◌}
use native.Mathlib.Omega.{arith}
use lib.Dec.{lit<}
use lib.ListN.{length, get_or, length-append}
use Rattle.tables.specs.Kinds.{row_of}
use Rattle.tables.specs.Lines.{line_of, kind_in, fields}
use Rattle.tables.specs.Layout.{records_of}
use Rattle.tables.specs.Types.{Ctx, no_ctx, ty_at, given, grow}
use Rattle.tables.specs.Tables.{keeps, lawful, checked}
use Rattle.tables.proofs.Kept.{both}
use Rattle.tables.proofs.Places.{length_records}
use Rattle.texts.specs.Split.{spaced, join}
use Rattle.texts.specs.Decimal.{digits}
use Rattle.texts.specs.Writing.{tokens_of, write_from, write_text}
use Rattle.texts.proofs.Bounded.{Short, below, constant, AllShort, short_lawful}
use Rattle.texts.proofs.Printed.{digits_length, digits_most, line_within, kept_kind, text_none, text_more}
use Rattle.texts.proofs.Round.{held}

-- four digits
four : (v : ℕ) → v < 10 ^ 4 → length (digits v) ≤ 4
four v h = digits_length 3 v h

-- the line of a constant
constant_line : (id s v : ℕ) → length (join (tokens_of id (fields 3 s v 0 0)) ++ (10 ∷ [])) ≡ length (digits id) + length (digits s) + length (digits v) + 10
unfolding row_of
constant_line id s v =
    omega (
      arith,
      length-append (join (tokens_of id (fields 3 s v 0 0))) (10 ∷ []),
      length-append (digits id) (spaced ((99 ∷ 111 ∷ 110 ∷ 115 ∷ 116 ∷ 100 ∷ []) ∷ digits s ∷ digits v ∷ [])),
      length-append (digits s) (spaced (digits v ∷ [])),
      length-append (digits v) [],
    )

line_short : (id : ℕ) (r : List ℕ) → id < 10 ^ 4 → (1 ≤ kind_in r) × (kind_in r ≤ 63) → Short (10 ^ 4) r → length (join (tokens_of id r) ++ (10 ∷ [])) ≤ 40
line_short id r n k (below h) = omega (arith, line_within 4 id r k.0 k.1 (λ i. four (get_or r i 0) (h i)), four id n)
line_short id r n k (constant s v e hs hv) =
    subst (λ (x : List ℕ). length (join (tokens_of id x) ++ (10 ∷ [])) ≤ 40) (sym e) (omega (arith, constant_line id s v, four id n, four s hs, digits_most v hv))

lines_short : (c : Ctx) (rs : List (List ℕ)) (n : ℕ) → AllShort (10 ^ 4) rs → lawful false c rs ≡ true → n + length rs ≤ 10 ^ 4 → length (write_from n rs) ≤ 40 * length rs
lines_short c [] n g e h = text_none n 40
lines_short c (r ∷ rs) n g e h =
    let k = both (keeps false (ty_at c) (given c) r) _ e in
    text_more n r rs 40 (line_short n r (omega arith) (kept_kind c r k.0) g.0) (lines_short (grow false c (line_of r)) rs (suc n) g.1 k.1 (omega arith))

-- the text of an accepted table with fewer than ten thousand records
pub text_short : (t : List ℕ) (n : ℕ) → checked false t n ≡ Ok tt → n < 10 ^ 4 → length (write_text (records_of false t n)) ≤ 40 * n
unfolding write_text
text_short t n a h =
    let k = held t n a in
    let e = length_records false t n in
    omega (arith, e, lines_short no_ctx (records_of false t n) 1 (short_lawful (10 ^ 4) t n (lit< tt) h k.law) k.law (omega (arith, e)))
