-- The output list: the line of a refusal as it is put, the text as it is written, and the flat program's outcome from those of reading, flattening and writing.
-- Assumes nothing.
use Rattle.std.specs.Prelude.{Result, Ok, Err}
use Prim.Native.Nat.{ℕ, ◌+◌, ◌-◌, ◌^◌, ◌≤◌, ◌<◌}
use mathlib.Core.Path.{◌≡◌, refl, sym, ap, ap₂, ◌∙◌, subst}
use mathlib.Core.List.{List, [], ◌∷◌, ◌++◌}
use native.Mathlib.Omega.{arith}
use lib.ListN.{length, get_or, set, replicate, length-append}
use lib.Seq.{sets}
use borrow.Author.Tests.{le-leb, lt-leb}
use Rattle.tables.specs.declared.Refusal.{Refusal}
use Rattle.tables.specs.Kinds.{letters}
use Rattle.tables.specs.Refusals.{number_of}
use Rattle.tables.specs.Answers.{told}
use Rattle.tables.proofs.Outcomes.{told_as, told_answer, told_left}
use Rattle.texts.specs.Split.{spaced}
use Rattle.texts.specs.Decimal.{digits}
use Rattle.texts.specs.declared.TextRefusal.{TextRefusal}
use Rattle.texts.specs.Reading.{read_text, text_answer, table_of, reads, told_read}
use Rattle.texts.proofs.ReadTold.{read_answer, read_left}
use Rattle.texts.specs.Writing.{Out, wrote, refuse, write_table, write_answer, buffer_of, writes}
use Rattle.texts.proofs.Printed.{digits_most, and_then, sets_zeros}
use Rattle.flattening.specs.Answers.{flattens}
use Rattle.flattening.proofs.Outcomes.{flattens_answer, flattens_left}
use Rattle.flat_text.specs.Printing.{refusal_line, refusal_in, after_writing, after_flattening, after_reading, target_after, printed, prints}
use Rattle.flat_text.specs.Model.Output.{Printout}

-- ---- the line of a refusal

-- its numbers, each with a space before it, are at most 42 bytes, and the line at most 50
module _ (n l : ℕ) (hn : n < 2 ^ 64) (hl : l < 2 ^ 64) where
  pub numbers_short : length (spaced (digits n ∷ digits l ∷ [])) ≤ 42
  numbers_short = omega (arith, length-append (digits n) (spaced (digits l ∷ [])), length-append (digits l) [], digits_most n hn, digits_most l hl)

  pub refusal_short : length (refusal_line n l) ≤ 50
  refusal_short = omega (arith, numbers_short, length-append (letters "refused" ++ spaced (digits n ∷ digits l ∷ [])) (10 ∷ []))

-- its parts were put one after the other
pub refusal_put : (out : List ℕ) (n l : ℕ) {x y z : List ℕ} {p q r : ℕ} → (p ≡ 7) × (x ≡ sets out 0 (letters "refused"))
    → (q ≡ p + length (spaced (digits n ∷ digits l ∷ []))) × (y ≡ sets x p (spaced (digits n ∷ digits l ∷ []))) → (r ≡ q + 1) × (z ≡ set y q 10)
    → (r ≡ length (refusal_line n l)) × (z ≡ sets out 0 (refusal_line n l))
refusal_put out n l {x} {y} {z} {p} {q} {r} a b c =
    let u = and_then out 0 (letters "refused") x p (spaced (digits n ∷ digits l ∷ [])) y q a b in
    let v = and_then out 0 (letters "refused" ++ spaced (digits n ∷ digits l ∷ [])) y q (10 ∷ []) z r u c in
    (omega (arith, v.0), v.1)

module _ (out_len n l : ℕ) {k : ℕ} {x : List ℕ} (e : k ≡ length (refusal_line n l)) where
  -- it was put to zeros, and has room
  pub refusal_held : k ≤ out_len → x ≡ sets (replicate out_len 0) 0 (refusal_line n l) → Printout out_len (refusal_in out_len n l) k x
  refusal_held h f =
      let g : length (refusal_line n l) ≤ out_len = omega arith in
      rw (le-leb (length (refusal_line n l)) out_len g) (record { count = e; bytes = f ∙ sets_zeros (refusal_line n l) out_len g })

  -- it has no room
  pub refusal_dropped : out_len < k → x ≡ replicate out_len 0 → Printout out_len (refusal_in out_len n l) 0 x
  refusal_dropped h f =
      let q : out_len ≡ out_len - 0 = omega arith in
      rw (lt-leb (length (refusal_line n l)) out_len (omega arith)) (record { count = refl; bytes = f ∙ ap (λ (j : ℕ). replicate {A = ℕ} j 0) q })

-- ---- outcomes that leave one list

one_left : (r a : Result ℕ Refusal) (x y : List ℕ) → told r (x ∷ []) ≡ told a (y ∷ []) → x ≡ y
one_left r a x y e = ap (λ (l : List (List ℕ)). get_or l 0 []) (told_left r a (x ∷ []) (y ∷ []) e)

-- ---- the flat table F, of which m records count, as it is written; a is what writing answers

module _ (F : List ℕ) (m out_len : ℕ) (a : Result ℕ Refusal) (x : List ℕ) (e : told a (x ∷ []) ≡ writes F m out_len) where
  answer_written : a ≡ write_answer (write_table F m out_len)
  unfolding writes
  answer_written = told_answer a (write_answer (write_table F m out_len)) (x ∷ []) (buffer_of out_len (write_table F m out_len) ∷ []) e

  bytes_written : x ≡ buffer_of out_len (write_table F m out_len)
  unfolding writes
  bytes_written = one_left a (write_answer (write_table F m out_len)) x (buffer_of out_len (write_table F m out_len)) e

  pub text_held : {k : ℕ} → a ≡ Ok k → Printout out_len (after_writing out_len (write_table F m out_len)) k x
  text_held {k} q = go (write_table F m out_len) (sym q ∙ answer_written) bytes_written
    where
      go : (o : Out) → Ok k ≡ write_answer o → x ≡ buffer_of out_len o → Printout out_len (after_writing out_len o) k x
      go (wrote s) h b = record { count = cc; bytes = b }
      go (refuse r) h b = let z : ◌≡◌ {A = ℕ} 0 1 = cc in absurd (omega arith)

  pub text_not : {r : Refusal} {len k : ℕ} {y : List ℕ} → a ≡ Err r → len ≡ out_len → Printout len (refusal_in len (number_of r) 0) k y
      → Printout out_len (after_writing out_len (write_table F m out_len)) k y
  text_not {r} {len} {k} {y} q h p = go (write_table F m out_len) (sym q ∙ answer_written) (subst (λ (z : ℕ). Printout z (refusal_in z (number_of r) 0) k y) h p)
    where
      go : (o : Out) → Err r ≡ write_answer o → Printout out_len (refusal_in out_len (number_of r) 0) k y → Printout out_len (after_writing out_len o) k y
      go (wrote s) f p = let z : ◌≡◌ {A = ℕ} 0 1 = cc in absurd (omega arith)
      go (refuse c) f p =
          let z : r ≡ c = cc in
          rw (sym z) p

-- ---- the whole, from the parts' outcomes

-- after flattening the table T with its count n, which leaves the target F
pub flat_by : (T : List ℕ) (n flat_len out_len : ℕ) (a : Result ℕ Refusal) (F : List ℕ) → told a (F ∷ []) ≡ flattens T n flat_len
    → (after_flattening out_len a F ≡ after_reading flat_len out_len (Ok n) T) × (F ≡ target_after flat_len (Ok n) T)
flat_by T n flat_len out_len a F e =
    let f = flattens_left T n flat_len a F e in
    (ap₂ (after_flattening out_len) (flattens_answer T n flat_len a F e) f, f)

-- after reading the text s, which leaves the table T
module _ (len flat_len out_len : ℕ) (s : List ℕ) (r : Result ℕ TextRefusal) (T : List ℕ) (e : told_read r (T ∷ []) ≡ reads len s) where
  answer_read : r ≡ text_answer (read_text len s)
  unfolding reads
  answer_read = read_answer r (text_answer (read_text len s)) (T ∷ []) (table_of len (read_text len s) ∷ []) e

  table_read : T ≡ table_of len (read_text len s)
  unfolding reads
  table_read = ap (λ (l : List (List ℕ)). get_or l 0 []) (read_left r (text_answer (read_text len s)) (T ∷ []) (table_of len (read_text len s) ∷ []) e)

  pub prints_by : {a : Result ℕ TextRefusal} → r ≡ a → {b F x : List ℕ} {n : ℕ} → b ≡ after_reading flat_len out_len a T → F ≡ target_after flat_len a T → Printout out_len b n x
      → told (Ok n) (T ∷ F ∷ x ∷ []) ≡ prints len flat_len out_len s
  unfolding prints printed
  prints_by {a} q {b} {F} {x} {n} h f p =
      let w : a ≡ text_answer (read_text len s) = sym q ∙ answer_read in
      let g : b ≡ printed len flat_len out_len s = h ∙ ap₂ (after_reading flat_len out_len) w table_read in
      let t : F ≡ target_after flat_len (text_answer (read_text len s)) (table_of len (read_text len s)) = f ∙ ap₂ (target_after flat_len) w table_read in
      let o : x ≡ buffer_of out_len (wrote (printed len flat_len out_len s)) = p.bytes ∙ ap (λ (y : List ℕ). buffer_of out_len (wrote y)) g in
      told_as (ap Ok (p.count ∙ ap length g)) (ap₂ ◌∷◌ table_read (ap₂ ◌∷◌ t (ap₂ ◌∷◌ o refl)))

-- the bytes lie within the output list, which keeps its length
pub prints_within : (len flat_len out_len : ℕ) (s T F x : List ℕ) (n : ℕ) → told (Ok n) (T ∷ F ∷ x ∷ []) ≡ prints len flat_len out_len s → n ≤ length x
unfolding prints
prints_within len flat_len out_len s T F x n e =
    let b = printed len flat_len out_len s in
    let left = table_of len (read_text len s) ∷ target_after flat_len (text_answer (read_text len s)) (table_of len (read_text len s)) ∷ buffer_of out_len (wrote b) ∷ [] in
    let k = told_answer (Ok n) (Ok (length b)) (T ∷ F ∷ x ∷ []) left e in
    let q : n ≡ length b = cc in
    let y : x ≡ buffer_of out_len (wrote b) = ap (λ (l : List (List ℕ)). get_or l 2 []) (told_left (Ok n) (Ok (length b)) (T ∷ F ∷ x ∷ []) left e) in
    omega (arith, q, ap length y, length-append b (replicate (out_len - length b) 0))
