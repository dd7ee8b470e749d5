-- At the flat program's sizes nothing is cut: it prints the flat text entire, or the line of a refusal of reading or of flattening, and never `refused 21 ..`.
-- Assumes nothing.
use Rattle.std.specs.Prelude.{Result, Ok, Err}
use Prim.Native.Nat.{ℕ, ◌+◌, ◌*◌, ◌/◌, ◌%◌, ◌^◌, ◌≤◌, ◌<◌}
use mathlib.Core.Path.{◌≡◌, refl, sym, ap, ◌∙◌}
use mathlib.Core.Logic.{⊎_elim}
use mathlib.Core.Bool.{Bool, true, false, ◌&&◌}
use mathlib.Core.List.{List, [], ◌∷◌, ◌++◌, map}
use native.Mathlib.Omega.{arith}
use lib.Dec.{leb, lit<, lit≤}
use lib.ListN.{length, get_or}
use borrow.Author.Tests.{le-leb, leb-true, leb-false}
use Rattle.tables.specs.declared.Refusal.{Refusal}
use Rattle.tables.specs.declared.Refusal.TheVariants.{NotATable, BadTable, TargetTooSmall}
use Rattle.tables.specs.Pick.{pick}
use Rattle.tables.specs.Kinds.{letters}
use Rattle.tables.specs.Refusals.{number_of}
use Rattle.tables.specs.Lines.{words_of}
use Rattle.tables.specs.Layout.{whole, room, records_of}
use Rattle.tables.specs.Ids.{ids_right}
use Rattle.tables.specs.Types.{no_ctx}
use Rattle.tables.specs.Tables.{lawful, checked}
use Rattle.tables.specs.Answers.{if_accepted}
use Rattle.tables.proofs.Encoding.{words_lines}
use Rattle.texts.specs.Reading.{Text, done, refused, read_text, text_answer, table_of}
use Rattle.texts.specs.Writing.{wrote, fitted, write_from, write_text, write_table}
use Rattle.texts.specs.Split.{join}
use Rattle.texts.specs.Decimal.{digits, digits_f}
use Rattle.texts.proofs.Printed.{digits_small, digits_more}
use Rattle.texts.proofs.Lengths.{text_short}
use Rattle.texts.proofs.Refused.{text_no}
use Rattle.flattening.specs.Flat.{flat_lines, flat_records}
use Rattle.flattening.specs.Answers.{flattened, flat_left}
use Rattle.flattening.proofs.Leaves.{answered, flat_accepted, flat_lines_lem}
use Rattle.flat_text.specs.Printing.{refusal_line, refusal_in, after_flattening, after_reading, printed}
use Rattle.flat_text.proofs.Outputs.{refusal_short}

-- ---- what the request asks for: "the flat text, or `refused N L` and LF", with no word of an output list

-- the circuit is the first n records of the table T
abbrev pub flat_or : Result ℕ Refusal → (T : List ℕ) (n : ℕ) → List ℕ
flat_or (Ok m) T n = write_text (flat_records T n)
flat_or (Err r) T n = refusal_line (number_of r) 0

abbrev pub text_or : (len flat_len : ℕ) → Text → List ℕ
text_or len flat_len (done rs ds) = flat_or (flattened (table_of len (done rs ds)) (length rs) flat_len) (table_of len (done rs ds)) (length rs)
text_or len flat_len (refused r l) = refusal_line (number_of r) l

unfoldable pub asked : (len flat_len : ℕ) → (s : List ℕ) → List ℕ
asked len flat_len s = text_or len flat_len (read_text len s)

-- ---- the parts

-- what flattening refuses has a number of at most 12
pub flat_no : (t : List ℕ) (n len : ℕ) (r : Refusal) → flattened t n len ≡ Err r → number_of r ≤ 12
unfolding flattened checked
flat_no t n len r e =
    go (whole false (length t) && whole false len) (whole false (length t)) (leb n (room false (length t)) && (lawful false no_ctx (records_of false t n) && ids_right false t n))
    (leb (length (flat_lines t n)) (room false len)) e
  where
    is : (q : Refusal) → number_of q ≤ 12 → ◌≡◌ {A = Result ℕ Refusal} (Err q) (Err r) → number_of r ≤ 12
    is q h f =
        let w : q ≡ r = cc in
        rw (sym w) h

    go : (a b c d : Bool)
        → pick a (if_accepted (pick b (pick c (Ok tt) (Err BadTable)) (Err NotATable)) (pick d (Ok (length (flat_lines t n))) (Err TargetTooSmall))) (Err NotATable)
        ≡ Err r → number_of r ≤ 12
    go false b c d f = is NotATable (lit≤ tt) f
    go true false c d f = is NotATable (lit≤ tt) f
    go true true false d f = is BadTable (lit≤ tt) f
    go true true true false f = is TargetTooSmall (lit≤ tt) f
    go true true true true f = let w : ◌≡◌ {A = ℕ} 0 1 = cc in absurd (omega arith)

-- a refusal's line has room
refusal_whole : (out_len n l : ℕ) → 50 ≤ out_len → n ≤ 22 → l ≤ 65537 → refusal_in out_len n l ≡ refusal_line n l
refusal_whole out_len n l h a b =
    let k : length (refusal_line n l) ≤ out_len = omega (arith, refusal_short n l (omega arith) (omega arith)) in
    rw (le-leb (length (refusal_line n l)) out_len k) refl

-- and so has the text of a flat circuit of m records
module _ (t : List ℕ) (n len m out_len : ℕ) (e : flattened t n len ≡ Ok m) where
  records_left : records_of false (flat_left t n len) m ≡ flat_records t n
  unfolding flat_records
  records_left = sym (words_lines false (flat_left t n len) m (flat_accepted t n len m e)) ∙ ap (map words_of) (flat_lines_lem t n len m e)

  text_whole : m < 10 ^ 4 → 40 * m ≤ out_len → write_table (flat_left t n len) m out_len ≡ wrote (write_text (flat_records t n))
  unfolding write_table
  text_whole a b =
      let c = flat_accepted t n len m e in
      let k : length (write_text (records_of false (flat_left t n len) m)) ≤ out_len = omega (arith, text_short (flat_left t n len) m c a) in
      rw (c, le-leb (length (write_text (records_of false (flat_left t n len) m))) out_len k, fitted) (ap (λ (rs : List (List ℕ)). wrote (write_text rs)) records_left)

-- a line of another refusal than 21 is another line, and so is a text
abbrev line_with : List ℕ → (l : ℕ) → List ℕ
line_with d l = join (letters "refused" ∷ d ∷ digits l ∷ []) ++ (10 ∷ [])

twenty_one : digits 21 ≡ 50 ∷ 49 ∷ []
unfolding digits digits_f
twenty_one = refl

other_line : (n l k : ℕ) → n ≤ 12 → refusal_line n l ≡ refusal_line 21 k → ⊥
other_line n l k h e = go (leb n 9) refl
  where
    same : (d : List ℕ) → digits n ≡ d → line_with d l ≡ line_with (50 ∷ 49 ∷ []) k
    same d f = ap (λ (x : List ℕ). line_with x l) (sym f) ∙ (e ∙ ap (λ (x : List ℕ). line_with x k) twenty_one)

    go : (q : Bool) → leb n 9 ≡ q → ⊥
    go true f =
        let z : ◌≡◌ {A = ℕ} 32 49 = ap (λ (x : List ℕ). get_or x 9 0) (same ((48 + n) ∷ []) (digits_small n (leb-true n 9 f))) in
        omega arith
    go false f =
        let j = leb-false n 9 f in
        let t : n / 10 ≡ 1 = omega arith in
        let d : digits n ≡ (48 + 1) ∷ (48 + n % 10) ∷ [] = digits_more n j ∙ ap (λ (x : List ℕ). x ++ ((48 + n % 10) ∷ [])) (ap digits t ∙ digits_small 1 (lit≤ tt)) in
        let z : ◌≡◌ {A = ℕ} 49 50 = ap (λ (x : List ℕ). get_or x 8 0) (same ((48 + 1) ∷ (48 + n % 10) ∷ []) d) in
        omega arith

line_22 : (l k : ℕ) → refusal_line 22 l ≡ refusal_line 21 k → ⊥
unfolding digits digits_f
line_22 l k e = let z : ◌≡◌ {A = ℕ} 50 49 = ap (λ (x : List ℕ). get_or x 9 0) e in omega arith

other_text : (rs : List (List ℕ)) (n l : ℕ) → write_text rs ≡ refusal_line n l → ⊥
unfolding write_text write_from digits digits_f
other_text [] n l e = let z : ◌≡◌ {A = ℕ} 0 114 = ap (λ (x : List ℕ). get_or x 0 0) e in omega arith
other_text (r ∷ rs) n l e = let z : ◌≡◌ {A = ℕ} 49 114 = ap (λ (x : List ℕ). get_or x 0 0) e in omega arith

-- ---- the whole

module _ (len flat_len out_len : ℕ) (few : room false flat_len < 10 ^ 4) (ample : 40 * room false flat_len ≤ out_len) (some : 50 ≤ out_len) where
  flat_whole : (T : List ℕ) (n : ℕ) → after_flattening out_len (flattened T n flat_len) (flat_left T n flat_len) ≡ flat_or (flattened T n flat_len) T n
  flat_whole T n = go (flattened T n flat_len) refl
    where
      go : (a : Result ℕ Refusal) → flattened T n flat_len ≡ a → after_flattening out_len a (flat_left T n flat_len) ≡ flat_or a T n
      go (Ok m) e =
          let f = (answered T n flat_len m e).fits in
          rw (text_whole T n flat_len m out_len e (omega arith) (omega arith)) refl
      go (Err r) e = let f = flat_no T n flat_len r e in refusal_whole out_len (number_of r) 0 some (omega (arith, f)) (omega arith)

  -- every text is printed as the request asks
  pub all_printed : (s : List ℕ) → printed len flat_len out_len s ≡ asked len flat_len s
  unfolding printed asked
  all_printed s = go (read_text len s) refl
    where
      go : (x : Text) → read_text len s ≡ x → after_reading flat_len out_len (text_answer x) (table_of len x) ≡ text_or len flat_len x
      go (done rs ds) e = flat_whole (table_of len (done rs ds)) (length rs)
      go (refused r l) e =
          let f = text_no len s r l e in
          refusal_whole out_len (number_of r) l some (⊎_elim (λ h. omega (arith, h)) (λ h. omega (arith, h)) f.0) f.1

  -- and never as refused by 21
  pub never_short : (s : List ℕ) (k : ℕ) → printed len flat_len out_len s ≡ refusal_line 21 k → ⊥
  unfolding asked
  never_short s k p = go (read_text len s) refl (sym (all_printed s) ∙ p)
    where
      flat : (T : List ℕ) (n : ℕ) (a : Result ℕ Refusal) → flattened T n flat_len ≡ a → flat_or a T n ≡ refusal_line 21 k → ⊥
      flat T n (Ok m) e q = other_text (flat_records T n) 21 k q
      flat T n (Err r) e q = other_line (number_of r) 0 k (flat_no T n flat_len r e) q

      go : (x : Text) → read_text len s ≡ x → text_or len flat_len x ≡ refusal_line 21 k → ⊥
      go (done rs ds) e q = flat (table_of len (done rs ds)) (length rs) (flattened (table_of len (done rs ds)) (length rs) flat_len) refl q
      go (refused r l) e q = let f = text_no len s r l e in ⊎_elim (λ h. other_line (number_of r) l k (omega (arith, h)) q) (λ h. line_22 l k (sym (ap (λ (n : ℕ). refusal_line n l) h) ∙ q)) f.0

-- the flat program's sizes: two tables of 1,300 records each, and an output list of 65,536 bytes
pub flat_program : (s : List ℕ) → printed 7800 7800 65536 s ≡ asked 7800 7800 s
flat_program = all_printed 7800 7800 65536 (lit< tt) (lit≤ tt) (lit≤ tt)

pub flat_program_room : (s : List ℕ) (k : ℕ) → printed 7800 7800 65536 s ≡ refusal_line 21 k → ⊥
flat_program_room = never_short 7800 7800 65536 (lit< tt) (lit≤ tt) (lit≤ tt)

-- where reading and flattening are done, what is printed is the whole flat text
pub flat_text_whole : (s : List ℕ) (rs : List (List ℕ)) (ds : List ℕ) (m : ℕ) → read_text 7800 s ≡ done rs ds → flattened (table_of 7800 (done rs ds)) (length rs) 7800 ≡ Ok m
    → printed 7800 7800 65536 s ≡ write_text (flat_records (table_of 7800 (done rs ds)) (length rs))
unfolding asked
flat_text_whole s rs ds m e f = flat_program s ∙ (ap (text_or 7800 7800) e ∙ ap (λ (a : Result ℕ Refusal). flat_or a (table_of 7800 (done rs ds)) (length rs)) f)
