-- The round trip: an accepted table, written as text and read again, gives the same records and the same count, with the ids 1, 2, 3. Assumes nothing.
use Rattle.std.specs.Prelude.{Result, Ok, Err}
use Rattle.tables.specs.declared.Refusal.{Refusal}
use Prim.Native.Nat.{ℕ, zero, suc, ◌+◌, ◌-◌, ◌^◌, ◌≤◌, ◌<◌}
use mathlib.Core.Path.{◌≡◌, refl, sym, ap, ap₂, ◌∙◌, subst}
use mathlib.Core.Bool.{Bool, true, false, ◌&&◌, ◌||◌, not}
use mathlib.Core.List.{List, [], ◌∷◌, ◌++◌, append-nil, append_assoc}
use native.Mathlib.Omega.{arith}
use lib.Dec.{T, eqb, leb, ltb, eqb→eq, leb→le}
use lib.ListN.{length, take, drop, get_or, set, drop_of_length-le}
use lib.Seq.{take_all}
use mir.Facts.{and_yes}
use borrow.Author.Tests.{eqb-true, ne_eqb, lt-ltb, le-leb, le-ltb, ltb-true}
use Rattle.tables.specs.declared.Ty.{Ty}
use Rattle.tables.specs.declared.Refusal.TheVariants.{TextBuffer}
use Rattle.tables.specs.Pick.{pick, inside, all}
use Rattle.tables.specs.Kinds.{row_of, sort_class, operand_count, first_class, second_class, third_class}
use Rattle.tables.specs.Lines.{is_bitvec, shape_of, line_of, fields, kind_in, sort_in, first_in, second_in, third_in}
use Rattle.tables.specs.Layout.{record_words, whole, room, records_of, from}
use Rattle.tables.specs.Ids.{most_id}
use Rattle.tables.specs.Types.{Ctx, no_ctx, ty_at, given, grow}
use Rattle.tables.specs.Rules.{fault}
use Rattle.tables.specs.Tables.{known, unused, formed, keeps, lawful, checked}
use Rattle.tables.proofs.Every.{every, at_each}
use Rattle.tables.proofs.Laws.{and_true, or_false}
use Rattle.tables.proofs.Shapes.{fits_as}
use Rattle.tables.proofs.Answers.{passed}
use Rattle.tables.proofs.Kept.{both, known_range}
use Rattle.tables.proofs.Checking.{roomy}
use Rattle.tables.proofs.Places.{fields_of, fields_eq, length_records}
use Rattle.tables.proofs.Ids.{length_from, from_append}
use Rattle.tables.proofs.Sound.{accepted_room, accepted_lawful}
use Rattle.tables.proofs.OwnSorts.{Counted, counted_none, counted_more}
use Rattle.texts.specs.Decimal.{Num}
use Rattle.texts.specs.Forms.{form_row, kind_of, first_of, numbers_of}
use Rattle.texts.specs.Split.{split, join}
use Rattle.texts.specs.Decimal.{decimal, digits}
use Rattle.texts.specs.Operands.{resolved}
use Rattle.texts.specs.Names.{only, used, with_name}
use Rattle.texts.specs.Minus.{no_signs, minuses_fit, minuses}
use Rattle.texts.specs.Reading.{Word, form_of, behind, number_at, numbers_from, any_bad, any_big, placed, last_of, number_tokens, extra_tokens, numbers_in, signs_from, signs_in, fresh, written_record, settled, record_in, is_next, value_of, line_id, wrong_class, misfit, no_records_left, refusals, got, lowest, reply_in, read_line, done, line_tokens, read_lines, read_text, name_behind, line_name, name_used, sofar}
use Rattle.texts.specs.Writing.{numbers, kind_tokens, tokens_of, write_from, write_text, wrote, refuse, fitted, write_table}
use Rattle.texts.proofs.Splitting.{Toks, toks_append, tokens_join, lines_join}
use Rattle.texts.proofs.Decimals.{digits_tok, decimal_digits}
use Rattle.texts.proofs.Words.{word_found, word_toks, row_kind, kind_low}
use Rattle.texts.proofs.Scan.{number_other, without_sign, number_plain, Plain, sign_none, signs_none}
use Rattle.texts.proofs.Steps.{settled_other}
use Rattle.texts.proofs.Lowest.{NoneHolds, none_holds}
use Rattle.texts.proofs.InOrder.{last_from, Numbered, resolved_same, numbered_lines}
use Rattle.texts.proofs.Bounded.{Good, good_lawful}
use Rattle.texts.proofs.Reached.{step_got, lines_end, text_lines}

-- ---- a record's numbers, printed and read, are its words

-- m words of rec, from the place j on, put into d
abbrev copied : (m j : ℕ) → List ℕ → List ℕ → List ℕ
copied zero j rec d = d
copied (suc m) j rec d = copied m (suc j) rec (set d j (get_or rec j 0))

length_numbers : (m j : ℕ) (rec : List ℕ) → length (numbers m j rec) ≡ m
length_numbers zero j rec = refl
length_numbers (suc m) j rec = ap suc (length_numbers m (suc j) rec)

-- m words of rec, from the place j on, as numbers
abbrev values : (m j : ℕ) → List ℕ → List Num
values zero j rec = []
values (suc m) j rec = Ok (get_or rec j 0) ∷ values m (suc j) rec

none_bad : (m j : ℕ) (rec : List ℕ) → any_bad (values m j rec) ≡ false
none_bad zero j rec = refl
none_bad (suc m) j rec = none_bad m (suc j) rec

none_big : (m j : ℕ) (rec : List ℕ) → any_big (values m j rec) ≡ false
none_big zero j rec = refl
none_big (suc m) j rec = none_big m (suc j) rec

placed_values : (m j : ℕ) (rec d : List ℕ) → placed j (values m j rec) d ≡ copied m j rec d
placed_values zero j rec d = refl
placed_values (suc m) j rec d = placed_values m (suc j) rec (set d j (get_or rec j 0))

module _ (k : ℕ) (low : k ≤ 63) (rec : List ℕ) (words : (j : ℕ) → get_or rec j 0 < 2 ^ 64) where
  number_read : (j : ℕ) → number_at k j (digits (get_or rec j 0)) ≡ Ok (get_or rec j 0)
  number_read j =
      let d = decimal_digits (get_or rec j 0) (words j) in
      without_sign k j (digits (get_or rec j 0)) (sign_none k j (digits (get_or rec j 0)) (number_plain (digits (get_or rec j 0)) (get_or rec j 0) d))
      ∙ (number_other k j (digits (get_or rec j 0)) (λ e. omega arith) (λ e. omega arith) ∙ d)

  numbers_read : (m j : ℕ) → numbers_from k j (numbers m j rec) ≡ values m j rec
  numbers_read zero j = refl
  numbers_read (suc m) j = ap₂ (λ (x : Num) (xs : List Num). x ∷ xs) (number_read j) (numbers_read m (suc j))

  numbers_plain : (m j : ℕ) → Plain (numbers m j rec)
  numbers_plain zero j = tt
  numbers_plain (suc m) j = (number_plain (digits (get_or rec j 0)) (get_or rec j 0) (decimal_digits (get_or rec j 0) (words j)), numbers_plain m (suc j))

-- ---- the words that a line does not use are 0, so nothing of a formed record is lost

by_count : (q : Bool) (n k s a b c : ℕ) → n ≤ 3 → (q ≡ true → s ≡ 0) → (n ≤ 0 → a ≡ 0) → (n ≤ 1 → b ≡ 0) → (n ≤ 2 → c ≡ 0)
    → copied (pick q 0 1 + n) (2 - pick q 0 1) (fields k s a b c) (fresh k) ≡ fields k s a b c
by_count true zero k s a b c l z₁ z₂ z₃ z₄ = fields_eq refl (sym (z₁ refl)) (sym (z₂ (omega arith))) (sym (z₃ (omega arith))) (sym (z₄ (omega arith)))
by_count true (suc zero) k s a b c l z₁ z₂ z₃ z₄ = fields_eq refl (sym (z₁ refl)) refl (sym (z₃ (omega arith))) (sym (z₄ (omega arith)))
by_count true (suc (suc zero)) k s a b c l z₁ z₂ z₃ z₄ = fields_eq refl (sym (z₁ refl)) refl refl (sym (z₄ (omega arith)))
by_count true (suc (suc (suc zero))) k s a b c l z₁ z₂ z₃ z₄ = fields_eq refl (sym (z₁ refl)) refl refl refl
by_count true (suc (suc (suc (suc n)))) k s a b c l z₁ z₂ z₃ z₄ = absurd (omega arith)
by_count false zero k s a b c l z₁ z₂ z₃ z₄ = fields_eq refl refl (sym (z₂ (omega arith))) (sym (z₃ (omega arith))) (sym (z₄ (omega arith)))
by_count false (suc zero) k s a b c l z₁ z₂ z₃ z₄ = fields_eq refl refl refl (sym (z₃ (omega arith))) (sym (z₄ (omega arith)))
by_count false (suc (suc zero)) k s a b c l z₁ z₂ z₃ z₄ = fields_eq refl refl refl refl (sym (z₄ (omega arith)))
by_count false (suc (suc (suc zero))) k s a b c l z₁ z₂ z₃ z₄ = refl
by_count false (suc (suc (suc (suc n)))) k s a b c l z₁ z₂ z₃ z₄ = absurd (omega arith)

-- a row has a class for each of its operands and for no more: one computed test
abbrev counts : List ℕ → Bool
counts row = leb (operand_count row) 3 && ((ltb 0 (operand_count row) || eqb (first_class row) 0) && ((ltb 1 (operand_count row) || eqb (second_class row) 0) && (ltb 2 (operand_count row) || eqb (third_class row) 0)))

test : ℕ → Bool
test i = counts (row_of (suc i))

all_count : T (every test 63)
unfolding test row_of
all_count = tt

count_at : (k : ℕ) → 1 ≤ k → k ≤ 63 → T (counts (row_of k))
unfolding test
count_at zero a b = absurd (omega arith)
count_at (suc i) a b = at_each test 63 all_count i (omega arith)

no_class : (n m c x : ℕ) → T (ltb m n || eqb c 0) → unused c x ≡ true → n ≤ m → x ≡ 0
no_class n m c x t u h = go (ltb m n) refl t
  where
    go : (q : Bool) → ltb m n ≡ q → T (q || eqb c 0) → x ≡ 0
    go true e y = absurd (omega (arith, ltb-true m n e))
    go false e y = eqb-true x 0 (subst (λ (d : ℕ). unused d x ≡ true) (eqb→eq c 0 y) u)

copied_fields : (k s a b c : ℕ) → formed false (fields k s a b c) ≡ true → copied (numbers_of (row_of k)) (first_of (row_of k)) (fields k s a b c) (fresh k) ≡ fields k s a b c
copied_fields k s a b c h =
    let row : List ℕ = row_of k in
    let f = both (known false k) _ h in
    let g = known_range false k f.0 in
    let u₁ = both (unused (sort_class (row_of k)) s) _ f.1 in
    let u₂ = both (unused (first_class (row_of k)) a) _ u₁.1 in
    let u₃ = both (unused (second_class (row_of k)) b) _ u₂.1 in
    let u₄ = both (unused (third_class (row_of k)) c) _ u₃.1 in
    let t = count_at k g.0 g.1 in
    let t₁ = and_yes (leb (operand_count (row_of k)) 3) _ t in
    let t₂ = and_yes (ltb 0 (operand_count (row_of k)) || eqb (first_class (row_of k)) 0) _ t₁.1 in
    let t₃ = and_yes (ltb 1 (operand_count (row_of k)) || eqb (second_class (row_of k)) 0) _ t₂.1 in
    by_count (eqb (sort_class (row_of k)) 0) (operand_count (row_of k)) k s a b c (leb→le (operand_count (row_of k)) 3 t₁.0)
    (λ e. eqb-true s 0 (subst (λ (d : ℕ). unused d s ≡ true) (eqb-true (sort_class (row_of k)) 0 e) u₁.0))
    (no_class (operand_count (row_of k)) 0 (first_class (row_of k)) a t₂.0 u₂.0)
    (no_class (operand_count (row_of k)) 1 (second_class (row_of k)) b t₃.0 u₃.0)
    (no_class (operand_count (row_of k)) 2 (third_class (row_of k)) c t₃.1 u₄.0)

copied_back : (r : List ℕ) → length r ≡ record_words → formed false r ≡ true → copied (numbers_of (row_of (kind_in r))) (first_of (row_of (kind_in r))) r (fresh (kind_in r)) ≡ r
copied_back r l h =
    let e = fields_of r l in
    ap (λ (x : List ℕ). copied (numbers_of (row_of (kind_in r))) (first_of (row_of (kind_in r))) x (fresh (kind_in r))) e
    ∙ (copied_fields (kind_in r) (sort_in r) (first_in r) (second_in r) (third_in r) h ∙ sym e)

-- ---- a line

numbers_toks : (m j : ℕ) (rec : List ℕ) → Toks (numbers m j rec)
numbers_toks zero j rec = tt
numbers_toks (suc m) j rec = (digits_tok (get_or rec j 0), numbers_toks m (suc j) rec)

module _ (L : ℕ → Ty) (G : Bool → ℕ → Bool) (r : List ℕ) (sized : length r ≡ record_words) (words : (j : ℕ) → get_or r j 0 < 2 ^ 64) (kp : keeps false L G r ≡ true) where
  well : formed false r ≡ true
  well = (both (formed false r) _ kp).0

  free : fault false L G r ≡ 0
  free = eqb-true (fault false L G r) 0 (both (formed false r) _ kp).1

  own_kind : known false (kind_in r) ≡ true
  own_kind = (both (known false (kind_in r)) _ well).0

  least : 1 ≤ kind_in r
  least = (known_range false (kind_in r) own_kind).0

  most : kind_in r ≤ 63
  most = (known_range false (kind_in r) own_kind).1

  line_toks : (n : ℕ) → Toks (tokens_of n r)
  line_toks n = (digits_tok n, toks_append (kind_tokens (kind_in r)) _ (word_toks (kind_in r) own_kind) (numbers_toks (numbers_of (row_of (kind_in r))) (first_of (row_of (kind_in r))) r))

  settled_same : (w : ℕ) → settled w (kind_in r) r ≡ r
  settled_same w = settled_other w (kind_in r) r (λ e. omega (arith, most)) (λ e. omega (arith, most))

  -- the width of a sort
  width_fits : kind_in r ≡ 1 → inside 1 64 (first_in r) ≡ true
  width_fits k = sym (and_true (inside 1 64 (first_in r))) ∙ (fits_as r is_bitvec (ap shape_of k) (L (sort_in r)) (L (first_in r)) (L (second_in r)) (L (third_in r)) refl ∙ (passed false L G r free).width)

  abbrev row : List ℕ
  row = row_of (kind_in r)

  -- the numbers of the line, printed
  abbrev printed : List (List ℕ)
  printed = numbers (numbers_of row) (first_of row) r

  own_row : form_row (kind_in r) ≡ row
  own_row = row_kind (kind_in r) most

  all_taken : number_tokens (kind_in r) printed ≡ printed
  all_taken = ap (λ (x : List ℕ). take (numbers_of x) printed) own_row ∙ take_all (numbers_of row) printed (omega (arith, length_numbers (numbers_of row) (first_of row) r))

  none_left : extra_tokens (kind_in r) printed ≡ []
  none_left =
      let h : length printed ≤ numbers_of row = omega (arith, length_numbers (numbers_of row) (first_of row) r) in
      ap (λ (x : List ℕ). drop (numbers_of x) printed) own_row ∙ drop_of_length-le printed h

  are_values : numbers_in (kind_in r) printed ≡ values (numbers_of row) (first_of row) r
  are_values =
      ap (numbers_from (kind_in r) (first_of (form_row (kind_in r)))) all_taken
      ∙ (ap (λ (x : List ℕ). numbers_from (kind_in r) (first_of x) printed) own_row ∙ numbers_read (kind_in r) most r words (numbers_of row) (first_of row))

  no_signs_lem : signs_in (kind_in r) printed ≡ no_signs
  no_signs_lem =
      ap (λ (x : List (List ℕ)). signs_from (kind_in r) (first_of (form_row (kind_in r))) x no_signs) all_taken
      ∙ signs_none (kind_in r) (first_of (form_row (kind_in r))) printed (numbers_plain (kind_in r) most r words (numbers_of row) (first_of row))

  written_same : written_record (kind_in r) printed ≡ r
  written_same =
      ap (λ (ns : List Num). placed (first_of (form_row (kind_in r))) ns (fresh (kind_of (kind_in r)))) are_values
      ∙ (ap (λ (x : List ℕ). placed (first_of x) (values (numbers_of row) (first_of row) r) (fresh (kind_of (kind_in r)))) own_row
      ∙ (ap (λ (k : ℕ). placed (first_of row) (values (numbers_of row) (first_of row) r) (fresh k)) (kind_low (kind_in r) most)
      ∙ (placed_values (numbers_of row) (first_of row) r (fresh (kind_in r)) ∙ copied_back r sized well)))

  -- after n lines, which are numbered 1, 2, 3
  module _ (n : ℕ) (lines : Numbered L n) (few : n < 16384) where
    abbrev ids : List ℕ
    ids = from 1 n

    record_same : record_in L ids (kind_in r) printed ≡ r
    record_same =
        ap (λ (x : List ℕ). settled (L (sort_in x)).w (kind_in r) x) (ap (resolved ids) written_same ∙ resolved_same L G n r lines sized kp) ∙ settled_same (L (sort_in r)).w

    -- none of the rules 8, 9 and 10 is broken
    other_fault : (x : ℕ) → (x ≡ 0 → ⊥) → eqb (fault false L G (record_in L ids (kind_in r) printed)) x ≡ false
    other_fault x h = ne_eqb _ x (λ e. h (sym e ∙ (ap (fault false L G) record_same ∙ free)))

    -- 3
    next_id : is_next (decimal (digits (suc n))) (last_of 0 ids) ≡ true
    next_id =
        let e : last_of 0 ids ≡ n = last_from 0 n ∙ omega arith in
        ap₂ is_next (decimal_digits (suc n) (omega arith)) e ∙ rw (lt-ltb n (suc n) (omega arith), le-leb (suc n) most_id (omega arith)) refl

    -- 6 and 7
    operands_fit : (ltb (length printed) (numbers_of (form_row (kind_in r))) || (any_bad (numbers_in (kind_in r) printed) || leb 2 (length (extra_tokens (kind_in r) printed)))) ≡ false
    operands_fit =
        let a : numbers_of (form_row (kind_in r)) ≤ length printed = omega (arith, ap numbers_of own_row, length_numbers (numbers_of row) (first_of row) r) in
        rw (le-ltb (length printed) (numbers_of (form_row (kind_in r))) a, ap any_bad are_values ∙ none_bad (numbers_of row) (first_of row) r) (ap (λ (x : List (List ℕ)). leb 2 (length x)) none_left)

    numbers_fit : (any_big (numbers_in (kind_in r) printed) || (eqb (kind_in r) 1 && not (inside 1 64 (first_in (written_record (kind_in r) printed))))) ≡ false
    numbers_fit = rw (ap any_big are_values ∙ none_big (numbers_of row) (first_of row) r) (go (eqb (kind_in r) 1) refl)
      where
        go : (q : Bool) → eqb (kind_in r) 1 ≡ q → (q && not (inside 1 64 (first_in (written_record (kind_in r) printed)))) ≡ false
        go true e = ap (λ (x : List ℕ). not (inside 1 64 (first_in x))) written_same ∙ ap not (width_fits (eqb-true (kind_in r) 1 e))
        go false e = refl

    none_refused : (m : ℕ) (ns : List (List ℕ)) → n < m → NoneHolds (refusals L G m ids ns (digits (suc n)) (kind_in r) printed)
    none_refused m ns h = (
      ap not next_id,
      (
        ap not (lt-ltb (length ids) m (omega (arith, length_from 1 n))),
        (
          ne_eqb (kind_in r) 0 (λ e. omega (arith, least)),
          (operands_fit, (numbers_fit, (right_class, (no_misfit, (other_fault 10 (λ e. omega arith), (no_name, (all_left, tt))))))),
        ),
      ),
    )
      where
        right_class : wrong_class L G m ids ns (digits (suc n)) (kind_in r) printed ≡ false
        right_class =
            ap (λ (s : List Bool). eqb (fault false L G (record_in L ids (kind_in r) printed)) 8 || not (all (minuses_fit L s (record_in L ids (kind_in r) printed)))) no_signs_lem
            ∙ (or_false (eqb (fault false L G (record_in L ids (kind_in r) printed)) 8) ∙ other_fault 8 (λ e. omega arith))

        no_name : name_used L G m ids ns (digits (suc n)) (kind_in r) printed ≡ false
        no_name = ap (λ (x : List (List ℕ)). used (only x) ns) none_left

        all_left : no_records_left L G m ids ns (digits (suc n)) (kind_in r) printed ≡ false
        all_left = ap (λ (s : List Bool). not (ltb (length ids + minuses s) m)) no_signs_lem ∙ ap not (lt-ltb (length ids + 0) m (omega (arith, length_from 1 n)))

        no_misfit : misfit L G m ids ns (digits (suc n)) (kind_in r) printed ≡ false
        no_misfit = rw (other_fault 9 (λ e. omega arith), ne_eqb (kind_in r) 64 (λ e. omega (arith, most))) refl

    pub line_read : (m : ℕ) (ns : List (List ℕ)) → n < m → read_line L G m ids ns (tokens_of (suc n) r) ≡ got r no_signs
    unfolding read_line
    line_read m ns h =
        ap (λ (w : Word). lowest (refusals L G m ids ns (digits (suc n)) (form_of w) (behind w)) (reply_in L ids (form_of w) (behind w))) (word_found (kind_in r) own_kind printed)
        ∙ (none_holds (refusals L G m ids ns (digits (suc n)) (kind_in r) printed) (reply_in L ids (kind_in r) printed) (none_refused m ns h) ∙ ap₂ got record_same no_signs_lem)

    -- a printed line has no name
    pub no_name_read : line_name (tokens_of (suc n) r) ≡ []
    no_name_read = ap name_behind (word_found (kind_in r) own_kind printed) ∙ ap only none_left

-- ---- the lines, the text

lines_read_lem : (m l n : ℕ) (c : Ctx) (es ns rs : List (List ℕ)) → Counted c n → n + length rs ≤ m → m ≤ 16384 → Good rs → lawful false c rs ≡ true
    → read_lines m l (sofar c es (from 1 n) ns) (split 10 (write_from (suc n) rs)) ≡ done (es ++ rs) (from 1 (n + length rs))
unfolding write_from
lines_read_lem m l n c es ns [] q h b g w =
    let z : n ≡ n + 0 = omega arith in
    lines_end m l (sofar c es (from 1 n) ns) ∙ ap₂ (λ (x : List (List ℕ)) (k : ℕ). done x (from 1 k)) (sym (append-nil es)) z
lines_read_lem m l n c es ns (r ∷ rs) q h b g w =
    let k = both (keeps false (ty_at c) (given c) r) _ w in
    let ts = line_toks (ty_at c) (given c) r g.0.0 g.0.1 k.0 (suc n) in
    let o = numbered_lines c n q in
    let j : line_tokens (join (tokens_of (suc n) r)) ≡ tokens_of (suc n) r = tokens_join (digits (suc n)) _ ts.0 ts.1 in
    let id : line_id (line_tokens (join (tokens_of (suc n) r))) ≡ suc n = ap line_id j ∙ ap value_of (decimal_digits (suc n) (omega arith)) in
    let name : line_name (line_tokens (join (tokens_of (suc n) r))) ≡ [] = ap line_name j ∙ no_name_read (ty_at c) (given c) r g.0.0 g.0.1 k.0 n o (omega arith) in
    let more : from 1 n ++ (suc n ∷ []) ≡ from 1 (suc n) = (let z : n + 1 ≡ suc n = omega arith in let y : suc n ≡ 1 + n = omega arith in ap (λ (x : ℕ). from 1 n ++ (x ∷ [])) y ∙ (sym (from_append 1 n 1) ∙ ap (from 1) z)) in
    let all : suc n + length rs ≡ n + suc (length rs) = omega arith in
    let later = split 10 (write_from (suc (suc n)) rs) in
    ap (read_lines m l (sofar c es (from 1 n) ns)) (lines_join (tokens_of (suc n) r) (write_from (suc (suc n)) rs) ts)
    ∙ (step_got m l (sofar c es (from 1 n) ns) (join (tokens_of (suc n) r)) later r no_signs
    (rw j (line_read (ty_at c) (given c) r g.0.0 g.0.1 k.0 n o (omega arith) m ns (omega arith)))
    ∙ (ap₂ (λ (ds : List ℕ) (x : List (List ℕ)). read_lines m (suc l) (sofar (grow false c (line_of r)) (es ++ (r ∷ [])) ds x) later) (ap (λ (d : ℕ). from 1 n ++ (d ∷ [])) id ∙ more)
    (ap (λ (x : List ℕ). with_name x ns) name)
    ∙ (lines_read_lem m (suc l) (suc n) (grow false c (line_of r)) (es ++ (r ∷ [])) ns rs (counted_more c n (line_of r) q) (omega arith) b g.1 k.1
    ∙ ap₂ (λ (x : List (List ℕ)) (i : ℕ). done x (from 1 i)) (append_assoc es (r ∷ []) rs) all)))

-- what is known of an accepted table
pub record Held (t : List ℕ) (n : ℕ) : Type 0 where
  pub fits : n ≤ room false (length t)
  pub law : lawful false no_ctx (records_of false t n) ≡ true

pub held : (t : List ℕ) (n : ℕ) → checked false t n ≡ Ok tt → Held t n
held t n e = record { fits = (accepted_room false t n e).1; law = accepted_lawful false t n e }

-- For every accepted table and count whose written text has at most 65,536 bytes: reading that text into any table with room gives the same records and the same count, and
-- the ids 1, 2, 3.
pub round_trip : (t : List ℕ) (n len : ℕ) → checked false t n ≡ Ok tt → length (write_text (records_of false t n)) ≤ 65536 → whole false len ≡ true → n ≤ room false len
    → read_text len (write_text (records_of false t n)) ≡ done (records_of false t n) (from 1 n)
unfolding write_text
round_trip t n len a b d l =
    let k = held t n a in
    let rs : List (List ℕ) = records_of false t n in
    let all : 0 + length rs ≡ n = omega (arith, length_records false t n) in
    text_lines len (write_from 1 rs) d b
    ∙ (lines_read_lem (room false len) 1 0 no_ctx [] [] rs counted_none (omega (arith, length_records false t n)) (omega arith) (good_lawful t n (roomy false (length t) n k.fits).0 k.law) k.law
    ∙ ap (λ (i : ℕ). done rs (from 1 i)) all)

-- what writing leaves, reading takes
pub written_read : (t : List ℕ) (n size len : ℕ) (s : List ℕ) → write_table t n size ≡ wrote s → length s ≤ 65536 → whole false len ≡ true → n ≤ room false len
    → read_text len s ≡ done (records_of false t n) (from 1 n)
unfolding write_table
written_read t n size len s e b d l = go (checked false t n) refl (leb (length (write_text (records_of false t n))) size) refl
  where
    go : (x : Result (Unit {0}) Refusal) → checked false t n ≡ x → (y : Bool) → leb (length (write_text (records_of false t n))) size ≡ y → read_text len s ≡ done (records_of false t n) (from 1 n)
    go (Ok _) p true q =
        let z : wrote (write_text (records_of false t n)) ≡ wrote s = sym (rw (p, q, fitted) refl) ∙ e in
        let v : write_text (records_of false t n) ≡ s = cc in
        subst (λ (u : List ℕ). read_text len u ≡ done (records_of false t n) (from 1 n)) v (round_trip t n len p (subst (λ (u : List ℕ). length u ≤ 65536) (sym v) b) d l)
    go (Ok _) p false q = let z : refuse TextBuffer ≡ wrote s = sym (rw (p, q, fitted) refl) ∙ e in let y : ◌≡◌ {A = ℕ} 0 1 = cc in absurd (omega arith)
    go (Err r) p y q = let z : refuse r ≡ wrote s = sym (rw p refl) ∙ e in let y : ◌≡◌ {A = ℕ} 0 1 = cc in absurd (omega arith)
