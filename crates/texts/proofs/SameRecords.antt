-- Reading a text with minus operands gives the records of the text in which each is written out as a not line, where both are accepted. Assumes nothing.
use Prim.Native.Nat.{ℕ, suc, ◌+◌, ◌^◌, ◌≤◌, ◌<◌}
use mathlib.Core.Path.{◌≡◌, refl, sym, ap, ap₂, ◌∙◌, subst, subst₂}
use mathlib.Core.Bool.{Bool, true, false}
use mathlib.Core.List.{List, [], ◌∷◌, ◌++◌, map, append-nil, append_assoc, map-append}
use native.Mathlib.Omega.{arith}
use lib.Dec.{leb}
use lib.ListN.{length, get_or, replicate, length-append, length-replicate}
use borrow.Author.Tests.{leb-true, leb-false}
use Rattle.tables.specs.declared.Refusal.TheVariants.{NotATable, TextTooLong}
use Rattle.tables.specs.Lines.{line_of, sort_in}
use Rattle.tables.specs.Layout.{whole, room, from}
use Rattle.tables.specs.Types.{Ctx, no_ctx, ty_at, given, grow, grow_all}
use Rattle.tables.specs.Tables.{keeps, lawful}
use Rattle.tables.proofs.Kept.{both}
use Rattle.tables.proofs.Places.{Sized}
use Rattle.tables.proofs.Ids.{length_from, from_append}
use Rattle.tables.proofs.Showing.{earlier}
use Rattle.tables.proofs.Contexts.{grow_snoc}
use Rattle.tables.proofs.Checking.{roomy}
use Rattle.tables.proofs.Entries.{keeps_type}
use Rattle.tables.proofs.OwnSorts.{Counted, counted_more, own_sort, OwnSorts, sorts_none, sorts_all}
use Rattle.texts.specs.Split.{split}
use Rattle.texts.specs.Decimal.{digits}
use Rattle.texts.specs.Names.{with_name}
use Rattle.texts.specs.Minus.{no_signs, minus_at, minuses, spread, line_records, line_ids}
use Rattle.texts.specs.Reading.{word_in, form_of, value_of, line_id, line_name, got, read_line, done, refused, Sofar, sofar, no_lines, with_line, reply_after, lines_read, read_text}
use Rattle.texts.specs.WrittenOut.{nots_of, own_line, out_lines, out_ids, out_sorts, number_tokens_in, written_from, token_lines, WrittenOut}
use Rattle.texts.proofs.Decimals.{decimal_digits}
use Rattle.texts.proofs.Kept.{GivesAfter, gives_after}
use Rattle.texts.proofs.Nots.{MinusesFit, is_value_lem, ok, named, line_kept, spread_length}
use Rattle.texts.proofs.Reached.{text_1, text_2, text_lines}
use Rattle.texts.proofs.InOrder.{numbered_lines}
use Rattle.texts.proofs.Bounded.{Good}
use Rattle.texts.proofs.Round.{line_read}
use Rattle.texts.proofs.Taking.{Takes, takes_lines, takes_some}
use Rattle.texts.proofs.OwnNumbers.{own_record}
use Rattle.texts.proofs.OwnLine.{fit, are_nots, are_sorts, is_sort_lem, own_read}
use Rattle.texts.proofs.NotRecords.{not_records, EachMinus, spread_parts, nots_length, nots_good, tokens_from, tokens_length, nots_written, sorts_written}

-- ---- lines that are read as records, in a text whose lines are numbered 1, 2, 3

from_more : (n : ℕ) → from 1 n ++ (suc n ∷ []) ≡ from 1 (suc n)
from_more n =
    let y : suc n ≡ 1 + n = omega arith in
    let z : n + 1 ≡ suc n = omega arith in
    ap (λ (x : ℕ). from 1 n ++ (x ∷ [])) y ∙ (sym (from_append 1 n 1) ∙ ap (from 1) z)

-- after the records rs with the ids ds, whose context is c, and whatever names, the lines xs give the records out with the ids ids
abbrev TakesAfter : (m : ℕ) (c : Ctx) (rs : List (List ℕ)) (ds : List ℕ) → List (List (List ℕ)) → (out : List (List ℕ)) (ids : List ℕ) → Type 0
TakesAfter m c rs ds xs out ids = (ns : List (List ℕ)) × Takes m (sofar c rs ds ns) xs out ids

module _ (m : ℕ) (most : m ≤ 16384) where
  -- one line, which gives no record but r
  one_line : (c : Ctx) (rs : List (List ℕ)) (t : List ℕ) (ts : List (List ℕ)) (r : List ℕ) (ys : List (List (List ℕ))) (out : List (List ℕ)) (ids : List ℕ)
      → (length rs < m → (ns : List (List ℕ)) (r' : List ℕ) (s' : List Bool) → read_line (ty_at c) (given c) m (from 1 (length rs)) ns (t ∷ ts) ≡ got r' s' → (r' ≡ r) × (s' ≡ no_signs))
      → (length rs < m → line_id (t ∷ ts) ≡ suc (length rs)) → TakesAfter m c rs (from 1 (length rs)) ((t ∷ ts) ∷ ys) out ids
      → TakesAfter m (grow false c (line_of r)) (rs ++ (r ∷ [])) (from 1 (length (rs ++ (r ∷ [])))) ys out ids
  one_line c rs t ts r ys out ids only id (ns, h) =
      let b : Sofar = sofar c rs (from 1 (length rs)) ns in
      let g = gives_after m b (t ∷ ts) h.0 h.1.0 h.1.1.0 in
      let left : length rs < m = omega (arith, g.left, length_from 1 (length rs)) in
      let p = only left ns h.0 h.1.0 h.1.1.0 in
      let z : suc (length rs) ≡ length (rs ++ (r ∷ [])) = omega (arith, length-append rs (r ∷ [])) in (
        with_name (line_name (t ∷ ts)) ns,
        subst (λ (x : List ℕ). Takes m (sofar (grow false c (line_of r)) (rs ++ (r ∷ [])) x (with_name (line_name (t ∷ ts)) ns)) ys out ids)
            (ap (λ (d : ℕ). from 1 (length rs) ++ (d ∷ [])) (id left) ∙ (from_more (length rs) ∙ ap (from 1) z))
            (subst₂ (λ (x : List ℕ) (y : List Bool). Takes m (with_line b (t ∷ ts) x y) ys out ids) p.0 p.1 h.1.1.1),
      )

  -- the lines that the writer prints for records
  takes_records : (P : List (List ℕ)) (c : Ctx) (rs : List (List ℕ)) (ys : List (List (List ℕ))) (out : List (List ℕ)) (ids : List ℕ) → Counted c (length rs) → Good P → lawful false c P ≡ true
      → TakesAfter m c rs (from 1 (length rs)) (tokens_from (suc (length rs)) P ++ ys) out ids → TakesAfter m (grow_all false c (map line_of P)) (rs ++ P) (from 1 (length (rs ++ P))) ys out ids
  takes_records [] c rs ys out ids C g w h = subst (λ (x : List (List ℕ)). TakesAfter m c x (from 1 (length x)) ys out ids) (sym (append-nil rs)) h
  takes_records (r ∷ P) c rs ys out ids C g w h =
      let k = both (keeps false (ty_at c) (given c) r) _ w in
      let z : suc (length rs) ≡ length (rs ++ (r ∷ [])) = omega (arith, length-append rs (r ∷ [])) in
      let c₁ : Ctx = grow false c (line_of r) in
      let o =
      one_line c rs (digits (suc (length rs))) _ r (tokens_from (suc (suc (length rs))) P ++ ys) out ids
      (λ l ns r' s' e.
      let q = line_read (ty_at c) (given c) r g.0.0 g.0.1 k.0 (length rs) (numbered_lines c (length rs) C) (omega arith) m ns l in
      let x : got r' s' ≡ got r no_signs = sym e ∙ q in
      let a : r' ≡ r = cc in
      let b : s' ≡ no_signs = cc in
      (a, b))
      (λ l. ap value_of (decimal_digits (suc (length rs)) (omega arith))) h
      in
      subst (λ (x : List (List ℕ)). TakesAfter m (grow_all false c₁ (map line_of P)) x (from 1 (length x)) ys out ids) (append_assoc rs (r ∷ []) P)
      (takes_records P c₁ (rs ++ (r ∷ [])) ys out ids (subst (Counted c₁) z (counted_more c (length rs) (line_of r) C)) g.1 k.1
      (subst (λ (i : ℕ). TakesAfter m c₁ (rs ++ (r ∷ [])) (from 1 (length (rs ++ (r ∷ [])))) (tokens_from (suc i) P ++ ys) out ids) z o))

-- ---- lists of records with one more at the end

lawful_last : (c : Ctx) (P : List (List ℕ)) (r : List ℕ) → lawful false c (P ++ (r ∷ [])) ≡ true
    → (lawful false c P ≡ true) × (keeps false (ty_at (grow_all false c (map line_of P))) (given (grow_all false c (map line_of P))) r ≡ true)
lawful_last c [] r h = (refl, (both (keeps false (ty_at c) (given c) r) true h).0)
lawful_last c (p ∷ P) r h =
    let k = both (keeps false (ty_at c) (given c) p) _ h in
    let g = lawful_last (grow false c (line_of p)) P r k.1 in
    (rw k.0 g.0, g.1)

sized_front : (P : List (List ℕ)) (r : List ℕ) → Sized (P ++ (r ∷ [])) → Sized P
sized_front [] r z = tt
sized_front (p ∷ P) r z = (z.0, sized_front P r z.1)

-- ---- a line of the first text, which gives the record r with the signs s, and its lines in the second

module _ (m m' : ℕ) (most : m ≤ 16384) (most' : m' ≤ 16384) (c : Ctx) (rs : List (List ℕ)) (ds ss : List ℕ) (ns : List (List ℕ)) (S : OwnSorts c rs) (same : length ds ≡ length rs) (sorts : ss ≡ map sort_in rs)
    (t : List ℕ) (ts : List (List ℕ)) (r : List ℕ) (s : List Bool) (h : reply_after m (sofar c rs ds ns) (t ∷ ts) ≡ got r s) where
  abbrev A : ℕ → ℕ
  A i = get_or r i 0

  abbrev P : List (List ℕ)
  P = not_records s 3 2 rs (λ i. get_or r i 0)

  abbrev R : List ℕ
  R = own_record s 3 2 (length ds) r

  gives : GivesAfter m (sofar c rs ds ns) (t ∷ ts) r s
  gives = gives_after m (sofar c rs ds ns) (t ∷ ts) r s h

  fits : MinusesFit (ty_at c) s r 2
  fits = fit c m ds ns t ts r s most h

  each : EachMinus s 3 2 (λ i. (1 ≤ get_or r i 0) × (get_or r i 0 ≤ length rs))
  each i l u e = let v : i ≤ 4 = omega arith in named c rs S r gives.sized gives.rules i l v (fits i l v e)

  line_parts : line_records s rs r ≡ P ++ (R ∷ [])
  line_parts =
      subst (λ (x : List (List ℕ)). spread s 3 2 x r ≡ P ++ (own_record s 3 2 (length x) r ∷ [])) (append-nil rs) (spread_parts s rs A 3 2 [] r (λ i l u e. refl) each)
      ∙ ap (λ (n : ℕ). P ++ (own_record s 3 2 n r ∷ [])) (sym same)

  kept : (lawful false c (P ++ (R ∷ [])) ≡ true) × Sized (P ++ (R ∷ []))
  kept = subst (λ (ls : List (List ℕ)). (lawful false c ls ≡ true) × Sized ls) line_parts (line_kept (sofar c rs ds ns) S gives)

  abbrev c₁ : Ctx
  c₁ = grow_all false c (map line_of P)

  counted : Counted c₁ (length (rs ++ P))
  counted = (sorts_all c rs P S (sized_front P R kept.1) (lawful_last c P R kept.0).0).counted

  few : length rs < 16384
  few = omega (arith, gives.left)

  good : Good P
  good = nots_good s 3 2 rs A (λ i l u e. (omega (arith, (each i l u e).1, few), sort_small i l (omega arith) e))
    where
      sort_small : (i : ℕ) → 2 ≤ i → i ≤ 4 → minus_at s i ≡ true → own_sort rs (get_or r i 0) < 2 ^ 64
      sort_small i l v e =
          let w = (ok c rs S r gives.sized gives.rules i l v (fits i l v e)).word in
          let o = S.sorts (get_or r i 0) (is_value_lem c rs S (get_or r i 0) w) in
          omega (arith, earlier c.tys (own_sort rs (get_or r i 0)) (omega (arith, o.is)), S.counted.size, few)

  -- its not lines are those of its not records
  abbrev f : ℕ
  f = form_of (word_in ts)

  abbrev us : List (List ℕ)
  us = number_tokens_in ts

  are_tokens : nots_of ds ss ts f us ≡ tokens_from (suc (length rs)) P
  are_tokens = are_nots c m ds ns t ts r s most h ss ∙ (nots_written ss rs sorts A s 3 2 (length ds) ∙ ap (λ (n : ℕ). tokens_from (suc n) P) same)

  count : length (nots_of ds ss ts f us) ≡ length P
  count = ap length are_tokens ∙ tokens_length (suc (length rs)) P

  same_ids : (d : ℕ) → out_ids ds ss ts f us d ≡ line_ids s d
  same_ids d = ap (λ (n : ℕ). replicate n 0 ++ (d ∷ [])) (count ∙ nots_length s 3 2 rs A)

  same_sorts : ss ++ out_sorts ds ss ts f us ≡ map sort_in (rs ++ line_records s rs r)
  same_sorts =
      ap₂ (λ (x y : List ℕ). x ++ y) sorts
      (ap₂ (λ (x : List ℕ) (n : ℕ). x ++ (n ∷ [])) (are_sorts c m ds ns t ts r s most h ss ∙ sorts_written ss rs sorts A s 3 2) (is_sort_lem c m ds ns t ts r s most h ss)
      ∙ (sym (map-append sort_in P (R ∷ [])) ∙ ap (map sort_in) (sym line_parts)))
      ∙ sym (map-append sort_in rs (line_records s rs r))

  -- reading its lines
  takes_line : (ys : List (List (List ℕ))) (out : List (List ℕ)) (ids : List ℕ) → TakesAfter m' c rs (from 1 (length rs)) (out_lines ds ss ts f us ++ ys) out ids
      → TakesAfter m' (grow_all false c (map line_of (line_records s rs r))) (rs ++ line_records s rs r) (from 1 (length (rs ++ line_records s rs r))) ys out ids
  takes_line ys out ids k =
      let own : List (List ℕ) = own_line ds ss ts f us in
      let law = lawful_last c P R kept.0 in
      let e : out_lines ds ss ts f us ++ ys ≡ tokens_from (suc (length rs)) P ++ (own ∷ ys) =
      append_assoc (nots_of ds ss ts f us) (own ∷ []) ys ∙ ap (λ (x : List (List (List ℕ))). x ++ (own ∷ ys)) are_tokens
      in
      let a = takes_records m' most' P c rs (own ∷ ys) out ids S.counted good law.0 (subst (λ (x : List (List (List ℕ))). TakesAfter m' c rs (from 1 (length rs)) x out ids) e k) in
      let b =
      one_line m' most' c₁ (rs ++ P) (digits (suc (length ds + length (nots_of ds ss ts f us)))) _ R ys out ids
      (λ l ns₁ r' s'. own_read c m ds ns t ts r s most h c₁ (length (rs ++ P)) (numbered_lines c₁ (length (rs ++ P)) counted) (λ i q. keeps_type false c (map line_of P) i (earlier c.tys i q)) law.1 _ m' ns₁ r' s')
      (λ l.
      let n : length ds + length (nots_of ds ss ts f us) ≡ length (rs ++ P) = omega (arith, same, count, length-append rs P) in
      ap value_of (decimal_digits (suc (length ds + length (nots_of ds ss ts f us))) (omega arith)) ∙ ap suc n)
      a
      in
      subst₂ (λ (x : Ctx) (y : List (List ℕ)). TakesAfter m' x y (from 1 (length y)) ys out ids)
      (sym (grow_snoc false c (map line_of P) (line_of R)) ∙ (ap (grow_all false c) (sym (map-append line_of P (R ∷ []))) ∙ ap (λ (x : List (List ℕ)). grow_all false c (map line_of x)) (sym line_parts)))
      (append_assoc rs P (R ∷ []) ∙ ap (λ (x : List (List ℕ)). rs ++ x) (sym line_parts))
      b

-- ---- the lines, the text

same_from : (m m' : ℕ) → m ≤ 16384 → m' ≤ 16384 → (xs : List (List (List ℕ))) (c : Ctx) (rs : List (List ℕ)) (ds ss : List ℕ) (out out' : List (List ℕ)) (ids ids' : List ℕ) → OwnSorts c rs
    → length ds ≡ length rs → ss ≡ map sort_in rs → TakesAfter m c rs ds xs out ids → TakesAfter m' c rs (from 1 (length rs)) (written_from ds ss xs) out' ids' → (out' ≡ out) × (ids' ≡ from 1 (length out))
same_from m m' l l' [] c rs ds ss out out' ids ids' S e q (ns, h) (ns', k) = (k.0 ∙ sym h.0, k.1 ∙ ap (λ (x : List (List ℕ)). from 1 (length x)) (sym h.0))
same_from m m' l l' ([] ∷ xs) c rs ds ss out out' ids ids' S e q h k = same_from m m' l l' xs c rs ds ss out out' ids ids' S e q h k
same_from m m' l l' ((t ∷ ts) ∷ xs) c rs ds ss out out' ids ids' S e q (ns, h) k =
    let r = h.0 in
    let s = h.1.0 in
    let g = h.1.1.0 in
    let d : ℕ = line_id (t ∷ ts) in
    let ls : List (List ℕ) = line_records s rs r in
    let c₁ : Ctx = grow_all false c (map line_of ls) in
    let ss₁ : List ℕ = ss ++ out_sorts ds ss ts (form_of (word_in ts)) (number_tokens_in ts) in
    let z = line_kept (sofar c rs ds ns) S (gives_after m (sofar c rs ds ns) (t ∷ ts) r s g) in
    let n : length (ds ++ line_ids s d) ≡ length (rs ++ ls) =
    omega (arith, e, length-append ds (line_ids s d), length-append rs ls, spread_length s 3 2 rs r, length-append (replicate (minuses s) 0) (d ∷ []), length-replicate {A = ℕ} (minuses s) 0)
    in
    same_from m m' l l' xs c₁ (rs ++ ls) (ds ++ line_ids s d) ss₁ out out' ids ids' (sorts_all c rs ls S z.1 z.0) n (same_sorts m m' l l' c rs ds ss ns S e q t ts r s g) (with_name (line_name (t ∷ ts)) ns, h.1.1.1)
    (subst (λ (x : List ℕ). TakesAfter m' c₁ (rs ++ ls) (from 1 (length (rs ++ ls))) (written_from (ds ++ x) ss₁ xs) out' ids') (same_ids m m' l l' c rs ds ss ns S e q t ts r s g d)
    (takes_line m m' l l' c rs ds ss ns S e q t ts r s g (written_from (ds ++ out_ids ds ss ts (form_of (word_in ts)) (number_tokens_in ts) d) ss₁ xs) out' ids' k))

pub lines_done : (len : ℕ) (s : List ℕ) (rs : List (List ℕ)) (ds : List ℕ) → read_text len s ≡ done rs ds → lines_read len s ≡ done rs ds
lines_done len s rs ds h = go (whole false len) refl (leb (length s) 65536) refl
  where
    go : (p : Bool) → whole false len ≡ p → (q : Bool) → leb (length s) 65536 ≡ q → lines_read len s ≡ done rs ds
    go true e true g = sym (text_lines len s e (leb-true (length s) 65536 g)) ∙ h
    go true e false g = let z : refused TextTooLong 0 ≡ done rs ds = sym (text_2 len s e (leb-false (length s) 65536 g)) ∙ h in let w : ◌≡◌ {A = ℕ} 0 1 = cc in absurd (omega arith)
    go false e q g = let z : refused NotATable 0 ≡ done rs ds = sym (text_1 len s e) ∙ h in let w : ◌≡◌ {A = ℕ} 0 1 = cc in absurd (omega arith)

all_taken : (len : ℕ) (s : List ℕ) (rs : List (List ℕ)) (ds : List ℕ) → read_text len s ≡ done rs ds → Takes (room false len) no_lines (token_lines s) rs ds
all_taken len s rs ds h = takes_lines (room false len) 1 no_lines (split 10 s) rs ds (lines_done len s rs ds h)

both_read : (len len' : ℕ) (s s' : List ℕ) (rs rs' : List (List ℕ)) (ds ds' : List ℕ) → WrittenOut s s' → read_text len s ≡ done rs ds → read_text len' s' ≡ done rs' ds'
    → (rs' ≡ rs) × (ds' ≡ from 1 (length rs))
both_read len len' s s' rs rs' ds ds' w h k =
    same_from (room false len) (room false len') (roomy false len (room false len) (omega arith)).0 (roomy false len' (room false len') (omega arith)).0 (token_lines s) no_ctx [] [] [] rs rs' ds ds' sorts_none refl refl
    ([], all_taken len s rs ds h)
    ([], subst (λ (xs : List (List (List ℕ))). Takes (room false len') no_lines xs rs' ds') w (takes_some (room false len') no_lines (token_lines s') rs' ds' (all_taken len' s' rs' ds' k)))

-- "Reading a text with minus operands gives the records of the text in which each is written out as a not line (the first five words), where both are accepted."
pub written_out : (len len' : ℕ) (s s' : List ℕ) (rs rs' : List (List ℕ)) (ds ds' : List ℕ) → WrittenOut s s' → read_text len s ≡ done rs ds → read_text len' s' ≡ done rs' ds' → rs' ≡ rs
written_out len len' s s' rs rs' ds ds' w h k = (both_read len len' s s' rs rs' ds ds' w h k).0

-- the ids of that text are 1, 2, 3
pub written_ids : (len len' : ℕ) (s s' : List ℕ) (rs rs' : List (List ℕ)) (ds ds' : List ℕ) → WrittenOut s s' → read_text len s ≡ done rs ds → read_text len' s' ≡ done rs' ds'
    → ds' ≡ from 1 (length rs)
written_ids len len' s s' rs rs' ds ds' w h k = (both_read len len' s s' rs rs' ds ds' w h k).1
