-- What reading leaves is an accepted table: with the round trip, a table is accepted just where the text printed from it gives it back. Assumes nothing.
use Rattle.std.specs.Prelude.{Ok}
use Prim.Native.Nat.{ℕ, suc, ◌≤◌}
use mathlib.Core.Path.{◌≡◌, refl, sym, ap, ap₂, ◌∙◌, subst}
use mathlib.Core.Bool.{Bool, true, false, not, ◌||◌}
use mathlib.Core.List.{List, [], ◌∷◌, ◌++◌, map, append-nil, append_assoc}
use native.Mathlib.Omega.{arith}
use lib.Dec.{eqb, leb}
use lib.ListN.{length, replicate, length-append, length-replicate}
use borrow.Author.Tests.{leb-true, leb-false}
use Rattle.tables.specs.declared.Refusal.{Refusal}
use Rattle.tables.specs.Lines.{line_of, kind_in}
use Rattle.tables.specs.Layout.{whole, room, records_of, ids_of, with_ids, filled}
use Rattle.tables.specs.Ids.{rising, not_kind, zeros_on_nots, right_ids}
use Rattle.tables.specs.Types.{Ctx, no_ctx, ty_at, given, grow, grow_all}
use Rattle.tables.specs.Tables.{keeps, lawful, checked}
use Rattle.tables.proofs.Kept.{both}
use Rattle.tables.proofs.Checking.{is_lawful, roomy}
use Rattle.tables.proofs.Places.{Sized, sized_append, length_filled}
use Rattle.tables.proofs.Ids.{records_with, ids_with}
use Rattle.tables.proofs.OwnSorts.{OwnSorts, sorts_none, sorts_all}
use Rattle.texts.specs.Split.{split}
use Rattle.texts.specs.Minus.{minuses, line_records, line_ids}
use Rattle.texts.specs.Reading.{Reply, skip, no, got, last_of, line_id, line_tokens, done, refused, Sofar, no_lines, with_line, read_lines_by, reply_after, read_lines, read_text, table_of}
use Rattle.texts.proofs.Kept.{GivesAfter, gives_after}
use Rattle.texts.proofs.NextIds.{follows_some, last_line_lem, rising_line}
use Rattle.texts.proofs.Nots.{line_kept, spread_length, spread_zeros}
use Rattle.texts.proofs.Reached.{step_got, step_skip, step_no, text_1, text_2, text_lines}

-- the records that lines have added to those so far, and their ids
record Added (m : ℕ) (b : Sofar) (out : List (List ℕ)) (ids : List ℕ) : Type 0 where
  new : List (List ℕ)
  all : out ≡ b.records ++ new
  sized : Sized new
  law : lawful false b.ctx new ≡ true
  new_ids : List ℕ
  all_ids : ids ≡ b.ids ++ new_ids
  rise : rising (last_of 0 b.ids) new_ids ≡ true
  zeros : zeros_on_nots new new_ids ≡ true
  same : length new ≡ length new_ids
  most : length b.ids ≤ m → length ids ≤ m

lawful_append : (c : Ctx) (ls ns : List (List ℕ)) → lawful false c ls ≡ true → lawful false (grow_all false c (map line_of ls)) ns ≡ true → lawful false c (ls ++ ns) ≡ true
lawful_append c [] ns h k = k
lawful_append c (l ∷ ls) ns h k = let q = both (keeps false (ty_at c) (given c) l) _ h in rw q.0 (lawful_append (grow false c (line_of l)) ls ns q.1 k)

zeros_append : (ls : List (List ℕ)) (es : List ℕ) (ns : List (List ℕ)) (is : List ℕ) → length ls ≡ length es → zeros_on_nots ls es ≡ true → zeros_on_nots ns is ≡ true → zeros_on_nots (ls ++ ns) (es ++ is) ≡ true
zeros_append [] [] ns is e h k = k
zeros_append [] (x ∷ es) ns is e h k = absurd (omega arith)
zeros_append (l ∷ ls) [] ns is e h k = absurd (omega arith)
zeros_append (l ∷ ls) (x ∷ es) ns is e h k = let q = both (not (eqb x 0) || eqb (kind_in l) not_kind) _ h in rw q.0 (zeros_append ls es ns is (omega arith) q.1 k)

-- those of a line, and what the lines behind it have added
added_line : {m : ℕ} (b : Sofar) {out : List (List ℕ)} {ids : List ℕ} (ts : List (List ℕ)) (r : List ℕ) (s : List Bool) → OwnSorts b.ctx b.records → GivesAfter m b ts r s
    → Added m (with_line b ts r s) out ids → Added m b out ids
added_line b ts r s O g a =
    let k = line_kept b O g in
    let rs = b.records in
    let ds = b.ids in
    let ls : List (List ℕ) = line_records s rs r in
    let d : ℕ = line_id ts in
    let es : List ℕ = line_ids s d in
    let long : length ls ≡ length es = spread_length s 3 2 rs r ∙ sym (length-append (replicate (minuses s) 0) (d ∷ []) ∙ (omega (arith, length-replicate {A = ℕ} (minuses s) 0))) in
    let some = follows_some (last_of 0 ds) d g.next in
    record {
      new = ls ++ a.new;
      all = a.all ∙ append_assoc rs ls a.new;
      sized = sized_append ls a.new k.1 a.sized;
      law = lawful_append _ ls a.new k.0 a.law;
      new_ids = es ++ a.new_ids;
      all_ids = a.all_ids ∙ append_assoc ds es a.new_ids;
      rise =
          subst (λ (xs : List ℕ). rising (last_of 0 ds) xs ≡ true) (sym (append_assoc (replicate (minuses s) 0) (d ∷ []) a.new_ids))
          (rising_line (last_of 0 ds) (minuses s) d a.new_ids g.next (subst (λ (l : ℕ). rising l a.new_ids ≡ true) (last_line_lem 0 ds (minuses s) d) a.rise));
      zeros = zeros_append ls es a.new a.new_ids long (spread_zeros s 3 2 rs r d some) a.zeros;
      same = length-append ls a.new ∙ (omega (arith, long, a.same, length-append es a.new_ids));
      most = λ x. a.most (omega (arith, length-append ds es, spread_length s 3 2 rs r, long, g.left));
    }

adds : (m l : ℕ) (b : Sofar) (xs out : List (List ℕ)) (ids : List ℕ) → OwnSorts b.ctx b.records → read_lines m l b xs ≡ done out ids → Added m b out ids
unfolding read_lines_by
adds m l b [] out ids O q =
    let e : b.records ≡ out = cc in
    let d : b.ids ≡ ids = cc in
    record {
      new = [];
      all = sym e ∙ sym (append-nil b.records);
      sized = tt;
      law = refl;
      new_ids = [];
      all_ids = sym d ∙ sym (append-nil b.ids);
      rise = refl;
      zeros = refl;
      same = refl;
      most = λ h. subst (λ (x : List ℕ). length x ≤ m) d h;
    }
adds m l b (x ∷ xs) out ids O q =
    go (reply_after m b (line_tokens x)) refl (adds m (suc l) b xs out ids O) (λ r s. adds m (suc l) (with_line b (line_tokens x) r s) xs out ids)
  where
    go : (y : Reply) → reply_after m b (line_tokens x) ≡ y → (read_lines m (suc l) b xs ≡ done out ids → Added m b out ids)
        → ((r : List ℕ) (s : List Bool) → OwnSorts (with_line b (line_tokens x) r s).ctx (with_line b (line_tokens x) r s).records
        → read_lines m (suc l) (with_line b (line_tokens x) r s) xs ≡ done out ids → Added m (with_line b (line_tokens x) r s) out ids) → Added m b out ids
    go skip h f g = f (sym (step_skip m l b x xs h) ∙ q)
    go (no r) h f g = let z : refused r l ≡ done out ids = sym (step_no m l b x xs r h) ∙ q in let w : ◌≡◌ {A = ℕ} 0 1 = cc in absurd (omega arith)
    go (got r s) h f g =
        let o = gives_after m b (line_tokens x) r s h in
        let k = line_kept b O o in
        added_line b (line_tokens x) r s O o (g r s (sorts_all b.ctx b.records (line_records s b.records r) O k.1 k.0) (sym (step_got m l b x xs r s h) ∙ q))

-- the table after reading is accepted with the count that was answered
pub read_accepted : (len : ℕ) (s : List ℕ) (rs : List (List ℕ)) (ds : List ℕ) → read_text len s ≡ done rs ds → checked false (table_of len (done rs ds)) (length rs) ≡ Ok tt
read_accepted len s rs ds q = go (whole false len) (leb (length s) 65536) refl refl
  where
    no_text : {r : Refusal} {l : ℕ} → read_text len s ≡ refused r l → checked false (table_of len (done rs ds)) (length rs) ≡ Ok tt
    no_text {r} {l} h = let z : refused r l ≡ done rs ds = sym h ∙ q in let w : ◌≡◌ {A = ℕ} 0 1 = cc in absurd (omega arith)

    taken : whole false len ≡ true → Added (room false len) no_lines rs ds → checked false (table_of len (done rs ds)) (length rs) ≡ Ok tt
    taken w a =
        let t : List ℕ = filled false len (with_ids rs ds) in
        let long : length rs ≡ length ds = ap length a.all ∙ (a.same ∙ ap length (sym a.all_ids)) in
        let few : length rs ≤ room false len = omega (arith, long, a.most (omega arith)) in
        let lt : length t ≡ len = length_filled false len (with_ids rs ds) in
        let sz : Sized rs = subst Sized (sym a.all) a.sized in
        let fits = (roomy false len (length rs) few).1 in
        let e : records_of false t (length rs) ≡ rs = records_with len rs ds sz long fits in
        let d : ids_of t (length rs) ≡ ds = ids_with len rs ds sz long fits in
        sym
        (is_lawful false t (length rs) (ap (whole false) lt ∙ w) (subst (λ (k : ℕ). length rs ≤ room false k) (sym lt) few) (sym (ap (lawful false no_ctx) (e ∙ a.all) ∙ a.law))
        (sym
        (ap₂ right_ids (e ∙ a.all) (d ∙ a.all_ids) ∙ rw a.rise a.zeros)))

    go : (x y : Bool) → whole false len ≡ x → leb (length s) 65536 ≡ y → checked false (table_of len (done rs ds)) (length rs) ≡ Ok tt
    go false y h k = no_text (text_1 len s h)
    go true false h k = no_text (text_2 len s h (leb-false (length s) 65536 k))
    go true true h k = taken h (adds (room false len) 1 no_lines (split 10 s) rs ds sorts_none (sym (text_lines len s h (leb-true (length s) 65536 k)) ∙ q))
