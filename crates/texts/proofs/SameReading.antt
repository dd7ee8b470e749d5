-- "Refusal 10 is given for the same texts and with the same line number": reading by the mark answers, and leaves, what reading by a search of each init value's cone does, for
-- every text and every length of the table. Assumes nothing.
use Prim.Native.Nat.{ℕ, suc}
use mathlib.Core.Path.{◌≡◌, refl, sym, ap, ◌∙◌, subst}
use mathlib.Core.Bool.{Bool, true, false}
use mathlib.Core.List.{List, [], ◌∷◌, ◌++◌, map, append-nil, append_assoc}
use lib.Dec.{leb}
use lib.ListN.{length}
use Rattle.tables.specs.declared.Ty.{Ty}
use Rattle.tables.specs.Lines.{line_of}
use Rattle.tables.specs.Layout.{whole, room}
use Rattle.tables.specs.Types.{Ctx, no_ctx, ty_at, given, grow, grow_all, context}
use Rattle.tables.specs.Search.{searched}
use Rattle.tables.specs.Tables.{keeps, lawful}
use Rattle.tables.proofs.Kept.{both}
use Rattle.tables.proofs.Facts.{OkLine, AllOk}
use Rattle.tables.proofs.Sound.{sound}
use Rattle.tables.proofs.Contexts.{map_snoc}
use Rattle.tables.proofs.Marks.{searched_types_lem}
use Rattle.tables.proofs.SameChecks.{context_more, ok_more}
use Rattle.tables.proofs.OwnSorts.{OwnSorts, sorts_none, sorts_all}
use Rattle.texts.specs.Split.{split}
use Rattle.texts.specs.Minus.{line_records}
use Rattle.texts.specs.Reading.{Reply, skip, no, got, line_tokens, read_line, Sofar, no_lines, with_line, reply_by, read_lines_by, reply_after, read_lines, read_text_by, read_text, outcome_of, reads}
use Rattle.texts.specs.Search.{searched_types, read_text_by_search, reads_by_search}
use Rattle.texts.proofs.Kept.{gives_after}
use Rattle.texts.proofs.Nots.{line_kept}

-- the records so far are those of accepted lines, and c is their context
record Taken (c : Ctx) (rs : List (List ℕ)) : Type 0 where
  is : c ≡ context false (map line_of rs)
  ok : AllOk false no_ctx (map line_of rs)

same_types : {c : Ctx} {rs : List (List ℕ)} → Taken c rs → searched_types rs c ≡ ty_at c
same_types {rs = rs} S = subst (λ (x : Ctx). searched (map line_of rs) (ty_at x) ≡ ty_at x) (sym S.is) (searched_types_lem false (map line_of rs) S.ok)

one_more : {c : Ctx} {rs : List (List ℕ)} (r : List ℕ) → Taken c rs → keeps false (ty_at c) (given c) r ≡ true → Taken (grow false c (line_of r)) (rs ++ (r ∷ []))
one_more {c} {rs} r S k =
    let C = map line_of rs in
    let h : OkLine false (ty_at (context false C)) (given (context false C)) (line_of r) =
    subst (λ (x : Ctx). OkLine false (ty_at x) (given x) (line_of r)) S.is (sound false (ty_at c) (given c) r k)
    in
    record {
      is = ap (λ (x : Ctx). grow false x (line_of r)) S.is ∙ sym (context_more false C (line_of r)) ∙ ap (context false) (sym (map_snoc rs r));
      ok = subst (AllOk false no_ctx) (sym (map_snoc rs r)) (ok_more false C (line_of r) S.ok h);
    }

-- and the records of a line
line_more : (c : Ctx) (rs ls : List (List ℕ)) → Taken c rs → lawful false c ls ≡ true → Taken (grow_all false c (map line_of ls)) (rs ++ ls)
line_more c rs [] S k = subst (Taken c) (sym (append-nil rs)) S
line_more c rs (r ∷ ls) S k =
    let h = both (keeps false (ty_at c) (given c) r) _ k in
    subst (Taken (grow_all false (grow false c (line_of r)) (map line_of ls))) (append_assoc rs (r ∷ []) ls) (line_more (grow false c (line_of r)) (rs ++ (r ∷ [])) ls (one_more r S h.0) h.1)

same_lines : (m l : ℕ) (b : Sofar) (xs : List (List ℕ)) → Taken b.ctx b.records → OwnSorts b.ctx b.records → read_lines_by searched_types m l b xs ≡ read_lines m l b xs
unfolding read_lines_by
same_lines m l b [] S O = refl
same_lines m l b (x ∷ xs) S O = go (reply_after m b (line_tokens x)) refl (same_lines m (suc l) b xs S O) (λ r s. same_lines m (suc l) (with_line b (line_tokens x) r s) xs)
  where
    same : reply_by searched_types m b (line_tokens x) ≡ reply_after m b (line_tokens x)
    same = ap (λ (L : ℕ → Ty). read_line L (given b.ctx) m b.ids b.names (line_tokens x)) (same_types S)

    go : (y : Reply) → reply_after m b (line_tokens x) ≡ y → read_lines_by searched_types m (suc l) b xs ≡ read_lines m (suc l) b xs
        → ((r : List ℕ) (s : List Bool) → Taken (with_line b (line_tokens x) r s).ctx (with_line b (line_tokens x) r s).records
        → OwnSorts (with_line b (line_tokens x) r s).ctx (with_line b (line_tokens x) r s).records
        → read_lines_by searched_types m (suc l) (with_line b (line_tokens x) r s) xs ≡ read_lines m (suc l) (with_line b (line_tokens x) r s) xs)
        → read_lines_by searched_types m l b (x ∷ xs) ≡ read_lines m l b (x ∷ xs)
    go skip h f g = rw (same ∙ h, h, read_lines_by) f
    go (no r) h f g = rw (same ∙ h, h, read_lines_by) refl
    go (got r s) h f g =
        let ls = line_records s b.records r in
        let k = line_kept b O (gives_after m b (line_tokens x) r s h) in
        rw (same ∙ h, h, read_lines_by) (g r s (line_more b.ctx b.records ls S k.0) (sorts_all b.ctx b.records ls O k.1 k.0))

at_first : Taken no_ctx []
unfolding context
at_first = record { is = refl; ok = tt }

pub same_reading : (len : ℕ) (s : List ℕ) → read_text_by_search len s ≡ read_text len s
unfolding read_text_by
same_reading len s = go (whole false len) (leb (length s) 65536) refl refl
  where
    go : (x y : Bool) → whole false len ≡ x → leb (length s) 65536 ≡ y → read_text_by_search len s ≡ read_text len s
    go false y h k = rw (h, read_text_by) refl
    go true false h k = rw (h, k, read_text_by) refl
    go true true h k = rw (h, k, read_text_by) (same_lines (room false len) 1 no_lines (split 10 s) at_first sorts_none)

pub same_outcome : (len : ℕ) (s : List ℕ) → reads_by_search len s ≡ reads len s
unfolding reads
same_outcome len s = ap (outcome_of len) (same_reading len s)
