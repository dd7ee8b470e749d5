-- A table that is being filled holds the records so far with their ids, and the notes their context: so it is with one record more, and with the records of a line. Assumes nothing.
use Prim.Native.Nat.{ℕ, zero, suc, ◌+◌, ◌-◌, ◌≤◌, ◌<◌, zero-le}
use mathlib.Core.Path.{◌≡◌, refl, sym, ap, ap₂, ◌∙◌, subst}
use mathlib.Core.Bool.{Bool, true, false}
use mathlib.Core.List.{List, [], ◌∷◌, ◌++◌, map, append_assoc}
use native.Mathlib.Omega.{arith}
use lib.ListN.{length, get_or, set, replicate, length-append}
use borrow.Author.Tests.{eqb-true}
use Rattle.tables.specs.declared.Note.{Note}
use Rattle.tables.specs.declared.Ty.{Ty}
use Rattle.tables.specs.Pick.{pick, inside, all}
use Rattle.tables.specs.Kinds.{row_of, class_at}
use Rattle.tables.specs.Lines.{Line, expr_words, line_of, kind_in, sort_in, first_in, second_in, third_in}
use Rattle.tables.specs.Layout.{held, room, record_at, records_of, ids_of, with_id, with_ids, recorded, filled}
use Rattle.tables.specs.Ids.{follows, rising}
use Rattle.tables.specs.Types.{no_ty, line_type, Ctx, no_ctx, ty_at, given, grow, grow_all}
use Rattle.tables.specs.Model.Notes.{look_in, Shows, noted}
use Rattle.tables.specs.Model.Risen.{Risen}
use Rattle.tables.specs.Tables.{formed, keeps}
use Rattle.tables.specs.Rules.{fits, fault}
use Rattle.tables.proofs.Kept.{both, kept_fault, no_yes}
use Rattle.tables.proofs.Checking.{roomy}
use Rattle.tables.proofs.Places.{Sized, sized_append, filled_none, length_filled, record_filled, record_at_lem}
use Rattle.tables.proofs.Ids.{length_with, with_append, ids_with, records_with}
use Rattle.tables.proofs.Answers.{passed, sort_width}
use Rattle.tables.proofs.Shapes.{range}
use Rattle.tables.proofs.Showing.{length_noted, shows_more}
use Rattle.tables.proofs.OwnSorts.{OwnSorts, sorts_none, sorts_more}
use Rattle.texts.specs.Minus.{minus_at, may_take_minus, minuses_from, minuses, not_of, spread}
use Rattle.texts.specs.Model.Filling.{Filling, added, not_in, added_from, Ready}
use Rattle.texts.proofs.NextIds.{last_named, named_zero, rising_zero, rising_more}
use Rattle.texts.proofs.Nots.{MinusesFit, takes_minus, own_keeps, not_kept, same_size, fit_after, named}

-- ---- widths are at most 64

abbrev pub Narrow : Ctx → Type 0
Narrow c = (a : ℕ) → (ty_at c a).w ≤ 64

pub narrow_none : Narrow no_ctx
narrow_none zero = omega arith
narrow_none (suc a) = omega arith

narrow_snoc : (ts : List Ty) (t : Ty) → ((a : ℕ) → (get_or ts a no_ty).w ≤ 64) → t.w ≤ 64 → (a : ℕ) → (get_or (ts ++ (t ∷ [])) a no_ty).w ≤ 64
narrow_snoc [] t f h zero = h
narrow_snoc [] t f h (suc a) = f a
narrow_snoc (u ∷ ts) t f h zero = f zero
narrow_snoc (u ∷ ts) t f h (suc a) = narrow_snoc ts t (λ b. f (suc b)) h a

narrow_type : (c : Ctx) (l : Line) → Narrow c → ((w : ℕ) → l ≡ Line.bitvec w → w ≤ 64) → (line_type false (ty_at c) l).w ≤ 64
narrow_type c (Line.bitvec w) h b = b w refl
narrow_type c (Line.array i e) h b = h e
narrow_type c (Line.input s) h b = h s
narrow_type c (Line.state s) h b = h s
narrow_type c (Line.value s e) h b = h (sort_in (expr_words s e))
narrow_type c (Line.init_or_next m s q v) h b = omega arith
narrow_type c (Line.signal m a) h b = omega arith
narrow_type c (Line.output a) h b = omega arith
narrow_type c Line.unknown h b = omega arith

narrow_kept : (c : Ctx) (r : List ℕ) → Narrow c → keeps false (ty_at c) (given c) r ≡ true → Narrow (grow false c (line_of r))
narrow_kept c r h k =
    narrow_snoc c.tys (line_type false (ty_at c) (line_of r)) h
    (narrow_type c (line_of r) h
    (λ w e.
    let f = eqb-true (fault false (ty_at c) (given c) r) 0 (both (formed false r) _ k).1 in
    let q = subst (λ (l : Line). all (fits l (ty_at c (sort_in r)) (ty_at c (first_in r)) (ty_at c (second_in r)) (ty_at c (third_in r))) ≡ true) e (passed false (ty_at c) (given c) r f).width in
    (range 1 64 w (both (inside 1 64 w) true q).0).1))

-- ---- the records so far

-- a table of len words holds the n records rs with the ids ds, and the notes hold their context c
pub record Holding (len n : ℕ) (table : List ℕ) (notes : List Note) (rs : List (List ℕ)) (ds : List ℕ) (c : Ctx) : Type 0 where
  pub most : n ≤ room false len
  pub size : n ≡ length rs
  pub same : n ≡ length ds
  pub sized : Sized rs
  pub rise : rising 0 ds ≡ true
  pub holds : table ≡ filled false len (with_ids rs ds)
  pub shows : Shows notes c
  pub ample : length notes ≡ 16385
  pub narrow : Narrow c
  pub sorts : OwnSorts c rs

pub holding_none : {table : List ℕ} {notes : List Note} {len : ℕ} → length table ≡ len → table ≡ replicate (length table) 0 → length notes ≡ 16385 → Shows notes no_ctx
    → Holding len 0 table notes [] [] no_ctx
holding_none {len = len} l z a h =
    record {
      most = zero-le;
      size = refl;
      same = refl;
      sized = tt;
      rise = refl;
      holds = z ∙ (ap (λ (k : ℕ). replicate {A = ℕ} k 0) l ∙ sym (filled_none false len));
      shows = h;
      ample = a;
      narrow = narrow_none;
      sorts = sorts_none;
    }

module _ {len n : ℕ} {table : List ℕ} {notes : List Note} {rs : List (List ℕ)} {ds : List ℕ} {c : Ctx} (H : Holding len n table notes rs ds c) where
  pub table_size : length table ≡ len
  table_size = ap length H.holds ∙ length_filled false len (with_ids rs ds)

  both_long : length rs ≡ length ds
  both_long = sym H.size ∙ H.same

  enough : length rs ≤ held false len
  enough = subst (λ (k : ℕ). k ≤ held false len) H.size (roomy false len n H.most).1

  pub has_ids : ids_of table n ≡ ds
  has_ids = ap₂ ids_of H.holds H.size ∙ ids_with len rs ds H.sized both_long enough

  has_records : records_of false table n ≡ rs
  has_records = ap₂ (records_of false) H.holds H.size ∙ records_with len rs ds H.sized both_long enough

  -- the not record by the table's words is that by the records
  same_not : (a : ℕ) → 1 ≤ a → a ≤ n → not_in table a ≡ not_of rs a
  same_not a l h =
      let q : get_or rs (a - 1) [] ≡ record_at false table (a - 1) = ap (λ (xs : List (List ℕ)). get_or xs (a - 1) []) (sym has_records) ∙ record_at_lem false table n (a - 1) (omega arith) in
      ap (λ (r : List ℕ). 11 ∷ sort_in r ∷ a ∷ 0 ∷ 0 ∷ []) (sym q)

  -- the table holds the records so far, and their ids rise
  pub risen : Risen table n
  risen =
      record {
        there = subst (λ (k : ℕ). n ≤ held false k) (sym table_size) (roomy false len n H.most).1;
        rise = ap (rising 0) has_ids ∙ H.rise;
      }

  -- the widths noted
  pub narrow_noted : (a : ℕ) → (look_in notes a).w ≤ 64
  narrow_noted a = subst (λ (t : Ty). t.w ≤ 64) (sym (H.shows.types a)) (H.narrow a)

  -- one record more
  holding_more : (r : List ℕ) (d : ℕ) → n < room false len → length r ≡ 5 → keeps false (ty_at c) (given c) r ≡ true → rising 0 (ds ++ (d ∷ [])) ≡ true
      → Holding len (n + 1) (recorded false table n (with_id r d)) (noted false r (n + 1) notes) (rs ++ (r ∷ [])) (ds ++ (d ∷ [])) (grow false c (line_of r))
  holding_more r d left z k up =
      let few : n + 1 < length notes = omega (arith, left, H.ample) in
      let last : n ≡ length (with_ids rs ds) = H.size ∙ sym (length_with rs ds both_long) in
      let count : length c.tys ≡ n + 1 = omega (arith, H.sorts.counted.size, H.size) in
      record {
        most = omega (arith, left);
        size = omega (arith, H.size, length-append rs (r ∷ []));
        same = omega (arith, H.same, length-append ds (d ∷ []));
        sized = sized_append rs (r ∷ []) H.sized (z, tt);
        rise = up;
        holds = ap (λ (t : List ℕ). recorded false t n (with_id r d)) H.holds ∙ (record_filled false len (with_ids rs ds) n (with_id r d) last ∙ ap (filled false len) (sym (with_append rs ds (r ∷ []) (d ∷ []) both_long)));
        shows = shows_more false r H.shows count few z k;
        ample = length_noted false r (n + 1) notes ∙ H.ample;
        narrow = narrow_kept c r H.narrow k;
        sorts = sorts_more c rs r H.sorts z k;
      }

-- ---- the records of a line

abbrev pub HoldsAll : (len : ℕ) → Filling → (rs : List (List ℕ)) (ds : List ℕ) (c : Ctx) → Type 0
HoldsAll len F rs ds c = Holding len F.count F.table F.notes rs ds c

pub by_bool : (P : Bool → Type 0) (b : Bool) → (b ≡ true → P true) → (b ≡ false → P false) → P b
by_bool P true f g = f refl
by_bool P false f g = g refl

-- what the not record adds stands before the rest
with_not : (len d : ℕ) (s : List Bool) (m j : ℕ) (F : Filling) (rs : List (List ℕ)) (ds rec : List ℕ) (c : Ctx) → not_in F.table (get_or rec j 0) ≡ not_of rs (get_or rec j 0) → F.count ≡ length rs
    → HoldsAll len (added_from s m (suc j) (added F (not_of rs (get_or rec j 0)) 0) (set rec j (suc (length rs))) d)
    ((rs ++ (not_of rs (get_or rec j 0) ∷ [])) ++ spread s m (suc j) (rs ++ (not_of rs (get_or rec j 0) ∷ [])) (set rec j (suc (length rs))))
    ((ds ++ (0 ∷ [])) ++ (replicate (minuses_from s m (suc j)) 0 ++ (d ∷ []))) c
    → HoldsAll len (added_from s m (suc j) (added F (not_in F.table (get_or rec j 0)) 0) (set rec j (F.count + 1)) d)
    (rs ++ (not_of rs (get_or rec j 0) ∷ spread s m (suc j) (rs ++ (not_of rs (get_or rec j 0) ∷ [])) (set rec j (suc (length rs)))))
    (ds ++ (replicate (1 + minuses_from s m (suc j)) 0 ++ (d ∷ []))) c
with_not len d s m j F rs ds rec c en ec h =
    let k : ℕ = minuses_from s m (suc j) in
    let N : List ℕ = not_of rs (get_or rec j 0) in
    let v : suc (length rs) ≡ F.count + 1 = omega arith in
    let i : suc k ≡ 1 + k = omega arith in
    let F₁ : Filling = added_from s m (suc j) (added F (not_in F.table (get_or rec j 0)) 0) (set rec j (F.count + 1)) d in
    let eF : added_from s m (suc j) (added F N 0) (set rec j (suc (length rs))) d ≡ F₁ = ap₂ (λ (x : List ℕ) (y : ℕ). added_from s m (suc j) (added F x 0) (set rec j y) d) (sym en) v in
    let ls : List (List ℕ) = spread s m (suc j) (rs ++ (N ∷ [])) (set rec j (suc (length rs))) in
    let es : List ℕ = replicate k 0 ++ (d ∷ []) in
    let h₁ = subst (λ (G : Filling). HoldsAll len G ((rs ++ (N ∷ [])) ++ ls) ((ds ++ (0 ∷ [])) ++ es) c) eF h in
    let h₂ = subst (λ (xs : List (List ℕ)). HoldsAll len F₁ xs ((ds ++ (0 ∷ [])) ++ es) c) (append_assoc rs (N ∷ []) ls) h₁ in
    subst (λ (xs : List ℕ). HoldsAll len F₁ (rs ++ (N ∷ ls)) xs c) (append_assoc ds (0 ∷ []) es ∙ ap (λ (n : ℕ). ds ++ (replicate n 0 ++ (d ∷ []))) i) h₂

pub holding_line : (s : List Bool) (m j : ℕ) → 2 ≤ j → j + m ≡ 5 → (len d : ℕ) (F : Filling) (rs : List (List ℕ)) (ds : List ℕ) (c : Ctx) (rec : List ℕ) → HoldsAll len F rs ds c
    → F.count + minuses_from s m j < room false len → length rec ≡ 5 → keeps false (ty_at c) (given c) rec ≡ true → MinusesFit (ty_at c) s rec j → follows (last_named 0 ds) d ≡ true
    → HoldsAll len (added_from s m j F rec d) (rs ++ spread s m j rs rec) (ds ++ (replicate (minuses_from s m j) 0 ++ (d ∷ []))) (grow_all false c (map line_of (spread s m j rs rec)))
holding_line s zero j l e len d F rs ds c rec H left z k f up = holding_more H rec d (omega arith) z k (rising_more 0 ds d H.rise up)
holding_line s (suc m) j l e len d F rs ds c rec H left z k f up =
    by_bool
    (λ (b : Bool).
    HoldsAll len (pick b (added_from s m (suc j) (added F (not_in F.table (get_or rec j 0)) 0) (set rec j (F.count + 1)) d) (added_from s m (suc j) F rec d))
    (rs ++ pick b (not_of rs (get_or rec j 0) ∷ spread s m (suc j) (rs ++ (not_of rs (get_or rec j 0) ∷ [])) (set rec j (suc (length rs)))) (spread s m (suc j) rs rec))
    (ds ++ (replicate (pick b 1 0 + minuses_from s m (suc j)) 0 ++ (d ∷ [])))
    (grow_all false c
    (map line_of (pick b (not_of rs (get_or rec j 0) ∷ spread s m (suc j) (rs ++ (not_of rs (get_or rec j 0) ∷ [])) (set rec j (suc (length rs)))) (spread s m (suc j) rs rec)))))
    (minus_at s j)
    (λ q.
    let high : j ≤ 4 = omega arith in
    let may = f j (omega arith) high q in
    let S = H.sorts in
    let N : List ℕ = not_of rs (get_or rec j 0) in
    let more : F.count + (1 + minuses_from s m (suc j)) < room false len = subst (λ (b : Bool). F.count + (pick b 1 0 + minuses_from s m (suc j)) < room false len) q left in
    let p = named c rs S rec z k j l high may in
    let h = holding_more H N 0 (omega (arith, more)) refl (not_kept c rs S rec z k j l high may) (rising_zero 0 ds H.rise) in
    let g =
    holding_line s m (suc j) (omega arith) (omega arith) len d (added F N 0) (rs ++ (N ∷ [])) (ds ++ (0 ∷ [])) (grow false c (line_of N)) (set rec j (suc (length rs))) h (omega (arith, more))
    (same_size c rs S rec z k j l high may) (own_keeps c rs S rec z k j l high may) (fit_after c rs S rec z k j l high may s f) (ap (λ (i : ℕ). follows i d) (named_zero 0 ds) ∙ up)
    in
    with_not len d s m j F rs ds rec (grow_all false (grow false c (line_of N)) (map line_of (spread s m (suc j) (rs ++ (N ∷ [])) (set rec j (suc (length rs))))))
    (same_not H (get_or rec j 0) p.0 (omega (arith, p.1, H.size))) H.size g)
    (λ q.
    let next : suc j + m ≡ 5 = omega arith in
    let more : F.count + (0 + minuses_from s m (suc j)) < room false len = subst (λ (b : Bool). F.count + (pick b 1 0 + minuses_from s m (suc j)) < room false len) q left in
    let same : minuses_from s m (suc j) ≡ 0 + minuses_from s m (suc j) = omega arith in
    subst
    (λ (i : ℕ). HoldsAll len (added_from s m (suc j) F rec d) (rs ++ spread s m (suc j) rs rec) (ds ++ (replicate i 0 ++ (d ∷ []))) (grow_all false c (map line_of (spread s m (suc j) rs rec))))
    same
    (holding_line s m (suc j) (omega arith) next len d F rs ds c rec H (omega (arith, more)) z k (λ i g. f i (omega arith)) up))

-- no place of a sort of words may take a minus
plain : (i : ℕ) → 2 ≤ i → i ≤ 4 → inside 1 3 (class_at (row_of 1) i) ≡ false
unfolding row_of
plain zero l h = absurd (omega arith)
plain (suc zero) l h = absurd (omega arith)
plain (suc (suc zero)) l h = refl
plain (suc (suc (suc zero))) l h = refl
plain (suc (suc (suc (suc zero)))) l h = refl
plain (suc (suc (suc (suc (suc i))))) l h = absurd (omega arith)

-- what the code asks of a line's record before it puts it
pub line_ready : {len n : ℕ} {table : List ℕ} {notes : List Note} {rs : List (List ℕ)} {ds : List ℕ} {c : Ctx} → Holding len n table notes rs ds c → (s : List Bool) (rec : List ℕ) {most : ℕ} → n + minuses s < most
    → length rec ≡ 5 → keeps false (ty_at c) (given c) rec ≡ true → MinusesFit (ty_at c) s rec 2 → Ready s 3 2 n most rec
line_ready {n = n} {rs = rs} {c = c} H s rec left z k f =
    record {
      left = left;
      named = λ i h. let p = named c rs H.sorts rec z k i h.0 h.1.0 (f i h.0 h.1.0 h.1.1) in (p.0, omega (arith, p.1, H.size));
      sort = λ e. (sort_width false (ty_at c) (given c) rec (kept_fault false (ty_at c) (given c) rec k) e, λ i h. no_minus e i h.0 h.1.0 (f i h.0 h.1.0 h.1.1));
    }
  where
    no_minus : kind_in rec ≡ 1 → (i : ℕ) → 2 ≤ i → i ≤ 4 → may_take_minus (kind_in rec) (class_at (row_of (kind_in rec)) i) (ty_at c (get_or rec i 0)) ≡ true → ⊥
    no_minus e i l h m =
        no_yes (sym (plain i l h) ∙ (ap (λ (q : ℕ). inside 1 3 (class_at (row_of q) i)) (sym e) ∙ (takes_minus (kind_in rec) (class_at (row_of (kind_in rec)) i) (ty_at c (get_or rec i 0)) m).class))
