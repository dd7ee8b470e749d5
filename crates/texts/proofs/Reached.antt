-- Where reading stands before a line: the answer from the start is the answer from here, and the notes hold the context of the lines so far. Assumes nothing.
use Rattle.std.specs.Prelude.{Option, Some, None, Result, Ok, Err}
use mathlib.Core.Path.{◌≡◌, refl, sym, ap, ap₂, ◌∙◌, subst}
use mathlib.Core.Bool.{Bool, true, false}
use mathlib.Core.List.{List, [], ◌∷◌, ◌++◌}
use Prim.Native.Nat.{ℕ, suc, ◌+◌, ◌-◌, ◌≤◌, ◌<◌, min, zero-le}
use native.Mathlib.Omega.{arith}
use native.Mathlib.Numerals.{add-one}
use lib.Dec.{ltb}
use lib.ListN.{length, take, drop, replicate, drop_of_length-le}
use lib.Seq.{drop-cons}
use borrow.Author.Tests.{ltb-true, ltb-false, le-leb, lt-leb}
use Rattle.tables.specs.declared.Note.{Note}
use Rattle.tables.specs.declared.Ty.{Ty}
use Rattle.tables.specs.declared.Refusal.{Refusal}
use Rattle.tables.specs.declared.Refusal.TheVariants.{NotATable, TextTooLong}
use Rattle.tables.specs.Layout.{whole, room, ids_of, with_ids, filled}
use Rattle.tables.specs.Ids.{follows}
use Rattle.tables.specs.Types.{no_ctx, ty_at, given}
use Rattle.tables.specs.Model.Notes.{look_in, given_in, Shows}
use Rattle.tables.specs.Answers.{Outcome}
use Rattle.texts.specs.declared.SignedRecord.{SignedRecord}
use Rattle.texts.specs.declared.LineRead.{LineRead}
use Rattle.texts.specs.Split.{split, up_to, tokens}
use Rattle.texts.specs.Names.{with_name}
use Rattle.texts.specs.Minus.{minuses, line_records, line_ids}
use Rattle.texts.specs.Reading.{skip, no, got, last_of, line_id, line_name, line_tokens, read_line, Text, done, refused, Sofar, no_lines, with_line, read_lines_by, reply_after, read_lines, lines_read, read_text_by, read_text, outcome_of, reads, at_line, told_read}
use Rattle.texts.specs.Model.Stages.{named, fitted, judged_line, staged_line}
use Rattle.texts.specs.Model.Structs.{signed_reply, line_reply, own_reply, Gives, Labelled, Admitted, Admits}
use Rattle.texts.specs.Model.Chains.{Ample, HasRoom}
use Rattle.texts.specs.Model.Filling.{Filling, filling, added_from, Ready}
use Rattle.texts.proofs.Places.{tail, line_first}
use Rattle.texts.proofs.Staged.{staged}
use Rattle.texts.proofs.Resolving.{ids_length}
use Rattle.texts.proofs.Admitting.{admitted_reply, stopped_skip}
use Rattle.texts.proofs.KeptNames.{KeptNames, no_names, names_skip, line_name_lem, name_ends, name_room, names_more}
use Rattle.texts.proofs.Kept.{GivesAfter, gives_after}
use Rattle.texts.proofs.Nots.{MinusesFit, minuses_fit_lem}
use Rattle.texts.proofs.NextIds.{last_named, follows_some, last_line_lem, named_line}
use Rattle.texts.proofs.Holding.{Holding, holding_none, table_size, has_ids, HoldsAll, holding_line, line_ready}

-- ---- one line, and the lines behind it

module _ (m l : ℕ) (b : Sofar) (x : List ℕ) (xs : List (List ℕ)) where
  pub step_got : (r : List ℕ) (s : List Bool) → reply_after m b (line_tokens x) ≡ got r s → read_lines m l b (x ∷ xs) ≡ read_lines m (suc l) (with_line b (line_tokens x) r s) xs
  unfolding read_lines_by
  step_got r s h = rw (h, read_lines_by) refl

  pub step_skip : reply_after m b (line_tokens x) ≡ skip → read_lines m l b (x ∷ xs) ≡ read_lines m (suc l) b xs
  unfolding read_lines_by
  step_skip h = rw (h, read_lines_by) refl

  pub step_no : (r : Refusal) → reply_after m b (line_tokens x) ≡ no r → read_lines m l b (x ∷ xs) ≡ refused r l
  unfolding read_lines_by
  step_no r h = rw (h, read_lines_by) refl

module _ (m l : ℕ) (b : Sofar) where
  pub lines_end : read_lines m l b (split 10 []) ≡ done b.records b.ids
  unfolding read_lines_by read_line split up_to tokens
  lines_end = refl

  none : read_lines m l b [] ≡ done b.records b.ids
  unfolding read_lines_by
  none = refl

  -- behind a line that ends at z
  tail_lines : (s : List ℕ) (z i : ℕ) → z ≤ length s → i ≡ min (z + 1) (length s) → read_lines m l b (tail 10 (drop z s)) ≡ read_lines m l b (split 10 (drop i s))
  tail_lines s z i h q = go (ltb z (length s)) refl
    where
      go : (p : Bool) → ltb z (length s) ≡ p → read_lines m l b (tail 10 (drop z s)) ≡ read_lines m l b (split 10 (drop i s))
      go true x =
          let k : z < length s = ltb-true z (length s) x in
          let j : i ≡ suc z = omega arith in
          ap (λ (y : List ℕ). read_lines m l b (tail 10 y)) (drop-cons s z 0 k) ∙ ap (λ (y : ℕ). read_lines m l b (split 10 (drop y s))) (sym j)
      go false x =
          let k : length s ≤ z = ltb-false z (length s) x in
          let j : length s ≤ i = omega arith in
          ap (λ (y : List ℕ). read_lines m l b (tail 10 y)) (drop_of_length-le s k)
          ∙ (none ∙ (sym lines_end ∙ ap (λ (y : List ℕ). read_lines m l b (split 10 y)) (sym (drop_of_length-le s j))))

-- ---- before a line

-- s is the text, i the place in it, b what the lines so far have left: n records, ids of which the last is not 0, and the names that w chains
pub record Reached (s : List ℕ) (len i n line : ℕ) (table : List ℕ) (notes : List Note) (w : List ℕ) (b : Sofar) : Type 0 where
  pub within : i ≤ length s
  pub early : line ≤ i + 1
  pub holding : Holding len n table notes b.records b.ids b.ctx
  pub last : last_of 0 b.ids ≡ last_named 0 b.ids
  pub names : i < length s → KeptNames s w i b.names
  pub answer : lines_read len s ≡ read_lines (room false len) line b (split 10 (drop i s))

pub at_start : {s table w : List ℕ} {notes : List Note} {len : ℕ} → length table ≡ len → table ≡ replicate (length table) 0 → length notes ≡ 16385 → Shows notes no_ctx
    → w ≡ replicate (length w) 0 → Ample s w → Reached s len 0 0 1 table notes w no_lines
at_start l z a h e k = record { within = zero-le; early = omega arith; holding = holding_none l z a h; last = refl; names = λ o. no_names e k; answer = refl }

module _ {s table w : List ℕ} {notes : List Note} {len i n line : ℕ} {b : Sofar} (R : Reached s len i n line table notes w b) where
  as_noted : (ts : List (List ℕ)) → staged_line (look_in notes) (given_in notes) (ids_of table n) (room false len) b.names ts ≡ reply_after (room false len) b ts
  as_noted ts =
      let H = R.holding in
      staged (look_in notes) (given_in notes) (ids_of table n) (room false len) b.names ts
      ∙ ap₂ (λ (L : ℕ → Ty) (G : Bool → ℕ → Bool). read_line L G (room false len) (ids_of table n) b.names ts) (λ j a. H.shows.types a j) (λ j m q. H.shows.flags m q j)
      ∙ ap (λ (k : List ℕ). read_line (ty_at b.ctx) (given b.ctx) (room false len) k b.names ts) (has_ids H)

  pub at_end : length s ≤ i → lines_read len s ≡ done b.records b.ids
  at_end h = R.answer ∙ (ap (λ (y : List ℕ). read_lines (room false len) line b (split 10 y)) (drop_of_length-le s h) ∙ lines_end (room false len) line b)

  -- the line from i to f, without its comment from i to z; the next one starts at i'
  module _ (m f z i' : ℕ) (em : m ≡ room false len) (on : i < length s) (hf : f ≡ i + length (up_to 10 (drop i s))) (lf : f ≤ length s)
      (hz : (i ≤ z) × ((z ≤ f) × (take (z - i) (drop i s) ≡ up_to 59 (take (f - i) (drop i s))))) (hi : i' ≡ min (f + 1) (length s)) (own : Result (Option LineRead) Refusal)
      (told : (line_reply own ≡ judged_line (look_in notes) (given_in notes) (ids_of table n) m (tokens (take (z - i) (drop i s))))
      × ((x : LineRead) (o : SignedRecord) → Gives own x o → Labelled (take (z - i) (drop i s)) x)) where
    abbrev bytes : List ℕ
    bytes = take (z - i) (drop i s)

    K : KeptNames s w i b.names
    K = R.names on

    -- its name can be entered
    pub can_enter : length s ≤ 65536 → (x : LineRead) (o : SignedRecord) → Gives own x o → (x.name.from ≤ x.name.to) × ((i + x.name.to ≤ length s) × (x.name.from < x.name.to → HasRoom w))
    can_enter h x o k =
        let L = told.1 x o k in
        (L.ordered, (name_ends K on z f i' hz.0 hz.1.0 lf hi x L, name_room K on z f i' hz.0 hz.1.0 lf hi x L h))

    -- what the last two tests leave of it, y, and the names then
    module _ (w' : List ℕ) (y : Result (Option (SignedRecord × ℕ)) Refusal) (A : Admits s w w' i n m own y) where
      abbrev this : List ℕ
      this = take (f - i) (drop i s)

      abbrev later : List (List ℕ)
      later = tail 10 (drop f s)

      -- all tests of the line
      er : own_reply y ≡ staged_line (look_in notes) (given_in notes) (ids_of table n) m b.names (tokens bytes)
      er =
          subst (λ (k : ℕ). own_reply y ≡ fitted k m (named (line_name (tokens bytes)) b.names (judged_line (look_in notes) (given_in notes) (ids_of table n) m (tokens bytes)))) (sym (ids_length table n))
          (admitted_reply A (line_name (tokens bytes)) _ K.are told.0 (λ x o k. line_name_lem K on z f i' hz.0 hz.1.0 lf hi x (told.1 x o k)))

      as_line_lem : staged_line (look_in notes) (given_in notes) (ids_of table n) m b.names (tokens bytes) ≡ reply_after (room false len) b (line_tokens this)
      as_line_lem =
          ap (λ (k : ℕ). staged_line (look_in notes) (given_in notes) (ids_of table n) k b.names (tokens bytes)) em
          ∙ as_noted (tokens bytes) ∙ ap (λ (x : List ℕ). reply_after (room false len) b (tokens x)) hz.1.1

      begun : lines_read len s ≡ read_lines (room false len) line b (this ∷ later)
      begun = R.answer ∙ ap (read_lines (room false len) line b) (line_first s i f hf)

      pub at_no : (q : Refusal) → y ≡ Err q → lines_read len s ≡ refused q line
      at_no q h = begun ∙ step_no (room false len) line b this later q (sym as_line_lem ∙ (sym er ∙ ap own_reply h))

      pub at_skip : y ≡ Ok None → Reached s len i' n (line + 1) table notes w' b
      at_skip h =
          let e = sym er ∙ ap own_reply h in
          let blank = stopped_skip _ _ _ (stopped_skip _ _ _ e) in
          record {
            within = omega arith;
            early = omega (arith, R.early, R.within);
            holding = R.holding;
            last = R.last;
            names = λ o. subst (λ (x : List ℕ). KeptNames s x i' b.names) (sym (A.kept (λ x o g. no_record blank x o g))) (names_skip K on i' (omega (arith, hz.0, hz.1.0)));
            answer =
                begun
                ∙ (step_skip (room false len) line b this later (sym as_line_lem ∙ e)
                ∙ (ap (λ (m : ℕ). read_lines (room false len) m b later) (sym (add-one line)) ∙ tail_lines (room false len) (line + 1) b s f i' lf hi));
          }
        where
          no_record : judged_line (look_in notes) (given_in notes) (ids_of table n) m (tokens bytes) ≡ skip → (x : LineRead) (o : SignedRecord) → Gives own x o → ⊥
          no_record e x o g =
              let q : skip ≡ got o.rec o.minus = sym (told.0 ∙ e) ∙ (ap line_reply g.0 ∙ ap signed_reply g.1) in
              let k : ◌≡◌ {A = ℕ} 0 1 = cc in
              omega arith

      module _ (r : SignedRecord × ℕ) (h : y ≡ Ok (Some r)) where
        own_line : Admitted s w w' i own r
        own_line = A.admitted r h

        L : Labelled bytes own_line.line
        L = told.1 own_line.line r.0 own_line.own

        is_got : reply_after (room false len) b (line_tokens this) ≡ got r.0.rec r.0.minus
        is_got = sym as_line_lem ∙ (sym er ∙ ap own_reply h)

        gives : GivesAfter (room false len) b (line_tokens this) r.0.rec r.0.minus
        gives = gives_after (room false len) b (line_tokens this) r.0.rec r.0.minus is_got

        fit : MinusesFit (ty_at b.ctx) r.0.minus r.0.rec 2
        fit = minuses_fit_lem (ty_at b.ctx) r.0.minus r.0.rec gives.minus

        has_room : n + minuses r.0.minus < room false len
        has_room = subst (λ (k : ℕ). k + minuses r.0.minus < room false len) (sym R.holding.same) gives.left

        -- the records of the line can be put
        pub is_ready : Ready r.0.minus 3 2 n (room false (length table)) r.0.rec
        is_ready = line_ready R.holding r.0.minus r.0.rec (subst (λ (k : ℕ). n + minuses r.0.minus < room false k) (sym (table_size R.holding)) has_room) gives.sized gives.rules fit

        -- the id and the name are the line's
        this_id : line_id (line_tokens this) ≡ r.1
        this_id = sym (own_line.number ∙ (L.number ∙ ap (λ (x : List ℕ). line_id (tokens x)) hz.1.1))

        follows_last : follows (last_named 0 b.ids) r.1 ≡ true
        follows_last = subst (λ (k : ℕ). follows (last_named 0 b.ids) k ≡ true) this_id (subst (λ (k : ℕ). follows k (line_id (line_tokens this)) ≡ true) R.last gives.next)

        abbrev ls : List (List ℕ)
        ls = line_records r.0.minus b.records r.0.rec

        -- what the lines have left behind this one
        abbrev pub behind_it : Sofar
        behind_it = with_line b (line_tokens this) r.0.rec r.0.minus

        pub at_got : {F : Filling} → length w' ≡ length w → F ≡ added_from r.0.minus 3 2 (filling table notes n) r.0.rec r.1
            → Reached s len i' F.count (line + 1) F.table F.notes w' behind_it
        at_got {F} lw e =
            let k : ℕ = minuses r.0.minus in
            let n₀ = follows_some (last_named 0 b.ids) r.1 follows_last in
            let ids : b.ids ++ line_ids r.0.minus r.1 ≡ behind_it.ids = ap (λ (d : ℕ). b.ids ++ line_ids r.0.minus d) (sym this_id) in
            record {
              within = omega arith;
              early = omega (arith, R.early, R.within);
              holding =
                  subst (λ (ds : List ℕ). Holding len F.count F.table F.notes behind_it.records ds behind_it.ctx) ids
                  (subst (λ (G : Filling). HoldsAll len G (b.records ++ ls) (b.ids ++ line_ids r.0.minus r.1) behind_it.ctx) (sym e)
                  (holding_line r.0.minus 3 2 (omega arith) refl len r.1 (filling table notes n) b.records b.ids b.ctx r.0.rec R.holding has_room gives.sized gives.rules fit follows_last));
              last = subst (λ (ds : List ℕ). last_of 0 ds ≡ last_named 0 ds) ids (last_line_lem 0 b.ids k r.1 ∙ sym (named_line 0 b.ids k r.1 n₀));
              names =
                  λ o. subst (λ (x : List ℕ). KeptNames s w' i' (with_name (line_name (tokens x)) b.names)) hz.1.1
                  (names_more K on z f i' hz.0 hz.1.0 lf hi own_line.line L w' own_line.chained lw own_line.names);
              answer =
                  begun
                  ∙ (step_got (room false len) line b this later r.0.rec r.0.minus is_got
                  ∙ (ap (λ (m : ℕ). read_lines (room false len) m behind_it later) (sym (add-one line)) ∙ tail_lines (room false len) (line + 1) behind_it s f i' lf hi));
            }

-- ---- the answers

pub out_refused : (len : ℕ) {l : ℕ} {r : Refusal} {t : List ℕ} {x : Text} → x ≡ refused r l → t ≡ replicate len 0 → told_read (at_line r l) (t ∷ []) ≡ outcome_of len x
out_refused len h k = rw (h, k) refl

pub out_done : (len n : ℕ) (rs : List (List ℕ)) (ds : List ℕ) {t : List ℕ} {x : Text} → n ≡ length rs → x ≡ done rs ds → t ≡ filled false len (with_ids rs ds) → told_read (Ok n) (t ∷ []) ≡ outcome_of len x
out_done len n rs ds e h k = rw (e, h, k) refl

module _ (len : ℕ) (s : List ℕ) where
  pub text_1 : whole false len ≡ false → read_text len s ≡ refused NotATable 0
  unfolding read_text_by
  text_1 h = rw (h, read_text_by) refl

  pub text_2 : whole false len ≡ true → 65536 < length s → read_text len s ≡ refused TextTooLong 0
  unfolding read_text_by
  text_2 h k = rw (h, lt-leb (length s) 65536 k, read_text_by) refl

  pub text_lines : whole false len ≡ true → length s ≤ 65536 → read_text len s ≡ lines_read len s
  unfolding read_text_by
  text_lines h k = rw (h, le-leb (length s) 65536 k, read_text_by) refl

-- what reading leaves
pub out_text_lem : (len : ℕ) (s : List ℕ) {o : Outcome} → o ≡ outcome_of len (read_text len s) → o ≡ reads len s
unfolding reads
out_text_lem len s h = h

pub out_lines_lem : (len k : ℕ) (s : List ℕ) {o : Outcome} → k ≡ len → whole false k ≡ true → length s ≤ 65536 → o ≡ outcome_of k (lines_read k s) → o ≡ reads len s
out_lines_lem len k s {o} q w h e = subst (λ (m : ℕ). o ≡ reads m s) q (out_text_lem k s (e ∙ ap (outcome_of k) (sym (text_lines k s w h))))
