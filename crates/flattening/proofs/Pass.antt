-- The pass over the lines of a table: what holds after the first i of them, and what is answered. Assumes nothing.
use Rattle.std.specs.Prelude.{Result, Ok, Err}
use Rattle.tables.specs.declared.Note.{Note}
use Rattle.tables.specs.declared.Refusal.{Refusal}
use Prim.Native.Nat.{ℕ, zero, suc, ◌+◌, ◌≤◌, ◌<◌}
use mathlib.Core.Path.{◌≡◌, refl, sym, ap, ap₂, ◌∙◌, subst, subst⁻¹}
use mathlib.Core.Logic.{◌≢◌}
use mathlib.Core.Bool.{Bool, true, false}
use mathlib.Core.List.{List, [], ◌∷◌, map, map-append}
use native.Mathlib.Omega.{arith}
use native.Mathlib.Decide.{dec_lt}
use lib.Dec.{eqb}
use lib.ListN.{length, get_or, replicate, length-append, length-replicate, length-set, get_or-map, get_or-eq_default}
use lib.Seq.{get_or_at}
use borrow.Author.Tests.{eqb-true, eqb-false, le-leb, lt-leb}
use Rattle.tables.specs.Answers.{fitting, left_by}
use Rattle.tables.specs.declared.Ty.{Ty}
use Rattle.tables.specs.declared.Refusal.TheVariants.{TargetTooSmall}
use Rattle.tables.specs.Pick.{pick}
use Rattle.tables.specs.Lines.{Line, Expr, line_of, words_of, kind_in}
use Rattle.tables.specs.Layout.{whole, held, room, record_at, records_of, lines_of}
use Rattle.tables.specs.Types.{rank, Ctx, no_ty, ty_at, given, grow, no_ctx, context}
use Rattle.tables.specs.Model.Notes.{look_in}
use Rattle.tables.specs.Tables.{known, formed, keeps, lawful, checked}
use Rattle.tables.proofs.Kept.{both}
use Rattle.tables.proofs.Checking.{roomy}
use Rattle.tables.proofs.Showing.{snoc_other}
use Rattle.tables.proofs.Places.{length_records, length_lines, record_at_lem}
use Rattle.tables.proofs.Facts.{OkLine, AllOk}
use Rattle.tables.proofs.Sound.{accepted_lawful, accepted_room, accepted_ok}
use Rattle.tables.proofs.Encoding.{fits_table, length_words}
use Rattle.circuits.specs.Layout.{Layout, type_at, line_type_in, no_layout, layout}
use Rattle.circuits.specs.Meaning.{Frame, no_frame}
use Rattle.circuits.proofs.Placing.{lay_ctx}
use Rattle.flattening.specs.declared.Made.{Made}
use Rattle.flattening.specs.Flat.{Info, no_info, info_at, chunk, flatten, flat_lines, flat_records}
use Rattle.flattening.specs.Placed.{put_flat, flat_filled}
use Rattle.flattening.specs.Answers.{flattened, flat_left}
use Rattle.flattening.specs.Model.Cells.{old_number, nothing, kept_of, at_of, key_of, Sound, Low, kept_now, keep, Written, Shortened}
use Rattle.flattening.specs.Model.Lines.{notes, flat_count, line_records, flat_made}
use Rattle.flattening.specs.Model.Fits.{Neat, Deep, Fit, MadeFlat}
use Rattle.flattening.proofs.Walk.{new_type}
use Rattle.flattening.proofs.Rel.{Inv}
use Rattle.flattening.proofs.Holding.{nothing_kept}
use Rattle.flattening.proofs.Placing.{flat_empty, length_flat_filled, flat_filled_lem}
use Rattle.flattening.proofs.Alike.{zeros, step_lay}
use Rattle.flattening.proofs.Agreeing.{NoteRel, Told, line_records_lem}
use Rattle.flattening.proofs.Keeping.{noted, Holds, kept_other, kept_new, note_other, sound_new, note_same}
use Rattle.flattening.proofs.Remembering.{LineKept, line_kept}
use Rattle.flattening.proofs.Passing.{line_in, chunk_at, sofar, all_lines, lines_le, walked, flat_walked, walked_suc, ok_at, inv_at, flat_length, walked_ext, walked_length}
use Rattle.flattening.proofs.Counting.{records_length, next_of}

all_known : (p : Bool) (c : Ctx) (rs : List (List ℕ)) → lawful p c rs ≡ true → (i : ℕ) → i < length rs → known p (kind_in (get_or rs i [])) ≡ true
all_known p c [] h i l = absurd (omega arith)
all_known p c (r ∷ rs) h zero l = (both (known p (kind_in r)) _ (both (formed p r) _ (both (keeps p (ty_at c) (given c) r) _ h).0).0).0
all_known p c (r ∷ rs) h (suc i) l = all_known p (grow p c (line_of r)) rs (both (keeps p (ty_at c) (given c) r) _ h).1 i (omega arith)

layout_ctx : (C : List Line) → (layout false C).ctx ≡ context false C
unfolding layout context
layout_ctx C = lay_ctx false no_layout C

module _ (t : List ℕ) (n : ℕ) (acc : checked false t n ≡ Ok tt) where
  abbrev pub C : List Line
  C = lines_of false t n

  many : (n ≤ 16384) × (n ≤ held false (length t))
  many = fits_table false t n acc

  size_C : length C ≡ n
  size_C = length_lines false t n

  ok_C : AllOk false no_ctx C
  ok_C = accepted_ok false t n acc

  -- the record at the place i
  pub record_known : (i : ℕ) → i < n → known false (kind_in (record_at false t i)) ≡ true
  record_known i h =
      subst (λ (r : List ℕ). known false (kind_in r) ≡ true) (record_at_lem false t n i h) (all_known false no_ctx (records_of false t n) (accepted_lawful false t n acc) i (subst⁻¹ (λ (m : ℕ). i < m) (length_records false t n) h))

  pub record_line : (i : ℕ) → i < n → line_of (record_at false t i) ≡ line_in C i
  record_line i h = ap line_of (sym (record_at_lem false t n i h)) ∙ sym (get_or-map line_of (records_of false t n) i [])

  -- the types of the lines so far are those of all lines
  types_at : (i : ℕ) → i ≤ n → (a : ℕ) → 1 ≤ rank (type_at (walked C i).lay a).role → (a < suc i) × (type_at (walked C i).lay a ≡ ty_at (context false C) a)
  types_at i h a k = by (dec_lt a (suc i))
    where
      v : Inv (walked C i) (flat_walked C i) (sofar C i).infos
      v = inv_at C ok_C i (subst⁻¹ (λ (m : ℕ). i ≤ m) size_C h)

      le : length (walked C i).env ≡ suc i
      le = walked_length C i (subst⁻¹ (λ (m : ℕ). i ≤ m) size_C h)

      by : Dec (a < suc i) → (a < suc i) × (type_at (walked C i).lay a ≡ ty_at (context false C) a)
      by (yes l) =
          (l, sym ((walked_ext C ok_C i (subst⁻¹ (λ (m : ℕ). i ≤ m) size_C h)).type a (omega (arith, le))) ∙ ap (λ (Y : Layout). type_at Y a) (step_lay true C (zeros C) []) ∙ ap (λ (c : Ctx). ty_at c a) (layout_ctx C))
      by (no l) =
          absurd (let e : type_at (walked C i).lay a ≡ no_ty = get_or-eq_default (walked C i).lay.ctx.tys no_ty {n = a} (omega (arith, v.even_a.types, le)) in
          let z : rank (type_at (walked C i).lay a).role ≡ 0 = ap (λ (x : Ty). rank x.role) e in
          omega arith)

  type_none : (i : ℕ) → i ≤ n → rank (type_at (walked C i).lay 0).role ≡ 0
  type_none i h =
      let le = walked_length C i (subst⁻¹ (λ (m : ℕ). i ≤ m) size_C h) in
      ap (λ (x : Ty). rank x.role) (sym ((walked_ext C ok_C i (subst⁻¹ (λ (m : ℕ). i ≤ m) size_C h)).type 0 (omega arith)) ∙ (walked_ext C ok_C 0 (omega arith)).type 0 (omega arith))

  -- ---- what holds after the first i lines

  module _ (types : List Note) (eiw : (a : ℕ) → (look_in types a).iw ≡ (ty_at (context false C) a).iw) (ew : (a : ℕ) → (look_in types a).w ≡ (ty_at (context false C) a).w) (len size : ℕ) (wide : n < size) where
    pub record Pass (i p : ℕ) (kept : List (List ℕ)) (target : List ℕ) (u : ℕ) : Type 0 where
      pub upto : i ≤ n
      pub of_kept : length kept ≡ size
      pub neat : Neat (notes kept types)
      pub written : Written kept u
      pub rel : (a : ℕ) → NoteRel (notes kept types) (type_at (walked C i).lay a) a (info_at (sofar C i).infos a)
      pub count : p ≡ length (sofar C i).lines
      pub fits : p ≤ room false len
      pub records : target ≡ flat_filled len (map words_of (sofar C i).lines)

    told_at : (i : ℕ) → i ≤ n → (kept : List (List ℕ)) → Told (walked C i) (notes kept types)
    told_at i h kept =
        record {
          none = type_none i h;
          iw = λ a k. eiw a ∙ sym (ap (λ (x : Ty). x.iw) (types_at i h a k).1);
          w = λ a k. ew a ∙ sym (ap (λ (x : Ty). x.w) (types_at i h a k).1);
        }

    module _ {i p : ℕ} {kept : List (List ℕ)} {target : List ℕ} {u : ℕ} (s : Pass i p kept target u) (h : i < n) where
      hi : i ≤ length C
      hi = subst⁻¹ (λ (m : ℕ). i ≤ m) size_C s.upto

      v : Inv (walked C i) (flat_walked C i) (sofar C i).infos
      v = inv_at C ok_C i hi

      k : OkLine false (ty_at (walked C i).lay.ctx) (given (walked C i).lay.ctx) (line_in C i)
      k = ok_at C ok_C i (subst⁻¹ (λ (m : ℕ). i < m) size_C h)

      tl : Told (walked C i) (notes kept types)
      tl = told_at i s.upto kept

      deep_of : (m : Line) → OkLine false (ty_at (walked C i).lay.ctx) (given (walked C i).lay.ctx) m → Deep (notes kept types) m
      deep_of (Line.bitvec w) q = tt
      deep_of (Line.array x e) q = let z = q.index.is in let y = tl.w x (omega arith) in let g = q.most in omega arith
      deep_of (Line.input x) q = tt
      deep_of (Line.state x) q = tt
      deep_of (Line.value x (Expr.const c)) q = tt
      deep_of (Line.value x (Expr.unary a b c d)) q = tt
      deep_of (Line.value x (Expr.binary a b c)) q = tt
      deep_of (Line.value x (Expr.equality a b c)) q = tt
      deep_of (Line.value x (Expr.ite a b c)) q = tt
      deep_of (Line.value x (Expr.read a b)) q = let z = q.arr.is in let y = tl.iw a (omega arith) in let g = q.arr.deep in omega arith
      deep_of (Line.value x (Expr.write a b c)) q = tt
      deep_of (Line.init_or_next a b c d) q = tt
      deep_of (Line.signal a b) q = tt
      deep_of (Line.output a) q = tt
      deep_of Line.unknown q = tt

      pub deep : Deep (notes kept types) (line_in C i)
      deep = deep_of (line_in C i) k

      -- the records of the line's chunk, and the number of its lines
      chunk_records : map words_of (chunk_at (sofar C i) (line_in C i)).lines ≡ line_records (notes kept types) p (line_in C i)
      chunk_records = ap (λ (b : ℕ). map words_of (chunk (sofar C i).infos (suc b) (line_in C i)).lines) (sym s.count) ∙ line_records_lem v (notes kept types) s.neat tl s.rel p (line_in C i) k

      chunk_length : length (chunk_at (sofar C i) (line_in C i)).lines ≡ flat_count (notes kept types) (line_in C i)
      chunk_length =
          sym (length_words (chunk_at (sofar C i) (line_in C i)).lines) ∙ ap length chunk_records ∙ records_length (notes kept types) p (line_in C i) deep

      next_length : length (sofar C (suc i)).lines ≡ p + flat_count (notes kept types) (line_in C i)
      next_length = length-append (sofar C i).lines (chunk_at (sofar C i) (line_in C i)).lines ∙ omega (arith, chunk_length, s.count)

      -- too many: so are all lines
      pub too_many : room false len < p + flat_count (notes kept types) (line_in C i) → room false len < length (flatten C)
      too_many g = omega (arith, g, next_length, lines_le C (suc i) (subst⁻¹ (λ (m : ℕ). suc i ≤ m) size_C h))

      pub length_target : length target ≡ len
      length_target = ap length s.records ∙ length_flat_filled len (map words_of (sofar C i).lines)

      pub fit : p + flat_count (notes kept types) (line_in C i) ≤ room false len → Fit (notes kept types) p (line_in C i) (length target)
      fit g =
          let r = roomy false len (p + flat_count (notes kept types) (line_in C i)) g in
          record {
            neat = s.neat;
            low = omega (arith, (roomy false len p s.fits).0);
            room = omega (arith, r.1, ap (held false) length_target);
            deep = deep;
          }

      -- ---- one line more

      len_infos : length (sofar C i).infos ≡ suc i
      len_infos = v.len_i ∙ walked_length C i hi

      len_types : length (walked C i).lay.ctx.tys ≡ suc i
      len_types = v.even_a.types ∙ walked_length C i hi

      type_other : (a : ℕ) → a ≢ suc i → type_at (walked C (suc i)).lay a ≡ type_at (walked C i).lay a
      type_other a d =
          ap (λ (A : Frame). type_at A.lay a) (walked_suc C i (subst⁻¹ (λ (m : ℕ). i < m) size_C h))
          ∙ snoc_other (walked C i).lay.ctx.tys (line_type_in false (walked C i).lay (line_in C i)) no_ty a (λ e. d (e ∙ len_types))

      type_this : type_at (walked C (suc i)).lay (suc i) ≡ line_type_in false (walked C i).lay (line_in C i)
      type_this =
          ap (λ (A : Frame). type_at A.lay (suc i)) (walked_suc C i (subst⁻¹ (λ (m : ℕ). i < m) size_C h))
          ∙ new_type true (zeros C) [] v.even_a (line_in C i) (suc i) (sym (walked_length C i hi))

      info_other : (a : ℕ) → a ≢ suc i → info_at (sofar C (suc i)).infos a ≡ info_at (sofar C i).infos a
      info_other a d = snoc_other (sofar C i).infos (chunk_at (sofar C i) (line_in C i)).info no_info a (λ e. d (e ∙ len_infos))

      info_this : info_at (sofar C (suc i)).infos (suc i) ≡ (chunk_at (sofar C i) (line_in C i)).info
      info_this = get_or_at (sofar C i).infos (chunk_at (sofar C i) (line_in C i)).info [] no_info (suc i) len_infos

      places : Holds (notes kept types) (suc i)
      places =
          let q = many.0 in
          record { place = omega (arith, s.of_kept, wide) }

      module _ (g : p + flat_count (notes kept types) (line_in C i) ≤ room false len) where
        abbrev m : Made
        m = flat_made (notes kept types) p (line_in C i)

        lk : LineKept (notes kept types) (suc i) (flat_made (notes kept types) p (line_in C i)) (line_type_in false (walked C i).lay (line_in C i)) (chunk (sofar C i).infos (suc p) (line_in C i)).info
        lk =
            line_kept v (notes kept types) s.neat tl s.rel p (suc i) places (ap suc s.count ∙ flat_length C i) (λ a z. (types_at i s.upto a z).0) (line_in C i) k
            (roomy false len (p + flat_count (notes kept types) (line_in C i)) g).0

        neat_by : (k c : ℕ) → ((a : ℕ) → kept_of kept k a ≤ c) → get_or (kept_now kept (suc i) m) k 0 ≤ c → (a : ℕ) → kept_of (keep kept (suc i) m) k a ≤ c
        neat_by k c f e a = go (eqb a (suc i)) refl
          where
            go : (y : Bool) → eqb a (suc i) ≡ y → kept_of (keep kept (suc i) m) k a ≤ c
            go true q = subst⁻¹ (λ (y : ℕ). y ≤ c) (ap (λ (y : ℕ). kept_of (keep kept (suc i) m) k y) (eqb-true a (suc i) q) ∙ kept_new (notes kept types) (suc i) m places k) e
            go false q = subst⁻¹ (λ (y : ℕ). y ≤ c) (kept_other (notes kept types) (suc i) m k a (eqb-false a (suc i) q)) (f a)

        sound_next : Sound (keep kept (suc i) m)
        sound_next = sound_new (notes kept types) (suc i) m places s.neat.sound lk.falls lk.low lk.few

        written_next : Written (keep kept (suc i) m) u
        written_next =
            let e = length-set kept (suc i) (kept_now kept (suc i) m) in
            let w = s.written in
            record { within = omega (arith, e, w.within); most = omega (arith, e, w.most); below = λ a. below_by a (eqb a (suc i)) refl }
          where
            below_by : (a : ℕ) (y : Bool) → eqb a (suc i) ≡ y → key_of (keep kept (suc i) m) a ≡ 257 → at_of (keep kept (suc i) m) a + 256 ≤ u
            below_by a true q e =
                absurd (let z : key_of (keep kept (suc i) m) a ≡ m.key = ap (key_of (keep kept (suc i) m)) (eqb-true a (suc i) q) ∙ kept_new (notes kept types) (suc i) m places 3 in
                let l = lk.few in
                omega arith)
            below_by a false q e =
                let d = eqb-false a (suc i) q in
                let z = kept_other (notes kept types) (suc i) m 0 a d in
                let b = s.written.below a (sym (kept_other (notes kept types) (suc i) m 3 a d) ∙ e) in
                omega arith

        rel_next : (a : ℕ) → NoteRel (noted (notes kept types) (suc i) m) (type_at (walked C (suc i)).lay a) a (info_at (sofar C (suc i)).infos a)
        rel_next a = go (eqb a (suc i)) refl
          where
            go : (b : Bool) → eqb a (suc i) ≡ b → NoteRel (noted (notes kept types) (suc i) m) (type_at (walked C (suc i)).lay a) a (info_at (sofar C (suc i)).infos a)
            go true q =
                subst⁻¹ (λ (x : ℕ). NoteRel (noted (notes kept types) (suc i) m) (type_at (walked C (suc i)).lay x) x (info_at (sofar C (suc i)).infos x)) (eqb-true a (suc i) q)
                (subst⁻¹ (λ (x : Ty). NoteRel (noted (notes kept types) (suc i) m) x (suc i) (info_at (sofar C (suc i)).infos (suc i))) type_this
                (subst⁻¹ (λ (x : Info). NoteRel (noted (notes kept types) (suc i) m) (line_type_in false (walked C i).lay (line_in C i)) (suc i) x)
                (info_this ∙ ap (λ (b : ℕ). (chunk (sofar C i).infos (suc b) (line_in C i)).info) (sym s.count)) lk.note))
            go false q =
                let d = eqb-false a (suc i) q in
                subst⁻¹ (λ (x : Ty). NoteRel (noted (notes kept types) (suc i) m) x a (info_at (sofar C (suc i)).infos a)) (type_other a d)
                (subst⁻¹ (λ (x : Info). NoteRel (noted (notes kept types) (suc i) m) (type_at (walked C i).lay a) a x) (info_other a d)
                (note_other (notes kept types) (suc i) m places s.neat.sound sound_next a d
                (λ z. ap (λ (x : Info). x.cells) (get_or-eq_default (sofar C i).infos no_info {n = a} (omega (arith, len_infos)))) (s.rel a)))

        further : {target₁ : List ℕ} → target₁ ≡ put_flat target p (line_records (notes kept types) p (line_in C i))
            → Pass (suc i) m.next (keep kept (suc i) m) target₁ u
        further e =
            record {
              upto = h;
              of_kept = length-set kept (suc i) (kept_now kept (suc i) m) ∙ s.of_kept;
              neat =
                  record {
                    sound = sound_next;
                    bit = neat_by 1 65536 s.neat.bit lk.bit;
                    con = neat_by 4 256 s.neat.con lk.con;
                    deep = s.neat.deep;
                  };
              written = written_next;
              rel = rel_next;
              count = next_of (notes kept types) p (line_in C i) ∙ sym next_length;
              fits = subst⁻¹ (λ (x : ℕ). x ≤ room false len) (next_of (notes kept types) p (line_in C i)) g;
              records = e ∙ all_records;
            }
          where
            F : List Line
            F = (sofar C i).lines

            L : List Line
            L = (chunk_at (sofar C i) (line_in C i)).lines

            all_records : put_flat target p (line_records (notes kept types) p (line_in C i)) ≡ flat_filled len (map words_of (sofar C (suc i)).lines)
            all_records =
                ap₂ (λ (x : List ℕ) (y : List (List ℕ)). put_flat x p y) s.records (sym chunk_records)
                ∙ flat_filled_lem len (map words_of F) p (map words_of L) (s.count ∙ sym (length_words F)) ∙ ap (flat_filled len) (sym (map-append words_of F L))

        low_next : Low m
        low_next = record { at = lk.low; bit = lk.bit; old = go (eqb (old_number m.old) 0) refl; key = lk.few; con = lk.con }
          where
            go : (y : Bool) → eqb (old_number m.old) 0 ≡ y → old_number m.old ≤ 65536
            go true q = let z = eqb-true (old_number m.old) 0 q in omega arith
            go false q = let z = lk.falls (eqb-false (old_number m.old) 0 q) in let e = many.0 in omega (arith, h)

        pub made_low : (r : Made) {target₁ : List ℕ} → MadeFlat (notes kept types) p (line_in C i) target target₁ r → Low r
        made_low r d = subst⁻¹ Low d.kept low_next

        -- the same, as the code says it
        pub passed : (q : ℕ) (r : Made) {target₁ : List ℕ} → q ≡ suc i → MadeFlat (notes kept types) p (line_in C i) target target₁ r
            → Pass q r.next (keep kept q r) target₁ u
        passed q r {target₁} e d =
            subst⁻¹ (λ (x : ℕ). Pass x r.next (keep kept x r) target₁ u) e
            (subst⁻¹ (λ (x : Made). Pass (suc i) x.next (keep kept (suc i) x) target₁ u) d.kept (further d.records))

    -- in a list that tells the same
    pub shortened : {i p : ℕ} {kept kept₁ : List (List ℕ)} {target : List ℕ} {u u₁ : ℕ} → Pass i p kept target u → Shortened kept kept₁ u₁ → Pass i p kept₁ target u₁
    shortened s e =
        record {
          upto = s.upto;
          of_kept = e.same.len ∙ s.of_kept;
          neat =
              record {
                sound = e.sound;
                bit = λ a. subst⁻¹ (λ (x : ℕ). x ≤ 65536) (e.same.bit a) (s.neat.bit a);
                con = λ a. subst⁻¹ (λ (x : ℕ). x ≤ 256) (e.same.con a) (s.neat.con a);
                deep = s.neat.deep;
              };
          written = e.written;
          rel = λ a. note_same e.same a (s.rel a);
          count = s.count;
          fits = s.fits;
          records = s.records;
        }

    -- ---- the start and the answers

    empty_note : (t₁ : Ty) (a : ℕ) → rank t₁.role ≡ 0 → NoteRel (notes (replicate size nothing) types) t₁ a no_info
    empty_note t₁ a e =
        record { elem = λ z. absurd (omega arith); sort = λ z. absurd (omega arith); bit = nothing_kept size 1 a; index = refl; cells = λ j l q. absurd (omega arith); known = nothing_kept size 4 a }

    none_type : (a : ℕ) → rank (type_at no_frame.lay a).role ≡ 0
    none_type zero = refl
    none_type (suc a) = refl

    none_info : (a : ℕ) → info_at (no_info ∷ []) a ≡ no_info
    none_info zero = refl
    none_info (suc a) = refl

    pub begun : ((a : ℕ) → (look_in types a).iw ≤ 8) → size ≤ 65536 → Pass 0 0 (replicate size nothing) (replicate len 0) 0
    begun dp most =
        record {
          upto = omega arith;
          of_kept = length-replicate size nothing;
          neat =
              record {
                sound = record { falls = λ a z. absurd (z (nothing_kept size 2 a)); low = λ a. zero_le 0 a 65536; few = λ a. zero_le 3 a 257 };
                bit = λ a. zero_le 1 a 65536;
                con = λ a. zero_le 4 a 256;
                deep = dp;
              };
          written =
              record {
                within = omega arith;
                most = subst⁻¹ (λ (x : ℕ). x ≤ 65536) (length-replicate size nothing) most;
                below = λ a e. absurd (let z = nothing_kept size 3 a in omega arith);
              };
          rel = λ a. subst⁻¹ (λ (x : Info). NoteRel (notes (replicate size nothing) types) (type_at no_frame.lay a) a x) (none_info a)
              (empty_note (type_at no_frame.lay a) a (none_type a));
          count = refl;
          fits = omega arith;
          records = flat_empty len;
        }
      where
        zero_le : (k a c : ℕ) → kept_of (replicate size nothing) k a ≤ c
        zero_le k a c = let e = nothing_kept size k a in omega arith

    module _ (ev : whole false len ≡ true) where
      answer : flattened t n len ≡ fitting false (length (flat_lines t n)) len
      unfolding flattened
      answer = rw ((accepted_room false t n acc).0, ev, acc)

      pub stopped : room false len < length (flatten C) → Err TargetTooSmall ≡ flattened t n len
      stopped z = sym (answer ∙ ap (λ (b : Bool). pick b (Ok (length (flat_lines t n))) (Err TargetTooSmall)) (lt-leb (length (flat_lines t n)) (room false len) z))

      pub stopped_target : room false len < length (flatten C) → replicate len 0 ≡ flat_left t n len
      unfolding flat_left
      stopped_target z = ap (λ (r : Result ℕ Refusal). left_by r len (flat_filled len (flat_records t n))) (stopped z)

      module _ {p : ℕ} {kept : List (List ℕ)} {target : List ℕ} {u : ℕ} (s : Pass n p kept target u) where
        whole_lines : (sofar C n).lines ≡ flatten C
        whole_lines = ap (λ (i : ℕ). (sofar C i).lines) (sym size_C) ∙ all_lines C

        all_of : p ≡ length (flat_lines t n)
        all_of = s.count ∙ ap length whole_lines

        pub done : Ok p ≡ flattened t n len
        done =
            sym (answer ∙ ap (λ (b : Bool). pick b (Ok (length (flat_lines t n))) (Err TargetTooSmall)) (le-leb (length (flat_lines t n)) (room false len) (subst (λ (x : ℕ). x ≤ room false len) all_of s.fits))
            ∙ ap Ok (sym all_of))

        pub done_target : target ≡ flat_left t n len
        unfolding flat_left flat_records
        done_target = s.records ∙ ap (λ (ls : List Line). flat_filled len (map words_of ls)) whole_lines ∙ ap (λ (r : Result ℕ Refusal). left_by r len (flat_filled len (map words_of (flat_lines t n)))) done
