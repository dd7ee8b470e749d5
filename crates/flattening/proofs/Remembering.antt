-- After one line more the lists still tell what the definition keeps. Assumes nothing.
use Prim.Native.Nat.{ℕ, zero, suc, ◌+◌, ◌-◌, ◌*◌, ◌^◌, ◌≤◌, ◌<◌}
use mathlib.Core.Path.{◌≡◌, refl, sym, ap, ap₂, ◌∙◌, subst, subst⁻¹}
use mathlib.Core.Logic.{◌≢◌}
use mathlib.Core.Bool.{Bool, true, false}
use mathlib.Core.Option.{Option, none, some}
use mathlib.Core.List.{List, [], ◌∷◌}
use native.Mathlib.Omega.{arith}
use lib.Dec.{ltb}
use lib.ListN.{length, get_or, set, length-set}
use lib.Pow.{pow_pos}
use borrow.Author.Tests.{ltb-true}
use Rattle.std.specs.Prelude.{Some, None}
use Rattle.tables.specs.declared.Ty.{Ty}
use Rattle.tables.specs.Pick.{pick}
use Rattle.tables.specs.Lines.{Line, Expr}
use Rattle.tables.specs.Types.{rank, no_ty, ty_at, given}
use Rattle.tables.specs.Layout.{from}
use Rattle.tables.proofs.Values.{val_value}
use Rattle.tables.proofs.Facts.{IsWord, OkLine}
use Rattle.tables.proofs.Ids.{from_at, length_from}
use Rattle.circuits.specs.Layout.{type_at, line_type_in}
use Rattle.circuits.specs.Meaning.{Frame, cells_at}
use Rattle.flattening.specs.declared.Made.{Made}
use Rattle.flattening.specs.Flat.{Info, no_info, info_at, lines_at, line_at, value_info, chunk, chunk_read, chunk_write, write_cells}
use Rattle.flattening.specs.Model.Cells.{old_number, con_number, cell_in}
use Rattle.flattening.specs.Model.Lines.{deep_in, Notes, word_line, bit_in, con_in, size_in, small, made_as, flat_count, flat_made}
use Rattle.flattening.specs.Model.Fits.{Neat}
use Rattle.flattening.proofs.Rel.{Inv, KnownRel, word_small}
use Rattle.flattening.proofs.SimStates.{held_below}
use Rattle.flattening.proofs.Laying.{size_two, read_con, read_any, read_any_count, write_con, write_any, write_any_count}
use Rattle.flattening.proofs.Agreeing.{KnownNote, NoteRel, Told, is_line, size_of, cell_of, word_line_lem, elem_of, index_small, con_some}
use Rattle.flattening.proofs.Keeping.{noted, Holds, kept_new, sound_new, cell_step, cell_swap, write_cell, write_length}

-- what is kept of the line n, and that the numbers stay small
pub record LineKept (N : Notes) (n : ℕ) (m : Made) (t : Ty) (f : Info) : Type 0 where
  pub falls : old_number m.old ≢ 0 → old_number m.old < n
  pub low : m.at ≤ 65536
  pub few : m.key ≤ 256
  pub bit : m.bit ≤ 65536
  pub con : con_number m.con ≤ 256
  pub note : NoteRel (noted N n m) t n f

small_le : (v : ℕ) → con_number (small v) ≤ 256
small_le v = go (ltb v 256) refl
  where
    go : (b : Bool) → ltb v 256 ≡ b → con_number (pick b (Some v) None) ≤ 256
    go true e = let h = ltb-true v 256 e in omega arith
    go false e = omega arith

no_old : {n o : ℕ} → o ≡ 0 → o ≢ 0 → o < n
no_old e d = absurd (d e)

module _ (N : Notes) (n : ℕ) (h : Holds N n) where
  bit_new : (m : Made) → bit_in (noted N n m) n ≡ m.bit
  bit_new m = kept_new N n m h 1

  con_new : (m : Made) → con_in (noted N n m) n ≡ con_number m.con
  con_new m = kept_new N n m h 4

  -- a value of the sort f, whose cells are the flat lines ps
  val_note : (m : Made) (f : Info) (ps : List ℕ) (k : Option ℕ) (t : Ty) → rank t.role ≢ 1 → m.bit ≡ f.bit → f.index ≡ from (suc f.bit) (length f.index) → KnownNote k (con_number m.con)
      → ((j : ℕ) → j < length ps → cell_in (noted N n m).held n j ≡ get_or ps j 0) → NoteRel (noted N n m) t n (value_info f ps k)
  val_note m f ps k t d eb ei ek ec =
      record {
        elem = λ e. absurd (d e);
        sort = λ e. absurd (d e);
        bit = bit_new m ∙ eb;
        index = ei;
        cells = λ j l q. ec j l;
        known = subst⁻¹ (λ (c : ℕ). KnownNote k c) (con_new m) ek;
      }

  word_cell : (m : Made) (x : ℕ) → old_number m.old ≡ 0 → m.key ≤ 256 → m.at ≡ x → (j : ℕ) → j < 1 → cell_in (noted N n m).held n j ≡ get_or (x ∷ []) j 0
  word_cell m x eo lk ea zero l = cell_step N n m h eo lk 0 ∙ omega arith
  word_cell m x eo lk ea (suc j) l = absurd (omega arith)

  -- a line of which nothing is kept
  none_note : (m : Made) → m.bit ≡ 0 → con_number m.con ≡ 0 → NoteRel (noted N n m) no_ty n no_info
  none_note m eb ek = record { elem = λ e. absurd (omega arith); sort = λ e. absurd (omega arith); bit = bit_new m ∙ eb; index = refl; cells = λ j l q. absurd (omega arith); known = con_new m ∙ ek }

module _ {A B : Frame} {I : List Info} (v : Inv A B I) (N : Notes) (ne : Neat N) (tl : Told A N) (nr : (a : ℕ) → NoteRel N (type_at A.lay a) a (info_at I a)) (p : ℕ) (n : ℕ) (hn : Holds N n)
    (base : suc p ≡ length B.env) (below : (a : ℕ) → 1 ≤ rank (type_at A.lay a).role → a < n) where
  -- a flat line that holds a cell
  line_low : (a j : ℕ) → 2 ≤ rank (type_at A.lay a).role → j < size_in N a → cell_in N.held a j ≤ p
  line_low a j h l =
      let e = cell_of v N ne tl nr p a h j l in
      let q = held_below v a h j (subst⁻¹ (λ (x : ℕ). j < x) (size_of v N ne tl nr p a h) l) in
      omega arith

  -- a word of the sort s, at the flat line x
  word_kept_lem : (m : Made) (s x : ℕ) (k : Option ℕ) (t : Ty) → rank t.role ≢ 1 → old_number m.old ≡ 0 → m.key ≡ 1 → m.at ≡ x → m.bit ≡ bit_in N s → KnownNote k (con_number m.con) → con_number m.con ≤ 256 → x ≤ 65536
      → LineKept N n m t (value_info (info_at I s) (x ∷ []) k)
  word_kept_lem m s x k t d eo ekey ea eb ek ec lx =
      record {
        falls = no_old eo;
        low = omega arith;
        few = omega arith;
        bit = let b = ne.bit s in omega arith;
        con = ec;
        note = val_note N n hn m (info_at I s) (x ∷ []) k t d (eb ∙ (nr s).bit) (nr s).index ek (word_cell N n hn m x eo (omega arith) ea);
      }

  -- a run of flat lines
  run_kept : (m : Made) (s c : ℕ) (t : Ty) → rank t.role ≢ 1 → old_number m.old ≡ 0 → m.key ≡ 1 → m.at ≡ p + 1 → m.bit ≡ bit_in N s → con_number m.con ≡ 0 → p ≤ 60000 → LineKept N n m t (value_info (info_at I s) (from (suc p) c) none)
  run_kept m s c t d eo ekey ea eb ek lp =
      record {
        falls = no_old eo;
        low = omega arith;
        few = omega arith;
        bit = let b = ne.bit s in omega arith;
        con = omega arith;
        note =
            val_note N n hn m (info_at I s) (from (suc p) c) none t d (eb ∙ (nr s).bit) (nr s).index ek
            (λ j l.
            let z : j < c = subst (λ (x : ℕ). j < x) (length_from (suc p) c) l in
            cell_step N n m hn eo (omega arith) j ∙ ap₂ (λ (x y : ℕ). x + y * j) ea ekey ∙ sym (from_at (suc p) c j z ∙ omega arith));
      }

  none_kept : (m : Made) → old_number m.old ≡ 0 → m.key ≡ 0 → m.at ≡ 0 → m.bit ≡ 0 → con_number m.con ≡ 0 → LineKept N n m no_ty no_info
  none_kept m eo ekey ea eb ek = record { falls = no_old eo; low = omega arith; few = omega arith; bit = omega arith; con = omega arith; note = none_note N n hn m eb ek }

  kept_as_lem : {m m' : Made} {t : Ty} {f : Info} → m ≡ m' → LineKept N n m' t f → LineKept N n m t f
  kept_as_lem {t = t} {f} e k = subst⁻¹ (λ (x : Made). LineKept N n x t f) e k

  -- ---- reads and writes

  deep_index : (a i : ℕ) → 1 ≤ rank (type_at A.lay a).role → (type_at A.lay i).w ≡ (type_at A.lay a).iw → (type_at A.lay i).w ≤ 8
  deep_index a i h e = let q : deep_in N a ≡ (type_at A.lay a).iw = tl.iw a h in let f = ne.deep a in omega arith

  -- a constant index lies among the cells
  index_in : (a i k : ℕ) → 1 ≤ rank (type_at A.lay a).role → IsWord (type_at A.lay i) → (type_at A.lay i).w ≡ (type_at A.lay a).iw → cells_at A i ≡ k ∷ [] → k < size_in N a
  index_in a i k h w e c =
      let z : get_or (cells_at A i) 0 0 < 2 ^ (type_at A.lay i).w = word_small v i w.is in
      let q : get_or (cells_at A i) 0 0 ≡ k = ap (λ (x : List ℕ). get_or x 0 0) c in
      subst (λ (x : ℕ). k < x) (ap (λ (x : ℕ). 2 ^ x) (e ∙ sym (tl.iw a h))) (subst (λ (x : ℕ). x < 2 ^ (type_at A.lay i).w) q z)

  read_kept : (s a i : ℕ) (t : Ty) → rank t.role ≢ 1 → OkLine false (ty_at A.lay.ctx) (given A.lay.ctx) (Line.value s (Expr.read a i)) → p + flat_count N (Line.value s (Expr.read a i)) ≤ 16384
      → LineKept N n (flat_made N p (Line.value s (Expr.read a i))) t (chunk I (suc p) (Line.value s (Expr.read a i))).info
  read_kept s a i t d k top = go (info_at I i).known ((v.rel i).value k.index.is).known (nr i).known
    where
      ha : 2 ≤ rank (type_at A.lay a).role
      ha = k.arr.is

      go : (c : Option ℕ) → KnownRel c (cells_at A i) → KnownNote c (con_in N i)
          → LineKept N n (flat_made N p (Line.value s (Expr.read a i))) t (chunk_read (info_at I s) (info_at I a) c (line_at I i) (suc p)).info
      go (some x) r z =
          let l = index_in a i x (omega arith) k.index k.iw r in
          let q = con_some v N ne tl nr p i x (con_in N i) (index_small v N ne tl nr p i x k.index (deep_index a i (omega arith) k.iw) r) z in
          let y : con_in N i - 1 ≡ x = omega arith in
          let at : cell_in N.held a (con_in N i - 1) ≡ get_or (lines_at I a) x 0 = ap (cell_in N.held a) y ∙ cell_of v N ne tl nr p a ha x l in
          let low = line_low a x ha l in
          kept_as_lem (read_con N p s a i (λ w. omega arith))
          (word_kept_lem (made_as p (cell_in N.held a (con_in N i - 1)) (bit_in N s) None 1 None) s (get_or (lines_at I a) x 0) none t d refl refl at refl refl (omega arith) (omega (arith, cell_of v N ne tl nr p a ha x l)))
      go none r z =
          let c = size_in N a in
          let two : 2 ≤ c = size_two (deep_in N a) (let e : deep_in N a ≡ (type_at A.lay a).iw = tl.iw a (omega arith) in let d : 0 < (type_at A.lay a).iw = k.arr.deep in omega arith) in
          let last = length (lines_at I a) - 1 in
          let e : suc p + (2 * last - 1) ≡ p + 2 * (c - 1) = omega (arith, size_of v N ne tl nr p a ha) in
          let f = read_any_count N p s a i z in
          kept_as_lem (read_any N p s a i z)
          (word_kept_lem (made_as (p + 2 * (c - 1)) (p + 2 * (c - 1)) (bit_in N s) None 1 None) s (suc p + (2 * last - 1)) none t d refl refl (sym e) refl refl (omega arith) (omega arith))

  write_kept : (s a i x : ℕ) (t : Ty) → rank t.role ≢ 1 → OkLine false (ty_at A.lay.ctx) (given A.lay.ctx) (Line.value s (Expr.write a i x)) → p + flat_count N (Line.value s (Expr.write a i x)) ≤ 16384
      → LineKept N n (flat_made N p (Line.value s (Expr.write a i x))) t (chunk I (suc p) (Line.value s (Expr.write a i x))).info
  write_kept s a i x t d k top = go (info_at I i).known ((v.rel i).value k.index.is).known (nr i).known
    where
      ha : 2 ≤ rank (type_at A.lay a).role
      ha = k.arr.is

      hs : 1 ≤ rank (type_at A.lay s).role
      hs = let e : rank (type_at A.lay s).role ≡ 1 = k.sort.is in omega arith

      go : (c : Option ℕ) → KnownRel c (cells_at A i) → KnownNote c (con_in N i)
          → LineKept N n (flat_made N p (Line.value s (Expr.write a i x))) t (chunk_write (info_at I s) (lines_at I a) c (line_at I i) (line_at I x) (suc p)).info
      go (some y) r z =
          let q = con_some v N ne tl nr p i y (con_in N i) (index_small v N ne tl nr p i y k.index (deep_index s i hs k.iw) r) z in
          let small-y = index_small v N ne tl nr p i y k.index (deep_index s i hs k.iw) r in
          let e : con_in N i - 1 ≡ y = omega arith in
          let w = word_line_lem v N ne tl nr p x k.value in
          let m = made_as p (word_line N x) (bit_in N s) (Some a) (con_in N i - 1) None in
          let lo = line_low x 0 k.value.is (pow_pos (deep_in N x)) in
          let an = below a (omega arith) in
          let sK = sound_new N n m hn ne.sound (λ u. an) (omega arith) (omega arith) in
          kept_as_lem (write_con N p s a i x (λ u. omega arith))
          (record {
            falls = λ u. an;
            low = omega arith;
            few = omega arith;
            bit = ne.bit s;
            con = omega arith;
            note =
                val_note N n hn m (info_at I s) (set (lines_at I a) y (line_at I x)) none t d (nr s).bit (nr s).index refl
                (λ j l.
                let lj : j < length (lines_at I a) = subst (λ (u : ℕ). j < u) (length-set (lines_at I a) y (line_at I x)) l in
                cell_swap N n m hn sK ne.sound a y (lines_at I a) refl (is_line v N ne tl nr p a (omega arith)) an e (λ u lu. cell_of v N ne tl nr p a ha u (subst (λ (y : ℕ). u < y) (size_of v N ne tl nr p a ha) lu)) j lj ∙ ap (λ (u : ℕ). get_or (set (lines_at I a) y u) j 0) (sym w));
          })
      go none r z =
          let c = size_in N s in
          let m = made_as (p + 2 * c) (p + 2) (bit_in N s) None 2 None in
          let f = write_any_count N p s a i x z in
          kept_as_lem (write_any N p s a i x z)
          (record {
            falls = no_old refl;
            low = omega arith;
            few = omega arith;
            bit = ne.bit s;
            con = omega arith;
            note =
                val_note N n hn m (info_at I s) (write_cells (suc p) (length (lines_at I a))) none t d (nr s).bit (nr s).index refl
                (λ j l. cell_step N n m hn refl (omega arith) j ∙ sym (write_cell (suc p) (length (lines_at I a)) j (subst (λ (u : ℕ). j < u) (write_length (suc p) (length (lines_at I a))) l) ∙ omega arith));
          })

  -- ---- any line

  not_sort : (s : ℕ) (x : Expr) → rank (line_type_in false A.lay (Line.value s x)).role ≢ 1
  not_sort s x e = omega (arith, val_value false (type_at A.lay) s x)

  pub line_kept : (l : Line) → OkLine false (ty_at A.lay.ctx) (given A.lay.ctx) l → p + flat_count N l ≤ 16384 → LineKept N n (flat_made N p l) (line_type_in false A.lay l) (chunk I (suc p) l).info
  line_kept (Line.bitvec w) k top =
      let m = flat_made N p (Line.bitvec w) in
      record {
        falls = no_old refl;
        low = omega arith;
        few = omega arith;
        bit = omega arith;
        con = omega arith;
        note = record { elem = λ e. kept_new N n m hn 0 ∙ omega arith; sort = λ e. kept_new N n m hn 2; bit = bit_new N n hn m; index = refl; cells = λ j l q. absurd (omega arith); known = con_new N n hn m };
      }
  line_kept (Line.array i e) k top =
      let m = flat_made N p (Line.array i e) in
      let c = 2 ^ (info_at I i).width in
      record {
        falls = no_old refl;
        low = ne.sound.low e;
        few = omega arith;
        bit = omega arith;
        con = omega arith;
        note =
            record {
              elem = λ z. kept_new N n m hn 0 ∙ sym (elem_of v N ne tl nr p e k.element.is);
              sort = λ z. kept_new N n m hn 2;
              bit = bit_new N n hn m ∙ omega arith;
              index = ap (λ (x : ℕ). from (suc (suc p)) x) (sym (length_from (suc (suc p)) c));
              cells = λ j l q. absurd (omega arith);
              known = con_new N n hn m;
            };
      }
  line_kept (Line.input s) k top = word_kept_lem (flat_made N p (Line.input s)) s (suc p) none (line_type_in false A.lay (Line.input s)) (λ e. omega arith) refl refl (omega arith) refl refl (omega arith) (omega arith)
  line_kept (Line.state s) k top = run_kept (flat_made N p (Line.state s)) s (info_at I s).size (line_type_in false A.lay (Line.state s)) (λ e. omega arith) refl refl refl refl refl (omega arith)
  line_kept (Line.value s (Expr.const c)) k top = word_kept_lem (flat_made N p (Line.value s (Expr.const c))) s (suc p) (some c) (line_type_in false A.lay (Line.value s (Expr.const c))) (λ e. omega arith) refl refl (omega arith) refl refl (small_le c) (omega arith)
  line_kept (Line.value s (Expr.unary h a x y)) k top =
      word_kept_lem (flat_made N p (Line.value s (Expr.unary h a x y))) s (suc p) none (line_type_in false A.lay (Line.value s (Expr.unary h a x y))) (not_sort s (Expr.unary h a x y)) refl refl (omega arith) refl refl (omega arith) (omega arith)
  line_kept (Line.value s (Expr.binary h a b)) k top =
      word_kept_lem (flat_made N p (Line.value s (Expr.binary h a b))) s (suc p) none (line_type_in false A.lay (Line.value s (Expr.binary h a b))) (not_sort s (Expr.binary h a b)) refl refl (omega arith) refl refl (omega arith) (omega arith)
  line_kept (Line.value s (Expr.equality e a b)) k top =
      let c = length (lines_at I a) in
      let ec = size_of v N ne tl nr p a k.left.is in
      let q : suc p + 2 * (c - 1) ≡ p + (size_in N a + (size_in N a - 1)) = omega (arith, ec, pow_pos (deep_in N a)) in
      word_kept_lem (flat_made N p (Line.value s (Expr.equality e a b))) s _ none (line_type_in false A.lay (Line.value s (Expr.equality e a b))) (not_sort s (Expr.equality e a b)) refl refl (sym q) refl refl (omega arith) (omega (arith, q))
  line_kept (Line.value s (Expr.ite c a b)) k top =
      run_kept (flat_made N p (Line.value s (Expr.ite c a b))) s (length (lines_at I a)) (line_type_in false A.lay (Line.value s (Expr.ite c a b))) (not_sort s (Expr.ite c a b)) refl refl refl refl refl (omega arith)
  line_kept (Line.value s (Expr.read a i)) k top = read_kept s a i (line_type_in false A.lay (Line.value s (Expr.read a i))) (not_sort s (Expr.read a i)) k top
  line_kept (Line.value s (Expr.write a i x)) k top =
      write_kept s a i x (line_type_in false A.lay (Line.value s (Expr.write a i x))) (not_sort s (Expr.write a i x)) k top
  line_kept (Line.init_or_next m s q a) k top = none_kept (flat_made N p (Line.init_or_next m s q a)) refl refl refl refl refl
  line_kept (Line.signal m a) k top = none_kept (flat_made N p (Line.signal m a)) refl refl refl refl refl
  line_kept (Line.output a) k top = none_kept (flat_made N p (Line.output a)) refl refl refl refl refl
  line_kept Line.unknown k top = absurd k
