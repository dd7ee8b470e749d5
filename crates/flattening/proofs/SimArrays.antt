-- ite, eq and neq, read and write: the circuit's walk over such a line and the flat circuit's walk over its chunk keep `Inv`. Assumes nothing.
use Prim.Native.Nat.{ℕ, zero, suc, ◌+◌, ◌-◌, ◌*◌, ◌^◌, ◌≤◌, ◌<◌}
use mathlib.Core.Path.{◌≡◌, refl, sym, ap, ◌∙◌, subst, subst⁻¹}
use mathlib.Core.Bool.{Bool, false, not, ◌||◌}
use mathlib.Core.Option.{Option, none, some}
use mathlib.Core.List.{List, [], ◌∷◌, ◌++◌}
use native.Mathlib.Omega.{arith}
use lib.Pow.{pow_pos, pow_mono}
use lib.ListN.{length, get_or, set, length-set}
use Rattle.words.specs.Word.{bit}
use Rattle.tables.specs.declared.Ty.{Ty}
use Rattle.tables.specs.Lines.{value, equality, ite, read, write}
use Rattle.tables.specs.Types.{marked, ty_at, given}
use Rattle.tables.specs.Layout.{from}
use Rattle.tables.proofs.Facts.{OkLine}
use Rattle.tables.proofs.Ids.{length_from}
use Rattle.circuits.specs.Cells.{eq_or_neq, same_cells}
use Rattle.circuits.specs.Layout.{type_at, place_at}
use Rattle.circuits.specs.Meaning.{Frame, cells_at, word_at}
use Rattle.flattening.specs.Flat.{Info, info_at, lines_at, line_at, value_info, chunk, equality_lines, join_lines, read_chain, write_cells, chunk_read, chunk_write}
use Rattle.flattening.proofs.Walk as W
use Rattle.flattening.proofs.Walk.{unmarked_each, holds_weak, Even, SortAt, Word, Holds, Small, ext_refl, sort_ext, holds_head, holds_tail, holds_length, holds_at, ok_append, evs, evs_append, len_all, Grew, grew_refl, grew_trans}
use Rattle.flattening.proofs.Chains.{Ends, writes, picks, equality_values, last_line, run_ites, run_cmps, run_joins, run_writes, run_reads}
use Rattle.flattening.proofs.CellLaws.{chooses_choose, choose_has, writes_set, picks_get, joins_agree, small_at, small_set, small_bit, holds_set}
use Rattle.flattening.proofs.Rel.{SortRel, KnownRel, ValRel, Inv, sortrel_ext, val_rel, word_rel, word_for, word_small, cells_for, extend_quiet}
use Rattle.flattening.proofs.SimWords.{Keeps}

module _ (f : Bool) (σ ι : List ℕ) where
  -- ---- ite

  pub sim_ite : {A B : Frame} {I : List Info} {b : ℕ} (s d x y : ℕ) → Inv A B I → b ≡ length B.env → OkLine false (ty_at A.lay.ctx) (given A.lay.ctx) (value s (ite d x y))
      → Keeps f σ ι A B I (value s (ite d x y)) (chunk I b (value s (ite d x y)))
  sim_ite {A} {B} {I} {b} s d x y v e k =
      let t = type_at A.lay s in
      let md = marked (type_at A.lay d) in
      let mx = marked (type_at A.lay x) in
      let my = marked (type_at A.lay y) in
      let m = md || (mx || my) in
      let u = not m in
      let rs = (v.rel s).sort k.sort.is in
      let rx = (v.rel x).value k.left.is in
      let ry = (v.rel y).value k.right.is in
      let xs = cells_at A x in
      let ys = cells_at A y in
      let nx : length xs ≡ 2 ^ t.iw = rx.len ∙ ap (λ (i : ℕ). 2 ^ i) k.same_a.iw in
      let ny : length ys ≡ 2 ^ t.iw = ry.len ∙ ap (λ (i : ℕ). 2 ^ i) k.same_b.iw in
      let c = word_at A d in
      let r = run_ites f σ ι {u = u} (ext_refl v.even_b) e rs.elem (word_for v d k.cond (λ z. (unmarked_each md (mx || my) z).0) k.bit)
      (cells_for rx (λ z. (unmarked_each mx my (unmarked_each md (mx || my) z).1).0) k.same_a.w) (cells_for ry (λ z. (unmarked_each mx my (unmarked_each md (mx || my) z).1).1) k.same_b.w) (nx ∙ sym ny) in
      let ps = from b (length (lines_at I x)) in
      let B' = evs f σ ι B (chunk I b (value s (ite d x y))).lines in
      record {
        inv =
            extend_quiet f σ ι (value s (ite d x y)) (value_info (info_at I s) ps none) tt v r.grew
            (val_rel m none (sortrel_ext r.grew.ext rs)
            (subst (λ (l : List ℕ). Holds B' u t.w ps l) (chooses_choose c xs ys (nx ∙ sym ny)) r.holds)
            (choose_has (λ (l : List ℕ). length l ≡ 2 ^ t.iw) c nx ny)
            (choose_has (Small t.w) c (subst (λ (w : ℕ). Small w xs) k.same_a.w rx.small) (subst (λ (w : ℕ). Small w ys) k.same_b.w ry.small)) tt);
        ok = r.ok;
      }

  -- ---- eq and neq

  len_cmps : (t : Bool) (s : ℕ) (ps qs : List ℕ) → length ps ≡ length qs → length (equality_lines t s ps qs) ≡ length ps
  len_cmps t s [] qs n = refl
  len_cmps t s (p ∷ ps) [] n = absurd (omega arith)
  len_cmps t s (p ∷ ps) (q ∷ qs) n = ap suc (len_cmps t s ps qs (omega arith))

  -- the first of the cells, and k others
  run_agree : {B : Frame} {u : Bool} {b s w : ℕ} {ps qs xs ys : List ℕ} (t : Bool) (k : ℕ) → Even B → b ≡ length B.env → SortAt B s 1 → Holds B u w ps xs → Holds B u w qs ys
      → length xs ≡ length ys → suc k ≡ length ps
      → Ends f σ ι B (equality_lines t s ps qs ++ join_lines t s b (b + length ps) (from (suc b) k)) u (b + 2 * k) 1 (bit (eq_or_neq t (same_cells xs ys)))
  run_agree t k ev e hs W.none hq n z = absurd (omega arith)
  run_agree t k ev e hs (W.more hp hr) W.none n z = absurd (omega arith)
  run_agree {B} {u} {b} {s} t k ev e hs (W.more {p = p} {c = x} {ps = ps} {cs = xs} hp hr) (W.more {p = q} {c = y} {ps = qs} {cs = ys} hq hu) n z =
      let L = equality_lines t s (p ∷ ps) (q ∷ qs) in
      let m = b + suc (length ps) in
      let J = join_lines t s b m (from (suc b) k) in
      let r = run_cmps f σ ι t (ext_refl ev) e hs (W.more hp hr) (W.more hq hu) n in
      let top : m ≡ length (evs f σ ι B L).env = omega (arith, len_all f σ ι B L, len_cmps t s (p ∷ ps) (q ∷ qs) (omega (arith, holds_length hr, holds_length hu))) in
      let ek : length ps ≡ k = omega arith in
      let tests = subst (λ (i : ℕ). Holds (evs f σ ι B L) u 1 (from (suc b) i) (equality_values t xs ys)) ek (holds_tail r.holds) in
      let j = run_joins f σ ι t (ext_refl r.grew.ext.even) top (sort_ext r.grew.ext hs) (holds_head r.holds) tests in
      let E = evs_append f σ ι B L J in
      let v = bit (eq_or_neq t (same_cells (x ∷ xs) (y ∷ ys))) in
      record {
        grew = subst⁻¹ (λ (C : Frame). Grew B C) E (grew_trans r.grew j.grew);
        word =
            subst⁻¹ (λ (C : Frame). Word C u (b + 2 * k) 1 v) E
            (subst (λ (i : ℕ). Word (evs f σ ι (evs f σ ι B L) J) u i 1 v) (ap (last_line b m) (length_from (suc b) k) ∙ last_join b m k (omega arith))
            (subst (λ (v : ℕ). Word (evs f σ ι (evs f σ ι B L) J) u (last_line b m (length (from (suc b) k))) 1 v) (joins_agree t x y xs ys (omega arith)) j.word));
        ok = ok_append f σ ι B L J r.ok j.ok;
      }
    where
      last_join : (b m k : ℕ) → m ≡ b + suc k → last_line b m k ≡ b + 2 * k
      last_join b m zero e = omega arith
      last_join b m (suc k) e = omega arith

  pub sim_equality : {A B : Frame} {I : List Info} {b : ℕ} (s : ℕ) (t : Bool) (x y : ℕ) → Inv A B I → b ≡ length B.env → OkLine false (ty_at A.lay.ctx) (given A.lay.ctx) (value s (equality t x y))
      → Keeps f σ ι A B I (value s (equality t x y)) (chunk I b (value s (equality t x y)))
  sim_equality {A} {B} {I} {b} s t x y v e k =
      let g = info_at I s in
      let rs = (v.rel s).sort k.sort.is in
      let rx = (v.rel x).value k.left.is in
      let ry = (v.rel y).value k.right.is in
      let xs = cells_at A x in
      let ys = cells_at A y in
      let n : length xs ≡ length ys = rx.len ∙ ap (λ (i : ℕ). 2 ^ i) (sym k.same.iw) ∙ sym ry.len in
      let hs : SortAt B g.elem 1 = subst (λ (w : ℕ). SortAt B g.elem w) k.bit rs.elem in
      let mx = marked (type_at A.lay x) in
      let my = marked (type_at A.lay y) in
      let hx = cells_for rx (λ z. (unmarked_each mx my z).0) refl in
      let r = run_agree {u = not (mx || my)} t (length (lines_at I x) - 1) v.even_b e hs hx (cells_for ry (λ z. (unmarked_each mx my z).1) k.same.w) n (omega (arith, holds_length hx, rx.len, pow_pos (type_at A.lay x).iw)) in
      let B' = evs f σ ι B (chunk I b (value s (equality t x y))).lines in
      let p = b + 2 * (length (lines_at I x) - 1) in
      let c = bit (eq_or_neq t (same_cells xs ys)) in
      record {
        inv =
            extend_quiet f σ ι (value s (equality t x y)) (value_info g (p ∷ []) none) tt v r.grew
            (word_rel (mx || my) none (sortrel_ext r.grew.ext rs) k.sort.flat (subst⁻¹ (λ (w : ℕ). Word B' (not (mx || my)) p w c) k.bit r.word)
            (subst⁻¹ (λ (w : ℕ). c < 2 ^ w) k.bit (small_bit (eq_or_neq t (same_cells xs ys)))) tt);
        ok = r.ok;
      }

  -- ---- read

  -- from the last cell on: k cells lie before it
  run_read : {B : Frame} {u : Bool} {b one s i w iw iv n : ℕ} {ks ps cs : List ℕ} (k : ℕ) → Even B → b ≡ length B.env → SortAt B one 1 → SortAt B s w → Word B u i iw iv
      → Holds B u iw ks (from 0 n) → Holds B u w ps cs → length cs ≡ n → iv < n → k ≡ n - 1 → 0 < k
      → Ends f σ ι B (read_chain one s i ks ps (get_or ps k 0) b k) u (b + (2 * k - 1)) w (get_or cs iv 0)
  run_read {B} {u} {b} {one} {s} {i} {w} {iw} {iv} {n} {ks} {ps} {cs} k ev e ho hs hi hk hp en h ek few =
      let r = run_reads f σ ι (ext_refl ev) e ho hs hi hk hp (holds_at k hp (omega arith)) k (omega (arith, length_from 0 n)) (omega arith) in
      let v : picks iv (from 0 n) cs (get_or cs k 0) k ≡ get_or cs iv 0 = ap (λ (m : ℕ). picks iv (from 0 n) cs (get_or cs m 0) m) ek ∙ picks_get iv n cs h in
      let L = read_chain one s i ks ps (get_or ps k 0) b k in
      record {
        grew = r.grew;
        word =
            subst (λ (x : ℕ). Word (evs f σ ι B L) u x w (get_or cs iv 0)) (last_some (get_or ps k 0) b (2 * k) (omega arith))
            (subst (λ (x : ℕ). Word (evs f σ ι B L) u (last_line (get_or ps k 0) b (2 * k)) w x) v r.word);
        ok = r.ok;
      }
    where
      last_some : (r b m : ℕ) → 0 < m → last_line r b m ≡ b + (m - 1)
      last_some r b zero q = absurd (omega arith)
      last_some r b (suc m) q = omega arith

  pub sim_read : {A B : Frame} {I : List Info} {b : ℕ} (s a i : ℕ) → Inv A B I → b ≡ length B.env → OkLine false (ty_at A.lay.ctx) (given A.lay.ctx) (value s (read a i))
      → Keeps f σ ι A B I (value s (read a i)) (chunk I b (value s (read a i)))
  sim_read {A} {B} {I} {b} s a i v e k = go (info_at I i).known ((v.rel i).value k.index.is).known
    where
      h : Info
      h = info_at I s

      g : Info
      g = info_at I a

      t : Ty
      t = type_at A.lay s

      cs : List ℕ
      cs = cells_at A a

      iv : ℕ
      iv = word_at A i

      rs : SortRel B t h
      rs = (v.rel s).sort k.sort.is

      ra : ValRel B (type_at A.lay a) (place_at A.lay a) cs g
      ra = (v.rel a).value k.arr.is

      inside : iv < length cs
      inside = subst⁻¹ (λ (n : ℕ). iv < n) ra.len (subst (λ (w : ℕ). iv < 2 ^ w) k.iw (word_small v i k.index.is))

      ma : Bool
      ma = marked (type_at A.lay a)

      mi : Bool
      mi = marked (type_at A.lay i)

      held : Holds B (not (ma || mi)) t.w g.cells cs
      held = cells_for ra (λ z. (unmarked_each ma mi z).0) k.wide

      fits : get_or cs iv 0 < 2 ^ t.w
      fits = small_at t.w cs iv (subst (λ (w : ℕ). Small w cs) k.wide ra.small)

      go : (c : Option ℕ) → KnownRel c (cells_at A i) → Keeps f σ ι A B I (value s (read a i)) (chunk_read h g c (line_at I i) b)
      go (some j) z =
          let ej : iv ≡ j = ap (λ (l : List ℕ). get_or l 0 0) z in
          record {
            inv =
                extend_quiet f σ ι (value s (read a i)) (value_info h (get_or g.cells j 0 ∷ []) none) tt v (grew_refl v.even_b)
                (word_rel (ma || mi) none rs k.sort.flat (subst (λ (m : ℕ). Word B (not (ma || mi)) (get_or g.cells m 0) t.w (get_or cs iv 0)) ej (holds_at iv held inside)) fits tt);
            ok = tt;
          }
      go none z =
          let last = length g.cells - 1 in
          let many : 2 ≤ 2 ^ (type_at A.lay a).iw = pow_mono k.arr.deep in
          let r = run_read last v.even_b e (ra.sort.arr k.arr.deep).bit rs.elem (word_for v i k.index (λ z. (unmarked_each ma mi z).1) k.iw)
          (holds_weak (λ z. tt) (ra.sort.arr k.arr.deep).index) held ra.len (subst (λ (n : ℕ). iv < n) ra.len inside)
          (ap (λ (n : ℕ). n - 1) (holds_length held ∙ ra.len)) (omega (arith, holds_length held, ra.len)) in
          record {
            inv =
                extend_quiet f σ ι (value s (read a i)) (value_info h ((b + (2 * last - 1)) ∷ []) none) tt v r.grew
                (word_rel (ma || mi) none (sortrel_ext r.grew.ext rs) k.sort.flat r.word fits tt);
            ok = r.ok;
          }

  -- ---- write

  pub sim_write : {A B : Frame} {I : List Info} {b : ℕ} (s a i x : ℕ) → Inv A B I → b ≡ length B.env → OkLine false (ty_at A.lay.ctx) (given A.lay.ctx) (value s (write a i x))
      → Keeps f σ ι A B I (value s (write a i x)) (chunk I b (value s (write a i x)))
  sim_write {A} {B} {I} {b} s a i x v e k = go (info_at I i).known ((v.rel i).value k.index.is).known
    where
      h : Info
      h = info_at I s

      ps : List ℕ
      ps = lines_at I a

      t : Ty
      t = type_at A.lay s

      cs : List ℕ
      cs = cells_at A a

      iv : ℕ
      iv = word_at A i

      xv : ℕ
      xv = word_at A x

      rs : SortRel B t h
      rs = (v.rel s).sort k.sort.is

      ra : ValRel B (type_at A.lay a) (place_at A.lay a) cs (info_at I a)
      ra = (v.rel a).value k.arr.is

      ma : Bool
      ma = marked (type_at A.lay a)

      mi : Bool
      mi = marked (type_at A.lay i)

      mx : Bool
      mx = marked (type_at A.lay x)

      m : Bool
      m = ma || (mi || mx)

      u : Bool
      u = not m

      held : Holds B u t.w ps cs
      held = cells_for ra (λ z. (unmarked_each ma (mi || mx) z).0) k.same.w

      wx : Word B u (line_at I x) t.w xv
      wx = word_for v x k.value (λ z. (unmarked_each mi mx (unmarked_each ma (mi || mx) z).1).1) k.vw

      fits : Small t.w (set cs iv xv)
      fits =
          small_set t.w cs iv xv (subst (λ (w : ℕ). Small w cs) k.same.w ra.small) (subst (λ (w : ℕ). xv < 2 ^ w) k.vw (word_small v x k.value.is))

      many : length cs ≡ 2 ^ t.iw
      many = ra.len ∙ ap (λ (n : ℕ). 2 ^ n) k.same.iw

      go : (c : Option ℕ) → KnownRel c (cells_at A i) → Keeps f σ ι A B I (value s (write a i x)) (chunk_write h ps c (line_at I i) (line_at I x) b)
      go (some j) z =
          let ej : iv ≡ j = ap (λ (l : List ℕ). get_or l 0 0) z in
          record {
            inv =
                extend_quiet f σ ι (value s (write a i x)) (value_info h (set ps j (line_at I x)) none) tt v (grew_refl v.even_b)
                (val_rel m none rs (subst (λ (j : ℕ). Holds B u t.w (set ps j (line_at I x)) (set cs iv xv)) ej (holds_set iv held wx)) (length-set cs iv xv ∙ many) fits tt);
            ok = tt;
          }
      go none z =
          let r = run_writes f σ ι (ext_refl v.even_b) e (rs.arr k.sort.deep).bit rs.elem (word_for v i k.index (λ z. (unmarked_each mi mx (unmarked_each ma (mi || mx) z).1).0) k.iw) wx
          (holds_weak (λ z. tt) (rs.arr k.sort.deep).index) held (length_from 0 (2 ^ t.iw) ∙ sym many) in
          let B' = evs f σ ι B (chunk_write h ps none (line_at I i) (line_at I x) b).lines in
          record {
            inv =
                extend_quiet f σ ι (value s (write a i x)) (value_info h (write_cells b (length ps)) none) tt v r.grew
                (val_rel m none (sortrel_ext r.grew.ext rs)
                (subst (λ (ds : List ℕ). Holds B' u t.w (write_cells b (length ps)) ds) (ap (λ (n : ℕ). writes iv (from 0 n) xv cs) (sym many) ∙ writes_set iv xv cs) r.holds)
                (length-set cs iv xv ∙ many) fits tt);
            ok = r.ok;
          }
