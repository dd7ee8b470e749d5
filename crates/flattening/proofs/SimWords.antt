-- One line of sorts or words: the circuit's walk over it and the flat circuit's walk over its chunk keep `Inv`. Assumes nothing.
use Prim.Native.Nat.{ℕ, suc, ◌^◌}
use mathlib.Core.Path.{◌≡◌, refl, sym, ap, ap₂, ◌∙◌, subst, subst⁻¹}
use mathlib.Core.Bool.{Bool, true, false, ◌||◌}
use mathlib.Core.Option.{none, some}
use mathlib.Core.List.{List, [], ◌∷◌, ◌++◌}
use native.Mathlib.Nat.{mod-lt}
use native.Mathlib.Omega.{arith}
use lib.Pow.{pow_pos}
use lib.ListN.{length, get_or}
use Rattle.words.specs.Op.{op_of}
use Rattle.words.specs.Circuit.{circ}
use Rattle.tables.specs.declared.Ty.{Ty}
use Rattle.tables.specs.Lines.{Line, bitvec, array, input, value, signal, output, const, unary, binary}
use Rattle.tables.specs.Types.{rank, marked, ty_at, given}
use Rattle.tables.specs.Layout.{from}
use Rattle.tables.proofs.Facts.{OkLine, AllOk}
use Rattle.tables.proofs.Ids.{length_from}
use Rattle.circuits.specs.Cells.{if_nonzero}
use Rattle.circuits.specs.Layout.{type_at}
use Rattle.circuits.specs.Meaning.{Frame, Signal, signal_byte, word_at}
use Rattle.flattening.specs.Flat.{Info, no_info, Chunk, info_at, line_at, bitvec_info, array_info, value_info, chunk, const_lines}
use Rattle.flattening.proofs.Walk.{unmarked_each, unmarked_both, Even, SortAt, ext_refl, ext_trans, sort_ext, word_val, sort_ok, word_ok, ev1, evs, ext_line, new_type, new_word, new_val, len1, gave_same, grew_trans, grew_line}
use Rattle.flattening.proofs.Chains.{Run, run_consts}
use Rattle.flattening.proofs.CellLaws.{small_from}
use Rattle.flattening.proofs.Rel.{Inv, sortrel_ext, rel_none, rel_sort, word_rel, word_of, word_small, extend, extend_quiet, same_given}
use Rattle.flattening.proofs.Fitting.{one_lt, two_lt}

module _ (f : Bool) (σ ι : List ℕ) where
  -- what is shown of each line l, whose chunk is c
  pub record Keeps (A B : Frame) (I : List Info) (l : Line) (c : Chunk) : Type 0 where
    pub inv : Inv (ev1 f σ ι A l) (evs f σ ι B c.lines) (I ++ (c.info ∷ []))
    pub ok : AllOk false B.lay.ctx c.lines

  -- ---- sorts

  new_sort : {A : Frame} {b : ℕ} → Even A → (w : ℕ) → b ≡ length A.env → SortAt (ev1 f σ ι A (bitvec w)) b w
  new_sort {A} {b} ev w e =
      let h = new_type f σ ι ev (bitvec w) b e in
      record {
        inb = omega (arith, len1 f σ ι A (bitvec w));
        is = ap (λ (t : Ty). rank t.role) h;
        wide = ap (λ (t : Ty). t.w) h;
        flat = ap (λ (t : Ty). t.iw) h;
      }

  pub sim_bitvec : {A B : Frame} {I : List Info} {b : ℕ} (w : ℕ) → Inv A B I → b ≡ length B.env → OkLine false (ty_at A.lay.ctx) (given A.lay.ctx) (bitvec w)
      → Keeps A B I (bitvec w) (chunk I b (bitvec w))
  sim_bitvec {b = b} w v e k =
      record {
        inv =
            extend_quiet f σ ι (bitvec w) (bitvec_info w b) tt v (grew_line f σ ι v.even_b (bitvec w) tt)
            (rel_sort
            (record {
              elem = new_sort v.even_b w e;
              size = refl;
              wide = refl;
              width = record { least = k.least; most = k.most };
              arr = λ h. absurd (omega arith);
            }));
        ok = (k, tt);
      }

  -- the constants of an array sort whose index width is u in the Info and w in the circuit
  index_consts : {B : Frame} {b s w u : ℕ} → Even B → b ≡ length B.env → SortAt B s w → u ≡ w → Run f σ ι B (const_lines s (from 0 (2 ^ u))) true w (from b (2 ^ u)) (from 0 (2 ^ w))
  index_consts {B} {b} {s} {w} {u} ev e hs q =
      subst⁻¹ (λ (x : ℕ). Run f σ ι B (const_lines s (from 0 (2 ^ x))) true w (from b (2 ^ x)) (from 0 (2 ^ w))) q
      (subst (λ (n : ℕ). Run f σ ι B (const_lines s (from 0 (2 ^ w))) true w (from b n) (from 0 (2 ^ w))) (length_from 0 (2 ^ w))
      (run_consts f σ ι (ext_refl ev) e hs (from 0 (2 ^ w)) (small_from w 0 (2 ^ w) (omega arith))))

  pub sim_array : {A B : Frame} {I : List Info} {b : ℕ} (i el : ℕ) → Inv A B I → b ≡ length B.env → OkLine false (ty_at A.lay.ctx) (given A.lay.ctx) (array i el)
      → Keeps A B I (array i el) (chunk I b (array i el))
  sim_array {A} {B} {I} {b} i el v e k =
      let ri = (v.rel i).sort k.index.is in
      let re = (v.rel el).sort k.element.is in
      let y = grew_line f σ ι v.even_b (bitvec 1) tt in
      let r = index_consts {b = suc b} y.ext.even (ap suc e ∙ sym (len1 f σ ι B (bitvec 1))) (sort_ext y.ext ri.elem) ri.wide in
      record {
        inv =
            extend_quiet f σ ι (array i el) (array_info (info_at I i) (info_at I el) b) tt v (grew_trans y r.grew)
            (rel_sort
            (record {
              elem = sort_ext (ext_trans y.ext r.grew.ext) re.elem;
              size = ap (λ (u : ℕ). 2 ^ u) ri.wide;
              wide = re.wide;
              width = re.width;
              arr = λ h. record { bit = sort_ext r.grew.ext (new_sort v.even_b 1 e); index = r.holds };
            }));
        ok = (record { form = refl; least = omega arith; most = omega arith }, r.ok);
      }

  -- ---- words

  pub sim_input : {A B : Frame} {I : List Info} {b : ℕ} (s : ℕ) → Inv A B I → b ≡ length B.env → OkLine false (ty_at A.lay.ctx) (given A.lay.ctx) (input s)
      → Keeps A B I (input s) (chunk I b (input s))
  sim_input {A} {B} {I} {b} s v e k =
      let rs = (v.rel s).sort k.is in
      let l = input (info_at I s).elem in
      let x = ext_line f σ ι v.even_b l in
      record {
        inv =
            extend f σ ι (input s) (value_info (info_at I s) (b ∷ []) none) v x
            (record { states = v.alike.states; inputs = ap suc v.alike.inputs; signals = v.alike.signals; sts = v.alike.sts; sigs = v.alike.sigs })
            v.many
            (word_rel true none (sortrel_ext x rs) k.flat
            (new_word f σ ι v.even_b l e rs.elem refl (rw (v.alike.inputs, rs.elem.wide)) (omega arith) (λ z. absurd z))
            (mod-lt (get_or ι A.lay.counts.inputs 0) (pow_pos (type_at A.lay s).w)) tt)
            (λ z. absurd (omega arith)) (same_given f σ ι (input s) refl v x.len (gave_same f σ ι B l refl));
        ok = (sort_ok rs.elem, tt);
      }

  pub sim_const : {A B : Frame} {I : List Info} {b : ℕ} (s c : ℕ) → Inv A B I → b ≡ length B.env → OkLine false (ty_at A.lay.ctx) (given A.lay.ctx) (value s (const c))
      → Keeps A B I (value s (const c)) (chunk I b (value s (const c)))
  sim_const {A} {B} {I} {b} s c v e k =
      let rs = (v.rel s).sort k.sort.is in
      let l = value (info_at I s).elem (const c) in
      let g = grew_line f σ ι v.even_b l tt in
      record {
        inv =
            extend_quiet f σ ι (value s (const c)) (value_info (info_at I s) (b ∷ []) (some c)) tt v g
            (word_rel false (some c) (sortrel_ext g.ext rs) k.sort.flat (new_val f σ ι false v.even_b l e rs.elem refl refl (λ z. tt)) k.fits refl);
        ok = (record { sort = sort_ok rs.elem; fits = rw rs.elem.wide k.fits }, tt);
      }

  pub sim_unary : {A B : Frame} {I : List Info} {b : ℕ} (s h a x y : ℕ) → Inv A B I → b ≡ length B.env → OkLine false (ty_at A.lay.ctx) (given A.lay.ctx) (value s (unary h a x y))
      → Keeps A B I (value s (unary h a x y)) (chunk I b (value s (unary h a x y)))
  sim_unary {A} {B} {I} {b} s h a x y v e k =
      let rs = (v.rel s).sort k.sort.is in
      let ra = (v.rel a).value k.arg.is in
      let wa = word_of v a k.arg in
      let l = value (info_at I s).elem (unary h (line_at I a) x y) in
      let g = grew_line f σ ι v.even_b l tt in
      record {
        inv =
            extend_quiet f σ ι (value s (unary h a x y)) (value_info (info_at I s) (b ∷ []) none) tt v g
            (word_rel (marked (type_at A.lay a)) none (sortrel_ext g.ext rs) k.sort.flat
            (new_val f σ ι (marked (type_at B.lay (line_at I a))) v.even_b l e rs.elem refl
            (ap₂ (λ (u w : ℕ). circ (op_of h) u 64 w x y ∷ []) wa.wide (word_val wa)) wa.unmarked)
            (one_lt h x y k rs.width ra.sort.width (word_at A a) (word_small v a k.arg.is)) tt);
        ok = (
          record {
            kind = k.kind;
            sort = sort_ok rs.elem;
            arg = word_ok wa;
            rule = rw (rs.elem.wide, wa.wide) k.rule;
            spare₂ = k.spare₂;
            spare₃ = k.spare₃;
          },
          tt,
        );
      }

  pub sim_binary : {A B : Frame} {I : List Info} {b : ℕ} (s h x y : ℕ) → Inv A B I → b ≡ length B.env → OkLine false (ty_at A.lay.ctx) (given A.lay.ctx) (value s (binary h x y))
      → Keeps A B I (value s (binary h x y)) (chunk I b (value s (binary h x y)))
  sim_binary {A} {B} {I} {b} s h x y v e k =
      let rs = (v.rel s).sort k.sort.is in
      let wx = word_of v x k.left in
      let wy = word_of v y k.right in
      let mx = marked (type_at A.lay x) in
      let my = marked (type_at A.lay y) in
      let gx = marked (type_at B.lay (line_at I x)) in
      let gy = marked (type_at B.lay (line_at I y)) in
      let l = value (info_at I s).elem (binary h (line_at I x) (line_at I y)) in
      let g = grew_line f σ ι v.even_b l tt in
      record {
        inv =
            extend_quiet f σ ι (value s (binary h x y)) (value_info (info_at I s) (b ∷ []) none) tt v g
            (word_rel (mx || my) none (sortrel_ext g.ext rs) k.sort.flat
            (new_val f σ ι (gx || gy) v.even_b l e rs.elem refl (rw (wx.wide, wy.wide, word_val wx, word_val wy))
            (λ z. let w = unmarked_each mx my z in unmarked_both gx gy (wx.unmarked w.0) (wy.unmarked w.1)))
            (two_lt h (word_at A x) (word_at A y) k rs.width ((v.rel x).value k.left.is).sort.width (word_small v x k.left.is) (word_small v y k.right.is)) tt);
        ok = (
          record {
            kind = k.kind;
            sort = sort_ok rs.elem;
            left = word_ok wx;
            right = word_ok wy;
            rule = rw (rs.elem.wide, wx.wide, wy.wide) k.rule;
          },
          tt,
        );
      }

  pub sim_signal : {A B : Frame} {I : List Info} {b : ℕ} (m : Bool) (a : ℕ) → Inv A B I → b ≡ length B.env → OkLine false (ty_at A.lay.ctx) (given A.lay.ctx) (signal m a)
      → Keeps A B I (signal m a) (chunk I b (signal m a))
  sim_signal {A} {B} {I} {b} m a v e k =
      let h = word_of v a k.word in
      let l = signal m (line_at I a) in
      let x = ext_line f σ ι v.even_b l in
      record {
        inv =
            extend f σ ι (signal m a) no_info v x
            (record {
              states = v.alike.states;
              inputs = v.alike.inputs;
              signals = ap suc v.alike.signals;
              sts = v.alike.sts;
              sigs = ap₂ (λ (g : List Signal) (c : ℕ). g ++ (signal_byte m (if_nonzero c 1 0) ∷ [])) v.alike.sigs (word_val h);
            })
            v.many rel_none (λ z. absurd (omega arith)) (same_given f σ ι (signal m a) refl v x.len (gave_same f σ ι B l refl));
        ok = (record { word = word_ok h; bit = h.wide ∙ k.bit }, tt);
      }

  pub sim_output : {A B : Frame} {I : List Info} {b : ℕ} (a : ℕ) → Inv A B I → b ≡ length B.env → OkLine false (ty_at A.lay.ctx) (given A.lay.ctx) (output a)
      → Keeps A B I (output a) (chunk I b (output a))
  sim_output {A} {B} {I} a v e k =
      record {
        inv = extend_quiet f σ ι (output a) no_info tt v (grew_line f σ ι v.even_b (output (line_at I a)) tt) rel_none;
        ok = (word_ok (word_of v a k), tt);
      }
