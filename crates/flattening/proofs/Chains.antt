-- The flat lines that one line leaves, evaluated. `Run A ls u w ps cs`: the lines ls are quiet and keep the rules, and after them the lines ps are words of width w and of
-- values cs; `Ends A ls u p w v` says it of one line. Assumes nothing.
use Prim.Native.Nat.{ℕ, zero, suc, ◌+◌, ◌*◌, ◌^◌, ◌≤◌, ◌<◌}
use mathlib.Core.Path.{◌≡◌, refl, sym, ap, ◌∙◌, subst}
use mathlib.Core.Logic.{inl}
use mathlib.Core.Bool.{Bool, true, false, ◌||◌}
use mathlib.Core.List.{List, [], ◌∷◌}
use native.Mathlib.Omega.{arith}
use lib.Dec.{T}
use lib.ListN.{length, get_or}
use Rattle.words.specs.Word.{bit}
use Rattle.words.specs.Op.{op_of}
use Rattle.words.specs.Circuit.{circ}
use Rattle.tables.specs.Lines.{Line, value, const, binary, equality, ite}
use Rattle.tables.specs.Types.{marked, given}
use Rattle.tables.specs.Rules.{fits_binary}
use Rattle.tables.proofs.Facts.{AllOk, OkLine}
use Rattle.tables.specs.Types.{ty_at}
use Rattle.tables.specs.Layout.{from}
use Rattle.circuits.specs.Cells.{if_nonzero, eq_or_neq, same_cells}
use Rattle.circuits.specs.Layout.{type_at}
use Rattle.circuits.specs.Meaning.{Frame}
use Rattle.flattening.specs.Flat.{const_lines, ite_lines, equality_lines, join_kind, join_lines, write_lines, write_cells, read_chain}
use Rattle.flattening.proofs.Walk.{unmarked_both, Even, Ext, ext_trans, SortAt, Word, Holds, none, more, holds_at, sort_ext, word_ext, sort_ok, word_ok, Grew, grew_refl, grew_trans, quiet, Small, ev1, evs, len1, ext_line, new_val, grew_line}

-- ---- what the chains compute

-- the cells of an ite, cell by cell
abbrev pub chooses : ℕ → (xs ys : List ℕ) → List ℕ
chooses c [] ys = []
chooses c (x ∷ xs) [] = []
chooses c (x ∷ xs) (y ∷ ys) = if_nonzero c x y ∷ chooses c xs ys

-- is the index i the constant k
abbrev pub hit : ℕ → ℕ → ℕ
hit i k = bit (eq_or_neq true (same_cells (i ∷ []) (k ∷ [])))

abbrev pub writes : ℕ → List ℕ → ℕ → List ℕ → List ℕ
writes i [] v cs = []
writes i (k ∷ ks) v [] = []
writes i (k ∷ ks) v (c ∷ cs) = if_nonzero (hit i k) v c ∷ writes i ks v cs

-- v so far, and the cells below k left
abbrev pub picks : ℕ → (ks cs : List ℕ) → (v k : ℕ) → ℕ
picks i ks cs v zero = v
picks i ks cs v (suc k) = picks i ks cs (if_nonzero (hit i (get_or ks k 0)) (get_or cs k 0) v) k

abbrev pub equality_values : Bool → List ℕ → List ℕ → List ℕ
equality_values e [] ys = []
equality_values e (x ∷ xs) [] = []
equality_values e (x ∷ xs) (y ∷ ys) = bit (eq_or_neq e (same_cells (x ∷ []) (y ∷ []))) ∷ equality_values e xs ys

abbrev pub join_value : Bool → ℕ → ℕ → ℕ
join_value e v x = circ (op_of (join_kind e)) 1 1 v x 0

abbrev pub join_vals : Bool → ℕ → List ℕ → ℕ
join_vals e v [] = v
join_vals e v (x ∷ xs) = join_vals e (join_value e v x) xs

join_least : (t : Bool) → 23 ≤ join_kind t
join_least true = omega arith
join_least false = omega arith

join_most : (t : Bool) → join_kind t ≤ 52
join_most true = omega arith
join_most false = omega arith

join_rule : (t : Bool) → fits_binary (join_kind t) 1 1 1 ≡ true
join_rule true = refl
join_rule false = refl

-- the last of m lines from b on, or r where there are none
abbrev pub last_line : (r b m : ℕ) → ℕ
last_line r b zero = r
last_line r b (suc m) = b + m

last_next : (r b m : ℕ) → last_line b (suc b) m ≡ last_line r b (suc m)
last_next r b zero = omega arith
last_next r b (suc m) = omega arith

last_two : (r b k : ℕ) → last_line (suc b) (suc (suc b)) (2 * k) ≡ last_line r b (2 * suc k)
last_two r b k = let e : suc (suc (2 * k)) ≡ 2 * suc k = omega arith in last_next b (suc b) (2 * k) ∙ last_next r b (suc (2 * k)) ∙ ap (last_line r b) e

-- one cell chosen, and the list of it
choose_one : (d x y : ℕ) → if_nonzero d (x ∷ []) (y ∷ []) ≡ if_nonzero d x y ∷ []
choose_one zero x y = refl
choose_one (suc d) x y = refl

module _ (f : Bool) (σ ι : List ℕ) where
  -- after the lines ls, which keep the rules and are quiet, the lines ps are words of width w, of values cs
  pub record Run (A : Frame) (ls : List Line) (u : Bool) (w : ℕ) (ps cs : List ℕ) : Type 0 where
    pub grew : Grew A (evs f σ ι A ls)
    pub holds : Holds (evs f σ ι A ls) u w ps cs
    pub ok : AllOk false A.lay.ctx ls

  pub record Ends (A : Frame) (ls : List Line) (u : Bool) (p w v : ℕ) : Type 0 where
    pub grew : Grew A (evs f σ ι A ls)
    pub word : Word (evs f σ ι A ls) u p w v
    pub ok : AllOk false A.lay.ctx ls

  run_none : {u : Bool} {A : Frame} {w : ℕ} → Even A → Run A [] u w [] []
  run_none ev = record { grew = grew_refl ev; holds = none; ok = tt }

  -- a line that stands for a cell, and a line that does not
  run_cell : {u : Bool} {A : Frame} {ls : List Line} {b w v : ℕ} {ps cs : List ℕ} (l : Line) → Even A → T (quiet l) → OkLine false (ty_at A.lay.ctx) (given A.lay.ctx) l → Word (ev1 f σ ι A l) u b w v → Run (ev1 f σ ι A l) ls u w ps cs
      → Run A (l ∷ ls) u w (b ∷ ps) (v ∷ cs)
  run_cell l ev q k h r =
      record { grew = grew_trans (grew_line f σ ι ev l q) r.grew; holds = more (word_ext r.grew.ext h) r.holds; ok = (k, r.ok) }

  run_skip : {u : Bool} {A : Frame} {ls : List Line} {w : ℕ} {ps cs : List ℕ} (l : Line) → Even A → T (quiet l) → OkLine false (ty_at A.lay.ctx) (given A.lay.ctx) l → Run (ev1 f σ ι A l) ls u w ps cs → Run A (l ∷ ls) u w ps cs
  run_skip l ev q k r = record { grew = grew_trans (grew_line f σ ι ev l q) r.grew; holds = r.holds; ok = (k, r.ok) }

  -- the same line, whatever its number is called
  word_as : {A : Frame} {u : Bool} {p q w v : ℕ} → p ≡ q → Word A u p w v → Word A u q w v
  word_as {A} {u} {w = w} {v} e h = subst (λ (x : ℕ). Word A u x w v) e h

  next_base : {A : Frame} {b : ℕ} (l : Line) → Even A → b ≡ length A.env → suc b ≡ length (ev1 f σ ι A l).env
  next_base {A} l ev e = ap suc e ∙ sym (len1 f σ ι A l)

  -- ---- one line: its value, and that it keeps the rules

  ite_word : {u : Bool} {A : Frame} {b s c p q w d x y : ℕ} → Even A → b ≡ length A.env → SortAt A s w → Word A u c 1 d → Word A u p w x → Word A u q w y
      → Word (ev1 f σ ι A (value s (ite c p q))) u b w (if_nonzero d x y)
  ite_word {A = A} {s = s} {c} {p} {q} {d = d} {x} {y} ev e hs hc hp hq =
      let xc = marked (type_at A.lay c) in
      let xp = marked (type_at A.lay p) in
      let xq = marked (type_at A.lay q) in
      new_val f σ ι (xc || (xp || xq)) ev (value s (ite c p q)) e hs refl (rw (hc.cells, hp.cells, hq.cells) (choose_one d x y))
      (λ z. unmarked_both xc (xp || xq) (hc.unmarked z) (unmarked_both xp xq (hp.unmarked z) (hq.unmarked z)))

  ite_ok : {u : Bool} {A : Frame} {s c p q w d x y : ℕ} → SortAt A s w → Word A u c 1 d → Word A u p w x → Word A u q w y
      → OkLine false (ty_at A.lay.ctx) (given A.lay.ctx) (value s (ite c p q))
  ite_ok hs hc hp hq =
      record {
        sort = record { is = hs.is };
        cond = word_ok hc;
        bit = hc.wide;
        left = record { is = hp.is };
        right = record { is = hq.is };
        same_a = record { iw = hp.flat ∙ sym hs.flat; w = hp.wide ∙ sym hs.wide };
        same_b = record { iw = hq.flat ∙ sym hs.flat; w = hq.wide ∙ sym hs.wide };
      }

  equality_word : {u : Bool} {A : Frame} {b s p q w x y : ℕ} (t : Bool) → Even A → b ≡ length A.env → SortAt A s 1 → Word A u p w x → Word A u q w y
      → Word (ev1 f σ ι A (value s (equality t p q))) u b 1 (bit (eq_or_neq t (same_cells (x ∷ []) (y ∷ []))))
  equality_word {A = A} {s = s} {p} {q} t ev e hs hp hq =
      let xp = marked (type_at A.lay p) in
      let xq = marked (type_at A.lay q) in
      new_val f σ ι (xp || xq) ev (value s (equality t p q)) e hs refl (rw (hp.cells, hq.cells)) (λ z. unmarked_both xp xq (hp.unmarked z) (hq.unmarked z))

  equality_ok : {u : Bool} {A : Frame} {s p q w x y : ℕ} (t : Bool) → SortAt A s 1 → Word A u p w x → Word A u q w y
      → OkLine false (ty_at A.lay.ctx) (given A.lay.ctx) (value s (equality t p q))
  equality_ok t hs hp hq =
      record {
        sort = sort_ok hs;
        bit = hs.wide;
        left = record { is = hp.is };
        right = record { is = hq.is };
        same = record { iw = hq.flat ∙ sym hp.flat; w = hq.wide ∙ sym hp.wide };
      }

  join_word : {u : Bool} {A : Frame} {b s p q x y : ℕ} (t : Bool) → Even A → b ≡ length A.env → SortAt A s 1 → Word A u p 1 x → Word A u q 1 y
      → Word (ev1 f σ ι A (value s (binary (join_kind t) p q))) u b 1 (join_value t x y)
  join_word {A = A} {s = s} {p} {q} t ev e hs hp hq =
      let xp = marked (type_at A.lay p) in
      let xq = marked (type_at A.lay q) in
      new_val f σ ι (xp || xq) ev (value s (binary (join_kind t) p q)) e hs refl (rw (hp.cells, hq.cells, hp.wide, hq.wide)) (λ z. unmarked_both xp xq (hp.unmarked z) (hq.unmarked z))

  join_ok : {u : Bool} {A : Frame} {s p q x y : ℕ} (t : Bool) → SortAt A s 1 → Word A u p 1 x → Word A u q 1 y
      → OkLine false (ty_at A.lay.ctx) (given A.lay.ctx) (value s (binary (join_kind t) p q))
  join_ok t hs hp hq =
      record {
        kind = inl (join_least t, join_most t);
        sort = sort_ok hs;
        left = word_ok hp;
        right = word_ok hq;
        rule = rw (hs.wide, hp.wide, hq.wide) (join_rule t);
      }

  const_word : {u : Bool} {A : Frame} {b s w k : ℕ} → Even A → b ≡ length A.env → SortAt A s w → Word (ev1 f σ ι A (value s (const k))) u b w k
  const_word {s = s} {k = k} ev e hs = new_val f σ ι false ev (value s (const k)) e hs refl refl (λ z. tt)

  const_ok : {A : Frame} {s w k : ℕ} → SortAt A s w → k < 2 ^ w → OkLine false (ty_at A.lay.ctx) (given A.lay.ctx) (value s (const k))
  const_ok hs h = record { sort = sort_ok hs; fits = rw hs.wide h }

  -- ---- the chains. What they rest on is known of O, and stays so: A is O after the lines so far

  pub run_consts : {u : Bool} {O A : Frame} {b s w : ℕ} → Ext O A → b ≡ length A.env → SortAt O s w → (ks : List ℕ) → Small w ks
      → Run A (const_lines s ks) u w (from b (length ks)) ks
  run_consts x e hs [] sm = run_none x.even
  run_consts {A = A} {s = s} x e hs (k ∷ ks) sm =
      let l = value s (const k) in
      let y = ext_line f σ ι x.even l in
      run_cell l x.even tt (const_ok (sort_ext x hs) sm.0) (const_word x.even e (sort_ext x hs)) (run_consts {A = ev1 f σ ι A l} (ext_trans x y) (next_base l x.even e) hs ks sm.1)

  pub run_ites : {u : Bool} {O : Frame} {w : ℕ} {A : Frame} {b s c d : ℕ} {ps qs xs ys : List ℕ} → Ext O A → b ≡ length A.env → SortAt O s w → Word O u c 1 d → Holds O u w ps xs → Holds O u w qs ys
      → length xs ≡ length ys → Run A (ite_lines s c ps qs) u w (from b (length ps)) (chooses d xs ys)
  run_ites x e hs hc none hq n = run_none x.even
  run_ites x e hs hc (more hp ps) none n = absurd (omega arith)
  run_ites {A = A} {s = s} {c = c} x e hs hc (more {p = p} hp ps) (more {p = q} hq qs) n =
      let l = value s (ite c p q) in
      let y = ext_line f σ ι x.even l in
      run_cell l x.even tt (ite_ok (sort_ext x hs) (word_ext x hc) (word_ext x hp) (word_ext x hq)) (ite_word x.even e (sort_ext x hs) (word_ext x hc) (word_ext x hp) (word_ext x hq))
      (run_ites {A = ev1 f σ ι A l} (ext_trans x y) (next_base l x.even e) hs hc ps qs (omega arith))

  pub run_cmps : {u : Bool} {O : Frame} {w : ℕ} {A : Frame} {b s : ℕ} {ps qs xs ys : List ℕ} (t : Bool) → Ext O A → b ≡ length A.env → SortAt O s 1 → Holds O u w ps xs → Holds O u w qs ys
      → length xs ≡ length ys → Run A (equality_lines t s ps qs) u 1 (from b (length ps)) (equality_values t xs ys)
  run_cmps t x e hs none hq n = run_none x.even
  run_cmps t x e hs (more hp ps) none n = absurd (omega arith)
  run_cmps {A = A} {s = s} t x e hs (more {p = p} hp ps) (more {p = q} hq qs) n =
      let l = value s (equality t p q) in
      let y = ext_line f σ ι x.even l in
      run_cell l x.even tt (equality_ok t (sort_ext x hs) (word_ext x hp) (word_ext x hq)) (equality_word t x.even e (sort_ext x hs) (word_ext x hp) (word_ext x hq))
      (run_cmps {A = ev1 f σ ι A l} t (ext_trans x y) (next_base l x.even e) hs ps qs (omega arith))

  pub run_joins : {u : Bool} {O A : Frame} {b s r v : ℕ} {ps xs : List ℕ} (t : Bool) → Ext O A → b ≡ length A.env → SortAt O s 1 → Word A u r 1 v → Holds O u 1 ps xs
      → Ends A (join_lines t s r b ps) u (last_line r b (length ps)) 1 (join_vals t v xs)
  run_joins t x e hs hr none = record { grew = grew_refl x.even; word = hr; ok = tt }
  run_joins {A = A} {b = b} {s = s} {r = r} t x e hs hr (more {p = p} {ps = qs} hp ps) =
      let l = value s (binary (join_kind t) r p) in
      let y = ext_line f σ ι x.even l in
      let z = run_joins {A = ev1 f σ ι A l} t (ext_trans x y) (next_base l x.even e) hs (join_word t x.even e (sort_ext x hs) hr (word_ext x hp)) ps in
      record { grew = grew_trans (grew_line f σ ι x.even l tt) z.grew; word = word_as (last_next r b (length qs)) z.word; ok = (join_ok t (sort_ext x hs) hr (word_ext x hp), z.ok) }

  pub run_writes : {u : Bool} {O : Frame} {w iw : ℕ} {A : Frame} {b one s i v iv vv : ℕ} {ks ps kvs xs : List ℕ} → Ext O A → b ≡ length A.env → SortAt O one 1 → SortAt O s w
      → Word O u i iw iv → Word O u v w vv → Holds O u iw ks kvs → Holds O u w ps xs
      → length kvs ≡ length xs → Run A (write_lines one s i v b ks ps) u w (write_cells b (length ps)) (writes iv kvs vv xs)
  run_writes x e ho hs hi hv none none n = run_none x.even
  run_writes x e ho hs hi hv none (more hp ps) n = absurd (omega arith)
  run_writes x e ho hs hi hv (more hk ks) none n = absurd (omega arith)
  run_writes {A = A} {b} {one} {s} {i} {v} x e ho hs hi hv (more {p = k} hk ks) (more {p = p} hp ps) n =
      let l = value one (equality true i k) in
      let m = value s (ite b v p) in
      let y = ext_line f σ ι x.even l in
      let xy = ext_trans x y in
      let e' = next_base l x.even e in
      let z = ext_line f σ ι y.even m in
      let hb = equality_word true x.even e (sort_ext x ho) (word_ext x hi) (word_ext x hk) in
      run_skip l x.even tt (equality_ok true (sort_ext x ho) (word_ext x hi) (word_ext x hk))
      (run_cell m y.even tt (ite_ok (sort_ext xy hs) hb (word_ext xy hv) (word_ext xy hp)) (ite_word y.even e' (sort_ext xy hs) hb (word_ext xy hv) (word_ext xy hp))
      (run_writes {A = ev1 f σ ι (ev1 f σ ι A l) m} (ext_trans xy z) (next_base m y.even e') ho hs hi hv ks ps (omega arith)))

  -- r is the line of the value so far, and the cells below k are left
  pub run_reads : {u : Bool} {O A : Frame} {b one s i r w iw iv v : ℕ} {ks ps kvs xs : List ℕ} → Ext O A → b ≡ length A.env → SortAt O one 1 → SortAt O s w → Word O u i iw iv
      → Holds O u iw ks kvs → Holds O u w ps xs → Word A u r w v → (k : ℕ) → k ≤ length kvs → k ≤ length xs
      → Ends A (read_chain one s i ks ps r b k) u (last_line r b (2 * k)) w (picks iv kvs xs v k)
  run_reads x e ho hs hi hk hp hr zero n m = record { grew = grew_refl x.even; word = hr; ok = tt }
  run_reads {A = A} {b} {one} {s} {i} {r} {ks = ks} {ps} x e ho hs hi hk hp hr (suc k) n m =
      let wk = holds_at k hk n in
      let wp = holds_at k hp m in
      let l = value one (equality true i (get_or ks k 0)) in
      let j = value s (ite b (get_or ps k 0) r) in
      let y = ext_line f σ ι x.even l in
      let xy = ext_trans x y in
      let e' = next_base l x.even e in
      let z = ext_line f σ ι y.even j in
      let hb = equality_word true x.even e (sort_ext x ho) (word_ext x hi) (word_ext x wk) in
      let hv = ite_word y.even e' (sort_ext xy hs) hb (word_ext xy wp) (word_ext y hr) in
      let t = run_reads {A = ev1 f σ ι (ev1 f σ ι A l) j} (ext_trans xy z) (next_base j y.even e') ho hs hi hk hp hv k (omega arith) (omega arith) in
      record {
        grew = grew_trans (grew_line f σ ι x.even l tt) (grew_trans (grew_line f σ ι y.even j tt) t.grew);
        word = word_as (last_two r b k) t.word;
        ok = (equality_ok true (sort_ext x ho) (word_ext x hi) (word_ext x wk), (ite_ok (sort_ext xy hs) hb (word_ext xy wp) (word_ext y hr), t.ok));
      }
