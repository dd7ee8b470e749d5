-- The flat lines of a line have the sources of its state words: a state of many cells leaves as many states, each of them free just where it is. Assumes nothing.
use Prim.Native.Nat.{ℕ, zero, suc, ◌+◌, ◌<◌}
use mathlib.Core.Path.{◌≡◌, refl, sym, ap, ap₂, ◌∙◌, subst⁻¹}
use mathlib.Core.Bool.{Bool, false}
use mathlib.Core.List.{List, [], ◌∷◌, ◌++◌}
use native.Mathlib.Omega.{arith}
use lib.ListN.{length, get_or, replicate, get_or-append}
use lib.Seq.{get_or_at}
use Rattle.tables.specs.declared.Ty.{Ty}
use Rattle.tables.specs.Lines.{Line, state}
use Rattle.tables.specs.Types.{rank, ty_at, given}
use Rattle.tables.proofs.Facts.{OkLine}
use Rattle.tables.proofs.Ids.{from_at, length_from}
use Rattle.circuits.specs.Layout.{Layout, type_at}
use Rattle.circuits.specs.Meaning.{Frame}
use Rattle.circuits.specs.Free.{Source, source_of, sources_here, sources_from}
use Rattle.circuits.proofs.Sources.{sources_none}
use Rattle.flattening.specs.Flat.{Info, no_info, info_at, Chunk, chunk}
use Rattle.flattening.proofs.Walk.{Even, SortAt, sort_ext, ev1, evs, evs_lay, len1, ext_line, ext_all, new_type, length_snoc}
use Rattle.flattening.proofs.Rel.{Inv}
use Rattle.flattening.proofs.SimWords.{Keeps}

-- ---- what is kept of each line at the end

abbrev pub infos_from : List Info → ℕ → List Line → List Info
infos_from I b [] = I
infos_from I b (l ∷ ls) = infos_from (I ++ ((chunk I b l).info ∷ [])) (b + length (chunk I b l).lines) ls

abbrev pub infos : List Line → List Info
infos C = infos_from (no_info ∷ []) 1 C

infos_kept : (I : List Info) (b : ℕ) (ls : List Line) (i : ℕ) → i < length I → info_at (infos_from I b ls) i ≡ info_at I i
infos_kept I b [] i h = refl
infos_kept I b (l ∷ ls) i h =
    let g = (chunk I b l).info in
    infos_kept (I ++ (g ∷ [])) (b + length (chunk I b l).lines) ls i (omega (arith, length_snoc I g)) ∙ get_or-append I (g ∷ []) no_info i h

module _ (f : Bool) (σ ι : List ℕ) where
  -- states of one word, from the line b on, all driven or all free
  states_sources : (h : ℕ → Bool) (d : Bool) {A : Frame} {b s w : ℕ} (n : ℕ) → Even A → b ≡ length A.env → SortAt A s w → ((j : ℕ) → j < n → h (b + j) ≡ d)
      → sources_from false h A.lay (replicate n (state s)) ≡ replicate n (source_of d w)
  states_sources h d zero ev e hs k = refl
  states_sources h d {A} {b} {s} {w} (suc n) ev e hs k =
      let y = ext_line f σ ι ev (state s) in
      let here : h (length A.lay.places) ≡ d = ap h (ev.places ∙ sym e ∙ omega arith) ∙ k 0 (omega arith) in
      let one : sources_here false h A.lay (state s) ≡ source_of d w ∷ [] = rw (hs.flat, hs.wide, here) refl in
      ap₂ (λ (xs ys : List Source). xs ++ ys) one
      (states_sources h d {A = ev1 f σ ι A (state s)} {b = suc b} n y.even (ap suc e ∙ sym (len1 f σ ι A (state s))) (sort_ext y hs) (λ j l. ap h (omega arith) ∙ k (suc j) (omega arith)))

  -- the state on the line that is next, where v holds: each of its cells has a next at the end, where z holds, just where it has one
  at_end : {A B Z : Frame} {I : List Info} {b : ℕ} (s : ℕ) (ls : List Line) → Inv A B I → b ≡ length B.env → Inv (evs f σ ι A (state s ∷ ls)) Z (infos_from I b (state s ∷ ls))
      → (j : ℕ) → j < (info_at I s).size → given Z.lay.ctx false (b + j) ≡ given (evs f σ ι A (state s ∷ ls)).lay.ctx false (length A.env)
  at_end {A} {Z = Z} {I} {b} s ls v e z j h =
      let n = length A.env in
      let m = (info_at I s).size in
      let c = chunk I b (state s) in
      let J = I ++ (c.info ∷ []) in
      let cells = ap (λ (g : Info). g.cells) (infos_kept J (b + length c.lines) ls n (omega (arith, length_snoc I c.info, v.len_i)) ∙ get_or_at I c.info [] no_info n v.len_i) in
      let is = ap (λ (t : Ty). rank t.role) ((ext_all f σ ι (ext_line f σ ι v.even_a (state s)).even ls).type n (omega (arith, len1 f σ ι A (state s))) ∙ new_type f σ ι v.even_a (state s) n refl) in
      ap (given Z.lay.ctx false) (sym (ap (λ (ps : List ℕ). get_or ps j 0) cells ∙ from_at b m j h)) ∙ z.same false n is j (subst⁻¹ (λ (x : ℕ). j < x) (ap length cells ∙ length_from b m) h)

  -- lines that add no state words
  no_sources : {A B : Frame} {I : List Info} {l : Line} {c : Chunk} (h : ℕ → Bool) → Inv A B I → Keeps f σ ι A B I l c → (ev1 f σ ι A l).lay.counts.states ≡ A.lay.counts.states
      → sources_from false h B.lay c.lines ≡ []
  no_sources {B = B} {c = c} h v k e =
      sources_none false h B.lay c.lines (ap (λ (Y : Layout). Y.counts.states) (sym (evs_lay f σ ι B c.lines)) ∙ k.inv.alike.states ∙ e ∙ sym v.alike.states)

  -- any line
  pub line_sources : {A B Z : Frame} {I : List Info} {b : ℕ} (l : Line) (ls : List Line) → Inv A B I → b ≡ length B.env → OkLine false (ty_at A.lay.ctx) (given A.lay.ctx) l
      → Keeps f σ ι A B I l (chunk I b l) → Inv (evs f σ ι A (l ∷ ls)) Z (infos_from I b (l ∷ ls))
      → sources_from false (given Z.lay.ctx false) B.lay (chunk I b l).lines ≡ sources_here false (given (evs f σ ι A (l ∷ ls)).lay.ctx false) A.lay l
  line_sources {A} {Z = Z} {I} (Line.state s) ls v e ok k z =
      let rs = (v.rel s).sort ok.is in
      let d = given (evs f σ ι A (state s ∷ ls)).lay.ctx false in
      states_sources (given Z.lay.ctx false) (d (length A.env)) (info_at I s).size v.even_b e rs.elem (at_end s ls v e z)
      ∙ ap₂ (λ (x y : ℕ). replicate x (source_of (d y) (type_at A.lay s).w)) rs.size (sym v.even_a.places)
  line_sources (Line.bitvec w) ls v e ok k z = refl
  line_sources {Z = Z} (Line.array i x) ls v e ok k z = no_sources (given Z.lay.ctx false) v k refl
  line_sources (Line.input s) ls v e ok k z = refl
  line_sources {Z = Z} (Line.value s x) ls v e ok k z = no_sources (given Z.lay.ctx false) v k refl
  line_sources {Z = Z} (Line.init_or_next m s q x) ls v e ok k z = no_sources (given Z.lay.ctx false) v k refl
  line_sources (Line.signal m x) ls v e ok k z = refl
  line_sources (Line.output x) ls v e ok k z = refl
  line_sources Line.unknown ls v e ok k z = refl
