-- The loop over the lines of a table: its invariant, what each line asks, and what is answered. Assumes nothing.
use Rattle.std.specs.Prelude.{Ok, Err}
use Prim.Native.Nat.{ℕ, ◌+◌, ◌-◌, ◌≤◌, ◌<◌}
use mathlib.Core.Path.{◌≡◌, sym, ap, ◌∙◌, subst, subst⁻¹}
use mathlib.Core.Bool.{true, false}
use mathlib.Core.List.{List, [], ◌∷◌, map}
use native.Mathlib.Omega.{arith}
use native.Mathlib.Decide.{dec_lt}
use lib.ListN.{length, replicate, length-replicate}
use Rattle.tables.specs.declared.Note.{Note}
use Rattle.tables.specs.declared.Refusal.TheVariants.{TargetTooSmall}
use Rattle.tables.specs.Lines.{Line, line_of, words_of, kind_in}
use Rattle.tables.specs.Layout.{held, room, record_at, lines_of}
use Rattle.tables.specs.Types.{rank, ty_at, context}
use Rattle.tables.specs.Model.Notes.{look_in}
use Rattle.tables.specs.Tables.{known}
use Rattle.tables.specs.Answers.{told}
use Rattle.tables.proofs.Encoding.{fits_table}
use Rattle.flattening.specs.declared.Made.{Made}
use Rattle.flattening.specs.Flat.{flatten}
use Rattle.flattening.specs.Answers.{flattens}
use Rattle.flattening.specs.Model.Cells.{nothing, Sound, Low, keep, Written, Shortened}
use Rattle.flattening.specs.Model.Lines.{notes, flat_count}
use Rattle.flattening.specs.Model.Fits.{Deep, Fit, MadeFlat, Shallow}
use Rattle.flattening.specs.Model.Start.{Begun}
use Rattle.flattening.proofs.Placing.{length_flat_filled}
use Rattle.flattening.proofs.Outcomes.{flattens_as}
use Rattle.flattening.proofs.Passing.{line_in, sofar}
use Rattle.flattening.proofs.Depths.{wide_at, flat_at}
use Rattle.flattening.proofs.Pass.{Pass, record_known, record_line, deep, too_many, length_target, fit, made_low, passed, shortened, begun, stopped, stopped_target, done, done_target}

abbrev pub Going : (t : List ℕ) (n : ℕ) (types : List Note) (kept₀ : List (List ℕ)) (target₀ : List ℕ) (i p : ℕ) (kept : List (List ℕ)) (target : List ℕ) (u : ℕ) → Type 0
Going t n types kept₀ target₀ i p kept target u =
    (b : Begun t n types kept₀ target₀) → Pass t n b.accepted types b.iw b.w (length target₀) b.size b.wide i p kept target u

module _ {t : List ℕ} {n : ℕ} {types : List Note} {kept₀ : List (List ℕ)} {target₀ : List ℕ} (b : Begun t n types kept₀ target₀) where
  pub shallow : Shallow types
  shallow = record { deep = λ a. go a (dec_lt 0 (rank (ty_at (context false (lines_of false t n)) a).role)) }
    where
      go : (a : ℕ) → Dec (0 < rank (ty_at (context false (lines_of false t n)) a).role) → (look_in types a).iw ≤ 8
      go a (yes h) = let e = b.iw a in let w = wide_at t n b.accepted a h in omega arith
      go a (no h) = let e = b.iw a in let w = flat_at t n b.accepted a (omega arith) in omega arith

  pub going : Going t n types kept₀ target₀ 0 0 kept₀ target₀ 0
  going q =
      subst⁻¹ (λ (x : List (List ℕ)). Pass t n q.accepted types q.iw q.w (length target₀) q.size q.wide 0 0 x target₀ 0) q.no_kept
      (subst⁻¹ (λ (x : List ℕ). Pass t n q.accepted types q.iw q.w (length target₀) q.size q.wide 0 0 (replicate q.size nothing) x 0) q.empty
      (begun t n q.accepted types q.iw q.w (length target₀) q.size q.wide shallow.deep q.most))

  pub record_fits : (i : ℕ) → i < n → i < held false (length t)
  record_fits i h = let q = (fits_table false t n b.accepted).1 in omega arith

  pub line_fits : (i : ℕ) → i < n → (i + 1 ≤ 16384) × (i + 1 < b.size)
  line_fits i h = let q = (fits_table false t n b.accepted).0 in let w = b.wide in (omega arith, omega arith)

  module _ {i p : ℕ} {kept : List (List ℕ)} {target : List ℕ} {u : ℕ} (g : Going t n types kept₀ target₀ i p kept target u) (h : i < n) (r : List ℕ) (er : r ≡ record_at false t i) where
    S : Pass t n b.accepted types b.iw b.w (length target₀) b.size b.wide i p kept target u
    S = g b

    el : line_of r ≡ line_in (lines_of false t n) i
    el = ap line_of er ∙ record_line t n b.accepted i h

    pub rec_known : known false (kind_in r) ≡ true
    rec_known = subst⁻¹ (λ (x : List ℕ). known false (kind_in x) ≡ true) er (record_known t n b.accepted i h)

    pub rec_deep : Deep (notes kept types) (line_of r)
    rec_deep = subst⁻¹ (λ (l : Line). Deep (notes kept types) l) el (deep t n b.accepted types b.iw b.w (length target₀) b.size b.wide S h)

    count_is : (c : ℕ) → c ≡ flat_count (notes kept types) (line_of r) → c ≡ flat_count (notes kept types) (line_in (lines_of false t n) i)
    count_is c e = e ∙ ap (flat_count (notes kept types)) el

    pub rec_stop : (c m : ℕ) → c ≡ flat_count (notes kept types) (line_of r) → m ≡ room false (length target₀) → m - p < c → room false (length target₀) < length (flatten (lines_of false t n))
    rec_stop c m e f z = too_many t n b.accepted types b.iw b.w (length target₀) b.size b.wide S h (omega (arith, count_is c e))

    fits_in : (c m : ℕ) → c ≡ flat_count (notes kept types) (line_of r) → m ≡ room false (length target₀) → c ≤ m - p → p + flat_count (notes kept types) (line_in (lines_of false t n) i) ≤ room false (length target₀)
    fits_in c m e f z = let q = S.fits in omega (arith, count_is c e, q)

    pub rec_fit : (c m : ℕ) → c ≡ flat_count (notes kept types) (line_of r) → m ≡ room false (length target₀) → c ≤ m - p → Fit (notes kept types) p (line_of r) (length target)
    rec_fit c m e f z =
        subst⁻¹ (λ (l : Line). Fit (notes kept types) p l (length target)) el (fit t n b.accepted types b.iw b.w (length target₀) b.size b.wide S h (fits_in c m e f z))

  -- one line more
  pub rec_next : {i p : ℕ} {kept : List (List ℕ)} {target : List ℕ} {u : ℕ} → Going t n types kept₀ target₀ i p kept target u → (h : i < n) (r : List ℕ) → r ≡ record_at false t i → (c m : ℕ)
      → c ≡ flat_count (notes kept types) (line_of r) → m ≡ room false (length target₀) → c ≤ m - p → (d : Made) {target₁ : List ℕ} → MadeFlat (notes kept types) p (line_of r) target target₁ d
      → Going t n types kept₀ target₀ (i + 1) d.next (keep kept (i + 1) d) target₁ u
  rec_next {i} {p} {kept} {target} {u} g h r er c m e f z d {target₁} w q =
      let s = g q in
      let el = ap line_of er ∙ record_line t n q.accepted i h in
      let e₁ : c ≡ flat_count (notes kept types) (line_in (lines_of false t n) i) = e ∙ ap (flat_count (notes kept types)) el in
      let fi = s.fits in
      passed t n q.accepted types q.iw q.w (length target₀) q.size q.wide s h (omega arith) (i + 1) d (omega arith) (subst (λ (l : Line). MadeFlat (notes kept types) p l target target₁ d) el w)

  -- what is kept of the line is small
  pub rec_low : {i p : ℕ} {kept : List (List ℕ)} {target : List ℕ} {u : ℕ} → Going t n types kept₀ target₀ i p kept target u → (h : i < n) (r : List ℕ) → r ≡ record_at false t i → (c m : ℕ)
      → c ≡ flat_count (notes kept types) (line_of r) → m ≡ room false (length target₀) → c ≤ m - p → (d : Made) {target₁ : List ℕ} → MadeFlat (notes kept types) p (line_of r) target target₁ d → Low d
  rec_low {i} {p} {kept} {target} {u} g h r er c m e f z d {target₁} w =
      let s = g b in
      let el = ap line_of er ∙ record_line t n b.accepted i h in
      let e₁ : c ≡ flat_count (notes kept types) (line_in (lines_of false t n) i) = e ∙ ap (flat_count (notes kept types)) el in
      let fi = s.fits in
      made_low t n b.accepted types b.iw b.w (length target₀) b.size b.wide s h (omega arith) d (subst (λ (l : Line). MadeFlat (notes kept types) p l target target₁ d) el w)

  -- where cells are held
  pub rec_ready : {i p : ℕ} {kept : List (List ℕ)} {target : List ℕ} {u : ℕ} → Going t n types kept₀ target₀ i p kept target u → Sound kept × Written kept u
  rec_ready g = ((g b).neat.sound, (g b).written)

  -- the same in a list with shorter look-ups
  pub rec_short : {i p : ℕ} {kept kept₁ : List (List ℕ)} {target : List ℕ} {u u₁ : ℕ} → Going t n types kept₀ target₀ i p kept target u → Shortened kept kept₁ u₁ → Going t n types kept₀ target₀ i p kept₁ target u₁
  rec_short g e q = shortened t n q.accepted types q.iw q.w (length target₀) q.size q.wide (g q) e

  -- a line that has no room ends the pass
  pub rec_stopped : {i p : ℕ} {kept : List (List ℕ)} {target target₁ : List ℕ} {u : ℕ} → Going t n types kept₀ target₀ i p kept target u → (h : i < n) (r : List ℕ) → r ≡ record_at false t i → (c m : ℕ)
      → c ≡ flat_count (notes kept types) (line_of r) → m ≡ room false (length target₀) → m - p < c → target₁ ≡ replicate (length target) 0
      → told (Err TargetTooSmall) (target₁ ∷ []) ≡ flattens t n (length target₀)
  rec_stopped {target = target} g h r er c m e f z k =
      let y = rec_stop g h r er c m e f z in
      let l = length_target t n b.accepted types b.iw b.w (length target₀) b.size b.wide (g b) h in
      flattens_as t n (length target₀) (stopped t n b.accepted types b.iw b.w (length target₀) b.size b.wide b.even y)
      (k ∙ ap (λ (x : ℕ). replicate x 0) l ∙ stopped_target t n b.accepted types b.iw b.w (length target₀) b.size b.wide b.even y)

  -- all lines are made flat
  pub rec_done : {i p : ℕ} {kept : List (List ℕ)} {target : List ℕ} {u : ℕ} → Going t n types kept₀ target₀ i p kept target u → n ≤ i
      → told (Ok p) (target ∷ []) ≡ flattens t n (length target₀)
  rec_done {i} {p} {kept} {target} {u} g h =
      let e : i ≡ n = omega (arith, (g b).upto) in
      let s = subst (λ (x : ℕ). Pass t n b.accepted types b.iw b.w (length target₀) b.size b.wide x p kept target u) e (g b) in
      flattens_as t n (length target₀) (done t n b.accepted types b.iw b.w (length target₀) b.size b.wide b.even s)
      (done_target t n b.accepted types b.iw b.w (length target₀) b.size b.wide b.even s)

  -- the lists keep their lengths
  module _ {i p : ℕ} {kept : List (List ℕ)} {target : List ℕ} {u : ℕ} (g : Going t n types kept₀ target₀ i p kept target u) where
    pub same_kept : length kept ≡ length kept₀
    same_kept = (g b).of_kept ∙ sym (ap length b.no_kept ∙ length-replicate b.size nothing)

    pub same_target : length target ≡ length target₀
    same_target =
        ap length (g b).records ∙ length_flat_filled (length target₀) (map words_of (sofar (lines_of false t n) i).lines)
