-- The steps of a run, one after the other: what the first ones have put to the signal bytes, and the law that the signals of a run are those of its steps. Assumes nothing.
use Prim.Native.Nat.{ℕ, suc, ◌+◌, ◌-◌, ◌*◌, ◌≤◌, ◌<◌}
use mathlib.Core.Path.{◌≡◌, refl, sym, ap, ap₂, ◌∙◌}
use mathlib.Core.Bool.{Bool, true, false}
use mathlib.Core.List.{List, [], ◌∷◌, ◌++◌, map, map-append, append-nil, append_assoc}
use native.Mathlib.Omega.{arith}
use native.Mathlib.Numerals.{add-one}
use native.Mathlib.Nat.{suc-mul, zero-mul, zero-add, mul_comm, mul-le-mul_left}
use lib.ListN.{length, take, drop, get_or, length-append, get_or-map}
use lib.Seq.{take_all, length-take-le, take_at}
use Rattle.tables.specs.Lines.{Line}
use Rattle.tables.specs.Layout.{from}
use Rattle.tables.proofs.Ids.{from_append, from_at, length_from}
use Rattle.circuits.specs.Meaning.{Signal, step}
use Rattle.circuits.specs.Run.{input_count, inputs_at, free_at, start, entered, step_from, words_before, steps, run, step_at, bytes_of, bytes}
use Rattle.circuits.specs.Model.Places.{Ready}

-- ---- rows and bytes of a step, in lists of k of them

pub next_row : (i n : ℕ) → (i + 1) * n ≡ i * n + n
next_row i n = ap (λ (m : ℕ). m * n) (add-one i) ∙ suc-mul i n

pub within : (k i n : ℕ) → i < k → i * n + n ≤ k * n
within k i n h = let e : n * (i + 1) ≤ n * k = mul-le-mul_left n (omega arith) in omega (arith, next_row i n, mul_comm n (i + 1), mul_comm n k)

pub fewer : (k i n : ℕ) → i < k → (k - i) * n ≡ (k - (i + 1)) * n + n
fewer k i n h =
    let e : k - i ≡ suc (k - (i + 1)) = omega arith in
    ap (λ (m : ℕ). m * n) e ∙ suc-mul (k - (i + 1)) n

pub once : (k n : ℕ) → 0 < k → n ≤ k * n
once k n h = omega (arith, within k 0 n h, zero-mul n)

pub ready_as : {p : Bool} {P : List (List ℕ)} {t : List ℕ} {n all words words' ins ins' sigs sigs' : ℕ} → words ≡ words' → ins ≡ ins' → sigs ≡ sigs'
    → Ready p t n P all words ins sigs → Ready p t n P all words' ins' sigs'
ready_as e₁ e₂ e₃ r =
    record {
      accepted = r.accepted;
      shows = r.shows;
      cells = r.cells;
      states = r.states ∙ e₁;
      inputs = r.inputs ∙ e₂;
      signals = r.signals ∙ e₃;
    }

-- ---- one step more

bytes_append : (gs hs : List (List Signal)) → bytes (gs ++ hs) ≡ bytes gs ++ bytes hs
bytes_append [] hs = refl
bytes_append (g ∷ gs) hs = ap (λ (x : List ℕ). bytes_of g ++ x) (bytes_append gs hs) ∙ sym (append_assoc (bytes_of g) (bytes gs) (bytes hs))

map_many : (f : ℕ → List Signal) (ts : List ℕ) → length (map f ts) ≡ length ts
map_many f [] = refl
map_many f (t ∷ ts) = ap suc (map_many f ts)

module _ (p : Bool) (C : List Line) where
  pub steps_many : (k : ℕ) (σ I : List ℕ) → length (steps p C k σ I) ≡ k
  unfolding steps
  steps_many k σ I = map_many (λ (t : ℕ). (step_from p C I t (words_before p C I σ t)).sigs) (from 0 k) ∙ length_from 0 k

  pub steps_more : (i : ℕ) (σ I : List ℕ) → steps p C (i + 1) σ I ≡ steps p C i σ I ++ ((step_from p C I i (words_before p C I σ i)).sigs ∷ [])
  unfolding steps
  steps_more i σ I =
      ap (map (λ (t : ℕ). (step_from p C I t (words_before p C I σ t)).sigs)) (from_append 0 i 1 ∙ ap (λ (j : ℕ). from 0 i ++ (j ∷ [])) (zero-add i))
      ∙ map-append (λ (t : ℕ). (step_from p C I t (words_before p C I σ t)).sigs) (from 0 i) (i ∷ [])

  -- the signal bytes g₀ hold those of the first i steps, and then q, those of the step i, behind them
  pub bytes_more : (sigs i : ℕ) (σ I g₀ q : List ℕ) (g : ℕ) → g + sigs ≤ length g₀ → length q ≡ sigs → take g g₀ ≡ bytes (steps p C i σ I)
      → q ≡ bytes_of (step_from p C I i (words_before p C I σ i)).sigs
      → take (g + sigs) (take g g₀ ++ (q ++ drop (g + sigs - g) (drop g g₀))) ≡ bytes (steps p C (i + 1) σ I)
  bytes_more sigs i σ I g₀ q g hg lq e eq =
      let A = step_from p C I i (words_before p C I σ i) in
      let lt : length (take g g₀) ≡ g = length-take-le g g₀ (omega arith) in
      let l : length (take g g₀ ++ q) ≡ g + sigs = length-append (take g g₀) q ∙ ap₂ (λ (x y : ℕ). x + y) lt lq in
      ap (take (g + sigs)) (sym (append_assoc (take g g₀) q (drop (g + sigs - g) (drop g g₀)))) ∙ take_at (take g g₀ ++ q) (drop (g + sigs - g) (drop g g₀)) (g + sigs) l
      ∙ ap₂ (λ (x y : List ℕ). x ++ y) e (eq ∙ sym (append-nil (bytes_of A.sigs))) ∙ sym (bytes_append (steps p C i σ I) (A.sigs ∷ [])) ∙ ap bytes (sym (steps_more i σ I))

  pub bytes_begin : (σ I g₀ : List ℕ) → take 0 g₀ ≡ bytes (steps p C 0 σ I)
  unfolding steps
  bytes_begin σ I g₀ = refl

  pub bytes_end : (k i : ℕ) (σ I g₀ : List ℕ) (g : ℕ) → i ≡ k → length g₀ ≤ g → take g g₀ ≡ bytes (steps p C i σ I) → g₀ ≡ bytes (steps p C k σ I)
  bytes_end k i σ I g₀ g e h d = sym (take_all g g₀ h) ∙ d ∙ ap (λ (n : ℕ). bytes (steps p C n σ I)) e

  -- the state words after the step i, from those that it began with and its row
  pub words_more : (i : ℕ) (σ I before row ι : List ℕ) {after : List ℕ} → before ≡ words_before p C I σ i → row ≡ free_at p C I i → ι ≡ inputs_at p C I i
      → after ≡ (step p false C (entered p C i before row) ι).sts → after ≡ words_before p C I σ (i + 1)
  unfolding words_before step_from
  words_more i σ I before row ι eb er ei e =
      e ∙ ap₂ (λ (x y : List ℕ). (step p false C (entered p C i x y) ι).sts) eb er ∙ ap (λ (x : List ℕ). (step p false C (entered p C i (words_before p C I σ i) (free_at p C I i)) x).sts) ei
      ∙ ap (words_before p C I σ) (sym (add-one i))

  -- and its signals
  pub signals_as : (i : ℕ) (σ I before row ι : List ℕ) {q : List ℕ} → before ≡ words_before p C I σ i → row ≡ free_at p C I i → ι ≡ inputs_at p C I i
      → q ≡ bytes_of (step p false C (entered p C i before row) ι).sigs → q ≡ bytes_of (step_from p C I i (words_before p C I σ i)).sigs
  unfolding step_from
  signals_as i σ I before row ι eb er ei e =
      e ∙ ap₂ (λ (x y : List ℕ). bytes_of (step p false C (entered p C i x y) ι).sigs) eb er ∙ ap (λ (x : List ℕ). bytes_of (step p false C (entered p C i (words_before p C I σ i) (free_at p C I i)) x).sigs) ei

  pub words_begin : (σ I : List ℕ) → σ ≡ words_before p C I σ 0
  unfolding words_before
  words_begin σ I = refl

  -- the row as the run starts
  pub start_as : (S I ι : List ℕ) → ι ≡ take (input_count p C) I → (step p true C S ι).sts ≡ start p C S I
  unfolding start
  start_as S I ι e = ap (λ (x : List ℕ). (step p true C S x).sts) e

  pub run_as : (k : ℕ) (S I σ : List ℕ) → σ ≡ start p C S I → bytes (steps p C k σ I) ≡ bytes (run p C k S I)
  unfolding run
  run_as k S I σ e = ap (λ (x : List ℕ). bytes (steps p C k x I)) e

  -- ---- a run is the list of its steps

  pub run_steps : (k : ℕ) (S I : List ℕ) → run p C k S I ≡ map (λ (t : ℕ). (step_at p C S I t).sigs) (from 0 k)
  unfolding run steps step_at
  run_steps k S I = refl

  -- so the signals of the step t are those of its values
  pub step_signals : (k : ℕ) (S I : List ℕ) (t : ℕ) → t < k → get_or (run p C k S I) t (step_at p C S I 0).sigs ≡ (step_at p C S I t).sigs
  step_signals k S I t h =
      ap (λ (gs : List (List Signal)). get_or gs t (step_at p C S I 0).sigs) (run_steps k S I) ∙ get_or-map (λ (j : ℕ). (step_at p C S I j).sigs) (from 0 k) t 0
      ∙ ap (λ (j : ℕ). (step_at p C S I j).sigs) (from_at 0 k t h ∙ zero-add t)

  -- Step 0 starts from the start words and the init values; a later step begins with what the last one left, but for free states.
  pub step_zero_lem : (S I : List ℕ) → step_at p C S I 0 ≡ step p false C (start p C S I) (inputs_at p C I 0)
  unfolding step_at step_from words_before
  step_zero_lem S I = refl

  pub step_later : (S I : List ℕ) (t : ℕ) → step_at p C S I (suc t) ≡ step p false C (entered p C (suc t) (step_at p C S I t).sts (free_at p C I (suc t))) (inputs_at p C I (suc t))
  unfolding step_at step_from words_before
  step_later S I t = refl
