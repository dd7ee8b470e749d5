-- The answers of a run, test by test, and the first counted bad from the bytes of all steps. Assumes nothing.
use Rattle.std.specs.Prelude.{Option, None, Result, Ok, Err}
use Prim.Native.Nat.{ℕ, zero, suc, ◌+◌, ◌*◌, ◌≤◌, ◌<◌}
use mathlib.Core.Path.{◌≡◌, refl, sym, ap, ap₂, ◌∙◌}
use mathlib.Core.Bool.{Bool, true, false}
use mathlib.Core.List.{List, [], ◌∷◌, ◌++◌, map, append-nil, append_assoc}
use native.Mathlib.Omega.{arith}
use native.Mathlib.Nat.{mul-le-mul_left, mul_comm, zero-add, zero-mul}
use lib.Dec.{leb, eqb}
use lib.ListN.{length, drop, replicate, length-append}
use borrow.Author.Tests.{le-leb, lt-leb, eq-eqb, ne_eqb, leb-true, eqb-true}
use Rattle.words.specs.Word.{bit}
use Rattle.tables.specs.declared.Refusal.{Refusal}
use Rattle.tables.specs.declared.Refusal.TheVariants.{TooManySteps, StartWords, InputWords, SignalBytes, WorkArea}
use Rattle.tables.specs.Pick.{pick}
use Rattle.tables.specs.Lines.{Line}
use Rattle.tables.specs.Tables.{checked}
use Rattle.tables.proofs.Checking.{not_accepted}
use Rattle.circuits.specs.declared.Totals.{Totals}
use Rattle.circuits.specs.declared.FirstBad.{FirstBad}
use Rattle.circuits.specs.Layout.{Counts, Layout, no_layout, lay, lay_all, layout, counts_after, size, line_type_in}
use Rattle.circuits.specs.Meaning.{Signal, signal_byte, Frame, no_frame, eval_line, eval_all, signals_after, step}
use Rattle.circuits.specs.Run.{row_length, inputs_at, free_at, start, entered, step_from, words_before, steps, run, bytes_of, bytes, first_bad}
use Rattle.tables.specs.Layout.{lines_of, from}
use Rattle.circuits.specs.Answers.{lent, ready, ran, signals_left, told_run, runs}
use Rattle.circuits.specs.Model.Passes.{counts_of, totals_of}
use Rattle.circuits.specs.Model.Signals.{bad_mark, marks, zip_sig, sig_rows}
use Rattle.circuits.specs.Model.Answers.{started, lent_runs}
use Rattle.circuits.proofs.Repeated.{steps_many}

-- ---- 13 to 17

module _ (c : Counts) (row k s i g w : ℕ) where
  pub is_13 : 4096 < k → Err TooManySteps ≡ lent c row k s i g w
  is_13 h = rw (lt-leb k 4096 h)

  pub is_14 : k ≤ 4096 → (s ≡ c.states → ⊥) → Err StartWords ≡ lent c row k s i g w
  is_14 h n = rw (le-leb k 4096 h, ne_eqb s c.states n)

  pub is_15 : k ≤ 4096 → s ≡ c.states → (i ≡ k * row → ⊥) → Err InputWords ≡ lent c row k s i g w
  is_15 h e n = rw (le-leb k 4096 h, eq-eqb s c.states e, ne_eqb i (k * row) n)

  pub is_16 : k ≤ 4096 → s ≡ c.states → i ≡ k * row → (g ≡ k * c.signals → ⊥) → Err SignalBytes ≡ lent c row k s i g w
  is_16 h e f n = rw (le-leb k 4096 h, eq-eqb s c.states e, eq-eqb i (k * row) f, ne_eqb g (k * c.signals) n)

  pub is_17 : k ≤ 4096 → s ≡ c.states → i ≡ k * row → g ≡ k * c.signals → w < c.cells + c.states → Err WorkArea ≡ lent c row k s i g w
  is_17 h e f q l = rw (le-leb k 4096 h, eq-eqb s c.states e, eq-eqb i (k * row) f, eq-eqb g (k * c.signals) q, lt-leb (c.cells + c.states) w l)

  pub is_lent : k ≤ 4096 → s ≡ c.states → i ≡ k * row → g ≡ k * c.signals → c.cells + c.states ≤ w → Ok tt ≡ lent c row k s i g w
  is_lent h e f q l = rw (le-leb k 4096 h, eq-eqb s c.states e, eq-eqb i (k * row) f, eq-eqb g (k * c.signals) q, le-leb (c.cells + c.states) w l)

pub record Lent (c : Counts) (row k s i g w : ℕ) : Type 0 where
  pub steps : k ≤ 4096
  pub starts : s ≡ c.states
  pub inputs : i ≡ k * row
  pub signals : g ≡ k * c.signals
  pub work : c.cells + c.states ≤ w

pub lent_facts : (c : Counts) (row k s i g w : ℕ) → lent c row k s i g w ≡ Ok tt → Lent c row k s i g w
lent_facts c row k s i g w = go (leb k 4096) (eqb s c.states) (eqb i (k * row)) (eqb g (k * c.signals)) (leb (c.cells + c.states) w) refl refl refl refl refl
  where
    go : (a b d e f : Bool) → leb k 4096 ≡ a → eqb s c.states ≡ b → eqb i (k * row) ≡ d → eqb g (k * c.signals) ≡ e → leb (c.cells + c.states) w ≡ f
        → pick a (pick b (pick d (pick e (pick f (Ok (tt {0})) (Err WorkArea)) (Err SignalBytes)) (Err InputWords)) (Err StartWords)) (Err TooManySteps) ≡ Ok (tt {0}) → Lent c row k s i g w
    go true true true true true a b d e f z =
        record { steps = leb-true k 4096 a; starts = eqb-true s c.states b; inputs = eqb-true i (k * row) d; signals = eqb-true g (k * c.signals) e; work = leb-true (c.cells + c.states) w f }
    go true true true true false a b d e f z = absurd (not_accepted WorkArea z)
    go true true true false y a b d e f z = absurd (not_accepted SignalBytes z)
    go true true false x y a b d e f z = absurd (not_accepted InputWords z)
    go true false v x y a b d e f z = absurd (not_accepted StartWords z)
    go false u v x y a b d e f z = absurd (not_accepted TooManySteps z)

-- a product of the steps and a count fits
pub times_small : (k n : ℕ) → k ≤ 4096 → n < 4294967296 → k * n < 18446744073709551616
times_small k n h l = let e : n * k ≤ n * 4096 = mul-le-mul_left n h in omega (arith, mul_comm k n)

-- ---- the signals' marks

marks_of : List Signal → List ℕ
marks_of [] = []
marks_of (signal_byte m v ∷ g) = bit m ∷ marks_of g

marks_snoc : (g : List Signal) (m : Bool) (v : ℕ) → marks_of (g ++ (signal_byte m v ∷ [])) ≡ marks_of g ++ (bit m ∷ [])
unfolding marks_of
marks_snoc [] m v = refl
marks_snoc (signal_byte b x ∷ g) m v = ap (λ (l : List ℕ). bit b ∷ l) (marks_snoc g m v)

marks_line : (A : Frame) (l : Line) → marks_of (signals_after A l) ≡ marks_of A.sigs ++ bad_mark l
marks_line A (Line.bitvec w) = sym (append-nil (marks_of A.sigs))
marks_line A (Line.array i e) = sym (append-nil (marks_of A.sigs))
marks_line A (Line.input s) = sym (append-nil (marks_of A.sigs))
marks_line A (Line.state s) = sym (append-nil (marks_of A.sigs))
marks_line A (Line.value s e) = sym (append-nil (marks_of A.sigs))
marks_line A (Line.init_or_next m s q v) = sym (append-nil (marks_of A.sigs))
marks_line A (Line.signal m a) = marks_snoc A.sigs m _
marks_line A (Line.output a) = sym (append-nil (marks_of A.sigs))
marks_line A Line.unknown = sym (append-nil (marks_of A.sigs))

marks_all : (p f : Bool) (σ ι : List ℕ) (A : Frame) (C : List Line) → marks_of (eval_all p f σ ι A C).sigs ≡ marks_of A.sigs ++ marks C
marks_all p f σ ι A [] = sym (append-nil (marks_of A.sigs))
marks_all p f σ ι A (l ∷ C) =
    marks_all p f σ ι (eval_line p f σ ι A l) C ∙ ap (λ (x : List ℕ). x ++ marks C) (marks_line A l) ∙ append_assoc (marks_of A.sigs) (bad_mark l) (marks C)

step_marks : (p f : Bool) (C : List Line) (σ ι : List ℕ) → marks_of (step p f C σ ι).sigs ≡ marks C
unfolding step marks_of
step_marks p f C σ ι = marks_all p f σ ι no_frame C

bit_back : (m : Bool) → eqb (bit m) 1 ≡ m
bit_back true = refl
bit_back false = refl

zip_back : (g : List Signal) (rest : List ℕ) → zip_sig (marks_of g) (bytes_of g ++ rest) ≡ g
unfolding marks_of
zip_back [] rest = refl
zip_back (signal_byte m v ∷ g) rest = ap₂ (λ (b : Bool) (x : List Signal). signal_byte b v ∷ x) (bit_back m) (zip_back g rest)

rest_back : (g : List Signal) (rest : List ℕ) → drop (length (marks_of g)) (bytes_of g ++ rest) ≡ rest
unfolding marks_of
rest_back [] rest = refl
rest_back (signal_byte m v ∷ g) rest = rest_back g rest

-- each step has the marks ms
abbrev AllMarked : (ms : List ℕ) → List (List Signal) → Type 0
AllMarked ms [] = Unit {0}
AllMarked ms (g ∷ gs) = (marks_of g ≡ ms) × AllMarked ms gs

rows_back : (ms : List ℕ) (gs : List (List Signal)) → AllMarked ms gs → sig_rows ms (length gs) (bytes gs) ≡ gs
rows_back ms [] h = refl
rows_back ms (g ∷ gs) h =
    ap₂ (λ (x : List Signal) (y : List (List Signal)). x ∷ y) (ap (λ (m : List ℕ). zip_sig m (bytes_of g ++ bytes gs)) (sym h.0) ∙ zip_back g (bytes gs))
    (ap (sig_rows ms (length gs)) (ap (λ (m : List ℕ). drop (length m) (bytes_of g ++ bytes gs)) (sym h.0) ∙ rest_back g (bytes gs)) ∙ rows_back ms gs h.1)

module _ (p : Bool) (C : List Line) (σ I : List ℕ) where
  steps_marked : (ts : List ℕ) → AllMarked (marks C) (map (λ (t : ℕ). (step_from p C I t (words_before p C I σ t)).sigs) ts)
  unfolding step_from
  steps_marked [] = tt
  steps_marked (t ∷ ts) = (step_marks p false C (entered p C t (words_before p C I σ t) (free_at p C I t)) (inputs_at p C I t), steps_marked ts)

  all_marked : (k : ℕ) → AllMarked (marks C) (steps p C k σ I)
  unfolding steps
  all_marked k = steps_marked (from 0 k)

  steps_back : (k : ℕ) → sig_rows (marks C) k (bytes (steps p C k σ I)) ≡ steps p C k σ I
  steps_back k = ap (λ (n : ℕ). sig_rows (marks C) n (bytes (steps p C k σ I))) (sym (steps_many p C k σ I)) ∙ rows_back (marks C) (steps p C k σ I) (all_marked k)

-- the first counted bad, as it is found
pub bad_found : (p : Bool) (C : List Line) (k : ℕ) (S I : List ℕ) {m g : List ℕ} → m ≡ marks C → g ≡ bytes (run p C k S I) → first_bad 0 (sig_rows m k g) ≡ first_bad 0 (run p C k S I)
unfolding run
bad_found p C k S I em eg = ap₂ (λ (x y : List ℕ). first_bad 0 (sig_rows x k y)) em eg ∙ ap (first_bad 0) (steps_back p C (start p C S I) I k)

signal_line : (c : Counts) (m : ℕ) (l : Line) → (counts_after c m l).signals ≡ c.signals + length (bad_mark l)
signal_line c m (Line.bitvec w) = omega arith
signal_line c m (Line.array i e) = omega arith
signal_line c m (Line.input s) = omega arith
signal_line c m (Line.state s) = omega arith
signal_line c m (Line.value s e) = omega arith
signal_line c m (Line.init_or_next n s q v) = omega arith
signal_line c m (Line.signal n a) = omega arith
signal_line c m (Line.output a) = omega arith
signal_line c m Line.unknown = omega arith

signals_all : (p : Bool) (Y : Layout) (C : List Line) → (lay_all p Y C).counts.signals ≡ Y.counts.signals + length (marks C)
signals_all p Y [] = omega arith
signals_all p Y (l ∷ C) =
    signals_all p (lay p Y l) C ∙ omega (arith, signal_line Y.counts (size (line_type_in p Y l)) l, length-append (bad_mark l) (marks C))

pub signals_many : (p : Bool) (C : List Line) → (layout p C).counts.signals ≡ length (marks C)
unfolding layout
signals_many p C = signals_all p no_layout C ∙ zero-add (length (marks C))

-- ---- no steps

pub none_ran : (p : Bool) (C : List Line) (k : ℕ) (S I : List ℕ) → k ≡ 0 → None ≡ first_bad 0 (run p C k S I)
unfolding run steps
none_ran p C k S I e = ap (λ (m : ℕ). first_bad 0 (steps p C m (start p C S I) I)) (sym e)

empty : (g : List ℕ) → length g ≡ 0 → g ≡ []
empty [] e = refl
empty (x ∷ g) e = absurd (omega arith)

pub none_signals : (p : Bool) (C : List Line) (k n : ℕ) (S I g : List ℕ) → k ≡ 0 → length g ≡ k * n → g ≡ bytes (run p C k S I)
unfolding run steps
none_signals p C k n S I g e l =
    empty g (l ∙ ap (λ (m : ℕ). m * n) e ∙ zero-mul n) ∙ ap (λ (m : ℕ). bytes (steps p C m (start p C S I) I)) (sym e)

-- ---- a work area of zeros

front : (u n : ℕ) → u ≤ n → replicate u 0 ++ drop u (replicate n 0) ≡ replicate {A = ℕ} n 0
front zero n h = refl
front (suc u) zero h = absurd (omega arith)
front (suc u) (suc n) h = ap (λ (l : List ℕ). 0 ∷ l) (front u n (omega arith))

pub zero_front : (w q : List ℕ) (u : ℕ) → w ≡ replicate (length w) 0 → u ≤ length w → q ≡ replicate u 0 → q ++ drop u w ≡ replicate (length w) 0
zero_front w q u e h eq = ap₂ (λ (x y : List ℕ). x ++ drop u y) eq e ∙ front u (length w) h

-- ---- the answer

-- what is told of a run, and what it leaves
pub told_run_lem : {r r₁ : Result (Option FirstBad) Refusal} {s s₁ w w₁ : List ℕ} → r ≡ r₁ → s ≡ s₁ → w ≡ w₁ → told_run r (s ∷ w ∷ []) ≡ told_run r₁ (s₁ ∷ w₁ ∷ [])
told_run_lem a b c = λ i. told_run (a i) (b i ∷ c i ∷ [])

module _ (p : Bool) (t : List ℕ) (n k : ℕ) (S I : List ℕ) (g w : ℕ) where
  -- the table is refused, or it is accepted and what is lent decides
  pub runs_refused : {r : Refusal} {s v : List ℕ} → checked p t n ≡ Err r → s ≡ replicate g 0 → v ≡ replicate w 0 → told_run (Err r) (s ∷ v ∷ []) ≡ runs p t n k S I g w
  unfolding runs ran signals_left ready
  runs_refused e a b = rw (e, a, b) refl

  pub runs_lent : checked p t n ≡ Ok tt → lent_runs p t n k S I g w ≡ runs p t n k S I g w
  unfolding runs ran signals_left ready
  runs_lent e = rw e refl

  pub lent_refused : {r : Refusal} {s v : List ℕ} → lent (layout p (lines_of p t n)).counts (row_length p (lines_of p t n)) k (length S) (length I) g w ≡ Err r → s ≡ replicate g 0 → v ≡ replicate w 0
      → told_run (Err r) (s ∷ v ∷ []) ≡ lent_runs p t n k S I g w
  lent_refused e a b = rw (e, a, b) refl

  pub lent_runs_lem : lent (layout p (lines_of p t n)).counts (row_length p (lines_of p t n)) k (length S) (length I) g w ≡ Ok tt → started p (lines_of p t n) k S I w ≡ lent_runs p t n k S I g w
  lent_runs_lem e = rw e refl

pub nonzero : (k : ℕ) → (k ≡ 0 → ⊥) → 0 < k
nonzero zero n = absurd (n refl)
nonzero (suc k) n = omega arith

-- the tests 13 to 17 on the counts that the pass has found
pub lent_on : (c : Counts) (f k s i g w : ℕ) {tot : Totals} {d x : Result (Unit {0}) Refusal} → tot ≡ totals_of c f → d ≡ lent (counts_of tot) (tot.inputs + tot.free) k s i g w → d ≡ x
    → lent c (c.inputs + f) k s i g w ≡ x
lent_on c f k s i g w et ed ex = sym (ed ∙ ap (λ (y : Totals). lent (counts_of y) (y.inputs + y.free) k s i g w) et) ∙ ex
