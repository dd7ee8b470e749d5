-- The values and the signals of a step do not depend on its next lines: no line of a step sees a stored next value. Assumes nothing.
use Prim.Native.Nat.{ℕ}
use mathlib.Core.Path.{◌≡◌, refl, sym, ap, ◌∙◌}
use mathlib.Core.Bool.{Bool, true, false}
use mathlib.Core.List.{List, [], ◌∷◌, map}
use Rattle.tables.specs.Lines.{Line}
use Rattle.circuits.specs.Meaning.{Frame, cells_at, eval_line, eval_all, no_frame, step}

-- a line that does nothing for a next line
abbrev pub without_next : Line → Line
without_next (Line.bitvec w) = Line.bitvec w
without_next (Line.array i e) = Line.array i e
without_next (Line.input s) = Line.input s
without_next (Line.state s) = Line.state s
without_next (Line.value s e) = Line.value s e
without_next (Line.init_or_next true s q v) = Line.init_or_next true s q v
without_next (Line.init_or_next false s q v) = Line.unknown
without_next (Line.signal m a) = Line.signal m a
without_next (Line.output a) = Line.output a
without_next Line.unknown = Line.unknown

-- what lines see of those before them: all but the stored state words, and which states have an init or a next
abbrev visible : Frame → Frame
visible A =
    record {
      lay = record { ctx = record { tys = A.lay.ctx.tys; inits = []; nexts = [] }; places = A.lay.places; counts = A.lay.counts };
      env = A.env;
      sts = [];
      sigs = A.sigs;
    }

module _ (p f : Bool) (σ ι : List ℕ) where
  visible_line : (A : Frame) (l : Line) → visible (eval_line p f σ ι (visible A) l) ≡ visible (eval_line p f σ ι A l)
  visible_line A (Line.bitvec w) = refl
  visible_line A (Line.array i e) = refl
  visible_line A (Line.input s) = refl
  visible_line A (Line.state s) = refl
  visible_line A (Line.value s e) = refl
  visible_line A (Line.init_or_next m s q v) = refl
  visible_line A (Line.signal m a) = refl
  visible_line A (Line.output a) = refl
  visible_line A Line.unknown = refl

  visible_without : (A : Frame) (l : Line) → visible (eval_line p f σ ι A (without_next l)) ≡ visible (eval_line p f σ ι A l)
  visible_without A (Line.bitvec w) = refl
  visible_without A (Line.array i e) = refl
  visible_without A (Line.input s) = refl
  visible_without A (Line.state s) = refl
  visible_without A (Line.value s e) = refl
  visible_without A (Line.init_or_next true s q v) = refl
  visible_without A (Line.init_or_next false s q v) = refl
  visible_without A (Line.signal m a) = refl
  visible_without A (Line.output a) = refl
  visible_without A Line.unknown = refl

  visible_all : (A B : Frame) (C : List Line) → visible A ≡ visible B → visible (eval_all p f σ ι A (map without_next C)) ≡ visible (eval_all p f σ ι B C)
  visible_all A B [] e = e
  visible_all A B (l ∷ C) e =
      visible_all (eval_line p f σ ι A (without_next l)) (eval_line p f σ ι B l) C
      (visible_without A l ∙ sym (visible_line A l) ∙ ap (λ (X : Frame). visible (eval_line p f σ ι X l)) e ∙ visible_line B l)

module _ (p : Bool) (C : List Line) (σ ι : List ℕ) where
  visible_step : visible (step p false (map without_next C) σ ι) ≡ visible (step p false C σ ι)
  unfolding step
  visible_step = visible_all p false σ ι no_frame no_frame C refl

  pub next_unseen : (a : ℕ) → cells_at (step p false (map without_next C) σ ι) a ≡ cells_at (step p false C σ ι) a
  next_unseen a = ap (λ (A : Frame). cells_at A a) visible_step

  pub next_signals : (step p false (map without_next C) σ ι).sigs ≡ (step p false C σ ι).sigs
  next_signals = ap (λ (A : Frame). A.sigs) visible_step
