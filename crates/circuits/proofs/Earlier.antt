-- The cells of a line come from those of earlier lines. A line without the mark, whose cone holds no input and no state, has the same cells in every walk, so the state words that a run starts from depend on no input. Assumes nothing.
use Prim.Native.Nat.{ℕ, suc, ◌+◌, ◌≤◌, ◌<◌}
use mathlib.Core.Path.{◌≡◌, refl, sym, ap, ap₂, ◌∙◌}
use mathlib.Core.Bool.{Bool, true, false, true≢false}
use mathlib.Core.List.{List, [], ◌∷◌, ◌++◌}
use native.Mathlib.Omega.{arith}
use lib.ListN.{length, take, drop, get_or, set, replicate, length-append, take-append-drop, get_or-append}
use lib.Seq.{get_or_at, length-take-le}
use Rattle.words.specs.Word.{bit}
use Rattle.tables.specs.declared.Ty.{Ty}
use Rattle.tables.specs.Lines.{Line, Expr}
use Rattle.tables.specs.Types.{no_ty, marked, line_type, no_ctx, ty_at, given}
use Rattle.tables.proofs.Kept.{neither}
use Rattle.tables.proofs.Values.{role_mark}
use Rattle.tables.proofs.Showing.{by_place, snoc_other}
use Rattle.tables.proofs.Facts.{OkLine, AllOk}
use Rattle.circuits.specs.Cells.{if_nonzero, eq_or_neq, same_cells, part, put}
use Rattle.circuits.specs.Layout.{Layout, type_at, place_at, size, lay, layout, line_type_in}
use Rattle.circuits.specs.Meaning.{Frame, cells_at, word_at, width_at, op_word, cells_e, state_words, cells_of, states_after, eval_line, eval_all, no_frame, step}
use Rattle.circuits.specs.Run.{input_count, start}
use Rattle.circuits.proofs.Laid.{more_types}
use Rattle.circuits.proofs.Walked.{acc_at, acc_suc, acc_lay, eval_append}

-- ---- later lines leave the cells of earlier ones

pub cells_kept_lem : (p f : Bool) (σ ι : List ℕ) (A : Frame) (C : List Line) (a : ℕ) → a < length A.env → cells_at (eval_all p f σ ι A C) a ≡ cells_at A a
cells_kept_lem p f σ ι A [] a h = refl
cells_kept_lem p f σ ι A (l ∷ C) a h =
    cells_kept_lem p f σ ι (eval_line p f σ ι A l) C a (omega (arith, length-append A.env (cells_of p f σ ι A l ∷ []))) ∙ get_or-append A.env (cells_of p f σ ι A l ∷ []) [] a h

pub env_length : (p f : Bool) (σ ι : List ℕ) (A : Frame) (C : List Line) → length (eval_all p f σ ι A C).env ≡ length A.env + length C
env_length p f σ ι A [] = omega arith
env_length p f σ ι A (l ∷ C) = env_length p f σ ι (eval_line p f σ ι A l) C ∙ omega (arith, length-append A.env (cells_of p f σ ι A l ∷ []))

module _ (p f : Bool) (C : List Line) (σ ι : List ℕ) where
  rest : (i : ℕ) → step p f C σ ι ≡ eval_all p f σ ι (acc_at p f σ ι C i) (drop i C)
  unfolding step
  rest i = ap (eval_all p f σ ι no_frame) (sym (take-append-drop i C)) ∙ eval_append p f σ ι no_frame (take i C) (drop i C)

  long : (i : ℕ) → i ≤ length C → length (acc_at p f σ ι C i).env ≡ suc i
  long i h = env_length p f σ ι no_frame (take i C) ∙ omega (arith, length-take-le i C h)

  -- the lines before the place i
  pub cells_first : (i a : ℕ) → i ≤ length C → a ≤ i → cells_at (step p f C σ ι) a ≡ cells_at (acc_at p f σ ι C i) a
  cells_first i a h k = ap (λ (A : Frame). cells_at A a) (rest i) ∙ cells_kept_lem p f σ ι (acc_at p f σ ι C i) (drop i C) a (omega (arith, long i h))

  -- the line at the place i, whose number is i + 1
  pub cells_here : (i : ℕ) → i < length C → cells_at (step p f C σ ι) (suc i) ≡ cells_of p f σ ι (acc_at p f σ ι C i) (get_or C i Line.unknown)
  cells_here i h =
      let A = acc_at p f σ ι C i in
      let l = get_or C i Line.unknown in
      cells_first (suc i) (suc i) (omega arith) (omega arith) ∙ ap (λ (B : Frame). cells_at B (suc i)) (acc_suc p f σ ι C i h)
      ∙ get_or_at A.env (cells_of p f σ ι A l) [] [] (suc i) (long i (omega arith))

-- ---- lines without the mark, whose cones hold no input and no state, have the same cells in every walk

-- the cells of an expression, by those of its operands, which are not marked where it is not
module _ (p : Bool) (W : ℕ → ℕ) (L : ℕ → Ty) (X Y : ℕ → List ℕ) (alike : (a : ℕ) → marked (L a) ≡ false → X a ≡ Y a) where
  word : (a : ℕ) → marked (L a) ≡ false → get_or (X a) 0 0 ≡ get_or (Y a) 0 0
  word a e = ap (λ (l : List ℕ). get_or l 0 0) (alike a e)

  pub expr_alike : (s : ℕ) (e : Expr) → marked (line_type p L (Line.value s e)) ≡ false → cells_e p W (λ a. get_or (X a) 0 0) X e ≡ cells_e p W (λ a. get_or (Y a) 0 0) Y e
  expr_alike s (Expr.const v) q = refl
  expr_alike s (Expr.unary k a x y) q = ap (λ (v : ℕ). op_word p k (W a) 64 v x y ∷ []) (word a (sym (role_mark _) ∙ q))
  expr_alike s (Expr.binary k a b) q =
      let h = neither (marked (L a)) _ (sym (role_mark _) ∙ q) in
      ap₂ (λ (v w : ℕ). op_word p k (W a) (W b) v w 0 ∷ []) (word a h.0) (word b h.1)
  expr_alike s (Expr.equality e a b) q =
      let h = neither (marked (L a)) _ (sym (role_mark _) ∙ q) in
      ap₂ (λ (v w : List ℕ). bit (eq_or_neq e (same_cells v w)) ∷ []) (alike a h.0) (alike b h.1)
  expr_alike s (Expr.ite c a b) q =
      let h = neither (marked (L c)) _ (sym (role_mark _) ∙ q) in
      let k = neither (marked (L a)) _ h.1 in
      ap (λ (n : ℕ). if_nonzero n (X a) (X b)) (word c h.0) ∙ ap₂ (if_nonzero (get_or (Y c) 0 0)) (alike a k.0) (alike b k.1)
  expr_alike s (Expr.read a i) q =
      let h = neither (marked (L a)) _ (sym (role_mark _) ∙ q) in
      ap₂ (λ (l : List ℕ) (n : ℕ). get_or l n 0 ∷ []) (alike a h.0) (word i h.1)
  expr_alike s (Expr.write a i v) q =
      let h = neither (marked (L a)) _ (sym (role_mark _) ∙ q) in
      let k = neither (marked (L i)) _ h.1 in
      ap₂ (λ (l : List ℕ) (n : ℕ). set l n (get_or (X v) 0 0)) (alike a h.0) (word i k.0) ∙ ap (set (Y a) (get_or (Y i) 0 0)) (word v k.1)

-- two walks over the same lines
pub record Alike (A B : Frame) : Type 0 where
  pub lay : A.lay ≡ B.lay
  pub long_a : length A.env ≡ length A.lay.ctx.tys
  pub long_b : length B.env ≡ length B.lay.ctx.tys
  pub cells : (a : ℕ) → marked (type_at A.lay a) ≡ false → cells_at A a ≡ cells_at B a

module _ (p f f' : Bool) (σ σ' ι ι' : List ℕ) where
  cells_alike : (A B : Frame) → Alike A B → (l : Line) → marked (line_type_in p A.lay l) ≡ false → cells_of p f σ ι A l ≡ cells_of p f' σ' ι' B l
  cells_alike A B k (Line.bitvec w) q = refl
  cells_alike A B k (Line.array i e) q = refl
  cells_alike A B k (Line.input s) q = absurd (true≢false q)
  cells_alike A B k (Line.state s) q = absurd (true≢false q)
  cells_alike A B k (Line.value s e) q =
      ap (λ (Y : Layout). cells_e p (λ a. (type_at Y a).w) (word_at A) (cells_at A) e) k.lay
      ∙ expr_alike p (width_at B) (ty_at A.lay.ctx) (cells_at A) (cells_at B) k.cells s e q
  cells_alike A B k (Line.init_or_next m s x v) q = refl
  cells_alike A B k (Line.signal m a) q = refl
  cells_alike A B k (Line.output a) q = refl
  cells_alike A B k Line.unknown q = refl

  pub line_alike : (A B : Frame) (l : Line) → Alike A B → Alike (eval_line p f σ ι A l) (eval_line p f' σ' ι' B l)
  line_alike A B l k =
      let n = length A.lay.ctx.tys in
      let new : type_at (lay p A.lay l) n ≡ line_type_in p A.lay l = get_or_at A.lay.ctx.tys (line_type_in p A.lay l) [] no_ty n refl in
      let eb : length B.env ≡ n = k.long_b ∙ ap (λ (Y : Layout). length Y.ctx.tys) (sym k.lay) in
      record {
        lay = ap (λ (Y : Layout). lay p Y l) k.lay;
        long_a = length-append A.env _ ∙ ap (λ (m : ℕ). m + 1) k.long_a ∙ sym (more_types p A.lay l);
        long_b = length-append B.env _ ∙ ap (λ (m : ℕ). m + 1) k.long_b ∙ sym (more_types p B.lay l);
        cells = λ a.
            by_place a n
            (λ e q.
            let t : marked (line_type_in p A.lay l) ≡ false = sym (ap (λ (i : ℕ). marked (type_at (lay p A.lay l) i)) e ∙ ap marked new) ∙ q in
            ap (λ (i : ℕ). get_or (A.env ++ (cells_of p f σ ι A l ∷ [])) i []) e ∙ get_or_at A.env (cells_of p f σ ι A l) [] [] n k.long_a ∙ cells_alike A B k l t
            ∙ sym (ap (λ (i : ℕ). get_or (B.env ++ (cells_of p f' σ' ι' B l ∷ [])) i []) e ∙ get_or_at B.env (cells_of p f' σ' ι' B l) [] [] n eb))
            (λ e q.
            let t : marked (type_at A.lay a) ≡ false = sym (ap marked (snoc_other A.lay.ctx.tys (line_type_in p A.lay l) no_ty a e)) ∙ q in
            snoc_other A.env (cells_of p f σ ι A l) [] a (λ x. e (x ∙ k.long_a)) ∙ k.cells a t ∙ sym (snoc_other B.env (cells_of p f' σ' ι' B l) [] a (λ x. e (x ∙ eb))));
      }

  all_alike : (A B : Frame) (C : List Line) → Alike A B → Alike (eval_all p f σ ι A C) (eval_all p f' σ' ι' B C)
  all_alike A B [] k = k
  all_alike A B (l ∷ C) k = all_alike (eval_line p f σ ι A l) (eval_line p f' σ' ι' B l) C (line_alike A B l k)

  -- an init value is the same as the run starts and at every step
  pub unmarked_alike : (C : List Line) (a : ℕ) → marked (type_at (layout p C) a) ≡ false → cells_at (step p f C σ ι) a ≡ cells_at (step p f' C σ' ι') a
  unfolding step layout
  unmarked_alike C a q =
      let k = all_alike no_frame no_frame C (record { lay = refl; long_a = refl; long_b = refl; cells = λ x e. refl }) in
      k.cells a (ap (λ (Y : Layout). marked (type_at Y a)) (acc_lay p f σ ι no_frame C) ∙ q)

-- ---- the state words that a run starts from depend on no input

module _ (p : Bool) (σ ι ι' : List ℕ) where
  init_next_alike : (A B : Frame) → Alike A B → A.sts ≡ B.sts → (m : Bool) (s q v : ℕ) → OkLine p (ty_at A.lay.ctx) (given A.lay.ctx) (Line.init_or_next m s q v)
      → states_after p true σ A (Line.init_or_next m s q v) ≡ states_after p true σ B (Line.init_or_next m s q v)
  init_next_alike A B k e true s q v ok =
      ap₂ (λ (x : List ℕ) (Y : Layout). put x (place_at Y q) (replicate (size (type_at Y q)) (word_at A v))) e k.lay
      ∙ ap (λ (x : List ℕ). put B.sts (place_at B.lay q) (replicate (size (type_at B.lay q)) (get_or x 0 0))) (k.cells v ok.value.unmarked)
  init_next_alike A B k e false s q v ok = e

  sts_alike : (A B : Frame) → Alike A B → A.sts ≡ B.sts → (l : Line) → OkLine p (ty_at A.lay.ctx) (given A.lay.ctx) l → states_after p true σ A l ≡ states_after p true σ B l
  sts_alike A B k e (Line.bitvec w) ok = e
  sts_alike A B k e (Line.array i x) ok = e
  sts_alike A B k e (Line.input s) ok = e
  sts_alike A B k e (Line.state s) ok =
      ap₂ (λ (x : List ℕ) (Y : Layout). x ++ state_words p true (line_type_in p Y (Line.state s)).w (part σ Y.counts.states (size (line_type_in p Y (Line.state s))))) e k.lay
  sts_alike A B k e (Line.value s x) ok = e
  sts_alike A B k e (Line.init_or_next m s q v) ok = init_next_alike A B k e m s q v ok
  sts_alike A B k e (Line.signal m a) ok = e
  sts_alike A B k e (Line.output a) ok = e
  sts_alike A B k e Line.unknown ok = e

  starts_alike : (A B : Frame) (C : List Line) → Alike A B → A.sts ≡ B.sts → AllOk p A.lay.ctx C → (eval_all p true σ ι A C).sts ≡ (eval_all p true σ ι' B C).sts
  starts_alike A B [] k e h = e
  starts_alike A B (l ∷ C) k e h =
      starts_alike (eval_line p true σ ι A l) (eval_line p true σ ι' B l) C (line_alike p true true σ σ ι ι' A B l k) (sts_alike A B k e l h.0) h.1

-- no init value depends on an input, so any row will do
pub start_any_row : (p : Bool) (C : List Line) (S I J : List ℕ) → AllOk p no_ctx C → start p C S I ≡ start p C S J
unfolding start step
start_any_row p C S I J h =
    starts_alike p S (take (input_count p C) I) (take (input_count p C) J) no_frame no_frame C (record { lay = refl; long_a = refl; long_b = refl; cells = λ x e. refl }) refl h
