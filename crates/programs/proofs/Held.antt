-- The words of a flat circuit's lines and those of its program's instructions, in one step. Assumes nothing.
use Prim.Native.Nat.{ℕ, suc, ◌%◌, ◌^◌, ◌≤◌, ◌<◌}
use mathlib.Core.Path.{◌≡◌, refl, sym, ap, ap₂, ◌∙◌, subst}
use mathlib.Core.Bool.{Bool, true, false}
use mathlib.Core.List.{List, [], ◌∷◌, ◌++◌}
use native.Mathlib.Nat.{le_trans, lt_of_lt_of_le}
use native.Mathlib.Omega.{arith}
use lib.ListN.{length, get_or}
use lib.Pow.{pow_mono}
use lib.Seq.{get_or_at}
use Rattle.words.specs.Model.Loose.{at_use}
use Rattle.words.proofs.Stands.{Stands}
use Rattle.tables.specs.declared.Ty.{Ty}
use Rattle.tables.specs.Lines.{Line}
use Rattle.tables.specs.Types.{rank, no_ty}
use Rattle.circuits.specs.Layout.{type_at, place_at, line_type_in, place_of, lay}
use Rattle.circuits.specs.Meaning.{Frame, cells_at, word_at, width_at, cells_of, states_after, signals_after, eval_line, eval_all}
use Rattle.programs.specs.declared.Known.{Known}
use Rattle.programs.specs.Translation.{none_known, known_at, mask_of, with_mask}
use Rattle.programs.proofs.Lists.{length_snoc, below_snoc, snoc₃}
use Rattle.programs.proofs.Grew.{lines, Even, Grew, grew_more, line_more, even_line, grew_line, new_type, new_place}
use Rattle.programs.proofs.Laid.{Laid, Fresh}
use Rattle.programs.proofs.Operator.{Result}

-- W is the width of each state word. A line of the type t has the cells cs in the circuit, and its instruction's word in the program B stands for it; n says whether
-- some line needs it clean
pub record Word (W : ℕ → ℕ) (B : Frame) (n : Bool) (t : Ty) (cs : List ℕ) (f : Known) : Type 0 where
  pub single : cs ≡ get_or cs 0 0 ∷ []
  pub small : get_or cs 0 0 < 2 ^ t.w
  pub alone : cells_at B f.number ≡ word_at B f.number ∷ []
  pub fits : word_at B f.number < 2 ^ 64
  pub stands : Stands (at_use n f.loose) t.w (word_at B f.number) (get_or cs 0 0)
  pub store : rank t.role ≡ 4 → W (place_at B.lay f.number) ≡ t.w

-- the cells of all lines so far
pub record Full (B : Frame) : Type 0 where
  pub even : Even B.lay
  pub env : length B.env ≡ lines B.lay

-- circuit A, program B
pub record Alike (W : ℕ → ℕ) (N : ℕ → Bool) (A B : Frame) (J : List Known) : Type 0 where
  pub laid : Laid A.lay B.lay J
  pub full_a : Full A
  pub full_b : Full B
  pub sts : B.sts ≡ A.sts
  pub sigs : B.sigs ≡ A.sigs
  pub count : length A.sts ≡ A.lay.counts.states
  pub fit : (j : ℕ) → get_or A.sts j 0 < 2 ^ W j
  pub word : (i : ℕ) → 2 ≤ rank (type_at A.lay i).role → Word W B (N i) (type_at A.lay i) (cells_at A i) (known_at J i)

-- ---- a program's step with lines more

pub record More (B B' : Frame) : Type 0 where
  pub grew : Grew B.lay B'.lay
  pub cells : (n : ℕ) → n < lines B.lay → cells_at B' n ≡ cells_at B n

pub more_none : {B : Frame} → Grew B.lay B.lay → More B B
more_none g = record { grew = g; cells = λ n h. refl }

more_more : {A B C : Frame} → More A B → More B C → More A C
more_more g h = record { grew = grew_more g.grew h.grew; cells = λ n k. h.cells n (le_trans k g.grew.longer) ∙ g.cells n k }

word_more : {W : ℕ → ℕ} {B B' : Frame} {n : Bool} {t : Ty} {cs : List ℕ} {f : Known} → More B B' → f.number < lines B.lay → Word W B n t cs f → Word W B' n t cs f
word_more {W} {f = f} m h w =
    let e = m.cells f.number h in
    record {
      single = w.single;
      small = w.small;
      alone = rw e w.alone;
      fits = rw e w.fits;
      stands = rw e w.stands;
      store = λ c. ap (λ (x : ℕ). W x) (m.grew.places f.number h) ∙ w.store c;
    }

module _ (g : Bool) (σ ι : List ℕ) where
  module _ {B : Frame} (u : Full B) (i : Line) where
    pub more_line : More B (eval_line true g σ ι B i)
    more_line = record { grew = grew_line true u.even i; cells = λ n h. below_snoc B.env (cells_of true g σ ι B i) [] n (omega (arith, u.env)) }

    pub full_line : (p : Bool) → Full (eval_line p g σ ι B i)
    full_line p = record { even = even_line p u.even i; env = length_snoc B.env (cells_of p g σ ι B i) ∙ ap suc u.env ∙ sym (line_more p u.even i) }

    pub new_cells : (b : ℕ) → b ≡ lines B.lay → cells_at (eval_line true g σ ι B i) b ≡ cells_of true g σ ι B i
    new_cells b e = get_or_at B.env (cells_of true g σ ι B i) [] [] b (u.env ∙ sym e)

  -- ---- one line more, of which the program has what B' has more than B

  pub alike_end : {W : ℕ → ℕ} {N : ℕ → Bool} {A B B' : Frame} {J : List Known} (l : Line) (f : Known) → Alike W N A B J → More B B' → Laid (lay false A.lay l) B'.lay (J ++ (f ∷ []))
      → Full B' → B'.sts ≡ states_after false g σ A l → B'.sigs ≡ signals_after A l → length (states_after false g σ A l) ≡ (lay false A.lay l).counts.states
      → ((j : ℕ) → get_or (states_after false g σ A l) j 0 < 2 ^ W j)
      → (2 ≤ rank (line_type_in false A.lay l).role → Word W B' (N (length J)) (line_type_in false A.lay l) (cells_of false g σ ι A l) f) → Alike W N (eval_line false g σ ι A l) B' (J ++ (f ∷ []))
  alike_end {W} {N} {A} {B} {B'} {J} l f v m d u es eg c s w =
      record {
        laid = d;
        full_a = full_line v.full_a l false;
        full_b = u;
        sts = es;
        sigs = eg;
        count = c;
        fit = s;
        word =
            snoc₃ no_ty [] none_known (λ i t cs x. 2 ≤ rank t.role → Word W B' (N i) t cs x) A.lay.ctx.tys A.env J v.full_a.env v.laid.known
            (λ i h. word_more m ((v.laid.rel i).value h).inb (v.word i h)) (λ i h. absurd (omega arith))
            (λ h. subst (λ (n : ℕ). Word W B' (N n) (line_type_in false A.lay l) (cells_of false g σ ι A l) f) v.laid.known (w h));
      }

  -- ---- a value instruction and its mask

  -- the instruction i of the line l has the word x, and the line a
  pub record New (A B : Frame) (i l : Line) (w : ℕ) (lo : Bool) : Type 0 where
    pub x : ℕ
    pub a : ℕ
    pub cells_b : cells_of true g σ ι B i ≡ x ∷ []
    pub cells_a : cells_of false g σ ι A l ≡ a ∷ []
    pub result : Result w lo x a

  -- what is computed for a value line
  pub record Holds (W : ℕ → ℕ) (B B' : Frame) (i : Line) (n : Bool) (t : Ty) (cs : List ℕ) (f : Known) : Type 0 where
    pub more : More B B'
    pub full : Full B'
    pub sts : B'.sts ≡ states_after true g σ B i
    pub sigs : B'.sigs ≡ signals_after B i
    pub word : Word W B' n t cs f

  module _ (W : ℕ → ℕ) {A B : Frame} (u : Full B) (b : ℕ) (e : b ≡ lines B.lay) {i l : Line} {t : Ty} {w : ℕ} where
    first_word : (n lo : Bool) → Fresh B.lay i t (place_of A.lay l) w lo → (h : New A B i l w lo) → Stands (at_use n lo) w h.x h.a
        → (rank t.role ≡ 4 → W (place_of B.lay i) ≡ w) → (f : Known) → f.number ≡ b → f.loose ≡ lo → Word W (eval_line true g σ ι B i) n t (cells_of false g σ ι A l) f
    first_word n lo k h s st f eq el =
        let c : cells_at (eval_line true g σ ι B i) f.number ≡ h.x ∷ [] = ap (cells_at (eval_line true g σ ι B i)) eq ∙ new_cells u i b e ∙ h.cells_b in
        rw h.cells_a
        (record {
          single = refl;
          small = rw k.width h.result.small;
          alone = rw c refl;
          fits = rw c h.result.fits;
          stands = rw (c, k.width, el) s;
          store = λ z. ap (λ (y : ℕ). W (place_at (lay true B.lay i) y)) eq ∙ ap (λ (y : ℕ). W y) (new_place true u.even i b e) ∙ st z ∙ sym k.width;
        })

    pub holds : (lo n : Bool) → Fresh B.lay i t (place_of A.lay l) w lo → New A B i l w lo → (rank t.role ≡ 4 → W (place_of B.lay i) ≡ w)
        → Holds W B (eval_all true g σ ι B (with_mask b w i lo n).code) i n t (cells_of false g σ ι A l) (with_mask b w i lo n).info
    holds false n k h st =
        record { more = more_line u i; full = full_line u i true; sts = refl; sigs = refl; word = first_word n false k h (clean n) st _ refl refl }
      where
        clean : (n : Bool) → Stands (at_use n false) w h.x h.a
        clean true = h.result.stands
        clean false = h.result.stands
    holds true false k h st = record { more = more_line u i; full = full_line u i true; sts = refl; sigs = refl; word = first_word false true k h h.result.stands st _ refl refl }
    holds true true k h st =
        let B₁ = eval_line true g σ ι B i in
        let u₁ = full_line u i true in
        let e₁ : suc b ≡ lines B₁.lay = omega (arith, line_more true u.even i) in
        let m = mask_of w b in
        let c : cells_at B₁ b ≡ h.x ∷ [] = new_cells u i b e ∙ h.cells_b in
        let wd : width_at B₁ b ≡ w = ap (λ (y : Ty). y.w) (new_type true u.even i b e ∙ k.type) ∙ k.width in
        let d : cells_at (eval_line true g σ ι B₁ m) (suc b) ≡ h.a ∷ [] =
        new_cells u₁ m (suc b) e₁ ∙ ap₂ (λ (y : List ℕ) (z : ℕ). get_or y 0 0 % 2 ^ z ∷ []) c wd ∙ ap (λ (y : ℕ). y ∷ []) h.result.stands in
        record {
          more = more_more (more_line u i) (more_line u₁ m);
          full = full_line u₁ m true;
          sts = refl;
          sigs = refl;
          word =
              rw h.cells_a
              (record {
                single = refl;
                small = rw k.width h.result.small;
                alone = rw d refl;
                fits = rw d (lt_of_lt_of_le h.result.small (pow_mono k.most));
                stands = rw d refl;
                store = λ z. absurd (omega (arith, k.loose refl));
              });
        }
