-- A flat circuit and its program have the same free state words in the same order, `sources_program`, and the words that a later step begins with are below their states' widths,
-- `fed_tame`. Assumes nothing.
use Prim.Native.Nat.{ℕ, zero, suc, ◌+◌, ◌^◌, ◌<◌}
use mathlib.Core.Path.{◌≡◌, refl, sym, ap, ap₂, ◌∙◌}
use mathlib.Core.Bool.{Bool, true, false, not}
use mathlib.Core.List.{List, [], ◌∷◌, ◌++◌, append-nil}
use native.Mathlib.Nat.{mod-lt}
use native.Mathlib.Omega.{arith}
use native.Mathlib.Decide.{dec_lt}
use lib.Dec.{eqb}
use lib.ListN.{length, get_or, get_or-eq_default}
use lib.Pow.{pow_pos}
use Rattle.tables.specs.declared.Ty.{Ty}
use Rattle.tables.specs.Lines.{Line, bitvec, array, input, state, value, init_or_next, signal, output, unknown}
use Rattle.tables.specs.Types.{rank, ty_at, given, no_ctx}
use Rattle.tables.proofs.Kept.{neither}
use Rattle.tables.proofs.Facts.{OkLine, AllOk}
use Rattle.tables.proofs.Showing.{earlier}
use Rattle.circuits.specs.Layout.{Layout, type_at, lay, lay_all, no_layout, layout}
use Rattle.circuits.specs.Free.{Source, driven, free, source_of, cell_sources, sources_here, sources_from, sources, fed}
use Rattle.circuits.proofs.Sources.{sources_append, fed_many, fed_word, fed_at}
use Rattle.programs.specs.Uses.{loose_line, has_needing_use}
use Rattle.programs.specs.declared.Known.{Known}
use Rattle.programs.specs.Translation.{none_known, operand_width, operand_number, with_mask, instructions_of, array_sort_line, has_array, translate_from, translate}
use Rattle.programs.proofs.Grew.{lines, new_type}
use Rattle.programs.proofs.Laid.{Laid}
use Rattle.programs.proofs.LaidLines.{and_never, sorted, laid_line, lay_all_append, lines_more, laid_start}
use Rattle.programs.proofs.Once.{Once, once_start, old_type, old_number, new_number}
use Rattle.programs.proofs.Accepted.{once_line}

-- ---- the widths of the state words

abbrev pub width_here : Layout → Line → List ℕ
width_here Y (bitvec w) = []
width_here Y (array i e) = []
width_here Y (input s) = []
width_here Y (state s) = (type_at Y s).w ∷ []
width_here Y (value s e) = []
width_here Y (init_or_next m s q v) = []
width_here Y (signal m a) = []
width_here Y (output a) = []
width_here Y unknown = []

abbrev pub widths_from : Layout → List Line → List ℕ
widths_from Y [] = []
widths_from Y (l ∷ ls) = width_here Y l ++ widths_from (lay false Y l) ls

-- the width of each state word of F
abbrev pub state_width : List Line → ℕ → ℕ
state_width F j = get_or (widths_from no_layout F) j 0

-- the state words of F are below their widths
abbrev pub Tame : List Line → List ℕ → Type 0
Tame F σ = (j : ℕ) → get_or σ j 0 < 2 ^ state_width F j

-- ---- the sources of one line

-- a mask is no state
masked_sources : (h : ℕ → Bool) (Z : Layout) (b w : ℕ) (i : Line) (lo n : Bool) → sources_from true h Z (with_mask b w i lo n).code ≡ sources_here true h Z i
masked_sources h Z b w i false n = append-nil (sources_here true h Z i)
masked_sources h Z b w i true false = append-nil (sources_here true h Z i)
masked_sources h Z b w i true true = append-nil (sources_here true h Z i)

-- a line that is not loose is known by its own instruction
own_number : (b w : ℕ) (i : Line) (lo n : Bool) → (lo ≡ true → ⊥) → (with_mask b w i lo n).info.number ≡ b
own_number b w i false n h = refl
own_number b w i true n h = absurd (h refl)

-- hY and hZ say which lines a next line sets, among all lines, those behind l too
module _ {Y Z : Layout} {J : List Known} (v : Laid Y Z J) (o : Once Y Z J) (N : ℕ → Bool) (b : ℕ) (e : b ≡ lines Z) (hY hZ : ℕ → Bool) where
  here_same : (l : Line) → OkLine false (ty_at Y.ctx) (given Y.ctx) l → ((q : ℕ) → rank (type_at (lay false Y l) q).role ≡ 4 → hZ (operand_number (J ++ ((instructions_of N J b l).info ∷ [])) q) ≡ hY q)
      → sources_from true hZ Z (instructions_of N J b l).code ≡ sources_here false hY Y l
  here_same (bitvec w) k g = refl
  here_same (array i j) k g = refl
  here_same (input s) k g = rw masked_sources
  here_same (state s) k g =
      let w = operand_width J s in
      let lo = loose_line w 5 false false false in
      let f = (instructions_of N J b (state s)).info in
      let n : operand_number (J ++ (f ∷ [])) (lines Y) ≡ length Z.places = new_number v o (state s) f ∙ own_number b w (state w) lo (N (length J)) (and_never (not (eqb w 64))) ∙ e ∙ sym v.even_z.alike in
      let h : hZ (length Z.places) ≡ hY (length Y.places) = ap hZ (sym n) ∙ g (lines Y) (ap (λ (t : Ty). rank t.role) (new_type false v.even_y (state s) (lines Y) refl)) ∙ ap hY (sym v.even_y.alike) in
      masked_sources hZ Z b w (state w) lo (N (length J)) ∙ ap₂ cell_sources h (sorted v s k.is)
  here_same (value s x) k g = rw masked_sources
  here_same (init_or_next m s q x) k g = refl
  here_same (signal m a) k g = refl
  here_same (output a) k g = refl
  here_same unknown k g = refl

-- ---- widths of free words

-- a word of the row is taken modulo 2 ^ w, where w is its state's width
abbrev Suits : Source → (w : ℕ) → Type 0
Suits driven w = Unit {0}
Suits (free n) w = n ≡ w

suits_cons : (b : Bool) (w : ℕ) (ss : List Source) (ws : List ℕ) → ((j : ℕ) → Suits (get_or ss j driven) (get_or ws j 0)) → (j : ℕ) → Suits (get_or (source_of b w ∷ ss) j driven) (get_or (w ∷ ws) j 0)
suits_cons true w ss ws f zero = tt
suits_cons false w ss ws f zero = refl
suits_cons true w ss ws f (suc j) = f j
suits_cons false w ss ws f (suc j) = f j

suits_line : (h : ℕ → Bool) (Y : Layout) (l : Line) (ss : List Source) (ws : List ℕ) → ((s : ℕ) → (type_at Y s).iw ≡ 0) → ((j : ℕ) → Suits (get_or ss j driven) (get_or ws j 0))
    → (j : ℕ) → Suits (get_or (sources_here false h Y l ++ ss) j driven) (get_or (width_here Y l ++ ws) j 0)
suits_line h Y (bitvec w) ss ws z f = f
suits_line h Y (array i e) ss ws z f = f
suits_line h Y (input s) ss ws z f = f
suits_line h Y (state s) ss ws z f = rw (z s) (suits_cons (h (length Y.places)) (type_at Y s).w ss ws f)
suits_line h Y (value s x) ss ws z f = f
suits_line h Y (init_or_next m s q x) ss ws z f = f
suits_line h Y (signal m a) ss ws z f = f
suits_line h Y (output a) ss ws z f = f
suits_line h Y unknown ss ws z f = f

fed_small : (s : Source) (w x y : ℕ) → Suits s w → x < 2 ^ w → fed_word s x y < 2 ^ w
fed_small driven w x y e h = h
fed_small (free n) w x y e h = rw (← e) (mod-lt y (pow_pos n))

fed_below : (ss : List Source) (ws left row : List ℕ) → ((j : ℕ) → Suits (get_or ss j driven) (get_or ws j 0)) → ((j : ℕ) → get_or left j 0 < 2 ^ get_or ws j 0) → (j : ℕ) → Dec (j < length ss)
    → get_or (fed ss left row) j 0 < 2 ^ get_or ws j 0
fed_below ss ws left row f h j (yes l) = rw (fed_at ss left row j l) (fed_small (get_or ss j driven) (get_or ws j 0) (get_or left j 0) _ (f j) (h j))
fed_below ss ws left row f h j (no l) = rw (get_or-eq_default (fed ss left row) 0 {n = j} (omega (arith, fed_many ss left row))) (pow_pos (get_or ws j 0))

-- ---- all lines

-- The lines ls come after those of Y, their instructions P after those of Z. A state of Y has a next line in both or in neither, wherever that stands, and the state words of ls
-- have the same sources.
record Cells (Y Z : Layout) (J : List Known) (ls P : List Line) : Type 0 where
  nexts : (q : ℕ) → rank (type_at Y q).role ≡ 4 → given (lay_all true Z P).ctx false (operand_number J q) ≡ given (lay_all false Y ls).ctx false q
  same : sources_from true (given (lay_all true Z P).ctx false) Z P ≡ sources_from false (given (lay_all false Y ls).ctx false) Y ls
  suits : (j : ℕ) → Suits (get_or (sources_from false (given (lay_all false Y ls).ctx false) Y ls) j driven) (get_or (widths_from Y ls) j 0)

cells_all : {Y Z : Layout} {J : List Known} (N : ℕ → Bool) (b : ℕ) (ls : List Line) → Laid Y Z J → Once Y Z J → b ≡ lines Z → AllOk false Y.ctx ls → has_array ls ≡ false
    → Cells Y Z J ls (translate_from N J b ls)
cells_all N b [] v o e k f = record { nexts = o.same false; same = refl; suits = λ j. tt }
cells_all {Y} {Z} {J} N b (l ∷ ls) v o e k f =
    let c = instructions_of N J b l in
    let P = translate_from N (J ++ (c.info ∷ [])) (b + length c.code) ls in
    let g = neither (array_sort_line l) (has_array ls) f in
    let r = cells_all {Y = lay false Y l} N (b + length c.code) ls (laid_line v N b l e k.0 g.0) (once_line v o N b l e k.0 g.0) (omega (arith, lines_more true Z v.even_z c.code)) k.1 g.1 in
    let hY : (ℕ → Bool) = given (lay_all false Y (l ∷ ls)).ctx false in
    let hZ : (ℕ → Bool) = given (lay_all true (lay_all true Z c.code) P).ctx false in
    record {
      nexts = λ q t.
          let early : q < lines Y = earlier Y.ctx.tys q (omega arith) in
          rw (lay_all_append true Z c.code) (ap hZ (sym (old_number v o l c.info q early)) ∙ r.nexts q (ap (λ (x : Ty). rank x.role) (old_type v o l c.info q early) ∙ t));
      same =
          rw (lay_all_append true Z c.code)
          (sources_append true hZ Z c.code P ∙ ap₂ (λ (xs ys : List Source). xs ++ ys) (here_same v o N b e hY hZ l k.0 r.nexts) r.same);
      suits = suits_line hY Y l (sources_from false hY (lay false Y l) ls) (widths_from (lay false Y l) ls) (λ s. (v.rel s).flat) r.suits;
    }

module _ (F : List Line) (ok : AllOk false no_ctx F) (flat : has_array F ≡ false) where
  cells : Cells no_layout no_layout (none_known ∷ []) F (translate_from (has_needing_use F) (none_known ∷ []) 1 F)
  cells = cells_all (has_needing_use F) 1 F laid_start once_start refl ok flat

  pub sources_program : sources true (translate F) ≡ sources false F
  unfolding sources layout translate
  sources_program = cells.same

  -- of words below their widths, which the last step left
  pub fed_tame : (left row : List ℕ) → Tame F left → Tame F (fed (sources false F) left row)
  unfolding sources layout
  fed_tame left row h j = fed_below (sources false F) (widths_from no_layout F) left row cells.suits h j (dec_lt j (length (sources false F)))
