-- Every line of a flat circuit keeps one step of it and one of its program alike: `alike_line`. Assumes nothing.
use Prim.Native.Nat.{ℕ, suc, ◌+◌, ◌%◌, ◌^◌, ◌≤◌, ◌<◌}
use mathlib.Core.Path.{◌≡◌, refl, sym, ap, ap₂, ◌∙◌, subst, subst⁻¹}
use mathlib.Core.Bool.{Bool, true, false, not}
use mathlib.Core.List.{List, [], ◌∷◌, ◌++◌}
use native.Mathlib.Nat.{mod-lt, mod-eq_of_lt, lt_of_lt_of_le}
use native.Mathlib.Omega.{arith}
use lib.Dec.{eqb}
use lib.ListN.{length, get_or, set, take, drop, replicate, length-set, length-append}
use lib.Seq.{get_or_at, drop-cons, set_split, get_or-set_same, get_or-set_other}
use lib.Pow.{pow_pos, pow_mono}
use Rattle.tables.specs.declared.Ty.{Ty}
use Rattle.tables.specs.Pick.{pick, alike}
use Rattle.tables.specs.Lines.{Line, Expr, bitvec, array, input, state, value, init_or_next, signal, output, unknown, init_or_next_kind}
use Rattle.tables.specs.Types.{rank, ty_at, given}
use Rattle.tables.proofs.Kept.{no_yes}
use Rattle.tables.proofs.Facts.{OkLine, OkValue}
use Rattle.tables.proofs.Values.{val_most}
use Rattle.tables.proofs.Showing.{by_place, snoc_other}
use Rattle.circuits.specs.Cells.{if_nonzero, part, put as put_words}
use Rattle.circuits.specs.Layout.{Layout, type_at, place_at, line_type_in, size, lay, lay_all}
use Rattle.circuits.specs.Meaning.{Signal, signal_byte, Frame, cells_at, word_at, state_words, state_cells, given_words, states_after, eval_line, eval_all}
use Rattle.programs.specs.Uses.{loose_line, loose_expr, needs, needs_binary}
use Rattle.programs.specs.declared.Known.{Known}
use Rattle.programs.specs.Translation.{info, none_known, operand_width, operand_number, loose_of, instructions_of, array_sort_line}
use Rattle.programs.proofs.Grew.{lines, grew_none}
use Rattle.programs.proofs.Laid.{Laid}
use Rattle.programs.proofs.LaidLines.{and_never, typed, fresh_input, fresh_state, fresh_val, laid_line}
use Rattle.programs.proofs.Operator.{narrowed, exact_result}
use Rattle.programs.proofs.Held.{Alike, more_none, more_line, full_line, alike_end, New, holds}
use Rattle.programs.proofs.Needs.{Met}
use Rattle.programs.proofs.Values.{clean, new_val}

-- ---- state words

-- a list with one word put in its place
put_one : (xs : List ℕ) (a x : ℕ) → a < length xs → put_words xs a (x ∷ []) ≡ set xs a x
unfolding put_words
put_one xs a x h = ap (λ (n : ℕ). take a xs ++ (x ∷ drop n xs)) (next_is a) ∙ sym (set_split xs a x h)
  where
    next_is : (a : ℕ) → a + 1 ≡ suc a
    next_is a = omega arith

part_one : (σ : List ℕ) (n : ℕ) → n < length σ → part σ n 1 ≡ get_or σ n 0 ∷ []
part_one σ n h = ap (take 1) (drop-cons σ n 0 h)

-- the circuit takes the word modulo 2 ^ w at each step, the program as the run starts; after that it is small
state_circuit : (g : Bool) (w x : ℕ) → state_words false g w (x ∷ []) ≡ x % 2 ^ w ∷ []
state_circuit true w x = refl
state_circuit false w x = refl

state_program : (g : Bool) (w x : ℕ) → (g ≡ false → x < 2 ^ w) → state_words true g w (x ∷ []) ≡ x % 2 ^ w ∷ []
state_program true w x h = refl
state_program false w x h = ap (λ (y : ℕ). y ∷ []) (sym (mod-eq_of_lt (h refl)))

module _ (W : ℕ → ℕ) where
  -- each word of a list of state words is below its width
  fit_snoc : (xs : List ℕ) (x : ℕ) → ((j : ℕ) → get_or xs j 0 < 2 ^ W j) → x < 2 ^ W (length xs) → (j : ℕ) → get_or (xs ++ (x ∷ [])) j 0 < 2 ^ W j
  fit_snoc xs x h k j =
      by_place j (length xs)
      (λ e. subst⁻¹ (λ (n : ℕ). get_or (xs ++ (x ∷ [])) n 0 < 2 ^ W n) e (rw (get_or_at xs x [] 0 (length xs) refl) k))
      (λ n. rw (snoc_other xs x 0 j n) (h j))

  fit_set : (xs : List ℕ) (a x : ℕ) → ((j : ℕ) → get_or xs j 0 < 2 ^ W j) → a < length xs → x < 2 ^ W a → (j : ℕ) → get_or (set xs a x) j 0 < 2 ^ W j
  fit_set xs a x h l k j =
      by_place j a (λ e. subst⁻¹ (λ (n : ℕ). get_or (set xs a x) n 0 < 2 ^ W n) e (rw (get_or-set_same xs a x 0 l) k)) (λ n. rw (get_or-set_other xs a j x 0 n) (h j))

-- ---- the walks' layouts

pub eval_lay : (p g : Bool) (σ ι : List ℕ) (B : Frame) (ls : List Line) → (eval_all p g σ ι B ls).lay ≡ lay_all p B.lay ls
eval_lay p g σ ι B [] = refl
eval_lay p g σ ι B (l ∷ ls) = eval_lay p g σ ι (eval_line p g σ ι B l) ls

-- what is asked of the state on a line: W has its width, and σ its word
abbrev pub Reads : (W : ℕ → ℕ) (σ : List ℕ) → Layout → Line → Type 0
Reads W σ Y (bitvec w) = Unit {0}
Reads W σ Y (array i e) = Unit {0}
Reads W σ Y (input s) = Unit {0}
Reads W σ Y (state s) = (W Y.counts.states ≡ (type_at Y s).w) × (Y.counts.states < length σ)
Reads W σ Y (value s e) = Unit {0}
Reads W σ Y (init_or_next m s q v) = Unit {0}
Reads W σ Y (signal m a) = Unit {0}
Reads W σ Y (output a) = Unit {0}
Reads W σ Y unknown = Unit {0}

module _ (g : Bool) (σ ι : List ℕ) (W : ℕ → ℕ) (N : ℕ → Bool) (tame : g ≡ false → (j : ℕ) → get_or σ j 0 < 2 ^ W j) (words : (j : ℕ) → get_or ι j 0 < 2 ^ 64) where
  module _ {A B : Frame} {J : List Known} (v : Alike W N A B J) (b : ℕ) (e : b ≡ lines B.lay) where
    abbrev Kept : Line → Type 0
    Kept l = Alike W N (eval_line false g σ ι A l) (eval_all true g σ ι B (instructions_of N J b l).code) (J ++ ((instructions_of N J b l).info ∷ []))

    laid_here : (l : Line) → OkLine false (ty_at A.lay.ctx) (given A.lay.ctx) l → array_sort_line l ≡ false
        → Laid (lay false A.lay l) (eval_all true g σ ι B (instructions_of N J b l).code).lay (J ++ ((instructions_of N J b l).info ∷ []))
    laid_here l k f = subst⁻¹ (λ (Z : Layout). Laid (lay false A.lay l) Z (J ++ ((instructions_of N J b l).info ∷ []))) (eval_lay true g σ ι B (instructions_of N J b l).code) (laid_line v.laid N b l e k f)

    -- ---- value lines

    new_input : (s : ℕ) → OkLine false (ty_at A.lay.ctx) (given A.lay.ctx) (input s)
        → New g σ ι A B (input (operand_width J s)) (input s) (operand_width J s) (loose_line (operand_width J s) 4 false false false)
    new_input s k =
        let w = operand_width J s in
        let ew : (type_at A.lay s).w ≡ w = sym ((v.laid.rel s).sort k.is) in
        let u = get_or ι A.lay.counts.inputs 0 in
        record {
          x = u;
          a = u % 2 ^ w;
          cells_b = ap (λ (n : ℕ). get_or ι n 0 ∷ []) v.laid.inputs;
          cells_a = ap (λ (n : ℕ). u % 2 ^ n ∷ []) ew;
          result = record { fits = words A.lay.counts.inputs; small = mod-lt u (pow_pos w); stands = narrowed w true u (u % 2 ^ w) (words A.lay.counts.inputs) refl };
        }

    line_input : (s : ℕ) → OkLine false (ty_at A.lay.ctx) (given A.lay.ctx) (input s) → Kept (input s)
    line_input s k =
        let lo = loose_line (operand_width J s) 4 false false false in
        let h = holds g σ ι W v.full_b b e lo (N (length J)) (fresh_input v.laid s lo k) (new_input s k) (λ c. absurd (omega arith)) in
        alike_end g σ ι (input s) _ v h.more (laid_here (input s) k refl) h.full (h.sts ∙ v.sts) (h.sigs ∙ v.sigs) v.count v.fit (λ c. h.word)

    line_value : (s : ℕ) (x : Expr) → OkLine false (ty_at A.lay.ctx) (given A.lay.ctx) (value s x) → Met N (needs (value s x)) → Kept (value s x)
    line_value s x k m =
        let lo = loose_expr (loose_of J) (operand_width J s) x in
        let r = fresh_val v.laid s x lo k in
        let h = holds g σ ι W v.full_b b e lo (N (length J)) r (new_val g σ ι v s x k m) (λ c. absurd (omega (arith, val_most false (type_at A.lay) s x))) in
        alike_end g σ ι (value s x) _ v h.more (laid_here (value s x) k refl) h.full (h.sts ∙ v.sts) (h.sigs ∙ v.sigs) v.count v.fit (λ c. h.word)

    -- ---- a state line

    module _ (s : ℕ) (k : OkLine false (ty_at A.lay.ctx) (given A.lay.ctx) (state s)) (r : Reads W σ A.lay (state s)) where
      abbrev cell : ℕ
      cell = get_or σ A.lay.counts.states 0 % 2 ^ (type_at A.lay s).w

      one_size : size (line_type_in false A.lay (state s)) ≡ 1
      one_size = ap (λ (n : ℕ). 2 ^ n) (v.laid.rel s).flat

      cells_circuit : state_cells false g σ A (state s) ≡ cell ∷ []
      cells_circuit =
          ap (state_words false g (type_at A.lay s).w) (ap (part σ A.lay.counts.states) one_size ∙ part_one σ A.lay.counts.states r.1)
          ∙ state_circuit g (type_at A.lay s).w (get_or σ A.lay.counts.states 0)

      cells_program : state_cells true g σ B (state (operand_width J s)) ≡ cell ∷ []
      cells_program =
          ap₂ (λ (t : Ty) (n : ℕ). state_words true g t.w (part σ n (size t))) (fresh_state v.laid s false no_yes k).type v.laid.states
          ∙ ap (state_words true g (type_at A.lay s).w) (ap (part σ A.lay.counts.states) one_size ∙ part_one σ A.lay.counts.states r.1)
          ∙ state_program g (type_at A.lay s).w (get_or σ A.lay.counts.states 0)
          (λ z. subst (λ (n : ℕ). get_or σ A.lay.counts.states 0 < 2 ^ n) r.0 (tame z A.lay.counts.states))

      line_state : Kept (state s)
      line_state =
          let w = operand_width J s in
          let ew : (type_at A.lay s).w ≡ w = sym ((v.laid.rel s).sort k.is) in
          let lo = loose_line w 5 false false false in
          let f = fresh_state v.laid s lo (and_never (not (eqb w 64))) k in
          let small : cell < 2 ^ (type_at A.lay s).w = mod-lt (get_or σ A.lay.counts.states 0) (pow_pos (type_at A.lay s).w) in
          let tight : cell < 2 ^ w = subst (λ (n : ℕ). cell < 2 ^ n) ew small in
          let n : New g σ ι A B (state w) (state s) w lo =
          record {
            x = cell;
            a = cell;
            cells_b = cells_program;
            cells_a = cells_circuit;
            result = exact_result w lo (lt_of_lt_of_le tight (pow_mono f.most)) tight refl;
          } in
          let h = holds g σ ι W v.full_b b e lo (N (length J)) f n (λ c. ap W v.laid.states ∙ r.0 ∙ ew) in
          let same-sts : B.sts ++ state_cells true g σ B (state w) ≡ A.sts ++ state_cells false g σ A (state s) = ap₂ (λ (y z : List ℕ). y ++ z) v.sts (cells_program ∙ sym cells_circuit) in
          alike_end g σ ι (state s) _ v h.more (laid_here (state s) k refl) h.full (h.sts ∙ same-sts) (h.sigs ∙ v.sigs)
          (rw cells_circuit (omega (arith, length-append A.sts (cell ∷ []), v.count, one_size)))
          (rw cells_circuit (fit_snoc W A.sts cell v.fit (rw (v.count, r.0) small))) (λ c. h.word)

    -- ---- lines without a value

    -- the words of a value that is given to a state
    given_is : (m : Bool) (q x : ℕ) → OkValue m q x (type_at A.lay x) → 2 ≤ rank (type_at A.lay x).role
    given_is true q x h = h.word.is
    given_is false q x h = h.is

    needs_init_next : (m : Bool) (q x : ℕ) → Met N (needs_binary (init_or_next_kind m) q x) → N x ≡ true
    needs_init_next true q x h = h.1.0
    needs_init_next false q x h = h.1.0

    needs_signal : (m : Bool) (a : ℕ) → Met N (needs (signal m a)) → N a ≡ true
    needs_signal true a h = h.0
    needs_signal false a h = h.0

    one_given : (C : Frame) (m : Bool) (n x : ℕ) → n ≡ 1 → cells_at C x ≡ word_at C x ∷ [] → given_words C m n x ≡ word_at C x ∷ []
    one_given C true n x z h = ap (λ (y : ℕ). replicate y (word_at C x)) z
    one_given C false n x z h = h

    line_init_or_next : (m : Bool) (s q x : ℕ) → OkLine false (ty_at A.lay.ctx) (given A.lay.ctx) (init_or_next m s q x) → Met N (needs (init_or_next m s q x)) → Kept (init_or_next m s q x)
    line_init_or_next m s q x k n =
        let i = init_or_next m (operand_width J s) (operand_number J q) (operand_number J x) in
        let hq : 2 ≤ rank (type_at A.lay q).role = omega (arith, k.state) in
        let hx = given_is m q x k.value in
        let wx = v.word x hx in
        let rq = (v.laid.rel q).value hq in
        let at = place_at A.lay q in
        let lt : at < length A.sts = omega (arith, v.count, rq.low k.state, v.laid.states) in
        let z : size (type_at A.lay q) ≡ 1 = ap (λ (y : ℕ). 2 ^ y) (v.laid.rel q).flat in
        let zB : size (type_at B.lay (operand_number J q)) ≡ 1 = ap size (typed v.laid q hq) ∙ z in
        let gA : given_words A m (size (type_at A.lay q)) x ≡ word_at A x ∷ [] = one_given A m _ x z wx.single in
        let gB : given_words B m (size (type_at B.lay (operand_number J q))) (operand_number J x) ≡ word_at A x ∷ [] =
        one_given B m _ (operand_number J x) zB wx.alone ∙ ap (λ (y : ℕ). y ∷ []) (clean g σ ι v x hx (needs_init_next m q x n)) in
        let pA : states_after false g σ A (init_or_next m s q x) ≡ pick (alike g m) (set A.sts at (word_at A x)) A.sts =
        ap (λ (y : List ℕ). pick (alike g m) y A.sts) (ap (put_words A.sts at) gA ∙ put_one A.sts at (word_at A x) lt) in
        let pB : states_after true g σ B i ≡ pick (alike g m) (set A.sts at (word_at A x)) A.sts =
        (λ j. pick (alike g m) (put_words (v.sts j) (rq.at k.state j) (gB j)) (v.sts j)) ∙ ap (λ (y : List ℕ). pick (alike g m) y A.sts) (put_one A.sts at (word_at A x) lt) in
        let W-at : W at ≡ (type_at A.lay q).w = ap W (sym (rq.at k.state)) ∙ (v.word q hq).store k.state in
        let fits : word_at A x < 2 ^ W at = subst⁻¹ (λ (y : ℕ). word_at A x < 2 ^ y) (W-at ∙ k.same.w ∙ sym k.w) wx.small in
        alike_end g σ ι (init_or_next m s q x) none_known v (more_line g σ ι v.full_b i) (laid_here (init_or_next m s q x) k refl) (full_line g σ ι v.full_b i true) (pB ∙ sym pA) v.sigs
        (rw pA (long (alike g m) at (word_at A x))) (rw pA (kept (alike g m) at (word_at A x) lt fits)) (λ c. absurd (omega arith))
      where
        long : (t : Bool) (a y : ℕ) → length (pick t (set A.sts a y) A.sts) ≡ A.lay.counts.states
        long true a y = length-set A.sts a y ∙ v.count
        long false a y = v.count

        kept : (t : Bool) (a y : ℕ) → a < length A.sts → y < 2 ^ W a → (j : ℕ) → get_or (pick t (set A.sts a y) A.sts) j 0 < 2 ^ W j
        kept true a y h l = fit_set W A.sts a y v.fit h l
        kept false a y h l = v.fit

    line_signal : (m : Bool) (a : ℕ) → OkLine false (ty_at A.lay.ctx) (given A.lay.ctx) (signal m a) → Met N (needs (signal m a)) → Kept (signal m a)
    line_signal m a k n =
        let i = signal m (operand_number J a) in
        alike_end g σ ι (signal m a) none_known v (more_line g σ ι v.full_b i) (laid_here (signal m a) k refl) (full_line g σ ι v.full_b i true) v.sts
        (ap₂ (λ (y : List Signal) (z : ℕ). y ++ (signal_byte m (if_nonzero z 1 0) ∷ [])) v.sigs (clean g σ ι v a k.word.is (needs_signal m a n))) v.count v.fit (λ c. absurd (omega arith))

    pub alike_line : (l : Line) → OkLine false (ty_at A.lay.ctx) (given A.lay.ctx) l → array_sort_line l ≡ false → Met N (needs l) → Reads W σ A.lay l → Kept l
    alike_line (bitvec w) k f m r =
        alike_end g σ ι (bitvec w) (info w 0 false) v (more_none (grew_none B.lay)) (laid_here (bitvec w) k f) v.full_b v.sts v.sigs v.count v.fit (λ c. absurd (omega arith))
    alike_line (array i j) k f m r = absurd (no_yes (sym f))
    alike_line (input s) k f m r = line_input s k
    alike_line (state s) k f m r = line_state s k r
    alike_line (value s x) k f m r = line_value s x k m
    alike_line (init_or_next t s q x) k f m r = line_init_or_next t s q x k m
    alike_line (signal t a) k f m r = line_signal t a k m
    alike_line (output a) k f m r =
        let i = output (operand_number J a) in
        alike_end g σ ι (output a) none_known v (more_line g σ ι v.full_b i) (laid_here (output a) k f) (full_line g σ ι v.full_b i true) v.sts v.sigs v.count v.fit (λ c. absurd (omega arith))
    alike_line unknown k f m r = absurd k
