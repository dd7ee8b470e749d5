-- A line on the work area does what the line means, and asks no more than the rules give. Assumes nothing.
use Prim.Native.Nat.{ℕ, zero, suc, ◌+◌, ◌^◌, ◌≤◌, ◌<◌}
use mathlib.Core.Path.{◌≡◌, refl, sym, ap, ap₂, ◌∙◌, subst}
use mathlib.Core.Logic.{⊎_elim}
use mathlib.Core.Bool.{Bool, true, false}
use mathlib.Core.List.{List, [], ◌∷◌, ◌++◌}
use native.Mathlib.Omega.{arith}
use native.Mathlib.Nat.{mod-lt}
use lib.Pow.{pow_pos, pow_mono}
use lib.ListN.{length, get_or, set, replicate, length-set, length-replicate, get_or-eq_default}
use Rattle.words.specs.Word.{Width, bit}
use Rattle.words.specs.Op.{op_of}
use Rattle.words.specs.Circuit.{circ}
use Rattle.words.proofs.Bounds.{circ_lt}
use Rattle.tables.specs.declared.Ty.{Ty}
use Rattle.tables.specs.Pick.{pick, alike}
use Rattle.tables.specs.Lines.{Line, Expr}
use Rattle.tables.specs.Types.{rank, sort_at, ty_at, given}
use Rattle.tables.proofs.Kept.{no_yes}
use Rattle.tables.proofs.Shapes.{binary_range}
use Rattle.tables.proofs.Showing.{earlier}
use Rattle.tables.proofs.Values.{val_iw, val_w, val_value}
use Rattle.tables.proofs.Wide.{Wide, sort_wide, line_wide}
use Rattle.tables.proofs.Facts.{IsWord, OkUnary, OkBinary, OkExpr, OkValue, OkInitOrNext, OkLine}
use Rattle.circuits.specs.Cells.{if_nonzero, eq_or_neq, same_cells, mask_words, part, put}
use Rattle.circuits.specs.Layout.{Layout, type_at, place_at, size, line_type_in, place_of, lay}
use Rattle.circuits.specs.Meaning.{op_word, cells_e, input_word, state_words, Frame, cells_at, word_at, width_at, given_words, cells_of, states_after, eval_line}
use Rattle.circuits.specs.Model.Work.{off_in, num_in, pos_in, wid_in, word_kept, cells_kept, expr_in, state_in, stored_in, work_in}
use Rattle.circuits.specs.Model.Fits.{WordBelow, RunBelow, FitWord, FitE, Own, FitInitOrNext, FitL}
use Rattle.circuits.specs.Model.Places.{off_at, Shown, ShowsAll}
use Rattle.circuits.specs.Model.Passes.{spot_by}
use Rattle.circuits.proofs.Puts as laws
use Rattle.circuits.proofs.Fitting.{fit_unary, fit_binary, least_one, plain_one, fit_as}
use Rattle.circuits.proofs.Offsets.{off_new, off_old}
use Rattle.circuits.proofs.Laid.{Sound, low, sound_more, type_new, place_new, type_old, place_old, more_places}
use Rattle.circuits.proofs.Held.{Holds, holds_alike, cells_at_lem, word_at_lem, holds_quiet, holds_value, Kept, kept_below, kept_state, kept_init_next, state_words_lem, Held}

-- ---- small words

one_small : (v w j : ℕ) → v < 2 ^ w → get_or (v ∷ []) j 0 < 2 ^ w
one_small v w zero h = h
one_small v w (suc j) h = pow_pos w

set_small : (xs : List ℕ) (i v b : ℕ) → 0 < b → ((j : ℕ) → get_or xs j 0 < b) → v < b → (j : ℕ) → get_or (set xs i v) j 0 < b
set_small [] i v b z f h j = z
set_small (x ∷ xs) zero v b z f h zero = h
set_small (x ∷ xs) zero v b z f h (suc j) = f (suc j)
set_small (x ∷ xs) (suc i) v b z f h zero = f zero
set_small (x ∷ xs) (suc i) v b z f h (suc j) = set_small xs i v b z (λ k. f (suc k)) h j

pub choose_has : (P : List ℕ → Type 0) (c : ℕ) (x y : List ℕ) → P x → P y → P (if_nonzero c x y)
choose_has P zero x y p q = q
choose_has P (suc c) x y p q = p

bit_small : (b : Bool) (w : ℕ) → 1 ≤ w → bit b < 2 ^ w
bit_small true w h = let k : 2 ^ 1 ≤ 2 ^ w = pow_mono h in omega arith
bit_small false w h = pow_pos w

lows_small : (d : ℕ) (xs : List ℕ) (j : ℕ) → get_or (mask_words d xs) j 0 < 2 ^ d
lows_small d [] j = pow_pos d
lows_small d (x ∷ xs) zero = mod-lt x (pow_pos d)
lows_small d (x ∷ xs) (suc j) = lows_small d xs j

op_small : (p : Bool) (k w u v a b c : ℕ) → p ≡ false → FitWord p k w u v a b c → op_word p k u v a b c < 2 ^ w
op_small false k w u v a b c e h =
    let l = h.below refl in
    subst (λ (n : ℕ). circ (op_of k) u v a b c < 2 ^ n) (sym l.width) (circ_lt u v a b c h.wide l.first l.second l.third (op_of k) h.widths)
op_small true k w u v a b c e h = absurd (no_yes (sym e))

input_small : (p : Bool) (w x : ℕ) → p ≡ false → input_word p w x < 2 ^ w
input_small false w x e = mod-lt x (pow_pos w)
input_small true w x e = absurd (no_yes (sym e))

pub state_small : (p f : Bool) (d : ℕ) (xs : List ℕ) → p ≡ false → (j : ℕ) → get_or (state_words p f d xs) j 0 < 2 ^ d
state_small false true d xs e j = lows_small d xs j
state_small false false d xs e j = lows_small d xs j
state_small true f d xs e j = absurd (no_yes (sym e))

pub state_length : (p f : Bool) (d : ℕ) (xs : List ℕ) → length (state_words p f d xs) ≡ length xs
state_length false true d xs = laws.length_lows d xs
state_length false false d xs = laws.length_lows d xs
state_length true true d xs = laws.length_lows d xs
state_length true false d xs = refl

-- what a value's cells must be
record Vals (p : Bool) (xs ys : List ℕ) (t : Ty) : Type 0 where
  is : xs ≡ ys
  len : length ys ≡ size t
  small : p ≡ false → (j : ℕ) → get_or ys j 0 < 2 ^ t.w

-- ---- a line after those that the work area holds

module _ {p : Bool} {all : ℕ} {σ w : List ℕ} {A : Frame} (H : Held p all σ w A) (room : A.lay.counts.cells ≤ all) (l : Line) (P : List (List ℕ))
    (sh : ShowsAll P (lay p A.lay l)) where
  abbrev Y : Layout
  Y = A.lay

  there : (a : ℕ) → 1 ≤ rank (type_at A.lay a).role → a < length A.lay.ctx.tys
  there a q = earlier A.lay.ctx.tys a q

  shown : (a : ℕ) → 1 ≤ rank (type_at A.lay a).role → Shown P a (type_at A.lay a) (off_at A.lay a) (place_at A.lay a)
  shown a q =
      let h = there a q in
      let ne : a ≡ length A.lay.ctx.tys → ⊥ = λ e. omega arith in
      let s = sh a (omega (arith, more_places p A.lay l, H.sound.long)) in
      rw (type_old p A.lay l H.sound.long a ne, off_old p A.lay l a ne, place_old p A.lay l H.sound.long a ne) at s

  pub mine : Shown P (length A.lay.ctx.tys) (line_type_in p A.lay l) (spot_by A.lay.counts l).off (place_of A.lay l)
  mine =
      let s = sh (length A.lay.ctx.tys) (omega (arith, more_places p A.lay l, H.sound.long)) in
      rw (type_new p A.lay l H.sound.long, off_new p A.lay l H.sound.counted, place_new p A.lay l H.sound.long) at s

  run_of : (a : ℕ) → 2 ≤ rank (type_at A.lay a).role → cells_kept P w a ≡ cells_at A a
  run_of a q = ap₂ (part w) (shown a (omega arith)).is_off (shown a (omega arith)).is_num ∙ cells_at_lem H.sound H.holds a q

  pub word_of : (a : ℕ) → IsWord (type_at A.lay a) → word_kept P w a ≡ word_at A a
  word_of a q = ap (λ (n : ℕ). get_or w n 0) (shown a (omega (arith, q.is))).is_off ∙ word_at_lem H.sound H.holds a q

  wid_of : (a : ℕ) → 2 ≤ rank (type_at A.lay a).role → wid_in P a ≡ width_at A a
  wid_of a q = (shown a (omega arith)).is_wid

  inside : (a : ℕ) → 2 ≤ rank (type_at A.lay a).role → off_at A.lay a + size (type_at A.lay a) ≤ length w
  inside a q = let h = low H.sound a q in let n = H.kept.len in omega arith

  len_of : (a : ℕ) → 2 ≤ rank (type_at A.lay a).role → length (cells_at A a) ≡ size (type_at A.lay a)
  len_of a q = ap length (sym (cells_at_lem H.sound H.holds a q)) ∙ laws.length_part w (off_at A.lay a) (size (type_at A.lay a)) (inside a q)

  small_of : p ≡ false → (a : ℕ) → 2 ≤ rank (type_at A.lay a).role → (j : ℕ) → get_or (cells_at A a) j 0 < 2 ^ (type_at A.lay a).w
  small_of e a q j =
      ⊎_elim (λ lt. subst (λ (x : ℕ). x < 2 ^ (type_at A.lay a).w) (sym (ap (λ (x : List ℕ). get_or x j 0) (sym (cells_at_lem H.sound H.holds a q)) ∙ laws.part_get_or w (off_at A.lay a) (size (type_at A.lay a)) j lt)) (H.holds.small e a q j lt))
      (λ ge. subst (λ (x : ℕ). x < 2 ^ (type_at A.lay a).w) (sym (get_or-eq_default (cells_at A a) 0 (omega (arith, len_of a q)))) (pow_pos (type_at A.lay a).w))
      (laws.lt_or_ge j (size (type_at A.lay a)))

  width_of : (a : ℕ) → 2 ≤ rank (type_at A.lay a).role → Width (type_at A.lay a).w
  width_of a q = let h = H.sound.wide a (omega arith) in record { least = h.least; most = h.most }

  -- ---- word operators

  pub word_one : (t : Ty) (k a x y : ℕ) → t.w ≤ 64 → OkUnary p t k (type_at A.lay a) x y → FitWord p k t.w (width_at A a) 64 (word_at A a) x y
  word_one t k a x y h ok =
      let s = fit_unary p t (type_at A.lay a) k x y h ok in
      let u = width_of a ok.arg.is in
      let b = plain_one p t (type_at A.lay a) k x y h u.most ok in
      record {
        least = least_one p k ok.kind;
        wide = u;
        widths = s.widths;
        below = λ e. record { first = small_of e a ok.arg.is 0; second = b.0; third = b.1; width = s.width };
      }

  pub word_two : (t : Ty) (k a b : ℕ) → t.w ≤ 64 → OkBinary t k (type_at A.lay a) (type_at A.lay b) → FitWord p k t.w (width_at A a) (width_at A b) (word_at A a) (word_at A b) 0
  word_two t k a b h ok =
      let s = fit_binary t (type_at A.lay a) (type_at A.lay b) k (word_at A b) 0 h ok in
      record {
        least = omega (arith, binary_range ok.kind);
        wide = width_of a ok.left.is;
        widths = s.widths;
        below = λ e. record { first = small_of e a ok.left.is 0; second = small_of e b ok.right.is 0; third = pow_pos (width_at A b); width = s.width };
      }

  -- ---- the cells of an expression, over the work area and over the values so far; t is the line's sort

  one_vals : (x y : ℕ) (t : Ty) → t.iw ≡ 0 → x ≡ y → (p ≡ false → y < 2 ^ t.w) → Vals p (x ∷ []) (y ∷ []) t
  one_vals x y t e q h = record { is = ap (λ (v : ℕ). v ∷ []) q; len = ap (λ (n : ℕ). 2 ^ n) (sym e); small = λ f j. one_small y t.w j (h f) }

  vals : (t : Ty) → t.w ≤ 64 → (e : Expr) → OkExpr p (ty_at A.lay.ctx) t e → Vals p (expr_in p P w e) (cells_e p (width_at A) (word_at A) (cells_at A) e) t
  vals t h (Expr.const v) ok = one_vals v v t ok.sort.flat refl (λ f. ok.fits)
  vals t h (Expr.unary k a x y) ok =
      one_vals _ _ t ok.sort.flat (ap₂ (λ (u b : ℕ). op_word p k u 64 b x y) (wid_of a ok.arg.is) (word_of a ok.arg)) (λ f. op_small p k t.w (width_at A a) 64 (word_at A a) x y f (word_one t k a x y h ok))
  vals t h (Expr.binary k a b) ok =
      one_vals _ _ t ok.sort.flat
      (ap₂ (λ (u v : ℕ). op_word p k u v (word_kept P w a) (word_kept P w b) 0) (wid_of a ok.left.is) (wid_of b ok.right.is)
      ∙ ap₂ (λ (x y : ℕ). op_word p k (width_at A a) (width_at A b) x y 0) (word_of a ok.left) (word_of b ok.right))
      (λ f. op_small p k t.w (width_at A a) (width_at A b) (word_at A a) (word_at A b) 0 f (word_two t k a b h ok))
  vals t h (Expr.equality e a b) ok =
      one_vals _ _ t ok.sort.flat (ap₂ (λ (x y : List ℕ). bit (eq_or_neq e (same_cells x y))) (run_of a ok.left.is) (run_of b ok.right.is))
      (λ f. bit_small (eq_or_neq e (same_cells (cells_at A a) (cells_at A b))) t.w (omega (arith, ok.bit)))
  vals t h (Expr.ite d a b) ok =
      record {
        is = ap (λ (n : ℕ). if_nonzero n (cells_kept P w a) (cells_kept P w b)) (word_of d ok.cond) ∙ ap₂ (if_nonzero (word_at A d)) (run_of a ok.left.is) (run_of b ok.right.is);
        len = choose_has (λ (x : List ℕ). length x ≡ size t) (word_at A d) (cells_at A a) (cells_at A b)
            (len_of a ok.left.is ∙ ap (λ (n : ℕ). 2 ^ n) ok.same_a.iw) (len_of b ok.right.is ∙ ap (λ (n : ℕ). 2 ^ n) ok.same_b.iw);
        small = λ f. choose_has (λ (x : List ℕ). (j : ℕ) → get_or x j 0 < 2 ^ t.w) (word_at A d) (cells_at A a) (cells_at A b)
            (λ j. subst (λ (n : ℕ). get_or (cells_at A a) j 0 < 2 ^ n) ok.same_a.w (small_of f a ok.left.is j))
            (λ j. subst (λ (n : ℕ). get_or (cells_at A b) j 0 < 2 ^ n) ok.same_b.w (small_of f b ok.right.is j));
      }
  vals t h (Expr.read a i) ok =
      one_vals _ _ t ok.sort.flat (ap₂ (λ (x : List ℕ) (n : ℕ). get_or x n 0) (run_of a ok.arr.is) (word_of i ok.index))
      (λ f. subst (λ (n : ℕ). get_or (cells_at A a) (word_at A i) 0 < 2 ^ n) ok.wide (small_of f a ok.arr.is (word_at A i)))
  vals t h (Expr.write a i v) ok =
      record {
        is = ap₂ (λ (x : List ℕ) (n : ℕ). set x n (word_kept P w v)) (run_of a ok.arr.is) (word_of i ok.index) ∙ ap (set (cells_at A a) (word_at A i)) (word_of v ok.value);
        len = length-set (cells_at A a) (word_at A i) (word_at A v) ∙ len_of a ok.arr.is ∙ ap (λ (n : ℕ). 2 ^ n) ok.same.iw;
        small = λ f. set_small (cells_at A a) (word_at A i) (word_at A v) (2 ^ t.w) (pow_pos t.w)
            (λ j. subst (λ (n : ℕ). get_or (cells_at A a) j 0 < 2 ^ n) ok.same.w (small_of f a ok.arr.is j))
            (subst (λ (n : ℕ). word_at A v < 2 ^ n) ok.vw (small_of f v ok.value.is 0));
      }

  -- ---- what a line asks of the work area

  below : (a : ℕ) → 2 ≤ rank (type_at A.lay a).role → off_in P a + num_in P a ≤ A.lay.counts.cells
  below a q = let h = low H.sound a q in omega (arith, (shown a (omega arith)).is_off, (shown a (omega arith)).is_num)

  run_fit : (m a : ℕ) → A.lay.counts.cells ≤ m → 2 ≤ rank (type_at A.lay a).role → RunBelow P m a
  run_fit m a h q = record { known = (shown a (omega arith)).known; ends = omega (arith, below a q) }

  word_fit : (m a : ℕ) → A.lay.counts.cells ≤ m → 2 ≤ rank (type_at A.lay a).role → WordBelow P m a
  word_fit m a h q = record { known = (shown a (omega arith)).known; below = omega (arith, below a q, (shown a (omega arith)).is_num, pow_pos (type_at A.lay a).iw) }

  index_fit : p ≡ false → (i a : ℕ) → IsWord (type_at A.lay i) → 2 ≤ rank (type_at A.lay a).role → (type_at A.lay i).w ≡ (type_at A.lay a).iw → word_kept P w i < num_in P a
  index_fit f i a q r e =
      subst (λ (n : ℕ). word_kept P w i < n) (ap (λ (n : ℕ). 2 ^ n) e ∙ sym (shown a (omega arith)).is_num) (subst (λ (x : ℕ). x < 2 ^ width_at A i) (sym (word_of i q)) (small_of f i q.is 0))

  module _ (at_end : (spot_by A.lay.counts l).off ≡ A.lay.counts.cells) (t : Ty) (same-iw : (line_type_in p A.lay l).iw ≡ t.iw) (same_w : (line_type_in p A.lay l).w ≡ t.w) where
    here : A.lay.counts.cells ≤ off_in P (length A.lay.ctx.tys)
    here = omega (arith, mine.is_off)

    wid_here : wid_in P (length A.lay.ctx.tys) ≡ t.w
    wid_here = mine.is_wid ∙ same_w

    num_here : (a : ℕ) → 2 ≤ rank (type_at A.lay a).role → (type_at A.lay a).iw ≡ t.iw → num_in P a ≡ num_in P (length A.lay.ctx.tys)
    num_here a q e = (shown a (omega arith)).is_num ∙ ap (λ (n : ℕ). 2 ^ n) (e ∙ sym same-iw) ∙ sym mine.is_num

    fit_expr : t.w ≤ 64 → (e : Expr) → OkExpr p (ty_at A.lay.ctx) t e → FitE p P w (length A.lay.ctx.tys) e
    fit_expr h (Expr.const v) ok = tt
    fit_expr h (Expr.unary k a x y) ok =
        record { la = word_fit _ a here ok.arg.is; op = fit_as wid_here (wid_of a ok.arg.is) refl (word_of a ok.arg) refl (word_one t k a x y h ok) }
    fit_expr h (Expr.binary k a b) ok =
        record {
          la = word_fit _ a here ok.left.is;
          lb = word_fit _ b here ok.right.is;
          op = fit_as wid_here (wid_of a ok.left.is) (wid_of b ok.right.is) (word_of a ok.left) (word_of b ok.right) (word_two t k a b h ok);
        }
    fit_expr h (Expr.equality e a b) ok =
        record {
          la = run_fit _ a here ok.left.is;
          lb = run_fit _ b here ok.right.is;
          size = (shown b (omega (arith, ok.right.is))).is_num ∙ ap (λ (n : ℕ). 2 ^ n) ok.same.iw ∙ sym (shown a (omega (arith, ok.left.is))).is_num;
        }
    fit_expr h (Expr.ite d a b) ok =
        record {
          lc = word_fit _ d here ok.cond.is;
          la = run_fit _ a here ok.left.is;
          lb = run_fit _ b here ok.right.is;
          size_a = num_here a ok.left.is ok.same_a.iw;
          size_b = num_here b ok.right.is ok.same_b.iw;
        }
    fit_expr h (Expr.read a i) ok =
        record { la = run_fit _ a here ok.arr.is; li = word_fit _ i here ok.index.is; inside = index_fit ok.form i a ok.index ok.arr.is ok.iw }
    fit_expr h (Expr.write a i v) ok =
        record {
          la = run_fit _ a here ok.arr.is;
          li = word_fit _ i here ok.index.is;
          lv = word_fit _ v here ok.value.is;
          size = num_here a ok.arr.is ok.same.iw;
          inside = index_fit ok.form i a ok.index ok.arr.is (ok.iw ∙ sym ok.same.iw);
        }

  fit_own : (spot_by A.lay.counts l).off ≡ A.lay.counts.cells → A.lay.counts.cells + size (line_type_in p A.lay l) ≤ all → Wide (line_type_in p A.lay l) → Own P (length w) (length A.lay.ctx.tys)
  fit_own e h k =
      record {
        word = record { known = mine.known; below = omega (arith, mine.is_off, H.kept.len, pow_pos (line_type_in p A.lay l).iw) };
        wide = subst (λ (n : ℕ). Width n) (sym mine.is_wid) (record { least = k.least; most = k.most });
        run = record { known = mine.known; ends = omega (arith, mine.is_off, mine.is_num, H.kept.len) };
      }

  -- ---- init and next

  state_room : (q : ℕ) → rank (type_at A.lay q).role ≡ 4 → place_at A.lay q + size (type_at A.lay q) ≤ A.lay.counts.states
  state_room q e = H.sound.room q e

  init_next_value : (m : Bool) (q v : ℕ) (b : Ty) → OkValue m q v b → 2 ≤ rank b.role
  init_next_value true q v b ok = ok.word.is
  init_next_value false q v b ok = ok.is

  fit_init_next : (m : Bool) (s q v : ℕ) → OkInitOrNext m (given A.lay.ctx) (sort_at p (ty_at A.lay.ctx) s) (type_at A.lay q) (type_at A.lay v) q v → A.lay.counts.states ≤ length σ
      → FitInitOrNext m P all (length w) q v
  fit_init_next true s q v ok h =
      let r = shown q (omega (arith, ok.state)) in
      record {
        known = r.known;
        value = word_fit (length w) v (omega (arith, H.kept.len)) ok.value.word.is;
        words = omega (arith, state_room q ok.state, r.is_pos, r.is_num, H.kept.len);
      }
  fit_init_next false s q v ok h =
      let r = shown q (omega (arith, ok.state)) in
      record {
        known = r.known;
        value = run_fit all v room ok.value.is;
        size = (shown v (omega (arith, ok.value.is))).is_num ∙ ap (λ (n : ℕ). 2 ^ n) (ok.iw ∙ sym ok.same.iw) ∙ sym r.is_num;
        words = omega (arith, state_room q ok.state, r.is_pos, r.is_num, H.kept.len);
      }

  gives : (m : Bool) (s q v : ℕ) → OkInitOrNext m (given A.lay.ctx) (sort_at p (ty_at A.lay.ctx) s) (type_at A.lay q) (type_at A.lay v) q v
      → stored_in P w m q v ≡ given_words A m (size (type_at A.lay q)) v
  gives true s q v ok = ap₂ (λ (n x : ℕ). replicate n x) (shown q (omega (arith, ok.state))).is_num (word_of v ok.value.word)
  gives false s q v ok = run_of v ok.value.is

  gives_len : (m : Bool) (s q v : ℕ) → OkInitOrNext m (given A.lay.ctx) (sort_at p (ty_at A.lay.ctx) s) (type_at A.lay q) (type_at A.lay v) q v
      → length (given_words A m (size (type_at A.lay q)) v) ≡ size (type_at A.lay q)
  gives_len true s q v ok = length-replicate (size (type_at A.lay q)) (word_at A v)
  gives_len false s q v ok = len_of v ok.value.is ∙ ap (λ (n : ℕ). 2 ^ n) (ok.iw ∙ sym ok.same.iw)

  place_of_lem : (q : ℕ) → rank (type_at A.lay q).role ≡ 4 → pos_in P q ≡ place_at A.lay q
  place_of_lem q e = (shown q (omega arith)).is_pos

-- ---- one line

pub is_sort_lem : (p : Bool) (L : ℕ → Ty) (t : Ty) (e : Expr) → OkExpr p L t e → rank t.role ≡ 1
is_sort_lem p L t (Expr.const v) ok = ok.sort.is
is_sort_lem p L t (Expr.unary k a x y) ok = ok.sort.is
is_sort_lem p L t (Expr.binary k a b) ok = ok.sort.is
is_sort_lem p L t (Expr.equality e a b) ok = ok.sort.is
is_sort_lem p L t (Expr.ite c a b) ok = ok.sort.is
is_sort_lem p L t (Expr.read a i) ok = ok.sort.is
is_sort_lem p L t (Expr.write a i v) ok = ok.sort.is

module _ (p f : Bool) (P : List (List ℕ)) (all : ℕ) (σ ι w : List ℕ) (A : Frame) (H : Held p all σ w A) where
  -- a line that has no value and stores nothing
  quiet : (l : Line) → Sound (lay p A.lay l) → rank (line_type_in p A.lay l).role < 2 → (lay p A.lay l).counts.states ≡ A.lay.counts.states
      → cells_of p f σ ι A l ≡ [] → states_after p f σ A l ≡ A.sts → Held p all σ w (eval_line p f σ ι A l)
  quiet l S c n ee es =
      record {
        sound = S;
        holds = subst (λ (e : List ℕ). Holds p w (lay p A.lay l) (A.env ++ (e ∷ []))) (sym ee) (holds_quiet H.sound H.holds l c);
        kept = subst (λ (m : ℕ). Kept all σ w (states_after p f σ A l) m) (sym n) (subst (λ (s : List ℕ). Kept all σ w s A.lay.counts.states) (sym es) H.kept);
      }

  -- a line that has a value and stores nothing
  valued : (l : Line) (vs : List ℕ) → Sound (lay p A.lay l) → 2 ≤ rank (line_type_in p A.lay l).role
      → length vs ≡ size (line_type_in p A.lay l) → (p ≡ false → (j : ℕ) → get_or vs j 0 < 2 ^ (line_type_in p A.lay l).w) → A.lay.counts.cells + size (line_type_in p A.lay l) ≤ all
      → (lay p A.lay l).counts.states ≡ A.lay.counts.states → cells_of p f σ ι A l ≡ vs → states_after p f σ A l ≡ A.sts
      → Held p all σ (put w A.lay.counts.cells vs) (eval_line p f σ ι A l)
  valued l vs S c len small room n ee es =
      record {
        sound = S;
        holds = subst (λ (e : List ℕ). Holds p (put w A.lay.counts.cells vs) (lay p A.lay l) (A.env ++ (e ∷ []))) (sym ee)
            (holds_value H.sound H.holds l vs c len small (omega (arith, H.kept.len)));
        kept = subst (λ (m : ℕ). Kept all σ (put w A.lay.counts.cells vs) (states_after p f σ A l) m) (sym n)
            (subst (λ (s : List ℕ). Kept all σ (put w A.lay.counts.cells vs) s A.lay.counts.states) (sym es) (kept_below A.lay.counts.cells vs (omega arith) H.kept));
      }

  sort_ok : (s : ℕ) (e : Expr) → OkExpr p (ty_at A.lay.ctx) (sort_at p (ty_at A.lay.ctx) s) e → (sort_at p (ty_at A.lay.ctx) s).w ≤ 64
  sort_ok s e ok = (sort_wide p (ty_at A.lay.ctx) s H.sound.wide (is_sort_lem p (ty_at A.lay.ctx) (sort_at p (ty_at A.lay.ctx) s) e ok)).most

  pub sim : (l : Line) → OkLine p (ty_at A.lay.ctx) (given A.lay.ctx) l → ShowsAll P (lay p A.lay l) → (lay p A.lay l).counts.cells ≤ all
      → (lay p A.lay l).counts.states ≤ length σ → Held p all σ (work_in p f P all ι w (length A.lay.ctx.tys) l) (eval_line p f σ ι A l)
  sim (Line.bitvec x) ok sh hv hs = quiet (Line.bitvec x) (sound_more p A.lay (Line.bitvec x) H.sound ok) (omega arith) refl refl refl
  sim (Line.array i e) ok sh hv hs = quiet (Line.array i e) (sound_more p A.lay (Line.array i e) H.sound ok) (omega arith) refl refl refl
  sim (Line.input s) ok sh hv hs =
      let l = Line.input s in
      let t = line_type_in p A.lay l in
      let me = mine H (omega arith) l P sh in
      let v = input_word p t.w (get_or ι A.lay.counts.inputs 0) in
      subst (λ (x : List ℕ). Held p all σ x (eval_line p f σ ι A l))
      (sym (ap (λ (o : ℕ). put w o (input_word p (wid_in P (length A.lay.ctx.tys)) (get_or ι (pos_in P (length A.lay.ctx.tys)) 0) ∷ [])) me.is_off
      ∙ ap₂ (λ (n d : ℕ). put w A.lay.counts.cells (input_word p d (get_or ι n 0) ∷ [])) me.is_pos me.is_wid))
      (valued l (v ∷ []) (sound_more p A.lay l H.sound ok) (omega arith) (ap (λ (n : ℕ). 2 ^ n) (sym ok.flat))
      (λ e j. one_small v t.w j (input_small p t.w (get_or ι A.lay.counts.inputs 0) e)) hv refl refl refl)
  sim (Line.state s) ok sh hv hs =
      let l = Line.state s in
      let t = line_type_in p A.lay l in
      let me = mine H (omega arith) l P sh in
      let n = A.lay.counts.states in
      let vs = state_words p f t.w (part σ n (size t)) in
      let lv : length vs ≡ size t = state_length p f t.w (part σ n (size t)) ∙ laws.length_part σ n (size t) hs in
      let e₀ : all + pos_in P (length A.lay.ctx.tys) ≡ all + n = ap (λ (m : ℕ). all + m) me.is_pos in
      let ev : state_in p f P all w (length A.lay.ctx.tys) ≡ vs = ap₂ (state_words p f) me.is_wid (ap₂ (part w) e₀ me.is_num ∙ state_words_lem H.kept (size t)) in
      let k = kept_state H.kept vs (size t) lv hs in
      let lw = H.kept.len in
      let hold = holds_alike H.sound H.holds (put w (all + n) vs) all (omega arith) (laws.length_put w (all + n) vs (omega arith)) (omega arith) (λ i q. laws.put_lo w (all + n) vs (omega arith) i (omega arith)) in
      let small : p ≡ false → (j : ℕ) → get_or vs j 0 < 2 ^ t.w = λ e j. state_small p f t.w (part σ n (size t)) e j in
      subst (λ (x : List ℕ). Held p all σ x (eval_line p f σ ι A l))
      (sym (ap₂ (λ (m : ℕ) (x : List ℕ). put (put w m x) (off_in P (length A.lay.ctx.tys)) x) e₀ ev ∙ ap (λ (o : ℕ). put (put w (all + n) vs) o vs) me.is_off))
      (record {
        sound = sound_more p A.lay l H.sound ok;
        holds = holds_value H.sound hold l vs (omega arith) lv small (omega (arith, laws.length_put w (all + n) vs (omega arith)));
        kept = kept_below A.lay.counts.cells vs (omega arith) k;
      })
  sim (Line.value s e) ok sh hv hs =
      let l = Line.value s e in
      let L = ty_at A.lay.ctx in
      let me = mine H (omega arith) l P sh in
      let v = vals H (omega arith) l P sh (sort_at p L s) (sort_ok s e ok) e ok in
      subst (λ (x : List ℕ). Held p all σ x (eval_line p f σ ι A l)) (sym (ap₂ (put w) me.is_off v.is))
      (valued l (cells_e p (width_at A) (word_at A) (cells_at A) e) (sound_more p A.lay l H.sound ok) (val_value p L s e)
      (v.len ∙ ap (λ (n : ℕ). 2 ^ n) (sym (val_iw p L s e))) (λ q j. subst (λ (n : ℕ). get_or (cells_e p (width_at A) (word_at A) (cells_at A) e) j 0 < 2 ^ n) (sym (val_w p L s e)) (v.small q j)) hv refl refl refl)
  sim (Line.init_or_next m s q v) ok sh hv hs =
      let l = Line.init_or_next m s q v in
      let o = place_at A.lay q in
      let vs = given_words A m (size (type_at A.lay q)) v in
      let lv = gives_len H (omega arith) l P sh m s q v ok in
      let h : o + length vs ≤ A.lay.counts.states = omega (arith, H.sound.room q ok.state) in
      let lw = H.kept.len in
      let eq : put w (all + pos_in P q) (stored_in P w m q v) ≡ put w (all + o) vs =
      ap₂ (λ (n : ℕ) (x : List ℕ). put w (all + n) x) (place_of_lem H (omega arith) l P sh q ok.state) (gives H (omega arith) l P sh m s q v ok) in
      let S = sound_more p A.lay l H.sound ok in
      let fits : all + o + length vs ≤ length w = omega arith in
      let hold : Holds p (put w (all + o) vs) A.lay A.env =
      holds_alike H.sound H.holds (put w (all + o) vs) all hv (laws.length_put w (all + o) vs fits) (omega arith) (λ i k. laws.put_lo w (all + o) vs fits i (omega arith)) in
      init_next_case S (alike f m) eq hold (kept_init_next H.kept o vs h hs)
    where
      init_next_case : {w₁ w₂ s₁ : List ℕ} → Sound (lay p A.lay (Line.init_or_next m s q v)) → (b : Bool) → w₁ ≡ w₂ → Holds p w₂ A.lay A.env → Kept all σ w₂ s₁ A.lay.counts.states
          → Held p all σ (pick b w₁ w) (record { lay = lay p A.lay (Line.init_or_next m s q v); env = A.env ++ ([] ∷ []); sts = pick b s₁ A.sts; sigs = A.sigs })
      init_next_case {w₁} {w₂} {s₁} S true e h k =
          subst (λ (x : List ℕ). Held p all σ x (record { lay = lay p A.lay (Line.init_or_next m s q v); env = A.env ++ ([] ∷ []); sts = s₁; sigs = A.sigs })) (sym e)
          (record { sound = S; holds = holds_quiet H.sound h (Line.init_or_next m s q v) (omega arith); kept = k })
      init_next_case S false e h k = record { sound = S; holds = holds_quiet H.sound H.holds (Line.init_or_next m s q v) (omega arith); kept = H.kept }
  sim (Line.signal m a) ok sh hv hs = quiet (Line.signal m a) (sound_more p A.lay (Line.signal m a) H.sound ok) (omega arith) refl refl refl
  sim (Line.output a) ok sh hv hs = quiet (Line.output a) (sound_more p A.lay (Line.output a) H.sound ok) (omega arith) refl refl refl
  sim Line.unknown ok sh hv hs = absurd ok

  own : (l : Line) → OkLine p (ty_at A.lay.ctx) (given A.lay.ctx) l → 2 ≤ rank (line_type_in p A.lay l).role → Wide (line_type_in p A.lay l)
  own l ok q = line_wide p (ty_at A.lay.ctx) (given A.lay.ctx) H.sound.wide l ok (omega arith)

  pub fit : (ins sigs : ℕ) (l : Line) → OkLine p (ty_at A.lay.ctx) (given A.lay.ctx) l → ShowsAll P (lay p A.lay l) → (lay p A.lay l).counts.cells ≤ all
      → (lay p A.lay l).counts.states ≤ length σ → (lay p A.lay l).counts.inputs ≤ ins → (lay p A.lay l).counts.signals ≤ sigs
      → FitL p P all ins sigs w (length A.lay.ctx.tys) l
  fit ins sigs (Line.bitvec x) ok sh hv hs hi hg = tt
  fit ins sigs (Line.array i e) ok sh hv hs hi hg = tt
  fit ins sigs (Line.input s) ok sh hv hs hi hg =
      let l = Line.input s in
      record { own = fit_own H (omega arith) l P sh refl hv (own l ok (omega arith)); input = omega (arith, (mine H (omega arith) l P sh).is_pos) }
  fit ins sigs (Line.state s) ok sh hv hs hi hg =
      let l = Line.state s in
      let me = mine H (omega arith) l P sh in
      let k = own l ok (omega arith) in
      record {
        known = me.known;
        wide = subst (λ (n : ℕ). Width n) (sym me.is_wid) (record { least = k.least; most = k.most });
        cells = omega (arith, me.is_off, me.is_num);
        words = omega (arith, me.is_pos, me.is_num, H.kept.len);
      }
  fit ins sigs (Line.value s e) ok sh hv hs hi hg =
      let l = Line.value s e in
      let L = ty_at A.lay.ctx in
      record {
        own = fit_own H (omega arith) l P sh refl hv (own l ok (val_value p L s e));
        expr = fit_expr H (omega arith) l P sh refl (sort_at p L s) (val_iw p L s e) (val_w p L s e) (sort_ok s e ok) e ok;
      }
  fit ins sigs (Line.init_or_next m s q v) ok sh hv hs hi hg = fit_init_next H hv (Line.init_or_next m s q v) P sh m s q v ok hs
  fit ins sigs (Line.signal m a) ok sh hv hs hi hg =
      let me = mine H hv (Line.signal m a) P sh in
      record {
        known = me.known;
        word = word_fit H hv (Line.signal m a) P sh (length w) a (omega (arith, H.kept.len)) ok.word.is;
        signal = omega (arith, me.is_pos);
      }
  fit ins sigs (Line.output a) ok sh hv hs hi hg = tt
  fit ins sigs Line.unknown ok sh hv hs hi hg = absurd ok
