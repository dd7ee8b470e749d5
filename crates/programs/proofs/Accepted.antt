-- The program of an accepted flat circuit keeps the rules for programs, `translated_ok`, and so its records are an accepted program, `program_accepted`. Assumes nothing.
use Rattle.std.specs.Prelude.{Ok}
use Prim.Native.Nat.{ℕ, ◌+◌, ◌≤◌}
use mathlib.Core.Path.{◌≡◌, refl, sym, ◌∙◌, subst}
use mathlib.Core.Logic.{inl, inr}
use mathlib.Core.Bool.{Bool, true, false, not}
use mathlib.Core.List.{List, [], ◌∷◌, ◌++◌, map}
use native.Mathlib.Nat.{le_refl}
use native.Mathlib.Omega.{arith}
use lib.Dec.{eqb}
use lib.ListN.{length}
use borrow.Author.Tests.{eq-eqb}
use Rattle.tables.specs.declared.Ty.{Ty}
use Rattle.tables.specs.Kinds.{row_of}
use Rattle.tables.specs.Lines.{Line, Expr, bitvec, array, input, state, value, init_or_next, signal, output, unknown, const, unary, binary, equality, ite, read, write, words_of}
use Rattle.tables.specs.Layout.{whole, held, filled}
use Rattle.tables.specs.Types.{rank, sort_at, ty_at, given, given_by, Ctx, no_ctx}
use Rattle.tables.specs.Tables.{checked}
use Rattle.tables.proofs.Kept.{no_yes, neither}
use Rattle.tables.proofs.Facts.{OkUnary, OkValue, OkExpr, OkLine, AllOk}
use Rattle.tables.proofs.Entries.{ok_append}
use Rattle.tables.proofs.Encoding.{lines_accepted}
use Rattle.circuits.specs.Layout.{Layout, type_at, line_type_in, place_of, lay, lay_all}
use Rattle.circuits.proofs.Placing.{lay_ctx}
use Rattle.programs.specs.Uses.{loose_line, loose_expr, has_needing_use}
use Rattle.programs.specs.declared.Known.{Known}
use Rattle.programs.specs.Translation.{info, none_known, operand_width, operand_number, loose_of, with_mask, renumbered, instructions_of, array_sort_line, has_array, translate_from, translate}
use Rattle.programs.proofs.Grew.{lines, grew_line, new_type}
use Rattle.programs.proofs.Laid.{Laid, sort_of_width, Fresh, puts}
use Rattle.programs.proofs.LaidLines.{and_never, typed, sorted, fresh_input, fresh_state, fresh_val, laid_line, lines_more, laid_start}
use Rattle.programs.proofs.Once.{Once, once_start, once_quiet, once_init_next}

-- ---- a value instruction with its mask

mask_ok : (L : ℕ → Ty) (w b : ℕ) (t : Ty) → L b ≡ t → 1 ≤ w → w ≤ 64 → 2 ≤ rank t.role → t.iw ≡ 0 → t.w ≡ w → OkUnary true (sort_at true L w) 56 (L b) 0 0
unfolding row_of
mask_ok L w b t e h k c i x =
    rw (sort_of_width L w h k, e)
    (record { kind = inr refl; sort = record { is = refl; flat = refl }; arg = record { is = c; flat = i }; rule = eq-eqb w t.w (sym x); spare₂ = refl; spare₃ = refl })

module _ {Y Z : Layout} {J : List Known} (v : Laid Y Z J) (o : Once Y Z J) where
  masked_ok : (i l : Line) (b w : ℕ) (lo n : Bool) → b ≡ lines Z → Fresh Z i (line_type_in false Y l) (place_of Y l) w lo → OkLine true (ty_at Z.ctx) (given Z.ctx) i → AllOk true Z.ctx (with_mask b w i lo n).code
  masked_ok i l b w false n e h k = (k, tt)
  masked_ok i l b w true false e h k = (k, tt)
  masked_ok i l b w true true e h k =
      (k, (mask_ok (ty_at (lay true Z i).ctx) w b (line_type_in false Y l) (new_type true v.even_z i b e ∙ h.type) h.least h.most h.class h.flat h.width, tt))

  -- ---- each line

  val_ok : (s : ℕ) (x : Expr) → OkExpr false (ty_at Y.ctx) (type_at Y s) x → OkExpr true (ty_at Z.ctx) (sort_at true (ty_at Z.ctx) (operand_width J s)) (renumbered (operand_number J) x)
  val_ok s (const n) k = rw (sorted v s k.sort.is) k
  val_ok s (unary n a x y) k =
      rw (sorted v s k.sort.is, typed v a k.arg.is)
      (record { kind = inl k.kind; sort = k.sort; arg = k.arg; rule = k.rule; spare₂ = k.spare₂; spare₃ = k.spare₃ })
  val_ok s (binary n a b) k = rw (sorted v s k.sort.is, typed v a k.left.is, typed v b k.right.is) k
  val_ok s (equality e a b) k = rw (sorted v s k.sort.is, typed v a k.left.is, typed v b k.right.is) k
  val_ok s (ite c a b) k = rw (sorted v s k.sort.is, typed v c k.cond.is, typed v a k.left.is, typed v b k.right.is) k
  val_ok s (read a i) k = absurd (omega (arith, (v.rel a).flat, k.arr.deep))
  val_ok s (write a i x) k = absurd (omega (arith, (v.rel a).flat, k.arr.deep))

  -- the value of an init or a next is a value
  given_value : (m : Bool) (q x : ℕ) (t : Ty) → OkValue m q x t → 2 ≤ rank t.role
  given_value true q x t k = k.word.is
  given_value false q x t k = k.is

  value_ok : (m : Bool) (q x : ℕ) → rank (type_at Y q).role ≡ 4 → OkValue m q x (type_at Y x) → OkValue m (operand_number J q) (operand_number J x) (type_at Y x)
  value_ok true q x c k = record { word = k.word; below = o.rising x q k.word.is (omega arith) k.below; unmarked = k.unmarked }
  value_ok false q x c k = k

  init_next_ok : (m : Bool) (s q x : ℕ) → OkLine false (ty_at Y.ctx) (given Y.ctx) (init_or_next m s q x) → OkLine true (ty_at Z.ctx) (given Z.ctx) (init_or_next m (operand_width J s) (operand_number J q) (operand_number J x))
  init_next_ok m s q x k =
      rw (sorted v s k.sort.is, typed v q (omega (arith, k.state)), typed v x (given_value m q x (type_at Y x) k.value))
      (record { sort = k.sort; state = k.state; same = k.same; value = value_ok m q x k.state k.value; iw = k.iw; w = k.w; once = o.same m q k.state ∙ k.once })

  pub line_ok : (N : ℕ → Bool) (b : ℕ) (l : Line) → b ≡ lines Z → OkLine false (ty_at Y.ctx) (given Y.ctx) l → array_sort_line l ≡ false → AllOk true Z.ctx (instructions_of N J b l).code
  line_ok N b (bitvec w) e k f = tt
  line_ok N b (array i j) e k f = tt
  line_ok N b (input s) e k f =
      masked_ok (input (operand_width J s)) (input s) b (operand_width J s) (loose_line (operand_width J s) 4 false false false) (N (length J)) e (fresh_input v s _ k) (rw (sorted v s k.is) k)
  line_ok N b (state s) e k f =
      masked_ok (state (operand_width J s)) (state s) b (operand_width J s) (loose_line (operand_width J s) 5 false false false) (N (length J)) e (fresh_state v s _ (and_never (not (eqb (operand_width J s) 64))) k)
      (rw (sorted v s k.is) k)
  line_ok N b (value s x) e k f =
      masked_ok (value (operand_width J s) (renumbered (operand_number J) x)) (value s x) b (operand_width J s) (loose_expr (loose_of J) (operand_width J s) x) (N (length J)) e (fresh_val v s x _ k) (val_ok s x k)
  line_ok N b (init_or_next m s q x) e k f = (init_next_ok m s q x k, tt)
  line_ok N b (signal m a) e k f = (rw (typed v a k.word.is) k, tt)
  line_ok N b (output a) e k f = (rw (typed v a k.is) k, tt)
  line_ok N b unknown e k f = absurd k

  -- ---- numbers rise, and states are given once

  mask_given : (m : Bool) (b w : ℕ) (i : Line) (lo n : Bool) → given_by m (lay true Z i).ctx ≡ given_by m Z.ctx → given_by m (lay_all true Z (with_mask b w i lo n).code).ctx ≡ given_by m Z.ctx
  mask_given m b w i false n e = e
  mask_given m b w i true false e = e
  mask_given true b w i true true e = e
  mask_given false b w i true true e = e

  mask_number : (b w : ℕ) (i : Line) (lo n : Bool) → b ≤ (with_mask b w i lo n).info.number
  mask_number b w i false n = le_refl b
  mask_number b w i true false = le_refl b
  mask_number b w i true true = omega arith

  once_masked : (l i : Line) (b w : ℕ) (lo n : Bool) → b ≡ lines Z → Fresh Z i (line_type_in false Y l) (place_of Y l) w lo
      → ((m : Bool) → given_by m (lay false Y l).ctx ≡ given_by m Y.ctx) → ((m : Bool) → given_by m (lay true Z i).ctx ≡ given_by m Z.ctx)
      → Once (lay false Y l) (lay_all true Z (with_mask b w i lo n).code) (J ++ ((with_mask b w i lo n).info ∷ []))
  once_masked l i b w lo n e h gy gz =
      once_quiet v o l (with_mask b w i lo n).info (λ c. omega (arith, mask_number b w i lo n)) gy (λ m. mask_given m b w i lo n (gz m)) (puts v.even_z b e lo n h).grew.longer

  unchanged : (p : Bool) (X : Layout) (l : Line) → ((lay p X l).ctx.inits ≡ X.ctx.inits) → ((lay p X l).ctx.nexts ≡ X.ctx.nexts) → (m : Bool) → given_by m (lay p X l).ctx ≡ given_by m X.ctx
  unchanged p X l e f true = e
  unchanged p X l e f false = f

  pub once_line : (N : ℕ → Bool) (b : ℕ) (l : Line) → b ≡ lines Z → OkLine false (ty_at Y.ctx) (given Y.ctx) l → array_sort_line l ≡ false
      → Once (lay false Y l) (lay_all true Z (instructions_of N J b l).code) (J ++ ((instructions_of N J b l).info ∷ []))
  once_line N b (bitvec w) e k f = once_quiet v o (bitvec w) (info w 0 false) (λ c. absurd (omega arith)) (unchanged false Y (bitvec w) refl refl) (λ m. refl) (le_refl (lines Z))
  once_line N b (array i j) e k f = absurd (no_yes (sym f))
  once_line N b (input s) e k f =
      once_masked (input s) (input (operand_width J s)) b (operand_width J s) (loose_line (operand_width J s) 4 false false false) (N (length J)) e (fresh_input v s _ k) (unchanged false Y (input s) refl refl)
      (unchanged true Z (input (operand_width J s)) refl refl)
  once_line N b (state s) e k f =
      once_masked (state s) (state (operand_width J s)) b (operand_width J s) (loose_line (operand_width J s) 5 false false false) (N (length J)) e (fresh_state v s _ (and_never (not (eqb (operand_width J s) 64))) k)
      (unchanged false Y (state s) refl refl) (unchanged true Z (state (operand_width J s)) refl refl)
  once_line N b (value s x) e k f =
      once_masked (value s x) (value (operand_width J s) (renumbered (operand_number J) x)) b (operand_width J s) (loose_expr (loose_of J) (operand_width J s) x) (N (length J)) e (fresh_val v s x _ k)
      (unchanged false Y (value s x) refl refl) (unchanged true Z (value (operand_width J s) (renumbered (operand_number J) x)) refl refl)
  once_line N b (init_or_next m s q x) e k f = once_init_next v o m s q x (operand_width J s) (operand_number J x) k.state
  once_line N b (signal m a) e k f =
      once_quiet v o (signal m a) none_known (λ c. absurd (omega arith)) (unchanged false Y (signal m a) refl refl) (unchanged true Z (signal m (operand_number J a)) refl refl)
      (grew_line true v.even_z (signal m (operand_number J a))).longer
  once_line N b (output a) e k f =
      once_quiet v o (output a) none_known (λ c. absurd (omega arith)) (unchanged false Y (output a) refl refl) (unchanged true Z (output (operand_number J a)) refl refl)
      (grew_line true v.even_z (output (operand_number J a))).longer
  once_line N b unknown e k f = absurd k

-- ---- all lines

all_ok : {Y Z : Layout} {J : List Known} (N : ℕ → Bool) (b : ℕ) (ls : List Line) → Laid Y Z J → Once Y Z J → b ≡ lines Z → AllOk false Y.ctx ls → has_array ls ≡ false
    → AllOk true Z.ctx (translate_from N J b ls)
all_ok N b [] v o e k f = tt
all_ok {Y} {Z} {J} N b (l ∷ ls) v o e k f =
    let c = instructions_of N J b l in
    let g = neither (array_sort_line l) (has_array ls) f in
    ok_append true Z.ctx c.code (translate_from N (J ++ (c.info ∷ [])) (b + length c.code) ls) (line_ok v o N b l e k.0 g.0)
    (subst (λ (x : Ctx). AllOk true x (translate_from N (J ++ (c.info ∷ [])) (b + length c.code) ls)) (lay_ctx true Z c.code)
    (all_ok {Y = lay false Y l} N (b + length c.code) ls (laid_line v N b l e k.0 g.0) (once_line v o N b l e k.0 g.0) (omega (arith, lines_more true Z v.even_z c.code)) k.1 g.1))

-- the program of an accepted flat circuit keeps the rules for programs
pub translated_ok : (F : List Line) → AllOk false no_ctx F → has_array F ≡ false → AllOk true no_ctx (translate F)
unfolding translate
translated_ok F k f = all_ok (has_needing_use F) 1 F laid_start once_start refl k f

-- so neither 1 nor 20 holds of a list that holds its records, with their count
pub program_accepted : (F : List Line) (len : ℕ) → AllOk false no_ctx F → has_array F ≡ false → length (translate F) ≤ held true len → length (translate F) ≤ 16384 → whole true len ≡ true
    → checked true (filled true len (map words_of (translate F))) (length (translate F)) ≡ Ok tt
program_accepted F len k f fits few w = lines_accepted true (translate F) len fits (translated_ok F k f) few w
