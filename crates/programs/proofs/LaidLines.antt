-- Every line of a flat circuit keeps its layout and its program's together: `laid_line`, `laid_all`, and the counts of the whole, `same_counts`. Assumes nothing.
use Prim.Native.Nat.{ℕ, zero, suc, ◌+◌, ◌^◌, ◌≤◌}
use mathlib.Core.Path.{◌≡◌, refl, sym, ap, ap₂, ◌∙◌, subst⁻¹}
use mathlib.Core.Bool.{Bool, true, false, not, ◌&&◌}
use mathlib.Core.List.{List, [], ◌∷◌, ◌++◌}
use native.Mathlib.Omega.{arith}
use lib.Dec.{eqb}
use lib.ListN.{length}
use Rattle.tables.specs.declared.Role.{Role}
use Rattle.tables.specs.declared.Role.TheVariants.{Other, Sort, Unmarked, Marked, State}
use Rattle.tables.specs.declared.Ty.{Ty}
use Rattle.tables.specs.Lines.{Line, Expr, bitvec, array, input, state, value, init_or_next, signal, output, unknown, const, unary, binary, equality, ite, read, write}
use Rattle.tables.specs.Types.{rank, ty, no_ty, sort_at, ty_at, given, no_ctx}
use Rattle.tables.specs.Pick.{pick}
use Rattle.tables.proofs.Kept.{no_yes, neither}
use Rattle.tables.proofs.Facts.{OkLine, OkExpr, AllOk}
use Rattle.tables.proofs.Values.{val_iw, val_w, val_value, val_most}
use Rattle.circuits.specs.Layout.{Layout, type_at, place_at, line_type_in, place_of, size, lay, lay_all, no_layout, layout}
use Rattle.programs.specs.Uses.{loose_line, loose_expr, has_needing_use}
use Rattle.programs.specs.declared.Known.{Known}
use Rattle.programs.specs.Translation.{info, none_known, known_at, operand_width, operand_number, loose_of, with_mask, renumbered, instructions_of, array_sort_line, has_array, translate_from, translate}
use Rattle.programs.proofs.Grew.{lines, Even, grew_none, line_more, even_line, grew_line}
use Rattle.programs.proofs.Laid.{Rel, rel_none, Laid, laid_end, sort_of_width, Fresh, puts}

sort_rank : (r : Role) → rank r ≡ 1 → r ≡ Sort
sort_rank Other e = absurd (omega arith)
sort_rank Sort e = refl
sort_rank Unmarked e = absurd (omega arith)
sort_rank Marked e = absurd (omega arith)
sort_rank State e = absurd (omega arith)

pub and_never : (b : Bool) → (b && false) ≡ true → ⊥
and_never true e = let z : ◌≡◌ {A = ℕ} 0 1 = ap (λ (x : Bool). pick x 1 0) e in omega arith
and_never false e = let z : ◌≡◌ {A = ℕ} 0 1 = ap (λ (x : Bool). pick x 1 0) e in omega arith

module _ {Y Z : Layout} {J : List Known} (v : Laid Y Z J) where
  -- an operand has the type of its instruction
  pub typed : (a : ℕ) → 2 ≤ rank (type_at Y a).role → type_at Z (operand_number J a) ≡ type_at Y a
  typed a h = ((v.rel a).value h).type

  -- a sort line's width is its sort
  pub sorted : (s : ℕ) → rank (type_at Y s).role ≡ 1 → sort_at true (ty_at Z.ctx) (operand_width J s) ≡ type_at Y s
  sorted s c =
      let r = v.rel s in
      let k = v.wide s (omega arith) in
      let w : operand_width J s ≡ (type_at Y s).w = r.sort c in
      let p : ty Sort 0 (operand_width J s) ≡ type_at Y s = λ i. ty (sym (sort_rank (type_at Y s).role c) i) (sym r.flat i) (w i) in
      sort_of_width (ty_at Z.ctx) (operand_width J s) (omega (arith, k.least)) (omega (arith, k.most)) ∙ p

  -- ---- types of value lines

  as_sort : (c : Role) {t u : Ty} → t ≡ u → ty c t.iw t.w ≡ ty c u.iw u.w
  as_sort c e = λ i. ty c (e i).iw (e i).w

  sort_class_lem : (s : ℕ) (x : Expr) → OkExpr false (ty_at Y.ctx) (type_at Y s) x → rank (type_at Y s).role ≡ 1
  sort_class_lem s (const n) k = k.sort.is
  sort_class_lem s (unary n a x y) k = k.sort.is
  sort_class_lem s (binary n a b) k = k.sort.is
  sort_class_lem s (equality e a b) k = k.sort.is
  sort_class_lem s (ite c a b) k = k.sort.is
  sort_class_lem s (read a i) k = k.sort.is
  sort_class_lem s (write a i x) k = k.sort.is

  pub val_type : (s : ℕ) (x : Expr) → OkExpr false (ty_at Y.ctx) (type_at Y s) x → line_type_in true Z (value (operand_width J s) (renumbered (operand_number J) x)) ≡ line_type_in false Y (value s x)
  val_type s (const n) k = rw (sorted s k.sort.is)
  val_type s (unary n a x y) k = rw (sorted s k.sort.is, typed a k.arg.is)
  val_type s (binary n a b) k = rw (sorted s k.sort.is, typed a k.left.is, typed b k.right.is)
  val_type s (equality e a b) k = rw (sorted s k.sort.is, typed a k.left.is, typed b k.right.is)
  val_type s (ite c a b) k = rw (sorted s k.sort.is, typed c k.cond.is, typed a k.left.is, typed b k.right.is)
  val_type s (read a i) k = absurd (omega (arith, (v.rel a).flat, k.arr.deep))
  val_type s (write a i x) k = absurd (omega (arith, (v.rel a).flat, k.arr.deep))

  -- ---- value lines

  pub fresh_input : (s : ℕ) (lo : Bool) → OkLine false (ty_at Y.ctx) (given Y.ctx) (input s) → Fresh Z (input (operand_width J s)) (line_type_in false Y (input s)) (place_of Y (input s)) (operand_width J s) lo
  fresh_input s lo k =
      let w : operand_width J s ≡ (type_at Y s).w = (v.rel s).sort k.is in
      let g = v.wide s (omega (arith, k.is)) in
      record {
        type = as_sort Marked (sorted s k.is);
        flat = (v.rel s).flat;
        width = sym w;
        least = omega (arith, g.least);
        most = omega (arith, g.most);
        class = omega arith;
        loose = λ e. omega arith;
        at = λ c. absurd (omega arith);
        low = λ c. absurd (omega arith);
      }

  pub fresh_state : (s : ℕ) (lo : Bool) → (lo ≡ true → ⊥) → OkLine false (ty_at Y.ctx) (given Y.ctx) (state s) → Fresh Z (state (operand_width J s)) (line_type_in false Y (state s)) (place_of Y (state s)) (operand_width J s) lo
  fresh_state s lo n k =
      let w : operand_width J s ≡ (type_at Y s).w = (v.rel s).sort k.is in
      let g = v.wide s (omega (arith, k.is)) in
      let z : size (sort_at true (ty_at Z.ctx) (operand_width J s)) ≡ 1 = ap size (sorted s k.is) ∙ ap (λ (x : ℕ). 2 ^ x) (v.rel s).flat in
      record {
        type = as_sort State (sorted s k.is);
        flat = (v.rel s).flat;
        width = sym w;
        least = omega (arith, g.least);
        most = omega (arith, g.most);
        class = omega arith;
        loose = λ e. absurd (n e);
        at = λ c. v.states;
        low = λ c. omega (arith, v.states);
      }

  pub fresh_val : (s : ℕ) (x : Expr) (lo : Bool) → OkLine false (ty_at Y.ctx) (given Y.ctx) (value s x)
      → Fresh Z (value (operand_width J s) (renumbered (operand_number J) x)) (line_type_in false Y (value s x)) (place_of Y (value s x)) (operand_width J s) lo
  fresh_val s x lo k =
      let c = sort_class_lem s x k in
      let w : operand_width J s ≡ (type_at Y s).w = (v.rel s).sort c in
      let g = v.wide s (omega arith) in
      let n = val_most false (type_at Y) s x in
      record {
        type = val_type s x k;
        flat = val_iw false (ty_at Y.ctx) s x ∙ (v.rel s).flat;
        width = val_w false (ty_at Y.ctx) s x ∙ sym w;
        least = omega (arith, g.least);
        most = omega (arith, g.most);
        class = val_value false (ty_at Y.ctx) s x;
        loose = λ e. n;
        at = λ c. absurd (omega (arith, n));
        low = λ c. absurd (omega (arith, n));
      }

  -- ---- any line

  value_line : (l i : Line) (b w : ℕ) (lo n : Bool) → b ≡ lines Z → OkLine false (ty_at Y.ctx) (given Y.ctx) l → Fresh Z i (line_type_in false Y l) (place_of Y l) w lo
      → (lay true Z i).counts.states ≡ (lay false Y l).counts.states → (lay true Z i).counts.inputs ≡ (lay false Y l).counts.inputs → (lay true Z i).counts.signals ≡ (lay false Y l).counts.signals
      → Laid (lay false Y l) (lay_all true Z (with_mask b w i lo n).code) (J ++ ((with_mask b w i lo n).info ∷ []))
  value_line l i b w lo n e k h es ei eg =
      let p = puts v.even_z b e lo n h in
      laid_end l (with_mask b w i lo n).info v k p.grew p.even (p.counts.0 ∙ es) (p.counts.1 ∙ ei) (p.counts.2 ∙ eg)
      (record { flat = h.flat; sort = λ c. absurd (omega (arith, h.class)); value = λ c. p.reg })

  quiet_line : (l i : Line) → OkLine false (ty_at Y.ctx) (given Y.ctx) l → line_type_in false Y l ≡ no_ty
      → (lay true Z i).counts.states ≡ (lay false Y l).counts.states → (lay true Z i).counts.inputs ≡ (lay false Y l).counts.inputs → (lay true Z i).counts.signals ≡ (lay false Y l).counts.signals
      → Laid (lay false Y l) (lay true Z i) (J ++ (none_known ∷ []))
  quiet_line l i k t es ei eg = laid_end l none_known v k (grew_line true v.even_z i) (even_line true v.even_z i) es ei eg (subst⁻¹ (λ (x : Ty). Rel (lay true Z i) x (place_of Y l) none_known) t rel_none)

  pub laid_line : (N : ℕ → Bool) (b : ℕ) (l : Line) → b ≡ lines Z → OkLine false (ty_at Y.ctx) (given Y.ctx) l → array_sort_line l ≡ false
      → Laid (lay false Y l) (lay_all true Z (instructions_of N J b l).code) (J ++ ((instructions_of N J b l).info ∷ []))
  laid_line N b (bitvec w) e k f =
      laid_end (bitvec w) (info w 0 false) v k (grew_none Z) v.even_z v.states v.inputs v.signals
      (record { flat = refl; sort = λ c. refl; value = λ c. absurd (omega arith) })
  laid_line N b (array i j) e k f = absurd (no_yes (sym f))
  laid_line N b (input s) e k f = value_line (input s) (input (operand_width J s)) b (operand_width J s) (loose_line (operand_width J s) 4 false false false) (N (length J)) e k (fresh_input s _ k) v.states (ap suc v.inputs) v.signals
  laid_line N b (state s) e k f =
      let h = fresh_state s (loose_line (operand_width J s) 5 false false false) (and_never (not (eqb (operand_width J s) 64))) k in
      value_line (state s) (state (operand_width J s)) b (operand_width J s) (loose_line (operand_width J s) 5 false false false) (N (length J)) e k h (ap₂ (λ (x : ℕ) (t : Ty). x + size t) v.states h.type) v.inputs v.signals
  laid_line N b (value s x) e k f =
      value_line (value s x) (value (operand_width J s) (renumbered (operand_number J) x)) b (operand_width J s) (loose_expr (loose_of J) (operand_width J s) x) (N (length J)) e k (fresh_val s x _ k) v.states v.inputs v.signals
  laid_line N b (init_or_next m s q x) e k f = quiet_line (init_or_next m s q x) (init_or_next m (operand_width J s) (operand_number J q) (operand_number J x)) k refl v.states v.inputs v.signals
  laid_line N b (signal m a) e k f = quiet_line (signal m a) (signal m (operand_number J a)) k refl v.states v.inputs (ap suc v.signals)
  laid_line N b (output a) e k f = quiet_line (output a) (output (operand_number J a)) k refl v.states v.inputs v.signals
  laid_line N b unknown e k f = absurd k

-- ---- all lines

pub lay_all_append : (p : Bool) (Z : Layout) (xs ys : List Line) → lay_all p Z (xs ++ ys) ≡ lay_all p (lay_all p Z xs) ys
lay_all_append p Z [] ys = refl
lay_all_append p Z (x ∷ xs) ys = lay_all_append p (lay p Z x) xs ys

pub lines_more : (p : Bool) (Z : Layout) → Even Z → (ls : List Line) → lines (lay_all p Z ls) ≡ lines Z + length ls
lines_more p Z ev [] = omega arith
lines_more p Z ev (l ∷ ls) = omega (arith, lines_more p (lay p Z l) (even_line p ev l) ls, line_more p ev l)

-- as many state words, inputs and signals
pub record SameCounts (Y Z : Layout) : Type 0 where
  pub states : Z.counts.states ≡ Y.counts.states
  pub inputs : Z.counts.inputs ≡ Y.counts.inputs
  pub signals : Z.counts.signals ≡ Y.counts.signals

laid_all : {Y Z : Layout} {J : List Known} (N : ℕ → Bool) (b : ℕ) (ls : List Line) → Laid Y Z J → b ≡ lines Z → AllOk false Y.ctx ls → has_array ls ≡ false
    → SameCounts (lay_all false Y ls) (lay_all true Z (translate_from N J b ls))
laid_all N b [] v e k f = record { states = v.states; inputs = v.inputs; signals = v.signals }
laid_all {Y} {Z} {J} N b (l ∷ ls) v e k f =
    let c = instructions_of N J b l in
    let g = neither (array_sort_line l) (has_array ls) f in
    rw (lay_all_append true Z c.code) (laid_all {Y = lay false Y l} N (b + length c.code) ls (laid_line v N b l e k.0 g.0) (omega (arith, lines_more true Z v.even_z c.code)) k.1 g.1)

pub laid_start : Laid no_layout no_layout (none_known ∷ [])
laid_start =
    record {
      even_y = record { alike = refl };
      even_z = record { alike = refl };
      known = refl;
      states = refl;
      inputs = refl;
      signals = refl;
      wide = λ a h. absurd (none a h);
      rel = none_rel;
    }
  where
    none : (a : ℕ) → 1 ≤ rank (ty_at no_ctx a).role → ⊥
    none zero h = omega arith
    none (suc a) h = omega arith

    none_rel : (i : ℕ) → Rel no_layout (type_at no_layout i) (place_at no_layout i) (known_at (none_known ∷ []) i)
    none_rel zero = rel_none
    none_rel (suc i) = rel_none

-- a flat circuit and its program have as many state words, inputs and signals
pub same_counts : (F : List Line) → AllOk false no_ctx F → has_array F ≡ false → SameCounts (layout false F) (layout true (translate F))
unfolding layout translate
same_counts F k f = laid_all (has_needing_use F) 1 F laid_start refl k f
