-- What an expression gives in a flat circuit and in its program: `new_val`. Assumes nothing.
use Prim.Native.Nat.{ℕ, zero, suc, ◌^◌, ◌≤◌, ◌<◌}
use mathlib.Core.Path.{◌≡◌, refl, sym, ap, ap₂, ◌∙◌, subst}
use mathlib.Core.Bool.{Bool, true, false}
use mathlib.Core.List.{List, [], ◌∷◌}
use native.Mathlib.Nat.{lt_of_lt_of_le}
use native.Mathlib.Omega.{arith}
use lib.Pow.{pow_pos, pow_mono}
use Rattle.words.specs.Word.{Width, bit, choose as choose_word}
use Rattle.words.specs.Op.{op_of}
use Rattle.words.specs.Circuit.{circ}
use Rattle.words.specs.Program.{prog}
use Rattle.words.specs.Model.Classes.{class_of}
use Rattle.words.specs.Model.Loose.{need₁, need₂, need₃, at_use}
use Rattle.words.specs.Kinds.{need_kind₁, need_kind₂}
use Rattle.words.proofs.Stands.{Stands, itself}
use Rattle.words.proofs.KindLaws.{need_kind₁_lem, need_kind₂_lem}
use Rattle.tables.specs.declared.Ty.{Ty}
use Rattle.tables.specs.Lines.{Expr, value, const, unary, binary, equality, ite, read, write}
use Rattle.tables.specs.Types.{rank, ty_at}
use Rattle.tables.proofs.Shapes.{binary_range}
use Rattle.tables.proofs.Kept.{no_yes}
use Rattle.tables.proofs.Facts.{OkExpr}
use Rattle.circuits.specs.Cells.{if_nonzero, eq_or_neq, same_cells}
use Rattle.circuits.specs.Layout.{type_at}
use Rattle.circuits.specs.Meaning.{Frame, cells_at, word_at, width_at}
use Rattle.programs.specs.Uses.{loose_expr, when, needs_expr}
use Rattle.programs.specs.declared.Known.{Known}
use Rattle.programs.specs.Translation.{operand_width, operand_number, loose_of, renumbered}
use Rattle.circuits.proofs.Fitting.{Suits, fit_unary, fit_binary, plain_one}
use Rattle.programs.proofs.LaidLines.{typed}
use Rattle.programs.proofs.Operator.{at_use_lem, exact_result, operator}
use Rattle.programs.proofs.Held.{Alike, New}
use Rattle.programs.proofs.Needs.{Met, met_append, met_when}

one_cell : (d x y : ℕ) → if_nonzero d (x ∷ []) (y ∷ []) ≡ choose_word d x y ∷ []
one_cell zero x y = refl
one_cell (suc d) x y = refl

bit_lt : (t : Bool) (w : ℕ) → 1 ≤ w → bit t < 2 ^ w
bit_lt true w h = let k : 2 ^ 1 ≤ 2 ^ w = pow_mono h in omega arith
bit_lt false w h = pow_pos w

module _ (g : Bool) (σ ι : List ℕ) {W : ℕ → ℕ} {N : ℕ → Bool} {A B : Frame} {J : List Known} (v : Alike W N A B J) where
  -- an operand that some line needs clean
  pub clean : (a : ℕ) → 2 ≤ rank (type_at A.lay a).role → N a ≡ true → word_at B (operand_number J a) ≡ word_at A a
  clean a h e = subst (λ (n : Bool). Stands (at_use n (loose_of J a)) (type_at A.lay a).w (word_at B (operand_number J a)) (word_at A a)) e (v.word a h).stands

  pub clean_cells : (a : ℕ) → 2 ≤ rank (type_at A.lay a).role → N a ≡ true → cells_at B (operand_number J a) ≡ cells_at A a
  clean_cells a h e = (v.word a h).alone ∙ ap (λ (x : ℕ). x ∷ []) (clean a h e) ∙ sym (v.word a h).single

  width_same : (a : ℕ) → 2 ≤ rank (type_at A.lay a).role → width_at B (operand_number J a) ≡ width_at A a
  width_same a h = ap (λ (t : Ty). t.w) (typed v.laid a h)

  a_width : (a : ℕ) → 1 ≤ rank (type_at A.lay a).role → Width (width_at A a)
  a_width a h = let k = v.laid.wide a h in record { least = k.least; most = k.most }

  used : (need : Bool) (a : ℕ) → (h : 2 ≤ rank (type_at A.lay a).role) → (need ≡ true → N a ≡ true) → Stands (at_use need (loose_of J a)) (width_at A a) (word_at B (operand_number J a)) (word_at A a)
  used need a h m = at_use_lem (N a) need (loose_of J a) (width_at A a) (word_at B (operand_number J a)) (v.word a h).small m (v.word a h).stands

  module _ (s : ℕ) (is : rank (type_at A.lay s).role ≡ 1) where
    width_is : (type_at A.lay s).w ≡ operand_width J s
    width_is = sym ((v.laid.rel s).sort is)

    most_is : (type_at A.lay s).w ≤ 64
    most_is = (v.laid.wide s (omega arith)).most

    abbrev here : Expr → Type 0
    here x = New g σ ι A B (value (operand_width J s) (renumbered (operand_number J) x)) (value s x) (operand_width J s) (loose_expr (loose_of J) (operand_width J s) x)

    new_unary : (k a x y : ℕ) → OkExpr false (ty_at A.lay.ctx) (type_at A.lay s) (unary k a x y) → Met N (needs_expr (unary k a x y)) → here (unary k a x y)
    new_unary k a x y ok m =
        let h : 2 ≤ rank (type_at A.lay a).role = ok.arg.is in
        let u = width_at A a in
        let wu = a_width a (omega arith) in
        let f = fit_unary false (type_at A.lay s) (type_at A.lay a) k x y most_is ok in
        let n = plain_one false (type_at A.lay s) (type_at A.lay a) k x y most_is wu.most ok in
        let c = class_of (op_of k) in
        record {
          x = prog (op_of k) u 64 (word_at B (operand_number J a)) x y;
          a = circ (op_of k) u 64 (word_at A a) x y;
          cells_b = ap (λ (z : ℕ). prog (op_of k) z 64 (word_at B (operand_number J a)) x y ∷ []) (width_same a h);
          cells_a = refl;
          result =
              operator k (operand_width J s) u 64 (word_at A a) x y (word_at B (operand_number J a)) x y (loose_of J a) false false ok.kind.0 (omega (arith, ok.kind.1)) wu
              (subst (λ (z : ℕ). Suits c z u 64 x y) width_is f) f.widths (v.word a h).small n.0 n.1 (v.word a h).fits n.0 n.1
              (used (need₁ c) a h (λ e. met_when N (need_kind₁ k) a m (need_kind₁_lem k ok.kind.0 (omega (arith, ok.kind.1)) ∙ e))) (itself (need₂ c) 64 x) (itself (need₃ c) 64 y);
        }

    new_binary : (k a b : ℕ) → OkExpr false (ty_at A.lay.ctx) (type_at A.lay s) (binary k a b) → Met N (needs_expr (binary k a b)) → here (binary k a b)
    new_binary k a b ok m =
        let ha : 2 ≤ rank (type_at A.lay a).role = ok.left.is in
        let hb : 2 ≤ rank (type_at A.lay b).role = ok.right.is in
        let u = width_at A a in
        let t = width_at A b in
        let c = class_of (op_of k) in
        let xa = word_at B (operand_number J a) in
        let xb = word_at B (operand_number J b) in
        let f = fit_binary (type_at A.lay s) (type_at A.lay a) (type_at A.lay b) k (word_at A b) 0 most_is ok in
        let n = met_append N (when (need_kind₁ k) a) (when (need_kind₂ k) b) m in
        let bk = binary_range ok.kind in
        record {
          x = prog (op_of k) u t xa xb 0;
          a = circ (op_of k) u t (word_at A a) (word_at A b) 0;
          cells_b = ap₂ (λ (y z : ℕ). prog (op_of k) y z xa xb 0 ∷ []) (width_same a ha) (width_same b hb);
          cells_a = refl;
          result =
              operator k (operand_width J s) u t (word_at A a) (word_at A b) 0 xa xb 0 (loose_of J a) (loose_of J b) false (omega (arith, bk)) (omega (arith, bk)) (a_width a (omega arith))
              (subst (λ (z : ℕ). Suits c z u t (word_at A b) 0) width_is f) (fit_binary (type_at A.lay s) (type_at A.lay a) (type_at A.lay b) k xb 0 most_is ok).widths
              (v.word a ha).small (v.word b hb).small (pow_pos t) (v.word a ha).fits (v.word b hb).fits (pow_pos 64)
              (used (need₁ c) a ha (λ e. met_when N (need_kind₁ k) a n.0 (need_kind₁_lem k (omega (arith, bk)) (omega (arith, bk)) ∙ e)))
              (used (need₂ c) b hb (λ e. met_when N (need_kind₂ k) b n.1 (need_kind₂_lem k (omega (arith, bk)) (omega (arith, bk)) ∙ e))) (itself (need₃ c) t 0);
        }

    -- both operands are clean: the same words are compared
    new_equality : (e : Bool) (a b : ℕ) → OkExpr false (ty_at A.lay.ctx) (type_at A.lay s) (equality e a b) → Met N (needs_expr (equality e a b)) → here (equality e a b)
    new_equality e a b ok m =
        let n = both e m in
        let r = bit (eq_or_neq e (same_cells (cells_at A a) (cells_at A b))) in
        record {
          x = r;
          a = r;
          cells_b = ap₂ (λ (y z : List ℕ). bit (eq_or_neq e (same_cells y z)) ∷ []) (clean_cells a ok.left.is n.0) (clean_cells b ok.right.is n.1);
          cells_a = refl;
          result =
              exact_result (operand_width J s) _ (bit_lt (eq_or_neq e (same_cells (cells_at A a) (cells_at A b))) 64 (omega arith))
              (bit_lt (eq_or_neq e (same_cells (cells_at A a) (cells_at A b))) (operand_width J s) (omega (arith, ok.bit, width_is))) refl;
        }
      where
        both : (e : Bool) → Met N (needs_expr (equality e a b)) → (N a ≡ true) × (N b ≡ true)
        both true m = (m.0, m.1.0)
        both false m = (m.0, m.1.0)

    -- the condition is clean
    new_ite : (c a b : ℕ) → OkExpr false (ty_at A.lay.ctx) (type_at A.lay s) (ite c a b) → Met N (needs_expr (ite c a b)) → here (ite c a b)
    new_ite c a b ok m =
        let hc : 2 ≤ rank (type_at A.lay c).role = ok.cond.is in
        let ha : 2 ≤ rank (type_at A.lay a).role = ok.left.is in
        let hb : 2 ≤ rank (type_at A.lay b).role = ok.right.is in
        let w = operand_width J s in
        let ea : width_at A a ≡ w = ok.same_a.w ∙ width_is in
        let eb : width_at A b ≡ w = ok.same_b.w ∙ width_is in
        let k = v.laid.wide s (omega arith) in
        let wd : Width w = record { least = omega (arith, k.least, width_is); most = omega (arith, k.most, width_is) } in
        let xc = word_at B (operand_number J c) in
        let xa = word_at B (operand_number J a) in
        let xb = word_at B (operand_number J b) in
        record {
          x = choose_word xc xa xb;
          a = choose_word (word_at A c) (word_at A a) (word_at A b);
          cells_b = ap₂ (λ (y z : List ℕ). if_nonzero xc y z) (v.word a ha).alone (v.word b hb).alone ∙ one_cell xc xa xb;
          cells_a = ap₂ (λ (y z : List ℕ). if_nonzero (word_at A c) y z) (v.word a ha).single (v.word b hb).single ∙ one_cell (word_at A c) (word_at A a) (word_at A b);
          result =
              operator 53 w (width_at A c) w (word_at A c) (word_at A a) (word_at A b) xc xa xb (loose_of J c) (loose_of J a) (loose_of J b) (omega arith) (omega arith) (a_width c (omega arith))
              (record { widths = wd; width = refl }) wd (v.word c hc).small (rw ea at (v.word a ha).small) (rw eb at (v.word b hb).small)
              (v.word c hc).fits (v.word a ha).fits (v.word b hb).fits (used true c hc (λ e. m.0)) (rw ea at (used false a ha (λ e. absurd (no_yes e)))) (rw eb at (used false b hb (λ e. absurd (no_yes e))));
        }

    new_const : (n : ℕ) → OkExpr false (ty_at A.lay.ctx) (type_at A.lay s) (const n) → here (const n)
    new_const n ok = record { x = n; a = n; cells_b = refl; cells_a = refl; result = exact_result (operand_width J s) _ (lt_of_lt_of_le ok.fits (pow_mono most_is)) (rw width_is at ok.fits) refl }

  pub new_val : (s : ℕ) (x : Expr) → OkExpr false (ty_at A.lay.ctx) (type_at A.lay s) x → Met N (needs_expr x)
      → New g σ ι A B (value (operand_width J s) (renumbered (operand_number J) x)) (value s x) (operand_width J s) (loose_expr (loose_of J) (operand_width J s) x)
  new_val s (const n) ok m = new_const s ok.sort.is n ok
  new_val s (unary k a x y) ok m = new_unary s ok.sort.is k a x y ok m
  new_val s (binary k a b) ok m = new_binary s ok.sort.is k a b ok m
  new_val s (equality e a b) ok m = new_equality s ok.sort.is e a b ok m
  new_val s (ite c a b) ok m = new_ite s ok.sort.is c a b ok m
  new_val s (read a i) ok m = absurd (omega (arith, (v.laid.rel a).flat, ok.arr.deep))
  new_val s (write a i x) ok m = absurd (omega (arith, (v.laid.rel a).flat, ok.arr.deep))
