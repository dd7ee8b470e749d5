-- A flat circuit's layout and its program's: each value line has an instruction of the same type, each state line one at the same place among the state words, and both
-- have as many state words, inputs and signals. Assumes nothing.
use Prim.Native.Nat.{ℕ, suc, ◌≤◌, ◌<◌}
use mathlib.Core.Path.{◌≡◌, refl, sym, ap, ◌∙◌}
use mathlib.Core.Bool.{Bool, true, false}
use mathlib.Core.List.{List, [], ◌∷◌, ◌++◌}
use native.Mathlib.Nat.{le_trans}
use native.Mathlib.Omega.{arith}
use lib.ListN.{length}
use borrow.Author.Tests.{le-leb}
use Rattle.tables.specs.declared.Role.TheVariants.{Sort}
use Rattle.tables.specs.declared.Ty.{Ty}
use Rattle.tables.specs.Lines.{Line}
use Rattle.tables.specs.Types.{rank, ty, no_ty, marked, value_role, sort_at, ty_at, given}
use Rattle.tables.proofs.Values.{role_back}
use Rattle.tables.proofs.Facts.{OkLine}
use Rattle.tables.proofs.Wide.{AllWide, grow_wide}
use Rattle.circuits.specs.Layout.{Layout, type_at, place_at, line_type_in, place_of, lay, lay_all}
use Rattle.programs.specs.declared.Known.{Known}
use Rattle.programs.specs.Translation.{none_known, known_at, mask_of, with_mask}
use Rattle.programs.proofs.Lists.{length_snoc, snoc₃}
use Rattle.programs.proofs.Grew.{lines, Even, Grew, grew_more, line_more, even_line, grew_line, new_type, new_place}

-- ---- a line's type t and place q, and what the translator knows of it, f

pub record Reg (Z : Layout) (t : Ty) (q : ℕ) (f : Known) : Type 0 where
  pub inb : f.number < lines Z
  pub type : type_at Z f.number ≡ t
  pub at : rank t.role ≡ 4 → place_at Z f.number ≡ q
  pub low : rank t.role ≡ 4 → q < Z.counts.states

pub record Rel (Z : Layout) (t : Ty) (q : ℕ) (f : Known) : Type 0 where
  pub flat : t.iw ≡ 0
  pub sort : rank t.role ≡ 1 → f.width ≡ t.w
  pub value : 2 ≤ rank t.role → Reg Z t q f

reg_grew : {Z Z' : Layout} {t : Ty} {q : ℕ} {f : Known} → Grew Z Z' → Reg Z t q f → Reg Z' t q f
reg_grew {f = f} g r =
    record {
      inb = le_trans r.inb g.longer;
      type = g.types f.number r.inb ∙ r.type;
      at = λ e. g.places f.number r.inb ∙ r.at e;
      low = λ e. le_trans (r.low e) g.states;
    }

rel_grew : {Z Z' : Layout} {t : Ty} {q : ℕ} {f : Known} → Grew Z Z' → Rel Z t q f → Rel Z' t q f
rel_grew g r = record { flat = r.flat; sort = r.sort; value = λ h. reg_grew g (r.value h) }

pub rel_none : {Z : Layout} {q : ℕ} {f : Known} → Rel Z no_ty q f
rel_none = record { flat = refl; sort = λ e. absurd (omega arith); value = λ h. absurd (omega arith) }

-- ---- circuit Y, program Z

pub record Laid (Y Z : Layout) (J : List Known) : Type 0 where
  pub even_y : Even Y
  pub even_z : Even Z
  pub known : length J ≡ lines Y
  pub states : Z.counts.states ≡ Y.counts.states
  pub inputs : Z.counts.inputs ≡ Y.counts.inputs
  pub signals : Z.counts.signals ≡ Y.counts.signals
  pub wide : AllWide (ty_at Y.ctx)
  pub rel : (i : ℕ) → Rel Z (type_at Y i) (place_at Y i) (known_at J i)

-- one line more, of which the program has what Z' has more than Z
pub laid_end : {Y Z Z' : Layout} {J : List Known} (l : Line) (f : Known) → Laid Y Z J → OkLine false (ty_at Y.ctx) (given Y.ctx) l → Grew Z Z' → Even Z'
    → Z'.counts.states ≡ (lay false Y l).counts.states → Z'.counts.inputs ≡ (lay false Y l).counts.inputs → Z'.counts.signals ≡ (lay false Y l).counts.signals
    → Rel Z' (line_type_in false Y l) (place_of Y l) f → Laid (lay false Y l) Z' (J ++ (f ∷ []))
laid_end {Y} {Z} {Z'} {J} l f v ok g ev es ei eg r =
    record {
      even_y = even_line false v.even_y l;
      even_z = ev;
      known = length_snoc J f ∙ ap suc v.known ∙ sym (line_more false v.even_y l);
      states = es;
      inputs = ei;
      signals = eg;
      wide = grow_wide false Y.ctx l v.wide ok;
      rel = snoc₃ no_ty 0 none_known (λ i. Rel Z') Y.ctx.tys Y.places J v.even_y.alike v.known (λ i. rel_grew g (v.rel i)) (λ i. rel_none) r;
    }

-- ---- a value instruction and its mask

-- the width of an instruction is its sort
pub sort_of_width : (L : ℕ → Ty) (w : ℕ) → 1 ≤ w → w ≤ 64 → sort_at true L w ≡ ty Sort 0 w
sort_of_width L w h k = rw (le-leb 1 w h, le-leb w 64 k)

-- the new value instruction l of a line that has the type t and the place q
pub record Fresh (Z : Layout) (l : Line) (t : Ty) (q : ℕ) (w : ℕ) (lo : Bool) : Type 0 where
  pub type : line_type_in true Z l ≡ t
  pub flat : t.iw ≡ 0
  pub width : t.w ≡ w
  pub least : 1 ≤ w
  pub most : w ≤ 64
  pub class : 2 ≤ rank t.role
  -- a loose line is no state
  pub loose : lo ≡ true → rank t.role ≤ 3
  pub at : rank t.role ≡ 4 → place_of Z l ≡ q
  pub low : rank t.role ≡ 4 → q < (lay true Z l).counts.states

module _ {Z : Layout} (ev : Even Z) {l : Line} {t : Ty} {q : ℕ} {w : ℕ} {lo : Bool} (h : Fresh Z l t q w lo) (b : ℕ) (e : b ≡ lines Z) where
  fresh_reg : (f : Known) → f.number ≡ b → Reg (lay true Z l) t q f
  fresh_reg f n =
      record {
        inb = omega (arith, line_more true ev l);
        type = ap (type_at (lay true Z l)) n ∙ new_type true ev l b e ∙ h.type;
        at = λ c. ap (place_at (lay true Z l)) n ∙ new_place true ev l b e ∙ h.at c;
        low = h.low;
      }

  -- a mask has its operand's type
  pub mask_type : lo ≡ true → line_type_in true (lay true Z l) (mask_of w b) ≡ t
  mask_type o =
      let x : type_at (lay true Z l) b ≡ t = new_type true ev l b e ∙ h.type in
      let s = sort_of_width (ty_at (lay true Z l).ctx) w h.least h.most in
      let p : line_type_in true (lay true Z l) (mask_of w b) ≡ ty (value_role (marked t)) 0 w = λ i. ty (value_role (marked (x i))) (s i).iw (s i).w in
      let r : ty (value_role (marked t)) 0 w ≡ t = λ i. ty (role_back t.role h.class (h.loose o) i) (sym h.flat i) (sym h.width i) in
      p ∙ r

  mask_reg : lo ≡ true → (f : Known) → f.number ≡ suc b → Reg (lay true (lay true Z l) (mask_of w b)) t q f
  mask_reg o f n =
      let ev₁ = even_line true ev l in
      let e₁ : suc b ≡ lines (lay true Z l) = omega (arith, line_more true ev l) in
      record {
        inb = omega (arith, line_more true ev l, line_more true ev₁ (mask_of w b));
        type = ap (type_at (lay true (lay true Z l) (mask_of w b))) n ∙ new_type true ev₁ (mask_of w b) (suc b) e₁ ∙ mask_type o;
        at = λ c. absurd (omega (arith, h.loose o));
        low = λ c. absurd (omega (arith, h.loose o));
      }

-- what is laid for a value line: its instruction, and the mask where it gets one
pub record Puts (Z Z' : Layout) (l : Line) (t : Ty) (q : ℕ) (f : Known) : Type 0 where
  pub grew : Grew Z Z'
  pub even : Even Z'
  pub counts : (Z'.counts.states ≡ (lay true Z l).counts.states) × (Z'.counts.inputs ≡ (lay true Z l).counts.inputs) × (Z'.counts.signals ≡ (lay true Z l).counts.signals)
  pub reg : Reg Z' t q f

pub puts : {Z : Layout} {l : Line} {t : Ty} {q : ℕ} {w : ℕ} (ev : Even Z) (b : ℕ) → b ≡ lines Z → (lo n : Bool) → Fresh Z l t q w lo
    → Puts Z (lay_all true Z (with_mask b w l lo n).code) l t q (with_mask b w l lo n).info
puts {l = l} ev b e false n h = record { grew = grew_line true ev l; even = even_line true ev l; counts = (refl, refl, refl); reg = fresh_reg ev h b e _ refl }
puts {l = l} ev b e true false h = record { grew = grew_line true ev l; even = even_line true ev l; counts = (refl, refl, refl); reg = fresh_reg ev h b e _ refl }
puts {l = l} {w = w} ev b e true true h =
    let ev₁ = even_line true ev l in
    record {
      grew = grew_more (grew_line true ev l) (grew_line true ev₁ (mask_of w b));
      even = even_line true ev₁ (mask_of w b);
      counts = (refl, refl, refl);
      reg = mask_reg ev h b e refl _ refl;
    }
