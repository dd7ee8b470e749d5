-- One word operator, in the circuit and in the program: where its operands' words stand for each other, so do its results, as the flag of its line says. Assumes nothing.
use Prim.Native.Nat.{ℕ, ◌^◌, ◌≤◌, ◌<◌}
use mathlib.Core.Path.{◌≡◌, refl, subst⁻¹}
use mathlib.Core.Bool.{Bool, true, false, not, ◌&&◌}
use lib.Dec.{eqb}
use borrow.Author.Tests.{eqb-true}
use Rattle.words.specs.Word.{Width}
use Rattle.words.specs.Op.{op_of}
use Rattle.words.specs.Circuit.{circ}
use Rattle.words.specs.Program.{prog}
use Rattle.words.specs.Model.Classes.{class_of}
use Rattle.words.specs.Model.Widths.{Widths}
use Rattle.words.specs.Model.Loose.{loose, need₁, need₂, need₃, at_use}
use Rattle.words.specs.Kinds.{loose_kind}
use Rattle.words.proofs.Stands.{Stands, exact, loosen}
use Rattle.words.proofs.Agree.{agree_lines}
use Rattle.words.proofs.Bounds.{circ_lt, prog_lt}
use Rattle.words.proofs.KindLaws.{loose_kind_lem}
use Rattle.tables.proofs.Kept.{no_yes}
use Rattle.programs.specs.Uses.{loose_line}
use Rattle.circuits.proofs.Fitting.{Suits}

-- x, a word of the program, stands for a, a word of the circuit of width w; lo says whether x is loose
pub record Result (w : ℕ) (lo : Bool) (x a : ℕ) : Type 0 where
  pub fits : x < 2 ^ 64
  pub small : a < 2 ^ w
  pub stands : Stands lo w x a

-- width 64 is never loose
pub narrowed : (w : ℕ) (k : Bool) (x a : ℕ) → x < 2 ^ 64 → Stands k w x a → Stands (not (eqb w 64) && k) w x a
narrowed w k x a h e = go (eqb w 64) refl k e
  where
    go : (t : Bool) → eqb w 64 ≡ t → (k : Bool) → Stands k w x a → Stands (not t && k) w x a
    go true q true e = exact w (subst⁻¹ (λ (n : ℕ). x < 2 ^ n) (eqb-true w 64 q) h) e
    go true q false e = e
    go false q k e = e

-- an operand where it is used: exact if the use needs it clean, since the line has a mask then
pub at_use_lem : (n need l : Bool) (w x : ℕ) {a : ℕ} → a < 2 ^ w → (need ≡ true → n ≡ true) → Stands (at_use n l) w x a → Stands (at_use need l) w x a
at_use_lem true true l w x h g e = e
at_use_lem true false l w x h g e = loosen false l w x tt h e
at_use_lem false true l w x h g e = absurd (no_yes (g refl))
at_use_lem false false l w x h g e = e

-- an exact word stands for itself whatever the flag says
pub exact_result : (w : ℕ) (lo : Bool) {x a : ℕ} → x < 2 ^ 64 → a < 2 ^ w → x ≡ a → Result w lo x a
exact_result w lo {x} f h e = record { fits = f; small = h; stands = loosen false lo w x tt h e }

pub operator : (k w u v a b c x y z : ℕ) (l₁ l₂ l₃ : Bool) → 11 ≤ k → k ≤ 63 → Width u → Suits (class_of (op_of k)) w u v b c → Widths (class_of (op_of k)) u v y z
    → a < 2 ^ u → b < 2 ^ v → c < 2 ^ v → x < 2 ^ 64 → y < 2 ^ 64 → z < 2 ^ 64
    → Stands (at_use (need₁ (class_of (op_of k))) l₁) u x a → Stands (at_use (need₂ (class_of (op_of k))) l₂) v y b → Stands (at_use (need₃ (class_of (op_of k))) l₃) v z c
    → Result w (loose_line w k l₁ l₂ l₃) (prog (op_of k) u v x y z) (circ (op_of k) u v a b c)
operator k w u v a b c x y z l₁ l₂ l₃ h l hu s g ha hb hc hx hy hz e₁ e₂ e₃ =
    let op = op_of k in
    let r = agree_lines u v a b c x y z hu.most ha hb hc hx hy l₁ l₂ l₃ op s.widths e₁ e₂ e₃ in
    let f = prog_lt u v x y z hu hx hy hz op g in
    record {
      fits = f;
      small = subst⁻¹ (λ (n : ℕ). circ op u v a b c < 2 ^ n) s.width (circ_lt u v a b c hu ha hb hc op s.widths);
      stands =
          narrowed w (loose_kind k l₁ l₂ l₃) (prog op u v x y z) (circ op u v a b c) f
          (subst⁻¹ (λ (t : Bool). Stands t w (prog op u v x y z) (circ op u v a b c)) (loose_kind_lem k h l l₁ l₂ l₃)
          (subst⁻¹ (λ (n : ℕ). Stands (loose (class_of op) l₁ l₂ l₃) n (prog op u v x y z) (circ op u v a b c)) s.width r));
    }
