-- A layout with lines more: what was known of the earlier lines stays. Assumes nothing.
use Prim.Native.Nat.{ℕ, suc, ◌≤◌, ◌<◌}
use mathlib.Core.Path.{◌≡◌, refl, sym, ap, ◌∙◌}
use mathlib.Core.Bool.{Bool}
use mathlib.Core.List.{[]}
use native.Mathlib.Nat.{le_refl, le_trans}
use native.Mathlib.Omega.{arith}
use lib.ListN.{length}
use lib.Seq.{get_or_at}
use Rattle.tables.specs.Lines.{Line}
use Rattle.tables.specs.Types.{no_ty}
use Rattle.circuits.specs.Layout.{Layout, type_at, place_at, line_type_in, place_of, lay}
use Rattle.circuits.proofs.Laid.{grew}
use Rattle.programs.proofs.Lists.{length_snoc, below_snoc}

-- how many lines there are, entry 0 with them: the next line's number
abbrev pub lines : Layout → ℕ
lines Z = length Z.ctx.tys

pub record Even (Z : Layout) : Type 0 where
  pub alike : length Z.places ≡ lines Z

pub record Grew (Z Z' : Layout) : Type 0 where
  pub types : (n : ℕ) → n < lines Z → type_at Z' n ≡ type_at Z n
  pub places : (n : ℕ) → n < lines Z → place_at Z' n ≡ place_at Z n
  pub longer : lines Z ≤ lines Z'
  pub states : Z.counts.states ≤ Z'.counts.states

pub grew_none : (Z : Layout) → Grew Z Z
grew_none Z = record { types = λ n h. refl; places = λ n h. refl; longer = le_refl (lines Z); states = le_refl Z.counts.states }

pub grew_more : {X Y Z : Layout} → Grew X Y → Grew Y Z → Grew X Z
grew_more g h =
    record {
      types = λ n k. h.types n (le_trans k g.longer) ∙ g.types n k;
      places = λ n k. h.places n (le_trans k g.longer) ∙ g.places n k;
      longer = le_trans g.longer h.longer;
      states = le_trans g.states h.states;
    }

module _ (p : Bool) {Z : Layout} (ev : Even Z) (l : Line) where
  pub line_more : lines (lay p Z l) ≡ suc (lines Z)
  line_more = length_snoc Z.ctx.tys (line_type_in p Z l)

  pub even_line : Even (lay p Z l)
  even_line = record { alike = length_snoc Z.places (place_of Z l) ∙ ap suc ev.alike ∙ sym line_more }

  pub grew_line : Grew Z (lay p Z l)
  grew_line =
      record {
        types = λ n h. below_snoc Z.ctx.tys (line_type_in p Z l) no_ty n h;
        places = λ n h. below_snoc Z.places (place_of Z l) 0 n (omega (arith, ev.alike));
        longer = omega (arith, line_more);
        states = (grew Z.counts _ l).states;
      }

  -- the new line itself, number b
  pub new_type : (b : ℕ) → b ≡ lines Z → type_at (lay p Z l) b ≡ line_type_in p Z l
  new_type b e = get_or_at Z.ctx.tys (line_type_in p Z l) [] no_ty b (sym e)

  pub new_place : (b : ℕ) → b ≡ lines Z → place_at (lay p Z l) b ≡ place_of Z l
  new_place b e = get_or_at Z.places (place_of Z l) [] 0 b (ev.alike ∙ sym e)
