-- What the operands' widths and the plain numbers of an operator have to be for the laws of its class, and its result's width. Both
-- follow from BTOR2's rules; they speak of u and v, the widths of the first and second operands, and of b and c, the second and
-- third operands where these are numbers. There v has no meaning: 64, say. Assumes nothing.
use Rattle.std.specs.Prelude.{ℕ, suc, ◌+◌, ◌-◌, ◌^◌, ◌≤◌, ◌<◌, ◌≡◌}
use Rattle.words.specs.Word.{Width}
use Rattle.words.specs.Model.Classes.{Class, turn, wrap, meet, merge, test, plain, copy, compare, low, extend, cut, left, join, pick, clear}

-- x and y are words of the width w
pub record Words (w x y : ℕ) : Type 0 where
  pub width : Width w
  pub first : x < 2 ^ w
  pub second : y < 2 ^ w

abbrev pub Widths : Class → (u v b c : ℕ) → Type 0
Widths turn u v b c = Unit {0}
Widths wrap u v b c = u ≡ v
Widths meet u v b c = u ≡ v
Widths merge u v b c = u ≡ v
Widths test u v b c = Unit {0}
Widths plain u v b c = Unit {0}
Widths copy u v extra c = u + extra ≤ 64
Widths compare u v b c = u ≡ v
Widths low u v b c = u ≡ v
Widths extend u v extra c = u + extra ≤ 64
Widths cut u v upper lower = (lower ≤ upper) × (upper < u)
Widths left u v b c = Unit {0}
Widths join u v b c = u + v ≤ 64
Widths pick u v b c = Width v
Widths clear u v b c = Unit {0}

abbrev pub width_of : Class → (u v b c : ℕ) → ℕ
width_of turn u v b c = u
width_of wrap u v b c = u
width_of meet u v b c = u
width_of merge u v b c = u
width_of test u v b c = 1
width_of plain u v b c = u
width_of copy u v extra c = u + extra
width_of compare u v b c = 1
width_of low u v b c = u
width_of extend u v extra c = u + extra
width_of cut u v upper lower = suc upper - lower
width_of left u v b c = u
width_of join u v b c = u + v
width_of pick u v b c = v
width_of clear u v b c = u
