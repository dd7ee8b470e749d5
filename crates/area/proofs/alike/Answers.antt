use mathlib.Core.Path.{◌≡◌, refl, sym, ap, ap₂, ◌∙◌}
use mathlib.Core.Bool.{Bool, ◌&&◌}
use mathlib.Core.List.{List, [], ◌∷◌}
use Prim.Native.Nat.{ℕ, ◌+◌, ◌-◌}
use native.Mathlib.Omega.{arith}
use lib.Dec.{eqb}
use lib.ListN.{length, take, drop}
use Rattle.std.specs.Cmp.Lexicographic.{pointwise}
use Rattle.circuits.specs.Cells.{part, same_cells}
use Rattle.circuits.proofs.Puts as laws
use Rattle.area.proofs.alike.Goals as goal

-- lists of one length are the same as slices just where they are the same cells
same_slices : (xs ys : List ℕ) → length xs ≡ length ys → pointwise eqb xs ys ≡ same_cells xs ys
same_slices [] [] e = refl
same_slices [] (y ∷ ys) e = absurd (omega arith)
same_slices (x ∷ xs) [] e = absurd (omega arith)
same_slices (x ∷ xs) (y ∷ ys) e = ap (λ (b : Bool). eqb x y && b) (same_slices xs ys (omega arith))

pub returns : goal.returns
returns c =
    let a = c.args in
    let w = a.words.now in
    let ex : a.x + a.n - a.x ≡ a.n = omega arith in
    let ey : a.y + a.n - a.y ≡ a.n = omega arith in
    c.eq.ensures ∙ ap₂ (λ (i j : ℕ). pointwise eqb (take i (drop a.x w)) (take j (drop a.y w))) ex ey
    ∙ same_slices (part w a.x a.n) (part w a.y a.n) (laws.length_part w a.x a.n c.requires.0 ∙ sym (laws.length_part w a.y a.n c.requires.1))
