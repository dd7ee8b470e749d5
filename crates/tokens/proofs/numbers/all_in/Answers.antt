use Prim.Native.Nat.{ℕ}
use mathlib.Core.Path.{◌≡◌, refl, ap, ◌∙◌}
use mathlib.Core.Bool.{Bool, ◌&&◌}
use mathlib.Core.List.{List, [], ◌∷◌}
use lib.Dec.{ltb}
use borrow.Author.Tests.{tests}
use borrow.Author.Rules.{rules}
use Rattle.std.specs.List.{list_all}
use Rattle.std.proofs.lemmas.Iterator.{YieldsList-from_slice}
use Rattle.std.proofs.lemmas.Iterator.Search.{all_from_yields_List}
use Rattle.texts.specs.Decimal.{digit, all_in}
use Rattle.tokens.proofs.numbers.all_in.Goals as goal

below : (b : ℕ) (t : List ℕ) → list_all (λ (d : ℕ). ltb (digit d) b) t ≡ all_in b t
unfolding all_in
below b [] = refl
below b (d ∷ t) = ap (λ (q : Bool). ltb (digit d) b && q) (below b t)

pub returns : goal.returns
returns c =
    let s = c.args in
    all_from_yields_List (λ (d : ℕ). ltb (digit d) s.base) _ _ _ c.all.ensures.ran (YieldsList-from_slice s.t.now c.iter.ensures.rest) (λ x b q k. search (rules, tests)) ∙ below s.base s.t.now
