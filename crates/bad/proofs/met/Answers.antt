-- The constraints are met where no pair breaks.
use Prim.Native.Nat.{ℕ}
use mathlib.Core.Path.{◌≡◌, refl, ap₂, ◌∙◌}
use mathlib.Core.Bool.{Bool, true, false, not, ◌&&◌}
use mathlib.Core.List.{List, [], ◌∷◌}
use lib.Dec.{eqb}
use borrow.Author.Tests.{tests}
use borrow.Author.Rules.{rules}
use Rattle.std.specs.List.{list_all, zip}
use Rattle.std.proofs.lemmas.Iterator.{YieldsList-from_slice, YieldsList-from_zip}
use Rattle.std.proofs.lemmas.Iterator.Search.{all_from_yields_List}
use Rattle.tables.specs.Pick.{pick}
use Rattle.circuits.specs.Meaning.{Signal, signal_byte}
use Rattle.circuits.specs.Run.{met}
use Rattle.circuits.specs.Model.Signals.{zip_sig}
use Rattle.bad.proofs.met.Goals as goal

twice : (x : Bool) → not (not x) ≡ x
twice true = refl
twice false = refl

keeps : ℕ × ℕ → Bool
keeps p = not (pick (eqb p.0 1) false (not (eqb p.1 1)))

one : (x : Bool) (v : ℕ) (g : List Signal) (m : Bool) → m ≡ met g → (not (pick x false (not (eqb v 1))) && m) ≡ met (signal_byte x v ∷ g)
one true v g m e = e
one false v g m e = ap₂ (λ (a b : Bool). a && b) (twice (eqb v 1)) e

kept : (bs vs : List ℕ) → list_all keeps (zip bs vs) ≡ met (zip_sig bs vs)
unfolding keeps
kept [] vs = refl
kept (b ∷ bs) [] = refl
kept (b ∷ bs) (v ∷ vs) = one (eqb b 1) v (zip_sig bs vs) _ (kept bs vs)

pub returns : goal.returns
unfolding keeps
returns c =
    let s = c.args in
    all_from_yields_List keeps c.all.new.self _ _ c.all.ensures.ran (YieldsList-from_zip (YieldsList-from_slice s.bad.now cc) (YieldsList-from_slice s.row.now cc)) (λ x b q k. search (rules, tests))
    ∙ kept s.bad.now s.row.now
