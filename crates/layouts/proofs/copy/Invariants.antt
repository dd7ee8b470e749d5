-- The words passed are in the target.
use Prim.Native.Nat.{ℕ, ◌+◌, ◌*◌}
use mathlib.Core.Path.{◌≡◌}
use lib.ListN.{length}
use Rattle.tables.specs.Layout.{words_from, set_words}
use Rattle.layouts.proofs.copy.Given as goal

abbrev pub invariant-loop-j : goal.invariant-loop-j
invariant-loop-j l =
    (length l.target ≡ length l.initial.target) × (l.target ≡ set_words (λ (k : ℕ). l.z * k + l.y) l.initial.target 0 (words_from (λ (k : ℕ). l.s * k + l.x) l.list 0 l.j))
