-- The value that a word gives.
use mathlib.Core.Path.{sym, ap, ◌∙◌}
use Prim.Native.Nat.{ℕ}
use native.Mathlib.Omega.{arith}
use lib.ListN.{set}
use Rattle.texts.proofs.Steps.{settled_one, settled_ones, settled_other}
use Rattle.stages.proofs.settle.Goals as goal

pub returns-in-67 : goal.returns-in-67
returns-in-67 c = sym (settled_one _ _ _ c.in-67.is)

pub returns-in-68 : goal.returns-in-68
returns-in-68 c = ap (λ (v : ℕ). set c.args.rec 2 v) c.ones.ensures ∙ sym (settled_ones _ _ _ c.in-68.is)

pub returns-in_default : goal.returns-in_default
returns-in_default c = sym (settled_other _ _ _ (λ e. omega arith) (λ e. omega arith))
