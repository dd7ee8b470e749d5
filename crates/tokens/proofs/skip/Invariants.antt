-- The places passed hold spaces.
use mathlib.Core.Path.{◌≡◌}
use lib.ListN.{drop}
use Rattle.texts.specs.Split.{tokens}
use Rattle.tokens.proofs.skip.Given as goal

abbrev pub invariant-loop-j : goal.invariant-loop-j
invariant-loop-j l = tokens (drop l.j l.s) ≡ tokens (drop l.i l.s)
