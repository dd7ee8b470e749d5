-- The numbers passed are in the record, and their signs beside it.
use Prim.Native.Nat.{◌+◌, ◌-◌, ◌≤◌}
use mathlib.Core.Path.{◌≡◌}
use mathlib.Core.Bool.{false}
use lib.ListN.{length, drop, get_or}
use Rattle.tables.specs.Layout.{record_words}
use Rattle.texts.specs.Split.{tokens}
use Rattle.texts.specs.Minus.{no_signs}
use Rattle.texts.specs.Model.Stages.{operands}
use Rattle.forms.proofs.operands.operands.Given as goal

abbrev pub invariant-loop-p : goal.invariant-loop-p
invariant-loop-p l = record {
  kind : get_or l.rec 0 0 ≡ get_or l.initial.rec 0 0;
  there : l.at ≤ length l.l;
  whole : length l.rec ≡ record_words;
  left : operands l.f l.m l.j l.initial.rec no_signs false 0 (tokens (drop l.i l.l)) ≡ operands l.f (l.j + l.m - l.p) l.p l.rec l.minus l.big l.len (tokens (drop l.at l.l));
}
