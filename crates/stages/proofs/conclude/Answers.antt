-- The record with places, its value, and the rules.
use Prim.Native.Nat.{ℕ}
use mathlib.Core.Path.{sym, ap, ◌∙◌}
use mathlib.Core.List.{List}
use Rattle.tables.specs.declared.Ty.{Ty}
use Rattle.tables.specs.Kinds.{row_of}
use Rattle.tables.specs.Lines.{kind_in}
use Rattle.tables.specs.Model.Notes.{look_in, given_in}
use Rattle.texts.specs.Model.Stages.{concluded}
use Rattle.texts.proofs.Resolving.{resolved_kind}
use Rattle.texts.proofs.Steps.{settled_kind, is_concluded}
use Rattle.stages.proofs.conclude.Goals as goal

pub allow-requires : goal.allow-requires
allow-requires c = c.requires.0 ∙ ap row_of (sym (ap kind_in c.settle-t.ensures ∙ (settled_kind _ _ _ ∙ (ap kind_in c.resolve-p.ensures ∙ resolved_kind _ _))))

pub returns : goal.returns
returns c =
    let s = c.args in
    is_concluded (look_in s.notes.now) (given_in s.notes.now) s.f c.resolve-p.result s.minus s.len c.allow.ensures c.settle-t.ensures (ap (λ (t : Ty). t.w) c.look-w.ensures)
    ∙ ap (λ (r : List ℕ). concluded (look_in s.notes.now) (given_in s.notes.now) s.f s.len r s.minus) c.resolve-p.ensures
