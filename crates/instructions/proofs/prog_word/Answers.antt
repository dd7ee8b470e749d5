use Rattle.std.proofs.Common.{◌≡◌, ℕ, ◌≤◌, sym, ap, ◌∙◌, arith}
use Rattle.words.specs.Op.{Op, op_of, mask, overflow}
use Rattle.words.specs.Program.{prog}
use Rattle.words.specs.Model.Classes.{class_of}
use Rattle.words.specs.Model.Widths.{Widths}
use Rattle.words.proofs.KindLaws.{detector_of, detector_kind, mask_between, mask_past}
use Rattle.instructions.proofs.prog_word.Goals as goal
use Rattle.instructions.proofs.prog_word.Goals.{in_default-via-then-kind-lt57, in_default-via-else-kind-lt57+else-kind-lt64}

one_width : (k u v a b c : ℕ) → 57 ≤ k → k ≤ 63 → Widths (class_of (op_of k)) u v b c → prog (op_of k) u u a b 0 ≡ prog (op_of k) u v a b c
one_width k u v a b c h l g =
    let e = detector_kind k h l in
    let q : u ≡ v = rw e at g in
    ap (λ (op : Op). prog op u u a b 0) e ∙ ap (λ (n : ℕ). prog (overflow (detector_of k)) u n a b c) q ∙ sym (ap (λ (op : Op). prog op u v a b c) e)

pub returns-in-57-to-63 : goal.returns-in-57-to-63
returns-in-57-to-63 c = c.detect.ensures ∙ one_width c.args.kind c.args.u c.args.v c.args.a c.args.b c.args.c (omega arith) (omega arith) c.requires.2

pub returns-in_default : goal.returns-in_default
returns-in_default c =
    let e : op_of c.args.kind ≡ mask =
    elim c.in_default.branch [
      | in_default-via-then-kind-lt57 w ↦ mask_between c.args.kind (omega arith) (omega arith)
      | in_default-via-else-kind-lt57+else-kind-lt64 w ↦ mask_past c.args.kind (omega arith)
    ]
    in
    c.low.ensures.0 ∙ sym (ap (λ (op : Op). prog op c.args.u c.args.v c.args.a c.args.b c.args.c) e)
