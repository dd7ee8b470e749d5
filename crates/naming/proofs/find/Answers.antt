use borrow.Author.Rules.{rules}
use Prim.Native.Nat.{◌-◌}
use native.Mathlib.Omega.{arith}
use mathlib.Core.Path.{sym, ap, ◌∙◌}
use lib.ListN.{length, take, drop, length-take, length-drop}
use Rattle.texts.proofs.Named.{part_of, line_past, line_found, line_next, name_missing, name_found}
use Rattle.texts.proofs.Ends.{place_found}
use Rattle.naming.proofs.find.Goals as goal

pub returns-then-leads : goal.returns-then-leads
returns-then-leads c =
    let s = c.args.text.now in
    let i = c.loop-i.i in
    let e = c.find_byte-e.result in
    let z = c.cut-z.result in
    let p = c.part-p.result in
    let h = c.part-p.ensures in
    let line = c.loop-i.invariant.1 ∙ line_found c.args.n s i e z c.find_byte-e.ensures.1.1 c.cut-z.ensures.1.1 (sym c.leads.ensures ∙ c.if-leads.true) in
    (omega (arith, h.0), (omega (arith, h.0, h.1.0, length-take (z - i) (drop i s), length-drop i s, c.cut-z.ensures.0, c.cut-z.ensures.1.0, c.find_byte-e.ensures.1.0), (part_of s i z p.from p.to c.cut-z.ensures.0 (omega (arith, c.cut-z.ensures.1.0, c.find_byte-e.ensures.1.0)) h.1.0 ∙ (h.1.1.0 ∙ sym (name_found s c.args.n i (take (e - i) (drop i s)) (take (z - i) (drop i s)) line c.cut-z.ensures.1.1)), place_found s c.args.n i (take (e - i) (drop i s)) (take (z - i) (drop i s)) p.from p.to line c.cut-z.ensures.1.1 h.1.0 h.1.1.0 h.1.1.1)))

pub loop-i-preserved : goal.loop-i-preserved
loop-i-preserved c = (omega (arith, c.after-i.ensures), c.loop-i.invariant.1 ∙ line_next c.args.n c.args.text.now c.loop-i.i c.find_byte-e.result c.cut-z.result c.find_byte-e.ensures.1.1 c.cut-z.ensures.1.1 c.after-i.result c.find_byte-e.ensures.1.0 c.after-i.ensures (sym c.leads.ensures ∙ c.if-leads.false))

pub returns : goal.returns
returns c =
    let e = name_missing c.args.text.now c.args.n (c.loop-i.invariant.1 ∙ line_past c.args.n c.args.text.now c.loop-i.i c.loop-i-test.false) in
    (search rules, (search rules, (sym e, λ h. absurd (omega (arith, ap length e)))))
