-- By what reading answers, and then flattening.
use mathlib.Core.Path.{refl}
use lib.ListN.{length}
use Rattle.flat_text.proofs.Outputs.{flat_by, prints_by}
use Rattle.flat_text.proofs.flat.Goals as goal

pub returns-in-Err : goal.returns-in-Err
returns-in-Err c =
    let s = c.args in
    let t = c.read in
    prints_by (length s.table.now) (length s.target.now) (length s.out.now) s.text.now t.result t.new.table t.ensures c.in-Err.is refl c.clear.ensures c.refuse.ensures

pub returns-in-Ok : goal.returns-in-Ok
returns-in-Ok c =
    let s = c.args in
    let t = c.read in
    let f = c.flatten-a in
    let x = flat_by t.new.table c.in-Ok.count (length s.target.now) (length s.out.now) f.result f.new.target f.ensures in
    prints_by (length s.table.now) (length s.target.now) (length s.out.now) s.text.now t.result t.new.table t.ensures c.in-Ok.is x.0 x.1 c.print_flat.ensures
