-- By what writing answers.
use lib.ListN.{length}
use Rattle.flat_text.proofs.Outputs.{text_held, text_not}
use Rattle.flat_text.proofs.print.Goals as goal

pub returns-in-Ok : goal.returns-in-Ok
returns-in-Ok c =
    let s = c.args in
    let w = c.write in
    text_held s.flat.now s.count (length s.out.now) w.result w.new.text w.ensures c.in-Ok.is

pub returns-in-Err : goal.returns-in-Err
returns-in-Err c =
    let s = c.args in
    let w = c.write in
    text_not s.flat.now s.count (length s.out.now) w.result w.new.text w.ensures c.in-Err.is w.auto.text c.refuse.ensures
