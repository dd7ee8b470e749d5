use native.Mathlib.Omega.{arith}
use Rattle.circuits.proofs.Feeding.{fed_part}
use Rattle.free_states.proofs.feed_line.Goals as goal

pub returns : goal.returns
returns c =
    let a = c.args in
    let m = c.cells-m in
    let o = c.place-a in
    let w = c.width in
    let f = c.requires in
    fed_part a.words.now a.row.now c.load_masked.new.to a.r m.ensures o.ensures w.ensures (omega (arith, m.ensures, o.ensures, f.0.inside)) (omega (arith, m.ensures, f.1)) c.load_masked.ensures
