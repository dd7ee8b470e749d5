-- By the answer: the records go over, or the target stays zero.
use lib.ListN.{length}
use Rattle.std.proofs.lemmas.Result.{err_from_is_err_and}
use Rattle.layouts.proofs.Converting.{carry_ready, convert_done, convert_refused}
use Rattle.layouts.proofs.convert.Goals as goal

pub carry-requires : goal.carry-requires
carry-requires c =
    let s = c.args in
    let j = c.judge in
    let k = c.clear in
    carry_ready s.columns s.program s.list.now s.count (length s.target.now) k.new.table k.ensures j.result j.ensures _ c.in_ok-n.was

pub returns : goal.returns
returns c =
    let s = c.args in
    let j = c.judge in
    let k = c.clear in
    let v = c.carry in
    convert_done s.columns s.program s.list.now s.count (length s.target.now) k.new.table k.ensures j.result j.ensures _ c.in_ok-n.was _ v.ensures

pub returns-in_err-n : goal.returns-in_err-n
returns-in_err-n c =
    let s = c.args in
    let j = c.judge in
    let k = c.clear in
    let p = err_from_is_err_and c.from_residual.result c.from_residual.ensures.1 in
    rw (p.1, p.2) (convert_refused s.columns s.program s.list.now s.count (length s.target.now) k.new.table k.ensures j.result j.ensures _ c.in_err-n.was)
