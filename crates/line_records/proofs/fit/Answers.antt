-- Room for all records of a line, or 4.
use mathlib.Core.Path.{ap, ◌∙◌}
use native.Mathlib.Omega.{arith}
use Rattle.texts.specs.Model.Structs.{signed_reply}
use Rattle.texts.proofs.Admitting.{fits_no, fits_got, fits_late}
use Rattle.line_records.proofs.fit.Goals as goal

pub returns-in-Ok : goal.returns-in-Ok
returns-in-Ok c = fits_got c.args.n c.args.room c.args.own c.in-Ok.r c.in-Ok.is (omega (arith, c.count.ensures, c.if-count-room.true, c.requires))

pub returns-in-Ok-2 : goal.returns-in-Ok-2
returns-in-Ok-2 c = fits_late c.args.n c.args.room c.args.own c.in-Ok.r c.in-Ok.is (omega (arith, c.count.ensures, c.if-count-room.false, c.requires))

pub returns-in-Err : goal.returns-in-Err
returns-in-Err c = ap signed_reply c.in-Err.is ∙ fits_no c.args.n c.args.room c.args.own c.in-Err.field-0 c.in-Err.is
