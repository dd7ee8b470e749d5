-- What the library's function answers lies within the output list.
use mathlib.Core.Path.{sym}
use lib.Seq.{length-take-le}
use Rattle.flat_text.proofs.Outputs.{prints_within}
use Rattle.flat.proofs.main.Goals as goal

pub slice_bounds-out-end : goal.slice_bounds-out-end
slice_bounds-out-end c = prints_within _ _ _ _ c.flat-m.new.table c.flat-m.new.target c.flat-m.new.out c.flat-m.result c.flat-m.ensures

pub slice_bounds-write_all-end : goal.slice_bounds-write_all-end
slice_bounds-write_all-end c = sym (length-take-le c.flat-m.result c.flat-m.new.out (prints_within _ _ _ _ c.flat-m.new.table c.flat-m.new.target c.flat-m.new.out c.flat-m.result c.flat-m.ensures))
