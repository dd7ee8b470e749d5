use mathlib.Core.Path.{◌≡◌}
use native.Mathlib.Omega.{arith}
use Rattle.std.proofs.Common.{rules}
use Rattle.detectors.proofs.detect.Goals as goal
use Rattle.detectors.proofs.detect.Goals.{in-57, in-58, in-59, in-60, in-61, in-62, in_default}

pub returns : goal.returns
returns c =
    elim c.match-kind.branch [
      | in-57 w ↦ search rules
      | in-58 w ↦ search rules
      | in-59 w ↦ search rules
      | in-60 w ↦ search rules
      | in-61 w ↦ search rules
      | in-62 w ↦ search rules
      | in_default w ↦ let d = w.in_default in let e : c.args.kind ≡ 63 = omega arith in search rules
    ]
