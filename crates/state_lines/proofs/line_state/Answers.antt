-- The state words, masked or not, are copied to the state's cells.
use mathlib.Core.Path.{ap}
use Prim.Native.Nat.{ℕ, ◌+◌}
use native.Mathlib.Omega.{arith}
use Rattle.circuits.proofs.Puts as laws
use Rattle.state_lines.proofs.line_state.Goals as goal

pub returns : goal.returns
returns c = laws.loaded-as c.args.work.now c.settle.ensures c.copy.ensures (ap (λ (n : ℕ). c.args.all + n) c.place-p.ensures) c.off-o.ensures c.cells-m.ensures c.width.ensures c.masks.ensures (omega (arith, c.place-p.ensures, c.cells-m.ensures, c.requires.words))
