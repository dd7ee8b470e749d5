-- The answer from the start is the answer from here, for both loops.
use Rattle.std.specs.Prelude.{None}
use Prim.Native.Nat.{◌+◌, ◌-◌, ◌*◌, ◌≤◌}
use mathlib.Core.Path.{◌≡◌}
use lib.ListN.{length, drop}
use Rattle.circuits.specs.Run.{bad_at, bad_or, first_bad}
use Rattle.circuits.specs.Model.Signals.{zip_sig, sig_rows}
use Rattle.bad.proofs.first_bad.Given as goal

abbrev pub invariant-loop-b : goal.invariant-loop-b
invariant-loop-b l =
    let j = length l.yielded in
    let later = first_bad (l.i + 1) (sig_rows l.bad (l.k - (l.i + 1)) (drop (length l.bad) l.row)) in
    (l.found ≡ None) × (((1 ≤ l.p) × (l.p ≤ j + 1)) × (first_bad 0 (sig_rows l.bad l.k l.signals) ≡ bad_or l.i (bad_at l.p (zip_sig (drop j l.bad) (drop j l.row))) later))

abbrev pub invariant-steps : goal.invariant-steps
invariant-steps l =
    (l.found ≡ None)
    × (((l.k - l.i) * length l.bad ≤ length l.row) × (first_bad 0 (sig_rows l.bad l.k l.signals) ≡ first_bad l.i (sig_rows l.bad (l.k - l.i) l.row)))
