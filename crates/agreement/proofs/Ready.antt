-- A run that is lent what it asks for is not refused, and then answers by its signals. Assumes nothing.
use Rattle.std.specs.Prelude.{Ok}
use Prim.Native.Nat.{ℕ, ◌*◌, ◌≤◌}
use mathlib.Core.Path.{◌≡◌}
use mathlib.Core.Bool.{Bool}
use lib.ListN.{length}
use borrow.Author.Tests.{le-leb, eq-eqb}
use Rattle.tables.specs.Layout.{lines_of}
use Rattle.tables.specs.Tables.{checked}
use Rattle.circuits.specs.Run.{run, bytes, first_bad}
use Rattle.circuits.specs.Answers.{ready, ran, signals_left}
use Rattle.agreement.specs.Comparison.{Table, Lent, starts, bad, signals, totals, row, Roomy}

module _ (p : Bool) (T : Table) (L : Lent) (w : ℕ) where
  pub is_ready : checked p T.words T.count ≡ Ok tt → L.steps ≤ 4096 → length L.starts ≡ (totals p T).states → length L.inputs ≡ L.steps * row p T
      → L.signals ≡ L.steps * (totals p T).signals → Roomy p T w → starts p T L w ≡ Ok tt
  unfolding ready
  is_ready a b c d e f =
      rw (
        a,
        le-leb L.steps 4096 b,
        eq-eqb (length L.starts) (totals p T).states c,
        eq-eqb (length L.inputs) (L.steps * row p T) d,
        eq-eqb L.signals (L.steps * (totals p T).signals) e,
        le-leb _ w f,
      )

  pub answers : starts p T L w ≡ Ok tt → bad p T L w ≡ Ok (first_bad 0 (run p (lines_of p T.words T.count) L.steps L.starts L.inputs))
  unfolding ran
  answers e = rw e

  pub leaves : starts p T L w ≡ Ok tt → signals p T L w ≡ bytes (run p (lines_of p T.words T.count) L.steps L.starts L.inputs)
  unfolding signals_left
  leaves e = rw e
