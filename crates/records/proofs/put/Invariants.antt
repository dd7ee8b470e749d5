-- The words passed are the record's.
use Prim.Native.Nat.{ℕ, ◌+◌, ◌*◌}
use mathlib.Core.Path.{◌≡◌}
use lib.ListN.{length, take}
use Rattle.tables.specs.Layout.{set_words}
use Rattle.records.proofs.put.Given as goal

abbrev pub invariant-loop-j : goal.invariant-loop-j
invariant-loop-j l = (length l.fn.rec ≡ 5) × ((l.word-items ≡ l.fn.rec) × (l.table ≡ set_words (λ (k : ℕ). l.h * k + l.i) l.initial.table 0 (take l.j l.fn.rec)))
