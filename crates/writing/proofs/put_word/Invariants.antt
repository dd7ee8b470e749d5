-- The letters passed are stored.
use Prim.Native.Nat.{◌+◌}
use mathlib.Core.Path.{◌≡◌}
use lib.ListN.{length, drop}
use lib.Seq.{sets}
use Rattle.tables.specs.Kinds.{word_of}
use Rattle.writing.proofs.put_word.Given as goal

abbrev pub invariant-loop-letter : goal.invariant-loop-letter
invariant-loop-letter l =
    (length l.out ≡ length l.initial.out) × ((l.at + length (word_of l.fn.r) ≡ l.p + length (drop l.letter-index (word_of l.fn.r))) × (sets l.initial.out l.at (word_of l.fn.r) ≡ sets l.out l.p (drop l.letter-index (word_of l.fn.r))))
