-- The words of a kind, with their spaces.
use Prim.Native.Nat.{ℕ}
use native.Mathlib.Omega.{arith}
use mathlib.Core.Path.{ap}
use mathlib.Core.List.{List}
use lib.ListN.{length}
use Rattle.tables.specs.Kinds.{word_of}
use Rattle.texts.proofs.Printed.{kind_sort, kind_word, row_words}
use Rattle.writing.proofs.put_kind.Goals as goal

pub put_word-requires : goal.put_word-requires
put_word-requires c = (row_words c.args.r c.args.k c.requires.1.1.0 c.requires.0 c.requires.1.0, omega (arith, c.requires.1.1.1, c.put-a.ensures.0, c.put_word-b.ensures.0, c.put-p.ensures.0, ap length (kind_sort c.args.k c.if-k-le2.true), ap (λ (r : List ℕ). length (word_of r)) c.requires.1.1.0))

pub put_word-requires-2 : goal.put_word-requires-2
put_word-requires-2 c = (row_words c.args.r c.args.k c.requires.1.1.0 c.requires.0 c.requires.1.0, omega (arith, c.requires.1.1.1, c.put-p-2.ensures.0, ap length (kind_word c.args.k (omega (arith, c.if-k-le2.false))), ap (λ (r : List ℕ). length (word_of r)) c.requires.1.1.0))
