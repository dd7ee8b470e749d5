-- How the records of flat lines lie in a list of words: nothing else of flattening knows it. "Flat circuits number 1, 2, 3": the id of a flat line is its number. Places are
-- counted from 0, numbers from 1. Assumes nothing.
use Rattle.std.specs.Prelude.{ℕ, suc, false, List, length}
use Rattle.tables.specs.Layout.{with_ids, from, numbered, put_all, filled}

-- a list with the records rs from the place i on
unfoldable pub put_flat : List ℕ → (i : ℕ) → (rs : List (List ℕ)) → List ℕ
put_flat t i rs = put_all false t i (with_ids rs (from (suc i) (length rs)))

-- a list of len words that holds the records rs, and zeros past them
unfoldable pub flat_filled : (len : ℕ) → (rs : List (List ℕ)) → List ℕ
flat_filled len rs = filled false len (numbered false rs)
