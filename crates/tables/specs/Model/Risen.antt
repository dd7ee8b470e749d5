-- What is known of a circuit's list that is being filled: it holds the n records so far, and their ids rise. Assumes nothing.
use Rattle.std.specs.Prelude.{ℕ, ◌≤◌, ◌≡◌, true, false, List, length}
use Rattle.tables.specs.Layout.{held, ids_of}
use Rattle.tables.specs.Ids.{rising}

pub record Risen (t : List ℕ) (n : ℕ) : Type 0 where
  pub there : n ≤ held false (length t)
  pub rise : rising 0 (ids_of t n) ≡ true
