-- What ids have no part in. Every name here is one that a contract cites: the outcomes of the operations, which are the number answered, its values and what is left in
-- the lists lent for writing. Assumes nothing.
use Rattle.std.specs.Prelude.{ℕ, ◌≡◌, false, List, Ok}
use Rattle.tables.specs.Layout.{records_of}
use Rattle.tables.specs.Tables.{checked}
use Rattle.texts.specs.Writing.{writes}
use Rattle.circuits.specs.Answers.{runs}
use Rattle.peeks.specs.Peek.{peeks}
use Rattle.flattening.specs.Answers.{flattens}
use Rattle.programs.specs.Answers.{translates}

-- two accepted lists with the count n that hold the same lines; their ids may differ, and what stands past the count, and their lengths
pub record SameLines (t u : List ℕ) (n : ℕ) : Type 0 where
  pub records : records_of false t n ≡ records_of false u n
  pub first : checked false t n ≡ Ok tt
  pub second : checked false u n ≡ Ok tt

-- the operations on them have the same outcomes, whatever else they are given
pub record SameOutcomes (t u : List ℕ) (n : ℕ) : Type 0 where
  pub writing : (len : ℕ) → writes t n len ≡ writes u n len
  pub flattening : (len : ℕ) → flattens t n len ≡ flattens u n len
  pub translating : (len : ℕ) → translates t n len ≡ translates u n len
  pub running : (k : ℕ) (S I : List ℕ) (g w : ℕ) → runs false t n k S I g w ≡ runs false u n k S I g w
  pub peeking : (line cell : ℕ) (S R : List ℕ) → peeks t n line cell S R ≡ peeks u n line cell S R
