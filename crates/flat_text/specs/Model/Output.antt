-- The output list between the functions. Assumes nothing.
use Rattle.std.specs.Prelude.{ℕ, ◌≡◌, List, length}
use Rattle.texts.specs.Writing.{wrote, buffer_of}

-- n bytes, b, are answered, and an output list of out_len bytes holds them, with zeros past them
pub record Printout (out_len : ℕ) (b : List ℕ) (n : ℕ) (out : List ℕ) : Type 0 where
  pub count : n ≡ length b
  pub bytes : out ≡ buffer_of out_len (wrote b)
