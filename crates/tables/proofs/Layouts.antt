-- The two facts of a layout, by which all other laws go: a record's words stand inside the list, and no two words stand at one place. Assumes nothing.
use Prim.Native.Nat.{ℕ, ◌+◌, ◌*◌, ◌/◌, ◌%◌, ◌<◌, ◌≤◌}
use mathlib.Core.Path.{◌≡◌, sym, ap, ◌∙◌}
use mathlib.Core.Bool.{Bool, true, false}
use native.Mathlib.Nat.{mul-suc, mul-le-mul_left, mul-div-le, div-mul-le_self, mul-add-div, mul-add-mod_self_left, div-eq_of_lt, mod-eq_of_lt}
use native.Mathlib.Omega.{arith}
use Rattle.tables.specs.Layout.{Placing, record_words, record_size, held, by_row, by_column, placing_in, placing}

pub record Sound (p : Bool) (f : Placing) : Type 0 where
  pub inside : (len i j : ℕ) → i < held p len → j < record_size p → f len i j < len
  pub apart : (len i j k l : ℕ) → i < held p len → k < held p len → j < record_size p → l < record_size p → f len i j ≡ f len k l → (i ≡ k) × (j ≡ l)

-- ---- two numbers in one, the second below h

pair_inside : (h n i j : ℕ) → i < h → j < n → h * j + i < h * n
pair_inside h n i j a b = omega (arith, mul-suc h j, mul-le-mul_left h b)

pair_first : (h i j : ℕ) → i < h → (h * j + i) % h ≡ i
pair_first h i j a = mul-add-mod_self_left h j i ∙ mod-eq_of_lt a

pair_second : (h i j : ℕ) → i < h → (h * j + i) / h ≡ j
pair_second h i j a = let z : 0 < h = omega arith in omega (arith, mul-add-div z j i, div-eq_of_lt a)

pair_apart : (h i j k l : ℕ) → i < h → k < h → h * j + i ≡ h * l + k → (i ≡ k) × (j ≡ l)
pair_apart h i j k l a b e = (
  sym (pair_first h i j a) ∙ (ap (λ (x : ℕ). x % h) e ∙ pair_first h k l b),
  sym (pair_second h i j a) ∙ (ap (λ (x : ℕ). x / h) e ∙ pair_second h k l b),
)

-- ---- records one behind the other, and columns

rows_sound : (p : Bool) → Sound p (by_row p)
rows_sound p =
    record {
      inside = λ len i j a b. omega (arith, pair_inside (record_size p) (held p len) j i b a, mul-div-le len (record_size p));
      apart = λ len i j k l a b c d e. let q = pair_apart (record_size p) j i l k c d e in (q.1, q.0);
    }

columns_sound : (p : Bool) → Sound p (by_column p)
columns_sound p =
    record {
      inside = λ len i j a b. omega (arith, pair_inside (held p len) (record_size p) i j a b, div-mul-le_self len (record_size p));
      apart = λ len i j k l a b c d e. pair_apart (held p len) i j k l a b e;
    }

pub placed_in : (columns p : Bool) → Sound p (placing_in columns p)
placed_in true = columns_sound
placed_in false = rows_sound

-- the layout in use
pub placed : (p : Bool) → Sound p (placing p)
placed = columns_sound

-- a record that is handed about has its words in a list
pub words_in : (p : Bool) → record_words ≤ record_size p
words_in true = omega arith
words_in false = omega arith
