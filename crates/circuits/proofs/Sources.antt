-- The sources of the state words: one for each state word, and where each comes from at a later step. Assumes nothing.
use Prim.Native.Nat.{ℕ, zero, suc, ◌+◌, ◌%◌, ◌^◌, ◌≤◌, ◌<◌}
use mathlib.Core.Path.{◌≡◌, refl, sym, ap, ap₂, ◌∙◌}
use mathlib.Core.Bool.{Bool, true, false}
use mathlib.Core.List.{List, [], ◌∷◌, ◌++◌, append_assoc}
use native.Mathlib.Omega.{arith}
use native.Mathlib.Nat.{add-zero, zero-add}
use lib.ListN.{length, take, drop, get_or, replicate, length-append, length-replicate}
use Rattle.tables.specs.Lines.{Line}
use Rattle.circuits.specs.Layout.{Layout, size, line_type_in, no_layout, lay, lay_all, layout}
use Rattle.tables.specs.Pick.{pick}
use Rattle.circuits.specs.Model.Passes.{free_here}
use Rattle.circuits.specs.Free.{Source, driven, free, source_of, has_next, sources_here, sources_from, sources, free_count, fed}

-- ---- the list, line by line

module _ (p : Bool) (h : ℕ → Bool) where
  pub sources_append : (Y : Layout) (xs ys : List Line) → sources_from p h Y (xs ++ ys) ≡ sources_from p h Y xs ++ sources_from p h (lay_all p Y xs) ys
  sources_append Y [] ys = refl
  sources_append Y (x ∷ xs) ys =
      ap (λ (ss : List Source). sources_here p h Y x ++ ss) (sources_append (lay p Y x) xs ys)
      ∙ sym (append_assoc (sources_here p h Y x) (sources_from p h (lay p Y x) xs) (sources_from p h (lay_all p Y (x ∷ xs)) ys))

  -- a line has a source for each state word that it adds
  here_many : (Y : Layout) (l : Line) → Y.counts.states + length (sources_here p h Y l) ≡ (lay p Y l).counts.states
  here_many Y (Line.bitvec w) = add-zero Y.counts.states
  here_many Y (Line.array i e) = add-zero Y.counts.states
  here_many Y (Line.input s) = add-zero Y.counts.states
  here_many Y (Line.state s) = ap (λ (m : ℕ). Y.counts.states + m) (length-replicate (size (line_type_in p Y (Line.state s))) (source_of (h (length Y.places)) (line_type_in p Y (Line.state s)).w))
  here_many Y (Line.value s e) = add-zero Y.counts.states
  here_many Y (Line.init_or_next m s q v) = add-zero Y.counts.states
  here_many Y (Line.signal m a) = add-zero Y.counts.states
  here_many Y (Line.output a) = add-zero Y.counts.states
  here_many Y Line.unknown = add-zero Y.counts.states

  pub from_many : (Y : Layout) (ls : List Line) → Y.counts.states + length (sources_from p h Y ls) ≡ (lay_all p Y ls).counts.states
  from_many Y [] = add-zero Y.counts.states
  from_many Y (l ∷ ls) = omega (arith, length-append (sources_here p h Y l) (sources_from p h (lay p Y l) ls), here_many Y l, from_many (lay p Y l) ls)

  nothing_in : (ss : List Source) → length ss ≡ 0 → ss ≡ []
  nothing_in [] e = refl
  nothing_in (s ∷ ss) e = absurd (omega arith)

  -- lines that add no state words have none
  pub sources_none : (Y : Layout) (ls : List Line) → (lay_all p Y ls).counts.states ≡ Y.counts.states → sources_from p h Y ls ≡ []
  sources_none Y ls e = nothing_in (sources_from p h Y ls) (omega (arith, from_many Y ls))

-- one for each state word
pub sources_many : (p : Bool) (C : List Line) → length (sources p C) ≡ (layout p C).counts.states
unfolding sources layout
sources_many p C = sym (zero-add (length (sources_from p (has_next p C) no_layout C))) ∙ from_many p (has_next p C) no_layout C

-- ---- how many are free

pub free_append : (xs ys : List Source) → free_count (xs ++ ys) ≡ free_count xs + free_count ys
free_append [] ys = sym (zero-add (free_count ys))
free_append (driven ∷ xs) ys = free_append xs ys
free_append (free w ∷ xs) ys = ap suc (free_append xs ys) ∙ omega arith

-- of a state of m cells all are, or none
pub free_cells : (b : Bool) (w m : ℕ) → free_count (replicate m (source_of b w)) ≡ pick b 0 m
free_cells true w zero = refl
free_cells true w (suc m) = free_cells true w m
free_cells false w zero = refl
free_cells false w (suc m) = ap suc (free_cells false w m)

pub here_free : (p : Bool) (h : ℕ → Bool) (Y : Layout) (l : Line) → free_count (sources_here p h Y l) ≡ free_here (h (length Y.places)) (size (line_type_in p Y l)) l
here_free p h Y (Line.bitvec w) = refl
here_free p h Y (Line.array i e) = refl
here_free p h Y (Line.input s) = refl
here_free p h Y (Line.state s) = free_cells (h (length Y.places)) (line_type_in p Y (Line.state s)).w (size (line_type_in p Y (Line.state s)))
here_free p h Y (Line.value s e) = refl
here_free p h Y (Line.init_or_next m s q v) = refl
here_free p h Y (Line.signal m a) = refl
here_free p h Y (Line.output a) = refl
here_free p h Y Line.unknown = refl

pub free_few : (ss : List Source) → free_count ss ≤ length ss
free_few [] = omega arith
free_few (driven ∷ ss) = omega (arith, free_few ss)
free_few (free w ∷ ss) = omega (arith, free_few ss)

-- ---- the words of a later step

pub fed_many : (ss : List Source) (left row : List ℕ) → length (fed ss left row) ≡ length ss
fed_many [] left row = refl
fed_many (driven ∷ ss) left row = ap suc (fed_many ss (drop 1 left) row)
fed_many (free w ∷ ss) left row = ap suc (fed_many ss (drop 1 left) (drop 1 row))

-- the word of a source: the one that the last step left, or the row's modulo 2 ^ w
abbrev pub fed_word : Source → (left row : ℕ) → ℕ
fed_word driven left row = left
fed_word (free w) left row = row % 2 ^ w

second : (xs : List ℕ) (j : ℕ) → get_or (drop 1 xs) j 0 ≡ get_or xs (suc j) 0
second [] zero = refl
second [] (suc j) = refl
second (x ∷ xs) j = refl

-- the word at the place j; the row's words are taken in turn
pub fed_at : (ss : List Source) (left row : List ℕ) (j : ℕ) → j < length ss → get_or (fed ss left row) j 0 ≡ fed_word (get_or ss j driven) (get_or left j 0) (get_or row (free_count (take j ss)) 0)
fed_at [] left row j h = absurd (omega arith)
fed_at (driven ∷ ss) left row zero h = refl
fed_at (free w ∷ ss) left row zero h = refl
fed_at (driven ∷ ss) left row (suc j) h =
    fed_at ss (drop 1 left) row j (omega arith) ∙ ap (λ (x : ℕ). fed_word (get_or ss j driven) x (get_or row (free_count (take j ss)) 0)) (second left j)
fed_at (free w ∷ ss) left row (suc j) h =
    fed_at ss (drop 1 left) (drop 1 row) j (omega arith) ∙ ap₂ (fed_word (get_or ss j driven)) (second left j) (second row (free_count (take j ss)))
