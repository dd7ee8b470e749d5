-- What peek keeps while it looks for a value: the value lines of the states' inits, the list that says what is known of each line, and the words found so far.
-- Assumes nothing.
use Rattle.std.specs.Prelude.{ℕ, ◌+◌, ◌%◌, ◌^◌, ◌≤◌, ◌<◌, ◌≡◌, true, false, List, [], ◌∷◌, eqb, length, get_or, is_some, Option, Some, None, Result, Ok}
use Rattle.tables.specs.Types.{rank}
use Rattle.tables.specs.Pick.{pick}
use Rattle.tables.specs.Lines.{Line, kind_in, first_in, second_in, third_in}
use Rattle.tables.specs.Layout.{lines_of}
use Rattle.words.specs.Word.{Width, bit}
use Rattle.tables.specs.declared.Refusal.{Refusal}
use Rattle.circuits.specs.Layout.{type_at, size, layout}
use Rattle.circuits.specs.Cells.{if_nonzero, eq_or_neq}
use Rattle.circuits.specs.Meaning.{Frame, op_word, cells_at, word_at}
use Rattle.circuits.specs.Run.{row_length}
use Rattle.peeks.specs.Peek.{step_zero, seen_as, may_peek, peek_at}
use Rattle.circuits.specs.Model.Work.{pos_in, wid_in}
use Rattle.circuits.specs.Model.Fits.{FitWord}
use Rattle.circuits.specs.Model.Places.{ShowsAll}
use Rattle.tables.specs.Tables.{checked}

-- the line of the value that an init gives the state q, where the lines before have d
abbrev pub note_init : ℕ → ℕ → Line → ℕ
note_init q d (Line.bitvec w) = d
note_init q d (Line.array i e) = d
note_init q d (Line.input s) = d
note_init q d (Line.state s) = d
note_init q d (Line.value s e) = d
note_init q d (Line.init_or_next true s x v) = pick (eqb q x) v d
note_init q d (Line.init_or_next false s x v) = d
note_init q d (Line.signal m a) = d
note_init q d (Line.output a) = d
note_init q d Line.unknown = d

abbrev pub init_after : ℕ → ℕ → List Line → ℕ
init_after q d [] = d
init_after q d (l ∷ C) = init_after q (note_init q d l) C

-- of all lines; 0 where the state has no init
abbrev pub init_of : ℕ → List Line → ℕ
init_of q C = init_after q 0 C

-- an accepted table of at most 64 records, what is known of its lines, start words of the right length, and a row, in which the inputs come first
pub record Laid (t : List ℕ) (n : ℕ) (P : List (List ℕ)) (S R : List ℕ) : Type 0 where
  pub accepted : checked false t n ≡ Ok tt
  pub few : n ≤ 64
  pub shows : ShowsAll P (layout false (lines_of false t n))
  pub starts : length S ≡ (layout false (lines_of false t n)).counts.states
  pub row : (layout false (lines_of false t n)).counts.inputs ≤ length R

-- the same with the states' inits
pub record Looks (t : List ℕ) (n : ℕ) (P : List (List ℕ)) (ini S R : List ℕ) : Type 0 where
  pub laid : Laid t n P S R
  pub many : length ini ≡ 65
  pub inits : (q : ℕ) → q ≤ n → get_or ini q 0 ≡ init_of q (lines_of false t n)

-- What is kept of a line: its word, where it was found. The words found so far are those of the lines A; line 0, which is none, counts as found.
abbrev pub kept_at : List (Option ℕ) → ℕ → Option ℕ
kept_at K a = get_or K a None

pub record KeptWords (A : Frame) (K : List (Option ℕ)) : Type 0 where
  pub long : length K ≡ 65
  pub none : is_some (kept_at K 0) ≡ true
  pub are : (a v : ℕ) → kept_at K a ≡ Some v → v ≡ word_at A a

-- the line a is a word, and the line a is an array that has the cell c
pub record WordLine (t : List ℕ) (n a : ℕ) : Type 0 where
  pub value : 2 ≤ rank (type_at (layout false (lines_of false t n)) a).role
  pub flat : (type_at (layout false (lines_of false t n)) a).iw ≡ 0

pub record ArrayLine (t : List ℕ) (n a : ℕ) : Type 0 where
  pub value : 2 ≤ rank (type_at (layout false (lines_of false t n)) a).role
  pub deep : 0 < (type_at (layout false (lines_of false t n)) a).iw

pub record CellLine (t : List ℕ) (n a c : ℕ) : Type 0 where
  pub array : ArrayLine t n a
  pub inside : c < size (type_at (layout false (lines_of false t n)) a)

-- the line a is a value that has the cell c
pub record HasCell (t : List ℕ) (n a c : ℕ) : Type 0 where
  pub value : 2 ≤ rank (type_at (layout false (lines_of false t n)) a).role
  pub inside : c < size (type_at (layout false (lines_of false t n)) a)

-- ---- what the functions of a peek ask, and what they find

pub record WordAsked (t : List ℕ) (n : ℕ) (P : List (List ℕ)) (ini S R : List ℕ) (K : List (Option ℕ)) (a : ℕ) : Type 0 where
  pub looks : Looks t n P ini S R
  pub line : 1 ≤ a → WordLine t n a
  pub kept : KeptWords (step_zero (lines_of false t n) S R) K

pub record WordFound (t : List ℕ) (n : ℕ) (S R : List ℕ) (K : List (Option ℕ)) (a r : ℕ) : Type 0 where
  pub is : r ≡ word_at (step_zero (lines_of false t n) S R) a
  pub kept : KeptWords (step_zero (lines_of false t n) S R) K

pub record CellAsked (t : List ℕ) (n : ℕ) (P : List (List ℕ)) (ini S R : List ℕ) (K : List (Option ℕ)) (a c : ℕ) : Type 0 where
  pub looks : Looks t n P ini S R
  pub line : CellLine t n a c
  pub kept : KeptWords (step_zero (lines_of false t n) S R) K

pub record CellFound (t : List ℕ) (n : ℕ) (S R : List ℕ) (K : List (Option ℕ)) (a c r : ℕ) : Type 0 where
  pub is : r ≡ get_or (cells_at (step_zero (lines_of false t n) S R) a) c 0
  pub kept : KeptWords (step_zero (lines_of false t n) S R) K

-- the line a that a record's line looks at first, where d is the line of its init's value
pub record FirstLine (r : List ℕ) (d a : ℕ) : Type 0 where
  pub none : kind_in r < 5 → a ≡ 0
  pub init : kind_in r ≡ 5 → a ≡ d
  pub operand : 5 < kind_in r → (53 < kind_in r → kind_in r < 56 → ⊥) → a ≡ first_in r
  pub index : 53 < kind_in r → kind_in r < 56 → a ≡ second_in r

-- and the line b that it looks at next, where the first one's word is x
pub record SecondLine (r : List ℕ) (x b : ℕ) : Type 0 where
  pub none : kind_in r < 21 → b ≡ 0
  pub operand : 20 < kind_in r → (52 < kind_in r → kind_in r < 56 → ⊥) → b ≡ second_in r
  pub chosen : kind_in r ≡ 53 → b ≡ if_nonzero x (second_in r) (third_in r)
  pub array : 53 < kind_in r → kind_in r < 56 → b ≡ first_in r

-- the start word of the cell c of the state on the line n
abbrev pub start_in : (P : List (List ℕ)) (S : List ℕ) (n c : ℕ) → ℕ
start_in P S n c = get_or S (pos_in P n + c) 0 % 2 ^ wid_in P n

pub record StartAsked (P : List (List ℕ)) (S : List ℕ) (n c : ℕ) : Type 0 where
  pub known : n ≤ 16384
  pub inside : pos_in P n + c < length S
  pub wide : Width (wid_in P n)

-- the word of the line n by its record r, from the words x and y of the lines that it looks at
pub record ValueAsked (P : List (List ℕ)) (S R r : List ℕ) (n a x y : ℕ) : Type 0 where
  pub known : n ≤ 16384
  pub input : kind_in r < 5 → (kind_in r ≡ 3 → ⊥) → (pos_in P n < length R) × Width (wid_in P n)
  pub start : kind_in r ≡ 5 → a ≡ 0 → StartAsked P S n 0
  pub unary : 5 < kind_in r → kind_in r < 21 → (first_in r ≤ 16384) × FitWord false (kind_in r) (wid_in P n) (wid_in P (first_in r)) 64 x (second_in r) (third_in r)
  pub binary : 22 < kind_in r → (kind_in r ≡ 53 → ⊥)
      → (first_in r ≤ 16384) × ((second_in r ≤ 16384) × FitWord false (kind_in r) (wid_in P n) (wid_in P (first_in r)) (wid_in P (second_in r)) x y 0)

pub record ValueFound (P : List (List ℕ)) (S R r : List ℕ) (n a x y v : ℕ) : Type 0 where
  pub const : kind_in r ≡ 3 → v ≡ first_in r
  pub input : kind_in r ≡ 4 → v ≡ get_or R (pos_in P n) 0 % 2 ^ wid_in P n
  pub start : kind_in r ≡ 5 → a ≡ 0 → v ≡ start_in P S n 0
  pub init : kind_in r ≡ 5 → (a ≡ 0 → ⊥) → v ≡ x
  pub unary : 5 < kind_in r → kind_in r < 21 → v ≡ op_word false (kind_in r) (wid_in P (first_in r)) 64 x (second_in r) (third_in r)
  pub equality : 20 < kind_in r → kind_in r < 23 → v ≡ bit (eq_or_neq (eqb (kind_in r) 21) (eqb x y))
  pub ite : kind_in r ≡ 53 → v ≡ y
  pub binary : 22 < kind_in r → (kind_in r ≡ 53 → ⊥) → v ≡ op_word false (kind_in r) (wid_in P (first_in r)) (wid_in P (second_in r)) x y 0

-- ---- a peek at an accepted table

abbrev pub lent_peek : (t : List ℕ) (n line cell : ℕ) (S R : List ℕ) → Result ℕ Refusal
lent_peek t n line cell S R =
    seen_as (may_peek (layout false (lines_of false t n)).counts (row_length false (lines_of false t n)) (type_at (layout false (lines_of false t n)) line) n cell (length S) (length R))
    (peek_at (lines_of false t n) S R line cell)
