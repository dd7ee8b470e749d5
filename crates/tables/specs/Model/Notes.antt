-- What a check keeps of each line, at the line's number: its type, and of a state whether it has had an init line and a next line. Assumes nothing.
use Rattle.std.specs.Prelude.{ℕ, ◌≤◌, ◌<◌, ◌≡◌, Bool, true, false, List, eqb, length, get_or, set, replicate}
use Rattle.tables.specs.declared.Ty.{Ty}
use Rattle.tables.specs.declared.Note.{Note}
use Rattle.tables.specs.Pick.{pick}
use Rattle.tables.specs.Lines.{line_of, init_or_next_kind, kind_in, first_in}
use Rattle.tables.specs.Types.{no_ty, record_type, Ctx, ty_at, given}

-- the note of no line
abbrev pub blank : Note
blank = record { ty = no_ty; has_init = false; has_next = false }

abbrev pub note_at : List Note → ℕ → Note
note_at xs a = get_or xs a blank

-- the type of the line a, as its note has it
abbrev pub look_in : List Note → ℕ → Ty
look_in xs a = (note_at xs a).ty

-- the flag of an init (true) or of a next (false)
abbrev pub flag_in : Bool → Note → Bool
flag_in true r = r.has_init
flag_in false r = r.has_next

-- the state q has an init (true) or a next (false), as its note has it
abbrev pub given_in : List Note → Bool → ℕ → Bool
given_in xs m q = flag_in m (note_at xs q)

-- the notes hold a context
pub record Shows (xs : List Note) (c : Ctx) : Type 0 where
  pub types : (a : ℕ) → look_in xs a ≡ ty_at c a
  pub flags : (m : Bool) (q : ℕ) → given_in xs m q ≡ given c m q

-- notes for a check of n records, at most 16,384: no line is noted yet, and each will have its place
pub record Fresh (n : ℕ) (xs : List Note) : Type 0 where
  pub blanks : xs ≡ replicate (length xs) blank
  pub enough : n ≤ 16384 → n < length xs

-- a note with another type, and one with a flag more
abbrev pub typed : Ty → Note → Note
typed y r = record r { ty = y }

abbrev pub with_flag : Bool → Note → Note
with_flag true r = record r { has_init = true }
with_flag false r = record r { has_next = true }

-- the notes after a record that may be an init (true) or a next (false): such a line flags its state
abbrev pub flagged_by : Bool → List ℕ → List Note → List Note
flagged_by m r xs = pick (eqb (kind_in r) (init_or_next_kind m)) (set xs (first_in r) (with_flag m (note_at xs (first_in r)))) xs

-- the notes after a record, the line n
unfoldable pub noted : Bool → List ℕ → ℕ → List Note → List Note
noted p r n xs = flagged_by false r (flagged_by true r (set xs n (typed (record_type p (look_in xs) r (line_of r)) (note_at xs n))))
