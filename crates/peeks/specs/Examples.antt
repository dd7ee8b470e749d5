-- Peeks at the first step of the request's circuit, from the start words 3 and 12, on the row 1, and of three other tables; computed. Assumes nothing.
use Rattle.std.specs.Prelude.{◌≡◌, refl, false, [], ◌∷◌, Ok, Err}
use Rattle.tables.specs.declared.Refusal.TheVariants.{InputWords, NoSuchCell}
use Rattle.tables.specs.Kinds.{row_of as kind_row}
use Rattle.tables.specs.Lines.{fields}
use Rattle.tables.specs.Layout.{filled_by, table_with}
use Rattle.tables.specs.Rules.{suits, fault}
use Rattle.tables.specs.Tables.{checked}
use Rattle.circuits.specs.Cells.{put}
use Rattle.circuits.specs.Layout.{layout}
use Rattle.circuits.specs.Meaning.{step}
use Rattle.circuits.specs.Free.{sources}
use Rattle.circuits.specs.Run.{start}
use Rattle.circuits.specs.Examples.{circuit, gaps}
use Rattle.circuits.specs.FreeExamples.{circuit as free_states, starts}
use Rattle.peeks.specs.Peek.{step_zero, peek_at, peeked}

-- cell 1 of the state on line 4: its start word modulo 8
peek_state : peeked circuit 11 4 1 (3 ∷ 12 ∷ []) (1 ∷ []) ≡ Ok 4
unfolding peeked checked fault suits kind_row layout sources peek_at step_zero start step put filled_by
peek_state = refl

-- the write on line 7 changes cell 1, and leaves cell 0
peek_write : peeked circuit 11 7 1 (3 ∷ 12 ∷ []) (1 ∷ []) ≡ Ok 5
unfolding peeked checked fault suits kind_row layout sources peek_at step_zero start step put filled_by
peek_write = refl

peek_left : peeked circuit 11 7 0 (3 ∷ 12 ∷ []) (1 ∷ []) ≡ Ok 3
unfolding peeked checked fault suits kind_row layout sources peek_at step_zero start step put filled_by
peek_left = refl

-- the read on line 9 finds cell 1; it is a word and has cell 0 only
peek_read : peeked circuit 11 9 0 (3 ∷ 12 ∷ []) (1 ∷ []) ≡ Ok 4
unfolding peeked checked fault suits kind_row layout sources peek_at step_zero start step put filled_by
peek_read = refl

peek_none : peeked circuit 11 9 1 (3 ∷ 12 ∷ []) (1 ∷ []) ≡ Err NoSuchCell
unfolding peeked checked fault suits kind_row layout sources peek_at step_zero start step put filled_by
peek_none = refl

-- a sort line and a next line have no value
peek_sort : peeked circuit 11 3 0 (3 ∷ 12 ∷ []) (1 ∷ []) ≡ Err NoSuchCell
unfolding peeked checked fault suits kind_row layout sources peek_at step_zero start step put filled_by
peek_sort = refl

peek_next : peeked circuit 11 8 0 (3 ∷ 12 ∷ []) (1 ∷ []) ≡ Err NoSuchCell
unfolding peeked checked fault suits kind_row layout sources peek_at step_zero start step put filled_by
peek_next = refl

-- a line is its record's place, and not its id: with gaps in the ids the read on line 9 has the id 90
peek_place : peeked gaps 11 9 0 (2 ∷ 6 ∷ []) (1 ∷ []) ≡ Ok 6
unfolding peeked checked fault suits kind_row layout sources peek_at step_zero start step put filled_by
peek_place = refl

peek_id : peeked gaps 11 90 0 (2 ∷ 6 ∷ []) (1 ∷ []) ≡ Err NoSuchCell
unfolding peeked checked fault suits kind_row layout sources peek_at step_zero start step put filled_by
peek_id = refl

-- an array state with an init: its word stands in every cell, whatever the row has for the state, which is free
peek-init :
    peeked (table_with false (fields 1 0 1 0 0 ∷ fields 1 0 3 0 0 ∷ fields 2 0 1 2 0 ∷ fields 3 2 5 0 0 ∷ fields 5 3 0 0 0 ∷ fields 6 3 5 4 0 ∷ [])) 6 5 1 (3 ∷ 12 ∷ []) (7 ∷ 7 ∷ []) ≡ Ok 5
unfolding peeked checked fault suits kind_row layout sources peek_at step_zero start step put filled_by
peek-init = refl

-- a row is the inputs and the words for free states, one input and three words here; the read on line 11 finds the array state's start word, and not the row's
peek_inputs_alone : peeked free_states 15 11 0 starts (1 ∷ []) ≡ Err InputWords
unfolding peeked checked fault suits kind_row layout sources peek_at step_zero start step put filled_by
peek_inputs_alone = refl

peek_free : peeked free_states 15 11 0 starts (1 ∷ 7 ∷ 7 ∷ 7 ∷ []) ≡ Ok 2
unfolding peeked checked fault suits kind_row layout sources peek_at step_zero start step put filled_by
peek_free = refl
