-- Ids have no part in writing, flattening, translating, a run or a peek: of an accepted table these are functions of its lines alone. Assumes nothing.
use Rattle.std.specs.Prelude.{Err}
use Prim.Native.Nat.{ℕ}
use mathlib.Core.Path.{◌≡◌, sym, ap, ◌∙◌}
use mathlib.Core.Bool.{true, false, ◌&&◌}
use mathlib.Core.List.{List, [], ◌∷◌, map}
use lib.ListN.{length, replicate}
use Rattle.tables.specs.declared.Refusal.TheVariants.{NotATable}
use Rattle.tables.specs.Pick.{pick}
use Rattle.tables.specs.Lines.{line_of, words_of}
use Rattle.tables.specs.Layout.{whole, lines_of, filled}
use Rattle.tables.specs.Tables.{checked}
use Rattle.tables.specs.Answers.{told, if_accepted, fitting, left_by}
use Rattle.tables.proofs.Sound.{accepted_table}
use Rattle.texts.specs.Writing.{write_text, written_by, write_table, write_answer, buffer_of, writes}
use Rattle.circuits.specs.Layout.{type_at, layout}
use Rattle.circuits.specs.Run.{row_length, run, bytes, first_bad}
use Rattle.circuits.specs.Answers.{lent, and_then, ready, answer_of, left_of, ran, signals_left, told_run, runs}
use Rattle.peeks.specs.Peek.{peek_at, may_peek, seen_as, peeked, told_peek, peeks}
use Rattle.flattening.specs.Flat.{flatten, flat_records}
use Rattle.flattening.specs.Placed.{flat_filled}
use Rattle.flattening.specs.Answers.{flattened, flat_left, flattens}
use Rattle.programs.specs.Translation.{has_array, translate}
use Rattle.programs.specs.Answers.{flat_only, translated, program_left, translates}
use Rattle.agreement.specs.Ids.{SameLines, SameOutcomes}

module _ (t u : List ℕ) (n : ℕ) (same : SameLines t u n) where
  lines : lines_of false t n ≡ lines_of false u n
  lines = ap (map line_of) same.records

  accepts : checked false t n ≡ checked false u n
  accepts = same.first ∙ sym same.second

  tables : whole false (length t) ≡ whole false (length u)
  tables = (accepted_table false t n same.first).table ∙ sym (accepted_table false u n same.second).table

  text_alike : (len : ℕ) → writes t n len ≡ writes u n len
  unfolding writes write_table
  text_alike len =
      λ i.
      let o = written_by (accepts i) len (write_text (same.records i)) in
      told (write_answer o) (buffer_of len o ∷ [])

  flat_alike : (len : ℕ) → flattens t n len ≡ flattens u n len
  unfolding flattens flattened flat_left flat_records
  flat_alike len =
      λ i.
      let C = lines i in
      let r = pick (tables i && whole false len) (if_accepted (accepts i) (fitting false (length (flatten C)) len)) (Err NotATable) in
      told r (left_by r len (flat_filled len (map words_of (flatten C))) ∷ [])

  program_alike : (len : ℕ) → translates t n len ≡ translates u n len
  unfolding translates translated program_left
  program_alike len =
      λ i.
      let C = lines i in
      let r = pick (tables i && whole true len) (if_accepted (accepts i) (flat_only (has_array C) (fitting true (length (translate C)) len))) (Err NotATable) in
      told r (left_by r len (filled true len (map words_of (translate C))) ∷ [])

  run_alike : (k : ℕ) (S I : List ℕ) (g w : ℕ) → runs false t n k S I g w ≡ runs false u n k S I g w
  unfolding runs ran signals_left ready
  run_alike k S I g w =
      λ i.
      let C = lines i in
      let c = and_then (accepts i) (lent (layout false C).counts (row_length false C) k (length S) (length I) g w) in
      told_run (answer_of c (first_bad 0 (run false C k S I))) (left_of c g (bytes (run false C k S I)) ∷ replicate w 0 ∷ [])

  peek_alike : (line cell : ℕ) (S R : List ℕ) → peeks t n line cell S R ≡ peeks u n line cell S R
  unfolding peeks peeked
  peek_alike line cell S R =
      λ i.
      let C = lines i in
      told_peek
      (seen_as (and_then (accepts i) (may_peek (layout false C).counts (row_length false C) (type_at (layout false C) line) n cell (length S) (length R))) (peek_at C S R line cell))

  pub ids_of_no_matter : SameOutcomes t u n
  ids_of_no_matter = record { writing = text_alike; flattening = flat_alike; translating = program_alike; running = run_alike; peeking = peek_alike }
