-- Reading a text: its lines are parted at LF, cut at the first semicolon, and parted into tokens at spaces. Of a line the first of the refusals 3 to 10, 22, and 4 again, that
-- holds is answered, of a text the first line's that has one. A line gives its own record and, before it, a not record for each minus operand. Assumes nothing.
use Rattle.std.specs.Prelude.{ℕ, zero, suc, ◌+◌, ◌-◌, ◌^◌, Bool, true, false, ◌&&◌, ◌||◌, not, List, [], ◌∷◌, ◌++◌, map, eqb, leb, ltb, length, take, drop, set, replicate, Result, Ok, Err}
use Rattle.tables.specs.declared.Ty.{Ty}
use Rattle.tables.specs.declared.Refusal.{Refusal}
use Rattle.tables.specs.declared.Refusal.TheVariants.{NotATable, TextTooLong, WrongId, NoRecordLeft, UnknownWord, BadOperand, NumberTooLarge, WrongClass, Misfit, InitOrNext, NameUsed}
use Rattle.tables.specs.Pick.{inside, all}
use Rattle.tables.specs.Kinds.{word_of, class_at, names_line}
use Rattle.tables.specs.Lines.{line_of, fields, sort_in, first_in}
use Rattle.tables.specs.Types.{Ctx, no_ctx, ty_at, given, grow_all}
use Rattle.tables.specs.Rules.{fault}
use Rattle.tables.specs.Layout.{whole, room, with_ids, filled}
use Rattle.tables.specs.Ids.{follows}
use Rattle.tables.specs.Answers.{Outcome, outcome}
use Rattle.tables.specs.Refusals.{number_of}
use Rattle.texts.specs.Decimal.{Num}
use Rattle.texts.specs.declared.NumberError.TheVariants.{Malformed, TooLarge}
use Rattle.texts.specs.declared.TextRefusal.{TextRefusal}
use Rattle.texts.specs.Forms.{form_row, kind_of, first_of, numbers_of, sort_word}
use Rattle.texts.specs.Split.{split, up_to, tokens, same_bytes}
use Rattle.texts.specs.Decimal.{decimal, digits_in}
use Rattle.texts.specs.Operands.{resolved}
use Rattle.texts.specs.Names.{only, used, with_name}
use Rattle.texts.specs.Minus.{minuses_fit, minuses, line_records, line_ids, no_signs}

-- ---- the word

-- the first of n forms from k on that has the word t, or 0
unfoldable pub find_in : ℕ → ℕ → List ℕ → ℕ
find_in k zero t = 0
find_in k (suc n) t = elim (same_bytes t (word_of (form_row k))) [ true ↦ k | false ↦ find_in (suc k) n t ]

-- m, or n where m is 0
abbrev pub or_else : ℕ → ℕ → ℕ
or_else zero n = n
or_else (suc m) n = suc m

-- The form other than a sort's that has the word t, or 0. A mask, kind 56, has no word: these are the kinds 3 to 55, the other words for a constant, and the overflow detectors.
-- Their words differ, so the order in which they are gone through changes no answer.
abbrev pub find_word : List ℕ → ℕ
find_word t = or_else (find_in 3 53 t) (or_else (find_in 64 5 t) (find_in 57 7 t))

-- a form and the tokens behind its word
pub data Word : Type 0 where
  unknown : Word
  word : (f : ℕ) (rest : List (List ℕ)) → Word

abbrev pub form_word : ℕ → List (List ℕ) → Word
form_word zero ts = unknown
form_word (suc f) ts = word (suc f) ts

-- behind `sort` a second word says which of kinds 1 and 2 it is
abbrev pub sort_words : List (List ℕ) → Word
sort_words [] = unknown
sort_words (t ∷ ts) = form_word (find_in 1 2 t) ts

unfoldable pub word_in : List (List ℕ) → Word
word_in [] = unknown
word_in (t ∷ ts) = elim (same_bytes t sort_word) [ true ↦ sort_words ts | false ↦ form_word (find_word t) ts ]

-- its form, 0 where it is unknown or missing, and what stands behind it
abbrev pub form_of : Word → ℕ
form_of unknown = 0
form_of (word f ts) = f

abbrev pub behind : Word → List (List ℕ)
behind unknown = []
behind (word f ts) = ts

-- ---- the numbers: a line's sort, where it has one, and its operands

-- the token begins with a minus
abbrev pub leads_minus : List ℕ → Bool
leads_minus [] = false
leads_minus (c ∷ t) = eqb c 45

-- "An operand token yields a line and a sign": a token for the place j of a record has a minus, which only one that names a line may have
abbrev pub sign_at : (f j : ℕ) → List ℕ → Bool
sign_at f j t = names_line (class_at (form_row f) j) && leads_minus t

-- a number without a sign: the value of const is in binary, that of consth in hexadecimal digits
abbrev pub plain_at : (f j : ℕ) → List ℕ → Num
plain_at f j t =
    elim (eqb f 64 && eqb j 2) [
      | true ↦ digits_in 2 64 t
      | false ↦ elim (eqb f 65 && eqb j 2) [ true ↦ digits_in 16 16 t | false ↦ decimal t ]
    ]

-- the number that a token is, for the place j of a record: that of its digits, behind the minus where it has one
abbrev pub number_at : (f j : ℕ) → List ℕ → Num
number_at f j t = elim (sign_at f j t) [ true ↦ decimal (drop 1 t) | false ↦ plain_at f j t ]

-- tokens as numbers for the places j and up
abbrev pub numbers_from : (f j : ℕ) → List (List ℕ) → List Num
numbers_from f j [] = []
numbers_from f j (t ∷ ts) = number_at f j t ∷ numbers_from f (suc j) ts

-- one of the numbers is malformed; one is too large
abbrev pub any_bad : List Num → Bool
any_bad [] = false
any_bad (Err Malformed ∷ ns) = true
any_bad (Err TooLarge ∷ ns) = any_bad ns
any_bad (Ok v ∷ ns) = any_bad ns

abbrev pub any_big : List Num → Bool
any_big [] = false
any_big (Err Malformed ∷ ns) = any_big ns
any_big (Err TooLarge ∷ ns) = true
any_big (Ok v ∷ ns) = any_big ns

-- numbers at the places j and up of a record; one that has no value leaves its place as it is
abbrev pub placed : (j : ℕ) → List Num → List ℕ → List ℕ
placed j [] rec = rec
placed j (Err Malformed ∷ ns) rec = placed (suc j) ns rec
placed j (Err TooLarge ∷ ns) rec = placed (suc j) ns rec
placed j (Ok v ∷ ns) rec = placed (suc j) ns (set rec j v)

-- which places of a record have a minus: the signs of tokens at the places j and up, the other places as in s
abbrev pub signs_from : (f j : ℕ) → List (List ℕ) → List Bool → List Bool
signs_from f j [] s = s
signs_from f j (t ∷ ts) s = signs_from f (suc j) ts (set s j (sign_at f j t))

-- the last of a list, or t where it is empty
abbrev pub last_of : {A : Type 0} → A → List A → A
last_of t [] = t
last_of t (u ∷ ts) = last_of u ts

-- ---- what stands behind a word of the form f: the tokens ts

-- the tokens of its numbers, and the extra ones
abbrev pub number_tokens : ℕ → List (List ℕ) → List (List ℕ)
number_tokens f ts = take (numbers_of (form_row f)) ts

abbrev pub extra_tokens : ℕ → List (List ℕ) → List (List ℕ)
extra_tokens f ts = drop (numbers_of (form_row f)) ts

abbrev pub numbers_in : ℕ → List (List ℕ) → List Num
numbers_in f ts = numbers_from f (first_of (form_row f)) (number_tokens f ts)

abbrev pub signs_in : ℕ → List (List ℕ) → List Bool
signs_in f ts = signs_from f (first_of (form_row f)) (number_tokens f ts) no_signs

-- the record as it is written, signs left out: all places but the kind are 0 before the numbers are put
abbrev pub fresh : ℕ → List ℕ
fresh k = fields k 0 0 0 0

abbrev pub written_record : ℕ → List (List ℕ) → List ℕ
written_record f ts = placed (first_of (form_row f)) (numbers_in f ts) (fresh (kind_of f))

-- one and ones have their value from the word; w is the width of the line's sort
unfoldable pub settled : (w f : ℕ) → List ℕ → List ℕ
settled w f rec = elim (eqb f 67) [ true ↦ set rec 2 1 | false ↦ elim (eqb f 68) [ true ↦ set rec 2 (2 ^ w - 1) | false ↦ rec ] ]

-- the same with places for the ids that it names, after lines whose ids are ds
abbrev pub placed_record : List ℕ → ℕ → List (List ℕ) → List ℕ
placed_record ds f ts = resolved ds (written_record f ts)

-- the line's record, after lines whose types are L
abbrev pub record_in : (ℕ → Ty) → (ds : List ℕ) → ℕ → List (List ℕ) → List ℕ
record_in L ds f ts = settled (L (sort_in (placed_record ds f ts))).w f (placed_record ds f ts)

-- the one extra token is the line's name, which is empty where there is none
abbrev pub name_in : ℕ → List (List ℕ) → List ℕ
name_in f ts = only (extra_tokens f ts)

abbrev pub name_behind : Word → List ℕ
name_behind unknown = []
name_behind (word f ts) = name_in f ts

-- the name in a line's tokens, of which the first is the id
abbrev pub line_name : List (List ℕ) → List ℕ
line_name ts = name_behind (word_in (drop 1 ts))

-- ---- the id

-- a token may be the id of a line behind one whose id is last
abbrev pub is_next : Num → (last : ℕ) → Bool
is_next (Err e) last = false
is_next (Ok v) last = follows last v

-- the value of a number, 0 where it has none; the id of a line is that of its first token
abbrev pub value_of : Num → ℕ
value_of (Err e) = 0
value_of (Ok v) = v

abbrev pub line_id : List (List ℕ) → ℕ
line_id [] = 0
line_id (t ∷ ts) = value_of (decimal t)

-- ---- the refusals of a line

-- A line after others that have the ids ds and the names ns, with room for m records: L has the types of those lines, and G says which states have had an init or a next.
-- The line's first token is t, f is the form of its word, 0 where that is unknown or missing, and ts are the tokens behind the word. Where a test has no meaning, as that of
-- an unknown word's numbers, an earlier one holds.
module _ (L : ℕ → Ty) (G : Bool → ℕ → Bool) (m : ℕ) (ds : List ℕ) (ns : List (List ℕ)) (t : List ℕ) (f : ℕ) (ts : List (List ℕ)) where
  -- 3: the id is no number, not above the id before, or above 4,294,967,295
  abbrev pub wrong_id : Bool
  wrong_id = not (is_next (decimal t) (last_of 0 ds))

  -- 4: no record is left
  abbrev pub no_record_left : Bool
  no_record_left = not (ltb (length ds) m)

  -- 5: the word is unknown or missing
  abbrev pub unknown_word : Bool
  unknown_word = eqb f 0

  -- 6: an operand is missing or malformed, or there are two extra tokens; one is a name
  abbrev pub bad_operand : Bool
  bad_operand = ltb (length ts) (numbers_of (form_row f)) || (any_bad (numbers_in f ts) || leb 2 (length (extra_tokens f ts)))

  -- 7: a number is above 2 ^ 64 - 1, a const above 64 or a consth above 16 digits, or a bitvec width not 1 to 64
  abbrev pub number_too_large : Bool
  number_too_large = any_big (numbers_in f ts) || (eqb f 1 && not (inside 1 64 (first_in (written_record f ts))))

  -- 8: an operand does not name an earlier line of the right class, or a minus stands where none may
  abbrev pub wrong_class : Bool
  wrong_class = eqb (fault false L G (record_in L ds f ts)) 8 || not (all (minuses_fit L (signs_in f ts) (record_in L ds f ts)))

  -- 9: sorts, widths, bounds or a constant misfit; a const token, the last of its numbers, has as many digits as its width
  abbrev pub misfit : Bool
  misfit = eqb (fault false L G (record_in L ds f ts)) 9 || (eqb f 64 && not (eqb (length (last_of [] (number_tokens f ts))) (L (sort_in (record_in L ds f ts))).w))

  -- 10: a second init or next of a state, or the init rule
  abbrev pub init_or_next : Bool
  init_or_next = eqb (fault false L G (record_in L ds f ts)) 10

  -- 22: the line's name already stands on an earlier line
  abbrev pub name_used : Bool
  name_used = used (name_in f ts) ns

  -- 4 again: no record is left for the line with its not records
  abbrev pub no_records_left : Bool
  no_records_left = not (ltb (length ds + minuses (signs_in f ts)) m)

  -- all of them, in their order
  abbrev pub refusals : List (Refusal × Bool)
  refusals =
      (WrongId, wrong_id)
      ∷ (NoRecordLeft, no_record_left)
      ∷ (UnknownWord, unknown_word)
      ∷ (BadOperand, bad_operand)
      ∷ (NumberTooLarge, number_too_large)
      ∷ (WrongClass, wrong_class)
      ∷ (Misfit, misfit)
      ∷ (InitOrNext, init_or_next)
      ∷ (NameUsed, name_used)
      ∷ (NoRecordLeft, no_records_left)
      ∷ []

-- ---- a line

-- a blank line, a refusal, or a record with its signs
pub data Reply : Type 0 where
  skip : Reply
  no : (r : Refusal) → Reply
  got : (rec : List ℕ) (s : List Bool) → Reply

-- the first refusal whose test holds, else y
unfoldable pub lowest : List (Refusal × Bool) → (y : Reply) → Reply
lowest [] y = y
lowest (x ∷ xs) y = elim x.1 [ true ↦ no x.0 | false ↦ lowest xs y ]

-- a line's tokens: a semicolon starts a comment to the line's end
abbrev pub line_tokens : List ℕ → List (List ℕ)
line_tokens l = tokens (up_to 59 l)

-- the record of a form and the tokens behind its word, with its signs
abbrev pub reply_in : (ℕ → Ty) → (ds : List ℕ) (f : ℕ) → List (List ℕ) → Reply
reply_in L ds f ts = got (record_in L ds f ts) (signs_in f ts)

unfoldable pub read_line : (ℕ → Ty) → (Bool → ℕ → Bool) → (m : ℕ) (ds : List ℕ) (ns : List (List ℕ)) → List (List ℕ) → Reply
read_line L G m ds ns [] = skip
read_line L G m ds ns (t ∷ ts) = lowest (refusals L G m ds ns t (form_of (word_in ts)) (behind (word_in ts))) (reply_in L ds (form_of (word_in ts)) (behind (word_in ts)))

-- ---- a text

-- the records and their ids; or a refusal with the number of its text line
pub data Text : Type 0 where
  done : (rs : List (List ℕ)) (ds : List ℕ) → Text
  refused : (r : Refusal) (l : ℕ) → Text

-- what the lines so far have left: their context, records and ids, and their names, the last one first
pub record Sofar : Type 0 where
  pub ctx : Ctx
  pub records : List (List ℕ)
  pub ids : List ℕ
  pub names : List (List ℕ)

abbrev pub sofar : Ctx → (records : List (List ℕ)) (ids : List ℕ) (names : List (List ℕ)) → Sofar
sofar c rs ds ns = record { ctx = c; records = rs; ids = ds; names = ns }

abbrev pub no_lines : Sofar
no_lines = sofar no_ctx [] [] []

-- with the line whose tokens are ts, which gave the record rec with the signs s
abbrev pub with_line : (b : Sofar) (ts : List (List ℕ)) (rec : List ℕ) (s : List Bool) → Sofar
with_line b ts rec s =
    sofar (grow_all false b.ctx (map line_of (line_records s b.records rec))) (b.records ++ line_records s b.records rec) (b.ids ++ line_ids s (line_id ts))
    (with_name (line_name ts) b.names)

-- how the types of the lines so far are looked up, by their records and their context: as the context keeps them
abbrev pub kept_types : List (List ℕ) → Ctx → ℕ → Ty
kept_types rs c = ty_at c

-- a text, by any way to look the types up
module _ (types : List (List ℕ) → Ctx → ℕ → Ty) where
  -- a line after those so far, with room for m records
  abbrev pub reply_by : (m : ℕ) (b : Sofar) → (ts : List (List ℕ)) → Reply
  reply_by m b ts = read_line (types b.records b.ctx) (given b.ctx) m b.ids b.names ts

  -- the lines from the line l on
  unfoldable pub read_lines_by : (m l : ℕ) (b : Sofar) → List (List ℕ) → Text
  read_lines_by m l b [] = done b.records b.ids
  read_lines_by m l b (x ∷ xs) =
      elim (reply_by m b (line_tokens x)) [
        | skip ↦ read_lines_by m (suc l) b xs
        | no r ↦ refused r l
        | got rec s ↦ read_lines_by m (suc l) (with_line b (line_tokens x) rec s) xs
      ]

  -- all lines of the text s, into a table of len words
  abbrev pub lines_read_by : (len : ℕ) → List ℕ → Text
  lines_read_by len s = read_lines_by (room false len) 1 no_lines (split 10 s)

  -- the text s read into a table of len words: 1, 2, and then line by line
  unfoldable pub read_text_by : (len : ℕ) → List ℕ → Text
  read_text_by len s =
      elim (whole false len) [
        | false ↦ refused NotATable 0
        | true ↦ elim (leb (length s) 65536) [ true ↦ lines_read_by len s | false ↦ refused TextTooLong 0 ]
      ]

-- and by the types that are kept, their marks among them
abbrev pub reply_after : (m : ℕ) (b : Sofar) → (ts : List (List ℕ)) → Reply
reply_after = reply_by kept_types

abbrev pub read_lines : (m l : ℕ) (b : Sofar) → List (List ℕ) → Text
read_lines = read_lines_by kept_types

abbrev pub lines_read : (len : ℕ) → List ℕ → Text
lines_read = lines_read_by kept_types

abbrev pub read_text : (len : ℕ) → List ℕ → Text
read_text = read_text_by kept_types

-- what is answered: the count, or a refusal with its text line
abbrev pub at_line : (r : Refusal) (l : ℕ) → Result ℕ TextRefusal
at_line r l = Err (record { refusal = r; line = l })

abbrev pub text_answer : Text → Result ℕ TextRefusal
text_answer (done rs ds) = Ok (length rs)
text_answer (refused r l) = at_line r l

abbrev pub told_read : Result ℕ TextRefusal → (left : List (List ℕ)) → Outcome
told_read (Ok n) left = outcome 0 n 0 0 left
told_read (Err x) left = outcome (number_of x.refusal) x.line 0 0 left

-- and the words of the table afterwards: zero past the records, and zero after a refusal

abbrev pub table_of : (len : ℕ) → Text → List ℕ
table_of len (done rs ds) = filled false len (with_ids rs ds)
table_of len (refused r l) = replicate len 0

abbrev pub outcome_of : (len : ℕ) → Text → Outcome
outcome_of len x = told_read (text_answer x) (table_of len x ∷ [])

-- the outcome of reading the text s into a table of len words
unfoldable pub reads : (len : ℕ) → List ℕ → Outcome
reads len s = outcome_of len (read_text len s)
