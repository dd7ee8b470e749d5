-- The stages of reading a line, one law for each case. Assumes nothing.
use Rattle.std.specs.Prelude.{Result, Ok, Err, Some}
use Rattle.std.specs.Result.{result_eq}
use mathlib.Core.Path.{◌≡◌, refl, sym, ap, ◌∙◌}
use mathlib.Core.Bool.{Bool, true, false}
use mathlib.Core.List.{List, [], ◌∷◌}
use Prim.Native.Nat.{ℕ, suc, ◌+◌, ◌-◌, ◌^◌, ◌≤◌, ◌<◌}
use native.Mathlib.Omega.{arith}
use native.Mathlib.Numerals.{add-one}
use lib.Dec.{eqb, leb}
use lib.ListN.{length, drop, get_or, set}
use borrow.Author.Tests.{eqb-true, eqb-false, eq-eqb, ne_eqb, lt-ltb, le-ltb, le-leb, lt-leb}
use Rattle.tables.specs.declared.Ty.{Ty}
use Rattle.tables.specs.declared.Refusal.{Refusal}
use Rattle.tables.specs.declared.Refusal.TheVariants.{WrongId, NoRecordLeft, UnknownWord, BadOperand, NumberTooLarge, WrongClass, Misfit, InitOrNext}
use Rattle.tables.specs.Pick.{pick, inside, all}
use Rattle.tables.specs.Lines.{kind_in, sort_in, first_in, second_in, third_in}
use Rattle.tables.specs.Rules.{fault, refused_by}
use Rattle.tables.specs.Ids.{follows}
use Rattle.tables.specs.Types.{is_word}
use Rattle.tables.proofs.Laws.{and_true, and_false}
use Rattle.tables.proofs.Kept.{neither}
use Rattle.texts.specs.Decimal.{Num}
use Rattle.texts.specs.declared.NumberError.TheVariants.{Malformed, TooLarge}
use Rattle.tables.specs.Kinds.{row_of, sort_class, first_class, second_class, third_class, operand_count}
use Rattle.texts.specs.Forms.{form_row, kind_of, sorted, first_of, numbers_of}
use Rattle.texts.specs.Split.{tokens}
use Rattle.texts.specs.Decimal.{decimal}
use Rattle.texts.specs.Operands.{resolved}
use Rattle.texts.specs.Minus.{no_signs, minus_at, minus_fits, minuses_by, minuses_fit}
use Rattle.texts.specs.Reading.{unknown, word_in, sign_at, number_at, fresh, settled, Reply, no, got, skip, is_next, value_of, last_of}
use Rattle.texts.specs.Model.Stages.{Took, took, malformed, operands, taken_in, ruled, judged, allowed, concluded, large, ended, worded, judged_line}
use Rattle.texts.specs.declared.Taken.{Taken}
use Rattle.texts.specs.declared.Form.{Form}
use Rattle.texts.specs.Model.Structs.{as_word, as_took, NextId, any_sign, several}

-- ---- operands

module _ (f e p : ℕ) (rec : List ℕ) (s : List Bool) (big : Bool) (len : ℕ) where
  pub op_end : (ts : List (List ℕ)) → e ≤ p → operands f (e - p) p rec s big len ts ≡ took rec s big len ts
  unfolding operands
  op_end ts h = let q : e - p ≡ 0 = omega arith in ap (λ (m : ℕ). operands f m p rec s big len ts) q

  pub op_none : p < e → operands f (e - p) p rec s big len [] ≡ malformed
  unfolding operands
  op_none h = let q : e - p ≡ suc (e - (p + 1)) = omega arith in ap (λ (m : ℕ). operands f m p rec s big len []) q

  module _ (t : List ℕ) (ts : List (List ℕ)) (h : p < e) where
    op_step : operands f (e - p) p rec s big len (t ∷ ts) ≡ operands f (suc (e - (p + 1))) p rec s big len (t ∷ ts)
    op_step = let q : e - p ≡ suc (e - (p + 1)) = omega arith in ap (λ (m : ℕ). operands f m p rec s big len (t ∷ ts)) q

    pub op_bad : number_at f p t ≡ Err Malformed → operands f (e - p) p rec s big len (t ∷ ts) ≡ malformed
    unfolding operands
    op_bad k = op_step ∙ rw (k, operands) refl

    pub op_big : number_at f p t ≡ Err TooLarge → operands f (e - p) p rec s big len (t ∷ ts) ≡ operands f (e - (p + 1)) (p + 1) rec (set s p (sign_at f p t)) true (length t) ts
    unfolding operands
    op_big k = op_step ∙ rw (k, operands) (ap (λ (x : ℕ). operands f (e - (p + 1)) x rec (set s p (sign_at f p t)) true (length t) ts) (sym (add-one p)))

    pub op_is : (v : ℕ) → number_at f p t ≡ Ok v → operands f (e - p) p rec s big len (t ∷ ts) ≡ operands f (e - (p + 1)) (p + 1) (set rec p v) (set s p (sign_at f p t)) big (length t) ts
    unfolding operands
    op_is v k = op_step ∙ rw (k, operands) (ap (λ (x : ℕ). operands f (e - (p + 1)) x (set rec p v) (set s p (sign_at f p t)) big (length t) ts) (sym (add-one p)))

-- ---- the rules

module _ (a : ℕ) (rec : List ℕ) (s : List Bool) where
  pub ruled_got : a ≡ 0 → ruled a rec s ≡ got rec s
  unfolding ruled
  ruled_got h = rw (eq-eqb a 0 h, ruled) refl

  pub ruled_9 : a ≡ 9 → ruled a rec s ≡ no Misfit
  unfolding ruled
  ruled_9 h = rw (ne_eqb a 0 (λ e. omega arith), eq-eqb a 9 h, ruled) refl

  pub ruled_10 : (a ≡ 0 → ⊥) → (a ≡ 9 → ⊥) → ruled a rec s ≡ no InitOrNext
  unfolding ruled
  ruled_10 h k = rw (ne_eqb a 0 h, ne_eqb a 9 k, ruled) refl

-- what the rules answer is what they say
module _ (n : ℕ) where
  pub tells_8 : (U : Unit {0} → Unit {0} → Bool) (E : Refusal → Refusal → Bool) {r : Result (Unit {0}) Refusal} {b : Bool} → r ≡ refused_by n → b ≡ result_eq U E r (Err WrongClass)
      → E WrongClass WrongClass ≡ true → E Misfit WrongClass ≡ false → E InitOrNext WrongClass ≡ false → b ≡ eqb n 8
  tells_8 U E h k t m i = k ∙ (ap (λ (r : Result (Unit {0}) Refusal). result_eq U E r (Err WrongClass)) h ∙ go (eqb n 0) refl (eqb n 8) refl (eqb n 9))
    where
      go : (a : Bool) → eqb n 0 ≡ a → (b : Bool) → eqb n 8 ≡ b → (c : Bool)
          → result_eq U E (pick a (Ok tt) (Err (pick b WrongClass (pick c Misfit InitOrNext)))) (Err WrongClass) ≡ b
      go true e true f c = let x = eqb-true n 0 e in let y = eqb-true n 8 f in absurd (omega arith)
      go true e false f c = refl
      go false e true f c = t
      go false e false f true = m
      go false e false f false = i

  module _ (rec : List ℕ) (s : List Bool) where
    pub by_none : {u : Unit {0}} → refused_by n ≡ Ok u → ruled n rec s ≡ got rec s
    by_none {u} h = go (eqb n 0) refl (pick (eqb n 8) WrongClass (pick (eqb n 9) Misfit InitOrNext)) h
      where
        go : (a : Bool) → eqb n 0 ≡ a → (q : Refusal) → ◌≡◌ {A = Result (Unit {0}) Refusal} (pick a (Ok tt) (Err q)) (Ok u) → ruled n rec s ≡ got rec s
        go true e q k = ruled_got n rec s (eqb-true n 0 e)
        go false e q k = let z : ◌≡◌ {A = ℕ} 0 1 = cc in absurd (omega arith)

    pub by_other : {r : Refusal} → (n ≡ 8 → ⊥) → refused_by n ≡ Err r → ruled n rec s ≡ no r
    by_other {r} x h = go (eqb n 0) refl (eqb n 8) refl (eqb n 9) refl h
      where
        go : (a : Bool) → eqb n 0 ≡ a → (b : Bool) → eqb n 8 ≡ b → (c : Bool) → eqb n 9 ≡ c
            → ◌≡◌ {A = Result (Unit {0}) Refusal} (pick a (Ok tt) (Err (pick b WrongClass (pick c Misfit InitOrNext)))) (Err r) → ruled n rec s ≡ no r
        go true e b i c j k = let z : ◌≡◌ {A = ℕ} 0 1 = cc in absurd (omega arith)
        go false e true i c j k = absurd (x (eqb-true n 8 i))
        go false e false i true j k = let q : Misfit ≡ r = cc in ruled_9 n rec s (eqb-true n 9 j) ∙ ap no q
        go false e false i false j k = let q : InitOrNext ≡ r = cc in ruled_10 n rec s (eqb-false n 0 e) (eqb-false n 9 j) ∙ ap no q

module _ (w f : ℕ) (rec : List ℕ) where
  pub settled_one : f ≡ 67 → settled w f rec ≡ set rec 2 1
  unfolding settled
  settled_one h = rw (eq-eqb f 67 h, settled) refl

  pub settled_ones : f ≡ 68 → settled w f rec ≡ set rec 2 (2 ^ w - 1)
  unfolding settled
  settled_ones h = rw (ne_eqb f 67 (λ x. omega arith), eq-eqb f 68 h, settled) refl

  pub settled_other : (f ≡ 67 → ⊥) → (f ≡ 68 → ⊥) → settled w f rec ≡ rec
  unfolding settled
  settled_other h k = rw (ne_eqb f 67 h, ne_eqb f 68 k, settled) refl

  -- a value is no kind
  pub settled_kind : kind_in (settled w f rec) ≡ kind_in rec
  unfolding settled
  settled_kind = go (eqb f 67) (eqb f 68) refl refl
    where
      after_set : (v : ℕ) (r : List ℕ) → get_or (set r 2 v) 0 0 ≡ get_or r 0 0
      after_set v [] = refl
      after_set v (x ∷ r) = refl

      go : (p q : Bool) → eqb f 67 ≡ p → eqb f 68 ≡ q → kind_in (settled w f rec) ≡ kind_in rec
      go true q x y = rw (x, settled) (after_set 1 rec)
      go false true x y = rw (x, y, settled) (after_set (2 ^ w - 1) rec)
      go false false x y = rw (x, y, settled) refl

-- ---- where a minus may stand

module _ (k q : ℕ) (a : Ty) (b : Bool) (minus : b ≡ true) where
  pub sign_no_line : q ≡ 0 → false ≡ minus_fits k q a b
  sign_no_line e = sym (rw (minus, e) refl)

  pub sign_other : 3 < q → false ≡ minus_fits k q a b
  sign_other h = sym (rw (minus, lt-leb q 3 h, and_false (leb 1 q)) refl)

  pub sign_init : k ≡ 6 → false ≡ minus_fits k q a b
  sign_init e = sym (rw (minus, eq-eqb k 6 e, and_false (is_word a), and_false (inside 1 3 q)) refl)

  pub sign_word : (q ≡ 0 → ⊥) → q ≤ 3 → (k ≡ 6 → ⊥) → is_word a ≡ minus_fits k q a b
  sign_word n h i = sym (rw (minus, le-leb 1 q (omega arith), le-leb q 3 h, ne_eqb k 6 i) (and_true (is_word a)))

-- some place has a minus
module _ (s : List Bool) where
  pub at_sort : minus_at s 1 ≡ true → true ≡ any_sign s
  at_sort h = sym (rw h refl)

  module _ (p : minus_at s 1 ≡ false) where
    pub at_first : minus_at s 2 ≡ true → true ≡ any_sign s
    at_first h = sym (rw (p, h) refl)

    module _ (q : minus_at s 2 ≡ false) where
      pub at_second : minus_at s 3 ≡ true → true ≡ any_sign s
      at_second h = sym (rw (p, q, h) refl)

      pub at_third : minus_at s 3 ≡ false → minus_at s 4 ≡ any_sign s
      at_third h = sym (rw (p, q, h) refl)

-- place by place
module _ (row : List ℕ) (L : ℕ → Ty) (s : List Bool) (rec : List ℕ) where
  abbrev sign_fits : (k j : ℕ) → (a : ℕ) → Bool
  sign_fits k j a = minus_fits (kind_in rec) k (L a) (minus_at s j)

  pub sort_stops : sign_fits (sort_class row) 1 (sort_in rec) ≡ false → false ≡ all (minuses_by row L s rec)
  sort_stops h = sym (rw h refl)

  module _ (p : sign_fits (sort_class row) 1 (sort_in rec) ≡ true) where
    pub first_stops : sign_fits (first_class row) 2 (first_in rec) ≡ false → false ≡ all (minuses_by row L s rec)
    first_stops h = sym (rw (p, h) refl)

    module _ (q : sign_fits (first_class row) 2 (first_in rec) ≡ true) where
      pub second_stops : sign_fits (second_class row) 3 (second_in rec) ≡ false → false ≡ all (minuses_by row L s rec)
      second_stops h = sym (rw (p, q, h) refl)

      pub third_decides : sign_fits (second_class row) 3 (second_in rec) ≡ true → {b : Bool} → b ≡ sign_fits (third_class row) 4 (third_in rec) → b ≡ all (minuses_by row L s rec)
      third_decides h e = e ∙ sym (rw (p, q, h) (and_true (sign_fits (third_class row) 4 (third_in rec))))

-- numbers, where they are well formed
abbrev pub took_at : Bool → List ℕ → List Bool → Bool → ℕ → List (List ℕ) → Took
took_at true rec s big len ts = took rec s big len ts
took_at false rec s big len ts = malformed

module _ (L : ℕ → Ty) (G : Bool → ℕ → Bool) (f : ℕ) (rec : List ℕ) (s : List Bool) (len : ℕ) where
  pub judged_8 : fault false L G rec ≡ 8 → judged L G f len rec s ≡ no WrongClass
  unfolding judged
  judged_8 h = rw (eq-eqb (fault false L G rec) 8 h, judged) refl

  pub judged_9 : (fault false L G rec ≡ 8 → ⊥) → f ≡ 64 → (len ≡ (L (sort_in rec)).w → ⊥) → judged L G f len rec s ≡ no Misfit
  unfolding judged
  judged_9 h k n = rw (ne_eqb (fault false L G rec) 8 h, judged) (rw (eq-eqb f 64 k, ne_eqb len (L (sort_in rec)).w n) refl)

  pub judged_const : (fault false L G rec ≡ 8 → ⊥) → f ≡ 64 → len ≡ (L (sort_in rec)).w → judged L G f len rec s ≡ ruled (fault false L G rec) rec s
  unfolding judged
  judged_const h k n = rw (ne_eqb (fault false L G rec) 8 h, judged) (rw (eq-eqb f 64 k, eq-eqb len (L (sort_in rec)).w n) refl)

  pub judged_other : (fault false L G rec ≡ 8 → ⊥) → (f ≡ 64 → ⊥) → judged L G f len rec s ≡ ruled (fault false L G rec) rec s
  unfolding judged
  judged_other h k = rw (ne_eqb (fault false L G rec) 8 h, judged) (rw (ne_eqb f 64 k) refl)

  pub minus_8 : all (minuses_fit L s rec) ≡ false → allowed L G f len rec s ≡ no WrongClass
  unfolding allowed
  minus_8 h = rw (h, allowed) refl

  pub minus_fits_lem : all (minuses_fit L s rec) ≡ true → allowed L G f len rec s ≡ judged L G f len rec s
  unfolding allowed
  minus_fits_lem h = rw (h, allowed) refl

  -- no minus, no fault
  pub no_minus : any_sign s ≡ false → all (minuses_fit L s rec) ≡ true
  no_minus h =
      let p = neither (minus_at s 1) _ h in
      let q = neither (minus_at s 2) _ p.1 in
      let r = neither (minus_at s 3) _ q.1 in
      rw (p.0, q.0, r.0, r.1) refl

  -- the tests by a row are those of the kind where it is the kind's
  pub by_own_row : {row : List ℕ} {b : Bool} → row ≡ row_of (kind_in rec) → b ≡ all (minuses_by row L s rec) → b ≡ all (minuses_fit L s rec)
  by_own_row e h = h ∙ ap (λ (r : List ℕ). all (minuses_by r L s rec)) e

  pub is_concluded : {t : List ℕ} {w : ℕ} {x : Reply} → x ≡ allowed L G f len t s → t ≡ settled w f rec → w ≡ (L (sort_in rec)).w → x ≡ concluded L G f len rec s
  unfolding concluded
  is_concluded a b c = a ∙ ap (λ (r : List ℕ). allowed L G f len r s) (b ∙ ap (λ (v : ℕ). settled v f rec) c)

  module _ (ds : List ℕ) where
    pub large_big : (b : Bool) → b ≡ true → large L G ds f rec s b len ≡ no NumberTooLarge
    unfolding large
    large_big b h = rw h refl

    pub large_wide : (b : Bool) → b ≡ false → f ≡ 1 → inside 1 64 (first_in rec) ≡ false → large L G ds f rec s b len ≡ no NumberTooLarge
    unfolding large
    large_wide b z h k = rw z (rw (eq-eqb f 1 h, k, large) refl)

    pub large_fits : (b : Bool) → b ≡ false → f ≡ 1 → inside 1 64 (first_in rec) ≡ true → large L G ds f rec s b len ≡ concluded L G f len (resolved ds rec) s
    unfolding large
    large_fits b z h k = rw z (rw (eq-eqb f 1 h, k, large) refl)

    pub large_other : (b : Bool) → b ≡ false → (f ≡ 1 → ⊥) → large L G ds f rec s b len ≡ concluded L G f len (resolved ds rec) s
    unfolding large
    large_other b z h = rw z (rw (ne_eqb f 1 h, large) refl)

    module _ (b ok : Bool) (ts : List (List ℕ)) where
      pub ended_bad : ok ≡ false → ended L G ds f (took_at ok rec s b len ts) ≡ no BadOperand
      ended_bad h = rw h refl

      pub ended_many : ok ≡ true → several ts ≡ true → ended L G ds f (took_at ok rec s b len ts) ≡ no BadOperand
      ended_many h k = rw h (go ts k)
        where
          go : (ts : List (List ℕ)) → several ts ≡ true → ended L G ds f (took rec s b len ts) ≡ no BadOperand
          go [] k = let z : ◌≡◌ {A = ℕ} 0 1 = cc in absurd (omega arith)
          go (x ∷ []) k = let z : ◌≡◌ {A = ℕ} 0 1 = cc in absurd (omega arith)
          go (x ∷ y ∷ r) k = refl

      pub ended_few : ok ≡ true → several ts ≡ false → ended L G ds f (took_at ok rec s b len ts) ≡ large L G ds f rec s b len
      ended_few h k = rw h (go ts k)
        where
          go : (ts : List (List ℕ)) → several ts ≡ false → ended L G ds f (took rec s b len ts) ≡ large L G ds f rec s b len
          go [] k = refl
          go (x ∷ []) k = refl
          go (x ∷ y ∷ r) k = let z : ◌≡◌ {A = ℕ} 0 1 = cc in absurd (omega arith)

-- the stage that a Taken stands for
module _ (L : ℕ → Ty) (G : Bool → ℕ → Bool) (ds : List ℕ) (f : ℕ) (l : List ℕ) (t : Taken) {x : Reply} where
  pub taken_many : x ≡ no BadOperand → several (tokens (drop t.at l)) ≡ true → x ≡ ended L G ds f (as_took l (Some t))
  taken_many e k = e ∙ (sym (ended_many L G f t.rec t.minus t.len ds t.big true (tokens (drop t.at l)) refl k))

  pub taken_few : x ≡ large L G ds f t.rec t.minus t.big t.len → several (tokens (drop t.at l)) ≡ false → x ≡ ended L G ds f (as_took l (Some t))
  taken_few e k = e ∙ (sym (ended_few L G f t.rec t.minus t.len ds t.big true (tokens (drop t.at l)) refl k))

-- the numbers of a line of the form f, whose row is row
pub taken_from : (f : ℕ) (row start : List ℕ) (k s : ℕ) (ts : List (List ℕ)) {x : Took} → operands f (s + operand_count row) (2 - s) start no_signs false 0 ts ≡ x
    → start ≡ fresh k → s ≡ sorted row → row ≡ form_row f → k ≡ kind_of f → taken_in f ts ≡ x
taken_from f row start k s ts o eb es er ek =
    sym
    (ap (λ (r : List ℕ). operands f (s + operand_count row) (2 - s) r no_signs false 0 ts) eb
    ∙ (ap (λ (m : ℕ). operands f (m + operand_count row) (2 - m) (fresh k) no_signs false 0 ts) es
    ∙ (ap (λ (r : List ℕ). operands f (sorted r + operand_count r) (2 - sorted r) (fresh k) no_signs false 0 ts) er
    ∙ ap (λ (m : ℕ). operands f (numbers_of (form_row f)) (first_of (form_row f)) (fresh m) no_signs false 0 ts) ek)))
    ∙ o

-- ---- the id

module _ (n : Num) (last : ℕ) where
  pub next_is : (v : ℕ) → n ≡ Ok v → follows last v ≡ true → NextId n last (Some v)
  next_is v e h = (ap (λ (x : Num). is_next x last) e ∙ h, ap value_of (sym e))

-- ---- lines

module _ (L : ℕ → Ty) (G : Bool → ℕ → Bool) (ds : List ℕ) (m : ℕ) where
  line_skip : judged_line L G ds m [] ≡ skip
  unfolding judged_line
  line_skip = refl

  module _ (t : List ℕ) (ts : List (List ℕ)) where
    line_3 : is_next (decimal t) (last_of 0 ds) ≡ false → judged_line L G ds m (t ∷ ts) ≡ no WrongId
    unfolding judged_line
    line_3 h = rw (h, judged_line) refl

    line_4 : is_next (decimal t) (last_of 0 ds) ≡ true → m ≤ length ds → judged_line L G ds m (t ∷ ts) ≡ no NoRecordLeft
    unfolding judged_line
    line_4 h k = rw (h, le-ltb (length ds) m k, judged_line) refl

    line_word : is_next (decimal t) (last_of 0 ds) ≡ true → length ds < m → judged_line L G ds m (t ∷ ts) ≡ worded L G ds (word_in ts)
    unfolding judged_line
    line_word h k = rw (h, lt-ltb (length ds) m k, judged_line) refl

-- a line whose tokens are known
module _ (L : ℕ → Ty) (G : Bool → ℕ → Bool) (ds : List ℕ) (m : ℕ) (l : List ℕ) {x : Reply} where
  pub read_skip : tokens l ≡ [] → x ≡ skip → x ≡ judged_line L G ds m (tokens l)
  read_skip e h = h ∙ (sym (ap (judged_line L G ds m) e ∙ line_skip L G ds m))

  module _ (t : List ℕ) (z : ℕ) (e : tokens l ≡ t ∷ tokens (drop z l)) where
    pub read_3 : is_next (decimal t) (last_of 0 ds) ≡ false → x ≡ no WrongId → x ≡ judged_line L G ds m (tokens l)
    read_3 a h = h ∙ (sym (ap (judged_line L G ds m) e ∙ line_3 L G ds m t (tokens (drop z l)) a))

    pub read_4 : is_next (decimal t) (last_of 0 ds) ≡ true → m ≤ length ds → x ≡ no NoRecordLeft → x ≡ judged_line L G ds m (tokens l)
    read_4 a b h = h ∙ (sym (ap (judged_line L G ds m) e ∙ line_4 L G ds m t (tokens (drop z l)) a b))

    pub read_5 : is_next (decimal t) (last_of 0 ds) ≡ true → length ds < m → word_in (tokens (drop z l)) ≡ unknown → x ≡ no UnknownWord
        → x ≡ judged_line L G ds m (tokens l)
    read_5 a b k h = h ∙ (sym (ap (judged_line L G ds m) e ∙ (line_word L G ds m t (tokens (drop z l)) a b ∙ ap (worded L G ds) k)))

-- and whose word is known
pub judged_on : (L : ℕ → Ty) (G : Bool → ℕ → Bool) (ds : List ℕ) (m : ℕ) (l t : List ℕ) (z : ℕ) → tokens l ≡ t ∷ tokens (drop z l) → is_next (decimal t) (last_of 0 ds) ≡ true → length ds < m
    → (w : Form) → word_in (tokens (drop z l)) ≡ as_word l (Some w) → ended L G ds w.form (taken_in w.form (tokens (drop w.at l))) ≡ judged_line L G ds m (tokens l)
judged_on L G ds m l t z e a b w k =
    sym (ap (judged_line L G ds m) e ∙ (line_word L G ds m t (tokens (drop z l)) a b ∙ ap (worded L G ds) k))
