-- The answers of the check of a table, and the notes it starts from. Assumes nothing.
use Rattle.std.specs.Prelude.{Result, Ok, Err}
use Prim.Native.Nat.{ℕ, zero, suc, ◌≤◌, ◌<◌}
use mathlib.Core.Path.{◌≡◌, refl, sym, ap, ◌∙◌, subst}
use mathlib.Core.Bool.{Bool, true, false, ◌&&◌}
use mathlib.Core.List.{List}
use native.Mathlib.Omega.{arith}
use lib.ListN.{length, get_or, replicate, length-replicate}
use borrow.Author.Tests.{le-leb, lt-leb}
use Rattle.tables.specs.declared.Note.{Note}
use Rattle.tables.specs.declared.Refusal.{Refusal}
use Rattle.tables.specs.declared.Refusal.TheVariants.{NotATable}
use Rattle.tables.specs.Layout.{whole, held, room, records_of}
use Rattle.tables.specs.Ids.{ids_right}
use Rattle.tables.specs.Types.{no_ty, no_ctx, ty_at, given}
use Rattle.tables.specs.Tables.{lawful, broken, checked}
use Rattle.tables.specs.Model.Notes.{blank, note_at, flag_in, given_in, Shows, Fresh}

module _ (p : Bool) (t : List ℕ) (n : ℕ) where
  pub no_table : whole p (length t) ≡ false → Err NotATable ≡ checked p t n
  unfolding checked
  no_table e = rw e

  pub too_many : whole p (length t) ≡ true → room p (length t) < n → Err (broken p) ≡ checked p t n
  unfolding checked
  too_many e h = rw (e, lt-leb n (room p (length t)) h)

  pub unlawful : whole p (length t) ≡ true → n ≤ room p (length t) → false ≡ lawful p no_ctx (records_of p t n) → Err (broken p) ≡ checked p t n
  unfolding checked
  unlawful e h l = rw (e, le-leb n (room p (length t)) h, sym l)

  pub ids_wrong : whole p (length t) ≡ true → n ≤ room p (length t) → false ≡ ids_right p t n → Err (broken p) ≡ checked p t n
  unfolding checked
  ids_wrong e h l = rw (e, le-leb n (room p (length t)) h, sym l, and_no (lawful p no_ctx (records_of p t n)))
    where
      and_no : (b : Bool) → (b && false) ≡ false
      and_no true = refl
      and_no false = refl

  pub is_lawful : whole p (length t) ≡ true → n ≤ room p (length t) → true ≡ lawful p no_ctx (records_of p t n) → true ≡ ids_right p t n → Ok tt ≡ checked p t n
  unfolding checked
  is_lawful e h l d = rw (e, le-leb n (room p (length t)) h, sym l, sym d)

pub not_accepted : (r : Refusal) → ◌≡◌ {A = Result (Unit {0}) Refusal} (Err r) (Ok tt) → ⊥
not_accepted r e = let z : ◌≡◌ {A = ℕ} 0 1 = cc in omega arith

pub roomy : (p : Bool) (len n : ℕ) → n ≤ room p len → (n ≤ 16384) × (n ≤ held p len)
roomy p len n h = (omega arith, omega arith)

-- ---- lists of zeros and blank notes

pub zeros_at : (n a : ℕ) → get_or {A = ℕ} (replicate n 0) a 0 ≡ 0
zeros_at zero a = refl
zeros_at (suc n) zero = refl
zeros_at (suc n) (suc a) = zeros_at n a

pub blanks_at : (n a : ℕ) → note_at (replicate n blank) a ≡ blank
blanks_at zero a = refl
blanks_at (suc n) zero = refl
blanks_at (suc n) (suc a) = blanks_at n a

empty_at : (a : ℕ) → ty_at no_ctx a ≡ no_ty
empty_at zero = refl
empty_at (suc a) = refl

pub shows_none : {n : ℕ} {notes : List Note} → Fresh n notes → Shows notes no_ctx
shows_none {n} {notes} f = record { types = λ a. ap (λ (x : Note). x.ty) (none a) ∙ sym (empty_at a); flags = no_flag }
  where
    none : (a : ℕ) → note_at notes a ≡ blank
    none a = ap (λ (l : List Note). note_at l a) f.blanks ∙ blanks_at (length notes) a

    no_flag : (m : Bool) (q : ℕ) → given_in notes m q ≡ given no_ctx m q
    no_flag true q = ap (λ (r : Note). flag_in true r) (none q)
    no_flag false q = ap (λ (r : Note). flag_in false r) (none q)

-- a list of m blank notes
pub fresh : (n m : ℕ) → (n ≤ 16384 → n < m) → Fresh n (replicate m blank)
fresh n m h =
    let l = length-replicate m blank in
    record { blanks = ap (λ (k : ℕ). replicate k blank) (sym l); enough = λ q. subst (λ (k : ℕ). n < k) (sym l) (h q) }
