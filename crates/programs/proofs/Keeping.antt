-- The list that the code keeps holds what the definition knows of the lines so far; and the line at hand. Assumes nothing.
use Rattle.std.specs.Prelude.{Ok}
use Prim.Native.Nat.{ℕ, zero, suc, ◌+◌, ◌≤◌, ◌<◌}
use mathlib.Core.Path.{◌≡◌, refl, sym, ap, ap₂, ◌∙◌, subst, subst⁻¹}
use mathlib.Core.Bool.{Bool, true, false}
use mathlib.Core.List.{List, [], ◌∷◌, ◌++◌}
use native.Mathlib.Omega.{arith}
use lib.Dec.{leb}
use lib.ListN.{length, get_or, set, drop, replicate, length-set, length-replicate}
use lib.Seq.{get_or_at, drop-cons, get_or-set_same, get_or-set_other}
use Rattle.tables.specs.Pick.{pick}
use Rattle.tables.specs.Lines.{Line, Expr, line_of, words_of, kind_in, unknown, bitvec, array, input, state, value, init_or_next, signal, output, const, unary, binary, equality, ite, read, write}
use Rattle.tables.specs.Layout.{held, record_at, records_of, lines_of}
use Rattle.tables.specs.Types.{Ctx, ty_at, given, grow, no_ctx}
use Rattle.tables.specs.Tables.{known, formed, keeps, lawful, checked}
use Rattle.tables.proofs.Kept.{both, known_range}
use Rattle.tables.proofs.Formed.{words_back}
use Rattle.tables.proofs.Showing.{by_place, snoc_other}
use Rattle.tables.proofs.Places.{length_records, length_record, length_lines, record_at_lem}
use Rattle.tables.proofs.Encoding.{fits_table}
use Rattle.tables.proofs.Facts.{OkLine, OkExpr, AllOk}
use Rattle.tables.proofs.Sound.{accepted_lawful, accepted_ok}
use Rattle.circuits.proofs.Walked.{line_here}
use Rattle.programs.specs.declared.Known.{Known}
use Rattle.programs.specs.Translation.{none_known, info, known_at, operand_width, operand_number, loose_of}
use Rattle.programs.specs.Model.Records.{loose_in, width_in, number_in, emitted, Taken}
use Rattle.programs.proofs.Modelled.{Kinded, KindedExpr, info_in}

-- ---- the list

-- K has z entries, and J one for each line so far
pub record Keeps (z : ℕ) (J K : List Known) : Type 0 where
  pub at : (a : ℕ) → known_at K a ≡ known_at J a
  pub size : length K ≡ z
  pub none : operand_width J 0 ≡ 0

-- a list of zeros has their number
pub zeros_count : {ys : List ℕ} (z : ℕ) → ys ≡ replicate z 0 → length ys ≡ z
zeros_count z e = ap length e ∙ length-replicate {A = ℕ} z 0

-- each entry of a list of one value, read with that value past the end
pub blank_at : {A : Type 0} (x : A) (z a : ℕ) → get_or (replicate z x) a x ≡ x
blank_at x zero a = refl
blank_at x (suc z) zero = refl
blank_at x (suc z) (suc a) = blank_at x z a

pub few_emitted : (k : ℕ) (m : Bool) → emitted k m ≤ 2
few_emitted k m = go (leb k 2) m
  where
    go : (q m : Bool) → pick q 0 (pick m 2 1) ≤ 2
    go true m = omega arith
    go false true = omega arith
    go false false = omega arith

pub keeps_start : (z : ℕ) → Keeps z (none_known ∷ []) (replicate z none_known)
keeps_start z = record { at = λ a. blank_at none_known z a ∙ sym (empty a); size = length-replicate {A = Known} z none_known; none = refl }
  where
    empty : (a : ℕ) → known_at (none_known ∷ []) a ≡ none_known
    empty zero = refl
    empty (suc a) = refl

pub keeps_more : {z : ℕ} {J K K₁ : List Known} {f : Known} {r : List ℕ} {n b : ℕ} {nd m : Bool} → Keeps z J K → Taken r n nd b K K₁ m → length J ≡ n → 1 ≤ n → n < z
    → f ≡ info_in (operand_width K) (operand_number K) (loose_of K) nd b r → Keeps z (J ++ (f ∷ [])) K₁
keeps_more {z} {J} {K} {K₁} {f} {r} {n} {b} {nd} {m} k t e h l q =
    let W = operand_width K in
    let L = loose_of K in
    let p : K₁ ≡ set K n f = t.kept ∙ ap (λ (x : Bool). set K n (info (width_in W r) (number_in (kind_in r) b x) (loose_in W L r))) t.mask ∙ ap (set K n) (sym q) in
    record {
      at = λ a.
          by_place a n
          (λ y. ap (λ (x : ℕ). known_at K₁ x) y ∙ ap (λ (x : List Known). known_at x n) p ∙ get_or-set_same K n f none_known (omega (arith, k.size)) ∙ sym (ap (known_at (J ++ (f ∷ []))) y ∙ get_or_at J f [] none_known n e))
          (λ y. ap (λ (x : List Known). known_at x a) p ∙ get_or-set_other K n a f none_known y ∙ k.at a ∙ sym (snoc_other J f none_known a (λ x. y (x ∙ e))));
      size = ap length p ∙ length-set K n f ∙ k.size;
      none = ap (λ (x : Known). x.width) (snoc_other J f none_known 0 (λ z. omega arith)) ∙ k.none;
    }

-- ---- the line at hand

pub record LineAt (t : List ℕ) (n i : ℕ) : Type 0 where
  pub line : Line
  pub rest : drop i (lines_of false t n) ≡ line ∷ drop (i + 1) (lines_of false t n)
  pub words : words_of line ≡ record_at false t i
  pub kinded : Kinded line
  pub kind : kind_in (record_at false t i) ≤ 63

formed_at : (p : Bool) (c : Ctx) (rs : List (List ℕ)) → lawful p c rs ≡ true → (i : ℕ) → i < length rs → formed p (get_or rs i []) ≡ true
formed_at p c [] h i l = absurd (omega arith)
formed_at p c (r ∷ rs) h zero l = (both (formed p r) _ (both (keeps p (ty_at c) (given c) r) _ h).0).0
formed_at p c (r ∷ rs) h (suc i) l = formed_at p (grow p c (line_of r)) rs (both (keeps p (ty_at c) (given c) r) _ h).1 i (omega arith)

kinded_expr : (c : Ctx) (s : ℕ) (x : Expr) → OkExpr false (ty_at c) (ty_at c s) x → KindedExpr x
kinded_expr c s (const v) k = tt
kinded_expr c s (unary n a x y) k = k.kind
kinded_expr c s (binary n a b) k = k.kind
kinded_expr c s (equality e a b) k = tt
kinded_expr c s (ite d a b) k = tt
kinded_expr c s (read a i) k = tt
kinded_expr c s (write a i v) k = tt

kinded_line : (c : Ctx) (l : Line) → OkLine false (ty_at c) (given c) l → Kinded l
kinded_line c (bitvec w) k = tt
kinded_line c (array i e) k = tt
kinded_line c (input s) k = tt
kinded_line c (state s) k = tt
kinded_line c (value s x) k = kinded_expr c s x k
kinded_line c (init_or_next m s q v) k = tt
kinded_line c (signal m a) k = tt
kinded_line c (output a) k = tt
kinded_line c unknown k = tt

kinded_at : (c : Ctx) (ls : List Line) → AllOk false c ls → (i : ℕ) → i < length ls → Kinded (get_or ls i unknown)
kinded_at c [] k i l = absurd (omega arith)
kinded_at c (x ∷ ls) k zero l = kinded_line c x k.0
kinded_at c (x ∷ ls) k (suc i) l = kinded_at (grow false c x) ls k.1 i (omega arith)

pub line_at : (t : List ℕ) (n i : ℕ) → checked false t n ≡ Ok tt → i < n → LineAt t n i
line_at t n i e l =
    let rs = records_of false t n in
    let li : i < length rs = omega (arith, length_records false t n) in
    let ra : get_or rs i [] ≡ record_at false t i = record_at_lem false t n i l in
    let fo : formed false (record_at false t i) ≡ true = subst (λ (r : List ℕ). formed false r ≡ true) ra (formed_at false no_ctx rs (accepted_lawful false t n e) i li) in
    let x : get_or (lines_of false t n) i unknown ≡ line_of (record_at false t i) = line_here false t n e i l in
    let many : i < length (lines_of false t n) = omega (arith, length_lines false t n) in
    let s : suc i ≡ i + 1 = omega arith in
    record {
      line = line_of (record_at false t i);
      rest = drop-cons (lines_of false t n) i unknown many ∙ ap₂ (λ (y : Line) (k : ℕ). y ∷ drop k (lines_of false t n)) x s;
      words = words_back false (record_at false t i) (length_record false t i) fo;
      kinded = subst Kinded x (kinded_at no_ctx (lines_of false t n) (accepted_ok false t n e) i many);
      kind = (known_range false (kind_in (record_at false t i)) (both (known false (kind_in (record_at false t i))) _ fo).0).1;
    }

-- its record is in the table, its number is at most 16,384, and its kind is a circuit's
module _ (t : List ℕ) (n i : ℕ) (e : checked false t n ≡ Ok tt) (l : i < n) where
  pub held_here : i < held false (length t)
  held_here = omega (arith, (fits_table false t n e).1)

  pub few_here : i < 16384
  few_here = omega (arith, (fits_table false t n e).0)

  pub kind_here : {r : List ℕ} → r ≡ record_at false t i → kind_in r ≤ 63
  kind_here er = subst⁻¹ (λ (x : List ℕ). kind_in x ≤ 63) er (line_at t n i e l).kind

-- a table has fewer lines than the largest list has entries
pub few_lines : (t : List ℕ) (n : ℕ) → checked false t n ≡ Ok tt → n < 16385
few_lines t n e = omega (arith, (fits_table false t n e).0)

-- past the last line
pub no_line : (t : List ℕ) (n i : ℕ) → n ≤ i → drop i (lines_of false t n) ≡ []
no_line t n i l = past (lines_of false t n) i (omega (arith, length_lines false t n))
  where
    past : (ls : List Line) (i : ℕ) → length ls ≤ i → drop i ls ≡ []
    past [] zero h = refl
    past [] (suc i) h = refl
    past (x ∷ ls) zero h = absurd (omega arith)
    past (x ∷ ls) (suc i) h = past ls i (omega arith)
