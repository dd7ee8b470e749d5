-- The request's lists of kinds (`specs/Kinds.antt`) say what the classes say: one comparison, computed over kinds 11 to 63 and every choice of
-- loose operands, and what it says at each kind; and the operators of ranges of kinds. Assumes nothing.
use Prim.Native.Nat.{ℕ, ◌-◌, ◌≤◌, ◌<◌}
use mathlib.Core.Path.{◌≡◌, refl, sym, ap, ◌∙◌}
use mathlib.Core.Bool.{Bool, true, false, ◌&&◌}
use mathlib.Core.List.{List, [], ◌∷◌}
use native.Mathlib.Omega.{arith}
use lib.Dec.{leb}
use borrow.Author.Tests.{le-leb}
use lib.ListN.{get_or, get_or-eq_default}
use Rattle.words.specs.Op.{ops, op_of, Detector, uaddo, saddo, usubo, ssubo, umulo, smulo, sdivo, mask, overflow}
use Rattle.words.specs.Model.Classes.{class_of}
use Rattle.words.specs.Model.Loose.{loose, need₁, need₂}
use Rattle.words.specs.Kinds.{loose_kind, need_kind₁, need_kind₂}
use Rattle.words.proofs.Table.{table, at}

-- what is said of a kind: whether its result is loose, for all choices of loose operands, and whether its first two operands have to be clean.
-- A second operand is a line from kind 21 on
abbrev row_of : (Bool → Bool → Bool → Bool) → Bool → Bool → ℕ → List Bool
row_of l n₁ n₂ k =
    l false false false ∷ l false false true ∷ l false true false ∷ l false true true ∷ l true false false ∷ l true false true ∷ l true true false ∷ l true true true
    ∷ n₁ ∷ (leb 21 k && n₂) ∷ []

abbrev by_kind : ℕ → List Bool
by_kind k = row_of (loose_kind k) (need_kind₁ k) (need_kind₂ k) k

abbrev by_class : ℕ → List Bool
by_class k = row_of (loose (class_of (op_of k))) (need₁ (class_of (op_of k))) (need₂ (class_of (op_of k))) k

pub compared : table by_kind 11 53 ≡ table by_class 11 53
compared = refl

row : (k : ℕ) → 11 ≤ k → k ≤ 63 → by_kind k ≡ by_class k
row k h l = at by_kind by_class 53 11 compared k h (omega arith)

-- ---- at each kind

pub loose_kind_lem : (k : ℕ) → 11 ≤ k → k ≤ 63 → (l₁ l₂ l₃ : Bool) → loose_kind k l₁ l₂ l₃ ≡ loose (class_of (op_of k)) l₁ l₂ l₃
loose_kind_lem k h l false false false = ap (λ (r : List Bool). get_or r 0 false) (row k h l)
loose_kind_lem k h l false false true = ap (λ (r : List Bool). get_or r 1 false) (row k h l)
loose_kind_lem k h l false true false = ap (λ (r : List Bool). get_or r 2 false) (row k h l)
loose_kind_lem k h l false true true = ap (λ (r : List Bool). get_or r 3 false) (row k h l)
loose_kind_lem k h l true false false = ap (λ (r : List Bool). get_or r 4 false) (row k h l)
loose_kind_lem k h l true false true = ap (λ (r : List Bool). get_or r 5 false) (row k h l)
loose_kind_lem k h l true true false = ap (λ (r : List Bool). get_or r 6 false) (row k h l)
loose_kind_lem k h l true true true = ap (λ (r : List Bool). get_or r 7 false) (row k h l)

pub need_kind₁_lem : (k : ℕ) → 11 ≤ k → k ≤ 63 → need_kind₁ k ≡ need₁ (class_of (op_of k))
need_kind₁_lem k h l = ap (λ (r : List Bool). get_or r 8 false) (row k h l)

-- a second operand that is a line
pub need_kind₂_lem : (k : ℕ) → 21 ≤ k → k ≤ 63 → need_kind₂ k ≡ need₂ (class_of (op_of k))
need_kind₂_lem k h l =
    ap (λ (t : Bool). t && need_kind₂ k) (sym (le-leb 21 k h)) ∙ ap (λ (r : List Bool). get_or r 9 false) (row k (omega arith) l) ∙ ap (λ (t : Bool). t && need₂ (class_of (op_of k))) (le-leb 21 k h)

-- ---- operators by their kinds' ranges

-- the detector of a kind from 57 to 63
abbrev pub detector_of : ℕ → Detector
detector_of k = get_or (uaddo ∷ saddo ∷ usubo ∷ ssubo ∷ umulo ∷ smulo ∷ sdivo ∷ []) (k - 57) sdivo

pub detector_kind : (k : ℕ) → 57 ≤ k → k ≤ 63 → op_of k ≡ overflow (detector_of k)
detector_kind k h l = at op_of (λ (n : ℕ). overflow (detector_of n)) 7 57 refl k h (omega arith)

-- between the other operators and the detectors stands the mask, and past them
pub mask_between : (k : ℕ) → 54 ≤ k → k < 57 → op_of k ≡ mask
mask_between k h l = at op_of (λ (n : ℕ). mask) 3 54 refl k h (omega arith)

pub mask_past : (k : ℕ) → 63 < k → op_of k ≡ mask
mask_past k h = let l : 53 ≤ k - 11 = omega arith in get_or-eq_default ops mask l
