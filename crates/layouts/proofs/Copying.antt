-- Words and records that are carried over, one after the other. Assumes nothing.
use Prim.Native.Nat.{ℕ, zero, suc, ◌+◌, ◌*◌, ◌<◌}
use mathlib.Core.Path.{◌≡◌, sym, ap, ap₂, ◌∙◌, subst}
use mathlib.Core.Bool.{Bool}
use mathlib.Core.List.{List, [], ◌∷◌, ◌++◌}
use native.Mathlib.Omega.{arith}
use native.Mathlib.Numerals.{add-one}
use lib.ListN.{length, get_or, set, replicate}
use Rattle.tables.specs.Layout.{Placing, record_size, held, words_from, set_words, row_by, rows_from, row_set, filled_by}
use Rattle.tables.proofs.Layouts.{Sound}
use Rattle.tables.proofs.Spread.{set_more, length_words_from}
use Rattle.tables.proofs.Putting.{length_rows, rows_more, filled_none, put_filled}

-- ---- the words of a record

words_more : (by : ℕ → ℕ) (t : List ℕ) (i m : ℕ) → words_from by t i (suc m) ≡ words_from by t i m ++ (get_or t (by (i + m)) 0 ∷ [])
words_more by t i zero = let q : i ≡ i + 0 = omega arith in ap (λ (k : ℕ). get_or t (by k) 0 ∷ []) q
words_more by t i (suc m) =
    let q : suc i + m ≡ i + suc m = omega arith in
    ap (λ (l : List ℕ). get_or t (by i) 0 ∷ l) (words_more by t (suc i) m ∙ ap (λ (k : ℕ). words_from by t (suc i) m ++ (get_or t (by k) 0 ∷ [])) q)

-- the first j + 1 of them
pub copy_next : (from to : ℕ → ℕ) (list t : List ℕ) (j : ℕ)
    → set (set_words to t 0 (words_from from list 0 j)) (to j) (get_or list (from j) 0) ≡ set_words to t 0 (words_from from list 0 (j + 1))
copy_next from to list t j =
    let xs : List ℕ = words_from from list 0 j in
    let q : j ≡ 0 + length xs = omega (arith, length_words_from from list 0 j) in
    let z : j ≡ 0 + j = omega arith in
    ap₂ (λ (k l : ℕ). set (set_words to t 0 xs) (to k) (get_or list (from l) 0)) q z
    ∙ (set_more to t 0 xs (get_or list (from (0 + j)) 0) ∙ ap (set_words to t 0) (sym (words_more from list 0 j) ∙ ap (words_from from list 0) (sym (add-one j))))

-- ---- by strides: the word j of the record i stands at s * j + r * i

abbrev pub Strided : Placing → (len s r : ℕ) → Type 0
Strided f len s r = (i j : ℕ) → s * j + r * i ≡ f len i j

pub stride_inside : {p : Bool} {f : Placing} → Sound p f → (len s r m i : ℕ) → Strided f len s r → m ≡ record_size p → i < held p len → (j : ℕ) → j < m → s * j + r * i < len
stride_inside {p} so len s r m i q e h j a = subst (λ (k : ℕ). k < len) (sym (q i j)) (so.inside len i j h (subst (λ (k : ℕ). j < k) e a))

-- a record is carried over
pub copy_record : (f g : Placing) (list t : List ℕ) (s r z y m w i : ℕ) → Strided f (length list) s r → Strided g (length t) z y → m ≡ w
    → set_words (λ (j : ℕ). z * j + y * i) t 0 (words_from (λ (j : ℕ). s * j + r * i) list 0 m) ≡ row_set g t i (row_by f w list i)
copy_record f g list t s r z y m w i a b e = λ k. set_words (λ (j : ℕ). b i j k) t 0 (words_from (λ (j : ℕ). a i j k) list 0 (e k))

-- ---- records one after the other

pub carry_next : (f g : Placing) (len w : ℕ) (list : List ℕ) (i : ℕ) → row_set g (filled_by g len (rows_from f w list 0 i)) i (row_by f w list i) ≡ filled_by g len (rows_from f w list 0 (i + 1))
carry_next f g len w list i =
    put_filled g len (rows_from f w list 0 i) i (row_by f w list i ∷ []) (sym (length_rows f w list 0 i))
    ∙ ap (filled_by g len) (sym (rows_more f w list i) ∙ ap (rows_from f w list 0) (sym (add-one i)))

pub carry_none : (g : Placing) (t : List ℕ) → t ≡ replicate (length t) 0 → t ≡ filled_by g (length t) []
carry_none g t e = e ∙ sym (filled_none g (length t))
