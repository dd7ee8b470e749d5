-- Two lists whose records are the same in all words, each by its own layout, are accepted alike. Assumes nothing.
use Rattle.std.specs.Prelude.{Ok, Err}
use Prim.Native.Nat.{ℕ, zero, suc, ◌≤◌}
use mathlib.Core.Path.{◌≡◌, refl, sym, ap, ap₂, ◌∙◌}
use mathlib.Core.Bool.{Bool, true, false, ◌&&◌}
use mathlib.Core.List.{List, ◌∷◌, map}
use native.Mathlib.Omega.{arith}
use lib.Dec.{leb}
use lib.ListN.{length, get_or, take}
use Rattle.tables.specs.declared.Refusal.TheVariants.{NotATable}
use Rattle.tables.specs.Pick.{pick}
use Rattle.tables.specs.Layout.{Placing, record_words, record_size, whole, room, words_from, rows_from}
use Rattle.tables.specs.Ids.{right_ids, ids_right_by}
use Rattle.tables.specs.Types.{no_ctx}
use Rattle.tables.specs.Tables.{lawful, broken, checked_by}
use Rattle.tables.proofs.Layouts.{words_in}
use Rattle.tables.proofs.Ids.{id_in, ids_rows}

take_words : (at : ℕ → ℕ) (t : List ℕ) (j m w : ℕ) → m ≤ w → take m (words_from at t j w) ≡ words_from at t j m
take_words at t j zero w h = refl
take_words at t j (suc m) zero h = absurd (omega arith)
take_words at t j (suc m) (suc w) h = ap (λ (l : List ℕ). get_or t (at j) 0 ∷ l) (take_words at t (suc j) m w (omega arith))

first_words : (f : Placing) (t : List ℕ) (m w i n : ℕ) → m ≤ w → map (take m) (rows_from f w t i n) ≡ rows_from f m t i n
first_words f t m w i zero h = refl
first_words f t m w i (suc n) h = ap₂ (λ (x : List ℕ) (xs : List (List ℕ)). x ∷ xs) (take_words (f (length t) i) t 0 m w h) (first_words f t m w (suc i) n h)

module _ (f g : Placing) (p : Bool) (t u : List ℕ) (n : ℕ) (e : rows_from f (record_size p) t 0 n ≡ rows_from g (record_size p) u 0 n) where
  records_alike : rows_from f record_words t 0 n ≡ rows_from g record_words u 0 n
  records_alike =
      sym (first_words f t record_words (record_size p) 0 n (words_in p)) ∙ (ap (map (take record_words)) e ∙ first_words g u record_words (record_size p) 0 n (words_in p))

ids_alike : (f g : Placing) (p : Bool) (t u : List ℕ) (n : ℕ) → rows_from f (record_size p) t 0 n ≡ rows_from g (record_size p) u 0 n → ids_right_by f p t n ≡ ids_right_by g p u n
ids_alike f g true t u n e = refl
ids_alike f g false t u n e = ap₂ right_ids (records_alike f g false t u n e) (ids_rows f t 0 n ∙ (ap (map id_in) e ∙ sym (ids_rows g u 0 n)))

pub check_alike : (f g : Placing) (p : Bool) (t u : List ℕ) (n : ℕ) → whole p (length t) ≡ whole p (length u) → leb n (room p (length t)) ≡ leb n (room p (length u))
    → rows_from f (record_size p) t 0 n ≡ rows_from g (record_size p) u 0 n → checked_by f p t n ≡ checked_by g p u n
check_alike f g p t u n a b e = λ k.
    pick (a k)
    (pick (b k && (lawful p no_ctx (records_alike f g p t u n e k) && ids_alike f g p t u n e k)) (Ok tt) (Err (broken p)))
    (Err NotATable)
