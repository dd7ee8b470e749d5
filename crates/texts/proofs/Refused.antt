-- A refusal of reading has a number of 1 to 10, or 22, and its line is one of the text's. Assumes nothing.
use Prim.Native.Nat.{ℕ, suc, ◌+◌, ◌≤◌, ◌<◌}
use mathlib.Core.Path.{◌≡◌, refl, sym, ◌∙◌, subst}
use mathlib.Core.Bool.{Bool, true, false}
use mathlib.Core.List.{List, [], ◌∷◌}
use mathlib.Core.Logic.{◌⊎◌, inl, inr}
use native.Mathlib.Omega.{arith}
use lib.Dec.{eqb, leb, lit≤}
use lib.ListN.{length}
use borrow.Author.Tests.{leb-true, leb-false}
use Rattle.tables.specs.declared.Ty.{Ty}
use Rattle.tables.specs.declared.Refusal.{Refusal}
use Rattle.tables.specs.declared.Refusal.TheVariants.{NotATable, TextTooLong}
use Rattle.tables.specs.Refusals.{number_of}
use Rattle.tables.specs.Layout.{whole, room}
use Rattle.tables.specs.Types.{ty_at, given}
use Rattle.texts.specs.Split.{glue, split}
use Rattle.texts.specs.Reading.{form_of, behind, word_in, signs_in, record_in, refusals, Reply, skip, no, got, lowest, line_tokens, read_line, refused, Sofar, no_lines, with_line, read_lines_by, reply_after, read_lines, read_text}
use Rattle.texts.proofs.Lowest.{holds, passes}
use Rattle.texts.proofs.Reached.{step_got, step_skip, step_no, text_1, text_2, text_lines}

-- ---- the number

-- 1 to 10, or 22
abbrev pub OfReading : (k : ℕ) → Type 0
OfReading k = (k ≤ 10) ⊎ (k ≡ 22)

abbrev AllOfReading : List (Refusal × Bool) → Type 0
AllOfReading [] = Unit {0}
AllOfReading (x ∷ xs) = OfReading (number_of x.0) × AllOfReading xs

lowest_no : (xs : List (Refusal × Bool)) (rec : List ℕ) (s : List Bool) (r : Refusal) → AllOfReading xs → lowest xs (got rec s) ≡ no r → OfReading (number_of r)
unfolding lowest
lowest_no [] rec s r h e = let w : ◌≡◌ {A = ℕ} 0 1 = cc in absurd (omega arith)
lowest_no (x ∷ xs) rec s r h e = go x.1 refl (lowest_no xs rec s r h.1)
  where
    go : (b : Bool) → x.1 ≡ b → (lowest xs (got rec s) ≡ no r → OfReading (number_of r)) → OfReading (number_of r)
    go true q f =
        let z : no x.0 ≡ no r = sym (holds x.0 x.1 xs (got rec s) q) ∙ e in
        let w : x.0 ≡ r = cc in
        subst (λ (y : Refusal). OfReading (number_of y)) w h.0
    go false q f = f (sym (passes x.0 x.1 xs (got rec s) q) ∙ e)

line_no : (L : ℕ → Ty) (G : Bool → ℕ → Bool) (m : ℕ) (ds : List ℕ) (ns ts : List (List ℕ)) (r : Refusal) → read_line L G m ds ns ts ≡ no r → OfReading (number_of r)
unfolding read_line
line_no L G m ds ns [] r e = let w : ◌≡◌ {A = ℕ} 0 1 = cc in absurd (omega arith)
line_no L G m ds ns (t ∷ ts) r e =
    lowest_no (refusals L G m ds ns t (form_of (word_in ts)) (behind (word_in ts))) (record_in L ds (form_of (word_in ts)) (behind (word_in ts))) (signs_in (form_of (word_in ts)) (behind (word_in ts))) r
    (inl (lit≤ tt), (inl (lit≤ tt), (inl (lit≤ tt), (inl (lit≤ tt), (inl (lit≤ tt), (inl (lit≤ tt), (inl (lit≤ tt), (inl (lit≤ tt), (inr refl, (inl (lit≤ tt), tt)))))))))) e

-- ---- the line

split_lines : (b : ℕ) (s : List ℕ) → length (split b s) ≤ length s + 1
unfolding split
split_lines b [] = omega arith
split_lines b (c ∷ s) = go (eqb c b) (split b s) (split_lines b s)
  where
    glued : (ls : List (List ℕ)) → length (glue c ls) ≤ length ls + 1
    glued [] = omega arith
    glued (l ∷ ls) = omega arith

    go : (q : Bool) (ls : List (List ℕ)) → length ls ≤ length s + 1 → length {A = List ℕ} (elim q [ true ↦ [] ∷ ls | false ↦ glue c ls ]) ≤ length (c ∷ s) + 1
    go true ls h = omega arith
    go false ls h = omega (arith, glued ls)

lines_no : (m l : ℕ) (b : Sofar) (xs : List (List ℕ)) (r : Refusal) (k : ℕ) → read_lines m l b xs ≡ refused r k → OfReading (number_of r) × (k < l + length xs)
unfolding read_lines_by
lines_no m l b [] r k e = let w : ◌≡◌ {A = ℕ} 0 1 = cc in absurd (omega arith)
lines_no m l b (x ∷ xs) r k e = go (reply_after m b (line_tokens x)) refl (lines_no m (suc l) b xs r k) (λ q s. lines_no m (suc l) (with_line b (line_tokens x) q s) xs r k)
  where
    on : OfReading (number_of r) × (k < suc l + length xs) → OfReading (number_of r) × (k < l + length (x ∷ xs))
    on h = (h.0, omega (arith, h.1))

    go : (y : Reply) → reply_after m b (line_tokens x) ≡ y → (read_lines m (suc l) b xs ≡ refused r k → OfReading (number_of r) × (k < suc l + length xs))
        → ((q : List ℕ) (s : List Bool) → read_lines m (suc l) (with_line b (line_tokens x) q s) xs ≡ refused r k → OfReading (number_of r) × (k < suc l + length xs))
        → OfReading (number_of r) × (k < l + length (x ∷ xs))
    go skip h f g = on (f (sym (step_skip m l b x xs h) ∙ e))
    go (got q s) h f g = on (g q s (sym (step_got m l b x xs q s h) ∙ e))
    go (no q) h f g =
        let z : refused q l ≡ refused r k = sym (step_no m l b x xs q h) ∙ e in
        let w : q ≡ r = cc in
        let v : l ≡ k = cc in
        (subst (λ (y : Refusal). OfReading (number_of y)) w (line_no (ty_at b.ctx) (given b.ctx) m b.ids b.names (line_tokens x) q h), omega arith)

-- a text has at most 65,537 lines where reading looks at them
pub text_no : (len : ℕ) (s : List ℕ) (r : Refusal) (l : ℕ) → read_text len s ≡ refused r l → OfReading (number_of r) × (l ≤ 65537)
text_no len s r l e = go (whole false len) (leb (length s) 65536) refl refl
  where
    is : (q : Refusal) → number_of q ≤ 10 → read_text len s ≡ refused q 0 → OfReading (number_of r) × (l ≤ 65537)
    is q h f =
        let z : refused q 0 ≡ refused r l = sym f ∙ e in
        let w : q ≡ r = cc in
        let v : 0 ≡ l = cc in
        (inl (subst (λ (y : Refusal). number_of y ≤ 10) w h), omega arith)

    go : (a b : Bool) → whole false len ≡ a → leb (length s) 65536 ≡ b → OfReading (number_of r) × (l ≤ 65537)
    go false b h k = is NotATable (lit≤ tt) (text_1 len s h)
    go true false h k = is TextTooLong (lit≤ tt) (text_2 len s h (leb-false (length s) 65536 k))
    go true true h k =
        let j = leb-true (length s) 65536 k in
        let x = lines_no (room false len) 1 no_lines (split 10 s) r l (sym (text_lines len s h j) ∙ e) in
        (x.0, omega (arith, x.1, split_lines 10 s))
