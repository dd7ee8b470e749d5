-- The decimal digits of a number are a token whose number it is. Assumes nothing.
use Prim.Native.Nat.{ℕ, zero, suc, ◌+◌, ◌*◌, ◌/◌, ◌%◌, ◌^◌, ◌≤◌, ◌<◌}
use mathlib.Core.Path.{◌≡◌, refl, sym, ap, ◌∙◌}
use mathlib.Core.Bool.{Bool, true, false, ◌&&◌}
use mathlib.Core.List.{List, [], ◌∷◌, ◌++◌}
use native.Mathlib.Omega.{arith}
use lib.Dec.{eqb, ltb}
use borrow.Author.Tests.{ne_eqb, le-leb, lt-ltb, ltb-true, ltb-false}
use Rattle.std.specs.Prelude.{Ok}
use Rattle.texts.specs.Decimal.{digit, all_in, value_from, plain, valued, scanned, decimal, digits_f, digits}
use Rattle.texts.proofs.Splitting.{CleanByte, Clean, Tok, clean_append}

pub digit_of : (d : ℕ) → d < 10 → digit (48 + d) ≡ d
unfolding digit
digit_of d h = rw (le-leb 48 (48 + d) (omega arith), le-leb (48 + d) 57 (omega arith), digit) (omega arith)

pub all_in_append : (b : ℕ) (s t : List ℕ) → all_in b s ≡ true → all_in b t ≡ true → all_in b (s ++ t) ≡ true
unfolding all_in
all_in_append b [] t h k = k
all_in_append b (c ∷ s) t h k = step (ltb (digit c) b) h (λ e. all_in_append b s t e k)
  where
    step : (q : Bool) → (q && all_in b s) ≡ true → (all_in b s ≡ true → all_in b (s ++ t) ≡ true) → (q && all_in b (s ++ t)) ≡ true
    step true e f = f e
    step false e f = e

pub value_append : (b v : ℕ) (s : List ℕ) (c : ℕ) → value_from b v (s ++ (c ∷ [])) ≡ value_from b v s * b + digit c
unfolding value_from
value_append b v [] c = refl
value_append b v (x ∷ s) c = value_append b (v * b + digit x) s c

-- ---- what holds of the digits of n, by the number of steps

abbrev Lead : List ℕ → Type 0
Lead [] = ⊥
Lead (c ∷ t) = eqb c 48 ≡ false

lead_append : (s t : List ℕ) → Lead s → Lead (s ++ t)
lead_append [] t h = absurd h
lead_append (c ∷ s) t h = h

plain_lead : (s : List ℕ) → Lead s → plain s ≡ true
plain_lead [] h = absurd h
plain_lead (c ∷ []) h = refl
plain_lead (c ∷ d ∷ t) h = rw h refl

record Digits (n : ℕ) (t : List ℕ) : Type 0 where
  all : all_in 10 t ≡ true
  value : value_from 10 0 t ≡ n
  clean : Clean t
  lead : 0 < n → Lead t
  plain : plain t ≡ true

clean_digit : (d : ℕ) → d < 10 → CleanByte (48 + d)
clean_digit d h =
    record {
      feed = ne_eqb (48 + d) 10 (λ e. omega arith);
      space = ne_eqb (48 + d) 32 (λ e. omega arith);
      comment = ne_eqb (48 + d) 59 (λ e. omega arith);
    }

one_in : (d : ℕ) → d < 10 → all_in 10 ((48 + d) ∷ []) ≡ true
unfolding all_in
one_in d h = rw (digit_of d h, lt-ltb d 10 h) refl

one_value : (d : ℕ) → d < 10 → value_from 10 0 ((48 + d) ∷ []) ≡ d
unfolding value_from
one_value d h = rw (digit_of d h) (omega arith)

digits_f_ok : (f n : ℕ) → n < f → Digits n (digits_f f n)
unfolding digits_f
digits_f_ok zero n h = absurd (omega arith)
digits_f_ok (suc f) n h = go (ltb n 10) refl (λ l. digits_f_ok f (n / 10) (omega arith))
  where
    go : (q : Bool) → ltb n 10 ≡ q → (10 ≤ n → Digits (n / 10) (digits_f f (n / 10))) → Digits n (elim q [ true ↦ (48 + n) ∷ [] | false ↦ digits_f f (n / 10) ++ ((48 + n % 10) ∷ []) ])
    go true e r =
        let l : n < 10 = ltb-true n 10 e in
        record {
          all = one_in n l;
          value = one_value n l;
          clean = (clean_digit n l, tt);
          lead = λ p. ne_eqb (48 + n) 48 (λ z. omega arith);
          plain = refl;
        }
    go false e r =
        let l : 10 ≤ n = ltb-false n 10 e in
        let i = r l in
        let m : n % 10 < 10 = omega arith in
        let d : Lead (digits_f f (n / 10) ++ ((48 + n % 10) ∷ [])) = lead_append (digits_f f (n / 10)) _ (i.lead (omega arith)) in
        record {
          all = all_in_append 10 (digits_f f (n / 10)) _ i.all (one_in (n % 10) m);
          value = value_append 10 0 (digits_f f (n / 10)) (48 + n % 10) ∙ rw (i.value, digit_of (n % 10) m) (omega arith);
          clean = clean_append (digits_f f (n / 10)) _ i.clean (clean_digit (n % 10) m, tt);
          lead = λ p. d;
          plain = plain_lead (digits_f f (n / 10) ++ ((48 + n % 10) ∷ [])) d;
        }

tok_of : (t : List ℕ) → Clean t → plain t ≡ true → Tok t
tok_of [] h p = let z : ◌≡◌ {A = Bool} true false = sym p in absurd (differ z)
  where
    differ : ◌≡◌ {A = Bool} true false → ⊥
    differ e = let z : ◌≡◌ {A = ℕ} 0 1 = cc in omega arith
tok_of (c ∷ t) h p = h

pub digits_tok : (n : ℕ) → Tok (digits n)
unfolding digits
digits_tok n = let d = digits_f_ok (suc n) n (omega arith) in tok_of (digits_f (suc n) n) d.clean d.plain

pub decimal_is : (t : List ℕ) (v : ℕ) → plain t ≡ true → all_in 10 t ≡ true → value_from 10 0 t ≡ v → v < 2 ^ 64 → decimal t ≡ Ok v
unfolding decimal scanned valued
decimal_is t v p a e h = rw (p, decimal) (rw (a, scanned) (rw (e, lt-ltb v (2 ^ 64) h, valued) (ap Ok e)))

pub decimal_digits : (n : ℕ) → n < 2 ^ 64 → decimal (digits n) ≡ Ok n
unfolding digits
decimal_digits n h =
    let d = digits_f_ok (suc n) n (omega arith) in
    decimal_is (digits_f (suc n) n) n d.plain d.all d.value h
