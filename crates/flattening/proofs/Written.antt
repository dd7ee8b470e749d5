-- Cells written out: neither other words nor a line's cells written out change what is told of any line. Assumes nothing.
use Prim.Native.Nat.{ℕ, zero, suc, ◌+◌, ◌*◌, ◌%◌, ◌≤◌, ◌<◌}
use mathlib.Core.Path.{◌≡◌, refl, sym, ap, ◌∙◌, subst⁻¹}
use mathlib.Core.Logic.{◌≢◌}
use mathlib.Core.Bool.{Bool, true, false}
use mathlib.Core.List.{List, []}
use native.Mathlib.Omega.{arith}
use native.Mathlib.Decide.{dec_lt}
use lib.Dec.{eqb}
use lib.ListN.{length, get_or, set, length-set, get_or-eq_default}
use lib.Seq.{get_or-set_same, get_or-set_other}
use borrow.Author.Tests.{eqb-true, eqb-false}
use Rattle.tables.specs.Pick.{pick}
use Rattle.flattening.specs.declared.Made.{Made}
use Rattle.flattening.specs.Model.Cells.{Held, old_number, con_number, kept_numbers, nothing, kept_of, at_of, bit_of, old_of, key_of, con_of, written_at, own_cell, cell_in, Sound, keep, put_word, put_row, Written, FromWord, SameKept, Shortened, Filled}
use Rattle.flattening.proofs.Holding.{cell_own, own_row, cell_lt, along, SameLine, same_cell, nothing_at, read_kept}

-- a line that writes over another has its place
pub place_of_lem : (H : Held) (m : ℕ) → old_of H m ≢ 0 → m < length H
place_of_lem H m d = go (dec_lt m (length H))
  where
    go : Dec (m < length H) → m < length H
    go (yes l) = l
    go (no l) = absurd (d (ap (λ (r : List ℕ). get_or r 2 0) (get_or-eq_default H nothing {n = m} (omega arith)) ∙ nothing_at 2))

-- ---- lists that differ in words alone

module _ {H K : Held} {u : ℕ} (f : FromWord H K u) (s : Sound H) (w : Written H u) where
  sound_from : Sound K
  sound_from =
      record {
        falls = λ a d. let e = f.own 2 a (omega arith) in let z = s.falls a (λ x. d (e ∙ x)) in omega arith;
        low = λ a. let e = f.own 0 a (omega arith) in let z = s.low a in omega arith;
        few = λ a. let e = f.own 3 a (omega arith) in let z = s.few a in omega arith;
      }

  line_from_lem : (j a : ℕ) → j < 256 → SameLine H K j a
  line_from_lem j a h =
      let at = f.own 0 a (omega arith) in
      let key = f.own 3 a (omega arith) in
      record {
        at = at;
        old = f.own 2 a (omega arith);
        key = key;
        own = (λ i. pick (eqb (key i) 257) (written_at K (at i + j)) (at i + key i * j)) ∙ go (eqb (key_of H a) 257) refl;
      }
    where
      go : (b : Bool) → eqb (key_of H a) 257 ≡ b → pick (eqb (key_of H a) 257) (written_at K (at_of H a + j)) (at_of H a + key_of H a * j) ≡ own_cell H a j
      go true e = ap (λ (x : ℕ). pick (eqb (key_of H a) 257) x (at_of H a + key_of H a * j)) (f.word (at_of H a + j) (let z = w.below a (eqb-true (key_of H a) 257 e) in omega arith))
      go false e = rw e

  pub same_from : SameKept H K
  same_from =
      record {
        len = f.len;
        bit = λ a. f.own 1 a (omega arith);
        con = λ a. f.own 4 a (omega arith);
        old = λ a e. f.own 2 a (omega arith) ∙ e;
        at = λ a e. f.own 0 a (omega arith);
        cells = λ a j h. along H s (λ b. cell_in K b j ≡ cell_in H b j) (λ b r. same_cell H K s sound_from j b (line_from_lem j b h) r) a;
      }

  pub short_from : Shortened H K u
  short_from =
      record {
        same = same_from;
        sound = sound_from;
        written =
            record {
              within = let e = f.len in let z = w.within in omega arith;
              most = let e = f.len in let z = w.most in omega arith;
              below = λ a e. let k = f.own 0 a (omega arith) in let z = w.below a (sym (f.own 3 a (omega arith)) ∙ e) in omega arith;
            };
      }

pub from_none : {H : Held} {u : ℕ} → FromWord H H u
from_none = record { len = refl; own = λ k a h. refl; word = λ i h. refl }

pub short_none : {H : Held} {u : ℕ} → Sound H → Written H u → Shortened H H u
short_none s w = short_from from_none s w

-- ---- one word

module _ (H : Held) (i v : ℕ) (h : i < length H) where
  put_this : (k : ℕ) → kept_of (put_word H i v) k i ≡ get_or (kept_numbers (kept_of H 0 i) (kept_of H 1 i) (kept_of H 2 i) (kept_of H 3 i) (kept_of H 4 i) v) k 0
  put_this k = ap (λ (r : List ℕ). get_or r k 0) (get_or-set_same H i (kept_numbers (kept_of H 0 i) (kept_of H 1 i) (kept_of H 2 i) (kept_of H 3 i) (kept_of H 4 i) v) nothing h)

  put_other : (k a : ℕ) → a ≢ i → kept_of (put_word H i v) k a ≡ kept_of H k a
  put_other k a d = ap (λ (r : List ℕ). get_or r k 0) (get_or-set_other H i a (kept_numbers (kept_of H 0 i) (kept_of H 1 i) (kept_of H 2 i) (kept_of H 3 i) (kept_of H 4 i) v) nothing d)

  five : (w k : ℕ) → k < 5 → get_or (kept_numbers (kept_of H 0 i) (kept_of H 1 i) (kept_of H 2 i) (kept_of H 3 i) (kept_of H 4 i) w) k 0 ≡ kept_of H k i
  five w zero l = refl
  five w (suc zero) l = refl
  five w (suc (suc zero)) l = refl
  five w (suc (suc (suc zero))) l = refl
  five w (suc (suc (suc (suc zero)))) l = refl
  five w (suc (suc (suc (suc (suc k))))) l = absurd (omega arith)

  own_put : (k a : ℕ) → k < 5 → kept_of (put_word H i v) k a ≡ kept_of H k a
  own_put k a l = go (eqb a i) refl
    where
      go : (b : Bool) → eqb a i ≡ b → kept_of (put_word H i v) k a ≡ kept_of H k a
      go true e = let q = eqb-true a i e in ap (kept_of (put_word H i v) k) q ∙ put_this k ∙ five v k l ∙ ap (kept_of H k) (sym q)
      go false e = put_other k a (eqb-false a i e)

  len_put : length (put_word H i v) ≡ length H
  len_put = length-set H i (kept_numbers (kept_of H 0 i) (kept_of H 1 i) (kept_of H 2 i) (kept_of H 3 i) (kept_of H 4 i) v)

  pub word_this : written_at (put_word H i v) i ≡ v % 131072
  word_this = ap (λ (x : ℕ). x % 131072) (put_this 5)

  pub word_other : (a : ℕ) → a ≢ i → written_at (put_word H i v) a ≡ written_at H a
  word_other a d = ap (λ (x : ℕ). x % 131072) (put_other 5 a d)

  -- a word from u on
  pub put_from : {G : Held} {u : ℕ} → FromWord G H u → u ≤ i → FromWord G (put_word H i v) u
  put_from f l =
      record {
        len = len_put ∙ f.len;
        own = λ k a z. own_put k a z ∙ f.own k a z;
        word = λ a z. word_other a (λ e. omega arith) ∙ f.word a z;
      }

  -- a word that tells what it told
  pub put_same : v % 131072 ≡ written_at H i → (u : ℕ) → FromWord H (put_word H i v) u
  put_same e u = record { len = len_put; own = own_put; word = λ a z. go a (eqb a i) refl }
    where
      go : (a : ℕ) (b : Bool) → eqb a i ≡ b → written_at (put_word H i v) a ≡ written_at H a
      go a true q = let z = eqb-true a i q in ap (written_at (put_word H i v)) z ∙ word_this ∙ e ∙ ap (written_at H) (sym z)
      go a false q = word_other a (eqb-false a i q)

-- a word that tells what it told, with another number above it
pub short_word : {H : Held} {u : ℕ} → Sound H → Written H u → (i : ℕ) → i < length H → (q w : ℕ) → w ≡ written_at H i → Shortened H (put_word H i (q * 131072 + w)) u
short_word {H} {u} s w i h q x e = short_from (put_same H i (q * 131072 + x) h (let z : (q * 131072 + x) % 131072 ≡ x = omega arith in z ∙ e) u) s w

-- as the code reads the other numbers
pub put_read : (H : Held) (i v : ℕ) → i < length H
    → set H i (kept_numbers (get_or (get_or H i []) 0 0) (get_or (get_or H i []) 1 0) (get_or (get_or H i []) 2 0) (get_or (get_or H i []) 3 0) (get_or (get_or H i []) 4 0) v) ≡ put_word H i v
put_read H i v h z = set H i (kept_numbers (read_kept H 0 i h z) (read_kept H 1 i h z) (read_kept H 2 i h z) (read_kept H 3 i h z) (read_kept H 4 i h z) v)

pub row_read : (H : Held) (m u : ℕ) → m < length H
    → set H m (kept_numbers u (get_or (get_or H m []) 1 0) 0 257 (get_or (get_or H m []) 4 0) (get_or (get_or H m []) 5 0)) ≡ put_row H m u
row_read H m u h z = set H m (kept_numbers u (read_kept H 1 m h z) 0 257 (read_kept H 4 m h z) (read_kept H 5 m h z))

pub keep_read : (H : Held) (n : ℕ) (m : Made) → n < length H → set H n (kept_numbers m.at m.bit (old_number m.old) m.key (con_number m.con) (get_or (get_or H n []) 5 0)) ≡ keep H n m
keep_read H n m h z = set H n (kept_numbers m.at m.bit (old_number m.old) m.key (con_number m.con) (read_kept H 5 n h z))

-- ---- the cells of one line

module _ (H : Held) (m u : ℕ) (s : Sound H) (w : Written H u) (d : old_of H m ≢ 0) (room : u + 256 ≤ length H) where
  abbrev K : Held
  K = put_row H m u

  row_this : (k : ℕ) → kept_of K k m ≡ get_or (kept_numbers u (kept_of H 1 m) 0 257 (kept_of H 4 m) (kept_of H 5 m)) k 0
  row_this k = ap (λ (r : List ℕ). get_or r k 0) (get_or-set_same H m (kept_numbers u (kept_of H 1 m) 0 257 (kept_of H 4 m) (kept_of H 5 m)) nothing (place_of_lem H m d))

  row_other : (k a : ℕ) → a ≢ m → kept_of K k a ≡ kept_of H k a
  row_other k a e = ap (λ (r : List ℕ). get_or r k 0) (get_or-set_other H m a (kept_numbers u (kept_of H 1 m) 0 257 (kept_of H 4 m) (kept_of H 5 m)) nothing e)

  -- what holds of the line m and of any other line
  each : (P : ℕ → Type 0) → P m → ((a : ℕ) → a ≢ m → P a) → (a : ℕ) → P a
  each P p q a = go (eqb a m) refl
    where
      go : (b : Bool) → eqb a m ≡ b → P a
      go true e = subst⁻¹ P (eqb-true a m e) p
      go false e = q a (eqb-false a m e)

  len_row : length K ≡ length H
  len_row = length-set H m (kept_numbers u (kept_of H 1 m) 0 257 (kept_of H 4 m) (kept_of H 5 m))

  word_row : (a : ℕ) → written_at K a ≡ written_at H a
  word_row = each (λ a. written_at K a ≡ written_at H a) (ap (λ (x : ℕ). x % 131072) (row_this 5)) (λ a e. ap (λ (x : ℕ). x % 131072) (row_other 5 a e))

  sound_row : Sound K
  sound_row =
      record {
        falls = each (λ a. old_of K a ≢ 0 → old_of K a < a) (λ z. absurd (z (row_this 2))) (λ a e z. let q = row_other 2 a e in let f = s.falls a (λ x. z (q ∙ x)) in omega arith);
        low = each (λ a. at_of K a ≤ 65536) (let q = row_this 0 in let l = w.most in omega arith) (λ a e. let q = row_other 0 a e in let l = s.low a in omega arith);
        few = each (λ a. key_of K a ≤ 257) (let q = row_this 3 in omega arith) (λ a e. let q = row_other 3 a e in let l = s.few a in omega arith);
      }

  line_row : (j a : ℕ) → a ≢ m → SameLine H K j a
  line_row j a e =
      let at = row_other 0 a e in
      let key = row_other 3 a e in
      record {
        at = at;
        old = row_other 2 a e;
        key = key;
        own =
            (λ i. pick (eqb (key i) 257) (written_at K (at i + j)) (at i + key i * j))
            ∙ ap (λ (x : ℕ). pick (eqb (key_of H a) 257) x (at_of H a + key_of H a * j)) (word_row (at_of H a + j));
      }

  pub short_row : ((j : ℕ) → j < 256 → written_at H (u + j) ≡ cell_in H m j) → Shortened H K (u + 256)
  short_row c =
      record {
        same =
            record {
              len = len_row;
              bit = each (λ a. bit_of K a ≡ bit_of H a) (row_this 1) (row_other 1);
              con = each (λ a. con_of K a ≡ con_of H a) (row_this 4) (row_other 4);
              old = each (λ a. old_of H a ≡ 0 → old_of K a ≡ 0) (λ z. absurd (d z)) (λ a e z. row_other 2 a e ∙ z);
              at = each (λ a. old_of H a ≡ 0 → at_of K a ≡ at_of H a) (λ z. absurd (d z)) (λ a e z. row_other 0 a e);
              cells = λ a j h. along H s (λ b. cell_in K b j ≡ cell_in H b j) (λ b. by j h b) a;
            };
        sound = sound_row;
        written =
            record {
              within = let e = len_row in omega arith;
              most = let e = len_row in let z = w.most in omega arith;
              below = each (λ a. key_of K a ≡ 257 → at_of K a + 256 ≤ u + 256) (λ z. let q = row_this 0 in omega arith) (λ a e z. let q = row_other 0 a e in let l = w.below a (sym (row_other 3 a e) ∙ z) in omega arith);
            };
      }
    where
      this : (j : ℕ) → j < 256 → cell_in K m j ≡ cell_in H m j
      this j h = cell_own K m j (row_this 2) ∙ own_row K m j (row_this 3) ∙ ap (λ (x : ℕ). written_at K (x + j)) (row_this 0) ∙ word_row (u + j) ∙ c j h

      by : (j : ℕ) → j < 256 → (b : ℕ) → (old_of H b ≢ 0 → cell_in K (old_of H b) j ≡ cell_in H (old_of H b) j) → cell_in K b j ≡ cell_in H b j
      by j h = each (λ b. (old_of H b ≢ 0 → cell_in K (old_of H b) j ≡ cell_in H (old_of H b) j) → cell_in K b j ≡ cell_in H b j) (λ r. this j h) (λ b e r. same_cell H K s sound_row j b (line_row j b e) r)

-- ---- one after the other

pub short_trans : {G H K : Held} {u v : ℕ} → Shortened G H u → Shortened H K v → Shortened G K v
short_trans x y =
    let f = x.same in
    let g = y.same in
    record {
      same =
          record {
            len = g.len ∙ f.len;
            bit = λ a. g.bit a ∙ f.bit a;
            con = λ a. g.con a ∙ f.con a;
            old = λ a e. g.old a (f.old a e);
            at = λ a e. g.at a (f.old a e) ∙ f.at a e;
            cells = λ a j h. g.cells a j h ∙ f.cells a j h;
          };
      sound = y.sound;
      written = y.written;
    }

-- ---- writing the cells out

module _ {H K : Held} {m u n : ℕ} (s : Sound H) (w : Written H u) (h : n < 256) (room : u + n < length H) where
  pub filling : Filled H K m u n → Sound K
  filling f = (short_from f.from s w).sound

  -- the number of a word that tells a cell
  pub filled : Filled H K m u n → (q c : ℕ) → c ≡ cell_in K m n → Filled H (put_word K (u + n) (q * 131072 + c)) m u (n + 1)
  filled f q c e =
      let l : u + n < length K = (let z = f.from.len in omega arith) in
      let v = q * 131072 + c in
      let y : c ≡ cell_in H m n = e ∙ (same_from f.from s w).cells m n h in
      let x = cell_lt H s m n h in
      record {
        from = put_from K (u + n) v l f.from (omega arith);
        word = λ j z. go v l (let z₁ : v % 131072 ≡ c = omega arith in z₁ ∙ y) j z (dec_lt j n);
      }
    where
      go : (v : ℕ) → u + n < length K → v % 131072 ≡ cell_in H m n → (j : ℕ) → j < n + 1 → Dec (j < n) → written_at (put_word K (u + n) v) (u + j) ≡ cell_in H m j
      go v l y j z (yes b) = word_other K (u + n) v l (u + j) (λ e. omega arith) ∙ f.word j b
      go v l y j z (no b) =
          let e : j ≡ n = omega arith in
          ap (λ (x : ℕ). written_at (put_word K (u + n) v) (u + x)) e ∙ word_this K (u + n) v l ∙ y ∙ ap (cell_in H m) (sym e)

-- written out
pub short_filled : {H K : Held} {m u : ℕ} → Sound H → Written H u → old_of H m ≢ 0 → u + 256 ≤ length H → Filled H K m u 256 → Shortened H (put_row K m u) (u + 256)
short_filled {H} {K} {m} {u} s w d room f =
    let g = short_from f.from s w in
    let r : u + 256 ≤ length K = (let z = f.from.len in omega arith) in
    short_trans g (short_row K m u g.sound g.written (λ z. d (sym (f.from.own 2 m (omega arith)) ∙ z)) r (λ j h. f.word j h ∙ sym (g.same.cells m j h)))
