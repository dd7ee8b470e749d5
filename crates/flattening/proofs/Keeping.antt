-- What the code keeps of a line, put to the lists, tells what the definition keeps of it; and of earlier lines it still does. Assumes nothing.
use Prim.Native.Nat.{ℕ, zero, suc, ◌+◌, ◌*◌, ◌%◌, ◌≤◌, ◌<◌}
use mathlib.Core.Path.{◌≡◌, refl, sym, ap, ap₂, ◌∙◌, subst⁻¹}
use mathlib.Core.Logic.{◌≢◌}
use mathlib.Core.Bool.{Bool, true, false}
use mathlib.Core.List.{List, []}
use native.Mathlib.Omega.{arith}
use native.Mathlib.Decide.{dec_lt}
use lib.Dec.{eqb}
use lib.ListN.{length, get_or, set}
use lib.Seq.{get_or-set_same, get_or-set_other}
use borrow.Author.Tests.{eqb-true, eqb-false}
use Rattle.tables.specs.declared.Note.{Note}
use Rattle.tables.specs.declared.Ty.{Ty}
use Rattle.tables.specs.Pick.{pick}
use Rattle.flattening.specs.declared.Made.{Made}
use Rattle.flattening.specs.Flat.{Info, write_cells}
use Rattle.flattening.specs.Model.Cells.{Held, nothing, old_number, kept_of, at_of, old_of, key_of, written_at, cell_in, Sound, kept_now, keep, SameKept}
use Rattle.flattening.specs.Model.Lines.{Notes, notes}
use Rattle.flattening.proofs.Holding.{cell_own, own_run, cell_new, cell_old, along, SameLine, same_cell}
use Rattle.flattening.proofs.Agreeing.{KnownNote, NoteRel}

-- the list with what is kept of the line n
abbrev pub noted : Notes → ℕ → Made → Notes
noted N n m = notes (keep N.held n m) N.types

-- there is a place for the line n
pub record Holds (N : Notes) (n : ℕ) : Type 0 where
  pub place : n < length N.held

module _ (N : Notes) (n : ℕ) (m : Made) where
  abbrev H : Held
  H = N.held

  abbrev K : Held
  K = (noted N n m).held

  pub kept_other : (k a : ℕ) → a ≢ n → kept_of K k a ≡ kept_of H k a
  kept_other k a d = ap (λ (r : List ℕ). get_or r k 0) (get_or-set_other N.held n a (kept_now N.held n m) nothing d)

  at_other : (a : ℕ) → a ≢ n → at_of K a ≡ at_of H a
  at_other a d = kept_other 0 a d

  old_other : (a : ℕ) → a ≢ n → old_of K a ≡ old_of H a
  old_other a d = kept_other 2 a d

  key_other : (a : ℕ) → a ≢ n → key_of K a ≡ key_of H a
  key_other a d = kept_other 3 a d

  module _ (h : Holds N n) where
    pub kept_new : (k : ℕ) → kept_of K k n ≡ get_or (kept_now N.held n m) k 0
    kept_new k = ap (λ (r : List ℕ). get_or r k 0) (get_or-set_same N.held n (kept_now N.held n m) nothing h.place)

    at_new : at_of K n ≡ m.at
    at_new = kept_new 0

    old_new : old_of K n ≡ old_number m.old
    old_new = kept_new 2

    key_new : key_of K n ≡ m.key
    key_new = kept_new 3

    -- the words stay
    word_same : (i : ℕ) → written_at K i ≡ written_at H i
    word_same i = ap (λ (x : ℕ). x % 131072) (go (eqb i n) refl)
      where
        go : (b : Bool) → eqb i n ≡ b → kept_of K 5 i ≡ kept_of H 5 i
        go true e = let q = eqb-true i n e in ap (kept_of K 5) q ∙ kept_new 5 ∙ ap (kept_of H 5) (sym q)
        go false e = kept_other 5 i (eqb-false i n e)

    line_same : (a j : ℕ) → a ≢ n → SameLine H K j a
    line_same a j d =
        record {
          at = at_other a d;
          old = old_other a d;
          key = key_other a d;
          own =
              (λ i. pick (eqb (key_other a d i) 257) (written_at K (at_other a d i + j)) (at_other a d i + key_other a d i * j))
              ∙ ap (λ (x : ℕ). pick (eqb (key_of H a) 257) x (at_of H a + key_of H a * j)) (word_same (at_of H a + j));
        }

    -- an earlier line's cells are held where they were
    pub frame : Sound H → Sound K → (a j : ℕ) → a < n → cell_in K a j ≡ cell_in H a j
    frame sH sK a j =
        along H sH (λ b. b < n → cell_in K b j ≡ cell_in H b j)
        (λ b f l. same_cell H K sH sK j b (line_same b j (λ e. omega arith)) (λ d. f d (let z = sH.falls b d in omega arith))) a

    -- of another line the same is told; one that is still to come has no cells
    pub note_other : {t : Ty} {f : Info} → Sound H → Sound K → (a : ℕ) → a ≢ n → (n < a → f.cells ≡ []) → NoteRel N t a f → NoteRel (noted N n m) t a f
    note_other {f = f} sH sK a d e r =
        record {
          elem = λ h. at_other a d ∙ r.elem h;
          sort = λ h. old_other a d ∙ r.sort h;
          bit = kept_other 1 a d ∙ r.bit;
          index = r.index;
          cells = λ j l q. by (dec_lt a n) j l q;
          known = subst⁻¹ (λ (c : ℕ). KnownNote f.known c) (kept_other 4 a d) r.known;
        }
      where
        by : Dec (a < n) → (j : ℕ) → j < length f.cells → j < 256 → cell_in K a j ≡ get_or f.cells j 0
        by (yes h) j l q = frame sH sK a j h ∙ r.cells j l q
        by (no h) j l q = absurd (let z : length f.cells ≡ 0 = ap length (e (omega arith)) in omega arith)

    -- where the cells of lines are held stays sound
    pub sound_new : Sound H → (old_number m.old ≢ 0 → old_number m.old < n) → m.at ≤ 65536 → m.key ≤ 256 → Sound K
    sound_new s f l k =
        record {
          falls = λ a. falls_by a (eqb a n) refl;
          low = λ a. low_by a (eqb a n) refl;
          few = λ a. few_by a (eqb a n) refl;
        }
      where
        falls_by : (a : ℕ) (b : Bool) → eqb a n ≡ b → old_of K a ≢ 0 → old_of K a < a
        falls_by a true e z =
            let q = eqb-true a n e in
            let w : old_of K a ≡ old_number m.old = ap (old_of K) q ∙ old_new in
            let y = f (λ x. z (w ∙ x)) in
            omega arith
        falls_by a false e z =
            let w = old_other a (eqb-false a n e) in
            let y = s.falls a (λ x. z (w ∙ x)) in
            omega arith

        low_by : (a : ℕ) (b : Bool) → eqb a n ≡ b → at_of K a ≤ 65536
        low_by a true e = let w : at_of K a ≡ m.at = ap (at_of K) (eqb-true a n e) ∙ at_new in omega arith
        low_by a false e = let w = at_other a (eqb-false a n e) in let y = s.low a in omega arith

        few_by : (a : ℕ) (b : Bool) → eqb a n ≡ b → key_of K a ≤ 257
        few_by a true e = let w : key_of K a ≡ m.key = ap (key_of K) (eqb-true a n e) ∙ key_new in omega arith
        few_by a false e = let w = key_other a (eqb-false a n e) in let y = s.few a in omega arith

    -- the cells of the new line, where it swaps none
    pub cell_step : old_number m.old ≡ 0 → m.key ≤ 256 → (j : ℕ) → cell_in K n j ≡ m.at + m.key * j
    cell_step e k j = cell_own K n j (old_new ∙ e) ∙ own_run K n j (λ z. omega (arith, key_new, z)) ∙ ap₂ (λ (x y : ℕ). x + y * j) at_new key_new

    -- and where it writes over the line a, whose cells are ps
    pub cell_swap : Sound K → Sound H → (a k : ℕ) (ps : List ℕ) → old_number m.old ≡ a → a ≢ 0 → a < n → m.key ≡ k → ((j : ℕ) → j < length ps → cell_in H a j ≡ get_or ps j 0)
        → (j : ℕ) → j < length ps → cell_in K n j ≡ get_or (set ps k m.at) j 0
    cell_swap sK sH a k ps e d l ek c j lj = go (eqb k j) refl
      where
        o : old_of K n ≡ a
        o = old_new ∙ e

        go : (b : Bool) → eqb k j ≡ b → cell_in K n j ≡ get_or (set ps k m.at) j 0
        go true q =
            let z = eqb-true k j q in
            cell_new K sK n j (λ x. d (sym o ∙ x)) (key_new ∙ ek ∙ z) ∙ at_new ∙ sym (ap (λ (i : ℕ). get_or (set ps i m.at) j 0) z ∙ get_or-set_same ps j m.at 0 lj)
        go false q =
            let z = eqb-false k j q in
            cell_old K sK n j (λ x. d (sym o ∙ x)) (λ x. z (sym (key_new ∙ ek) ∙ x)) ∙ ap (λ (i : ℕ). cell_in K i j) o ∙ frame sH sK a j l ∙ c j lj
            ∙ sym (get_or-set_other ps k j m.at 0 (λ x. z (sym x)))

-- a list that tells the same of each line
pub note_same : {H K : Held} {types : List Note} {t : Ty} {f : Info} → SameKept H K → (a : ℕ) → NoteRel (notes H types) t a f → NoteRel (notes K types) t a f
note_same {f = f} s a r =
    record {
      elem = λ e. s.at a (r.sort e) ∙ r.elem e;
      sort = λ e. s.old a (r.sort e);
      bit = s.bit a ∙ r.bit;
      index = r.index;
      cells = λ j l h. s.cells a j h ∙ r.cells j l h;
      known = subst⁻¹ (λ (c : ℕ). KnownNote f.known c) (s.con a) r.known;
    }

-- ---- the flat lines of chains

pub write_cell : (b n j : ℕ) → j < n → get_or (write_cells b n) j 0 ≡ suc (b + 2 * j)
write_cell b zero j l = absurd (omega arith)
write_cell b (suc n) zero l = omega arith
write_cell b (suc n) (suc j) l = write_cell (suc (suc b)) n j (omega arith) ∙ omega arith

pub write_length : (b n : ℕ) → length (write_cells b n) ≡ n
write_length b zero = refl
write_length b (suc n) = ap suc (write_length (suc (suc b)) n)
