-- The instruction numbers of a program's lines rise, and a state has had an init or a next in the program just where it has had one in the circuit. Assumes nothing.
use Prim.Native.Nat.{ℕ, zero, suc, ◌≤◌, ◌<◌}
use mathlib.Core.Path.{◌≡◌, refl, sym, ap, ap₂, ◌∙◌, subst, subst⁻¹}
use mathlib.Core.Bool.{Bool, true, false, ◌||◌}
use mathlib.Core.List.{List, [], ◌∷◌, ◌++◌}
use native.Mathlib.Nat.{le_trans}
use native.Mathlib.Omega.{arith}
use lib.Dec.{eqb}
use lib.Seq.{get_or_at}
use borrow.Author.Tests.{eq-eqb, ne_eqb, eqb-true, eqb-false}
use Rattle.tables.specs.declared.Ty.{Ty}
use Rattle.tables.specs.Pick.{pick, among, alike}
use Rattle.tables.specs.Lines.{Line, init_or_next}
use Rattle.tables.specs.Types.{rank, ty_at, given, given_by, no_ctx}
use Rattle.tables.proofs.Showing.{by_place, among_snoc, earlier}
use Rattle.circuits.specs.Layout.{Layout, type_at, line_type_in, lay, no_layout}
use Rattle.programs.specs.declared.Known.{Known}
use Rattle.programs.specs.Translation.{none_known, operand_number}
use Rattle.programs.proofs.Lists.{below_snoc}
use Rattle.programs.proofs.Grew.{lines, line_more, grew_line, new_type}
use Rattle.programs.proofs.Laid.{Laid}

pub record Once (Y Z : Layout) (J : List Known) : Type 0 where
  pub rising : (i j : ℕ) → 2 ≤ rank (type_at Y i).role → 2 ≤ rank (type_at Y j).role → i < j → operand_number J i < operand_number J j
  pub done_y : (m : Bool) (q : ℕ) → lines Y ≤ q → given Y.ctx m q ≡ false
  pub done_z : (m : Bool) (n : ℕ) → lines Z ≤ n → given Z.ctx m n ≡ false
  pub same : (m : Bool) (q : ℕ) → rank (type_at Y q).role ≡ 4 → given Z.ctx m (operand_number J q) ≡ given Y.ctx m q

pub once_start : Once no_layout no_layout (none_known ∷ [])
once_start = record { rising = λ i j h k l. absurd (none i h); done_y = λ m q h. empty m q; done_z = λ m q h. empty m q; same = λ m q e. absurd (none q (omega arith)) }
  where
    none : (a : ℕ) → 2 ≤ rank (ty_at no_ctx a).role → ⊥
    none zero h = omega arith
    none (suc a) h = omega arith

    empty : (m : Bool) (q : ℕ) → given no_ctx m q ≡ false
    empty true q = refl
    empty false q = refl

module _ {Y Z : Layout} {J : List Known} (v : Laid Y Z J) (o : Once Y Z J) (l : Line) (f : Known) where
  -- an earlier line, and the line itself
  pub old_type : (i : ℕ) → i < lines Y → type_at (lay false Y l) i ≡ type_at Y i
  old_type i h = (grew_line false v.even_y l).types i h

  pub old_number : (i : ℕ) → i < lines Y → operand_number (J ++ (f ∷ [])) i ≡ operand_number J i
  old_number i h = ap (λ (x : Known). x.number) (below_snoc J f none_known i (omega (arith, v.known)))

  pub new_number : operand_number (J ++ (f ∷ [])) (lines Y) ≡ f.number
  new_number = ap (λ (x : Known). x.number) (get_or_at J f [] none_known (lines Y) v.known)

  -- a number of the new circuit is an earlier line's or the new one's
  cases : {P : Type 0} (i : ℕ) → 1 ≤ rank (type_at (lay false Y l) i).role → (i < lines Y → P) → (i ≡ lines Y → P) → P
  cases i h a b =
      let k : i < lines (lay false Y l) = earlier (lay false Y l).ctx.tys i h in
      by_place i (lines Y) b (λ n. a (omega (arith, line_more false v.even_y l)))

  module _ (num : 2 ≤ rank (line_type_in false Y l).role → lines Z ≤ f.number) where
    new_value : (i : ℕ) → i ≡ lines Y → 2 ≤ rank (type_at (lay false Y l) i).role → lines Z ≤ operand_number (J ++ (f ∷ [])) i
    new_value i e h = subst⁻¹ (λ (x : ℕ). lines Z ≤ operand_number (J ++ (f ∷ [])) x) e (subst⁻¹ (λ (x : ℕ). lines Z ≤ x) new_number (num (subst (λ (t : Ty). 2 ≤ rank t.role) (new_type false v.even_y l i e) h)))

    rises : (i j : ℕ) → 2 ≤ rank (type_at (lay false Y l) i).role → 2 ≤ rank (type_at (lay false Y l) j).role → i < j → operand_number (J ++ (f ∷ [])) i < operand_number (J ++ (f ∷ [])) j
    rises i j hi hj h =
        cases i (omega arith)
        (λ li.
        let ti : 2 ≤ rank (type_at Y i).role = subst (λ (t : Ty). 2 ≤ rank t.role) (old_type i li) hi in
        let ni = old_number i li in
        cases j (omega arith)
        (λ lj. omega (arith, ni, old_number j lj, o.rising i j ti (subst (λ (t : Ty). 2 ≤ rank t.role) (old_type j lj) hj) h))
        (λ ej. omega (arith, ni, ((v.rel i).value ti).inb, new_value j ej hj)))
        (λ ei. cases j (omega arith) (λ lj. absurd (omega arith)) (λ ej. absurd (omega arith)))

    -- a line that is no init and no next
    pub once_quiet : {Z' : Layout} → ((m : Bool) → given_by m (lay false Y l).ctx ≡ given_by m Y.ctx) → ((m : Bool) → given_by m Z'.ctx ≡ given_by m Z.ctx) → lines Z ≤ lines Z'
        → Once (lay false Y l) Z' (J ++ (f ∷ []))
    once_quiet gy gz longer =
        record {
          rising = rises;
          done_y = λ m q h. ap (among q) (gy m) ∙ o.done_y m q (omega (arith, line_more false v.even_y l));
          done_z = λ m n h. ap (among n) (gz m) ∙ o.done_z m n (le_trans longer h);
          same = λ m q e. ap (among (operand_number (J ++ (f ∷ [])) q)) (gz m) ∙ cases q (omega arith) (kept m q e) (fresh m q e) ∙ sym (ap (among q) (gy m));
        }
      where
        kept : (m : Bool) (q : ℕ) → rank (type_at (lay false Y l) q).role ≡ 4 → q < lines Y → given Z.ctx m (operand_number (J ++ (f ∷ [])) q) ≡ given Y.ctx m q
        kept m q e h = ap (given Z.ctx m) (old_number q h) ∙ o.same m q (ap (λ (t : Ty). rank t.role) (sym (old_type q h)) ∙ e)

        fresh : (m : Bool) (q : ℕ) → rank (type_at (lay false Y l) q).role ≡ 4 → q ≡ lines Y → given Z.ctx m (operand_number (J ++ (f ∷ [])) q) ≡ given Y.ctx m q
        fresh m q e h = o.done_z m _ (new_value q h (omega arith)) ∙ sym (o.done_y m q (omega arith))

-- an init or a next of the state q adds it
gave : (p : Bool) (Y : Layout) (k m : Bool) (s q a : ℕ) → given_by k (lay p Y (init_or_next m s q a)).ctx ≡ pick (alike k m) (given_by k Y.ctx ++ (q ∷ [])) (given_by k Y.ctx)
gave p Y true m s q a = refl
gave p Y false m s q a = refl

module _ {Y Z : Layout} {J : List Known} (v : Laid Y Z J) (o : Once Y Z J) (m : Bool) (s q a : ℕ) (w x : ℕ) (is : rank (type_at Y q).role ≡ 4) where
  abbrev here : Line
  here = init_or_next m s q a

  abbrev there : Line
  there = init_or_next m w (operand_number J q) x

  value : 2 ≤ rank (type_at Y q).role
  value = omega arith

  early : q < lines Y
  early = earlier Y.ctx.tys q (omega arith)

  -- numbers tell states apart
  apart : (i : ℕ) → 2 ≤ rank (type_at Y i).role → eqb (operand_number J i) (operand_number J q) ≡ eqb i q
  apart i h = go (eqb i q) refl
    where
      go : (t : Bool) → eqb i q ≡ t → eqb (operand_number J i) (operand_number J q) ≡ t
      go true e = eq-eqb (operand_number J i) (operand_number J q) (ap (operand_number J) (eqb-true i q e))
      go false e =
          let n : (i ≡ q → ⊥) = eqb-false i q e in
          ne_eqb (operand_number J i) (operand_number J q) (λ z. by_order i q n (λ l. omega (arith, o.rising i q h value l)) (λ l. omega (arith, o.rising q i value h l)))
        where
          by_order : (i q : ℕ) → (i ≡ q → ⊥) → (i < q → ⊥) → (q < i → ⊥) → ⊥
          by_order i q n a b = omega arith

  -- what has been given, after a line that gives n the flag k: for lists of either side
  after : (k : Bool) (xs : List ℕ) (n i : ℕ) → among i (pick k (xs ++ (n ∷ [])) xs) ≡ pick k (among i xs || eqb i n) (among i xs)
  after true xs n i = among_snoc i xs n
  after false xs n i = refl

  none : (k : Bool) → pick k (false || false) false ≡ false
  none true = refl
  none false = refl

  pub once_init_next : Once (lay false Y here) (lay true Z there) (J ++ (none_known ∷ []))
  once_init_next =
      record {
        rising = λ i j hi hj h. rises v o here none_known (λ z. absurd (omega arith)) i j hi hj h;
        done_y = λ k n h. ap (among n) (gave false Y k m s q a) ∙ done k n (given_by k Y.ctx) q (o.done_y k n (omega (arith, line_more false v.even_y here))) (omega (arith, line_more false v.even_y here, early));
        done_z = λ k n h. ap (among n) (gave true Z k m w (operand_number J q) x) ∙ done k n (given_by k Z.ctx) (operand_number J q) (o.done_z k n (omega (arith, line_more true v.even_z there))) (omega (arith, line_more true v.even_z there, ((v.rel q).value value).inb));
        same = λ k i e. ap (among (operand_number (J ++ (none_known ∷ [])) i)) (gave true Z k m w (operand_number J q) x) ∙ same_given k i (cases v o here none_known i (omega arith) (λ h. h) (λ z. absurd (omega (arith, ap (λ (t : Ty). rank t.role) (new_type false v.even_y here i z))))) e ∙ sym (ap (among i) (gave false Y k m s q a));
      }
    where
      done : (k : Bool) (n : ℕ) (xs : List ℕ) (i : ℕ) → among n xs ≡ false → i < n → among n (pick (alike k m) (xs ++ (i ∷ [])) xs) ≡ false
      done k n xs i e h = after (alike k m) xs i n ∙ ap₂ (λ (b c : Bool). pick (alike k m) (b || c) b) e (ne_eqb n i (λ z. omega arith)) ∙ none (alike k m)

      same_given : (k : Bool) (i : ℕ) → i < lines Y → rank (type_at (lay false Y here) i).role ≡ 4
          → among (operand_number (J ++ (none_known ∷ [])) i) (pick (alike k m) (given_by k Z.ctx ++ (operand_number J q ∷ [])) (given_by k Z.ctx))
          ≡ among i (pick (alike k m) (given_by k Y.ctx ++ (q ∷ [])) (given_by k Y.ctx))
      same_given k i h e =
          let c : rank (type_at Y i).role ≡ 4 = ap (λ (t : Ty). rank t.role) (sym (old_type v o here none_known i h)) ∙ e in
          ap (λ (n : ℕ). among n (pick (alike k m) (given_by k Z.ctx ++ (operand_number J q ∷ [])) (given_by k Z.ctx))) (old_number v o here none_known i h)
          ∙ after (alike k m) (given_by k Z.ctx) (operand_number J q) (operand_number J i)
          ∙ ap₂ (λ (b d : Bool). pick (alike k m) (b || d) b) (o.same k i c) (apart i (omega arith))
          ∙ sym (after (alike k m) (given_by k Y.ctx) q i)
