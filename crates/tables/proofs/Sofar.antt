-- Where the check of a table's records stands after i of them: the answer from the start is the answer from here, and the notes hold the context. Assumes nothing.
use Prim.Native.Nat.{ℕ, suc, ◌+◌, ◌≤◌, ◌<◌}
use mathlib.Core.Path.{◌≡◌, refl, sym, ap, ap₂, ◌∙◌, subst}
use mathlib.Core.Bool.{Bool, true, false, ◌&&◌}
use mathlib.Core.List.{List, [], map}
use native.Mathlib.Omega.{arith}
use lib.ListN.{length, get_or, take, drop}
use lib.Seq.{take-length, drop-length}
use Rattle.tables.specs.declared.Note.{Note}
use Rattle.tables.specs.declared.Ty.{Ty}
use Rattle.tables.specs.Lines.{line_of}
use Rattle.tables.specs.Layout.{record_at, records_of, lines_of}
use Rattle.tables.specs.Types.{Ctx, ty_at, given, grow, grow_all, no_ctx, context}
use Rattle.tables.specs.Tables.{keeps, lawful}
use Rattle.tables.specs.Model.Notes.{look_in, given_in, Shows, noted}
use Rattle.tables.proofs.Places.{length_records, record_at_lem, length_record}
use Rattle.tables.proofs.Contexts.{after, after_suc, lawful_step}
use Rattle.tables.proofs.Showing.{length_noted, shows_more, length_more}

pub record Sofar (p : Bool) (t : List ℕ) (n i : ℕ) (notes : List Note) : Type 0 where
  pub most : i ≤ n
  pub answer : lawful p no_ctx (records_of p t n) ≡ lawful p (after p (records_of p t n) i) (drop i (records_of p t n))
  pub shows : Shows notes (after p (records_of p t n) i)
  pub ample : n < length notes
  pub lines : length (after p (records_of p t n) i).tys ≡ suc i

pub begun : {p : Bool} {t : List ℕ} {n : ℕ} {notes : List Note} → n < length notes → Shows notes no_ctx → Sofar p t n 0 notes
begun a s = record { most = omega arith; answer = refl; shows = s; ample = a; lines = refl }

module _ {p : Bool} {t : List ℕ} {n i : ℕ} {notes : List Note} (S : Sofar p t n i notes) (l : i < n) where
  inside : i < length (records_of p t n)
  inside = omega (arith, length_records p t n)

  this : get_or (records_of p t n) i [] ≡ record_at p t i
  this = record_at_lem p t n i l

  -- the record as the lists judge it
  judged : keeps p (look_in notes) (given_in notes) (record_at p t i) ≡ keeps p (ty_at (after p (records_of p t n) i)) (given (after p (records_of p t n) i)) (record_at p t i)
  judged =
      ap₂ (λ (L : ℕ → Ty) (G : Bool → ℕ → Bool). keeps p L G (record_at p t i)) (λ j a. S.shows.types a j) (λ j m q. S.shows.flags m q j)

  step : lawful p no_ctx (records_of p t n)
      ≡ (keeps p (look_in notes) (given_in notes) (record_at p t i) && lawful p (grow p (after p (records_of p t n) i) (line_of (record_at p t i))) (drop (suc i) (records_of p t n)))
  step =
      S.answer ∙ lawful_step p (records_of p t n) i (after p (records_of p t n) i) inside
      ∙ ap (λ (r : List ℕ). keeps p (ty_at (after p (records_of p t n) i)) (given (after p (records_of p t n) i)) r && lawful p (grow p (after p (records_of p t n) i) (line_of r)) (drop (suc i) (records_of p t n))) this
      ∙ ap (λ (b : Bool). b && lawful p (grow p (after p (records_of p t n) i) (line_of (record_at p t i))) (drop (suc i) (records_of p t n))) (sym judged)

  -- the record at hand is r
  pub stopped : {r : List ℕ} → r ≡ record_at p t i → keeps p (look_in notes) (given_in notes) r ≡ false → false ≡ lawful p no_ctx (records_of p t n)
  stopped er f =
      let e : keeps p (look_in notes) (given_in notes) (record_at p t i) ≡ false = subst (λ (x : List ℕ). keeps p (look_in notes) (given_in notes) x ≡ false) er f in
      sym (step ∙ rw e refl)

  module _ {r : List ℕ} {notes₁ : List Note} (er : r ≡ record_at p t i) (er-keeps : keeps p (look_in notes) (given_in notes) r ≡ true) (er-noted : notes₁ ≡ noted p r (i + 1) notes) where
    e : keeps p (look_in notes) (given_in notes) (record_at p t i) ≡ true
    e = subst (λ (x : List ℕ). keeps p (look_in notes) (given_in notes) x ≡ true) er er-keeps

    nt : notes₁ ≡ noted p (record_at p t i) (i + 1) notes
    nt = er-noted ∙ ap (λ (x : List ℕ). noted p x (i + 1) notes) er

    next : after p (records_of p t n) (i + 1) ≡ grow p (after p (records_of p t n) i) (line_of (record_at p t i))
    next =
        let q : i + 1 ≡ suc i = omega arith in
        ap (after p (records_of p t n)) q ∙ after_suc p (records_of p t n) i inside ∙ ap (λ (r : List ℕ). grow p (after p (records_of p t n) i) (line_of r)) this

    pub further : Sofar p t n (i + 1) notes₁
    further =
        let q : suc i ≡ i + 1 = omega arith in
        let lr = length_record p t i in
        let ln : length (after p (records_of p t n) i).tys ≡ i + 1 = S.lines ∙ q in
        let kp : keeps p (ty_at (after p (records_of p t n) i)) (given (after p (records_of p t n) i)) (record_at p t i) ≡ true = sym judged ∙ e in
        let am = S.ample in
        record {
          most = omega arith;
          answer = step ∙ rw e (ap₂ (λ (x : Ctx) (m : ℕ). lawful p x (drop m (records_of p t n))) (sym next) q);
          shows = subst (λ (x : List Note). Shows x (after p (records_of p t n) (i + 1))) (sym nt)
              (subst (λ (x : Ctx). Shows (noted p (record_at p t i) (i + 1) notes) x) (sym next) (shows_more p (record_at p t i) S.shows ln (omega arith) lr kp));
          ample = subst (λ (m : ℕ). n < m) (sym (ap length nt ∙ length_noted p (record_at p t i) (i + 1) notes)) am;
          lines = ap (λ (x : Ctx). length x.tys) next ∙ length_more p (record_at p t i) S.shows ln (omega arith) lr kp;
        }

module _ {p : Bool} {t : List ℕ} {n i : ℕ} {notes : List Note} (S : Sofar p t n i notes) (l : n ≤ i) where
  done : i ≡ length (records_of p t n)
  done = omega (arith, length_records p t n, S.most)

  pub all_lawful : true ≡ lawful p no_ctx (records_of p t n)
  all_lawful =
      sym (S.answer ∙ ap (lawful p (after p (records_of p t n) i)) (ap (λ (m : ℕ). drop m (records_of p t n)) done ∙ drop-length (records_of p t n)))

  pub all_shown : Shows notes (context p (lines_of p t n))
  unfolding context
  all_shown =
      subst (λ (rs : List (List ℕ)). Shows notes (grow_all p no_ctx (map line_of rs)))
      (ap (λ (m : ℕ). take m (records_of p t n)) done ∙ take-length (records_of p t n)) S.shows
