-- The last two tests of a line, 22 and 4 again, and its name behind the others. Assumes nothing.
use Rattle.std.specs.Prelude.{Option, Some, None, Result, Ok, Err, is_ok}
use Rattle.tables.proofs.Kept.{no_yes}
use Prim.Native.Nat.{ℕ, ◌+◌, ◌-◌, ◌≤◌, ◌<◌}
use mathlib.Core.Path.{◌≡◌, refl, sym, ap, ap₂, ◌∙◌, subst}
use mathlib.Core.Bool.{Bool, true, false, not}
use mathlib.Core.List.{List, [], ◌∷◌}
use native.Mathlib.Omega.{arith}
use lib.Dec.{ltb}
use borrow.Author.Tests.{lt-ltb, le-ltb, not-true, not-false}
use lib.ListN.{length, take, drop, length-take, length-drop}
use Rattle.tables.specs.declared.Refusal.{Refusal}
use Rattle.tables.specs.declared.Refusal.TheVariants.{NoRecordLeft, NameUsed}
use Rattle.texts.specs.declared.SignedRecord.{SignedRecord}
use Rattle.texts.specs.declared.LineRead.{LineRead}
use Rattle.texts.specs.declared.Part.{Part}
use Rattle.texts.specs.Names.{among, used, with_name}
use Rattle.texts.specs.Minus.{minuses}
use Rattle.texts.specs.Reading.{Reply, skip, no, got}
use Rattle.texts.specs.Model.Chains.{names_in, Chained}
use Rattle.texts.specs.Model.Structs.{signed_reply, line_reply, own_reply, Gives, name_part, name_from, Admitted, Admits}
use Rattle.texts.specs.Model.Stages.{stopped, named, fitted}

-- a name that is there
some_used : (t : List ℕ) (ns : List (List ℕ)) → 0 < length t → (used t ns ≡ among t ns) × (with_name t ns ≡ t ∷ ns)
some_used [] ns h = absurd (omega arith)
some_used (c ∷ t) ns h = (refl, refl)

abbrev entered : (s : List ℕ) (i : ℕ) (p : Part) → List ℕ
entered s i p = take (i + p.to - (i + p.from)) (drop (i + p.from) s)

-- the bytes that are entered are the name's
pub same_part : (s : List ℕ) (i : ℕ) (p : Part) → entered s i p ≡ name_from s i p
same_part s i p = let e : i + p.to - (i + p.from) ≡ p.to - p.from = omega arith in ap (λ (k : ℕ). take k (drop (i + p.from) s)) e

some : (s : List ℕ) (i : ℕ) (p : Part) → p.from < p.to → i + p.to ≤ length s → 0 < length (name_from s i p)
some s i p l o = omega (arith, length-take (p.to - p.from) (drop (i + p.from) s), length-drop (i + p.from) s, l, o)

-- ---- a line that 22 doesn't refuse, and the names behind it

pub record Enters (s w w' : List ℕ) (i : ℕ) (x : LineRead) : Type 0 where
  pub kept : (q : Refusal) → x.own ≡ Err q → w' ≡ w
  pub unused : (o : SignedRecord) → x.own ≡ Ok o → used (name_from s i x.name) (names_in s w) ≡ false
  pub chained : (o : SignedRecord) → x.own ≡ Ok o → Chained s w'
  pub names : (o : SignedRecord) → x.own ≡ Ok o → names_in s w' ≡ with_name (name_from s i x.name) (names_in s w)

module _ {s w w' : List ℕ} {i : ℕ} (x : LineRead) where
  -- no record
  pub enters_none : is_ok x.own ≡ false → w' ≡ w → Enters s w w' i x
  enters_none h k = record { kept = λ q e. k; unused = λ o e. absurd (clash o e); chained = λ o e. absurd (clash o e); names = λ o e. absurd (clash o e) }
    where
      clash : (o : SignedRecord) → x.own ≡ Ok o → ⊥
      clash o e = no_yes (sym h ∙ ap is_ok e)

  -- no name
  pub enters_unnamed : x.name.to ≤ x.name.from → w' ≡ w → Chained s w → Enters s w w' i x
  enters_unnamed l k c =
      let z : x.name.to - x.name.from ≡ 0 = omega arith in
      let none : name_from s i x.name ≡ [] = ap (λ (j : ℕ). take j (drop (i + x.name.from) s)) z in
      record {
        kept = λ q e. k;
        unused = λ o e. ap (λ (t : List ℕ). used t (names_in s w)) none;
        chained = λ o e. subst (Chained s) (sym k) c;
        names = λ o e. ap (names_in s) k ∙ sym (ap (λ (t : List ℕ). with_name t (names_in s w)) none);
      }

  -- a new name
  pub enters_new : is_ok x.own ≡ true → x.name.from < x.name.to → i + x.name.to ≤ length s → {b : Bool} → b ≡ not (among (entered s i x.name) (names_in s w)) → b ≡ true → Chained s w'
      → names_in s w' ≡ entered s i x.name ∷ names_in s w → Enters s w w' i x
  enters_new h l o b u c k =
      let q = same_part s i x.name in
      let y = some_used (name_from s i x.name) (names_in s w) (some s i x.name l o) in
      record {
        kept = λ q e. absurd (no_yes (sym (ap is_ok e) ∙ h));
        unused = λ p e. y.0 ∙ (ap (λ (t : List ℕ). among t (names_in s w)) (sym q) ∙ not-true _ (sym b ∙ u));
        chained = λ p e. c;
        names = λ p e. k ∙ (ap (λ (t : List ℕ). t ∷ names_in s w) q ∙ sym y.1);
      }

pub is_some : (v : Result SignedRecord Refusal) → is_ok v ≡ true → (o : SignedRecord) × (v ≡ Ok o)
is_some (Ok o) h = (o, refl)
is_some (Err q) h = absurd (no_yes h)

-- ---- 4, after n records with room for m

module _ (n m : ℕ) (v : Result SignedRecord Refusal) where
  pub fits_no : (q : Refusal) → v ≡ Err q → no q ≡ fitted n m (signed_reply v)
  unfolding stopped
  fits_no q e = rw e refl

  pub fits_got : (o : SignedRecord) → v ≡ Ok o → n + minuses o.minus < m → got o.rec o.minus ≡ fitted n m (signed_reply v)
  unfolding stopped
  fits_got o e l = rw (e, stopped) (rw (lt-ltb (n + minuses o.minus) m l) refl)

  pub fits_late : (o : SignedRecord) → v ≡ Ok o → m ≤ n + minuses o.minus → no NoRecordLeft ≡ fitted n m (signed_reply v)
  unfolding stopped
  fits_late o e l = rw (e, stopped) (rw (le-ltb (n + minuses o.minus) m l) refl)

-- ---- what is given after both tests

abbrev rec_of : Reply → List ℕ
rec_of skip = []
rec_of (no q) = []
rec_of (got r t) = r

abbrev signs_of : Reply → List Bool
signs_of skip = []
signs_of (no q) = []
signs_of (got r t) = t

refused_none : {q : Refusal} {rec : List ℕ} {t : List Bool} → no q ≡ got rec t → ⊥
refused_none e = let z : ◌≡◌ {A = ℕ} 0 1 = cc in omega arith

abbrev signed : List ℕ → List Bool → Result SignedRecord Refusal
signed r t = Ok (record { rec = r; minus = t })

pub err_none : {q : Refusal} {o : SignedRecord} → ◌≡◌ {A = Result SignedRecord Refusal} (Err q) (Ok o) → ⊥
err_none e = refused_none (ap signed_reply e)

-- a line that gives a record
pub gives_no : {q : Refusal} {x : LineRead} {o : SignedRecord} → Gives (Err q) x o → ⊥
gives_no {q} {x} {o} g = refused_none (ap line_reply g.0 ∙ ap signed_reply g.1)

pub gives_blank : {x : LineRead} {o : SignedRecord} → Gives (Ok None) x o → ⊥
gives_blank {x} {o} g =
    let e : skip ≡ got o.rec o.minus = ap line_reply g.0 ∙ ap signed_reply g.1 in
    let z : ◌≡◌ {A = ℕ} 0 1 = cc in
    omega arith

pub gives_line : {b x : LineRead} {o : SignedRecord} → Gives (Ok (Some b)) x o → (b ≡ x) × (b.own ≡ Ok o)
gives_line {b} {x} {o} g = let e : b ≡ x = line_same b x g.0 in (e, ap (λ (l : LineRead). l.own) e ∙ g.1)
  where
    line_same : (b x : LineRead) → ◌≡◌ {A = Result (Option LineRead) Refusal} (Ok (Some b)) (Ok (Some x)) → b ≡ x
    line_same b x e = cc

-- a record that is left is the line's
stopped_same : (q : Refusal) (test : List Bool → Bool) (v : Result SignedRecord Refusal) (o : SignedRecord) → got o.rec o.minus ≡ stopped q test (signed_reply v) → v ≡ Ok o
unfolding stopped
stopped_same q test (Err p) o e = absurd (refused_none (sym e))
stopped_same q test (Ok p) o e = go (test p.minus) e
  where
    go : (b : Bool) → ◌≡◌ {A = Reply} (got o.rec o.minus) (elim b [ true ↦ no q | false ↦ got p.rec p.minus ]) → ◌≡◌ {A = Result SignedRecord Refusal} (Ok p) (Ok o)
    go true h = absurd (refused_none (sym h))
    go false h = ap₂ (λ (r : List ℕ) (t : List Bool). signed r t) (sym (ap rec_of h)) (sym (ap signs_of h))

module _ {s w w' : List ℕ} {i n m : ℕ} {r : Result (Option LineRead) Refusal} {y : Result (Option (SignedRecord × ℕ)) Refusal} where
  -- a refusal before
  pub admits_no : (q : Refusal) → r ≡ Err q → y ≡ Err q → w' ≡ w → Admits s w w' i n m r y
  unfolding stopped
  admits_no q e f k = record { gives = rw (e, f) refl; kept = λ h. k; admitted = λ z h. absurd (refused_none (sym (ap own_reply f) ∙ ap own_reply h)) }

  -- a blank line
  pub admits_blank : r ≡ Ok None → y ≡ Ok None → w' ≡ w → Admits s w w' i n m r y
  unfolding stopped
  admits_blank e f k = record { gives = rw (e, f) refl; kept = λ h. k; admitted = λ z h. absurd (clash z (sym (ap own_reply f) ∙ ap own_reply h)) }
    where
      clash : (z : SignedRecord × ℕ) → skip ≡ got z.0.rec z.0.minus → ⊥
      clash z e = let z : ◌≡◌ {A = ℕ} 0 1 = cc in omega arith

  module _ (x : LineRead) (e : r ≡ Ok (Some x)) where
    -- a name that stands on an earlier line
    pub admits_used : is_ok x.own ≡ true → x.name.from < x.name.to → i + x.name.to ≤ length s → {b : Bool} → b ≡ not (among (entered s i x.name) (names_in s w)) → b ≡ false → y ≡ Err NameUsed
        → Admits s w w' i n m r y
    unfolding stopped
    admits_used h l o b u f =
        let a = ap (λ (t : List ℕ). among t (names_in s w)) (sym (same_part s i x.name)) ∙ not-false _ (sym b ∙ u) in
        let k : used (name_from s i x.name) (names_in s w) ≡ true = (some_used (name_from s i x.name) (names_in s w) (some s i x.name l o)).0 ∙ a in
        record {
          gives = ap own_reply f ∙ (go x.own h k ∙ sym (ap (λ (q : Result (Option LineRead) Refusal). fitted n m (named (name_from s i (name_part q)) (names_in s w) (line_reply q))) e));
          kept = λ g. absurd (is_given x.own refl h g);
          admitted = λ z g. absurd (refused_none (sym (ap own_reply f) ∙ ap own_reply g));
        }
      where
        go : (v : Result SignedRecord Refusal) → is_ok v ≡ true → used (name_from s i x.name) (names_in s w) ≡ true → no NameUsed ≡ fitted n m (named (name_from s i x.name) (names_in s w) (signed_reply v))
        go (Ok o) h k = rw k refl
        go (Err q) h k = absurd (no_yes h)

        is_given : (v : Result SignedRecord Refusal) → x.own ≡ v → is_ok x.own ≡ true → ((x : LineRead) (o : SignedRecord) → Gives r x o → ⊥) → ⊥
        is_given (Ok o) q h g = g x o (e, q)
        is_given (Err p) q h g = no_yes (sym (ap is_ok q) ∙ h)

module _ {s w w' : List ℕ} {i : ℕ} (n m : ℕ) {r : Result (Option LineRead) Refusal} (y : Result (Option (SignedRecord × ℕ)) Refusal) (x : LineRead) (e : r ≡ Ok (Some x)) where
  module _ (E : Enters s w w' i x) (f : Result SignedRecord Refusal) (ef : signed_reply f ≡ fitted n m (signed_reply x.own)) where
    late : own_reply y ≡ signed_reply f → own_reply y ≡ fitted n m (named (name_from s i (name_part r)) (names_in s w) (line_reply r))
    unfolding stopped
    late h =
        h ∙ (ef ∙ (go x.own refl ∙ sym (ap (λ (q : Result (Option LineRead) Refusal). fitted n m (named (name_from s i (name_part q)) (names_in s w) (line_reply q))) e)))
      where
        go : (v : Result SignedRecord Refusal) → x.own ≡ v → fitted n m (signed_reply v) ≡ fitted n m (named (name_from s i x.name) (names_in s w) (signed_reply v))
        go (Err q) h = refl
        go (Ok o) h = rw (E.unused o h) refl

    is_kept : ((x : LineRead) (o : SignedRecord) → Gives r x o → ⊥) → w' ≡ w
    is_kept g = go x.own refl
      where
        go : (v : Result SignedRecord Refusal) → x.own ≡ v → w' ≡ w
        go (Err q) h = E.kept q h
        go (Ok o) h = absurd (g x o (e, h))

    -- 4
    pub admits_late : (q : Refusal) → f ≡ Err q → y ≡ Err q → Admits s w w' i n m r y
    admits_late q h k = record { gives = late (ap own_reply k ∙ sym (ap signed_reply h)); kept = is_kept; admitted = λ z g. absurd (refused_none (sym (ap own_reply k) ∙ ap own_reply g)) }

    -- the record
    pub admits_got : (o : SignedRecord) → f ≡ Ok o → y ≡ Ok (Some (o, x.id)) → Admits s w w' i n m r y
    admits_got o h k =
        let v : x.own ≡ Ok o = stopped_same NoRecordLeft (λ t. not (ltb (n + minuses t) m)) x.own o (sym (ap signed_reply h) ∙ ef) in
        record {
          gives = late (ap own_reply k ∙ sym (ap signed_reply h));
          kept = is_kept;
          admitted = λ z g. subst (λ (z : SignedRecord × ℕ). Admitted s w w' i r z) (same z (sym k ∙ g)) (record { line = x; own = (e, v); number = refl; chained = E.chained o v; names = E.names o v });
        }
      where
        same : (z : SignedRecord × ℕ) → ◌≡◌ {A = Result (Option (SignedRecord × ℕ)) Refusal} (Ok (Some (o, x.id))) (Ok (Some z)) → (o, x.id) ≡ z
        same z e = cc

-- ---- what is given then

-- a name matters only where there is a record
named_same : (s : List ℕ) (i : ℕ) (name : List ℕ) (ns : List (List ℕ)) (r : Result (Option LineRead) Refusal) → ((x : LineRead) (o : SignedRecord) → Gives r x o → name_from s i x.name ≡ name)
    → named (name_from s i (name_part r)) ns (line_reply r) ≡ named name ns (line_reply r)
unfolding stopped
named_same s i name ns (Err q) h = refl
named_same s i name ns (Ok None) h = refl
named_same s i name ns (Ok (Some x)) h = go x.own refl
  where
    go : (v : Result SignedRecord Refusal) → x.own ≡ v → named (name_from s i x.name) ns (signed_reply x.own) ≡ named name ns (signed_reply x.own)
    go (Err q) e = rw e refl
    go (Ok o) e = ap (λ (t : List ℕ). named t ns (signed_reply x.own)) (h x o (refl, e))

pub admitted_reply : {s w w' : List ℕ} {i n m : ℕ} {r : Result (Option LineRead) Refusal} {y : Result (Option (SignedRecord × ℕ)) Refusal} → Admits s w w' i n m r y
    → (name : List ℕ) (t : Reply) {ns : List (List ℕ)} → names_in s w ≡ ns → line_reply r ≡ t → ((x : LineRead) (o : SignedRecord) → Gives r x o → name_from s i x.name ≡ name)
    → own_reply y ≡ fitted n m (named name ns t)
admitted_reply {s} {w} {w'} {i} {n} {m} {r} A name t {ns} e f h =
    A.gives
    ∙ ap (fitted n m)
    (named_same s i name (names_in s w) r h ∙ (ap (λ (k : List (List ℕ)). named name k (line_reply r)) e ∙ ap (named name ns) f))

-- a line that is blank then was so before
pub stopped_skip : (q : Refusal) (test : List Bool → Bool) (y : Reply) → stopped q test y ≡ skip → y ≡ skip
unfolding stopped
stopped_skip q test skip e = refl
stopped_skip q test (no p) e = let z : ◌≡◌ {A = ℕ} 0 1 = cc in absurd (omega arith)
stopped_skip q test (got rec s) e = go (test s) e
  where
    go : (b : Bool) → ◌≡◌ {A = Reply} (elim b [ true ↦ no q | false ↦ got rec s ]) skip → got rec s ≡ skip
    go true h = let z : ◌≡◌ {A = ℕ} 0 1 = cc in absurd (omega arith)
    go false h = h
