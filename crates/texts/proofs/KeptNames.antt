-- The names so far are those that the list chains, and it has room for the names to come. Assumes nothing.
use Prim.Native.Nat.{ℕ, zero, suc, ◌+◌, ◌-◌, ◌*◌, ◌≤◌, ◌<◌, min}
use mathlib.Core.Path.{◌≡◌, refl, sym, ap, ◌∙◌, subst}
use mathlib.Core.List.{List, [], ◌∷◌}
use native.Mathlib.Omega.{arith}
use lib.ListN.{length, take, drop, replicate, length-replicate, length-take, length-drop}
use Rattle.texts.specs.declared.LineRead.{LineRead}
use Rattle.texts.specs.Split.{tokens}
use Rattle.texts.specs.Names.{with_name}
use Rattle.texts.specs.Reading.{line_name}
use Rattle.texts.specs.Model.Chains.{hashes, count_in, names_up_to, names_in, Chained, Ample, HasRoom}
use Rattle.texts.specs.Model.Structs.{Labelled, name_from}
use Rattle.texts.proofs.Chains.{chained_none, names_none, more_room}
use Rattle.texts.proofs.Named.{part_of}
use Rattle.texts.proofs.NamedLines.{named_bytes}
use Rattle.texts.proofs.Admitting.{same_part}

-- before the place i of the text s the names are ns
pub record KeptNames (s w : List ℕ) (i : ℕ) (ns : List (List ℕ)) : Type 0 where
  pub chained : Chained s w
  pub are : names_in s w ≡ ns
  pub few : i < length s → 8 * length ns ≤ i
  pub ample : Ample s w

-- a list of m zeros
pub clear_names : (m : ℕ) (s : List ℕ) → 8 * (hashes + 1) + 3 * (length s + 1) ≤ 8 * m → (replicate {A = ℕ} m 0 ≡ replicate {A = ℕ} (length (replicate {A = ℕ} m 0)) 0) × Ample s (replicate {A = ℕ} m 0)
clear_names m s h = let e = length-replicate {A = ℕ} m 0 in (ap (λ (n : ℕ). replicate {A = ℕ} n 0) (sym e), omega (arith, e))

pub no_names : {s w : List ℕ} → w ≡ replicate (length w) 0 → Ample s w → KeptNames s w 0 []
no_names {s} {w} z a =
    let l : hashes + 1 ≤ length w = omega arith in
    record { chained = chained_none s w z l; are = names_none s w z l; few = λ h. omega arith; ample = a }

names_count : (s w : List ℕ) (n : ℕ) → length (names_up_to s w n) ≡ n
names_count s w zero = refl
names_count s w (suc n) = ap suc (names_count s w n)

module _ {s w : List ℕ} {i : ℕ} {ns : List (List ℕ)} (K : KeptNames s w i ns) (on : i < length s) where
  -- behind a line that gives no record
  pub names_skip : (i' : ℕ) → i ≤ i' → KeptNames s w i' ns
  names_skip i' h = record { chained = K.chained; are = K.are; few = λ l. omega (arith, K.few on); ample = K.ample }

  -- the line from i to z without its comment, which ends at f
  module _ (z f i' : ℕ) (from : i ≤ z) (to : z ≤ f) (most : f ≤ length s) (next : i' ≡ min (f + 1) (length s)) (r : LineRead) (L : Labelled (take (z - i) (drop i s)) r) where
    pub line_name_lem : name_from s i r.name ≡ line_name (tokens (take (z - i) (drop i s)))
    line_name_lem = sym (same_part s i r.name) ∙ (part_of s i z r.name.from r.name.to from (omega arith) L.within ∙ L.name)

    long : length (take (z - i) (drop i s)) ≡ z - i
    long = length-take (z - i) (drop i s) ∙ omega (arith, length-drop i s)

    pub name_ends : i + r.name.to ≤ length s
    name_ends = omega (arith, L.within, long)

    name_long : 0 < length (name_from s i r.name) → i + 7 ≤ z
    name_long h = omega (arith, named_bytes (take (z - i) (drop i s)) (subst (λ (x : List ℕ). 0 < length x) line_name_lem h), long, on)

    -- its name can be entered
    pub name_room : length s ≤ 65536 → r.name.from < r.name.to → HasRoom w
    name_room h l =
        let k : count_in w ≡ length ns = sym (names_count s w (count_in w)) ∙ ap length K.are in
        let o = name_long (omega (arith, length-take (r.name.to - r.name.from) (drop (i + r.name.from) s), length-drop (i + r.name.from) s, l, name_ends)) in
        more_room w (count_in w) (omega arith) (omega (arith, k, K.few on, o)) (omega (arith, k, K.few on, o, K.ample))

    -- and behind it
    pub names_more : (w' : List ℕ) → Chained s w' → length w' ≡ length w → names_in s w' ≡ with_name (name_from s i r.name) (names_in s w)
        → KeptNames s w' i' (with_name (line_name (tokens (take (z - i) (drop i s)))) ns)
    names_more w' c l e =
        subst (λ (x : List ℕ). KeptNames s w' i' (with_name x ns)) line_name_lem
        (record {
          chained = c;
          are = e ∙ ap (with_name (name_from s i r.name)) K.are;
          few = λ h. counted (name_from s i r.name) (λ o. name_long o) h;
          ample = omega (arith, K.ample, l);
        })
      where
        counted : (name : List ℕ) → (0 < length name → i + 7 ≤ z) → i' < length s → 8 * length (with_name name ns) ≤ i'
        counted [] o h = omega (arith, K.few on)
        counted (x ∷ t) o h = omega (arith, K.few on, o (omega arith))
