-- The five words that are written are those of one name more.
use Prim.Native.Nat.{ℕ, suc, ◌+◌, ◌-◌, ◌*◌, ◌≤◌, ◌<◌}
use mathlib.Core.Path.{◌≡◌, sym, ap, ◌∙◌}
use mathlib.Core.List.{List}
use native.Mathlib.Omega.{arith}
use lib.ListN.{length, take, drop, get_or, set, length-set}
use lib.Seq.{get_or-set_same, get_or-set_other}
use Rattle.texts.specs.Model.Chains.{hashes, hash_of, count_in, link_of}
use Rattle.texts.proofs.Chains.{Grown, grown_names, grown_chained}
use Rattle.names.proofs.add.Goals as goal

module _ (w : List ℕ) (h a z r : ℕ) (e : r ≡ count_in w) (l : h < hashes) (room : hashes + 4 + 3 * count_in w ≤ length w) where
  abbrev at : ℕ
  at = link_of (r + 1)

  abbrev one : List ℕ
  one = set w at (get_or w h 0)

  abbrev two : List ℕ
  two = set one (at + 1) a

  abbrev three : List ℕ
  three = set two (at + 2) z

  abbrev four : List ℕ
  four = set three h (r + 1)

  abbrev five : List ℕ
  five = set four hashes (r + 1)

  long : length five ≡ length w
  long = simp length-set

  -- behind the hashes
  behind : (x : ℕ) → hashes < x → get_or five x 0 ≡ get_or three x 0
  behind x b = get_or-set_other four hashes x (r + 1) 0 (λ q. omega arith) ∙ get_or-set_other three h x (r + 1) 0 (λ q. omega arith)

  -- before the words of the new name
  apart : (x : ℕ) → x < at → get_or three x 0 ≡ get_or w x 0
  apart x b =
      get_or-set_other two (at + 2) x z 0 (λ q. omega arith)
      ∙ (get_or-set_other one (at + 1) x a 0 (λ q. omega arith) ∙ get_or-set_other w at x (get_or w h 0) 0 (λ q. omega arith))

  at_new : link_of (suc (count_in w)) ≡ at
  at_new = omega arith

  grown : Grown w five h a z
  grown =
      record {
        long = long;
        count = get_or-set_same four hashes (r + 1) 0 (simp length-set (omega arith)) ∙ omega arith;
        head = get_or-set_other four hashes h (r + 1) 0 (λ q. omega arith) ∙ (get_or-set_same three h (r + 1) 0 (simp length-set (omega arith)) ∙ omega arith);
        heads = λ g b d. get_or-set_other four hashes g (r + 1) 0 (λ q. omega arith) ∙ (get_or-set_other three h g (r + 1) 0 d ∙ apart g (omega arith));
        link = ap (λ (x : ℕ). get_or five x 0) at_new
            ∙ (behind at (omega arith)
            ∙ (get_or-set_other two (at + 2) at z 0 (λ q. omega arith)
            ∙ (get_or-set_other one (at + 1) at a 0 (λ q. omega arith) ∙ get_or-set_same w at (get_or w h 0) 0 (omega arith))));
        first = ap (λ (x : ℕ). get_or five (x + 1) 0) at_new
            ∙ (behind (at + 1) (omega arith)
            ∙ (get_or-set_other two (at + 2) (at + 1) z 0 (λ q. omega arith) ∙ get_or-set_same one (at + 1) a 0 (simp length-set (omega arith))));
        last = ap (λ (x : ℕ). get_or five (x + 2) 0) at_new ∙ (behind (at + 2) (omega arith) ∙ get_or-set_same two (at + 2) z 0 (simp length-set (omega arith)));
        kept = λ x b d. behind x b ∙ apart x (omega arith);
      }

pub returns : goal.returns
returns c =
    let s = c.args in
    let p = c.requires in
    let t : List ℕ = s.text.now in
    let w : List ℕ = s.names.now in
    let z : ℕ = s.to - 1 in
    let q : z + 1 - s.from ≡ s.to - s.from = omega arith in
    let g = grown w s.h s.from z c.from-n.result c.from-n.ensures p.4 p.6.1 in
    let v : List ℕ = five w s.h s.from z c.from-n.result c.from-n.ensures p.4 p.6.1 in
    let e : hash_of (take (z + 1 - s.from) (drop s.from t)) ≡ s.h = rw q (sym p.3) in (
      grown_chained t w v s.h s.from z g p.5 e p.4 p.6.1 (omega arith) (omega arith),
      rw (← q) (grown_names t w v s.h s.from z g),
      g.count ∙ omega arith,
    )
