-- The second pass: after i records the list K holds what is known of their lines, and the instructions so far with those ahead are the program's. Assumes nothing.
use Rattle.std.specs.Prelude.{Ok}
use Prim.Native.Nat.{ℕ, ◌+◌, ◌*◌, ◌≤◌, ◌<◌}
use mathlib.Core.Path.{◌≡◌, refl, sym, ap, ◌∙◌, subst, subst⁻¹}
use mathlib.Core.Bool.{Bool, false}
use mathlib.Core.List.{List, [], ◌∷◌, ◌++◌, append_assoc, append-nil}
use native.Mathlib.Omega.{arith}
use lib.ListN.{length, drop, length-append}
use Rattle.tables.specs.Lines.{Line, words_of, kind_in}
use Rattle.tables.specs.Layout.{record_at, lines_of}
use Rattle.tables.specs.Tables.{checked}
use Rattle.programs.specs.Uses.{has_needing_use}
use Rattle.programs.specs.declared.Known.{Known}
use Rattle.programs.specs.Translation.{none_known, operand_width, operand_number, loose_of, instructions_of, translate_from, translate}
use Rattle.programs.specs.Answers.{program_of}
use Rattle.programs.specs.Model.Kinds.{mark_at}
use Rattle.programs.specs.Model.Records.{emitted, Taken}
use Rattle.programs.specs.Model.Passes.{Zeroed, Prepared}
use Rattle.programs.proofs.Modelled.{Agrees, agrees}
use Rattle.programs.proofs.Keeping.{Keeps, keeps_start, keeps_more, line_at, few_here, no_line, few_emitted}

pub record Walk (z : ℕ) (t : List ℕ) (n i b : ℕ) (K : List Known) : Type 0 where
  pub J : List Known
  pub wide : n < z
  pub keeps : Keeps z J K
  pub known : length J ≡ i + 1
  pub most : i ≤ n
  pub least : 1 ≤ b
  pub few : b ≤ 2 * i + 1
  -- the instructions so far
  pub out : List Line
  pub place : length out + 1 ≡ b
  pub all : out ++ translate_from (has_needing_use (lines_of false t n)) J b (drop i (lines_of false t n)) ≡ program_of t n

pub walk_start : (t : List ℕ) (n : ℕ) {K : List Known} → Zeroed n K → Walk (length K) t n 0 1 K
unfolding translate
walk_start t n {K} f =
    let k = subst⁻¹ (Keeps (length K) (none_known ∷ [])) f.none (keeps_start (length K)) in
    record { J = none_known ∷ []; wide = f.wide; keeps = k; known = refl; most = omega arith; least = omega arith; few = omega arith; out = []; place = refl; all = refl }

pub start_out : (t : List ℕ) (n : ℕ) {K : List Known} (f : Zeroed n K) → (walk_start t n f).out ≡ []
unfolding walk_start
start_out t n f = refl

module _ {z : ℕ} {t : List ℕ} {n i b : ℕ} {K : List Known} (S : Walk z t n i b K) (e : checked false t n ≡ Ok tt) where
  abbrev N : ℕ → Bool
  N = has_needing_use (lines_of false t n)

  -- the line at hand, as the code finds it
  module _ (l : i < n) (nd : Bool) (en : nd ≡ N (i + 1)) where
    pub at_hand : Agrees (operand_width K) (operand_number K) (loose_of K) nd b (record_at false t i) (instructions_of N S.J b (line_at t n i e l).line)
    at_hand =
        let x = line_at t n i e l in
        let a = agrees N S.J b S.keeps.none x.line x.kinded in
        let p : (nd ≡ N (length S.J)) = en ∙ ap N (sym S.known) in
        subst (λ (r : List ℕ). Agrees (operand_width K) (operand_number K) (loose_of K) nd b r (instructions_of N S.J b x.line)) x.words
        (subst⁻¹ (λ (d : Bool). Agrees (operand_width K) (operand_number K) (loose_of K) d b (words_of x.line) (instructions_of N S.J b x.line)) p
        (subst⁻¹ (λ (F : ℕ → Known). Agrees (λ (i : ℕ). (F i).width) (λ (i : ℕ). (F i).number) (λ (i : ℕ). (F i).loose) (N (length S.J)) b (words_of x.line) (instructions_of N S.J b x.line)) (λ j i. S.keeps.at i j) a))

    -- the instructions ahead begin with the line's
    pub ahead : translate_from N S.J b (drop i (lines_of false t n))
        ≡ (instructions_of N S.J b (line_at t n i e l).line).code
        ++ translate_from N (S.J ++ ((instructions_of N S.J b (line_at t n i e l).line).info ∷ [])) (b + length (instructions_of N S.J b (line_at t n i e l).line).code) (drop (i + 1) (lines_of false t n))
    ahead = ap (translate_from N S.J b) (line_at t n i e l).rest

    module _ {m : Bool} {K₁ : List Known} {r : List ℕ} (er : r ≡ record_at false t i) (T : Taken r (i + 1) nd b K K₁ m) where
      taken : Taken (record_at false t i) (i + 1) nd b K K₁ m
      taken = subst (λ (x : List ℕ). Taken x (i + 1) nd b K K₁ m) er T

      -- as many as the code counts
      pub count_is : length (instructions_of N S.J b (line_at t n i e l).line).code ≡ emitted (kind_in r) m
      count_is = at_hand.count ∙ ap (emitted (kind_in (record_at false t i))) (sym taken.mask) ∙ ap (λ (x : List ℕ). emitted (kind_in x) m) (sym er)

      pub walk_more : Walk z t n (i + 1) (b + emitted (kind_in r) m) K₁
      walk_more =
          let c = instructions_of N S.J b (line_at t n i e l).line in
          record {
            J = S.J ++ (c.info ∷ []);
            wide = S.wide;
            keeps = keeps_more S.keeps taken S.known (omega arith) (omega (arith, S.wide)) at_hand.info;
            known = length-append S.J (c.info ∷ []) ∙ ap (λ (x : ℕ). x + 1) S.known;
            most = omega arith;
            least = omega (arith, S.least);
            few = omega (arith, S.few, few_emitted (kind_in r) m);
            out = S.out ++ c.code;
            place = omega (arith, length-append S.out c.code, S.place, count_is);
            all =
                ap (λ (x : ℕ). (S.out ++ c.code) ++ translate_from N (S.J ++ (c.info ∷ [])) (b + x) (drop (i + 1) (lines_of false t n))) (sym count_is)
                ∙ append_assoc S.out c.code _
                ∙ ap (λ (x : List Line). S.out ++ x) (sym ahead) ∙ S.all;
          }

      pub more_out : walk_more.out ≡ S.out ++ (instructions_of N S.J b (line_at t n i e l).line).code
      unfolding walk_more
      more_out = refl

  -- the numbers are small
  pub small_here : i < n → b < 65536
  small_here l = omega (arith, S.few, few_here t n i e l)

  pub small_next : i < n → (k : ℕ) (m : Bool) → b + emitted k m < 65536
  small_next l k m = omega (arith, S.few, few_here t n i e l, few_emitted k m)

-- past the last record
module _ {z : ℕ} {t : List ℕ} {n i b : ℕ} {K : List Known} (S : Walk z t n i b K) (l : n ≤ i) where
  pub walk_out : S.out ≡ program_of t n
  walk_out = sym (append-nil S.out) ∙ ap (λ (x : List Line). S.out ++ translate_from (has_needing_use (lines_of false t n)) S.J b x) (sym (no_line t n i l)) ∙ S.all

  pub walk_end : b ≡ length (program_of t n) + 1
  walk_end = sym S.place ∙ ap (λ (x : List Line). length x + 1) walk_out

-- the mark of the line at hand
pub need_here : {t : List ℕ} {n : ℕ} {ms : List Bool} → Prepared t n ms → (i : ℕ) → i < n → {nd : Bool} → nd ≡ mark_at ms (i + 1) → nd ≡ has_needing_use (lines_of false t n) (i + 1)
need_here {t} {n} P i l e = e ∙ P.needing.at (i + 1) (omega (arith, few_here t n i P.accepted l))
