-- The third pass: after i records the target holds the instructions so far, and zeros. Assumes nothing.
use Rattle.std.specs.Prelude.{Ok}
use Prim.Native.Nat.{ℕ, ◌+◌, ◌-◌, ◌≤◌, ◌<◌}
use mathlib.Core.Path.{◌≡◌, sym, ap, ap₂, ◌∙◌}
use mathlib.Core.Bool.{Bool, true, false}
use mathlib.Core.List.{List, [], ◌∷◌, ◌++◌, map, append_assoc, append-nil, map-append}
use native.Mathlib.Omega.{arith}
use lib.Dec.{leb}
use lib.ListN.{length, drop, replicate, length-append}
use Rattle.tables.specs.Pick.{pick}
use Rattle.tables.specs.Lines.{Line, kind_in, sort_in, words_of}
use Rattle.tables.specs.Layout.{held, record_at, lines_of, recorded, filled}
use Rattle.tables.specs.Tables.{checked}
use Rattle.tables.proofs.Places.{filled_none, length_filled, record_filled}
use Rattle.tables.proofs.Encoding.{length_words}
use Rattle.programs.specs.Uses.{has_needing_use}
use Rattle.programs.specs.declared.Known.{Known}
use Rattle.programs.specs.Translation.{operand_width, operand_number, loose_of, instructions_of, translate_from}
use Rattle.programs.specs.Answers.{program_of}
use Rattle.programs.specs.Model.Records.{instruction, mask_record, emitted, Taken}
use Rattle.programs.specs.Model.Passes.{emitted_to, Zeroed, program_in}
use Rattle.programs.proofs.Modelled.{code_in, mask_in}
use Rattle.programs.proofs.Keeping.{line_at}
use Rattle.programs.proofs.Counting.{Walk, walk_start, at_hand, ahead, count_is, walk_more, walk_out, start_out, more_out}

-- the instructions of a line go behind those that are there
written_law : (q m : Bool) (len : ℕ) (rs : List (List ℕ)) (i : List ℕ) (w b : ℕ) → length rs + 1 ≡ b
    → emitted_to (pick q 0 (pick m 2 1)) i w b (filled true len rs) ≡ filled true len (rs ++ pick q [] (i ∷ pick m (mask_record w b ∷ []) []))
written_law true m len rs i w b e = ap (filled true len) (sym (append-nil rs))
written_law false true len rs i w b e =
    ap (λ (t : List ℕ). recorded true t b (mask_record w b)) (record_filled true len rs (b - 1) i (omega arith))
    ∙ record_filled true len (rs ++ (i ∷ [])) b (mask_record w b) (omega (arith, length-append rs (i ∷ [])))
    ∙ ap (filled true len) (append_assoc rs (i ∷ []) (mask_record w b ∷ []))
written_law false false len rs i w b e = record_filled true len rs (b - 1) i (omega arith)

-- ---- all records

pub record Writes (z : ℕ) (t : List ℕ) (n i b len : ℕ) (K : List Known) (target : List ℕ) : Type 0 where
  pub walk : Walk z t n i b K
  pub holds : target ≡ filled true len (map words_of walk.out)

abbrev holding : ℕ → List Line → List ℕ
holding len out = filled true len (map words_of out)

pub writes_start : (t : List ℕ) (n len : ℕ) {K : List Known} {target : List ℕ} → Zeroed n K → target ≡ replicate len 0 → Writes (length K) t n 0 1 len K target
writes_start t n len f et = record { walk = walk_start t n f; holds = et ∙ sym (filled_none true len) ∙ sym (ap (holding len) (start_out t n f)) }

module _ {z : ℕ} {t : List ℕ} {n i b len : ℕ} {K : List Known} {target : List ℕ} (S : Writes z t n i b len K target) where
  pub writes_size : length target ≡ len
  writes_size = ap length S.holds ∙ length_filled true len (map words_of S.walk.out)

  module _ (e : checked false t n ≡ Ok tt) (l : i < n) (nd : Bool) (en : nd ≡ has_needing_use (lines_of false t n) (i + 1)) {m : Bool} {K₁ : List Known} {r : List ℕ} (er : r ≡ record_at false t i)
      (T : Taken r (i + 1) nd b K K₁ m) {x : ℕ} (ex : x ≡ emitted (kind_in r) m) where
    -- there is room for the line's instructions
    pub fits_here : length (program_of t n) ≤ held true len → b - 1 + x ≤ held true (length target)
    fits_here room =
        let V = S.walk in
        let c = instructions_of (has_needing_use (lines_of false t n)) V.J b (line_at t n i e l).line in
        let a : length V.out + length (translate_from (has_needing_use (lines_of false t n)) V.J b (drop i (lines_of false t n))) ≡ length (program_of t n) =
        sym (length-append V.out (translate_from (has_needing_use (lines_of false t n)) V.J b (drop i (lines_of false t n)))) ∙ ap length V.all in
        let d = ap length (ahead V e l nd en) ∙ length-append c.code _ in
        omega (arith, a, d, room, ex, count_is V e l nd en er T, V.place, ap (held true) writes_size)

    pub writes_more : {w : ℕ} {ins target₁ : List ℕ} → ins ≡ instruction (operand_width K) (operand_number K) r → w ≡ operand_width K (sort_in r) → target₁ ≡ emitted_to x ins w b target
        → Writes z t n (i + 1) (b + x) len K₁ target₁
    writes_more {w} {ins} {target₁} ei ew et =
        let V = S.walk in
        let c = instructions_of (has_needing_use (lines_of false t n)) V.J b (line_at t n i e l).line in
        let rs = map words_of V.out in
        let k = kind_in r in
        let M : m ≡ mask_in (operand_width K) (operand_number K) (loose_of K) nd b r = T.mask in
        let h : target₁ ≡ filled true len (rs ++ pick (leb k 2) [] (ins ∷ pick m (mask_record w b ∷ []) [])) =
        et ∙ ap₂ (λ (y : ℕ) (u : List ℕ). emitted_to y ins w b u) ex S.holds ∙ written_law (leb k 2) m len rs ins w b (omega (arith, length_words V.out, V.place)) in
        let q : pick (leb k 2) [] (ins ∷ pick m (mask_record w b ∷ []) []) ≡ map words_of c.code =
        (λ j. pick (leb k 2) [] (ei j ∷ pick (M j) (mask_record (ew j) b ∷ []) [])) ∙ ap (λ (y : List ℕ). code_in (operand_width K) (operand_number K) (loose_of K) nd b y) er ∙ sym (at_hand V e l nd en).code in
        let g : rs ++ pick (leb k 2) [] (ins ∷ pick m (mask_record w b ∷ []) []) ≡ map words_of (V.out ++ c.code) =
        ap (λ (u : List (List ℕ)). rs ++ u) q ∙ sym (map-append words_of V.out c.code) in
        rw ex
        (record { walk = walk_more V e l nd en er T; holds = h ∙ ap (filled true len) g ∙ sym (ap (holding len) (more_out V e l nd en er T)) })

  pub writes_end : n ≤ i → target ≡ program_in t n len
  writes_end l = S.holds ∙ ap (holding len) (walk_out S.walk l)
