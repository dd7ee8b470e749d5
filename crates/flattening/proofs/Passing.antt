-- The flat circuit line by line: what is kept and what is made after the first i lines, and that both walks still go together there. Assumes nothing.
use Prim.Native.Nat.{ℕ, zero, suc, ◌+◌, ◌≤◌, ◌<◌}
use mathlib.Core.Path.{◌≡◌, refl, sym, ap, ◌∙◌, subst, subst⁻¹}
use mathlib.Core.Bool.{true, false}
use mathlib.Core.List.{List, [], ◌∷◌, ◌++◌, append_assoc, append-nil}
use native.Mathlib.Nat.{le_refl, le_trans}
use native.Mathlib.Omega.{arith}
use lib.ListN.{length, get_or, take, drop, length-append, take-append-drop, drop_of_length-le}
use lib.Seq.{take-suc, drop-cons, length-take-le}
use Rattle.tables.specs.Lines.{Line}
use Rattle.tables.specs.Types.{ty_at, given, no_ctx}
use Rattle.tables.proofs.Facts.{OkLine, AllOk}
use Rattle.circuits.specs.Layout.{Layout}
use Rattle.circuits.specs.Meaning.{Frame, no_frame, step}
use Rattle.flattening.specs.Flat.{Info, no_info, Chunk, chunk, flatten_from, flatten}
use Rattle.flattening.proofs.Walk.{Ext, ev1, evs, evs_append, len_all, ext_all, states_all}
use Rattle.flattening.proofs.Rel.{Inv}
use Rattle.flattening.proofs.Alike.{sim_line, at_start, step_lay, zeros, zeros_many}

-- after the first i lines
pub record Sofar : Type 0 where
  pub infos : List Info
  pub lines : List Line

abbrev pub line_in : List Line → ℕ → Line
line_in C i = get_or C i Line.unknown

-- the chunk of the next line
abbrev pub chunk_at : Sofar → Line → Chunk
chunk_at S l = chunk S.infos (suc (length S.lines)) l

abbrev pub sofar : List Line → ℕ → Sofar
sofar C zero = record { infos = no_info ∷ []; lines = [] }
sofar C (suc i) =
    record {
      infos = (sofar C i).infos ++ ((chunk_at (sofar C i) (line_in C i)).info ∷ []);
      lines = (sofar C i).lines ++ (chunk_at (sofar C i) (line_in C i)).lines;
    }

-- with the lines that are left it is the flat circuit
left_over : (C : List Line) (i : ℕ) → i ≤ length C → flatten C ≡ (sofar C i).lines ++ flatten_from (sofar C i).infos (suc (length (sofar C i).lines)) (drop i C)
unfolding flatten
left_over C zero h = refl
left_over C (suc i) h =
    let S = sofar C i in
    let c = chunk_at S (line_in C i) in
    let R = drop (suc i) C in
    let J = S.infos ++ (c.info ∷ []) in
    let e : suc (length S.lines) + length c.lines ≡ suc (length (S.lines ++ c.lines)) = omega (arith, length-append S.lines c.lines) in
    left_over C i (omega arith)
    ∙ ap (λ (ls : List Line). S.lines ++ flatten_from S.infos (suc (length S.lines)) ls) (drop-cons C i Line.unknown h)
    ∙ sym (append_assoc S.lines c.lines (flatten_from J (suc (length S.lines) + length c.lines) R))
    ∙ ap (λ (b : ℕ). (S.lines ++ c.lines) ++ flatten_from J b R) e

pub all_lines : (C : List Line) → (sofar C (length C)).lines ≡ flatten C
all_lines C =
    let S = sofar C (length C) in
    sym (left_over C (length C) (le_refl (length C)) ∙ ap (λ (ls : List Line). S.lines ++ flatten_from S.infos (suc (length S.lines)) ls) (drop_of_length-le C (le_refl (length C))) ∙ append-nil S.lines)

pub lines_le : (C : List Line) (i : ℕ) → i ≤ length C → length (sofar C i).lines ≤ length (flatten C)
lines_le C i h =
    let S = sofar C i in
    let R = flatten_from S.infos (suc (length S.lines)) (drop i C) in
    let e = ap length (left_over C i h) in
    omega (arith, e, length-append S.lines R)

-- ---- the two walks after the first i lines

module _ (C : List Line) where
  abbrev σ : List ℕ
  σ = zeros C

  abbrev pub walked : ℕ → Frame
  walked i = evs true σ [] no_frame (take i C)

  abbrev pub flat_walked : ℕ → Frame
  flat_walked i = evs true σ [] no_frame (sofar C i).lines

  pub walked_suc : (i : ℕ) → i < length C → walked (suc i) ≡ ev1 true σ [] (walked i) (line_in C i)
  walked_suc i h = ap (evs true σ [] no_frame) (take-suc C i Line.unknown h) ∙ evs_append true σ [] no_frame (take i C) (line_in C i ∷ [])

  ok_from : (A : Frame) (ls : List Line) → AllOk false A.lay.ctx ls → (i : ℕ) → i < length ls
      → OkLine false (ty_at (evs true σ [] A (take i ls)).lay.ctx) (given (evs true σ [] A (take i ls)).lay.ctx) (get_or ls i Line.unknown)
  ok_from A [] k i h = absurd (omega arith)
  ok_from A (l ∷ ls) k zero h = k.0
  ok_from A (l ∷ ls) k (suc i) h = ok_from (ev1 true σ [] A l) ls k.1 i (omega arith)

  -- the next line keeps the rules
  pub ok_at : AllOk false no_ctx C → (i : ℕ) → i < length C → OkLine false (ty_at (walked i).lay.ctx) (given (walked i).lay.ctx) (line_in C i)
  ok_at k i h = ok_from no_frame C k i h

  -- all lines come after the first i
  walked_all : (i : ℕ) → evs true σ [] (walked i) (drop i C) ≡ step false true C σ []
  unfolding step
  walked_all i = sym (evs_append true σ [] no_frame (take i C) (drop i C)) ∙ ap (evs true σ [] no_frame) (take-append-drop i C)

  states_le : (i : ℕ) → (walked i).lay.counts.states ≤ length σ
  states_le i =
      le_trans (states_all true σ [] (walked i) (drop i C))
      (subst⁻¹ (λ (n : ℕ). n ≤ length σ) (ap (λ (A : Frame). A.lay.counts.states) (walked_all i) ∙ ap (λ (Y : Layout). Y.counts.states) (step_lay true C σ [])) (zeros_many C))

  pub flat_length : (i : ℕ) → suc (length (sofar C i).lines) ≡ length (flat_walked i).env
  flat_length i = omega (arith, len_all true σ [] no_frame (sofar C i).lines)

  pub inv_at : AllOk false no_ctx C → (i : ℕ) → i ≤ length C → Inv (walked i) (flat_walked i) (sofar C i).infos
  inv_at k zero h = at_start true σ []
  inv_at k (suc i) h =
      let S = sofar C i in
      let l = line_in C i in
      let L = (chunk_at S l).lines in
      let e = walked_suc i h in
      let s = sim_line true σ [] l (inv_at k i (omega arith)) (flat_length i) (ok_at k i h) (subst (λ (A : Frame). A.lay.counts.states ≤ length σ) e (states_le (suc i))) in
      subst⁻¹ (λ (A : Frame). Inv A (flat_walked (suc i)) (sofar C (suc i)).infos) e
      (subst⁻¹ (λ (B : Frame). Inv (ev1 true σ [] (walked i) l) B (sofar C (suc i)).infos) (evs_append true σ [] no_frame S.lines L) s.inv)

  -- what is known of a line after the first i stays known
  pub walked_ext : AllOk false no_ctx C → (i : ℕ) → i ≤ length C → Ext (walked i) (step false true C σ [])
  walked_ext k i h = subst (λ (A : Frame). Ext (walked i) A) (walked_all i) (ext_all true σ [] (inv_at k i h).even_a (drop i C))

  pub walked_length : (i : ℕ) → i ≤ length C → length (walked i).env ≡ suc i
  walked_length i h = omega (arith, len_all true σ [] no_frame (take i C), length-take-le i C h)
