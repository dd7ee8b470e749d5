-- The lines of free states, one after the other: the words that the code gives them are those of the definition. Assumes nothing.
use Prim.Native.Nat.{ℕ, zero, suc, ◌+◌, ◌-◌, ◌%◌, ◌^◌, ◌≤◌, ◌<◌}
use mathlib.Core.Path.{◌≡◌, refl, sym, ap, ap₂, ◌∙◌, subst}
use mathlib.Core.Bool.{Bool, true, false}
use mathlib.Core.List.{List, [], ◌∷◌, ◌++◌, append-nil, append_assoc}
use native.Mathlib.Omega.{arith}
use native.Mathlib.Nat.{zero-add, suc-add}
use native.Mathlib.Numerals.{add-one}
use lib.Pow.{pow_pos}
use lib.ListN.{length, take, drop, get_or, set, replicate, length-append, length-drop}
use lib.Seq.{drop-drop, length-take-le, take_all, take_at, take-suc-set, drop-cons, drop-length}
use Rattle.words.specs.Word.{Width}
use Rattle.tables.specs.Types.{rank}
use Rattle.tables.specs.declared.Note.{Note}
use Rattle.tables.specs.declared.Ty.{Ty}
use Rattle.tables.specs.Pick.{pick}
use Rattle.tables.specs.Lines.{Line, line_of}
use Rattle.tables.specs.Layout.{record_at, lines_of}
use Rattle.tables.specs.Model.Notes.{given_in}
use Rattle.tables.proofs.Encoding.{fits_table}
use Rattle.circuits.specs.Cells.{mask_words, part, put}
use Rattle.circuits.specs.Layout.{Layout, type_at, place_at, size, line_type_in, no_layout, lay, lay_all, layout}
use Rattle.circuits.specs.Free.{Source, driven, free, source_of, has_next, sources_here, sources_from, sources, free_count, fed}
use Rattle.circuits.specs.Run.{entered}
use Rattle.circuits.specs.Model.Work.{num_in, pos_in, wid_in}
use Rattle.circuits.specs.Model.Places.{ShowsAll, Ready}
use Rattle.circuits.specs.Model.Passes.{Noted}
use Rattle.circuits.specs.Model.Feeding.{free_line, free_lines_from, free_lines, cells_in, fed_lines, entered_in, FitFed, AllFed}
use Rattle.circuits.proofs.Puts as laws
use Rattle.circuits.proofs.Laid.{Sound, type_new, place_new, more_types, more_places, later}
use Rattle.circuits.proofs.Walked.{sound_at, lay_done, line_here, lines_many}
use Rattle.circuits.proofs.Placing.{next_noted}
use Rattle.circuits.proofs.Sources.{free_append, free_cells}

-- ---- the words of one state

pub fed_driven : (m : ℕ) (ss : List Source) (left row : List ℕ) → m ≤ length left → fed (replicate m driven ++ ss) left row ≡ take m left ++ fed ss (drop m left) row
fed_driven zero ss left row h = refl
fed_driven (suc m) ss [] row h = absurd (omega arith)
fed_driven (suc m) ss (x ∷ left) row h = ap (λ (xs : List ℕ). x ∷ xs) (fed_driven m ss left row (omega arith))

pub fed_free : (m w : ℕ) (ss : List Source) (left row : List ℕ) → m ≤ length left → m ≤ length row
    → fed (replicate m (free w) ++ ss) left row ≡ mask_words w (take m row) ++ fed ss (drop m left) (drop m row)
fed_free zero w ss left row h k = refl
fed_free (suc m) w ss [] row h k = absurd (omega arith)
fed_free (suc m) w ss (x ∷ left) [] h k = absurd (omega arith)
fed_free (suc m) w ss (x ∷ left) (y ∷ row) h k = ap (λ (xs : List ℕ). y % 2 ^ w ∷ xs) (fed_free m w ss left row (omega arith) (omega arith))

take_part : (xs : List ℕ) (s m : ℕ) → s + m ≤ length xs → take s xs ++ part xs s m ≡ take (s + m) xs
take_part xs zero m h = ap (λ (n : ℕ). take n xs) (sym (zero-add m))
take_part [] (suc s) m h = absurd (omega arith)
take_part (x ∷ xs) (suc s) m h = ap (λ (ys : List ℕ). x ∷ ys) (take_part xs s m (omega arith)) ∙ ap (λ (n : ℕ). take n (x ∷ xs)) (sym (suc-add s m))

take_put : (xs vs : List ℕ) (s : ℕ) → s + length vs ≤ length xs → take (s + length vs) (put xs s vs) ≡ take s xs ++ vs
unfolding put
take_put xs vs s h =
    let l : length (take s xs ++ vs) ≡ s + length vs = length-append (take s xs) vs ∙ ap (λ (n : ℕ). n + length vs) (length-take-le s xs (omega arith)) in
    ap (take (s + length vs)) (sym (append_assoc (take s xs) vs (drop (s + length vs) xs))) ∙ take_at (take s xs ++ vs) (drop (s + length vs) xs) (s + length vs) l

-- ---- what the list P holds of a state's line

record Here (P : List (List ℕ)) (words q : ℕ) (t : Ty) (s : ℕ) : Type 0 where
  at : pos_in P q ≡ s
  cells : num_in P q ≡ size t
  width : wid_in P q ≡ t.w
  fits : FitFed P words q

module _ (p : Bool) (P : List (List ℕ)) (h : ℕ → Bool) where
  -- the state on the line behind Y, and the lines D after it
  state_here : (Y : Layout) (s : ℕ) (D : List Line) → length Y.places ≡ length Y.ctx.tys → Sound (lay_all p Y (Line.state s ∷ D)) → ShowsAll P (lay_all p Y (Line.state s ∷ D))
      → Here P (lay_all p Y (Line.state s ∷ D)).counts.states (length Y.places) (line_type_in p Y (Line.state s)) Y.counts.states
  state_here Y s D e S sh =
      let l = Line.state s in
      let Z = lay_all p Y (l ∷ D) in
      let n = length Y.places in
      let r = later p (lay p Y l) D in
      let lt = more_types p Y l in
      let lp = more_places p Y l in
      let et : type_at Z n ≡ line_type_in p Y l = r.type n (omega arith) ∙ ap (type_at (lay p Y l)) e ∙ type_new p Y l e in
      let ep : place_at Z n ≡ Y.counts.states = r.place n (omega arith) ∙ ap (place_at (lay p Y l)) e ∙ place_new p Y l e in
      let x = sh n (omega (arith, r.longer)) in
      let role : rank (type_at Z n).role ≡ 4 = ap (λ (t : Ty). rank t.role) et in
      let w = S.wide n (omega arith) in
      let k = S.room n role in
      record {
        at = x.is_pos ∙ ep;
        cells = x.is_num ∙ ap size et;
        width = x.is_wid ∙ ap (λ (t : Ty). t.w) et;
        fits =
            record {
              known = x.known;
              some = subst (λ (m : ℕ). 1 ≤ m) (sym x.is_num) (pow_pos (type_at Z n).iw);
              wide = subst Width (sym x.is_wid) (record { least = w.least; most = w.most });
              inside = omega (arith, x.is_pos, x.is_num);
            };
      }

  -- the state on the line n, of the width w, whose m words stand at s, then the lines qs, whose words are known to be right
  state_fed : (b : Bool) (qs : List ℕ) (ss : List Source) (n s m w : ℕ) (σ row : List ℕ) → pos_in P n ≡ s → num_in P n ≡ m → wid_in P n ≡ w → s + m ≤ length σ
      → free_count (replicate m (source_of b w) ++ ss) ≤ length row
      → ((σ' row' : List ℕ) → length σ' ≡ length σ → free_count ss ≤ length row' → fed_lines P qs σ' row' ≡ take (s + m) σ' ++ fed ss (drop (s + m) σ') row')
      → fed_lines P (pick b [] (n ∷ []) ++ qs) σ row ≡ take s σ ++ fed (replicate m (source_of b w) ++ ss) (drop s σ) row
  state_fed true qs ss n s m w σ row ep em ew room enough rest =
      let few : free_count ss ≤ length row = omega (arith, free_append (replicate m (source_of true w)) ss) in
      let ld = length-drop s σ in
      rest σ row refl few ∙ ap₂ (λ (x y : List ℕ). x ++ fed ss y row) (sym (take_part σ s m room)) (sym (drop-drop m s σ)) ∙ append_assoc (take s σ) (part σ s m) (fed ss (drop m (drop s σ)) row)
      ∙ ap (λ (x : List ℕ). take s σ ++ x) (sym (fed_driven m ss (drop s σ) row (omega arith)))
  state_fed false qs ss n s m w σ row ep em ew room enough rest =
      let few = free_append (replicate m (source_of false w)) ss in
      let all = free_cells false w m in
      let vs : List ℕ = mask_words w (take m row) in
      let lv : length vs ≡ m = laws.length_lows w (take m row) ∙ length-take-le m row (omega arith) in
      let ld = length-drop s σ in
      let lr = length-drop m row in
      let hv : s + length vs ≤ length σ = omega arith in
      ap (λ (x : ℕ). fed_lines P qs (put σ x (mask_words (wid_in P n) (take (num_in P n) row))) (drop (num_in P n) row)) ep
      ∙ ap₂ (λ (x y : ℕ). fed_lines P qs (put σ s (mask_words x (take y row))) (drop y row)) ew em
      ∙ rest (put σ s vs) (drop m row) (laws.length_put σ s vs hv) (omega arith)
      ∙ ap₂ (λ (x y : List ℕ). x ++ fed ss y (drop m row)) (ap (λ (x : ℕ). take (s + x) (put σ s vs)) (sym lv) ∙ take_put σ vs s hv) (laws.put_past σ s vs hv (s + m) (omega arith) ∙ sym (drop-drop m s σ))
      ∙ append_assoc (take s σ) vs (fed ss (drop m (drop s σ)) (drop m row)) ∙ ap (λ (x : List ℕ). take s σ ++ x) (sym (fed_free m w ss (drop s σ) row (omega arith) (omega arith)))

  state_cells_lem : (b : Bool) (qs : List ℕ) (ss : List Source) (n m w : ℕ) → num_in P n ≡ m → cells_in P qs ≡ free_count ss → cells_in P (pick b [] (n ∷ []) ++ qs) ≡ free_count (replicate m (source_of b w) ++ ss)
  state_cells_lem true qs ss n m w em e = e ∙ omega (arith, free_append (replicate m (source_of true w)) ss, free_cells true w m)
  state_cells_lem false qs ss n m w em e = omega (arith, em, e, free_append (replicate m (source_of false w)) ss, free_cells false w m)

  state_fits : (b : Bool) (words : ℕ) (qs : List ℕ) (n : ℕ) → FitFed P words n → AllFed P words qs → AllFed P words (pick b [] (n ∷ []) ++ qs)
  state_fits true words qs n f fs = fs
  state_fits false words qs n f fs = (f, fs)

  -- The lines D after Y, the first of which has the number n: what is asked of the free ones, how many cells they have, and the state words σ where they have taken those of the
  -- row.
  record Fed (Y : Layout) (n : ℕ) (D : List Line) (words : ℕ) : Type 0 where
    fits : AllFed P words (free_lines_from h n D)
    count : cells_in P (free_lines_from h n D) ≡ free_count (sources_from p h Y D)
    right : (σ row : List ℕ) → length σ ≡ words → free_count (sources_from p h Y D) ≤ length row
        → fed_lines P (free_lines_from h n D) σ row ≡ take Y.counts.states σ ++ fed (sources_from p h Y D) (drop Y.counts.states σ) row

  next_number : (Y : Layout) (l : Line) → length (lay p Y l).places ≡ suc (length Y.places)
  next_number Y l = more_places p Y l ∙ add-one (length Y.places)

  next_long : (Y : Layout) (l : Line) → length Y.places ≡ length Y.ctx.tys → length (lay p Y l).places ≡ length (lay p Y l).ctx.tys
  next_long Y l e = more_places p Y l ∙ ap (λ (n : ℕ). n + 1) e ∙ sym (more_types p Y l)

  -- a line that adds no state words
  fed_other : (Y : Layout) (l : Line) (D : List Line) (words : ℕ) → free_line (h (length Y.places)) (length Y.places) l ≡ [] → sources_here p h Y l ≡ [] → (lay p Y l).counts.states ≡ Y.counts.states
      → Fed (lay p Y l) (suc (length Y.places)) D words → Fed Y (length Y.places) (l ∷ D) words
  fed_other Y l D words a b c r =
      record {
        fits = rw a r.fits;
        count = rw (a, b) r.count;
        right = λ σ row ls few.
            ap (λ (qs : List ℕ). fed_lines P (qs ++ free_lines_from h (suc (length Y.places)) D) σ row) a
            ∙ r.right σ row ls (subst (λ (ss : List Source). free_count (ss ++ sources_from p h (lay p Y l) D) ≤ length row) b few)
            ∙ ap₂ (λ (m : ℕ) (ss : List Source). take m σ ++ fed (ss ++ sources_from p h (lay p Y l) D) (drop m σ) row) c (sym b);
      }

  fed_line : (Y : Layout) (l : Line) (D : List Line) → length Y.places ≡ length Y.ctx.tys → Sound (lay_all p Y (l ∷ D)) → ShowsAll P (lay_all p Y (l ∷ D))
      → Fed (lay p Y l) (suc (length Y.places)) D (lay_all p Y (l ∷ D)).counts.states → Fed Y (length Y.places) (l ∷ D) (lay_all p Y (l ∷ D)).counts.states
  fed_line Y (Line.bitvec w) D k S sh r = fed_other Y (Line.bitvec w) D _ refl refl refl r
  fed_line Y (Line.array i e) D k S sh r = fed_other Y (Line.array i e) D _ refl refl refl r
  fed_line Y (Line.input s) D k S sh r = fed_other Y (Line.input s) D _ refl refl refl r
  fed_line Y (Line.state s) D k S sh r =
      let l = Line.state s in
      let n = length Y.places in
      let t = line_type_in p Y l in
      let x = state_here Y s D k S sh in
      let o = (later p (lay p Y l) D).states in
      record {
        fits = state_fits (h n) (lay_all p Y (l ∷ D)).counts.states (free_lines_from h (suc n) D) n x.fits r.fits;
        count = state_cells_lem (h n) (free_lines_from h (suc n) D) (sources_from p h (lay p Y l) D) n (size t) t.w x.cells r.count;
        right = λ σ row ls few.
            state_fed (h n) (free_lines_from h (suc n) D) (sources_from p h (lay p Y l) D) n Y.counts.states (size t) t.w σ row x.at x.cells x.width (omega arith) few
            (λ σ' row' lσ lr. r.right σ' row' (lσ ∙ ls) lr);
      }
  fed_line Y (Line.value s e) D k S sh r = fed_other Y (Line.value s e) D _ refl refl refl r
  fed_line Y (Line.init_or_next m s q v) D k S sh r = fed_other Y (Line.init_or_next m s q v) D _ refl refl refl r
  fed_line Y (Line.signal m a) D k S sh r = fed_other Y (Line.signal m a) D _ refl refl refl r
  fed_line Y (Line.output a) D k S sh r = fed_other Y (Line.output a) D _ refl refl refl r
  fed_line Y Line.unknown D k S sh r = fed_other Y Line.unknown D _ refl refl refl r

  fed_all : (Y : Layout) (D : List Line) → length Y.places ≡ length Y.ctx.tys → Sound (lay_all p Y D) → ShowsAll P (lay_all p Y D)
      → Fed Y (length Y.places) D (lay_all p Y D).counts.states
  fed_all Y [] k S sh =
      record { fits = tt; count = refl; right = λ σ row ls few. sym (append-nil (take Y.counts.states σ) ∙ take_all Y.counts.states σ (omega arith)) }
  fed_all Y (l ∷ D) k S sh =
      fed_line Y l D k S sh (subst (λ (j : ℕ). Fed (lay p Y l) j D (lay_all p Y (l ∷ D)).counts.states) (next_number Y l) (fed_all (lay p Y l) D (next_long Y l k) S sh))

-- ---- of an accepted table, whose lines are known as P holds it

module _ {p : Bool} {t : List ℕ} {n : ℕ} {P : List (List ℕ)} {all words ins sigs : ℕ} (rd : Ready p t n P all words ins sigs) where
  abbrev C : List Line
  C = lines_of p t n

  of_all : Fed p P (has_next p C) no_layout 1 C (layout p C).counts.states
  unfolding layout
  of_all = fed_all p P (has_next p C) no_layout C refl (subst Sound (lay_done p t n rd.accepted) (sound_at p t n rd.accepted n)) rd.shows

  pub lines_fit : AllFed P words (free_lines p C)
  unfolding free_lines
  lines_fit = subst (λ (m : ℕ). AllFed P m (free_lines_from (has_next p C) 1 C)) rd.states of_all.fits

  pub lines_cells : cells_in P (free_lines p C) ≡ free_count (sources p C)
  unfolding free_lines sources
  lines_cells = of_all.count

  -- where no word is free, there is no such line
  pub no_lines_lem : free_count (sources p C) ≡ 0 → free_lines p C ≡ []
  no_lines_lem e = none_fed (free_lines p C) lines_fit (lines_cells ∙ e)
    where
      none_fed : (qs : List ℕ) → AllFed P words qs → cells_in P qs ≡ 0 → qs ≡ []
      none_fed [] f z = refl
      none_fed (q ∷ qs) f z = absurd (omega (arith, f.0.some))

  -- the words that the lines of free states take one after the other are those that a later step begins with
  pub lines_fed : (σ row : List ℕ) → length σ ≡ words → free_count (sources p C) ≤ length row → fed_lines P (free_lines p C) σ row ≡ fed (sources p C) σ row
  unfolding free_lines sources
  lines_fed σ row e h = of_all.right σ row (e ∙ sym rd.states) h

  -- so the step i begins with the words of the definition
  pub lines_entered : (i : ℕ) (σ row : List ℕ) → length σ ≡ words → free_count (sources p C) ≤ length row → entered_in P (free_lines p C) i σ row ≡ entered p C i σ row
  lines_entered zero σ row e h = refl
  lines_entered (suc i) σ row e h = lines_fed σ row e h

-- ---- the lines, as they are found

-- of the lines so far, i of n, the free ones are the first m numbers of the list; those of the lines to come follow
pub record Found (p : Bool) (t : List ℕ) (n i m : ℕ) (list : List ℕ) : Type 0 where
  pub most : i ≤ n
  pub few : m ≤ i
  pub long : length list ≡ 16385
  pub holds : take m list ++ free_lines_from (has_next p (lines_of p t n)) (suc i) (drop i (lines_of p t n)) ≡ free_lines p (lines_of p t n)

module _ (p : Bool) (t : List ℕ) (n : ℕ) (xs : List Note) (k : Noted p t n xs) where
  pub found_none : (list : List ℕ) → length list ≡ 16385 → Found p t n 0 0 list
  unfolding free_lines
  found_none list e = record { most = omega arith; few = omega arith; long = e; holds = refl }

  pub found_more : {r : List ℕ} (i m m' : ℕ) (list list' : List ℕ) → i < n → Found p t n i m list → r ≡ record_at p t i → length list' ≡ length list
      → take m' list' ≡ take m list ++ free_line (given_in xs false (i + 1)) (i + 1) (line_of r) → m' ≤ m + 1 → Found p t n (i + 1) m' list'
  found_more {r} i m m' list list' h f er ll e l =
      let C = lines_of p t n in
      let G = has_next p C in
      let x = get_or C i Line.unknown in
      let rest = drop (i + 1) C in
      let el : line_of r ≡ x = ap line_of er ∙ sym (line_here p t n k.accepted i h) in
      let here : free_line (given_in xs false (i + 1)) (i + 1) (line_of r) ≡ free_line (G (suc i)) (suc i) x =
      ap₂ (λ (b : Bool) (y : Line). free_line b (i + 1) y) (next_noted p t n xs k (i + 1)) el ∙ ap (λ (j : ℕ). free_line (G j) j x) (add-one i) in
      let cut : drop i C ≡ x ∷ rest = drop-cons C i Line.unknown (omega (arith, lines_many p t n k.accepted)) ∙ ap (λ (j : ℕ). x ∷ drop j C) (sym (add-one i)) in
      record {
        most = omega arith;
        few = omega (arith, f.few);
        long = ll ∙ f.long;
        holds =
            ap₂ (λ (ys : List ℕ) (j : ℕ). ys ++ free_lines_from G (suc j) rest) (e ∙ ap (λ (ys : List ℕ). take m list ++ ys) here) (add-one i)
            ∙ append_assoc (take m list) (free_line (G (suc i)) (suc i) x) (free_lines_from G (suc (suc i)) rest)
            ∙ ap (λ (D : List Line). take m list ++ free_lines_from G (suc i) D) (sym cut) ∙ f.holds;
      }

  pub found_all : (i m : ℕ) (list : List ℕ) → n ≤ i → Found p t n i m list → (take m list ≡ free_lines p (lines_of p t n)) × (m ≤ 16384)
  found_all i m list h f =
      let C = lines_of p t n in
      let G = has_next p C in
      let e : i ≡ length C = omega (arith, f.most, lines_many p t n k.accepted) in (
        sym (append-nil (take m list)) ∙ ap (λ (D : List Line). take m list ++ free_lines_from G (suc i) D) (sym (ap (λ (j : ℕ). drop j C) e ∙ drop-length C)) ∙ f.holds,
        omega (arith, f.few, f.most, (fits_table p t n k.accepted).0),
      )

-- a line goes to the place m, or none does
pub put_line : (list : List ℕ) (m n : ℕ) {d : List ℕ} → m < length list → n ∷ [] ≡ d → take (m + 1) (set list m n) ≡ take m list ++ d
put_line list m n h e = ap (λ (j : ℕ). take j (set list m n)) (add-one m) ∙ take-suc-set list m n h ∙ ap (λ (x : List ℕ). take m list ++ x) e

pub put_no_line : (list : List ℕ) (m : ℕ) {d : List ℕ} → [] ≡ d → take m list ≡ take m list ++ d
put_no_line list m e = sym (append-nil (take m list)) ∙ ap (λ (x : List ℕ). take m list ++ x) e

-- ---- one line more takes its words

-- the part of the words that is lent holds the row's part, masked
pub fed_part : (words row q : List ℕ) (r : ℕ) {m m' a a' w w' : ℕ} → m ≡ m' → a ≡ a' → w ≡ w' → a + m ≤ length words → r + m ≤ length row
    → q ≡ mask_words w (part row r (r + m - r)) → take a words ++ (q ++ drop (a + m - a) (drop a words)) ≡ put words a' (mask_words w' (part row r m'))
fed_part words row q r {m} {m'} {a} {a'} {w} {w'} em ea ew h k e =
    let d : a + m - a ≡ m = omega arith in
    let f : r + m - r ≡ m = omega arith in
    let eq : q ≡ mask_words w (part row r m) = e ∙ ap (λ (n : ℕ). mask_words w (part row r n)) f in
    let lq : length q ≡ a + m - a = ap length eq ∙ laws.length_lows w (part row r m) ∙ laws.length_part row r m k ∙ sym d in
    laws.mid_put words a (a + m - a) q lq ∙ ap₂ (λ (x : ℕ) (y : List ℕ). put words x y) ea (eq ∙ ap₂ (λ (x n : ℕ). mask_words x (part row r n)) ew em)

module _ (P : List (List ℕ)) (lines : List ℕ) where
  -- the lines from j on, the row's words from r on
  pub fed_more : (j q r : ℕ) (σ row : List ℕ) {m : ℕ} {σ' : List ℕ} → j < length lines → q ≡ get_or lines j 0 → m ≡ num_in P q
      → σ' ≡ put σ (pos_in P q) (mask_words (wid_in P q) (part row r (num_in P q))) → fed_lines P (drop (j + 1) lines) σ' (drop (r + m) row) ≡ fed_lines P (drop j lines) σ (drop r row)
  fed_more j q r σ row h eq em e =
      ap₂ (λ (x y : List ℕ). fed_lines P (drop (j + 1) lines) x y) e (ap (λ (n : ℕ). drop (r + n) row) em ∙ sym (drop-drop (num_in P q) r row))
      ∙ ap (λ (x : ℕ). fed_lines P (drop (j + 1) lines) (put σ (pos_in P x) (mask_words (wid_in P x) (part row r (num_in P x)))) (drop (num_in P x) (drop r row))) eq
      ∙ ap (λ (D : List ℕ). fed_lines P D σ (drop r row)) (ap (λ (x : ℕ). get_or lines j 0 ∷ drop x lines) (add-one j) ∙ sym (drop-cons lines j 0 h))

  pub fits_more : (words j : ℕ) → j < length lines → AllFed P words (drop j lines) → FitFed P words (get_or lines j 0) × AllFed P words (drop (j + 1) lines)
  fits_more words j h a = subst (λ (x : ℕ). FitFed P words (get_or lines j 0) × AllFed P words (drop x lines)) (sym (add-one j)) (subst (AllFed P words) (drop-cons lines j 0 h) a)

  pub cells_more : (j : ℕ) → j < length lines → cells_in P (drop j lines) ≡ num_in P (get_or lines j 0) + cells_in P (drop (j + 1) lines)
  cells_more j h = ap (cells_in P) (drop-cons lines j 0 h ∙ ap (λ (x : ℕ). get_or lines j 0 ∷ drop x lines) (sym (add-one j)))

-- ---- the step i begins

entered_later : (P : List (List ℕ)) (qs : List ℕ) (i : ℕ) (σ row : List ℕ) → (i ≡ 0 → ⊥) → fed_lines P qs σ row ≡ entered_in P qs i σ row
entered_later P qs zero σ row n = absurd (n refl)
entered_later P qs (suc i) σ row n = refl

pub entered_zero : (P : List (List ℕ)) (qs : List ℕ) (i : ℕ) (σ row : List ℕ) → i ≡ 0 → σ ≡ entered_in P qs i σ row
entered_zero P qs i σ row e = ap (λ (t : ℕ). entered_in P qs t σ row) (sym e)

-- the words of a list from the place a on, as they are lent
pub behind : (w : List ℕ) (a : ℕ) → take (length w - a) (drop a w) ≡ drop a w
behind w a = take_all (length w - a) (drop a w) (omega (arith, length-drop a w))

pub entered_behind : (P : List (List ℕ)) (qs : List ℕ) (i : ℕ) (w row q : List ℕ) (a : ℕ) → (i ≡ 0 → ⊥) → a ≤ length w → length q ≡ length (take (length w - a) (drop a w))
    → q ≡ fed_lines P qs (take (length w - a) (drop a w)) row → drop a (take a w ++ (q ++ drop (length w - a) (drop a w))) ≡ entered_in P qs i (drop a w) row
entered_behind P qs i w row q a n h l e =
    laws.loaded_at w q q a (omega (arith, l, ap length (behind w a), length-drop a w)) refl ∙ e ∙ ap (λ (σ : List ℕ). fed_lines P qs σ row) (behind w a) ∙ entered_later P qs i (drop a w) row n
