-- The records that the code makes of a line are those of its flat lines, where what it keeps of earlier lines tells what the definition keeps. Assumes nothing.
use Prim.Native.Nat.{ℕ, zero, suc, ◌+◌, ◌-◌, ◌*◌, ◌^◌, ◌≤◌, ◌<◌}
use mathlib.Core.Path.{◌≡◌, refl, sym, ap, ap₂, ◌∙◌, subst, subst⁻¹}
use mathlib.Core.Logic.{◌≢◌}
use mathlib.Core.Bool.{Bool, true, false}
use mathlib.Core.Option.{Option, none, some}
use mathlib.Core.List.{List, [], ◌∷◌, ◌++◌, map, map-append}
use native.Mathlib.Omega.{arith}
use lib.ListN.{length, get_or, length-replicate, get_or-replicate}
use lib.Pow.{pow_pos, pow_mono}
use borrow.Author.Tests.{eq-eqb, ne_eqb, lt-ltb}
use Rattle.std.specs.Prelude.{Some, None}
use Rattle.tables.specs.declared.Ty.{Ty}
use Rattle.tables.specs.Pick.{pick}
use Rattle.tables.specs.Lines.{Line, Expr, fields, words_of, init_or_next_kind, equality_kind}
use Rattle.tables.specs.Types.{rank, ty_at, given}
use Rattle.tables.specs.Rules.{value_index}
use Rattle.tables.specs.Layout.{from}
use Rattle.tables.proofs.Facts.{IsWord, OkValue, OkLine}
use Rattle.tables.proofs.Ids.{from_at, length_from}
use Rattle.circuits.specs.Layout.{type_at}
use Rattle.circuits.specs.Meaning.{Frame, cells_at}
use Rattle.flattening.specs.declared.Source.{Source}
use Rattle.flattening.specs.Flat.{Info, info_at, lines_at, line_at, chunk, chunk_read, chunk_write, value_lines, equality_lines, join_kind, join_lines, write_lines, read_chain}
use Rattle.flattening.specs.Model.Cells.{Held, old_of, con_number, cell_in}
use Rattle.flattening.specs.Model.Rows.{source_at, rows_for, row_at, pair_at, stepping, still, of, run_down, of_down, join_records, read_records, write_records}
use Rattle.flattening.specs.Model.Lines.{deep_in, wide_in, Notes, sort_line, word_line, bit_in, con_in, size_in, small, given_from, line_records}
use Rattle.flattening.specs.Model.Fits.{Neat}
use Rattle.flattening.proofs.Walk.{holds_length}
use Rattle.flattening.proofs.Rel.{Inv, KnownRel, word_small}
use Rattle.flattening.proofs.Laying.{size_two, join_some}
use Rattle.flattening.proofs.Rowing.{rows_ext, rows_more, const_records, state_records, init_next_records, ite_records, equality_records_lem, join_records_lem, write_pair, write_records_lem, so_far, read_pair, read_records_lem}

-- what is kept of a constant
abbrev pub KnownNote : Option ℕ → ℕ → Type 0
KnownNote none c = c ≡ 0
KnownNote (some v) c = c ≡ con_number (small v)

-- the numbers kept of the line a, of the type t, tell what the definition keeps of it
pub record NoteRel (N : Notes) (t : Ty) (a : ℕ) (f : Info) : Type 0 where
  pub elem : rank t.role ≡ 1 → sort_line N a ≡ f.elem
  -- a sort writes over no line
  pub sort : rank t.role ≡ 1 → old_of N.held a ≡ 0
  pub bit : bit_in N a ≡ f.bit
  pub index : f.index ≡ from (suc f.bit) (length f.index)
  pub cells : (j : ℕ) → j < length f.cells → j < 256 → cell_in N.held a j ≡ get_or f.cells j 0
  pub known : KnownNote f.known (con_in N a)

-- the index widths and widths are those of the lines so far
pub record Told (A : Frame) (N : Notes) : Type 0 where
  pub none : rank (type_at A.lay 0).role ≡ 0
  pub iw : (a : ℕ) → 1 ≤ rank (type_at A.lay a).role → deep_in N a ≡ (type_at A.lay a).iw
  pub w : (a : ℕ) → 1 ≤ rank (type_at A.lay a).role → wide_in N a ≡ (type_at A.lay a).w

-- ---- sources

module _ (H : Held) where
  still_at : (c j : ℕ) → c ≡ source_at H (still c) j
  still_at c j = omega arith

  of_at : (a j v : ℕ) → cell_in H a j ≡ v → v ≡ source_at H (of a) j
  of_at a j v e = sym e

  down_at : (a t j v : ℕ) → cell_in H a (t - j) ≡ v → v ≡ source_at H (of_down a t) j
  down_at a t j v e = sym e

  rows_as : (n k s : ℕ) (x y z : Source) (X Y Z : ℕ → ℕ) → ((j : ℕ) → j < n → X j ≡ source_at H x j) → ((j : ℕ) → j < n → Y j ≡ source_at H y j) → ((j : ℕ) → j < n → Z j ≡ source_at H z j)
      → rows_for n (λ j. fields k s (X j) (Y j) (Z j) ∷ []) ≡ rows_for n (row_at H k s x y z)
  rows_as n k s x y z X Y Z a b c = rows_ext n (λ j. fields k s (X j) (Y j) (Z j) ∷ []) (row_at H k s x y z) (λ j l i. fields k s (a j l i) (b j l i) (c j l i) ∷ [])

  pairs_as : (n p o i s : ℕ) (c x y : Source) (g : ℕ → List (List ℕ)) (C B X Y : ℕ → ℕ) → ((j : ℕ) → j < n → g j ≡ fields 21 o i (C j) 0 ∷ fields 53 s (B j) (X j) (Y j) ∷ []) → ((j : ℕ) → j < n → C j ≡ source_at H c j)
      → ((j : ℕ) → j < n → B j ≡ suc (p + 2 * j)) → ((j : ℕ) → j < n → X j ≡ source_at H x j) → ((j : ℕ) → j < n → Y j ≡ source_at H y j) → rows_for n g ≡ rows_for n (pair_at H p o i s c x y)
  pairs_as n p o i s c x y g C B X Y e ec eb ex ey =
      rows_ext n g (pair_at H p o i s c x y) (λ j l. e j l ∙ (λ m. fields 21 o i (ec j l m) 0 ∷ fields 53 s (eb j l m) (ex j l m) (ey j l m) ∷ []))

  -- the joins of an eq of the first cells and k others
  joined_records : (e : Bool) (s p k : ℕ) → map words_of (join_lines e s (suc p) (suc p + suc k) (from (suc (suc p)) k)) ≡ join_records H p (join_kind e) s (suc k)
  joined_records e s p zero = refl
  joined_records e s p (suc m) =
      let n = suc (suc m) in
      let c = suc p + n in
      let k = join_kind e in
      let q₁ : suc p ≡ p + 1 = omega arith in
      let q₂ : suc (suc p) ≡ p + 2 = omega arith in
      let q₃ : m ≡ n - 2 = omega arith in
      ap₂ (λ (x : List ℕ) (y : List (List ℕ)). x ∷ y) (λ i. fields k s (q₁ i) (q₂ i) 0)
      (join_records_lem e s c (suc (suc (suc p))) m
      ∙ rows_as m k s (stepping (p + n + 1) 1) (stepping (p + 3) 1) (still 0) (λ j. c + j) (λ j. suc (suc (suc p)) + j) (λ j. 0) (λ j l. omega arith) (λ j l. omega arith) (λ j l. still_at 0 j)
      ∙ ap (λ (x : ℕ). rows_for x (row_at H k s (stepping (p + n + 1) 1) (stepping (p + 3) 1) (still 0))) q₃)
      ∙ sym (join_some H p k s n (omega arith))

  -- a write
  wrote_records : (o s i v a p n : ℕ) (ps : List ℕ) → a ≢ 0 → length ps ≡ n → ((j : ℕ) → j < n → cell_in H a j ≡ get_or ps j 0)
      → map words_of (write_lines o s i v (suc p) (from (suc o) n) ps) ≡ write_records H p o i s v a n
  wrote_records o s i v a p n ps d e h =
      write_records_lem o s i v (suc p) (from (suc o) n) ps (length_from (suc o) n ∙ sym e)
      ∙ ap (λ (x : ℕ). rows_for x (write_pair o s i v (suc p) (from (suc o) n) ps)) e
      ∙ pairs_as n p o i s (stepping (o + 1) 1) (still v) (of a) (write_pair o s i v (suc p) (from (suc o) n) ps) (λ j. get_or (from (suc o) n) j 0) (λ j. suc p + 2 * j) (λ j. v) (λ j. get_or ps j 0) (λ j l. refl)
      (λ j l. from_at (suc o) n j l ∙ omega arith) (λ j l. omega arith) (λ j l. still_at v j) (λ j l. of_at a j (get_or ps j 0) (h j l))

  -- a read of two cells or more
  red_records : (o s i a p m : ℕ) (ps : List ℕ) → a ≢ 0 → ((j : ℕ) → j < suc (suc m) → cell_in H a j ≡ get_or ps j 0)
      → map words_of (read_chain o s i (from (suc o) (suc (suc m))) ps (get_or ps (suc m) 0) (suc p) (suc m)) ≡ read_records H p o i s a (suc (suc m))
  red_records o s i a p m ps d h =
      let n = suc (suc m) in
      let ks = from (suc o) n in
      let r = get_or ps (suc m) 0 in
      let g = read_pair o s i ks ps r (suc p) (suc m) in
      let t : n - 2 ≡ m = omega arith in
      let t₁ : n - 1 ≡ suc m = omega arith in
      read_records_lem o s i ks ps r (suc p) (suc m) ∙ rows_more m g
      ∙ ap₂ (λ (x y : List (List ℕ)). x ++ y)
      (pairs_as 1 p o i s (run_down (o + 1) (n - 2)) (of_down a (n - 2)) (still (cell_in H a (n - 1))) g (λ j. get_or ks (suc m - 1 - j) 0) (λ j. suc p + 2 * j) (λ j. get_or ps (suc m - 1 - j) 0) (λ j. so_far r (suc p) j) (λ j l. refl)
      (λ j l. from_at (suc o) n (suc m - 1 - j) (omega arith) ∙ omega arith) (λ j l. omega arith) (λ j l. down_at a (n - 2) j (get_or ps (suc m - 1 - j) 0) (ap (λ (x : ℕ). cell_in H a (x - j)) (omega arith) ∙ h (suc m - 1 - j) (omega arith)))
      (λ j l.
      let z : j ≡ 0 = omega arith in
      ap (so_far r (suc p)) z ∙ sym (h (suc m) (omega arith)) ∙ ap (λ (x : ℕ). cell_in H a x) (sym t₁) ∙ still_at (cell_in H a (n - 1)) j))
      (ap (λ (x : ℕ). rows_for x (λ j. g (suc j))) (sym t)
      ∙ pairs_as (n - 2) (p + 2) o i s (run_down (o + 1) (n - 3)) (of_down a (n - 3)) (stepping (p + 2) 2) (λ j. g (suc j)) (λ j. get_or ks (suc m - 1 - suc j) 0) (λ j. suc p + 2 * suc j) (λ j. get_or ps (suc m - 1 - suc j) 0) (λ j. so_far r (suc p) (suc j)) (λ j l. refl)
      (λ j l. from_at (suc o) n (suc m - 1 - suc j) (omega arith) ∙ omega arith) (λ j l. omega arith)
      (λ j l. down_at a (n - 3) j (get_or ps (suc m - 1 - suc j) 0) (ap (λ (x : ℕ). cell_in H a x) (let q : n - 3 - j ≡ suc m - 1 - suc j = omega arith in q) ∙ h (suc m - 1 - suc j) (omega arith)))
      (λ j l. omega arith))

-- ---- one line

module _ {A B : Frame} {I : List Info} (v : Inv A B I) (N : Notes) (ne : Neat N) (tl : Told A N) (nr : (a : ℕ) → NoteRel N (type_at A.lay a) a (info_at I a)) (p : ℕ) where
  pub is_line : (a : ℕ) → 1 ≤ rank (type_at A.lay a).role → a ≢ 0
  is_line a h e = let z : rank (type_at A.lay a).role ≡ 0 = ap (λ (x : ℕ). rank (type_at A.lay x).role) e ∙ tl.none in omega arith

  -- the cells of a value
  pub size_of : (a : ℕ) → 2 ≤ rank (type_at A.lay a).role → length (lines_at I a) ≡ size_in N a
  size_of a h = let r = (v.rel a).value h in holds_length r.held ∙ r.len ∙ ap (λ (i : ℕ). 2 ^ i) (sym (tl.iw a (omega arith)))

  pub cell_of : (a : ℕ) → 2 ≤ rank (type_at A.lay a).role → (j : ℕ) → j < size_in N a → cell_in N.held a j ≡ get_or (lines_at I a) j 0
  cell_of a h j l = (nr a).cells j (subst⁻¹ (λ (n : ℕ). j < n) (size_of a h) l) (let z : size_in N a ≤ 256 = pow_mono (ne.deep a) in omega arith)

  from_line : (a : ℕ) → 2 ≤ rank (type_at A.lay a).role → (j : ℕ) → j < size_in N a → get_or (lines_at I a) j 0 ≡ source_at N.held (of a) j
  from_line a h j l = of_at N.held a j (get_or (lines_at I a) j 0) (cell_of a h j l)

  pub word_line_lem : (a : ℕ) → IsWord (type_at A.lay a) → line_at I a ≡ word_line N a
  word_line_lem a k = sym (cell_of a k.is 0 (pow_pos (deep_in N a)))

  pub elem_of : (s : ℕ) → rank (type_at A.lay s).role ≡ 1 → (info_at I s).elem ≡ sort_line N s
  elem_of s e = sym ((nr s).elem e)

  size_sort : (s : ℕ) → rank (type_at A.lay s).role ≡ 1 → (info_at I s).size ≡ size_in N s
  size_sort s e = ((v.rel s).sort e).size ∙ ap (λ (i : ℕ). 2 ^ i) (sym (tl.iw s (omega arith)))

  -- two values of the same sort have as many cells
  same_size : (a b : ℕ) → 2 ≤ rank (type_at A.lay a).role → 2 ≤ rank (type_at A.lay b).role → (type_at A.lay b).iw ≡ (type_at A.lay a).iw → size_in N b ≡ size_in N a
  same_size a b ha hb e = ap (λ (i : ℕ). 2 ^ i) (tl.iw b (omega arith) ∙ e ∙ sym (tl.iw a (omega arith)))

  array_records_lem : (i e : ℕ) → OkLine false (ty_at A.lay.ctx) (given A.lay.ctx) (Line.array i e) → map words_of (chunk I (suc p) (Line.array i e)).lines ≡ line_records N p (Line.array i e)
  array_records_lem i e k =
      let H = N.held in
      let q : (info_at I i).width ≡ wide_in N i = ((v.rel i).sort k.index.is).wide ∙ sym (tl.w i (omega (arith, k.index.is))) in
      let n = 2 ^ (info_at I i).width in
      let s = (info_at I i).elem in
      ap (λ (w : List (List ℕ)). fields 1 0 1 0 0 ∷ w)
      (const_records s 0 n ∙ rows_as H n 3 s (stepping 0 1) (still 0) (still 0) (λ j. 0 + j) (λ j. 0) (λ j. 0) (λ j l. omega arith) (λ j l. still_at H 0 j) (λ j l. still_at H 0 j)
      ∙ ap₂ (λ (x y : ℕ). rows_for (2 ^ x) (row_at H 3 y (stepping 0 1) (still 0) (still 0))) q (elem_of i k.index.is))

  state_line_records : (s : ℕ) → OkLine false (ty_at A.lay.ctx) (given A.lay.ctx) (Line.state s) → map words_of (chunk I (suc p) (Line.state s)).lines ≡ line_records N p (Line.state s)
  state_line_records s k =
      let H = N.held in
      let e = (info_at I s).elem in
      let n = (info_at I s).size in
      state_records e n ∙ rows_as H n 5 e (still 0) (still 0) (still 0) (λ j. 0) (λ j. 0) (λ j. 0) (λ j l. still_at H 0 j) (λ j l. still_at H 0 j) (λ j l. still_at H 0 j)
      ∙ ap₂ (λ (x y : ℕ). rows_for x (row_at H 5 y (still 0) (still 0) (still 0))) (size_sort s k.is) (elem_of s k.is)

  -- what an init or a next gives to n cells
  record GivenAs (m : Bool) (n a : ℕ) : Type 0 where
    len : length (value_lines I m n a) ≡ n
    at : (j : ℕ) → j < n → get_or (value_lines I m n a) j 0 ≡ source_at N.held (given_from N m a) j

  given_as : (m : Bool) (n q a : ℕ) (t : Ty) → OkValue m q a (type_at A.lay a) → (type_at A.lay a).iw ≡ value_index m t → 2 ^ t.iw ≡ n → GivenAs m n a
  given_as true n q a t k e h =
      record {
        len = length-replicate n (line_at I a);
        at = λ j l. get_or-replicate n j (line_at I a) 0 l ∙ word_line_lem a k.word ∙ still_at N.held (word_line N a) j;
      }
  given_as false n q a t k e h =
      let z : size_in N a ≡ n = ap (λ (i : ℕ). 2 ^ i) (tl.iw a (let g : 2 ≤ rank (type_at A.lay a).role = k.is in omega arith) ∙ e) ∙ h in
      record { len = size_of a k.is ∙ z; at = λ j l. from_line a k.is j (subst⁻¹ (λ (x : ℕ). j < x) z l) }

  init_next_line_records : (m : Bool) (s q a : ℕ) → OkLine false (ty_at A.lay.ctx) (given A.lay.ctx) (Line.init_or_next m s q a) → map words_of (chunk I (suc p) (Line.init_or_next m s q a)).lines ≡ line_records N p (Line.init_or_next m s q a)
  init_next_line_records m s q a k =
      let H = N.held in
      let hq : 2 ≤ rank (type_at A.lay q).role = (let h : rank (type_at A.lay q).role ≡ 4 = k.state in omega arith) in
      let n = length (lines_at I q) in
      let eq = size_of q hq in
      let e = (info_at I s).elem in
      let g = given_as m n q a (type_at A.lay s) k.value k.iw (ap (λ (i : ℕ). 2 ^ i) (sym k.same.iw ∙ sym (tl.iw q (omega arith))) ∙ sym eq) in
      init_next_records m e (lines_at I q) (value_lines I m n a) (sym g.len)
      ∙ rows_as H n (init_or_next_kind m) e (of q) (given_from N m a) (still 0) (λ j. get_or (lines_at I q) j 0) (λ j. get_or (value_lines I m n a) j 0) (λ j. 0) (λ j l. from_line q hq j (subst (λ (x : ℕ). j < x) eq l)) g.at (λ j l. still_at H 0 j)
      ∙ ap₂ (λ (x y : ℕ). rows_for x (row_at H (init_or_next_kind m) y (of q) (given_from N m a) (still 0))) eq (elem_of s k.sort.is)

  ite_line_records : (s c x y : ℕ) → OkLine false (ty_at A.lay.ctx) (given A.lay.ctx) (Line.value s (Expr.ite c x y)) → map words_of (chunk I (suc p) (Line.value s (Expr.ite c x y))).lines ≡ line_records N p (Line.value s (Expr.ite c x y))
  ite_line_records s c x y k =
      let H = N.held in
      let ex = size_of x k.left.is in
      let exy : size_in N y ≡ size_in N x = same_size x y k.left.is k.right.is (k.same_b.iw ∙ sym k.same_a.iw) in
      let e = (info_at I s).elem in
      let w = line_at I c in
      let n = length (lines_at I x) in
      ite_records e w (lines_at I x) (lines_at I y) (ex ∙ sym exy ∙ sym (size_of y k.right.is))
      ∙ rows_as H n 53 e (still w) (of x) (of y) (λ j. w) (λ j. get_or (lines_at I x) j 0) (λ j. get_or (lines_at I y) j 0) (λ j l. still_at H w j) (λ j l. from_line x k.left.is j (subst (λ (m : ℕ). j < m) ex l))
      (λ j l. from_line y k.right.is j (subst (λ (m : ℕ). j < m) (ex ∙ sym exy) l))
      ∙ (λ i. rows_for (ex i) (row_at H 53 (elem_of s k.sort.is i) (still (word_line_lem c k.cond i)) (of x) (of y)))

  equality_line_records : (s : ℕ) (e : Bool) (x y : ℕ) → OkLine false (ty_at A.lay.ctx) (given A.lay.ctx) (Line.value s (Expr.equality e x y)) → map words_of (chunk I (suc p) (Line.value s (Expr.equality e x y))).lines ≡ line_records N p (Line.value s (Expr.equality e x y))
  equality_line_records s e x y k =
      let H = N.held in
      let ex = size_of x k.left.is in
      let exy : size_in N y ≡ size_in N x = same_size x y k.left.is k.right.is k.same.iw in
      let t = (info_at I s).elem in
      let n = length (lines_at I x) in
      let es = elem_of s k.sort.is in
      let one : n ≡ suc (n - 1) = omega (arith, ex, pow_pos (deep_in N x)) in
      map-append words_of (equality_lines e t (lines_at I x) (lines_at I y)) (join_lines e t (suc p) (suc p + n) (from (suc (suc p)) (n - 1)))
      ∙ ap₂ (λ (u w : List (List ℕ)). u ++ w)
      (equality_records_lem e t (lines_at I x) (lines_at I y) (ex ∙ sym exy ∙ sym (size_of y k.right.is))
      ∙ rows_as H n (equality_kind e) t (of x) (of y) (still 0) (λ j. get_or (lines_at I x) j 0) (λ j. get_or (lines_at I y) j 0) (λ j. 0) (λ j l. from_line x k.left.is j (subst (λ (m : ℕ). j < m) ex l))
      (λ j l. from_line y k.right.is j (subst (λ (m : ℕ). j < m) (ex ∙ sym exy) l)) (λ j l. still_at H 0 j)
      ∙ (λ i. rows_for (ex i) (row_at H (equality_kind e) (es i) (of x) (of y) (still 0))))
      (ap (λ (i : ℕ). map words_of (join_lines e t (suc p) (suc p + i) (from (suc (suc p)) (n - 1)))) one
      ∙ joined_records H e t p (n - 1) ∙ (λ i. join_records H p (join_kind e) (es i) ((sym one ∙ ex) i)))

  -- a constant index is small
  pub index_small : (i k : ℕ) → IsWord (type_at A.lay i) → (type_at A.lay i).w ≤ 8 → cells_at A i ≡ k ∷ [] → k < 256
  index_small i k h l e =
      let z : get_or (cells_at A i) 0 0 < 2 ^ (type_at A.lay i).w = word_small v i h.is in
      let q : 2 ^ (type_at A.lay i).w ≤ 2 ^ 8 = pow_mono l in
      let c : get_or (cells_at A i) 0 0 ≡ k = ap (λ (x : List ℕ). get_or x 0 0) e in
      omega arith

  pub con_some : (i k c : ℕ) → k < 256 → c ≡ con_number (small k) → c ≡ k + 1
  con_some i k c h e = e ∙ ap (λ (b : Bool). con_number (pick b (Some k) None)) (lt-ltb k 256 h)

  -- the index constants of an array
  index_list : (a : ℕ) (n : ℕ) → length (info_at I a).index ≡ n → (info_at I a).index ≡ from (suc (bit_in N a)) n
  index_list a n e = (nr a).index ∙ ap₂ (λ (x y : ℕ). from (suc x) y) (sym (nr a).bit) e

  index_length : (a : ℕ) → 2 ≤ rank (type_at A.lay a).role → 0 < (type_at A.lay a).iw → length (info_at I a).index ≡ size_in N a
  index_length a h d =
      holds_length (((v.rel a).value h).sort.arr d).index ∙ length_from 0 (2 ^ (type_at A.lay a).iw) ∙ ap (λ (i : ℕ). 2 ^ i) (sym (tl.iw a (omega arith)))

  index_sort : (s : ℕ) → rank (type_at A.lay s).role ≡ 1 → 0 < (type_at A.lay s).iw → length (info_at I s).index ≡ size_in N s
  index_sort s h d = holds_length (((v.rel s).sort h).arr d).index ∙ length_from 0 (2 ^ (type_at A.lay s).iw) ∙ ap (λ (i : ℕ). 2 ^ i) (sym (tl.iw s (omega arith)))

  -- k cells lie before the last
  read_all : (o s i a k : ℕ) (ps : List ℕ) → a ≢ 0 → 0 < k → ((j : ℕ) → j < suc k → cell_in N.held a j ≡ get_or ps j 0)
      → map words_of (read_chain o s i (from (suc o) (suc k)) ps (get_or ps k 0) (suc p) k) ≡ read_records N.held p o i s a (suc k)
  read_all o s i a zero ps d h c = absurd (omega arith)
  read_all o s i a (suc m) ps d h c = red_records N.held o s i a p m ps d c

  read_line_records : (s a i : ℕ) → OkLine false (ty_at A.lay.ctx) (given A.lay.ctx) (Line.value s (Expr.read a i)) → map words_of (chunk I (suc p) (Line.value s (Expr.read a i))).lines ≡ line_records N p (Line.value s (Expr.read a i))
  read_line_records s a i k = go (info_at I i).known ((v.rel i).value k.index.is).known (nr i).known
    where
      ha : 2 ≤ rank (type_at A.lay a).role
      ha = k.arr.is

      deep : (type_at A.lay i).w ≤ 8
      deep = let e : deep_in N a ≡ (type_at A.lay a).iw = tl.iw a (omega arith) in let f = ne.deep a in let g : (type_at A.lay i).w ≡ (type_at A.lay a).iw = k.iw in omega arith

      go : (c : Option ℕ) → KnownRel c (cells_at A i) → KnownNote c (con_in N i)
          → map words_of (chunk_read (info_at I s) (info_at I a) c (line_at I i) (suc p)).lines ≡ line_records N p (Line.value s (Expr.read a i))
      go (some x) r z =
          let q = con_some i x (con_in N i) (index_small i x k.index deep r) z in
          sym (rw (ne_eqb (con_in N i) 0 (λ w. omega arith)))
      go none r z =
          let n = size_in N a in
          let two : 2 ≤ n = size_two (deep_in N a) (let e : deep_in N a ≡ (type_at A.lay a).iw = tl.iw a (omega arith) in let d : 0 < (type_at A.lay a).iw = k.arr.deep in omega arith) in
          let last = length (lines_at I a) - 1 in
          let e : n ≡ suc last = omega (arith, size_of a ha) in
          (λ m.
          map words_of
          (read_chain (sym (nr a).bit m) (elem_of s k.sort.is m) (word_line_lem i k.index m) ((index_list a n (index_length a ha k.arr.deep) ∙ ap (from (suc (bit_in N a))) e) m) (lines_at I a) (get_or (lines_at I a) last 0) (suc p) last))
          ∙ read_all (bit_in N a) (sort_line N s) (word_line N i) a last (lines_at I a) (is_line a (omega arith)) (omega arith) (λ j l. cell_of a ha j (subst⁻¹ (λ (x : ℕ). j < x) e l))
          ∙ ap (read_records N.held p (bit_in N a) (word_line N i) (sort_line N s) a) (sym e) ∙ sym (rw (eq-eqb (con_in N i) 0 z))

  write_line_records : (s a i x : ℕ) → OkLine false (ty_at A.lay.ctx) (given A.lay.ctx) (Line.value s (Expr.write a i x)) → map words_of (chunk I (suc p) (Line.value s (Expr.write a i x))).lines ≡ line_records N p (Line.value s (Expr.write a i x))
  write_line_records s a i x k = go (info_at I i).known ((v.rel i).value k.index.is).known (nr i).known
    where
      ha : 2 ≤ rank (type_at A.lay a).role
      ha = k.arr.is

      is : rank (type_at A.lay s).role ≡ 1
      is = k.sort.is

      deep : (type_at A.lay i).w ≤ 8
      deep = let e : deep_in N s ≡ (type_at A.lay s).iw = tl.iw s (omega arith) in let f = ne.deep s in let g : (type_at A.lay i).w ≡ (type_at A.lay s).iw = k.iw in omega arith

      same : size_in N a ≡ size_in N s
      same = ap (λ (j : ℕ). 2 ^ j) (tl.iw a (omega arith) ∙ k.same.iw ∙ sym (tl.iw s (omega arith)))

      go : (c : Option ℕ) → KnownRel c (cells_at A i) → KnownNote c (con_in N i)
          → map words_of (chunk_write (info_at I s) (lines_at I a) c (line_at I i) (line_at I x) (suc p)).lines ≡ line_records N p (Line.value s (Expr.write a i x))
      go (some y) r z =
          let q = con_some i y (con_in N i) (index_small i y k.index deep r) z in
          sym (rw (ne_eqb (con_in N i) 0 (λ w. omega arith)))
      go none r z =
          let n = size_in N s in
          (λ m. map words_of (write_lines (sym (nr s).bit m) (elem_of s is m) (word_line_lem i k.index m) (word_line_lem x k.value m) (suc p) (index_list s n (index_sort s is k.sort.deep) m) (lines_at I a)))
          ∙ wrote_records N.held (bit_in N s) (sort_line N s) (word_line N i) (word_line N x) a p n (lines_at I a) (is_line a (omega arith)) (size_of a ha ∙ same) (λ j l. cell_of a ha j (subst⁻¹ (λ (m : ℕ). j < m) same l))
          ∙ sym (rw (eq-eqb (con_in N i) 0 z))

  -- any line
  pub line_records_lem : (l : Line) → OkLine false (ty_at A.lay.ctx) (given A.lay.ctx) l → map words_of (chunk I (suc p) l).lines ≡ line_records N p l
  line_records_lem (Line.bitvec w) k = refl
  line_records_lem (Line.array i e) k = array_records_lem i e k
  line_records_lem (Line.input s) k = ap (λ (e : ℕ). fields 4 e 0 0 0 ∷ []) (elem_of s k.is)
  line_records_lem (Line.state s) k = state_line_records s k
  line_records_lem (Line.value s (Expr.const c)) k = ap (λ (e : ℕ). fields 3 e c 0 0 ∷ []) (elem_of s k.sort.is)
  line_records_lem (Line.value s (Expr.unary h a x y)) k = ap₂ (λ (e w : ℕ). fields h e w x y ∷ []) (elem_of s k.sort.is) (word_line_lem a k.arg)
  line_records_lem (Line.value s (Expr.binary h a b)) k = λ i. fields h (elem_of s k.sort.is i) (word_line_lem a k.left i) (word_line_lem b k.right i) 0 ∷ []
  line_records_lem (Line.value s (Expr.equality e a b)) k = equality_line_records s e a b k
  line_records_lem (Line.value s (Expr.ite c a b)) k = ite_line_records s c a b k
  line_records_lem (Line.value s (Expr.read a i)) k = read_line_records s a i k
  line_records_lem (Line.value s (Expr.write a i x)) k = write_line_records s a i x k
  line_records_lem (Line.init_or_next m s q a) k = init_next_line_records m s q a k
  line_records_lem (Line.signal true a) k = ap (λ (w : ℕ). fields 8 0 w 0 0 ∷ []) (word_line_lem a k.word)
  line_records_lem (Line.signal false a) k = ap (λ (w : ℕ). fields 9 0 w 0 0 ∷ []) (word_line_lem a k.word)
  line_records_lem (Line.output a) k = ap (λ (w : ℕ). fields 10 0 w 0 0 ∷ []) (word_line_lem a k)
  line_records_lem Line.unknown k = absurd k
