-- No line of a flat circuit is an array sort, so no record of its table has kind 2. Assumes nothing.
use Prim.Native.Nat.{ℕ, zero, suc, ◌+◌, ◌-◌, ◌^◌}
use mathlib.Core.Logic.{◌≢◌}
use mathlib.Core.Bool.{Bool, true, false}
use mathlib.Core.Option.{Option, none, some}
use mathlib.Core.List.{List, [], ◌∷◌, ◌++◌, map}
use native.Mathlib.Omega.{arith}
use lib.ListN.{length, get_or, replicate}
use Rattle.tables.specs.Lines.{Line, bitvec, array, input, state, value, init_or_next, signal, output, unknown, const, unary, binary, equality, ite, read, write, words_of, kind_in}
use Rattle.tables.specs.Types.{Ctx, ty_at, given, grow}
use Rattle.tables.specs.Layout.{from}
use Rattle.tables.proofs.Shapes.{binary_range}
use Rattle.tables.proofs.Facts.{OkLine, AllOk}
use Rattle.flattening.specs.Flat.{Info, no_info, info_at, lines_at, line_at, chunk, chunk_read, chunk_write, const_lines, ite_lines, equality_lines, join_lines, write_lines, read_chain, init_or_next_lines, value_lines, flatten_from, flatten}

-- a line that is no array sort
abbrev pub Plain : Line → Type 0
Plain (bitvec w) = Unit {0}
Plain (array i e) = ⊥
Plain (input s) = Unit {0}
Plain (state s) = Unit {0}
Plain (value s e) = Unit {0}
Plain (init_or_next m s q v) = Unit {0}
Plain (signal m a) = Unit {0}
Plain (output a) = Unit {0}
Plain unknown = Unit {0}

abbrev pub AllPlain : List Line → Type 0
AllPlain [] = Unit {0}
AllPlain (l ∷ ls) = Plain l × AllPlain ls

plain_append : (xs ys : List Line) → AllPlain xs → AllPlain ys → AllPlain (xs ++ ys)
plain_append [] ys h k = k
plain_append (l ∷ xs) ys h k = (h.0, plain_append xs ys h.1 k)

consts_plain : (s : ℕ) (ks : List ℕ) → AllPlain (const_lines s ks)
consts_plain s [] = tt
consts_plain s (k ∷ ks) = (tt, consts_plain s ks)

states_plain : (n s : ℕ) → AllPlain (replicate n (state s))
states_plain zero s = tt
states_plain (suc n) s = (tt, states_plain n s)

gives_plain : (m : Bool) (s : ℕ) (qs vs : List ℕ) → AllPlain (init_or_next_lines m s qs vs)
gives_plain m s [] vs = tt
gives_plain m s (q ∷ qs) [] = tt
gives_plain m s (q ∷ qs) (v ∷ vs) = (tt, gives_plain m s qs vs)

ites_plain : (s c : ℕ) (ps qs : List ℕ) → AllPlain (ite_lines s c ps qs)
ites_plain s c [] qs = tt
ites_plain s c (p ∷ ps) [] = tt
ites_plain s c (p ∷ ps) (q ∷ qs) = (tt, ites_plain s c ps qs)

cmps_plain : (e : Bool) (s : ℕ) (ps qs : List ℕ) → AllPlain (equality_lines e s ps qs)
cmps_plain e s [] qs = tt
cmps_plain e s (p ∷ ps) [] = tt
cmps_plain e s (p ∷ ps) (q ∷ qs) = (tt, cmps_plain e s ps qs)

joins_plain : (e : Bool) (s r b : ℕ) (ps : List ℕ) → AllPlain (join_lines e s r b ps)
joins_plain e s r b [] = tt
joins_plain e s r b (p ∷ ps) = (tt, joins_plain e s b (suc b) ps)

writes_plain : (o s i v b : ℕ) (ks ps : List ℕ) → AllPlain (write_lines o s i v b ks ps)
writes_plain o s i v b [] ps = tt
writes_plain o s i v b (k ∷ ks) [] = tt
writes_plain o s i v b (k ∷ ks) (p ∷ ps) = (tt, (tt, writes_plain o s i v (suc (suc b)) ks ps))

reads_plain : (o s i : ℕ) (ks ps : List ℕ) (r b k : ℕ) → AllPlain (read_chain o s i ks ps r b k)
reads_plain o s i ks ps r b zero = tt
reads_plain o s i ks ps r b (suc k) = (tt, (tt, reads_plain o s i ks ps (suc b) (suc (suc b)) k))

read_plain : (f g : Info) (c : Option ℕ) (i b : ℕ) → AllPlain (chunk_read f g c i b).lines
read_plain f g (some k) i b = tt
read_plain f g none i b = let k = length g.cells - 1 in reads_plain g.bit f.elem i g.index g.cells (get_or g.cells k 0) b k

write_plain : (f : Info) (ps : List ℕ) (c : Option ℕ) (i v b : ℕ) → AllPlain (chunk_write f ps c i v b).lines
write_plain f ps (some k) i v b = tt
write_plain f ps none i v b = writes_plain f.bit f.elem i v b f.index ps

chunk_plain : (I : List Info) (b : ℕ) (l : Line) → AllPlain (chunk I b l).lines
chunk_plain I b (bitvec w) = (tt, tt)
chunk_plain I b (array i e) = (tt, consts_plain (info_at I i).elem (from 0 (2 ^ (info_at I i).width)))
chunk_plain I b (input s) = (tt, tt)
chunk_plain I b (state s) = states_plain (info_at I s).size (info_at I s).elem
chunk_plain I b (value s (const v)) = (tt, tt)
chunk_plain I b (value s (unary k a x y)) = (tt, tt)
chunk_plain I b (value s (binary k x y)) = (tt, tt)
chunk_plain I b (value s (equality e x y)) =
    let n = length (lines_at I x) in
    plain_append (equality_lines e (info_at I s).elem (lines_at I x) (lines_at I y)) _ (cmps_plain e (info_at I s).elem (lines_at I x) (lines_at I y))
    (joins_plain e (info_at I s).elem b (b + n) (from (suc b) (n - 1)))
chunk_plain I b (value s (ite c x y)) = ites_plain (info_at I s).elem (line_at I c) (lines_at I x) (lines_at I y)
chunk_plain I b (value s (read a i)) = read_plain (info_at I s) (info_at I a) (info_at I i).known (line_at I i) b
chunk_plain I b (value s (write a i v)) = write_plain (info_at I s) (lines_at I a) (info_at I i).known (line_at I i) (line_at I v) b
chunk_plain I b (init_or_next m s q v) = gives_plain m (info_at I s).elem (lines_at I q) (value_lines I m (length (lines_at I q)) v)
chunk_plain I b (signal m a) = (tt, tt)
chunk_plain I b (output a) = (tt, tt)
chunk_plain I b unknown = (tt, tt)

all_plain : (I : List Info) (b : ℕ) (ls : List Line) → AllPlain (flatten_from I b ls)
all_plain I b [] = tt
all_plain I b (l ∷ ls) =
    let c = chunk I b l in
    plain_append c.lines _ (chunk_plain I b l) (all_plain (I ++ (c.info ∷ [])) (b + length c.lines) ls)

pub flat_plain : (C : List Line) → AllPlain (flatten C)
unfolding flatten
flat_plain C = all_plain (no_info ∷ []) 1 C

-- ---- kinds

plain_kind : (c : Ctx) (l : Line) → Plain l → OkLine false (ty_at c) (given c) l → kind_in (words_of l) ≢ 2
plain_kind c (bitvec w) h k e = omega arith
plain_kind c (array i x) h k e = h
plain_kind c (input s) h k e = omega arith
plain_kind c (state s) h k e = omega arith
plain_kind c (value s (const v)) h k e = omega arith
plain_kind c (value s (unary n a x y)) h k e = let l = k.kind.0 in omega arith
plain_kind c (value s (binary n x y)) h k e = let l = binary_range k.kind in omega arith
plain_kind c (value s (equality true x y)) h k e = omega arith
plain_kind c (value s (equality false x y)) h k e = omega arith
plain_kind c (value s (ite d x y)) h k e = omega arith
plain_kind c (value s (read a i)) h k e = omega arith
plain_kind c (value s (write a i v)) h k e = omega arith
plain_kind c (init_or_next true s q v) h k e = omega arith
plain_kind c (init_or_next false s q v) h k e = omega arith
plain_kind c (signal true a) h k e = omega arith
plain_kind c (signal false a) h k e = omega arith
plain_kind c (output a) h k e = omega arith
plain_kind c unknown h k e = k

-- the kind of every record
pub no_kind_two : (c : Ctx) (ls : List Line) → AllPlain ls → AllOk false c ls → (i : ℕ) → kind_in (get_or (map words_of ls) i []) ≢ 2
no_kind_two c [] h k i e = omega arith
no_kind_two c (l ∷ ls) h k zero e = plain_kind c l h.0 k.0 e
no_kind_two c (l ∷ ls) h k (suc i) e = no_kind_two (grow false c l) ls h.1 k.1 i e
