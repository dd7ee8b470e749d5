-- What a line asks of the list P and of the work area, so that the code may compute it there. Assumes nothing.
use Rattle.std.specs.Prelude.{ℕ, ◌+◌, ◌^◌, ◌≤◌, ◌<◌, ◌≡◌, Bool, true, false, List, length}
use Rattle.words.specs.Word.{Width}
use Rattle.words.specs.Op.{op_of}
use Rattle.words.specs.Model.Classes.{class_of}
use Rattle.words.specs.Model.Widths.{Widths, width_of}
use Rattle.tables.specs.Lines.{Line, Expr}
use Rattle.circuits.specs.Model.Work.{off_in, num_in, pos_in, wid_in, word_kept}

-- the word of the line a, or its run, lies below m
pub record WordBelow (P : List (List ℕ)) (m a : ℕ) : Type 0 where
  pub known : a ≤ 16384
  pub below : off_in P a < m

pub record RunBelow (P : List (List ℕ)) (m a : ℕ) : Type 0 where
  pub known : a ≤ 16384
  pub ends : off_in P a + num_in P a ≤ m

-- a word operator of the kind k, on words of the widths u and v, for a line of the width w
pub record Below (k w u v a b c : ℕ) : Type 0 where
  pub first : a < 2 ^ u
  pub second : b < 2 ^ v
  pub third : c < 2 ^ v
  pub width : w ≡ width_of (class_of (op_of k)) u v b c

pub record FitWord (p : Bool) (k w u v a b c : ℕ) : Type 0 where
  pub least : 11 ≤ k
  pub wide : Width u
  pub widths : Widths (class_of (op_of k)) u v b c
  -- words of a circuit are below 2 to their width
  pub below : p ≡ false → Below k w u v a b c

pub record FitUnary (p : Bool) (P : List (List ℕ)) (w : List ℕ) (n k a x y : ℕ) : Type 0 where
  pub la : WordBelow P (off_in P n) a
  pub op : FitWord p k (wid_in P n) (wid_in P a) 64 (word_kept P w a) x y

pub record FitBinary (p : Bool) (P : List (List ℕ)) (w : List ℕ) (n k a b : ℕ) : Type 0 where
  pub la : WordBelow P (off_in P n) a
  pub lb : WordBelow P (off_in P n) b
  pub op : FitWord p k (wid_in P n) (wid_in P a) (wid_in P b) (word_kept P w a) (word_kept P w b) 0

pub record FitEquality (P : List (List ℕ)) (n a b : ℕ) : Type 0 where
  pub la : RunBelow P (off_in P n) a
  pub lb : RunBelow P (off_in P n) b
  pub size : num_in P b ≡ num_in P a

pub record FitIte (P : List (List ℕ)) (n c a b : ℕ) : Type 0 where
  pub lc : WordBelow P (off_in P n) c
  pub la : RunBelow P (off_in P n) a
  pub lb : RunBelow P (off_in P n) b
  pub size_a : num_in P a ≡ num_in P n
  pub size_b : num_in P b ≡ num_in P n

pub record FitRead (P : List (List ℕ)) (w : List ℕ) (n a i : ℕ) : Type 0 where
  pub la : RunBelow P (off_in P n) a
  pub li : WordBelow P (off_in P n) i
  pub inside : word_kept P w i < num_in P a

pub record FitWrite (P : List (List ℕ)) (w : List ℕ) (n a i v : ℕ) : Type 0 where
  pub la : RunBelow P (off_in P n) a
  pub li : WordBelow P (off_in P n) i
  pub lv : WordBelow P (off_in P n) v
  pub size : num_in P a ≡ num_in P n
  pub inside : word_kept P w i < num_in P a

abbrev pub FitE : (program : Bool) (P : List (List ℕ)) (w : List ℕ) → ℕ → Expr → Type 0
FitE p P w n (Expr.const v) = Unit {0}
FitE p P w n (Expr.unary k a x y) = FitUnary p P w n k a x y
FitE p P w n (Expr.binary k a b) = FitBinary p P w n k a b
FitE p P w n (Expr.equality e a b) = FitEquality P n a b
FitE p P w n (Expr.ite c a b) = FitIte P n c a b
FitE p P w n (Expr.read a i) = FitRead P w n a i
FitE p P w n (Expr.write a i v) = FitWrite P w n a i v

-- a line that has a value: its own run is in the work area
pub record Own (P : List (List ℕ)) (len n : ℕ) : Type 0 where
  pub word : WordBelow P len n
  pub wide : Width (wid_in P n)
  pub run : RunBelow P len n

pub record FitInput (P : List (List ℕ)) (len ins n : ℕ) : Type 0 where
  pub own : Own P len n
  pub input : pos_in P n < ins

pub record FitValue (p : Bool) (P : List (List ℕ)) (w : List ℕ) (n : ℕ) (e : Expr) : Type 0 where
  pub own : Own P (length w) n
  pub expr : FitE p P w n e

-- a state: its cells lie below the state words
pub record FitState (P : List (List ℕ)) (all len n : ℕ) : Type 0 where
  pub known : n ≤ 16384
  pub wide : Width (wid_in P n)
  pub cells : off_in P n + num_in P n ≤ all
  pub words : all + pos_in P n + num_in P n ≤ len

pub record FitInit (P : List (List ℕ)) (all len q v : ℕ) : Type 0 where
  pub known : q ≤ 16384
  pub value : WordBelow P len v
  pub words : all + pos_in P q + num_in P q ≤ len

pub record FitNext (P : List (List ℕ)) (all len q v : ℕ) : Type 0 where
  pub known : q ≤ 16384
  pub value : RunBelow P all v
  pub size : num_in P v ≡ num_in P q
  pub words : all + pos_in P q + num_in P q ≤ len

pub record FitSignal (P : List (List ℕ)) (len sigs n a : ℕ) : Type 0 where
  pub known : n ≤ 16384
  pub word : WordBelow P len a
  pub signal : pos_in P n < sigs

abbrev pub FitInitOrNext : (init : Bool) (P : List (List ℕ)) → (all len q v : ℕ) → Type 0
FitInitOrNext true P all len q v = FitInit P all len q v
FitInitOrNext false P all len q v = FitNext P all len q v

abbrev pub FitL : (program : Bool) (P : List (List ℕ)) → (all ins sigs : ℕ) → List ℕ → ℕ → Line → Type 0
FitL p P all ins sigs w n (Line.bitvec x) = Unit {0}
FitL p P all ins sigs w n (Line.array i e) = Unit {0}
FitL p P all ins sigs w n (Line.input s) = FitInput P (length w) ins n
FitL p P all ins sigs w n (Line.state s) = FitState P all (length w) n
FitL p P all ins sigs w n (Line.value s e) = FitValue p P w n e
FitL p P all ins sigs w n (Line.init_or_next m s q v) = FitInitOrNext m P all (length w) q v
FitL p P all ins sigs w n (Line.signal m a) = FitSignal P (length w) sigs n a
FitL p P all ins sigs w n (Line.output a) = Unit {0}
FitL p P all ins sigs w n Line.unknown = Unit {0}
