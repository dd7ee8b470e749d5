-- Which states have been given words by the lines so far: by an init (f is true), or by a next (false). Assumes nothing.
use Prim.Native.Nat.{ℕ}
use mathlib.Core.Path.{◌≡◌, refl, sym, ap, ◌∙◌}
use mathlib.Core.Bool.{Bool, true, false, ◌||◌}
use mathlib.Core.List.{List, [], ◌∷◌, ◌++◌, append-nil}
use borrow.Author.Tests.{eq-eqb, ne_eqb}
use Rattle.tables.specs.Pick.{pick, among, alike}
use Rattle.tables.specs.Lines.{Line}
use Rattle.tables.specs.Types.{ty_at, given, given_by, given_after, Ctx, grow}
use Rattle.tables.proofs.Kept.{no_yes}
use Rattle.tables.proofs.Showing.{among_join}
use Rattle.tables.proofs.Facts.{OkLine}

-- the state that the line l gives words, if it gives any
abbrev pub gives_to : (f : Bool) (l : Line) → List ℕ
gives_to f (Line.bitvec w) = []
gives_to f (Line.array i e) = []
gives_to f (Line.input s) = []
gives_to f (Line.state s) = []
gives_to f (Line.value s e) = []
gives_to f (Line.init_or_next m s q v) = pick (alike f m) (q ∷ []) []
gives_to f (Line.signal m a) = []
gives_to f (Line.output a) = []
gives_to f Line.unknown = []

add_if : (b : Bool) (xs : List ℕ) (q : ℕ) → pick b (xs ++ (q ∷ [])) xs ≡ xs ++ pick b (q ∷ []) []
add_if true xs q = refl
add_if false xs q = sym (append-nil xs)

more_given : (f : Bool) (c : Ctx) (l : Line) → given_after f c l ≡ given_by f c ++ gives_to f l
more_given f c (Line.bitvec w) = sym (append-nil (given_by f c))
more_given f c (Line.array i e) = sym (append-nil (given_by f c))
more_given f c (Line.input s) = sym (append-nil (given_by f c))
more_given f c (Line.state s) = sym (append-nil (given_by f c))
more_given f c (Line.value s e) = sym (append-nil (given_by f c))
more_given f c (Line.init_or_next m s q v) = add_if (alike f m) (given_by f c) q
more_given f c (Line.signal m a) = sym (append-nil (given_by f c))
more_given f c (Line.output a) = sym (append-nil (given_by f c))
more_given f c Line.unknown = sym (append-nil (given_by f c))

pub given_more : (p f : Bool) (c : Ctx) (l : Line) (q : ℕ) → given (grow p c l) f q ≡ (given c f q || among q (gives_to f l))
given_more p true c l q = ap (among q) (more_given true c l) ∙ among_join q c.inits (gives_to true l)
given_more p false c l q = ap (among q) (more_given false c l) ∙ among_join q c.nexts (gives_to false l)

-- a state that has been given words is given no others: it has one init and one next
another : (c : Ctx) (f m : Bool) (x q : ℕ) → given c m x ≡ false → given c f q ≡ true → among q (pick (alike f m) (x ∷ []) []) ≡ false
another c true true x q o g = rw (ne_eqb q x (λ e. no_yes (sym o ∙ ap (given c true) (sym e) ∙ g))) refl
another c true false x q o g = refl
another c false true x q o g = refl
another c false false x q o g = rw (ne_eqb q x (λ e. no_yes (sym o ∙ ap (given c false) (sym e) ∙ g))) refl

pub gives_none : (p f : Bool) (c : Ctx) (q : ℕ) → given c f q ≡ true → (l : Line) → OkLine p (ty_at c) (given c) l → among q (gives_to f l) ≡ false
gives_none p f c q g (Line.bitvec w) ok = refl
gives_none p f c q g (Line.array i e) ok = refl
gives_none p f c q g (Line.input s) ok = refl
gives_none p f c q g (Line.state s) ok = refl
gives_none p f c q g (Line.value s e) ok = refl
gives_none p f c q g (Line.init_or_next m s x v) ok = another c f m x q ok.once g
gives_none p f c q g (Line.signal m a) ok = refl
gives_none p f c q g (Line.output a) ok = refl
gives_none p f c q g Line.unknown ok = refl

pub same_flag : (f : Bool) → alike f f ≡ true
same_flag true = refl
same_flag false = refl

pub given_once : (f : Bool) (q : ℕ) (b : Bool) → alike f f ≡ b → among q (pick b (q ∷ []) []) ≡ true
given_once f q true e = rw (eq-eqb q q refl) refl
given_once f q false e = absurd (no_yes (sym e ∙ same_flag f))
