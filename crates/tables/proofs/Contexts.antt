-- The context after the first lines of a table. Assumes nothing.
use Prim.Native.Nat.{ℕ, suc, ◌<◌}
use mathlib.Core.Path.{◌≡◌, refl, ap, ◌∙◌}
use mathlib.Core.Bool.{Bool, ◌&&◌}
use mathlib.Core.List.{List, [], ◌∷◌, ◌++◌, map}
use lib.ListN.{length, get_or, take, drop}
use lib.Seq.{drop-cons, take-suc}
use Rattle.tables.specs.Lines.{Line, line_of}
use Rattle.tables.specs.Types.{Ctx, ty_at, given, grow, grow_all, no_ctx}
use Rattle.tables.specs.Tables.{keeps, lawful}

pub grow_snoc : (p : Bool) (c : Ctx) (ls : List Line) (l : Line) → grow_all p c (ls ++ (l ∷ [])) ≡ grow p (grow_all p c ls) l
grow_snoc p c [] l = refl
grow_snoc p c (x ∷ ls) l = grow_snoc p (grow p c x) ls l

pub map_snoc : (rs : List (List ℕ)) (r : List ℕ) → map line_of (rs ++ (r ∷ [])) ≡ map line_of rs ++ (line_of r ∷ [])
map_snoc [] r = refl
map_snoc (x ∷ rs) r = ap (λ (ls : List Line). line_of x ∷ ls) (map_snoc rs r)

-- after the first i of the records rs
abbrev pub after : Bool → List (List ℕ) → ℕ → Ctx
after p rs i = grow_all p no_ctx (map line_of (take i rs))

pub after_suc : (p : Bool) (rs : List (List ℕ)) (i : ℕ) → i < length rs → after p rs (suc i) ≡ grow p (after p rs i) (line_of (get_or rs i []))
after_suc p rs i h = ap (λ (x : List (List ℕ)). grow_all p no_ctx (map line_of x)) (take-suc rs i [] h) ∙ ap (grow_all p no_ctx) (map_snoc (take i rs) (get_or rs i [])) ∙ grow_snoc p no_ctx (map line_of (take i rs)) (line_of (get_or rs i []))

pub lawful_step : (p : Bool) (rs : List (List ℕ)) (i : ℕ) (c : Ctx) → i < length rs
    → lawful p c (drop i rs) ≡ (keeps p (ty_at c) (given c) (get_or rs i []) && lawful p (grow p c (line_of (get_or rs i []))) (drop (suc i) rs))
lawful_step p rs i c h = ap (lawful p c) (drop-cons rs i [] h)
