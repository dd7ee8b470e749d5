-- The check of a table or a program by the mark answers as one that searches the cone of each init value: 11, or 20, for the same lists and counts. Assumes nothing.
use Prim.Native.Nat.{ℕ}
use mathlib.Core.Path.{◌≡◌, refl, ap, ◌∙◌}
use mathlib.Core.Bool.{Bool, true, false, ◌&&◌}
use mathlib.Core.List.{List, [], ◌∷◌, ◌++◌}
use lib.ListN.{length}
use Rattle.tables.specs.declared.Ty.{Ty}
use Rattle.tables.specs.Lines.{Line, line_of}
use Rattle.tables.specs.Layout.{records_of}
use Rattle.tables.specs.Ids.{ids_right}
use Rattle.tables.specs.Types.{Ctx, ty_at, given, grow, no_ctx, context}
use Rattle.tables.specs.Tables.{keeps, lawful, verdict, checked}
use Rattle.tables.specs.Search.{searched, lawful_by_search, checked_by_search}
use Rattle.tables.proofs.Facts.{OkLine, AllOk}
use Rattle.tables.proofs.Sound.{sound}
use Rattle.tables.proofs.Contexts.{grow_snoc}
use Rattle.tables.proofs.Entries.{ok_append}
use Rattle.tables.proofs.Marks.{searched_types_lem}

-- accepted lines, and one more
module _ (p : Bool) (C : List Line) (l : Line) where
  pub context_more : context p (C ++ (l ∷ [])) ≡ grow p (context p C) l
  unfolding context
  context_more = grow_snoc p no_ctx C l

  pub ok_more : AllOk p no_ctx C → OkLine p (ty_at (context p C)) (given (context p C)) l → AllOk p no_ctx (C ++ (l ∷ []))
  unfolding context
  ok_more k h = ok_append p no_ctx C (l ∷ []) k (h, tt)

module _ (p : Bool) where
  same_record : (C : List Line) → AllOk p no_ctx C → (r : List ℕ)
      → keeps p (searched C (ty_at (context p C))) (given (context p C)) r ≡ keeps p (ty_at (context p C)) (given (context p C)) r
  same_record C ok r = ap (λ (L : ℕ → Ty). keeps p L (given (context p C)) r) (searched_types_lem p C ok)

  same_lawful : (C : List Line) → AllOk p no_ctx C → (rs : List (List ℕ)) → lawful_by_search p C rs ≡ lawful p (context p C) rs
  same_lawful C ok [] = refl
  same_lawful C ok (r ∷ rs) =
      go (keeps p (ty_at (context p C)) (given (context p C)) r) refl (λ k. same_lawful (C ++ (line_of r ∷ [])) k rs ∙ ap (λ (c : Ctx). lawful p c rs) (context_more p C (line_of r)))
    where
      go : (b : Bool) → keeps p (ty_at (context p C)) (given (context p C)) r ≡ b
          → (AllOk p no_ctx (C ++ (line_of r ∷ [])) → lawful_by_search p (C ++ (line_of r ∷ [])) rs ≡ lawful p (grow p (context p C) (line_of r)) rs)
          → lawful_by_search p C (r ∷ rs) ≡ lawful p (context p C) (r ∷ rs)
      go true e f = rw (same_record C ok r, e) (f (ok_more p C (line_of r) ok (sound p _ _ r e)))
      go false e f = rw (same_record C ok r, e) refl

  pub same_checking : (t : List ℕ) (n : ℕ) → checked_by_search p t n ≡ checked p t n
  unfolding checked context
  same_checking t n = ap (λ (b : Bool). verdict p (length t) n (b && ids_right p t n)) (same_lawful [] tt (records_of p t n))
