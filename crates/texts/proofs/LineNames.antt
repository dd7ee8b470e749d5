-- The name of a line, from its tokens. Assumes nothing.
use mathlib.Core.Path.{◌≡◌, refl}
use Rattle.tables.specs.Kinds.{row_of}
use Rattle.texts.specs.Forms.{form_row}
use Rattle.texts.specs.Reading.{Word, word, unknown, form_of, behind, name_in, name_behind}

pub name_behind_lem : (w : Word) → name_behind w ≡ name_in (form_of w) (behind w)
unfolding form_row row_of
name_behind_lem unknown = refl
name_behind_lem (word f ts) = refl
