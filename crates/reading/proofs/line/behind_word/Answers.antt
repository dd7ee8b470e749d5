-- What stands behind the word, with the id and the name.
use Prim.Native.Nat.{ℕ}
use mathlib.Core.Path.{refl, sym, ap, ◌∙◌}
use mathlib.Core.List.{List}
use lib.ListN.{drop}
use Rattle.tables.specs.Layout.{ids_of}
use Rattle.tables.specs.Model.Notes.{look_in, given_in}
use Rattle.texts.specs.Split.{tokens}
use Rattle.texts.specs.Model.Stages.{ended}
use Rattle.texts.proofs.NameParts.{is_several, is_name}
use Rattle.texts.proofs.Admitting.{err_none}
use Rattle.reading.proofs.line.behind_word.Goals as goal

pub finish-own-requires : goal.finish-own-requires
finish-own-requires c =
    let p = c.requires in
    let l = c.args.l.now in
    let t = c.in-Some in
    let x = c.next-name in
    let k = c.skip in (
      p.0,
      (
        p.1.1.0,
        (
          p.1.1.1.0,
          (
            t.ensures.0.1,
            (is_several l t.t.at x.result.from x.result.to k.result x.ensures.0 x.ensures.1.1 k.ensures.1.1.0 k.ensures.0 k.ensures.1.0 k.ensures.1.1.1, p.1.1.1.1),
          ),
        ),
      ),
    )

pub returns : goal.returns
returns c =
    let s = c.args in
    let L = look_in s.notes.now in
    let G = given_in s.notes.now in
    let ids = ids_of s.table.now s.n in
    let l : List ℕ = s.l.now in
    let ts = tokens (drop s.at l) in
    let t = c.in-Some in
    let x = c.next-name in
    let r = c.finish-own in
    let e = r.ensures ∙ ap (λ y. ended L G ids s.f y) (sym t.ensures.1) in (
      e,
      λ o h. (refl, (x.ensures.0, (x.ensures.1.0, is_name L G ids s.f l t.t ts x.result.from x.result.to t.ensures.1 x.ensures.0 x.ensures.1.1 r.ensures o h))),
    )

pub returns-in_default : goal.returns-in_default
returns-in_default c =
    let s = c.args in
    let L = look_in s.notes.now in
    let G = given_in s.notes.now in
    let ids = ids_of s.table.now s.n in
    (ap (λ y. ended L G ids s.f y) (sym c.in_default.ensures.1), λ o h. absurd (err_none h))
