-- A line, refusal by refusal.
use Prim.Native.Nat.{ℕ, ◌-◌, ◌≤◌, ◌<◌}
use mathlib.Core.Path.{◌≡◌, refl, sym, ap, ◌∙◌, subst}
use mathlib.Core.Bool.{true, false}
use mathlib.Core.List.{List}
use native.Mathlib.Omega.{arith}
use lib.ListN.{length, take, drop}
use Rattle.tables.specs.Layout.{ids_of}
use Rattle.tables.specs.Model.Notes.{look_in, given_in}
use Rattle.texts.specs.Split.{tokens}
use Rattle.texts.specs.Decimal.{decimal}
use Rattle.texts.specs.Reading.{unknown, word_in, is_next, line_id, line_name}
use Rattle.texts.specs.Model.Structs.{Labelled}
use Rattle.texts.proofs.Places.{no_token, next_token}
use Rattle.texts.proofs.Resolving.{ids_length}
use Rattle.texts.proofs.Steps.{read_skip, read_3, read_4, read_5, judged_on}
use Rattle.texts.proofs.Admitting.{gives_no, gives_blank, gives_line}
use Rattle.texts.proofs.Named.{extra_of}
use Rattle.reading.proofs.line.read_line.Goals as goal

pub returns-then-a-l : goal.returns-then-a-l
returns-then-a-l c =
    let s = c.args in
    let l : List ℕ = s.l.now in
    let L = look_in s.notes.now in
    let G = given_in s.notes.now in
    let ids = ids_of s.table.now s.n in
    let k = c.skip-a in
    let e = sym k.ensures.1.1.0 ∙ no_token l k.result (omega arith) in
    (read_skip L G ids s.room l e refl, λ x o g. absurd (gives_blank g))

pub returns-in_default : goal.returns-in_default
returns-in_default c =
    let s = c.args in
    let l : List ℕ = s.l.now in
    let L = look_in s.notes.now in
    let G = given_in s.notes.now in
    let ids = ids_of s.table.now s.n in
    let a = c.skip-a.result in
    let z = c.find_byte-z.result in
    let t = take (z - a) (drop a l) in
    let on : a < length l = omega (arith, c.skip-a.ensures.1.0, c.if-a-l.false) in
    let e = sym c.skip-a.ensures.1.1.0 ∙ next_token l a z on (c.skip-a.ensures.1.1.1 on) c.find_byte-z.ensures.1.1 in
    let q = subst (λ (k : ℕ). is_next (decimal t) k ≡ false) c.last-last.ensures c.in_default.ensures in
    (read_3 L G ids s.room l t z e q refl, λ x o g. absurd (gives_no g))

pub returns-then-room-n : goal.returns-then-room-n
returns-then-room-n c =
    let s = c.args in
    let l : List ℕ = s.l.now in
    let L = look_in s.notes.now in
    let G = given_in s.notes.now in
    let ids = ids_of s.table.now s.n in
    let a = c.skip-a.result in
    let z = c.find_byte-z.result in
    let t = take (z - a) (drop a l) in
    let on : a < length l = omega (arith, c.skip-a.ensures.1.0, c.if-a-l.false) in
    let e = sym c.skip-a.ensures.1.1.0 ∙ next_token l a z on (c.skip-a.ensures.1.1.1 on) c.find_byte-z.ensures.1.1 in
    let q = subst (λ (k : ℕ). is_next (decimal t) k ≡ true) c.last-last.ensures c.in-Some.ensures.0 in
    let full = subst (λ (k : ℕ). s.room ≤ k) (sym (ids_length s.table.now s.n)) c.if-room-n.true in
    (read_4 L G ids s.room l t z e q full refl, λ x o g. absurd (gives_no g))

pub returns-in_default-word : goal.returns-in_default-word
returns-in_default-word c =
    let s = c.args in
    let l : List ℕ = s.l.now in
    let L = look_in s.notes.now in
    let G = given_in s.notes.now in
    let ids = ids_of s.table.now s.n in
    let a = c.skip-a.result in
    let z = c.find_byte-z.result in
    let t = take (z - a) (drop a l) in
    let on : a < length l = omega (arith, c.skip-a.ensures.1.0, c.if-a-l.false) in
    let e = sym c.skip-a.ensures.1.1.0 ∙ next_token l a z on (c.skip-a.ensures.1.1.1 on) c.find_byte-z.ensures.1.1 in
    let q = subst (λ (k : ℕ). is_next (decimal t) k ≡ true) c.last-last.ensures c.in-Some.ensures.0 in
    let left : s.n < s.room = omega (arith, c.if-room-n.false) in
    let some = subst (λ (k : ℕ). k < s.room) (sym (ids_length s.table.now s.n)) left in
    let k : word_in (tokens (drop z l)) ≡ unknown = c.in_default-word.ensures.0 in
    (read_5 L G ids s.room l t z e q some k refl, λ x o g. absurd (gives_no g))

pub returns : goal.returns
returns c =
    let s = c.args in
    let l : List ℕ = s.l.now in
    let L = look_in s.notes.now in
    let G = given_in s.notes.now in
    let ids = ids_of s.table.now s.n in
    let a = c.skip-a.result in
    let z = c.find_byte-z.result in
    let t = take (z - a) (drop a l) in
    let on : a < length l = omega (arith, c.skip-a.ensures.1.0, c.if-a-l.false) in
    let e = sym c.skip-a.ensures.1.1.0 ∙ next_token l a z on (c.skip-a.ensures.1.1.1 on) c.find_byte-z.ensures.1.1 in
    let p = c.in-Some.ensures in
    let q = subst (λ (k : ℕ). is_next (decimal t) k ≡ true) c.last-last.ensures p.0 in
    let left : s.n < s.room = omega (arith, c.if-room-n.false) in
    let some = subst (λ (k : ℕ). k < s.room) (sym (ids_length s.table.now s.n)) left in
    let w = c.in-Some-word in
    let o = c.behind_word.ensures in
    let b = c.behind_word.result in (
      o.0 ∙ judged_on L G ids s.room l t z e q some w.w w.ensures.0,
      λ x r g.
          let v = gives_line g in
          let k = o.1 r v.1 in
          subst (Labelled l) v.0
          (record {
            number = k.0 ∙ (p.1 ∙ sym (ap line_id e));
            ordered = k.1.0;
            within = k.1.1.0;
            name = k.1.1.1 ∙ (extra_of l w.w (tokens (drop z l)) _ w.ensures.0 refl ∙ sym (ap line_name e));
          }),
    )
