-- The last two tests of a line, and its name behind the others.
use native.Mathlib.Omega.{arith}
use mathlib.Core.Path.{◌≡◌, refl, sym, ap, ◌∙◌, subst}
use mathlib.Core.Bool.{true}
use mathlib.Core.List.{List}
use Prim.Native.Nat.{ℕ}
use Rattle.std.specs.Prelude.{Ok, is_ok}
use Rattle.texts.proofs.Admitting.{Enters, is_some, enters_none, enters_unnamed, enters_new, admits_no, admits_blank, admits_used, admits_late, admits_got}
use Rattle.reading.proofs.line.admit.Goals as goal
use Rattle.reading.proofs.line.admit.Goals.{else-is_ok-via-then-is_ok+then-name+else-not-enter, else-is_ok-via-then-is_ok+else-name, else-is_ok-via-else-is_ok}

pub returns-in-Err : goal.returns-in-Err
returns-in-Err c = admits_no _ c.in-Err.is refl refl

pub returns-in_default : goal.returns-in_default
returns-in_default c = admits_blank (c.in-Ok.is ∙ ap Ok c.in_default.is) refl refl

pub returns-then-not-enter : goal.returns-then-not-enter
returns-then-not-enter c =
    let s = c.args in
    let x = c.in-Some.read in
    let e = c.in-Ok.is ∙ ap Ok c.in-Some.is in
    let h : is_ok x.own ≡ true = sym c.is_ok.ensures.value ∙ c.if-is_ok.true in
    let v = is_some x.own h in
    let o = c.requires.1.1.1 x v.0 (e, v.1) in
    admits_used x e h c.if-name.true o.1.0 c.enter.ensures.0 c.if-not-enter.true refl

pub returns-in-Err-fit : goal.returns-in-Err-fit
returns-in-Err-fit c =
    let s = c.args in
    let x = c.in-Some.read in
    let e = c.in-Ok.is ∙ ap Ok c.in-Some.is in
    admits_late s.n s.room _ x e
    (elim c.else-is_ok.branch [
      | else-is_ok-via-then-is_ok+then-name+else-not-enter w ↦
          let h : is_ok x.own ≡ true = sym c.is_ok.ensures.value ∙ w.if-is_ok.true in
          let v = is_some x.own h in
          let o = c.requires.1.1.1 x v.0 (e, v.1) in
          let k = w.enter.ensures.1 w.if-not-enter.false in
          subst (λ (k : List ℕ). Enters s.text.now s.names.now k s.i x) (sym w.names-is) (enters_new x h w.if-name.true o.1.0 w.enter.ensures.0 w.if-not-enter.false k.0 k.1)
      | else-is_ok-via-then-is_ok+else-name w ↦ enters_unnamed x (omega (arith, w.if-name.false)) w.names-is c.requires.1.1.0
      | else-is_ok-via-else-is_ok w ↦ enters_none x (sym c.is_ok.ensures.value ∙ w.if-is_ok.false) w.names-is
    ])
    c.fit.result c.fit.ensures _ c.in-Err-fit.is refl

pub returns-in-Ok-fit : goal.returns-in-Ok-fit
returns-in-Ok-fit c =
    let s = c.args in
    let x = c.in-Some.read in
    let e = c.in-Ok.is ∙ ap Ok c.in-Some.is in
    admits_got s.n s.room _ x e
    (elim c.else-is_ok.branch [
      | else-is_ok-via-then-is_ok+then-name+else-not-enter w ↦
          let h : is_ok x.own ≡ true = sym c.is_ok.ensures.value ∙ w.if-is_ok.true in
          let v = is_some x.own h in
          let o = c.requires.1.1.1 x v.0 (e, v.1) in
          let k = w.enter.ensures.1 w.if-not-enter.false in
          subst (λ (k : List ℕ). Enters s.text.now s.names.now k s.i x) (sym w.names-is) (enters_new x h w.if-name.true o.1.0 w.enter.ensures.0 w.if-not-enter.false k.0 k.1)
      | else-is_ok-via-then-is_ok+else-name w ↦ enters_unnamed x (omega (arith, w.if-name.false)) w.names-is c.requires.1.1.0
      | else-is_ok-via-else-is_ok w ↦ enters_none x (sym c.is_ok.ensures.value ∙ w.if-is_ok.false) w.names-is
    ])
    c.fit.result c.fit.ensures c.in-Ok-fit.own c.in-Ok-fit.is refl
