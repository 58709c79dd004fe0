-- `step4`, with the new word put in; the change is denied or made.
use mathlib.Core.Path.{sym, ◌∙◌}
use borrow.Author.Rules.{rules}
use Rattle.model.specs.Route.{route}
use Rattle.decide.specs.Ending.{remembered}
use Rattle.places.proofs.{Anchors.{Tries, found, denies, makes, step4}, change4.Statement.statement}
use Rattle.places.proofs.change4.Tie as tie

module _ (b : tie.After-new4-new) where
  abbrev a : tie.Start
  a = b.before

  tried :
      (let new = b.new4-new.result in
      Tries 4 a.args.c a.args.r new (remembered a.args.r new) (route 4 a.args.r.kind 0) (found a.args.c a.args.r 4))
  tried = step4 a.args.c a.args.r b.new4-new.result b.new4-new.ensures

returns : tie.Need-returns-then-change_refused
returns c same =
    let m = c.before.before in
    rw c.refused.ensures (denies (tried m.before) same (sym m.change_refused.ensures ∙ c.before.if-change_refused.true))

returns-2 : tie.Need-returns
returns-2 c same =
    let w = c.before.before.before in
    let m = w.before.before in
    rw (c.settles.ensures, c.before.next.ensures, c.before.before.remembers-t.ensures, w.with_anchor-d.ensures)
    (makes (tried m.before) same (sym m.change_refused.ensures ∙ w.before.if-change_refused.false))

pub change4_spec : {M : Type 1} → statement M
change4_spec =
    tie.close
    (tie.spec
    (λ _ _. tt)
    (λ _ _. tt)
    (λ _ _. tt)
    returns
    (λ _ _. tt)
    (λ _ _. tt)
    (λ c κs. search rules)
    (λ _ _. tt)
    returns-2)
