-- `step2`, with the new word put in; the change is denied or made.
use mathlib.Core.Path.{sym, ◌∙◌}
use borrow.Author.Rules.{rules}
use Rattle.model.specs.Route.{route}
use Rattle.places.proofs.{Anchors.{Tries, found, denies, makes, step2}, change2.Statement.statement}
use Rattle.places.proofs.change2.Tie as tie

module _ (b : tie.After-new2-new) where
  abbrev a : tie.Start
  a = b.before

  tried : Tries 2 a.args.c a.args.r b.new2-new.result a.args.r (route 2 a.args.r.kind 0) (found a.args.c a.args.r 2)
  tried = step2 a.args.c a.args.r b.new2-new.result b.new2-new.ensures

returns : tie.Need-returns-then-change_refused
returns c same =
    let m = c.before.before in
    rw c.refused.ensures (denies (tried m.before) same (sym m.change_refused.ensures ∙ c.before.if-change_refused.true))

returns-2 : tie.Need-returns
returns-2 c same =
    let m = c.before.before.before.before in
    rw (c.settles.ensures, c.before.next.ensures, c.before.before.with_anchor-d.ensures)
    (makes (tried m.before) same (sym m.change_refused.ensures ∙ c.before.before.before.if-change_refused.false))

pub change2_spec : {M : Type 1} → statement M
change2_spec =
    tie.close
    (tie.spec
    (λ _ _. tt)
    (λ _ _. tt)
    (λ _ _. tt)
    returns
    (λ _ _. tt)
    (λ c κs. search rules)
    (λ _ _. tt)
    returns-2)
