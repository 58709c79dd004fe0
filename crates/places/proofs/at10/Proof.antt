-- `step10`, with the new word put in; a change fails, is denied or is made.
use mathlib.Core.Path.{refl, sym, ◌∙◌}
use borrow.Author.Rules.{rules}
use Rattle.model.specs.Route.{route}
use Rattle.decide.specs.Ending.{settled, no_entry, failing}
use Rattle.places.proofs.{Anchors.{Tries, fails, denies, makes, step10}, at10.Statement.statement}
use Rattle.places.proofs.at10.Tie as tie

module _ (b : tie.After-new10-new) where
  abbrev a : tie.Start
  a = let same = b.before in same.before.before.before

  tried :
      Tries 10 a.args.c a.args.r b.new10-new.result a.args.r (route 10 a.args.r.kind 0)
      (failing (settled a.args.c a.args.r (route 10 a.args.r.kind 1) no_entry))
  tried = step10 a.args.c a.args.r b.new10-new.result b.new10-new.ensures

returns : tie.Need-returns-then-c-r
returns c =
    let i = c.before.before.before in
    let a = i.before.before.before.args in
    rw (c.fails.ensures, c.before.settles-m.ensures, c.before.before.next.ensures) (fails (step10 a.c a.r _ refl) i.if-c-r.true)

returns-2 : tie.Need-returns-then-change_refused
returns-2 c =
    let m = c.before.before in
    rw c.refused.ensures
    (denies (tried m.before) m.before.before.if-c-r.false (sym m.change_refused.ensures ∙ c.before.if-change_refused.true))

returns-3 : tie.Need-returns
returns-3 c =
    let m = c.before.before.before.before in
    rw (c.settles.ensures, c.before.next-2.ensures, c.before.before.with_anchor-d.ensures)
    (makes (tried m.before) m.before.before.if-c-r.false (sym m.change_refused.ensures ∙ c.before.before.before.if-change_refused.false))

pub at10_spec : {M : Type 1} → statement M
at10_spec =
    tie.close
    (tie.spec
    (λ c κs. search rules)
    (λ _ _. tt)
    (λ _ _. tt)
    returns
    (λ _ _. tt)
    (λ _ _. tt)
    (λ _ _. tt)
    returns-2
    (λ _ _. tt)
    (λ c κs. search rules)
    (λ _ _. tt)
    returns-3)
