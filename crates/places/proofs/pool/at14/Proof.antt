-- `step14`, with what the calls answer put in.
use mathlib.Core.Path.{sym, ◌∙◌}
use borrow.Author.Rules.{rules}
use Rattle.places.proofs.{OnStack.step14, pool.at14.Statement.statement}
use Rattle.places.proofs.pool.at14.Tie as tie

returns : tie.Need-returns-then-made
returns c =
    let marked = c.before.before in
    let labelled = marked.before.before.before.before in
    let read = labelled.before.before in
    let made = read.before in
    let decided = made.before.before in
    let a = decided.before.before.before.args in
    λ ls rs xs k.
    rw (marked.set_mark.ensures, labelled.set.ensures, read.top-top.ensures)
    (rw (sym made.before.made.ensures ∙ made.if-made.true)
    at (step14 a.c a.r ls rs a.labels.now a.marks.now xs k decided.at14-m.result decided.at14-m.ensures))

returns-2 : tie.Need-returns
returns-2 c =
    let decided = c.before.before in
    let a = decided.before.before.before.args in
    λ ls rs xs k.
    rw (sym c.before.made.ensures ∙ c.if-made.false)
    at (step14 a.c a.r ls rs a.labels.now a.marks.now xs k decided.at14-m.result decided.at14-m.ensures)

pub at14_spec : {M : Type 1} → statement M
at14_spec =
    tie.close
    (tie.spec
    (λ c κs. search rules)
    (λ c κs. search rules)
    (λ c κs. search rules)
    (λ c κs. search rules)
    (λ c κs. search rules)
    (λ c. search rules)
    (λ c. search rules)
    returns
    returns-2)
