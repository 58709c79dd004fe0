-- `help_made`, with what the calls answer put in.
use mathlib.Core.Path.{sym, ◌∙◌}
use borrow.Author.Rules.{rules}
use Rattle.places.proofs.{OnRows.help_made, at9.Statement.statement}
use Rattle.places.proofs.at9.Tie as tie

-- The word found, which one it is, and the beginning.
module _ (decided : tie.After-at9-m) where
  abbrev read : tie.After-link_at-w
  read = decided.before

  abbrev link : tie.After-link7-link
  link = read.before

  abbrev start : tie.Start
  start = link.before.before.before

returns : tie.Need-returns-then-made
returns c =
    let stored = c.before.before.before.before in
    let new = stored.before.before.before in
    let made = new.before in
    let decided = made.before.before in
    let a = (start decided).args in
    λ ns ms xs k.
    rw (stored.put_link.ensures.0, stored.put_link.ensures.1, new.new9-new.ensures)
    (rw (sym made.before.made.ensures ∙ made.if-made.true)
    at (help_made a.c a.r a.lefts.now a.rights.now ns ms xs k (link decided).link7-link.result (read decided).link_at-w.result
    (read decided).link_at-w.ensures decided.at9-m.result (link decided).link7-link.ensures decided.at9-m.ensures))

returns-2 : tie.Need-returns
returns-2 c =
    let decided = c.before.before in
    let a = (start decided).args in
    λ ns ms xs k.
    rw (sym c.before.made.ensures ∙ c.if-made.false)
    at (help_made a.c a.r a.lefts.now a.rights.now ns ms xs k (link decided).link7-link.result (read decided).link_at-w.result
    (read decided).link_at-w.ensures decided.at9-m.result (link decided).link7-link.ensures decided.at9-m.ensures)

pub at9_spec : {M : Type 1} → statement M
at9_spec =
    tie.close
    (tie.spec
    (λ _ _. tt)
    (λ _ _. tt)
    (λ _ _. tt)
    (λ _ _. tt)
    (λ _ _. tt)
    (λ _ _. tt)
    (λ c. search rules)
    (λ c. search rules)
    returns
    (λ c. search rules)
    (λ c. search rules)
    returns-2)
