-- `push_made` and `pop_made`, with what the calls answer put in.
use mathlib.Core.Path.{◌≡◌, ap, sym, ◌∙◌}
use borrow.Author.{Tests.{eq-eqb, ne_eqb}, Rules.rules}
use Rattle.decide.specs.{declared.touched.LinkWord.LinkWord, Decided.{link3_of, link3}}
use Rattle.places.proofs.{OnRows.{push_made, pop_made}, at3.Statement.statement}
use Rattle.places.proofs.at3.Tie as tie

-- Anchor as read, the beginning, and the link word touched.
module _ (anchor : tie.After-unpack-a) where
  abbrev start : tie.Start
  start = anchor.before.before.before

  by_record : {l : LinkWord} → l ≡ link3_of start.args.r anchor.unpack-a.result → l ≡ link3 start.args.r
  by_record e = e ∙ ap (link3_of start.args.r) anchor.unpack-a.ensures

-- What a push finds, and which word it is.
module _ (decided : tie.After-at3-m) where
  abbrev read : tie.After-link_at-w
  read = decided.before

  abbrev link : tie.After-link3_of-link
  link = read.before

  abbrev push : tie.Then-r-eq0
  push = link.before

  abbrev anchor : tie.After-unpack-a
  anchor = push.before.before

returns : tie.Need-returns-then-made
returns c =
    let stored = c.before.before.before.before in
    let new = stored.before.before.before in
    let made = new.before in
    let decided = made.before.before in
    let a = (start (anchor decided)).args in
    λ ns ms xs k.
    rw (stored.put_link.ensures.0, stored.put_link.ensures.1, new.new3-new.ensures)
    (rw (sym made.before.made.ensures ∙ made.if-made.true)
    at (push_made a.c a.r a.lefts.now a.rights.now ns ms xs k (link decided).link3_of-link.result (read decided).link_at-w.result
    (read decided).link_at-w.ensures decided.at3-m.result (by_record (anchor decided) (link decided).link3_of-link.ensures)
    (eq-eqb _ _ (push decided).if-r-eq0.true) decided.at3-m.ensures))

returns-2 : tie.Need-returns-then-r-eq0
returns-2 c =
    let decided = c.before.before in
    let a = (start (anchor decided)).args in
    λ ns ms xs k.
    rw (sym c.before.made.ensures ∙ c.if-made.false)
    at (push_made a.c a.r a.lefts.now a.rights.now ns ms xs k (link decided).link3_of-link.result (read decided).link_at-w.result
    (read decided).link_at-w.ensures decided.at3-m.result (by_record (anchor decided) (link decided).link3_of-link.ensures)
    (eq-eqb _ _ (push decided).if-r-eq0.true) decided.at3-m.ensures)

returns-3 : tie.Need-returns
returns-3 c =
    let read = c.before in
    let link = read.before in
    let pop = link.before in
    let anchor = pop.before.before in
    let a = (start anchor).args in
    λ ns ms xs k.
    pop_made a.c a.r a.lefts.now a.rights.now ns ms xs k link.link3_of-link-2.result read.link_at-w-2.result
    read.link_at-w-2.ensures c.at3.result (by_record anchor link.link3_of-link-2.ensures) (ne_eqb _ _ pop.if-r-eq0.false) c.at3.ensures

pub at3_spec : {M : Type 1} → statement M
at3_spec =
    tie.close
    (tie.spec
    (λ _ _. tt)
    (λ _ _. tt)
    (λ _ _. tt)
    (λ _ _. tt)
    (λ _ _. tt)
    (λ _ _. tt)
    (λ _ _. tt)
    (λ c. search rules)
    (λ c. search rules)
    returns
    (λ c. search rules)
    (λ c. search rules)
    returns-2
    (λ _ _. tt)
    (λ _ _. tt)
    (λ _ _. tt)
    (λ c. search rules)
    (λ c. search rules)
    returns-3)
