-- `step5`, with what the calls answer put in.
use Rattle.places.proofs.{OnRows.step5, at5.Statement.statement}
use Rattle.places.proofs.at5.Tie as tie

returns : tie.Need-returns
returns c =
    let link = c.before.before in
    let anchor = link.before in
    let a = anchor.before.before.before.args in
    rw (c.at5.ensures, c.before.link_at-w.ensures, link.link5_of-link.ensures, anchor.unpack-a.ensures)
    (step5 a.c a.r a.lefts.now a.rights.now)

pub at5_spec : {M : Type 1} → statement M
at5_spec = tie.close (tie.spec (λ _ _. tt) (λ _ _. tt) (λ _ _. tt) (λ _ _. tt) returns)
