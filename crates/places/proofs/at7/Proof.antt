-- `step7`, with what the calls answer put in.
use Rattle.places.proofs.{OnRows.step7, at7.Statement.statement}
use Rattle.places.proofs.at7.Tie as tie

returns : tie.Need-returns
returns c =
    let link = c.before.before in
    let a = link.before.before.before.args in
    rw (c.at7.ensures, c.before.link_at-w.ensures, link.link7-link.ensures) (step7 a.c a.r a.lefts.now a.rights.now)

pub at7_spec : {M : Type 1} → statement M
at7_spec = tie.close (tie.spec (λ _ _. tt) (λ _ _. tt) (λ _ _. tt) returns)
