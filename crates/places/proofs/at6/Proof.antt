-- `step6`, with what the calls answer put in.
use borrow.Author.Rules.{rules}
use Rattle.places.proofs.{Anchors.step6, at6.Statement.statement}
use Rattle.places.proofs.at6.Tie as tie

returns : tie.Need-returns
returns c = let a = c.before.before.before.args in
    rw (c.compares.ensures, c.before.next-other.ensures, c.before.before.next-same.ensures) (step6 a.c a.r)

pub at6_spec : {M : Type 1} → statement M
at6_spec =
    tie.close
    (tie.spec
    (λ c κs. search rules)
    (λ c κs. search rules)
    (λ _ _. tt)
    returns)
