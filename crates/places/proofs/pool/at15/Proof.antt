-- `step15`, with what the calls answer put in.
use borrow.Author.Rules.{rules}
use Rattle.places.proofs.{OnStack.step15, pool.at15.Statement.statement}
use Rattle.places.proofs.pool.at15.Tie as tie

returns : tie.Need-returns
returns c = let a = c.before.before.args in rw (c.reads_head.ensures, c.before.next-n.ensures) (step15 a.c a.r)

pub at15_spec : {M : Type 1} → statement M
at15_spec = tie.close (tie.spec (λ c κs. search rules) (λ _ _. tt) returns)
