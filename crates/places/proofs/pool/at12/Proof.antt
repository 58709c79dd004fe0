-- `step12`, with what the calls answer put in.
use borrow.Author.Rules.{rules}
use Rattle.places.proofs.{OnStack.step12, pool.at12.Statement.statement}
use Rattle.places.proofs.pool.at12.Tie as tie

returns : tie.Need-returns
returns c =
    let a = c.before.before.before.args in
    rw (c.reads_head.ensures, c.before.next-other.ensures, c.before.before.next-none.ensures) (step12 a.c a.r)

pub at12_spec : {M : Type 1} → statement M
at12_spec = tie.close (tie.spec (λ c κs. search rules) (λ c κs. search rules) (λ _ _. tt) returns)
