-- `step13`, with what the calls answer put in.
use borrow.Author.Rules.{rules}
use Rattle.places.proofs.{OnStack.step13, pool.at13.Statement.statement}
use Rattle.places.proofs.pool.at13.Tie as tie

returns : tie.Need-returns
returns c =
    let read = c.before.before in
    let a = read.before.before.args in
    λ ls rs ns ms k.
    rw (c.at13.ensures, c.before.get_or-n.ensures, read.top.ensures) (step13 a.c a.r ls rs ns ms a.nexts.now k)

pub at13_spec : {M : Type 1} → statement M
at13_spec = tie.close (tie.spec (λ c κs. search rules) (λ c κs. search rules) (λ c κs. search rules) returns)
