-- `step16`, with what the calls answer put in.
use borrow.Author.Rules.{rules}
use Rattle.decide.specs.Decided.{found16}
use Rattle.places.proofs.{OnStack.step16, pool.at16.Statement.statement}
use Rattle.places.proofs.pool.at16.Tie as tie

returns : tie.Need-returns
unfolding found16
returns c =
    let p = c.before.before.before in
    let u = p.before.before in
    let a = u.before.before.args in
    λ ls rs ns ms k.
    rw (c.at16.ensures, p.set.ensures, u.top-top.ensures) (step16 a.c a.r ls rs ns ms a.nexts.now k)

pub at16_spec : {M : Type 1} → statement M
at16_spec =
    tie.close
    (tie.spec (λ c κs. search rules) (λ c κs. search rules) (λ c κs. search rules) (λ c. search rules) returns)
