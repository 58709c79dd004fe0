-- By the two tests, a case of the model's `counted`.
use borrow.Author.{Rules.rules, Tests.{lt-ltb, le-ltb}}
use Rattle.model.specs.Route.{counted}
use Rattle.table.proofs.counted.Statement.{statement}
use Rattle.table.proofs.counted.Tie as tie

returns : tie.Need-returns-then-retries-lt4294967295
unfolding counted
returns c = simp (c.before.if-failed.true, lt-ltb _ _ c.if-retries-lt4294967295.true)

returns-2 : tie.Need-returns-else-retries-lt4294967295
unfolding counted
returns-2 c = simp (c.before.if-failed.true, le-ltb _ _ c.if-retries-lt4294967295.false)

returns-3 : tie.Need-returns-else-failed
unfolding counted
returns-3 c = search rules

pub counted_spec : {M : Type 1} → statement M
counted_spec = tie.close (tie.spec (λ c. search rules) returns returns-2 returns-3)
