-- By the walk, then by the test.
use mathlib.Core.Path.{refl}
use borrow.Author.Rules.{rules}
use Rattle.schedule.specs.Answered.{refusal_after}
use Rattle.schedule.proofs.unfit.Statement.{statement}
use Rattle.schedule.proofs.unfit.Tie as tie

returns : tie.Need-returns-in-Err
unfolding refusal_after
returns c = rw c.in-Err.is refl

returns-2 : tie.Need-returns-then-two-n
unfolding refusal_after
returns-2 c = let w = c.before in rw (w.in-Ok.is, c.if-two-n.true) refl

returns-3 : tie.Need-returns-else-two-n
unfolding refusal_after
returns-3 c = let w = c.before in rw (w.in-Ok.is, c.if-two-n.false) refl

pub unfit_spec : {M : Type 1} → statement M
unfit_spec = tie.close (tie.spec (λ c. search rules) (λ c. search rules) returns returns-2 returns-3)
