-- The test is the definition's.
use Rattle.calls.specs.Telling.{countable}
use Rattle.calls.proofs.report.to_count.Statement.{statement}
use Rattle.calls.proofs.report.to_count.Tie as tie

returns : tie.Need-returns-then-few
unfolding countable
returns c = rw c.if-few.true

returns-2 : tie.Need-returns-else-few
unfolding countable
returns-2 c = rw c.if-few.false

pub to_count_spec : {M : Type 1} → statement M
to_count_spec = tie.close (tie.spec returns returns-2)
