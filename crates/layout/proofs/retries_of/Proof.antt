-- The last word.
use Rattle.layout.specs.Rows.{record_of}
use borrow.Author.Rules.{rules}
use Rattle.layout.proofs.retries_of.Statement.{statement}
use Rattle.layout.proofs.retries_of.Tie as tie

returns : tie.Need-returns
unfolding record_of
returns c = search rules

pub retries_of_spec : {M : Type 1} → statement M
retries_of_spec = tie.close (tie.spec (λ c. search rules) returns)
