-- Word by word.
use Rattle.layout.specs.Rows.{control_of}
use borrow.Author.Rules.{rules}
use Rattle.layout.proofs.control_of.Statement.{statement}
use Rattle.layout.proofs.control_of.Tie as tie

returns : tie.Need-returns
unfolding control_of
returns c = search rules

pub control_of_spec : {M : Type 1} → statement M
control_of_spec =
    tie.close
    (tie.spec
    (λ c. search rules)
    (λ c. search rules)
    (λ c. search rules)
    (λ c. search rules)
    (λ c. search rules)
    returns)
