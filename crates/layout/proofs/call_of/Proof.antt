-- Word by word; a label has 32 bits.
use Rattle.layout.specs.Rows.{call_of}
use borrow.Author.Rules.{rules}
use Rattle.layout.proofs.call_of.Statement.{statement}
use Rattle.layout.proofs.call_of.Tie as tie

returns : tie.Need-returns
unfolding call_of
returns c = search rules

pub call_of_spec : {M : Type 1} → statement M
call_of_spec =
    tie.close
    (tie.spec
    (λ c. search rules)
    (λ c. search rules)
    (λ c. search rules)
    (λ c. search rules)
    (λ c. search rules)
    (λ c. search rules)
    (λ c. search rules)
    (λ c. search rules)
    (λ c. search rules)
    (λ c. search rules)
    returns)
