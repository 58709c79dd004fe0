-- All but the head is kept.
use Rattle.layout.specs.Rows.{control_of}
use borrow.Author.Rules.{rules}
use Rattle.rows.proofs.head_moved.Statement.{statement}
use Rattle.rows.proofs.head_moved.Tie as tie

returns : tie.Need-returns
unfolding control_of
returns c = search rules

pub head_moved_spec : {M : Type 1} → statement M
head_moved_spec = tie.close (tie.spec (λ c. search rules) (λ c. search rules) (λ c. search rules) (λ c. search rules) returns)
