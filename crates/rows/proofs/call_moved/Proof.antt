-- What the call began with is kept, its own slot and the whole of the label's word.
use mathlib.Core.Path.{refl}
use Rattle.layout.specs.Rows.{call_of, record_of, upper_of}
use borrow.Author.Rules.{rules}
use Rattle.rows.proofs.call_moved.Statement.{statement}
use Rattle.rows.proofs.call_moved.Tie as tie

returns : tie.Need-returns
unfolding call_of record_of upper_of
returns c = (refl, refl)

pub call_moved_spec : {M : Type 1} → statement M
call_moved_spec = tie.close (tie.spec (λ c. search rules) (λ c. search rules) (λ c. search rules) (λ c. search rules) returns)
