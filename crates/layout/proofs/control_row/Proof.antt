-- Word by word.
use Rattle.layout.specs.Rows.{control_of}
use borrow.Author.Rules.{rules}
use Rattle.layout.proofs.control_row.Statement.{statement}
use Rattle.layout.proofs.control_row.Tie as tie

returns : tie.Need-returns
unfolding control_of
returns c = search rules

pub control_row_spec : {M : Type 1} → statement M
control_row_spec = tie.close (tie.spec returns)
