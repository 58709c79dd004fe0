use borrow.Author.Rules.{rules}
use Rattle.touch_call.proofs.zc_settle_unasked.Statement.{statement}
use Rattle.touch_call.proofs.zc_settle_unasked.Tie as tie

returns : tie.Need-returns
returns c = c.settle_unasked.ensures

pub zc_settle_unasked_spec : {M : Type 1} → statement M
zc_settle_unasked_spec = tie.close (tie.spec (λ c κs. search rules) returns)
