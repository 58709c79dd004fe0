-- The call and the count make up the record.
use Rattle.layout.specs.Rows.{record_of}
use Rattle.executive.proofs.held.record_of.Goals as goal

pub returns : goal.returns
unfolding record_of
returns c = λ i. record { call = c.call_of.ensures i; retries = c.retries_of.ensures i }
