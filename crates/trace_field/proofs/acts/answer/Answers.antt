-- The line is written.
use Rattle.std.proofs.Common.{arith}
use Rattle.lines.proofs.Puts.{put-fits}
use Rattle.trace_field.specs.Page.{written, answered}
use Rattle.trace_field.proofs.acts.answer.Goals as goal

pub returns-clause-by_index : goal.returns-clause-by_index
unfolding answered written
returns-clause-by_index c =
    let w = put-fits _ c.write_line-to.ensures.put (omega arith) in
    λ rows rows' ls rs bs ms ns ls' rs' bs' ms' ns' eu. rw (w.stop, w.stored, eu)
