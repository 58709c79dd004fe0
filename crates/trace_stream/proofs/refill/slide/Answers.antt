-- The bytes moved are the first.
use Rattle.trace_stream.proofs.Sliding.{copied_front}
use Rattle.trace_stream.proofs.refill.slide.Goals as goal

pub returns-clause-input_after : goal.returns-clause-input_after
returns-clause-input_after c = rw (c.copy_within.ensures.after, c.min-from.ensures) (copied_front _ _ _ c.requires)
