-- The header, and a fresh run.
use Rattle.layout.specs.Rows.{call_of, record_of, records_of, upper_of, uppers_of}
use Rattle.trace_field.specs.Page.{written}
use Rattle.trace_replay.specs.{Trace.fresh, Feed.first_page}
use Rattle.trace_replay.proofs.begin.Goals as goal

pub returns : goal.returns
unfolding written fresh first_page records_of record_of call_of uppers_of upper_of
returns c = let w = c.write_header-to.ensures.put in rw (w.stop, w.stored)
