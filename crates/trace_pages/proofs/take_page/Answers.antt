-- What `feed` wrote from the front of the buffer is in it, and is what is written out.
use Rattle.std.proofs.Common.{arith}
use Rattle.trace_replay.{specs.Pieces.next_page, proofs.Bounds.fed_within}
use Rattle.trace_pages.proofs.take_page.Goals as goal

pub flush-requires : goal.flush-requires
flush-requires g c = fed_within _ _ _ c.feed.ensures (omega arith)

pub returns : goal.returns
unfolding next_page
returns g c = c.feed.ensures
