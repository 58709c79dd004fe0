-- What `finish` wrote is in the buffer, and is what is written out.
use Rattle.std.proofs.Common.{[], arith}
use Rattle.trace_replay.{specs.Pieces.last_page, proofs.Bounds.finished-within}
use Rattle.trace_pages.proofs.end.Goals as goal

pub flush-requires : goal.flush-requires
flush-requires g c = finished-within _ _ _ (c.finish.ensures [] [] [] [] [] []) (omega arith)

pub returns : goal.returns
unfolding last_page
returns g c = c.finish.ensures
