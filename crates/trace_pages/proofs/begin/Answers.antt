-- What `begin` wrote is in the buffer, and is what is written out.
use Rattle.trace_replay.proofs.Bounds.{begun-within}
use Rattle.trace_pages.proofs.begin.Goals as goal

pub flush-requires : goal.flush-requires
flush-requires g c = begun-within _ _ c.begin-s.ensures
