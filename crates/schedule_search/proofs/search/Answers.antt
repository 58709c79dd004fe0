-- The whole search, in rows of its own.
use Rattle.schedule_search.proofs.Seeking.{by_value}
use Rattle.schedule_search.proofs.search.Goals as goal

pub returns : goal.returns
returns c = by_value _ _ _ _ _ _ c.seek.ensures
