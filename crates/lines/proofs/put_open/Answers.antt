-- The call, then its outcome.
use Rattle.lines.proofs.Puts.{put-more}
use Rattle.lines.specs.Line.{told}
use Rattle.lines.proofs.put_open.Goals as goal

pub returns-clause-put : goal.returns-clause-put
unfolding told
returns-clause-put c = put-more c.put_text-a.ensures c.put_opening.ensures.put
